-- Tables over the clocks of a description that are filled level by level: the entry of a clock over
-- those of its possible parents.
use Rattle.std.proofs.Common.{◌≡◌, ℕ, suc, ◌+◌, ◌<◌, Bool, true, false, ◌&&◌, List, [], ◌∷◌, ◌++◌, length, get_or, refl, ap, sym, ◌∙◌, arith, below_more}
use Rattle.std.specs.Prelude.{nat_lt}
use Rattle.std.specs.List.{All, list_all}
use Rattle.std.proofs.lemmas.Bool.{and_parts, both_ways, true_from_ne_false, ltb-true}
use Rattle.std.proofs.lemmas.List.{get_or_append_left, get_or_push, get_or_read, length-map, get_or-map}
use Rattle.std.proofs.lemmas.List.Folds.{list_all-map, list_all_at}
use Rattle.clk_base.specs.declared.clock.ClockDef.{ClockDef}
use Rattle.clk_base.specs.declared.clock.ClockId.{ClockId}
use Rattle.clk_base.specs.Description.{Description, nobody, parents_of, EachClock}
use Rattle.clk_base.specs.Levels.{ends_within}
use Rattle.clk_base.specs.Places.{places}
use Rattle.clk_base.specs.Tables.{flag_at, TellsEnds}
use Rattle.clk_base.specs.Valid.{has_its_parents}

-- places below a number are so at each place of the list
pub All-places : (n : ℕ) (clocks : List ClockId) → list_all (λ p. nat_lt p n) (places clocks) ≡ true → All (λ p. p.0 < n) clocks
All-places n clocks all k d lt =
    let each : list_all (λ (p : ClockId). nat_lt p.0 n) clocks ≡ true = sym (list_all-map (λ p. nat_lt p n) (λ (p : ClockId). p.0) clocks) ∙ all in
    ltb-true _ n (true_from_ne_false _ (λ (fails : nat_lt (get_or clocks k d).0 n ≡ false). both_ways _ (list_all_at (λ (p : ClockId). nat_lt p.0 n) clocks k d lt fails) each))

-- the possible parents of a clock are clocks
pub parents-below : (defs : Description) → EachClock defs (has_its_parents defs) → (c : ℕ) → c < length defs → list_all (λ p. nat_lt p (length defs)) (parents_of defs c) ≡ true
parents-below defs has c lt = (and_parts _ _ (has c lt)).1

-- the possible parents of the clock that was read
pub parents_read : (defs : Description) (i : ℕ) (item : ClockDef) (parents : List ℕ) → i < length defs → item ≡ get_or defs i item → parents ≡ item.parents → parents ≡ parents_of defs i
parents_read defs i item parents lt at same = same ∙ ap (λ (d : ClockDef). d.parents) (get_or_read defs i item lt at nobody)

-- so they have places in a table of all clocks
pub parents_inside : (defs : Description) (i n : ℕ) (item : ClockDef) (clocks : List ClockId) → EachClock defs (has_its_parents defs) → i < length defs → item ≡ get_or defs i item → places clocks ≡ item.parents → n ≡ length defs → All (λ p. p.0 < n) clocks
parents_inside defs i n item clocks has lt at same count =
    All-places n clocks
    (ap (λ m. list_all (λ p. nat_lt p m) (places clocks)) count
    ∙ (ap (list_all (λ p. nat_lt p (length defs))) (parents_read defs i item (places clocks) lt at same) ∙ parents-below defs has i lt))

-- and are as many as were read
pub parents_count : (defs : Description) (i : ℕ) (item : ClockDef) (clocks : List ClockId) → i < length defs → item ≡ get_or defs i item → places clocks ≡ item.parents → length clocks ≡ length (parents_of defs i)
parents_count defs i item clocks lt at same = sym (length-map clocks (λ (p : ClockId). p.0)) ∙ ap length (parents_read defs i item (places clocks) lt at same)

-- the place of the clock that was read
pub place_read : (clocks : List ClockId) (k : ℕ) (item : ClockId) → k < length clocks → item ≡ get_or clocks k item → get_or (places clocks) k 0 ≡ item.0
place_read clocks k item lt at = get_or-map (λ (p : ClockId). p.0) clocks k item 0 lt ∙ ap (λ (p : ClockId). p.0) (sym at)

-- a table with one entry more
pub entry_more : {X : Type 0} (P : ℕ → X → Type 0) (table : List X) (i : ℕ) (x d : X) → length table ≡ i → ((c : ℕ) → c < i → P c (get_or table c d)) → P i x → (c : ℕ) → c < i + 1 → P c (get_or (table ++ x ∷ []) c d)
entry_more P table i x d count old here =
    below_more (λ c. P c (get_or (table ++ x ∷ []) c d)) i
    (λ c lt. let at : get_or (table ++ x ∷ []) c d ≡ get_or table c d = get_or_append_left table (x ∷ []) d c (omega arith) in rw at (old c lt))
    (let at : get_or (table ++ x ∷ []) i d ≡ x = get_or_push table x d i count in rw at here)

list_all-same : (n : ℕ) (f g : ℕ → Bool) → ((c : ℕ) → c < n → f c ≡ g c) → (ps : List ℕ) → list_all (λ p. nat_lt p n) ps ≡ true → list_all f ps ≡ list_all g ps
list_all-same n f g same [] below = refl
list_all-same n f g same (p ∷ ps) below =
    let parts = and_parts _ _ below in
    ap (λ b. b && list_all f ps) (same p (ltb-true p n parts.0)) ∙ ap (λ b. g p && b) (list_all-same n f g same ps parts.1)

-- a table that asks the possible parents in one that tells of lines tells of lines of one clock more
pub TellsEnds-more : (defs : Description) (levels : ℕ) (above ends : List Bool) → EachClock defs (has_its_parents defs) → TellsEnds defs levels above → length ends ≡ length defs → ((c : ℕ) → c < length defs → flag_at ends c ≡ list_all (flag_at above) (parents_of defs c)) → TellsEnds defs (suc levels) ends
TellsEnds-more defs levels above ends has tells count asked = record {
  each = count;
  told = λ c lt. asked c lt ∙ list_all-same (length defs) (flag_at above) (ends_within (parents_of defs) levels) tells.told (parents_of defs c) (parents-below defs has c lt);
}
