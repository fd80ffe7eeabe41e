-- Laws on tables of PLLs that are filled level by level.
use Rattle.std.proofs.Common.{◌≡◌, ℕ, zero, suc, ◌+◌, ◌<◌, ◌≤◌, max, Bool, true, false, cond, List, [], ◌∷◌, map, refl, ap, ◌∙◌, inl, inr, arith, length}
use Rattle.std.specs.Prelude.{fold, slice_index, nat_lt, if◌then◌else◌, replicate}
use Rattle.std.specs.List.{list_all}
use Rattle.std.proofs.lemmas.Bool.{cases_lt, and_parts, ltb-true}
use Rattle.std.proofs.lemmas.List.{get_or_past, get_or-replicate}
use Rattle.clk_base.specs.declared.clock.ClockDef.{ClockDef}
use Rattle.clk_base.specs.declared.clock.ClockId.{ClockId}
use Rattle.clk_base.specs.declared.clock.Kind.{Kind}
use Rattle.clk_base.specs.Description.{Description, def_of, kind_of, parents_of}
use Rattle.clk_base.specs.Levels.{depth}
use Rattle.clk_base.specs.Places.{places}
use Rattle.clk_base.specs.Valid.{IsValid}
use Rattle.clk_base.proofs.Tabled.{parents-below}
use Rattle.kind_math.specs.Choices.{greatest_of}
use Rattle.clk_model.specs.Kinds.{is_pll}
use Rattle.clk_model.specs.Lists.{count_from}
use Rattle.clk_model.specs.Script.{plls_within, plls}
use Rattle.clk_tree.specs.PllCounts.{TellsPlls}

-- ---- the greatest of several

pub fold_max_most : (most a : ℕ) (f : ℕ → ℕ) (xs : List ℕ) → a ≤ most → ((x : ℕ) → f x ≤ most) → fold max a (map f xs) ≤ most
fold_max_most most a f [] le each = le
fold_max_most most a f (x ∷ xs) le each = let here = each x in fold_max_most most (max a (f x)) f xs (omega arith) each

-- on lines of so many clocks there are at most as many PLLs
pub few_plls : (defs : Description) (levels c : ℕ) → plls_within defs levels c ≤ levels
unfolding greatest_of
few_plls defs zero c = omega arith
few_plls defs (suc levels) c =
    let above : fold max 0 (map (plls_within defs levels) (parents_of defs c)) ≤ levels = fold_max_most levels 0 (plls_within defs levels) (parents_of defs c) (omega arith) (λ p. few_plls defs levels p) in
    own (is_pll (kind_of defs c)) (fold max 0 (map (plls_within defs levels) (parents_of defs c))) above where
      own : (t : Bool) (n : ℕ) → n ≤ levels → cond t 1 0 + n ≤ suc levels
      own true n le = omega arith
      own false n le = omega arith

-- ---- tables

-- the entries of a table are small
pub small_entries : (defs : Description) (levels : ℕ) (counts : List ℕ) (c : ℕ) → TellsPlls defs levels counts → slice_index counts c ≤ levels
small_entries defs levels counts c tells =
    elim (cases_lt c (length counts)) [
      | inl inside ↦
          let each = tells.each in
          let told : slice_index counts c ≡ plls_within defs levels c = tells.told c (omega arith) in
          let few = few_plls defs levels c in
          omega arith
      | inr beyond ↦ let none : slice_index counts c ≡ 0 = get_or_past counts c 0 beyond in omega arith
    ]

-- without levels there is none
pub no_plls : (defs : Description) (counts : List ℕ) → counts ≡ replicate (length defs) 0 → length counts ≡ length defs → TellsPlls defs 0 counts
no_plls defs counts is each = record {
  each = each;
  told = λ c lt. ap (λ (xs : List ℕ). slice_index xs c) is ∙ get_or-replicate (length defs) c 0 0 lt;
}

-- the numbers of the possible parents
asked_alike : (n : ℕ) (f g : ℕ → ℕ) → ((p : ℕ) → p < n → f p ≡ g p) → (ps : List ℕ) → list_all (λ p. nat_lt p n) ps ≡ true → map f ps ≡ map g ps
asked_alike n f g same [] below = refl
asked_alike n f g same (p ∷ ps) below =
    let parts = and_parts _ _ below in
    ap (λ (x : ℕ). x ∷ map f ps) (same p (ltb-true p n parts.0)) ∙ ap (λ (xs : List ℕ). g p ∷ xs) (asked_alike n f g same ps parts.1)

by_place : (f : ℕ → ℕ) (clocks : List ClockId) → map (λ (p : ClockId). f p.0) clocks ≡ map f (places clocks)
by_place f [] = refl
by_place f (p ∷ ps) = ap (λ (xs : List ℕ). f p.0 ∷ xs) (by_place f ps)

-- an entry over those of the possible parents tells of one clock more
pub entry_tells : (words : ℕ) (defs : Description) (levels c : ℕ) (above : List ℕ) (parents : List ClockId) (def : ClockDef) (most entry : ℕ)
    → IsValid words defs → c < length defs → TellsPlls defs levels above → def ≡ def_of defs c → places parents ≡ def.parents
    → most ≡ greatest_of (map (λ (p : ClockId). slice_index above p.0) parents) → entry ≡ (if is_pll def.kind then 1 else 0) + most
    → entry ≡ plls_within defs (suc levels) c
entry_tells words defs levels c above parents def most entry valid lt tells is from over own =
    own
    ∙ ap (λ (k : Kind). (if is_pll k then 1 else 0) + most) (ap (λ (d : ClockDef). d.kind) is)
    ∙ ap (λ (n : ℕ). (if is_pll (kind_of defs c) then 1 else 0) + n)
    (over
    ∙ ap greatest_of
    (by_place (slice_index above) parents
    ∙ ap (λ (ps : List ℕ). map (slice_index above) ps) (from ∙ ap (λ (d : ClockDef). d.parents) is)
    ∙ asked_alike (length defs) (slice_index above) (plls_within defs levels) tells.told (parents_of defs c) (parents-below defs valid.parents c lt)))

-- ---- all clocks

table_is : (f : ℕ → ℕ) (counts : List ℕ) (n k : ℕ) → length counts ≡ n → ((i : ℕ) → i < n → slice_index counts i ≡ f (k + i)) → counts ≡ map f (count_from k n)
table_is f [] zero k each told = refl
table_is f [] (suc n) k each told = absurd (omega (arith, each))
table_is f (x ∷ xs) zero k each told = absurd (omega (arith, each))
table_is f (x ∷ xs) (suc n) k each told =
    let here : x ≡ f k = told 0 (omega arith) ∙ ap f (let e : k + 0 ≡ k = omega arith in e) in
    let len : length xs ≡ n = omega (arith, each) in
    ap (λ (y : ℕ). y ∷ xs) here
    ∙ ap (λ (ys : List ℕ). f k ∷ ys) (table_is f xs n (suc k) len (λ i lt. told (suc i) (omega arith) ∙ ap f (let e : k + suc i ≡ suc k + i = omega arith in e)))

-- the greatest entry of the whole table is the number of PLLs of the description
pub greatest_tells : (defs : Description) (levels : ℕ) (counts : List ℕ) (most : ℕ) → levels ≡ depth → TellsPlls defs levels counts → most ≡ greatest_of counts → most ≡ plls defs
unfolding plls
greatest_tells defs levels counts most deep tells is =
    is ∙ ap greatest_of (table_is (plls_within defs levels) counts (length defs) 0 tells.each (λ i lt. tells.told i lt ∙ ap (plls_within defs levels) (let e : i ≡ 0 + i = omega arith in e)))
    ∙ ap (λ (n : ℕ). greatest_of (map (plls_within defs n) (count_from 0 (length defs)))) deep
