-- The work of clocks where every amount from the first that is too much on counts as that.
use Rattle.std.proofs.Common.{◌≡◌, ℕ, zero, suc, ◌+◌, ◌*◌, ◌<◌, ◌≤◌, min, Bool, true, false, List, [], ◌∷◌, length, get_or, slice_index, refl, ap, sym, ◌∙◌, inl, inr, ◌⊎◌, arith}
use Rattle.std.specs.Prelude.{nat_lt}
use Rattle.std.specs.List.{list_all, sum_by}
use Rattle.std.proofs.lemmas.Bool.{and_parts, cases_lt, ltb-true, leb-true}
use Rattle.std.proofs.lemmas.List.{get_or_read}
use Rattle.std.proofs.lemmas.List.Sums.{sum_by-cons}
use Rattle.std.proofs.lemmas.Nat.{mul-le}
use Rattle.clk_base.specs.declared.clock.ClockDef.{ClockDef}
use Rattle.clk_base.specs.declared.clock.ClockId.{ClockId}
use Rattle.clk_base.specs.declared.clock.Kind.{Kind}
use Rattle.clk_base.specs.declared.clock.Kind.TheVariants.{FixedRate, Factor, Gate, Mux, Divider, Pll}
use Rattle.clk_base.specs.Description.{Description, nobody, def_of, kind_of, parents_of, EachClock}
use Rattle.clk_base.specs.Flags.{has_flag, sets_rate_parent}
use Rattle.clk_base.specs.Places.{places}
use Rattle.clk_base.specs.Tables.{too_much, TellsWork}
use Rattle.clk_base.specs.Valid.{has_its_parents, keeps_counts}
use Rattle.clk_base.specs.Work.{work_of, work_within, divisor_count}
use Rattle.clk_base.proofs.Tabled.{parents-below, parents_read, parents_count}

-- a clock has few possible parents
pub parents_few : (defs : Description) → EachClock defs (keeps_counts 0 defs) → (c : ℕ) → c < length defs → length (parents_of defs c) ≤ 64
parents_few defs counts c lt = leb-true (length (parents_of defs c)) 64 (and_parts _ _ (counts c lt)).1

-- two amounts that are equal, or both at least this one
abbrev pub AreAlike : ℕ → ℕ → ℕ → Type 0
AreAlike most a b = (a ≡ b) ⊎ ((most ≤ a) × (most ≤ b))

-- sums of amounts of which one is cut
pub sums_alike : (most n : ℕ) (f g : ℕ → ℕ) → ((c : ℕ) → c < n → g c ≡ min (f c) most) → (ps : List ℕ) → list_all (λ p. nat_lt p n) ps ≡ true → AreAlike most (sum_by f ps) (sum_by g ps)
sums_alike most n f g cut [] below = inl refl
sums_alike most n f g cut (p ∷ ps) below =
    let parts = and_parts _ _ below in
    let here : g p ≡ min (f p) most = cut p (ltb-true p n parts.0) in
    let first : sum_by f (p ∷ ps) ≡ f p + sum_by f ps = sum_by-cons f p ps in
    let second : sum_by g (p ∷ ps) ≡ g p + sum_by g ps = sum_by-cons g p ps in
    elim (cases_lt most (f p)) [
      | inl more ↦ inr (omega arith, omega arith)
      | inr less ↦ elim (sums_alike most n f g cut ps parts.1) [
        | inl same ↦ inl (omega arith)
        | inr large ↦ inr (let a : most ≤ sum_by f ps = large.0 in omega arith, let b : most ≤ sum_by g ps = large.1 in omega arith)
      ]
    ]

more_alike : (most a b : ℕ) → AreAlike most a b → AreAlike most (1 + a) (1 + b)
more_alike most a b (inl same) = inl (omega arith)
more_alike most a b (inr large) = inr (let x : most ≤ a = large.0 in omega arith, let y : most ≤ b = large.1 in omega arith)

product_large : (most count a : ℕ) → most ≤ a → most ≤ 1 + suc count * (1 + a)
product_large most count a large =
    let le : 1 * (1 + a) ≤ suc count * (1 + a) = omega (arith, mul-le 1 (1 + a) (suc count) (1 + a) (omega arith) (omega arith)) in
    omega arith

products_alike : (most count a b : ℕ) → AreAlike most a b → AreAlike most (1 + count * (1 + a)) (1 + count * (1 + b))
products_alike most count a b (inl same) = inl (ap (λ n. 1 + count * (1 + n)) same)
products_alike most zero a b (inr large) = inl (omega arith)
products_alike most (suc count) a b (inr large) = inr (product_large most count a large.0, product_large most count b large.1)

works_alike : (most : ℕ) (kind : Kind) (passes_on : Bool) (parents a b : ℕ) → AreAlike most a b → AreAlike most (work_of kind passes_on parents a) (work_of kind passes_on parents b)
works_alike most (FixedRate rate) passes_on parents a b alike = inl refl
works_alike most (Factor mult div) true parents a b alike = more_alike most a b alike
works_alike most (Factor mult div) false parents a b alike = inl refl
works_alike most (Gate word bit set_to_disable) true parents a b alike = more_alike most a b alike
works_alike most (Gate word bit set_to_disable) false parents a b alike = inl refl
works_alike most (Mux word shift width read_only) true parents a b alike = more_alike most a b alike
works_alike most (Mux word shift width read_only) false parents a b alike = inl refl
works_alike most (Divider word shift width one_based power_of_two) true parents a b alike = products_alike most (divisor_count width one_based) a b alike
works_alike most (Divider word shift width one_based power_of_two) false parents a b alike = inl refl
works_alike most (Pll word shift width power_word power_bit least top m) passes_on parents a b alike = inl refl

cut_alike : (most a b : ℕ) → AreAlike most a b → min b most ≡ min a most
cut_alike most a b (inl same) = omega arith
cut_alike most a b (inr large) = (let x : most ≤ a = large.0 in let y : most ≤ b = large.1 in omega arith)

-- the work of a clock over a table
abbrev pub work_over : Description → List ℕ → ℕ → ℕ
work_over defs above c =
    min (work_of (kind_of defs c) (sets_rate_parent defs c) (length (parents_of defs c)) (sum_by (slice_index above) (parents_of defs c))) too_much

sum_by-places : (f : ℕ → ℕ) (clocks : List ClockId) → sum_by f (places clocks) ≡ sum_by (λ p. f p.0) clocks
sum_by-places f [] = refl
sum_by-places f (p ∷ clocks) =
    omega (arith, sum_by-cons f p.0 (places clocks), sum_by-cons (λ (q : ClockId). f q.0) p clocks, sum_by-places f clocks)

-- the work of the clock that was read
pub work_read : (defs : Description) (above : List ℕ) (i : ℕ) (item : ClockDef) (clocks : List ClockId) (passes_on : Bool) (sum : ℕ) → i < length defs → item ≡ get_or defs i item → places clocks ≡ item.parents → passes_on ≡ has_flag item.flags 4 → sum ≡ sum_by (λ p. slice_index above p.0) clocks → work_of item.kind passes_on (length clocks) sum ≡ work_of (kind_of defs i) (sets_rate_parent defs i) (length (parents_of defs i)) (sum_by (slice_index above) (parents_of defs i))
work_read defs above i item clocks passes_on sum lt at same flag total =
    let read : item ≡ def_of defs i = get_or_read defs i item lt at nobody in
    let flagged : passes_on ≡ sets_rate_parent defs i = flag ∙ ap (λ (d : ClockDef). has_flag d.flags 4) read in
    let count : length clocks ≡ length (parents_of defs i) = parents_count defs i item clocks lt at same in
    let summed : sum ≡ sum_by (slice_index above) (parents_of defs i) =
    total ∙ (sym (sum_by-places (slice_index above) clocks) ∙ ap (sum_by (slice_index above)) (parents_read defs i item (places clocks) lt at same)) in
    ap (λ (d : ClockDef). work_of d.kind passes_on (length clocks) sum) read
    ∙ (ap (λ b. work_of (kind_of defs i) b (length clocks) sum) flagged
    ∙ (ap (λ n. work_of (kind_of defs i) (sets_rate_parent defs i) n sum) count
    ∙ ap (λ n. work_of (kind_of defs i) (sets_rate_parent defs i) (length (parents_of defs i)) n) summed))

-- a table over one that tells of the work over lines tells of the work over lines of one clock more
pub TellsWork-more : (defs : Description) (levels : ℕ) (above works : List ℕ) → EachClock defs (has_its_parents defs) → TellsWork defs levels above → length works ≡ length defs → ((c : ℕ) → c < length defs → slice_index works c ≡ work_over defs above c) → TellsWork defs (suc levels) works
TellsWork-more defs levels above works has tells count over = record {
  each = count;
  told = λ c lt.
      over c lt
      ∙ cut_alike too_much _ _ (works_alike too_much (kind_of defs c) (sets_rate_parent defs c) (length (parents_of defs c)) _ _
      (sums_alike too_much (length defs) (work_within defs levels) (slice_index above) tells.told (parents_of defs c) (parents-below defs has c lt)));
}
