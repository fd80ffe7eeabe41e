-- What is added to the clocks that a change tells, one by one.
use Rattle.std.proofs.Common.{◌≡◌, ℕ, ◌+◌, ◌≤◌, ◌++◌, not, Bool, true, false, cond, List, [], ◌∷◌, Some, refl, sym, ap, ◌∙◌, arith, length, map, filter, drop, append_assoc, append-nil, nat_eq}
use Rattle.std.specs.Prelude.{slice_get, slice_index}
use Rattle.clk_tree.specs.declared.walk_rates.WalkRate.{WalkRate}
use Rattle.clk_tree.specs.Plans.{ClockRate, rates_of}
use Rattle.clk_tree.proofs.Along.{none_left}
use Rattle.change_walk.proofs.Rests.{rest_of}
use Rattle.change_walk.specs.Changes.{changed_to}
use Rattle.change_walk.specs.declared.changes.Changed.{Changed}
use Rattle.core_parts.specs.Told.{told_clocks}

-- a clock of a walk with its rate
abbrev rate_of : WalkRate → ClockRate
rate_of w = record { clock = w.clock.0; rate = w.rate }

length-rates : (rates : List WalkRate) → length (rates_of rates) ≡ length rates
length-rates [] = refl
length-rates (w ∷ rates) = let more = length-rates rates in omega arith

-- ---- clocks that are told

told_first : (count : ℕ → ℕ) (before : List ℕ) (r : ClockRate) (rs : List ClockRate) → told_clocks count before (r ∷ rs) ≡ told_clocks count before (r ∷ []) ++ told_clocks count before rs
told_first count before r rs = by (not (nat_eq (count r.clock) 0)) where
  told : ClockRate → Changed
  told = changed_to (slice_index before)

  rest : List ClockRate
  rest = filter (λ r. not (nat_eq (count r.clock) 0)) rs

  by : (t : Bool) → map told (cond t (r ∷ rest) rest) ≡ map told (cond t (r ∷ []) []) ++ map told rest
  by true = refl
  by false = refl

pub told_on : (count : ℕ → ℕ) (before : List ℕ) (rates : List WalkRate) (k : ℕ) (w : WalkRate) (items new whole : List Changed) → slice_get rates k ≡ Some w
    → new ≡ items ++ told_clocks count before (rates_of (w ∷ [])) → items ++ told_clocks count before (drop k (rates_of rates)) ≡ whole
    → new ++ told_clocks count before (drop (k + 1) (rates_of rates)) ≡ whole
told_on count before rates k w items new whole at added all =
    ap (λ (ns : List Changed). ns ++ told_clocks count before (drop (k + 1) (rates_of rates))) added
    ∙ append_assoc items (told_clocks count before (rate_of w ∷ [])) (told_clocks count before (drop (k + 1) (rates_of rates)))
    ∙ ap (λ (ns : List Changed). items ++ ns) (sym (ap (told_clocks count before) (rest_of rate_of rates k w at) ∙ told_first count before (rate_of w) (drop (k + 1) (rates_of rates)))) ∙ all

pub told_end : (count : ℕ → ℕ) (before : List ℕ) (rates : List WalkRate) (k : ℕ) (items whole : List Changed) → length rates ≤ k → items ++ told_clocks count before (drop k (rates_of rates)) ≡ whole → items ≡ whole
told_end count before rates k items whole past all =
    sym (append-nil items)
    ∙ ap (λ (rs : List ClockRate). items ++ told_clocks count before rs) (sym (none_left (rates_of rates) k (let same = length-rates rates in omega arith))) ∙ all
