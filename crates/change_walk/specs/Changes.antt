-- The clocks whose rate a plan changes, told from the rates of its walk alone.
use Rattle.std.specs.Prelude.{ℕ, ◌==◌, ◌&&◌, ◌++◌, List, [], ◌∷◌, Bool, true, not, if◌then◌else◌, Option}
use Rattle.clk_model.specs.declared.row.ClockRow.{ClockRow}
use Rattle.clk_model.specs.Chain.{clock_id}
use Rattle.clk_model.specs.Lists.{is_at}
use Rattle.clk_model.specs.State.{ChainStep, link_in}
use Rattle.clk_tree.specs.Plans.{ClockRate}
use Rattle.change_walk.specs.declared.changes.Changed.{Changed}
use Rattle.change_walk.specs.declared.changes.Passed.{Passed}

-- the parent that a clock will have: the planned one, or its link where the chain hasn't the clock
abbrev pub parent_after : List ClockRow → List ChainStep → ℕ → Option ℕ
parent_after clocks [] c = link_in clocks c
parent_after clocks (k ∷ ks) c = if k.clock == c then k.parent else parent_after clocks ks c

-- the clocks that were passed on the way down, the last one first, from this parent on
abbrev pub back_to : Option ℕ → List Passed → List Passed
back_to parent [] = []
back_to parent (p ∷ ps) = if is_at p.clock.0 parent then p ∷ ps else back_to parent ps

-- whether the last of the clocks that were passed is this parent, or none was passed
abbrev pub is_back : Option ℕ → List Passed → Bool
is_back parent [] = true
is_back parent (p ∷ ps) = is_at p.clock.0 parent

-- whether all that were passed change, which the last of them tells
abbrev pub changes_below : List Passed → Bool
changes_below [] = true
changes_below (p ∷ ps) = p.changes

-- whether the rate of a clock changes with those of all that were passed
abbrev pub changes : (ℕ → ℕ) → List Passed → ClockRate → Bool
changes before passed r = changes_below passed && not (r.rate == before r.clock)

-- a clock with its rate before and its rate in the outcome
abbrev pub changed_to : (ℕ → ℕ) → ClockRate → Changed
changed_to before r = record { clock = clock_id r.clock; before = before r.clock; after = r.rate }

-- the clocks of a walk whose rates change, where each clock has a parent after the plan and a rate before, and these were passed
abbrev pub changed_along : (ℕ → Option ℕ) → (ℕ → ℕ) → List Passed → List ClockRate → List Changed
changed_along up before passed [] = []
changed_along up before passed (r ∷ rs) =
    let above = back_to (up r.clock) passed in
    let here = changes before above r in
    (if here then changed_to before r ∷ [] else [])
    ++ changed_along up before (record { clock = clock_id r.clock; changes = here } ∷ above) rs
