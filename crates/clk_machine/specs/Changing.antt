-- A change of rate or parent that goes on.
use Rattle.std.specs.Prelude.{◌≡◌, ℕ, ◌+◌, List, true, Some, sum_by, slice_index}
use Rattle.std.specs.List.{AllByRecursion}
use Rattle.clk_model.specs.Script.{plls}
use Rattle.clk_model.specs.State.{State, Change, NotifierRow, registered}
use Rattle.clk_flight.specs.declared.start.Start.{Start}
use Rattle.clk_flight.specs.Begun.{StartsAs}
use Rattle.clk_flight.specs.LeftOver.{step_weight}
use Rattle.core_parts.specs.Course.{CourseState}
use Rattle.core_parts.specs.declared.draft.Draft.{Draft}
use Rattle.core_parts.specs.Listed.{rows_from}
use Rattle.clk_machine.specs.Parts.{Parts, steps_left}
use Rattle.clk_machine.specs.Stands.{Stands, Remains}

-- the course that a draft has: the chain of its plan, and the clocks that it tells
abbrev pub course_of : Draft → CourseState
course_of draft = record { chain = draft.planning.plan.chain; notified = draft.told.items }

-- a change begins as a flight takes it where these are the notifiers, along this course
pub record BeginsAlong (notifiers : List NotifierRow) (start : Start) (course : CourseState) (k : Change) : Type 0 where
  pub starts : StartsAs notifiers start k
  pub chain : k.chain ≡ course.chain
  pub rates : AllByRecursion (λ n. (n.before ≡ slice_index k.before n.clock.0) × (n.after ≡ slice_index k.outcome n.clock.0)) course.notified

-- a change of a rate or a parent goes on so, by parts that stood for a state, and a credit is spent
pub record StartsChange (old : Parts) (start : Start) (course : CourseState) (new : Parts) : Type 0 where
  pub remains : Remains old new
  pub spent : new.spent ≡ old.spent + 1
  pub locks : new.window.locks ≡ old.window.locks
  pub rows : (c : ℕ) → registered new.tree.clocks c ≡ registered old.tree.clocks c
  pub table : new.table ≡ old.table
  pub going : new.flight.going ≡ true
  pub driver_ : new.flight.driver ≡ start.driver
  pub left : steps_left new ≡ sum_by (step_weight (rows_from 0 old.chains) (plls old.desc.defs)) start.script.items + start.extra
  pub stands : (s : State) (k : Change) → Stands old s → BeginsAlong s.notifiers start course k → Stands new (record s { change = Some k; spent = s.spent + 1 })
