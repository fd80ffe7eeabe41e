-- A call that goes on.
use Rattle.std.specs.Prelude.{◌≡◌, ℕ, ◌+◌, ◌-◌, List, true, Some, sum_by, slice_set, slice_index}
use Rattle.clk_base.specs.declared.call.Micro.{Micro}
use Rattle.clk_base.specs.declared.call.Sleeping.{Sleeping}
use Rattle.clk_model.specs.State.{State, registered}
use Rattle.clk_model.specs.Begin.{change_of}
use Rattle.clk_model.specs.Script.{plls}
use Rattle.clk_flight.specs.LeftOver.{step_weight}
use Rattle.counts_core.specs.Counted.{CountState}
use Rattle.core_parts.specs.Listed.{rows_from}
use Rattle.clk_machine.specs.Parts.{Parts, steps_left}
use Rattle.clk_machine.specs.Stands.{Stands, Remains}

-- a call of a driver goes on with a script, by parts that stood for a state; this is done to the state, and a credit is spent
pub record StartsCall (old : Parts) (driver : ℕ) (what : Sleeping) (steps : List Micro) (does : State → State) (new : Parts) : Type 0 where
  pub remains : Remains old new
  pub spent : new.spent ≡ old.spent + 1
  pub locks : new.window.locks ≡ old.window.locks
  pub rows : (c : ℕ) → registered new.tree.clocks c ≡ registered old.tree.clocks c
  pub going : new.flight.going ≡ true
  pub driver_ : new.flight.driver ≡ driver
  pub left : steps_left new ≡ sum_by (step_weight (rows_from 0 old.chains) (plls old.desc.defs)) steps
  pub stands : (s : State) → Stands old s → Stands new (record (does s) { change = Some (change_of s driver what steps); spent = s.spent + 1 })

-- the counts where a clock has one prepare less
abbrev pub released : CountState → ℕ → CountState
released counts c = record counts { prepares = slice_set counts.prepares c (slice_index counts.prepares c - 1) }
