-- What the step that comes next of a core's change in flight is to the change of the definitions.
use Rattle.std.specs.Prelude.{◌≡◌, ◌+◌, Bool, true, false, List, [], Option, Some, None, slice_get}
use Rattle.clk_base.specs.declared.call.Micro.{Micro}
use Rattle.clk_base.specs.declared.call.Micro.TheVariants as micro
use Rattle.clk_base.specs.declared.event.Event.TheVariants as event
use Rattle.clk_base.specs.declared.event.Turn.TheVariants as turn
use Rattle.clk_model.specs.State.{State, Change, NotifierRow, registered}
use Rattle.clk_model.specs.Step.{todo, taken}
use Rattle.clk_model.specs.Machine.{next}
use Rattle.clk_model.specs.Laws.Paced.{is_notice}
use Rattle.clk_flight.specs.Flights.{IsChange, own_step, comes_next}
use Rattle.notifiers.specs.Chains.{Tells}
use Rattle.core_parts.specs.InFlight.{may_seek}
use Rattle.core_parts.specs.Listed.{rows_from}
use Rattle.clk_machine.specs.Parts.{Parts}
use Rattle.clk_machine.specs.Stands.{Stands}

-- whether a step is neither a poll, which the bank answers, nor the end of the call
abbrev pub only_goes_on : Micro → Bool
only_goes_on (micro.Poll y) = false
only_goes_on micro.End = false
only_goes_on _ = true

-- the step is the first that the change has left to do
abbrev pub ComesFirst : Parts → Micro → Type 0
ComesFirst m step = (rows : List NotifierRow) (k : Change) → Tells m.chains rows → IsChange rows m.flight k → slice_get (todo k) 0 ≡ Some step

-- a raise or a lower that comes first finds no PLL: the machine only takes it, and counts its comings anew
pub record FindsNothing (m : Parts) (step : Micro) : Type 0 where
  pub first : ComesFirst m step
  pub seeks : may_seek m.flight.call (registered m.tree.clocks) step ≡ true
  pub taken_ : (s : State) (k : Change) → Stands m s → s.change ≡ Some k → IsChange s.notifiers m.flight k
      → next s m.flight.driver (event.Step step None) ≡ Some (record s { change = Some (record (taken k) { again = 0 }); steps = s.steps + 1 }, turn.Going)

-- a notice comes next, whoever its notifier is
pub record TellsNext (m : Parts) : Type 0 where
  pub notice : Micro
  pub next_ : comes_next (rows_from 0 m.chains) m.flight ≡ Some notice
  pub is : is_notice notice ≡ true

-- the step comes next: where none would, the end, which then no change has left to do
abbrev pub ComesNext : Parts → Option Micro → Type 0
ComesNext m (Some (micro.Notify kind c id old new)) = TellsNext m × ComesFirst m (micro.Notify kind c id old new)
ComesNext m (Some (micro.Fall y)) = (comes_next [] m.flight ≡ Some (micro.Fall y)) × ComesFirst m (micro.Fall y)
ComesNext m (Some micro.End) = ComesFirst m micro.End
ComesNext m None = ComesFirst m micro.End
ComesNext m (Some (micro.Raise x)) = (own_step m.flight ≡ Some (micro.Raise x)) × ComesFirst m (micro.Raise x)
ComesNext m (Some (micro.Poll y)) = (own_step m.flight ≡ Some (micro.Poll y)) × ComesFirst m (micro.Poll y)
ComesNext m (Some (micro.Lower x)) = (own_step m.flight ≡ Some (micro.Lower x)) × ComesFirst m (micro.Lower x)
ComesNext m (Some (micro.HoldPrepare x)) = (own_step m.flight ≡ Some (micro.HoldPrepare x)) × ComesFirst m (micro.HoldPrepare x)
ComesNext m (Some (micro.HoldEnable x)) = (own_step m.flight ≡ Some (micro.HoldEnable x)) × ComesFirst m (micro.HoldEnable x)
ComesNext m (Some (micro.DropEnable x)) = (own_step m.flight ≡ Some (micro.DropEnable x)) × ComesFirst m (micro.DropEnable x)
ComesNext m (Some (micro.DropPrepare x)) = (own_step m.flight ≡ Some (micro.DropPrepare x)) × ComesFirst m (micro.DropPrepare x)
ComesNext m (Some (micro.Relink c p)) = (own_step m.flight ≡ Some (micro.Relink c p)) × ComesFirst m (micro.Relink c p)
ComesNext m (Some (micro.WriteMux c place)) = (own_step m.flight ≡ Some (micro.WriteMux c place)) × ComesFirst m (micro.WriteMux c place)
ComesNext m (Some (micro.Visit c)) = (own_step m.flight ≡ Some (micro.Visit c)) × ComesFirst m (micro.Visit c)
ComesNext m (Some (micro.Register c)) = (own_step m.flight ≡ Some (micro.Register c)) × ComesFirst m (micro.Register c)
ComesNext m (Some (micro.Settle c)) = (own_step m.flight ≡ Some (micro.Settle c)) × ComesFirst m (micro.Settle c)
ComesNext m (Some (micro.Close c)) = (own_step m.flight ≡ Some (micro.Close c)) × ComesFirst m (micro.Close c)
ComesNext m (Some (micro.Unpower c)) = (own_step m.flight ≡ Some (micro.Unpower c)) × ComesFirst m (micro.Unpower c)
