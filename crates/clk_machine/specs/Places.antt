-- What a get and the adding of a notifier need, made before the call: the place of a handle, and a chain.
use Rattle.std.specs.Prelude.{◌≡◌, ℕ, ◌<◌, List, Option, None, Some}
use Rattle.clk_base.specs.declared.call.Sleeping.TheVariants as call
use Rattle.clk_base.specs.declared.event.Event.TheVariants as event
use Rattle.clk_base.specs.declared.event.Reply.TheVariants as reply
use Rattle.clk_base.specs.declared.event.Turn.TheVariants as turn
use Rattle.clk_base.specs.declared.handle.Handle.{Handle}
use Rattle.clk_model.specs.Machine.{next}
use Rattle.clk_model.specs.State.{State}
use Rattle.clk_model.specs.declared.row.HandleRow.{HandleRow}
use Rattle.notifiers.specs.Chains.{row_on, IsWith}
use Rattle.notifiers.specs.declared.notifier.Notifier.{Notifier}
use Rattle.clk_machine.specs.Parts.{Parts, own_in}
use Rattle.clk_machine.specs.Sound.{IsSound}
use Rattle.clk_machine.specs.Stands.{Stands}

-- the parts with a place for a handle of this clock, or with none
abbrev pub placed : Parts → Option ℕ → Parts
placed m place = record m { table = record m.table { place = place } }

-- a driver's notifier is added in no sound state that the parts stand for
abbrev pub NeverAdds : Parts → ℕ → Handle → Notifier → Type 0
NeverAdds m d h n = (s t : State) → Stands m s → IsSound m.window.size s → next s d (event.Begin (call.NotifierAdd h n.id n.priority n.policy)) ≡ Some (t, turn.Done reply.Fine) → ⊥

-- a driver's notifier can be added: the handle is the driver's own, a credit is left, and the chain is that of its clock with the notifier more
pub record CanAddNotifier (m : Parts) (d : ℕ) (h : Handle) (n : Notifier) (chain : List Notifier) : Type 0 where
  pub row : HandleRow
  pub own : own_in m.table.handles d h.number ≡ Some row
  pub credit : m.spent < m.credits
  pub with_ : IsWith m.chains (row_on row.clock.0 n) chain

-- a chain is what a driver's notifier can be added by, and without one it is never added
abbrev pub IsReadyToAdd : Parts → ℕ → Handle → Notifier → Option (List Notifier) → Type 0
IsReadyToAdd m d h n None = NeverAdds m d h n
IsReadyToAdd m d h n (Some chain) = CanAddNotifier m d h n chain
