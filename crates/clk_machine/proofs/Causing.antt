-- What an entry that refuses leaves.
use Rattle.std.proofs.Common.{◌≡◌, ℕ, true, refl}
use Rattle.clk_base.specs.declared.event.Event.{Event}
use Rattle.clk_base.specs.declared.event.Reply.{Reply}
use Rattle.clk_base.specs.declared.event.Reply.TheVariants as reply
use Rattle.clk_base.specs.declared.event.Turn.{Turn}
use Rattle.clk_base.specs.declared.event.Turn.TheVariants as turn
use Rattle.clk_model.specs.Journal.{slotless, is_paid}
use Rattle.clk_model.specs.Laws.Causes.{is_refusal, LeavesRefused}
use Rattle.clk_model.proofs.RefusalLaws.{refused_keeps}
use Rattle.clk_machine.specs.Run.{Run, now_of, Appends}

slotless_refusal : (r : Reply) → is_refusal (turn.Done r) ≡ true → is_refusal (slotless (turn.Done r)) ≡ true
slotless_refusal reply.Fine h = absurd cc
slotless_refusal reply.Warn h = absurd cc
slotless_refusal reply.Yes h = absurd cc
slotless_refusal reply.No h = absurd cc
slotless_refusal (reply.Handle x) h = absurd cc
slotless_refusal (reply.Rate x) h = absurd cc
slotless_refusal (reply.Clock x) h = absurd cc
slotless_refusal (reply.Refused x) h = refl

-- an entry that refuses leaves what it found
pub appends_refused : (old new : Run) (d : ℕ) (e : Event) (r : Reply) → Appends old d e (turn.Done r) new → is_paid e ≡ true → old.told ≡ true
    → LeavesRefused (turn.Done r) (now_of old) (now_of new)
appends_refused old new d e r appends paid told refuses =
    refused_keeps (now_of old) (now_of new) d e (slotless (turn.Done r)) paid (appends.step told) (slotless_refusal r refuses)

-- so does one that may go on
pub turn_refused : (old new : Run) (d : ℕ) (e : Event) (t : Turn) → Appends old d e t new → is_paid e ≡ true → old.told ≡ true → LeavesRefused t (now_of old) (now_of new)
turn_refused old new d e turn.Going appends paid told refuses = absurd cc
turn_refused old new d e (turn.Done r) appends paid told refuses = appends_refused old new d e r appends paid told refuses
