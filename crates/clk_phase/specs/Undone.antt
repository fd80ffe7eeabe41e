-- What a forward command that fails leaves of the driver's handles, in the machine of clocks.
use Rattle.std.specs.Prelude.{◌≡◌, ◌⊎◌, ℕ, ◌==◌, List, [], ◌∷◌, Bool, true, false, Option, Some, None, slice_get}
use Rattle.std.specs.List.{list_any}
use Rattle.clk_base.specs.declared.call.Sleeping.TheVariants as call
use Rattle.clk_base.specs.declared.clock.ClockId.{ClockId}
use Rattle.clk_base.specs.declared.event.Entry.{Entry}
use Rattle.clk_base.specs.declared.event.Errno.TheVariants as errno
use Rattle.clk_base.specs.declared.event.Event.{Event}
use Rattle.clk_base.specs.declared.event.Event.TheVariants as event
use Rattle.clk_base.specs.declared.event.Reply.{Reply}
use Rattle.clk_base.specs.declared.event.Reply.TheVariants as reply
use Rattle.clk_base.specs.declared.event.Turn.{Turn}
use Rattle.clk_base.specs.declared.event.Turn.TheVariants as turn
use Rattle.clk_base.specs.declared.handle.Handle.{Handle}
use Rattle.clk_base.specs.Description.{Description}
use Rattle.reg_bank.specs.Registers.{Registers}
use Rattle.clk_model.specs.State.{State}
use Rattle.clk_model.specs.Begin.{own_handle}
use Rattle.clk_model.specs.Journal.{Legal, replay, own, opening}
use Rattle.clk_model.specs.Tier.{is_step}
use Rattle.clk_phase.specs.declared.bulk_call.BulkItem.{BulkItem}
use Rattle.clk_phase.specs.declared.bulk_call.BulkKind.{BulkKind}
use Rattle.clk_phase.specs.declared.bulk_call.BulkKind.TheVariants as kind
use Rattle.clk_phase.specs.declared.bulk_call.BulkStep.{BulkStep}
use Rattle.clk_phase.specs.declared.bulk_call.BulkStep.TheVariants as step
use Rattle.clk_phase.specs.Bulk.{Made, is_forward, IsBulk}
use Rattle.clk_phase.specs.Going.{Goes}

-- the event that a call of a command is, or begins with
abbrev pub event_of : BulkStep → Event
event_of (step.Enable h) = event.Enable h.number
event_of (step.Disable h) = event.Disable h.number
event_of (step.Call what) = event.Begin what

-- the steps after an entry with this turn: one is made as long as the call goes on, and the last answers so
abbrev pub AreSteps : Turn → List Entry → Reply → Type 0
AreSteps now [] r = now ≡ turn.Done r
AreSteps now (e ∷ es) r = (now ≡ turn.Going) × (is_step e.event ≡ true) × AreSteps e.turn es r

-- the entries of one whole call, answered so
abbrev pub AreWholeCall : Event → List Entry → Reply → Type 0
AreWholeCall call [] r = ⊥
AreWholeCall call (e ∷ es) r = (e.event ≡ call) × AreSteps e.turn es r

-- a legal journal leads from one state to the other, in which the driver's entries are those of this call, answered so; any entries of
-- other drivers stand between
pub record MakesCall (d : ℕ) (s : State) (call_ : BulkStep) (r : Reply) (t : State) : Type 0 where
  pub entries : List Entry
  pub legal : Legal s entries
  pub leads : replay s entries ≡ t
  pub whole : AreWholeCall (event_of call_) (own entries d) r

-- whether a call is an unprepare of the handle of this number that found no room for its steps
abbrev pub lacks_room : ℕ → Made → Bool
lacks_room n m = of_call m.step m.reply where
  of_call : BulkStep → Reply → Bool
  of_call (step.Call (call.Unprepare h)) (reply.Refused errno.ENOSPC) = h.number == n
  of_call _ _ = false

-- whatever the other drivers do meanwhile, after a forward command that failed the driver's handle of each number is as it was before,
-- none if there was none, but for one whose undoing unprepare found no room
abbrev pub FailedLeaveHandles : Type 0
FailedLeaveHandles = (defs : Description) (regs : Registers) (ignore_unused : Bool) (credits : ℕ) (before : List Entry) (d : ℕ) (t : State)
    (kind : BulkKind) (items : List BulkItem) (made : List Made) (fail : ℕ × Reply) (handles : List Handle) → is_forward kind ≡ true
    → Goes (MakesCall d) (replay (opening defs regs ignore_unused credits) before) made t → IsBulk kind items made (Some fail) handles
    → (n : ℕ) → (list_any (lacks_room n) made ≡ true) ⊎ (own_handle t d n ≡ own_handle (replay (opening defs regs ignore_unused credits) before) d n)

-- and no handle that a get of a failed command was given is left
abbrev pub FailedGetsLeaveNone : Type 0
FailedGetsLeaveNone = (defs : Description) (regs : Registers) (ignore_unused : Bool) (credits : ℕ) (before : List Entry) (d : ℕ) (t : State)
    (items : List BulkItem) (made : List Made) (fail : ℕ × Reply) (handles : List Handle)
    → Goes (MakesCall d) (replay (opening defs regs ignore_unused credits) before) made t → IsBulk kind.Get items made (Some fail) handles
    → (k : ℕ) (found : Option ClockId) (h : Handle) → slice_get made k ≡ Some (record { step = step.Call (call.Get found); reply = reply.Handle h }) → own_handle t d h.number ≡ None
