-- That calls leave no hold behind: the law of holds.
use Rattle.std.specs.Prelude.{◌≡◌, ℕ, List, [], length, Bool, true, false, Option, Some, None}
use Rattle.reg_bank.specs.Registers.{Registers}
use Rattle.clk_base.specs.Description.{Description}
use Rattle.clk_base.specs.Valid.{IsValid}
use Rattle.clk_base.specs.declared.call.Micro.{Micro}
use Rattle.clk_base.specs.declared.call.Sleeping.{Sleeping}
use Rattle.clk_base.specs.declared.call.Sleeping.TheVariants as call
use Rattle.clk_base.specs.declared.event.Entry.{Entry}
use Rattle.clk_base.specs.declared.event.Event.TheVariants as event
use Rattle.clk_base.specs.declared.event.Reply.{Reply}
use Rattle.clk_base.specs.declared.event.Turn.TheVariants as turn
use Rattle.clk_model.specs.State.{State}
use Rattle.clk_model.specs.Round.{wiring}
use Rattle.clk_model.specs.Machine.{next}
use Rattle.clk_model.specs.Journal.{replay, opening}
use Rattle.clk_model.specs.Laws.Flight.{Flight}
use Rattle.clk_model.specs.Wired.{IsWired, IsOrder}

-- no change holds a clock prepared or enabled
pub record HoldsNothing (s : State) : Type 0 where
  pub prepares : s.prepare_holds ≡ []
  pub enables : s.enable_holds ≡ []

-- whether the call is a registration
abbrev pub is_probe : Sleeping → Bool
is_probe (call.Probe c) = true
is_probe _ = false

-- behind the end of a call that isn't a registration nothing is held, where nothing was before it: whether it went well, was called
-- off or timed out, and whatever the enables and disables between
abbrev pub CallsLeaveNoHold : Type 0
CallsLeaveNoHold = (words : ℕ) (q s t : State) (d : ℕ) (what : Sleeping) (made : List Micro) (m : Micro) (answer : Option Bool) (r : Reply)
    → IsWired words (wiring q) → IsOrder q.order q.clocks → HoldsNothing q → is_probe what ≡ false
    → Flight q d what s made → next s d (event.Step m answer) ≡ Some (t, turn.Done r) → HoldsNothing t

-- behind each journal that begins at an opening with a valid description nothing is held while no call is in flight, registrations included
abbrev pub RunsLeaveNoHold : Type 0
RunsLeaveNoHold = (defs : Description) (regs : Registers) (ignore_unused : Bool) (credits : ℕ) (journal : List Entry) → IsValid (length regs) defs
    → (replay (opening defs regs ignore_unused credits) journal).change ≡ None → HoldsNothing (replay (opening defs regs ignore_unused credits) journal)
