-- That runs end: how many entries a journal may have at most.
use Rattle.std.specs.Prelude.{◌≡◌, ℕ, ◌+◌, ◌≤◌, List, Bool, Some, length}
use Rattle.clk_base.specs.declared.event.Entry.{Entry}
use Rattle.clk_base.specs.declared.event.Event.{Event}
use Rattle.clk_base.specs.declared.event.Turn.{Turn}
use Rattle.clk_base.specs.Description.{Description}
use Rattle.clk_base.specs.Valid.{IsValid}
use Rattle.reg_bank.specs.Registers.{Registers}
use Rattle.clk_model.specs.State.{State, Change}
use Rattle.clk_model.specs.Begin.{most_credits}
use Rattle.clk_model.specs.Machine.{next}
use Rattle.clk_model.specs.Journal.{replay, Legal, opening}
use Rattle.clk_model.specs.Laws.Paced.{IsPaced, left_of}
use Rattle.clk_model.specs.Wired.{LinksArePossible}

-- a change in flight is paced, and has room for the entries that it may still come to
pub record GoesOn (s : State) (k : Change) : Type 0 where
  pub paced : IsPaced s k
  pub room : s.credits + s.steps + left_of s ≤ most_credits

-- no more credits are spent than there are, and with the steps they have room
pub record HasRoom (s : State) : Type 0 where
  pub change : (k : Change) → s.change ≡ Some k → GoesOn s k
  pub spent : s.spent ≤ s.credits
  pub room : s.credits + s.steps ≤ most_credits

-- each event leaves it so
abbrev pub EventsLeaveRoom : Type 0
EventsLeaveRoom = (s t : State) (d : ℕ) (e : Event) (x : Turn) → IsValid (length s.regs) s.defs → LinksArePossible s.defs s.clocks → HasRoom s
    → next s d e ≡ Some (t, x) → HasRoom t

-- and it is so behind each journal that begins at an opening with a valid description and with as many credits as there may be
abbrev pub RunsHaveRoom : Type 0
RunsHaveRoom = (defs : Description) (regs : Registers) (ignore_unused : Bool) (credits : ℕ) (journal : List Entry) → IsValid (length regs) defs
    → credits ≤ most_credits → HasRoom (replay (opening defs regs ignore_unused credits) journal)

-- so no legal journal has more entries than there may be credits
abbrev pub RunsEnd : Type 0
RunsEnd = (defs : Description) (regs : Registers) (ignore_unused : Bool) (credits : ℕ) (journal : List Entry) → IsValid (length regs) defs
    → credits ≤ most_credits → Legal (opening defs regs ignore_unused credits) journal → length journal ≤ most_credits
