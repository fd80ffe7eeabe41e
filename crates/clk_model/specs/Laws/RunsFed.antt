-- That each active clock is fed through each run, and what holds between calls: the laws of feeding over runs.
use Rattle.std.specs.Prelude.{◌≡◌, ℕ, ◌<◌, List, Bool, true, Some, None, IfSome, length}
use Rattle.reg_bank.specs.Registers.{Registers}
use Rattle.clk_base.specs.Description.{Description, kind_of}
use Rattle.clk_base.specs.Fields.{power_of}
use Rattle.clk_base.specs.Valid.{IsValid}
use Rattle.clk_base.specs.declared.event.Entry.{Entry}
use Rattle.clk_model.specs.declared.row.HandleRow.{HandleRow}
use Rattle.clk_model.specs.Kinds.{is_powered}
use Rattle.clk_model.specs.State.{State, link_in, handle_at}
use Rattle.clk_model.specs.Tree.{rooted}
use Rattle.clk_model.specs.Holders.{prepared}
use Rattle.clk_model.specs.Fed.{feeds, Fed}
use Rattle.clk_model.specs.Journal.{replay, opening}
use Rattle.clk_model.specs.Laws.HoldsLeft.{HoldsNothing}

-- each active clock is fed behind each journal that begins at an opening with a valid description: between calls, and behind each
-- step of a call, whatever the drivers' enables and disables between
abbrev pub RunsAreFed : Type 0
RunsAreFed = (defs : Description) (regs : Registers) (ignore_unused : Bool) (credits : ℕ) (journal : List Entry) → IsValid (length regs) defs
    → Fed (replay (opening defs regs ignore_unused credits) journal)

-- what holds of a state between calls
pub record IsSettled (s : State) : Type 0 where
  -- no change holds a clock
  pub holds : HoldsNothing s
  -- the PLL of a prepared clock is powered
  pub powered : (c : ℕ) → prepared s c ≡ true → IfSome (power_of (kind_of s.defs c)) (λ power. is_powered s.regs power ≡ true)
  -- a handle with an enable has a prepare
  pub prepared_ : (number : ℕ) (h : HandleRow) → handle_at s.handles number ≡ Some h → 0 < h.enables → 0 < h.prepares
  -- a clock with a link is fed by it, also where it isn't active
  pub fed : (c p : ℕ) → link_in s.clocks c ≡ Some p → feeds s.defs s.regs s.clocks c ≡ Some p
  -- the clock of a handle is rooted
  pub rooted_ : (number : ℕ) (h : HandleRow) → handle_at s.handles number ≡ Some h → rooted s.defs s.clocks h.clock.0 ≡ true

-- so it is behind each such journal, while no call is in flight
abbrev pub QuietRunsAreSettled : Type 0
QuietRunsAreSettled = (defs : Description) (regs : Registers) (ignore_unused : Bool) (credits : ℕ) (journal : List Entry) → IsValid (length regs) defs
    → (replay (opening defs regs ignore_unused credits) journal).change ≡ None → IsSettled (replay (opening defs regs ignore_unused credits) journal)
