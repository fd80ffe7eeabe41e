-- The state of the machine: plain data, a list of rows for each part.
use Rattle.std.specs.Prelude.{ℕ, ℤ, List, Bool, Option, Some, None, true, false, slice_get, slice_set, unwrap_or, option_map}
use Rattle.clk_base.specs.declared.call.Sleeping.{Sleeping}
use Rattle.clk_base.specs.declared.call.Micro.{Micro}
use Rattle.clk_base.specs.declared.handle.Policy.{Policy}
use Rattle.clk_base.specs.Description.{Description}
use Rattle.clk_model.specs.declared.row.ClockRow.{ClockRow}
use Rattle.clk_model.specs.declared.row.HandleRow.{HandleRow}
use Rattle.reg_bank.specs.Registers.{Registers}

-- a notifier of a clock; of equal priorities the one added first is told first
pub record NotifierRow : Type 0 where
  pub clock : ℕ
  pub id : ℕ
  pub priority : ℤ
  pub policy : Policy

-- a clock of a planned chain: its planned rate, and the parent that it will have
pub record ChainStep : Type 0 where
  pub clock : ℕ
  pub rate : ℕ
  pub parent : Option ℕ

-- a call that goes on
pub record Change : Type 0 where
  pub driver : ℕ
  pub call : Sleeping
  -- steps that earlier steps have put in front
  pub front : List Micro
  -- what is left of the script
  pub left : List Micro
  -- how often the poll in front may still ask
  pub polls : ℕ
  -- how often the raise or lower in front has come again
  pub again : ℕ
  -- the PLLs that the call has raised and that nothing holds yet, the last one first
  pub raised : List ℕ
  -- the rate of each clock at the beginning, and in the outcome
  pub before : List ℕ
  pub outcome : List ℕ
  pub chain : List ChainStep
  -- the clocks whose rate the plan changes, in the order of the walk
  pub changing : List ℕ
  -- the range of the handle before the call, where the call sets a range
  pub range : Option (ℕ × ℕ)
  -- the notices of a called-off change that a timeout may still bring
  pub extra : ℕ
  pub vetoed : Bool
  pub timed_out : Bool
  -- the clock of the next visit, if a poll for it has timed out: it isn't set
  pub missed : Option ℕ

-- the state of the machine
pub record State : Type 0 where
  -- the description, and the words of the bank
  pub defs : Description
  pub regs : Registers
  pub clocks : List ClockRow
  -- the registered clocks, the newest attached first
  pub order : List ℕ
  -- the handles by number; none where it was put back
  pub handles : List (Option HandleRow)
  -- the notifiers in the order of adding
  pub notifiers : List NotifierRow
  -- what the change in flight holds, and that change
  pub prepare_holds : List ℕ
  pub enable_holds : List ℕ
  pub change : Option Change
  -- the credits in all, how many are spent, and how many steps were made
  pub credits : ℕ
  pub spent : ℕ
  pub steps : ℕ
  -- whether the unused sweep is switched off
  pub ignore_unused : Bool

-- whether no change is in flight
abbrev pub is_quiet : Option Change → Bool
is_quiet None = true
is_quiet (Some k) = false

-- the row of a clock that was never registered
abbrev pub unregistered_row : ClockRow
unregistered_row = record { registered = false; link = None; last_request = 0 }

-- the row of a clock
abbrev pub row_of : List ClockRow → ℕ → ClockRow
row_of clocks c = unwrap_or (slice_get clocks c) unregistered_row

-- the rows with this rate as the last requested one of a clock
abbrev pub requested : List ClockRow → ℕ → ℕ → List ClockRow
requested clocks c rate = slice_set clocks c (record (row_of clocks c) { last_request = rate })

-- whether the clock is registered
abbrev pub registered : List ClockRow → ℕ → Bool
registered clocks c = (row_of clocks c).registered

-- the parent that the clock is attached to
abbrev pub link_in : List ClockRow → ℕ → Option ℕ
link_in clocks c = option_map (λ p. p.0) (row_of clocks c).link

-- the live handle of this number
abbrev pub handle_at : List (Option HandleRow) → ℕ → Option HandleRow
handle_at handles number = unwrap_or (slice_get handles number) None
