-- What each state after a legal journal keeps.
use Rattle.std.specs.Prelude.{◌≡◌, ◌≢◌, ◌⊎◌, ℕ, ◌<◌, ◌≤◌, List, Option, Some, None, false, length}
use Rattle.clk_base.specs.declared.event.Reply.TheVariants as reply
use Rattle.reset_core.specs.declared.call.ResetCall.{ResetCall}
use Rattle.reset_core.specs.declared.call.ResetCall.TheVariants as call
use Rattle.reset_core.specs.declared.call.ResetEntry.{ResetEntry}
use Rattle.reset_core.specs.declared.call.ResetLine.{ResetLine}
use Rattle.reset_core.specs.declared.record.HandleRecord.{HandleRecord}
use Rattle.reset_core.specs.Lines.{State, line_at, row_at, is_asserted, is_shared, shared_on, others_on, acquired_on, deasserts_on}
use Rattle.reset_core.specs.Turns.{own_row}
use Rattle.reset_core.specs.Standing.{ArePlaced}

-- no two lines have the same bit
abbrev pub AreApart : List ResetLine → Type 0
AreApart lines =
    (l m : ℕ) → l < length lines → m < length lines → l ≢ m → ((line_at lines m).word ≢ (line_at lines l).word) ⊎ ((line_at lines m).bit ≢ (line_at lines l).bit)

pub record IsSound (s : State) : Type 0 where
  pub placed : ArePlaced (length s.regs) s.lines
  pub apart : AreApart s.lines
  -- a handle is of a line
  pub inside : (n : ℕ) (r : HandleRecord) → row_at s.handles n ≡ Some r → r.line < length s.lines
  -- a handle that isn't shared has no deasserts
  pub bare : (n : ℕ) (r : HandleRecord) → row_at s.handles n ≡ Some r → is_shared r ≡ false → r.deasserts ≡ 0
  -- a line with a deassert of a shared handle is deasserted
  pub cleared : (l : ℕ) → l < length s.lines → 0 < deasserts_on l s.handles → is_asserted s l ≡ false
  -- no line has two acquired handles
  pub alone : (l : ℕ) → acquired_on l s.handles ≤ 1
  -- no line has a shared handle beside one of another kind
  pub kinds : (l : ℕ) → (shared_on l s.handles ≡ 0) ⊎ (others_on l s.handles ≡ 0)

-- the handle of a call that may write its line
abbrev pub line_call : ResetCall → Option ℕ
line_call (call.Deassert n) = Some n
line_call (call.Assert n) = Some n
line_call (call.Pulse n) = Some n
line_call what = None

-- the entry is an ok of an assert, a deassert or a pulse on a handle of this line
pub record Writes (s : State) (e : ResetEntry) (l : ℕ) : Type 0 where
  pub number : ℕ
  pub row : HandleRecord
  pub calls : line_call e.what ≡ Some number
  pub own : own_row s e.driver number ≡ Some row
  pub line : row.line ≡ l
  pub fine : e.reply ≡ reply.Fine
