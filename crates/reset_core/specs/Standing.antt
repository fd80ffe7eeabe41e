-- What contracts see of a controller.
use Rattle.std.specs.Prelude.{◌≡◌, ℕ, ◌+◌, ◌^◌, ◌<◌, true, List, [], ◌∷◌, replicate, length}
use Rattle.clk_base.specs.declared.event.Reply.{Reply}
use Rattle.reg_bank.specs.Registers.{Registers, put_bit}
use Rattle.reset_core.specs.declared.call.ResetLine.{ResetLine}
use Rattle.reset_core.specs.Lines.{State, line_at, deasserts_on}
use Rattle.reset_core.specs.Turns.{Turn}

pub record Standing : Type 0 where
  pub state : State
  pub capacity : ℕ

-- each line has a bit of the words
abbrev pub ArePlaced : ℕ → List ResetLine → Type 0
ArePlaced words lines = (l : ℕ) → l < length lines → ((line_at lines l).word < words) × ((line_at lines l).bit < 32)

-- there is memory for one handle more, and each count stays below 2^32
pub record HasRoom (c : Standing) : Type 0 where
  pub room : length c.state.handles < c.capacity
  pub few : length c.state.handles + 1 < 2 ^ 32
  pub sums : (l : ℕ) → deasserts_on l c.state.handles + 1 < 2 ^ 32

-- a call was made
pub record Makes (t : Turn) (old new : Standing) (r : Reply) : Type 0 where
  pub state : new.state ≡ t.state
  pub capacity : new.capacity ≡ old.capacity
  pub reply : r ≡ t.reply

-- the words with all lines asserted
abbrev pub all_asserted : Registers → List ResetLine → Registers
all_asserted words [] = words
all_asserted words (l ∷ lines) = all_asserted (put_bit words l.word l.bit true) lines

-- no handle, and each line asserted
abbrev pub at_start : ℕ → List ResetLine → State
at_start words lines = record { lines = lines; handles = []; regs = all_asserted (replicate words 0) lines }
