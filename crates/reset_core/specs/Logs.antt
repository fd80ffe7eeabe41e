-- A core as contracts see it: what it began with, and its journal.
use Rattle.std.specs.Prelude.{◌≡◌, ◌≢◌, ℕ, ◌<◌, ◌≤◌, List, [], ◌∷◌, ◌++◌, length}
use Rattle.reset_core.specs.declared.call.ResetEntry.{ResetEntry}
use Rattle.reset_core.specs.declared.call.ResetLine.{ResetLine}
use Rattle.reset_core.specs.declared.start.ResetStart.{ResetStart}
use Rattle.reset_core.specs.Lines.{State, is_asserted, deasserts_on}
use Rattle.reset_core.specs.Turns.{replay, Legal}
use Rattle.reset_core.specs.Standing.{Standing, ArePlaced, at_start}
use Rattle.reset_core.specs.Sound.{AreApart, Writes}

pub record Log : Type 0 where
  pub start : ResetStart
  pub journal : List ResetEntry

abbrev pub log_of : ℕ → List ResetLine → ℕ → List ResetEntry → Log
log_of words lines room journal = record { start = record { words = words; lines = lines; room = room }; journal = journal }

-- a core without an entry
abbrev pub begins : ℕ → List ResetLine → ℕ → Log
begins words lines room = log_of words lines room []

-- the state after a journal
abbrev pub state_of : ResetStart → List ResetEntry → State
state_of start journal = replay (at_start start.words start.lines) journal

-- a line's bit differs from before an entry only if the entry is an ok of an assert, a deassert or a pulse on a handle of that line
abbrev pub WritesOwnLines : ResetStart → List ResetEntry → Type 0
WritesOwnLines start journal =
    (before : List ResetEntry) (e : ResetEntry) (rest : List ResetEntry) (l : ℕ) → journal ≡ before ++ e ∷ rest → l < length start.lines
    → is_asserted (state_of start (before ++ e ∷ [])) l ≢ is_asserted (state_of start before) l → Writes (state_of start before) e l

-- the controller stands after the journal, which is legal, and there is memory for all entries
pub record IsRun (words room : ℕ) (c : Standing) (capacity : ℕ) (journal : List ResetEntry) : Type 0 where
  pub stands : c.state ≡ replay (at_start words c.state.lines) journal
  pub legal_ : Legal (at_start words c.state.lines) journal
  pub size : length c.state.regs ≡ words
  pub placed : ArePlaced words c.state.lines
  pub apart : AreApart c.state.lines
  pub within : length journal ≤ room
  pub entries : room ≤ capacity
  pub handles : room ≤ c.capacity
  pub few : length c.state.handles ≤ length journal
  pub sums : (l : ℕ) → deasserts_on l c.state.handles ≤ length journal
