-- A phase core as contracts see it: what it began with, and its journal.
use Rattle.std.specs.Prelude.{◌≡◌, ℕ, ◌<◌, ◌≤◌, List, [], All, Option, length}
use Rattle.std.proofs.Math.IntN.{ℤ}
use Rattle.clk_base.specs.declared.clock.ClockId.{ClockId}
use Rattle.tier_lock.specs.Known.{KnownPass}
use Rattle.shared_log.specs.Entering.{Enters}
use Rattle.clk_phase.specs.declared.phase_call.PhaseEntry.{PhaseEntry}
use Rattle.clk_phase.specs.declared.phase_call.PhaseReply.{PhaseReply}
use Rattle.clk_phase.specs.declared.phase_call.PhaseStart.{PhaseStart}
use Rattle.clk_phase.specs.Phases.{settings_of, at_first, LegalFrom, IsLegal}

pub record PhaseLog : Type 0 where
  pub start : PhaseStart
  pub journal : List PhaseEntry

abbrev pub phase_log : List ℕ → ℕ → List PhaseEntry → PhaseLog
phase_log steps room journal = record { start = record { steps = steps; room = room }; journal = journal }

-- a core without an entry
abbrev pub phase_begins : List ℕ → ℕ → PhaseLog
phase_begins steps room = phase_log steps room []

-- the core stands after the journal, which is legal, and there is memory for all entries
pub record IsPhaseRun (steps : List ℕ) (room capacity : ℕ) (settings : List ℕ) (journal : List PhaseEntry) : Type 0 where
  pub stands : settings ≡ settings_of steps (at_first steps) journal
  pub legal_ : LegalFrom steps (at_first steps) journal
  pub size : length settings ≡ length steps
  pub few : All (λ n. n ≤ 360) steps
  pub below : All (λ k. k < 361) settings
  pub within : length journal ≤ room
  pub space : room ≤ capacity

-- the entry of a driver's call, answered so, stands at the end of what the seat has seen, a legal journal, and of its own
abbrev pub EntersPhase : KnownPass PhaseEntry PhaseStart → ClockId → Option ℤ → PhaseReply → KnownPass PhaseEntry PhaseStart → Type 0
EntersPhase old c set r new = Enters IsLegal (λ e. e.driver) old (record { driver = old.number; clock = c; set = set; reply = r }) new
