use Rattle.std.proofs.Common.{arith, length, ap}
use Rattle.shared_log.proofs.Ones.{ones}
use Rattle.clk_phase.specs.PhaseLogs.{PhaseLog}
use Rattle.clk_phase.proofs.phases.Phases.close.Goals as goal

pub returns-clause-room : goal.returns-clause-room
returns-clause-room c =
    omega (arith, ones c.close.result.value.journal, c.close.ensures.room, ap (λ (log : PhaseLog). length log.journal) c.into_inner.ensures, ap (λ (log : PhaseLog). log.start.room) c.into_inner.ensures)
