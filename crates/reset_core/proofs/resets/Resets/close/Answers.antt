use Rattle.std.proofs.Common.{arith, length, ap}
use Rattle.shared_log.proofs.Ones.{ones}
use Rattle.reset_core.specs.Logs.{Log}
use Rattle.reset_core.proofs.resets.Resets.close.Goals as goal

pub returns-clause-room : goal.returns-clause-room
returns-clause-room c =
    omega (arith, ones c.close.result.value.journal, c.close.ensures.room, ap (λ (log : Log). length log.journal) c.into_inner.ensures, ap (λ (log : Log). log.start.room) c.into_inner.ensures)
