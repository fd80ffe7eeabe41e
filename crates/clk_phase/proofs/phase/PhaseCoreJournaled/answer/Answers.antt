use Rattle.std.proofs.Common.{arith}
use Rattle.shared_log.proofs.Ones.{ones}
use Rattle.clk_phase.proofs.phase.PhaseCoreJournaled.answer.Goals as goal

pub call-requires-clause-room : goal.call-requires-clause-room
call-requires-clause-room c = omega (arith, ones c.args.self.now.journal, c.requires.room)
