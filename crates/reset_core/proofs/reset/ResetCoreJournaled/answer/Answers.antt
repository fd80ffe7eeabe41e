use Rattle.std.proofs.Common.{arith}
use Rattle.shared_log.proofs.Ones.{ones}
use Rattle.reset_core.proofs.reset.ResetCoreJournaled.answer.Goals as goal

pub call-requires : goal.call-requires
call-requires c = omega (arith, ones c.args.self.now.journal, c.requires.room)
