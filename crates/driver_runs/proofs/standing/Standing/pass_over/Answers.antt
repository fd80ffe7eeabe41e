use Rattle.std.proofs.Common.{refl}
use Rattle.driver_runs.proofs.Passing.{passes_none, passes_more}
use Rattle.driver_runs.proofs.standing.Standing.pass_over.Goals as goal

pub skipped-init : goal.skipped-init
skipped-init c = passes_none c.args.commands.now c.args.self.now

pub skipped-preserved : goal.skipped-preserved
skipped-preserved c = passes_more c.args.commands.now c.args.self.now c.skipped.self _ c.in-Some.command.now c.skipped.invariant c.in-Some.ensures (cc) refl c.in_ok-push.ensures.items
