use Rattle.std.proofs.Common.{ap}
use Rattle.std.specs.Prelude.{not}
use Rattle.clk_machine.proofs.Entering.{begins, idle_left}
use Rattle.clk_machine.proofs.framework.Core.create.Goals as goal

pub invariant_of-result : goal.invariant_of-result
invariant_of-result g c =
    let made = c.in_ok-machine.ensures in
    begins c.in_ok-machine.machine c.in_ok-kept.kept.items c.args.words.now c.in_ok-log.log c.args.desc c.args.ignore_unused c.args.credits
    c.in_ok-kept.ensures.items c.in_ok-log.ensures.empty c.in_ok-log.ensures.room made.stands made.fixed.0 made.fixed.1 made.fixed.2 made.fixed.3
    made.none made.size made.valid c.requires.credits made.quiet

pub returns-clause-left : goal.returns-clause-left
returns-clause-left g c = idle_left c.in_ok-machine.machine (ap not c.in_ok-machine.ensures.quiet)
