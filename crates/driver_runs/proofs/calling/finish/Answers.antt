use Rattle.clk_machine.specs.Run.{driver_in_flight}
use Rattle.driver_runs.proofs.WholeCalls.{makes_none, makes_more, finishes}
use Rattle.driver_runs.proofs.calling.finish.Goals as goal

pub steps-init : goal.steps-init
steps-init g c = makes_none c.args.core.now c.requires

pub steps-preserved : goal.steps-preserved
steps-preserved g c =
    makes_more c.args.core.now c.steps.core c.step.new.self (driver_in_flight c.args.core.now.journal) c.steps.invariant c.in_default.ensures.made

pub returns-in-Done : goal.returns-in-Done
returns-in-Done g c =
    finishes c.args.core.now c.steps.core c.step.new.self (driver_in_flight c.args.core.now.journal) c.in-Done.reply c.steps.invariant c.in-Done.ensures.made
