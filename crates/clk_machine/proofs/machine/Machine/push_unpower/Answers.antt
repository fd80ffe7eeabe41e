use Rattle.clk_machine.specs.Sweeping.{unpowers, unpower_steps}
use Rattle.clk_machine.proofs.SweepScript.{adds_one, adds_not}
use Rattle.clk_machine.proofs.machine.Machine.push_unpower.Goals as goal

pub returns-in_ok-push : goal.returns-in_ok-push
returns-in_ok-push g c = adds_one c.args.self.now unpower_steps unpowers c.args.clock.0 c.unpowers.result c.args.steps.now.items c.push.new.self.items c.requires c.unpowers.ensures c.if-unpowers.true c.in_ok-push.ensures.items

pub returns-else-unpowers : goal.returns-else-unpowers
returns-else-unpowers g c = adds_not c.args.self.now unpower_steps unpowers c.args.clock.0 c.unpowers.result c.args.steps.now.items c.unpowers.ensures c.if-unpowers.false
