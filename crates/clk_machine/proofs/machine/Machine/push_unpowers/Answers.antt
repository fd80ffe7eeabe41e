use Rattle.std.proofs.Common.{arith}
use Rattle.clk_model.specs.State.{registered}
use Rattle.clk_machine.specs.Sweeping.{unpowers, unpower_steps}
use Rattle.clk_machine.proofs.SweepScript.{adds_none, adds_on, adds_all, all_at}
use Rattle.clk_machine.proofs.machine.Machine.push_unpowers.Goals as goal

pub loop-place-init : goal.loop-place-init
loop-place-init g c = adds_none c.args.self.now unpower_steps unpowers c.args.steps.now.items

pub push_unpower-requires : goal.push_unpower-requires
push_unpower-requires g c = all_at (registered c.args.self.now.tree.clocks) c.args.order.now c.loop-place.place c.clock_at.result c.clock_at.ensures c.requires

pub loop-place-preserved : goal.loop-place-preserved
loop-place-preserved g c =
    adds_on c.args.self.now unpower_steps unpowers c.args.order.now c.loop-place.place c.clock_at.result c.args.steps.now.items c.loop-place.steps.items c.push_unpower.new.steps.items c.clock_at.ensures c.loop-place.invariant c.in_ok-push_unpower.ensures

pub returns : goal.returns
returns g c =
    adds_all c.args.self.now unpower_steps unpowers c.args.order.now c.loop-place.place c.args.steps.now.items c.loop-place.steps.items (let past = c.loop-place-test.false in omega arith) c.loop-place.invariant
