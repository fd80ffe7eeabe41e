use Rattle.std.proofs.Common.{arith}
use Rattle.clk_model.specs.State.{registered}
use Rattle.clk_machine.proofs.AdoptionSteps.{adopts_none, adopts_on, adopts_all}
use Rattle.clk_machine.proofs.SweepScript.{all_at}
use Rattle.clk_machine.proofs.machine.Machine.push_adoptions.Goals as goal

pub loop-place-init : goal.loop-place-init
loop-place-init g c = adopts_none c.args.self.now c.args.new.0 c.args.steps.now.items

pub push_adoption-requires-clause-there : goal.push_adoption-requires-clause-there
push_adoption-requires-clause-there g c =
    all_at (registered c.args.self.now.tree.clocks) c.args.orphans.now c.loop-place.place c.clock_at.result c.clock_at.ensures c.requires.there

pub loop-place-preserved : goal.loop-place-preserved
loop-place-preserved g c =
    adopts_on c.args.self.now c.args.new.0 c.args.orphans.now c.loop-place.place c.clock_at.result c.args.steps.now.items c.loop-place.steps.items c.push_adoption.new.steps.items c.clock_at.ensures
    c.loop-place.invariant c.in_ok-push_adoption.ensures

pub returns : goal.returns
returns g c =
    adopts_all c.args.self.now c.args.new.0 c.args.orphans.now c.loop-place.place c.args.steps.now.items c.loop-place.steps.items (let past = c.loop-place-test.false in omega arith) c.loop-place.invariant
