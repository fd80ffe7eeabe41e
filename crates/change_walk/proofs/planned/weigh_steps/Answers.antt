-- Where no notice and no PLL adds to a step, their number is their weight.
use Rattle.std.proofs.Common.{rules}
use Rattle.change_walk.proofs.Plain.{number_weighs}
use Rattle.change_walk.proofs.planned.weigh_steps.Goals as goal

pub returns-then-not-tells : goal.returns-then-not-tells
returns-then-not-tells c =
    number_weighs c.args.notifiers.now c.args.plls c.args.steps.now
    c.if-plls-eq0.true
    (c.requires c.if-not-tells.true)
    (search rules)
