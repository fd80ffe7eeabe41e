-- What stands behind the end of the children.
use Rattle.clk_tree.proofs.KidRings.{some_kid, no_kid}
use Rattle.clk_tree.proofs.refresh.has_kids.Goals as goal

pub returns-clause-some : goal.returns-clause-some
returns-clause-some c = some_kid c.args.count c.args.siblings.now c.args.clock.0 c.after.result c.requires.place c.after.ensures.next

pub returns-clause-none : goal.returns-clause-none
returns-clause-none c = no_kid c.args.count c.args.siblings.now c.args.clock.0 c.after.result c.requires.place c.after.ensures.next
