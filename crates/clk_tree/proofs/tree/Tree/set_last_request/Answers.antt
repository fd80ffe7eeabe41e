-- The tree with another last request.
use Rattle.std.proofs.Common.{◌<◌, length}
use Rattle.clk_tree.proofs.HeldLaws.{held_requested}
use Rattle.clk_tree.proofs.tree.Tree.set_last_request.Goals as goal

pub invariant_of-self : goal.invariant_of-self
invariant_of-self c =
    let m = c.self.inside in
    let place : c.args.c.0 < length m.desc.defs = rw (← c.self.view_is) at c.requires.place in
    held_requested m.desc.defs m.clocks.items c.deref.result.now m.rates.items m.turns m.siblings m.plls m.rooted.items
    c.args.c.0 c.args.rate c.row_of.result c.self.invariant place c.row_of.ensures c.deref.ensures.value

pub returns-clause-stands : goal.returns-clause-stands
returns-clause-stands c = (invariant_of-self c).tree
