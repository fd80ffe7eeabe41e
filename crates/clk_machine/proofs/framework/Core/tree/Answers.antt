use Rattle.clk_machine.specs.Run.{state_of}
use Rattle.clk_machine.proofs.framework.Core.tree.Goals as goal

pub returns-clause-tree : goal.returns-clause-tree
returns-clause-tree g c =
    rw (← c.self.view_is) (λ told. c.tree.ensures.tree (state_of c.self.inside.machine c.self.inside.words.items c.self.inside.log) (c.self.invariant.stands told))
