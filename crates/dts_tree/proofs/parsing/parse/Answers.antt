use Rattle.std.proofs.Common.{IfOk, Result, subst}
use Rattle.dts_tree.specs.Parsed.{shown, spelled}
use Rattle.dts_tree.specs.declared.fault.TreeFault.{TreeFault}
use Rattle.dts_tree.specs.Held.{Holds}
use Rattle.dts_tree.specs.State.{State}
use Rattle.dts_tree.proofs.Holding.{read-held}
use Rattle.dts_tree.proofs.Going.{Fails-bind, Rises-some}
use Rattle.dts_tree.specs.State.{state_of}
use Rattle.dts_tree.proofs.Whole.{whole-tree, whole-fault}
use Rattle.dts_tree.proofs.parsing.parse.Goals as goal

pub read-requires : goal.read-requires
read-requires c = Rises-some 0 _ _ c.requires.rises

pub returns-in-Err-clause-fault : goal.returns-in-Err-clause-fault
unfolding spelled
returns-in-Err-clause-fault c = Fails-bind c.in-Err.fault _ (shown c.args.text.now) c.in-Err.ensures.fault

pub returns-in-Ok-clause-tree : goal.returns-in-Ok-clause-tree
returns-in-Ok-clause-tree c = whole-tree c.args.text.now c.args.tokens.now (state_of c.in-Ok.reader) c.tree.result c.in-Ok.ensures.found c.tree.ensures.tree

pub returns-in-Ok-clause-fault : goal.returns-in-Ok-clause-fault
returns-in-Ok-clause-fault c = whole-fault c.args.text.now c.args.tokens.now (state_of c.in-Ok.reader) c.tree.result c.in-Ok.ensures.found c.tree.ensures.fault

pub tree-requires : goal.tree-requires
tree-requires c =
    let P : Result State TreeFault → Type 0 = λ r. IfOk r (λ s. Holds c.args.text.now s.tables) in
    subst P c.in-Ok.ensures.found (read-held c.args.text.now c.args.tokens.now c.requires.short c.requires.rises c.requires.whole)
