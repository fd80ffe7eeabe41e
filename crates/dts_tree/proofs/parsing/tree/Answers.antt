use Rattle.std.proofs.Common.{Result, Ok, List, ap, sym, ◌∙◌}
use Rattle.dts_tree.specs.declared.fault.TreeFault.{TreeFault}
use Rattle.dts_tree.specs.Grown.{◌>>=◌}
use Rattle.dts_tree.specs.Parsed.{shown}
use Rattle.dts_tree.specs.State.{state_of}
use Rattle.dts_tree.specs.Tree.{SeenNode, tree_of}
use Rattle.dts_tree.proofs.Going.{Fails-bind}
use Rattle.dts_tree.proofs.parsing.tree.Goals as goal

pub returns-in-Err-clause-fault : goal.returns-in-Err-clause-fault
unfolding shown
returns-in-Err-clause-fault c =
    let failed = simp (c.as_slice-labels.ensures.value, c.as_slice-references.ensures.value) at c.in-Err.ensures.fault in
    Fails-bind c.in-Err.fault _ (λ found. Ok (tree_of c.args.text.now (state_of c.args.reader.now).tables found)) failed

pub returns-in-Ok-nodes-clause-tree : goal.returns-in-Ok-nodes-clause-tree
unfolding shown
returns-in-Ok-nodes-clause-tree c =
    let good : List SeenNode → Result (List SeenNode) TreeFault = λ ns. Ok ns in
    let found = simp (c.as_slice-labels.ensures.value, c.as_slice-references.ensures.value) at c.in-Ok.ensures.found in
    let tables = (state_of c.args.reader.now).tables in
    ap (λ r. r >>= λ ks. good (tree_of c.args.text.now tables ks)) found ∙ (ap (λ ks. good (tree_of c.args.text.now tables ks)) (sym c.deref.ensures.value) ∙ ap good (sym c.in-Ok-nodes.ensures.nodes))
