use Rattle.std.proofs.Common.{refl, sym, subst}
use Rattle.std.proofs.lemmas.Result.{err_from_is_err_and}
use Rattle.bundle_text.specs.Faults.{Tells}
use Rattle.bundle_clocks.specs.Verdict.{SourceRefused}
use Rattle.dts_clocks.specs.Loaded.{seen_loaded}
use Rattle.dts_tree.specs.Tree.{seen}
use Rattle.bundle_clocks.proofs.tree_form.read_source.Goals as goal

pub returns-in_err-tree-clause-fault : goal.returns-in_err-tree-clause-fault
returns-in_err-tree-clause-fault c =
    let p = err_from_is_err_and c.from_residual.result c.from_residual.ensures.1 in
    rw p.1 (subst (Tells (SourceRefused c.args.version c.args.first c.args.source.now)) (sym p.2) (c.in_err-tree.ensures.fault c.args.version))

pub returns-clause-said : goal.returns-clause-said
returns-clause-said c = record {
  nodes = seen c.in_ok-tree.tree;
  tree = c.in_ok-tree.ensures.tree;
  loaded = seen_loaded c.in-Ok.loaded;
  accepted = c.in-Ok.ensures.loaded;
  content = refl;
}
