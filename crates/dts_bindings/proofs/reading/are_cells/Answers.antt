use Rattle.std.proofs.Common.{rules, sym, ◌∙◌}
use Rattle.std.proofs.lemmas.Iterator.{YieldsList-from_slice}
use Rattle.std.proofs.lemmas.Iterator.Search.{all_from_yields_List}
use Rattle.std.proofs.lemmas.List.Folds.{list_all-map}
use Rattle.dts_tree.specs.Tree.{seen_value}
use Rattle.dts_bindings.specs.Properties.{is_cells}
use Rattle.dts_bindings.proofs.reading.are_cells.Goals as goal

pub returns : goal.returns
returns c =
    all_from_yields_List (λ v. is_cells (seen_value v)) _ _ _ c.all.ensures.ran (YieldsList-from_slice c.args.values.now (cc)) (λ x b q k. search rules)
    ∙ sym (list_all-map is_cells seen_value c.args.values.now)
