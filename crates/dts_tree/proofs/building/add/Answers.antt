use Rattle.std.proofs.Common.{◌∷◌, [], refl, sym, map, ap, ◌∙◌, arith}
use Rattle.std.proofs.lemmas.List.{length-map, map-append}
use Rattle.dts_tree.specs.Tree.{seen_node, seen_property}
use Rattle.dts_tree.proofs.Shown.{add_at-past, map-seen-set}
use Rattle.dts_tree.proofs.building.add.Goals as goal

pub returns-in_ok-push-clause-added : goal.returns-in_ok-push-clause-added
returns-in_ok-push-clause-added c =
    let node = c.index_mut.result.now in
    let properties = ap (map seen_property) c.in_ok-push.ensures.items ∙ map-append seen_property node.properties.items (c.args.property ∷ []) in
    map-seen-set seen_node c.args.nodes.now.items c.args.place node _ (seen_property c.args.property) (omega arith) (rw (← c.index_mut.ensures.value) (rw properties refl))

pub returns-else-place-len-clause-added : goal.returns-else-place-len-clause-added
returns-else-place-len-clause-added c = sym (add_at-past c.args.place (seen_property c.args.property) (map seen_node c.args.nodes.now.items) (simp length-map (omega arith)))
