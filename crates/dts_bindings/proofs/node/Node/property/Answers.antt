use Rattle.std.proofs.Common.{sym, ap, ◌∙◌, rules}
use Rattle.std.proofs.lemmas.Iterator.{YieldsList-from_slice}
use Rattle.std.proofs.lemmas.Iterator.Search.{find_from_yields_List}
use Rattle.std.specs.Str.{bytes_eq}
use Rattle.std.specs.Prelude.{string_bytes}
use Rattle.dts_tree.specs.Tree.{seen_node}
use Rattle.dts_bindings.specs.Properties.{property_named}
use Rattle.dts_bindings.proofs.Finding.{found_seen, unknown_property, known_property}
use Rattle.dts_bindings.proofs.node.Node.property.Goals as goal

pub returns-then-not-knows : goal.returns-then-not-knows
returns-then-not-knows c =
    let n = c.self.inside in
    sym (ap (property_named c.args.name.now) (sym c.self.view_is) ∙ unknown_property n.version c.args.name.now (seen_node n.node.now) (sym c.knows.ensures ∙ c.if-not-knows.true))

pub returns : goal.returns
unfolding property_named
returns c =
    let n = c.self.inside in
    found_seen c.find.result n.node.now.properties.items c.args.name.now
    (find_from_yields_List (λ p. bytes_eq (string_bytes p.name) c.args.name.now) _ _ c.find.result c.find.ensures.ran (YieldsList-from_slice n.node.now.properties.items (cc)) (λ x b q k. search rules))
    ∙ sym (ap (property_named c.args.name.now) (sym c.self.view_is) ∙ known_property n.version c.args.name.now (seen_node n.node.now) (sym c.knows.ensures ∙ c.if-not-knows.false))
