use Rattle.std.proofs.Common.{◌≡◌, ◌<◌, map, length, get_or, ap, sym, ◌∙◌, arith}
use Rattle.std.proofs.lemmas.List.{length-map, get_or-map}
use Rattle.std.proofs.lemmas.Option.{slice_get_read}
use Rattle.dts_bindings.specs.Versions.{known, all_known}
use Rattle.dts_tree.specs.Tree.{seen_node}
use Rattle.dts_clocks.proofs.nodes.Nodes.node.Goals as goal

pub bounds-all-at : goal.bounds-all-at
bounds-all-at c =
    let n = c.self.inside in
    let seen : length (all_known n.version (map seen_node n.all.now)) ≡ length c.args.self.now = ap length c.self.view_is in
    omega (arith, length-map n.all.now seen_node, length-map (map seen_node n.all.now) (known n.version))

pub returns : goal.returns
returns c =
    let n = c.self.inside in
    let all = map seen_node n.all.now in
    let count : length all ≡ length n.all.now = length-map n.all.now seen_node in
    let size : length (all_known n.version all) ≡ length all = length-map all (known n.version) in
    let seen : length (all_known n.version all) ≡ length c.args.self.now = ap length c.self.view_is in
    let low : c.args.at < length n.all.now = omega arith in
    let here = seen_node c.index-all-at.result in
    let one : here ≡ get_or all c.args.at here = ap seen_node c.index-all-at.is ∙ sym (get_or-map seen_node n.all.now c.args.at c.index-all-at.result here low) in
    let two : known n.version here ≡ get_or (all_known n.version all) c.args.at c.new.result =
    ap (known n.version) one ∙ sym (get_or-map (known n.version) all c.args.at here c.new.result (omega arith)) in
    rw (← c.self.view_is) (slice_get_read (all_known n.version all) (length all) c.args.at c.new.result (sym size) (omega arith) (c.new.ensures ∙ two))
