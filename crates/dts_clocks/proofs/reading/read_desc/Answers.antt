use Rattle.std.proofs.Common.{◌∙◌, map, ap}
use Rattle.std.proofs.lemmas.Result.{err_from_is_err_and}
use Rattle.dts_bindings.specs.Versions.{all_known}
use Rattle.dts_tree.specs.Tree.{seen_node}
use Rattle.dts_clocks.specs.Loaded.{seen_loaded}
use Rattle.dts_clocks.proofs.ClockNames.{named}
use Rattle.dts_clocks.proofs.Parented.{parented}
use Rattle.dts_clocks.proofs.Verdicts.{second_told, accepted}
use Rattle.dts_clocks.proofs.reading.read_desc.Goals as goal

pub returns-in_err-loaded-clause-fault : goal.returns-in_err-loaded-clause-fault
returns-in_err-loaded-clause-fault c =
    let first = c.in_ok-chart.ensures ∙ ap (λ ns. all_known c.args.version (map seen_node ns)) c.deref.ensures.value in
    let p = err_from_is_err_and c.from_residual-in_err-loaded.result c.from_residual-in_err-loaded.ensures.1 in
    rw (p.1, p.2) (second_told c.in_ok-chart.chart c.in_ok-chart-2.chart (all_known c.args.version (map seen_node c.args.tree.now.nodes.items)) c.in_err-loaded.field-0.0 first c.in_ok-chart-2.ensures c.in_ok-bindings.ensures.none c.in_err-loaded.ensures.err)

pub returns-clause-loaded : goal.returns-clause-loaded
returns-clause-loaded c =
    let first = c.in_ok-chart.ensures ∙ ap (λ ns. all_known c.args.version (map seen_node ns)) c.deref.ensures.value in
    accepted c.in_ok-chart.chart c.in_ok-chart-2.chart (all_known c.args.version (map seen_node c.args.tree.now.nodes.items)) (seen_loaded c.in_ok-loaded.loaded) first c.in_ok-chart-2.ensures c.in_ok-bindings.ensures.none c.in_ok-loaded.ensures.none c.in_ok-loaded.ensures.loaded

pub returns-clause-parents : goal.returns-clause-parents
returns-clause-parents c =
    let first = c.in_ok-chart.ensures ∙ ap (λ ns. all_known c.args.version (map seen_node ns)) c.deref.ensures.value in
    parented (all_known c.args.version (map seen_node c.args.tree.now.nodes.items)) (seen_loaded c.in_ok-loaded.loaded)
    (accepted c.in_ok-chart.chart c.in_ok-chart-2.chart (all_known c.args.version (map seen_node c.args.tree.now.nodes.items)) (seen_loaded c.in_ok-loaded.loaded) first c.in_ok-chart-2.ensures c.in_ok-bindings.ensures.none c.in_ok-loaded.ensures.none c.in_ok-loaded.ensures.loaded)

pub returns-clause-names : goal.returns-clause-names
returns-clause-names c =
    let first = c.in_ok-chart.ensures ∙ ap (λ ns. all_known c.args.version (map seen_node ns)) c.deref.ensures.value in
    named (all_known c.args.version (map seen_node c.args.tree.now.nodes.items)) (seen_loaded c.in_ok-loaded.loaded)
    (accepted c.in_ok-chart.chart c.in_ok-chart-2.chart (all_known c.args.version (map seen_node c.args.tree.now.nodes.items)) (seen_loaded c.in_ok-loaded.loaded) first c.in_ok-chart-2.ensures c.in_ok-bindings.ensures.none c.in_ok-loaded.ensures.none c.in_ok-loaded.ensures.loaded)
