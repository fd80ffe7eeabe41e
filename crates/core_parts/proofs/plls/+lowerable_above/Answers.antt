use Rattle.std.proofs.Common.{◌<◌, arith, [], ◌-◌}
use Rattle.std.specs.Option.{option_map_or}
use Rattle.clk_model.specs.State.{link_in}
use Rattle.clk_model.specs.Tree.{path_within}
use Rattle.core_parts.proofs.Seeking.{path_from, lower_found}
use Rattle.core_parts.proofs.plls.+lowerable_above.Goals as goal

pub returns-clause-found : goal.returns-clause-found
returns-clause-found g t c =
    let up = link_in c.args.tree.now.clocks in
    let some : 0 < c.args.levels = omega arith in
    lower_found c.args.tree.now.defs c.args.counts.now c.args.window.now.words c.in-Some.clock.0 (option_map_or (λ p. path_within up (c.args.levels - 1) p.0) c.parent.result []) _
    c.is_lowerable-sought.result c.lowerable_above-above.result c.with_first.result
    (path_from up c.args.levels c.args.from c.in-Some.clock c.parent.result c.in-Some.is some c.parent.ensures.link)
    c.is_lowerable-sought.ensures c.lowerable_above-above.ensures.found c.with_first.ensures.found
