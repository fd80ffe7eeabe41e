use Rattle.std.proofs.Common.{ap, sym, ◌∙◌, cond, Some, None}
use Rattle.std.specs.Option.{option_map}
use Rattle.dts_clocks.specs.declared.fault.DtsFault.TheVariants.{BadSpecifier, BadAssigned}
use Rattle.dts_clocks.specs.SecondPass.{seen_links}
use Rattle.dts_clocks.proofs.Linking.{links_at-passed, links_at-node, second_fault-passed, second_fault-bad, second_fault-linked}
use Rattle.dts_clocks.proofs.second_pass.look.Goals as goal

pub returns-then-is_passed-clause-links : goal.returns-then-is_passed-clause-links
returns-then-is_passed-clause-links c = sym (links_at-passed c.args.chart.now c.args.at (sym c.is_passed.ensures ∙ c.if-is_passed.true))

pub returns-then-is_passed-clause-none : goal.returns-then-is_passed-clause-none
returns-then-is_passed-clause-none c = second_fault-passed c.args.chart.now c.args.at (sym c.is_passed.ensures ∙ c.if-is_passed.true)

pub returns-in_default-clause-err : goal.returns-in_default-clause-err
returns-in_default-clause-err c =
    second_fault-bad c.args.chart.now c.args.at c.node-node.result c.node-node.ensures (sym c.is_passed.ensures ∙ c.if-is_passed.false) (ap (option_map seen_links) (sym c.in_default.is) ∙ c.in_ok-links.ensures)
    ∙ ap (λ line. Some (BadSpecifier line)) (sym c.line.ensures)

pub returns-then-is_bad-clause-err : goal.returns-then-is_bad-clause-err
returns-then-is_bad-clause-err c =
    second_fault-linked c.args.chart.now c.args.at c.node-node.result (seen_links c.in-Some.links) c.args.before c.is_bad.result c.node-node.ensures (sym c.is_passed.ensures ∙ c.if-is_passed.false) (ap (option_map seen_links) (sym c.in-Some.is) ∙ c.in_ok-links.ensures) c.requires.before c.is_bad.ensures
    ∙ (ap (λ b. cond b (Some (BadAssigned c.node-node.result.line)) None) c.if-is_bad.true ∙ ap (λ line. Some (BadAssigned line)) (sym c.line-then-is_bad.ensures))

pub returns-clause-links : goal.returns-clause-links
returns-clause-links c =
    ap (option_map seen_links) (sym c.in-Some.is) ∙ (c.in_ok-links.ensures ∙ links_at-node c.args.chart.now c.args.at c.node-node.result c.node-node.ensures (sym c.is_passed.ensures ∙ c.if-is_passed.false))

pub returns-clause-none : goal.returns-clause-none
returns-clause-none c =
    second_fault-linked c.args.chart.now c.args.at c.node-node.result (seen_links c.in-Some.links) c.args.before c.is_bad.result c.node-node.ensures (sym c.is_passed.ensures ∙ c.if-is_passed.false) (ap (option_map seen_links) (sym c.in-Some.is) ∙ c.in_ok-links.ensures) c.requires.before c.is_bad.ensures
    ∙ ap (λ b. cond b (Some (BadAssigned c.node-node.result.line)) None) c.if-is_bad.false
