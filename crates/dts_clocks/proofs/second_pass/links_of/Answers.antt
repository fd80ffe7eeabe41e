use Rattle.std.proofs.Common.{ap, sym, ◌∙◌}
use Rattle.std.specs.Option.{option_map}
use Rattle.dts_bindings.specs.Binding.{seen_binding}
use Rattle.dts_clocks.specs.Assigned.{seen_lists}
use Rattle.dts_clocks.specs.Consumers.{seen_consumer}
use Rattle.dts_clocks.proofs.Linking.{parents_bound, no_parents, no_consumer, no_lists, links_made}
use Rattle.dts_clocks.proofs.second_pass.links_of.Goals as goal

pub returns-in_default : goal.returns-in_default
returns-in_default c =
    let bound = parents_bound c.args.chart.now c.args.at (option_map seen_binding c.args.binding.now) c.requires.bound in
    no_parents c.args.chart.now c.args.at c.args.node.now (ap (option_map (λ v. v.items)) (sym c.in_default.is) ∙ (c.in_ok-parents.ensures ∙ bound))

pub returns-in_default-2 : goal.returns-in_default-2
returns-in_default-2 c =
    let bound = parents_bound c.args.chart.now c.args.at (option_map seen_binding c.args.binding.now) c.requires.bound in
    no_consumer c.args.chart.now c.args.at c.args.node.now c.in-Some.parents.items (ap (option_map (λ v. v.items)) (sym c.in-Some.is) ∙ (c.in_ok-parents.ensures ∙ bound))
    (ap (option_map (option_map seen_consumer)) (sym c.in_default-2.is) ∙ c.in_ok-consumer.ensures)

pub returns-in_default-3 : goal.returns-in_default-3
returns-in_default-3 c =
    let bound = parents_bound c.args.chart.now c.args.at (option_map seen_binding c.args.binding.now) c.requires.bound in
    no_lists c.args.chart.now c.args.at c.args.node.now c.in-Some.parents.items (option_map seen_consumer c.in-Some-2.consumer) (ap (option_map (λ v. v.items)) (sym c.in-Some.is) ∙ (c.in_ok-parents.ensures ∙ bound))
    (ap (option_map (option_map seen_consumer)) (sym c.in-Some-2.is) ∙ c.in_ok-consumer.ensures) (ap (option_map seen_lists) (sym c.in_default-3.is) ∙ c.in_ok-lists.ensures)

pub returns : goal.returns
returns c =
    let bound = parents_bound c.args.chart.now c.args.at (option_map seen_binding c.args.binding.now) c.requires.bound in
    links_made c.args.chart.now c.args.at c.args.node.now c.in-Some.parents.items (option_map seen_consumer c.in-Some-2.consumer) (seen_lists c.in-Some-3.lists) (ap (option_map (λ v. v.items)) (sym c.in-Some.is) ∙ (c.in_ok-parents.ensures ∙ bound))
    (ap (option_map (option_map seen_consumer)) (sym c.in-Some-2.is) ∙ c.in_ok-consumer.ensures) (ap (option_map seen_lists) (sym c.in-Some-3.is) ∙ c.in_ok-lists.ensures)
