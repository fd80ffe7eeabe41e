use Rattle.std.proofs.Common.{ap, sym, ◌∙◌}
use Rattle.std.specs.Option.{option_map}
use Rattle.dts_tree.proofs.Shown.{map_some}
use Rattle.dts_bindings.specs.Binding.{seen_binding}
use Rattle.dts_clocks.specs.Consumers.{seen_consumer}
use Rattle.dts_clocks.specs.Loaded.{seen_loaded}
use Rattle.dts_clocks.specs.SecondPass.{seen_links}
use Rattle.dts_clocks.proofs.Fresh.{fresh}
use Rattle.dts_clocks.proofs.Gathering.{loaded_more, loaded_same}
use Rattle.dts_clocks.proofs.Linking.{more_entries, no_entries}
use Rattle.dts_clocks.proofs.loading.add_at.Goals as goal

pub add-requires : goal.add-requires
add-requires c = fresh c.args.chart.now c.args.at (option_map seen_binding c.args.binding.now) (seen_loaded c.args.loaded.now) c.requires.bound c.requires.first c.requires.second c.requires.so_far

pub returns-in_default-clause-loaded : goal.returns-in_default-clause-loaded
returns-in_default-clause-loaded c =
    loaded_same c.args.chart.now c.args.at (seen_loaded c.args.loaded.now) (ap (option_map seen_links) (sym c.in_default.is) ∙ c.in_ok-links.ensures.links) c.requires.so_far

pub returns-in_default-clause-entries : goal.returns-in_default-clause-entries
returns-in_default-clause-entries c =
    no_entries c.args.chart.now c.args.at c.args.before c.requires.before (ap (option_map seen_links) (sym c.in_default.is) ∙ c.in_ok-links.ensures.links)

pub returns-clause-loaded : goal.returns-clause-loaded
returns-clause-loaded c =
    loaded_more c.args.chart.now c.args.at c.node.result (seen_links c.in-Some.links) (option_map seen_binding c.args.binding.now) (seen_loaded c.args.loaded.now)
    (seen_loaded c.add.new.loaded) c.node.ensures (ap (option_map seen_links) (sym c.in-Some.is) ∙ c.in_ok-links.ensures.links) c.requires.bound c.requires.so_far c.in_ok-add.ensures.defs
    c.in_ok-add.ensures.lines (map_some seen_consumer c.args.loaded.now.consumers.items c.add.new.loaded.consumers.items c.in-Some.links.consumer c.in_ok-add.ensures.consumers) c.in_ok-add.ensures.assigned

pub returns-clause-entries : goal.returns-clause-entries
returns-clause-entries c =
    c.entries_with-entries.ensures
    ∙ more_entries c.args.chart.now c.args.at (seen_links c.in-Some.links) c.args.before c.requires.before (ap (option_map seen_links) (sym c.in-Some.is) ∙ c.in_ok-links.ensures.links)
