use Rattle.std.proofs.Common.{ap, sym, ◌∙◌}
use Rattle.std.specs.Option.{option_map}
use Rattle.dts_clocks.proofs.Listing.{lists_made}
use Rattle.dts_clocks.proofs.assigned.lists_of.Goals as goal

pub returns : goal.returns
returns c =
    lists_made c.args.chart.now c.args.node.now c.in-Some.clocks.items c.in-Some-2.parents.items c.in_ok-rates.rates.items (ap (option_map (λ v. v.items)) (sym c.in-Some.is) ∙ c.in_ok-clocks.ensures)
    (ap (option_map (λ v. v.items)) (sym c.in-Some-2.is) ∙ c.in_ok-parents.ensures) c.in_ok-rates.ensures
