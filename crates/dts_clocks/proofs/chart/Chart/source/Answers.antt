use Rattle.std.proofs.Common.{◌∙◌, length, ap}
use Rattle.std.specs.Prelude.{slice_get}
use Rattle.std.specs.Option.{unwrap_or}
use Rattle.dts_clocks.specs.declared.reference.Reference.TheVariants.{Lacking}
use Rattle.dts_clocks.specs.References.{source_at}
use Rattle.dts_clocks.proofs.Joins.{listed_or}
use Rattle.dts_clocks.proofs.Sources.{source_at-past}
use Rattle.dts_clocks.proofs.chart.Chart.source.Goals as goal

pub returns : goal.returns
returns c =
    let chart = c.self.inside in
    rw (← c.self.view_is) (c.source_in.ensures ∙ (ap (λ xs. unwrap_or (slice_get xs c.args.at) Lacking) c.deref.ensures.value
    ∙ listed_or (source_at chart.nodes) chart.sources.items (length chart.nodes) c.args.at Lacking c.self.invariant.sources_are (source_at-past chart.nodes c.args.at)))
