use Rattle.std.proofs.Common.{length, arith}
use Rattle.dts_clocks.specs.Above.{is_passed}
use Rattle.dts_clocks.proofs.Joins.{listed_within, listed_read}
use Rattle.dts_clocks.proofs.chart.Chart.is_passed.Goals as goal

pub index-requires : goal.index-requires
index-requires c =
    let chart = c.self.inside in
    omega (arith, chart.passed.ok.0, listed_within (is_passed chart.nodes) chart.passed.items (length chart.nodes) c.args.at c.self.invariant.passed_are (rw c.self.view_is c.requires))

pub returns : goal.returns
returns c =
    let chart = c.self.inside in
    rw (← c.self.view_is) (listed_read (is_passed chart.nodes) chart.passed.items (length chart.nodes) c.args.at _ c.self.invariant.passed_are (rw c.self.view_is c.requires) c.index.ensures)
