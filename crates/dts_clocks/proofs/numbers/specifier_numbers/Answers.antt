use Rattle.std.proofs.Common.{◌∙◌}
use Rattle.dts_clocks.proofs.Numbering.{named_by_head}
use Rattle.dts_clocks.proofs.numbers.specifier_numbers.Goals as goal

pub returns : goal.returns
returns c = λ s. c.in_ok-numbers.ensures s ∙ named_by_head c.args.chart.now c.deref.result.now s (c.deref.ensures.value ∙ c.in_ok-heads.ensures)
