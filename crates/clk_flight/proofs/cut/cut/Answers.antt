-- The visit that stays is of the clock that is missed.
use Rattle.std.proofs.Common.{ap, ◌∙◌}
use Rattle.clk_flight.specs.Parts.{missed_of}
use Rattle.clk_flight.proofs.Cutting.{cut_others}
use Rattle.clk_flight.proofs.cut.cut.Goals as goal

pub returns-in_default : goal.returns-in_default
returns-in_default c =
    let cut = cut_others c.args.call c.args.steps.now c.in_default.not-Prepare c.in_default.not-SetParent c.in_default.not-Probe c.in_default.not-Sweep in
    record {
      left = c.cut_rates.ensures.left ∙ cut.0;
      missed = ap (missed_of c.args.call) c.cut_rates.ensures.missed ∙ cut.1;
      within = c.cut_rates.ensures.within;
    }
