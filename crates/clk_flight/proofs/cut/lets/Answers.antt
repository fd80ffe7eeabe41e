-- What is left begins at the place that was found.
use Rattle.std.proofs.Common.{◌∙◌, sym}
use Rattle.std.specs.Prelude.{not}
use Rattle.clk_model.specs.Step.{lets_go}
use Rattle.clk_flight.proofs.Cutting.{from_some, from_none, lets_are}
use Rattle.clk_flight.proofs.cut.lets.Goals as goal

pub returns-in-Some-clause-left : goal.returns-in-Some-clause-left
returns-in-Some-clause-left c = from_some (λ m. not (lets_go m)) c.args.steps.now c.in-Some.place (sym c.in-Some.is ∙ c.stay_place.ensures) ∙ lets_are c.args.steps.now

pub returns-in-None-clause-left : goal.returns-in-None-clause-left
returns-in-None-clause-left c = from_none (λ m. not (lets_go m)) c.args.steps.now (sym c.in-None.is ∙ c.stay_place.ensures) ∙ lets_are c.args.steps.now
