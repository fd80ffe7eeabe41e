-- What is left begins after the place that was found.
use Rattle.std.proofs.Common.{◌∙◌, sym}
use Rattle.clk_model.specs.Step.{is_close}
use Rattle.clk_flight.proofs.Cutting.{behind_some, behind_none}
use Rattle.clk_flight.proofs.cut.up_to_close.Goals as goal

pub returns-in-Some-clause-left : goal.returns-in-Some-clause-left
returns-in-Some-clause-left c = behind_some is_close c.args.steps.now c.in-Some.place (sym c.in-Some.is ∙ c.close_place.ensures)

pub returns-in-None-clause-left : goal.returns-in-None-clause-left
returns-in-None-clause-left c = behind_none is_close c.args.steps.now (sym c.in-None.is ∙ c.close_place.ensures)
