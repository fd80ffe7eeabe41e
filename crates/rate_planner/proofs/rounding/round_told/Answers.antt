-- The rate of a rounding is the rate that the clock would get.
use Rattle.std.proofs.Common.{ap}
use Rattle.std.specs.Option.{option_map}
use Rattle.clk_model.specs.Round.{Rounded}
use Rattle.rate_planner.proofs.rounding.round_told.Goals as goal

pub returns-in-Some : goal.returns-in-Some
returns-in-Some g c = λ regs kept. ap (option_map (λ (r : Rounded). r.rate)) (c.in-Some.ensures.rounding regs kept)

pub returns-in-None : goal.returns-in-None
returns-in-None g c = λ regs kept. ap (option_map (λ (r : Rounded). r.rate)) (c.in-None.ensures.rounding regs kept)
