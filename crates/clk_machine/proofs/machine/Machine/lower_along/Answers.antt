use Rattle.clk_machine.proofs.SweptAlong.{lowered_one, lowered_none}
use Rattle.clk_machine.proofs.machine.Machine.lower_along.Goals as goal

pub returns-in-Some-clause-along : goal.returns-in-Some-clause-along
returns-in-Some-clause-along g c =
    lowered_one c.args.self.now c.power_along.new.self c.args.clock c.in-Some.pll c.to_lower-found.result c.to_lower-found.ensures.whole c.to_lower-found.ensures.found c.in-Some.is c.power_along.ensures.stands

pub returns-in_default-clause-along : goal.returns-in_default-clause-along
returns-in_default-clause-along g c =
    lowered_none c.args.self.now c.args.clock c.to_lower-found.result c.to_lower-found.ensures.whole c.to_lower-found.ensures.found c.in_default.is
