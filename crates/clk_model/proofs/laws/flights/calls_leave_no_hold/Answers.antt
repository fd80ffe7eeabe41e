use Rattle.clk_model.proofs.RunsFedLaws.{runs_leave_no_hold}
use Rattle.clk_model.proofs.laws.flights.calls_leave_no_hold.Goals as goal

pub returns : goal.returns
returns c = record { runs = runs_leave_no_hold }
