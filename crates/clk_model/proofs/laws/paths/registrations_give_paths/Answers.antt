use Rattle.clk_model.proofs.RateLaws.{registers_leave_others}
use Rattle.clk_model.proofs.WholePathLaws.{registers_give_paths, registers_stay_possible}
use Rattle.clk_model.proofs.laws.paths.registrations_give_paths.Goals as goal

pub returns : goal.returns
returns c = record { own = registers_give_paths; others = registers_leave_others; possible = registers_stay_possible }
