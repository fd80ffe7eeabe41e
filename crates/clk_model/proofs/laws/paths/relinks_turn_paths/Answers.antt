use Rattle.clk_model.proofs.WholePathLaws.{relinks_leave_paths, relinks_turn_paths, relinks_stay_possible}
use Rattle.clk_model.proofs.laws.paths.relinks_turn_paths.Goals as goal

pub returns : goal.returns
returns c = record { others = relinks_leave_paths; below = relinks_turn_paths; possible = relinks_stay_possible }
