use Rattle.clk_model.proofs.RateLaws.{rates_are_over_links, relinks_leave_rates, writes_leave_rates}
use Rattle.clk_model.proofs.laws.paths.rates_follow_paths.Goals as goal

pub returns : goal.returns
returns c = record { over = rates_are_over_links; links = relinks_leave_rates; fields = writes_leave_rates }
