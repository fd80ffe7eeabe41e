use Rattle.clk_phase.proofs.Ruled.{is_bulk}
use Rattle.clk_phase.proofs.laws.runs_are_commands.Goals as goal

pub returns : goal.returns
returns c = record { law = is_bulk }
