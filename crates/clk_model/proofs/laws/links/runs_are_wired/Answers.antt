use Rattle.clk_model.proofs.LinkLaws.{runs_are_wired}
use Rattle.clk_model.proofs.ShapeLaws.{events_keep_shape}
use Rattle.clk_model.proofs.laws.links.runs_are_wired.Goals as goal

pub returns : goal.returns
returns c = record { shape = events_keep_shape; wired = runs_are_wired }
