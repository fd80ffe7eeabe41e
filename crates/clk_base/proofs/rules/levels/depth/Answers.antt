-- The number is 64.
use Rattle.std.proofs.Common.{refl}
use Rattle.clk_base.specs.Levels.{depth}
use Rattle.clk_base.proofs.rules.levels.depth.Goals as goal

pub returns : goal.returns
unfolding depth
returns c = refl
