use Rattle.std.proofs.Common.{◌≡◌, refl}
use Rattle.clk_cli.specs.declared.usage.TheConstants.{USAGE_LINE}
use Rattle.clk_cli.specs.Usage.{usage_line}

-- the constant spells the line
pub USAGE_LINE-spells : USAGE_LINE.now ≡ usage_line
unfolding usage_line
USAGE_LINE-spells = refl
