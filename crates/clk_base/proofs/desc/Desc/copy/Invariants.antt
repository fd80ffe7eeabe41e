-- The clocks before the next one are copied.
use Rattle.std.proofs.Common.{◌≡◌, take}
use Rattle.clk_base.proofs.desc.Desc.copy.Given as goal

abbrev pub invariant-loop-def : goal.invariant-loop-def
invariant-loop-def l = l.copied ≡ take l.def-index l.self
