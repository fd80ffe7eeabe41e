use Rattle.std.proofs.Common.{◌-◌, length}
use Rattle.dts_tokens.proofs.Cutting.{Reached}
use Rattle.dts_tokens.proofs.reading.tokens.Given as goal

-- the text is cut up to this place
abbrev pub invariant-loop-at : goal.invariant-loop-at
invariant-loop-at l = Reached l.bytes l.found.items l.scope l.at l.line

abbrev pub decreases-loop-at : goal.decreases-loop-at
decreases-loop-at l = length l.bytes - l.at
