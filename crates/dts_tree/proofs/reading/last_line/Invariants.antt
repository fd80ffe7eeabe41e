use Rattle.std.proofs.Common.{◌≡◌, drop}
use Rattle.dts_tree.specs.Read.{last_line}
use Rattle.dts_tree.proofs.reading.last_line.Given as goal

-- the line so far, where no token is left
abbrev pub invariant-loop-token : goal.invariant-loop-token
invariant-loop-token l = last_line l.line (drop l.token-index l.tokens) ≡ last_line 1 l.tokens
