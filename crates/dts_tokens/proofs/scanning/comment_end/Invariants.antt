use Rattle.std.proofs.Common.{◌≡◌, ◌+◌, drop}
use Rattle.std.specs.Option.{option_map}
use Rattle.dts_tokens.specs.Pieces.{comment_end}
use Rattle.dts_tokens.proofs.scanning.comment_end.Given as goal

-- the comment ends in what is left
abbrev pub invariant-loop-index : goal.invariant-loop-index
invariant-loop-index l = comment_end l.text ≡ option_map (λ n. l.index + n) (comment_end (drop l.index l.text))
