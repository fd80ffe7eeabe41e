use Rattle.std.proofs.Common.{◌≡◌, ◌+◌, false, drop}
use Rattle.std.specs.Option.{option_map}
use Rattle.dts_tokens.specs.Pieces.{quote_end}
use Rattle.dts_tokens.proofs.scanning.string_end.Given as goal

-- the string ends in what is left
abbrev pub invariant-loop-index : goal.invariant-loop-index
invariant-loop-index l = quote_end false l.text ≡ option_map (λ n. l.index + n) (quote_end l.taken (drop l.index l.text))
