-- What a printer promises of the text that it was to write.
use Rattle.std.specs.Prelude.{ℕ, Option, List, Result, MatchResult}
use Rattle.std.specs.Io.KnownBytes.{Appends}
use Rattle.clk_io.specs.Streams.{AppendsFront}

-- what was printed is this text, or a front of it after a fault
abbrev pub Prints : {T E : Type 0} → Option (List ℕ) → Option (List ℕ) → List ℕ → Result T E → Type 0
Prints old new text r = MatchResult r (λ _. Appends old new text) (λ _. AppendsFront old new text)
