-- What printers promise of a text that is gathered on its way to a sink.
use Rattle.std.specs.Prelude.{◌≡◌, ℕ, ◌≤◌, nat_lt, if◌then◌else◌, Option, List, [], ◌++◌, length, take, Result, MatchResult}
use Rattle.std.specs.Io.KnownBytes.{Appends}
use Rattle.clk_io.specs.Streams.{AppendsFront}
use Rattle.clk_io.specs.declared.faults.PrintFault.{PrintFault}
use Rattle.clk_io.specs.declared.faults.PrintFault.TheVariants as printing

-- some bytes were written, and with what is gathered after them they are what was gathered before, with this text behind it
pub record PassesOn (old new : Option (List ℕ)) (before after text : List ℕ) : Type 0 where
  pub sent : List ℕ
  pub written : Appends old new sent
  pub kept : sent ++ after ≡ before ++ text

-- a text was gathered or written behind what was gathered before; after a fault a front of both was written
abbrev pub Gathers : {T E : Type 0} → Option (List ℕ) → Option (List ℕ) → List ℕ → List ℕ → List ℕ → Result T E → Type 0
Gathers old new before after text r = MatchResult r (λ _. PassesOn old new before after text) (λ _. AppendsFront old new (before ++ text))

-- what stays gathered of these bytes once those that make a piece are written
abbrev pub short_of_piece : ℕ → List ℕ → List ℕ
short_of_piece piece bytes = if nat_lt (length bytes) piece then bytes else []

-- out of memory, the lines printed so far are gathered or written, none lost; after a write that failed nothing is gathered
abbrev pub StaysGathered : Option (List ℕ) → Option (List ℕ) → List ℕ → List ℕ → List ℕ → PrintFault → Type 0
StaysGathered old new before after text printing.NoMemory = (n : ℕ) × (n ≤ length text) × PassesOn old new before after (take n text)
StaysGathered old new before after text printing.Write = after ≡ []
