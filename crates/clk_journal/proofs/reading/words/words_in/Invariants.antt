use Rattle.std.proofs.Common.{◌≡◌, ◌==◌, ◌++◌, take}
use denote.Text.{Utf8}
use denote.Shadow.{shadow}
use Rattle.std.specs.List.{slice_split}
use Rattle.clk_journal.specs.Words.{texts}
use Rattle.clk_journal.proofs.reading.words.words_in.Given as goal

abbrev pub invariant-loop-at : goal.invariant-loop-at
invariant-loop-at l = shadow (Utf8 l.rest) × (texts (take l.at l.room) ++ slice_split (λ b. b == 32) l.rest ≡ slice_split (λ b. b == 32) l.line)
