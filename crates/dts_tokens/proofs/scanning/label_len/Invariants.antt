use Rattle.std.proofs.Common.{◌≡◌, ℕ, ◌<◌, true, get_or}
use Rattle.dts_tokens.specs.Characters.{is_label_character}
use Rattle.dts_tokens.proofs.scanning.label_len.Given as goal

-- each character so far passes
abbrev pub invariant-loop-index : goal.invariant-loop-index
invariant-loop-index l = (k : ℕ) → k < l.index → is_label_character (get_or l.text k 0) ≡ true
