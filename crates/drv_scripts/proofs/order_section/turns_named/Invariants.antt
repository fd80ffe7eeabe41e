use Rattle.std.proofs.Common.{◌≡◌, ◌++◌, drop}
use Rattle.std.specs.Option.{option_map}
use Rattle.bundle_text.specs.Words.{texts}
use Rattle.drv_scripts.specs.ListLines.{turns_named}
use Rattle.drv_scripts.proofs.order_section.turns_named.Given as goal

-- the numbers so far, and those of the words that are left, if all of them name drivers
abbrev pub invariant-loop-word : goal.invariant-loop-word
invariant-loop-word l =
    option_map (λ more. l.turns.items ++ more) (turns_named (texts l.drivers) (texts (drop l.word-index l.words))) ≡ turns_named (texts l.drivers) (texts l.words)
