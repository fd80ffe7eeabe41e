use Rattle.std.proofs.Common.{◌≡◌, ◌∙◌, ◌∷◌, ◌^◌, ◌-◌, sym, ap, lit<}
use Rattle.std.specs.Prelude.{is_some, option_and_then}
use Rattle.std.proofs.lemmas.Str.Pattern.{strip_prefix_char}
use Rattle.clk_journal.specs.ReadNumbers.{minus, below, number}
use Rattle.clk_journal.proofs.Priorities.{signed, unsigned, there}
use Rattle.clk_journal.proofs.reading.notifier.is_priority.Goals as goal

pub returns-in-Some : goal.returns-in-Some
unfolding below
returns-in-Some c =
    let word : c.args.word.now ≡ 45 ∷ c.in-Some.digits.now = rw c.in-Some.is at (strip_prefix_char 45 c.args.word.now c.strip_prefix.result c.strip_prefix.ensures.cases (lit< tt)) in
    c.is_some_size.ensures ∙ ap (λ o. is_some (option_and_then minus o)) c.number.ensures.number ∙ ap is_some (sym (signed c.args.word.now c.in-Some.digits.now word))

pub returns-in-None : goal.returns-in-None
returns-in-None c =
    let plain = rw c.in-None.is at (strip_prefix_char 45 c.args.word.now c.strip_prefix.result c.strip_prefix.ensures.cases (lit< tt)) in
    c.is_some.ensures ∙ ap is_some c.number-in-None.ensures.number ∙ sym (there (number (2 ^ 31 - 1) c.args.word.now)) ∙ ap is_some (sym (unsigned c.args.word.now plain))
