use Rattle.std.proofs.Common.{◌≡◌, ◌∙◌, ℕ, List, Option, Some, Err, ap, inl, inr, refl, subst}
use Rattle.std.specs.Io.KnownBytes.{Appends}
use Rattle.clk_io.specs.Streams.{AppendsFront}
use Rattle.clk_cli.proofs.UsageText.{USAGE_LINE-spells}
use Rattle.clk_cli.specs.declared.cli.Cli.{Cli}
use Rattle.reg_bank.specs.declared.pll_lock.PllLock.{PllLock}
use Rattle.clk_run.specs.Outcomes.{Short, MeansShort}
use Rattle.clk_run.proofs.top.clkbench.Goals as goal

pub returns-in-Ok-write_all-clause-usage : goal.returns-in-Ok-write_all-clause-usage
returns-in-Ok-write_all-clause-usage g c = λ same. (c.words.ensures.usage (c.in-Err-Usage.is ∙ ap Err c.in-Err-Usage.field-0-is), refl, subst (Appends _ _) (c.as_bytes.ensures.value ∙ USAGE_LINE-spells) c.in-Ok-write_all.ensures.prints)

pub returns-clause-unwritten : goal.returns-clause-unwritten
returns-clause-unwritten g c = λ same. inl (c.words.ensures.usage (c.in-Err-Usage.is ∙ ap Err c.in-Err-Usage.field-0-is), subst (AppendsFront _ _) (c.as_bytes.ensures.value ∙ USAGE_LINE-spells) c.in-Err.ensures.prints)

-- what a run left short, for words that mean it
short_meant : (meant : Option Cli) (cli : Cli) (before : Option (List ℕ)) (lock : ℕ → Option PllLock) (left left' written written' : Option (List ℕ)) → meant ≡ Some cli
    → Short cli before lock left left' written written' → MeansShort meant before lock left left' written written'
short_meant meant cli before lock left left' written written' is (inl none) = inl none
short_meant meant cli before lock left left' written written' is (inr text) = inr (inr (cli, is, text))

pub returns-in-Ok-clause-short : goal.returns-in-Ok-clause-short
returns-in-Ok-clause-short g c = λ three. short_meant _ _ _ _ _ _ _ _ c.in-Ok.ensures.ok (c.run_side_by_side.ensures.short three)

pub returns-in-Ok-2-clause-short : goal.returns-in-Ok-2-clause-short
returns-in-Ok-2-clause-short g c = λ three. short_meant _ _ _ _ _ _ _ _ c.in-Ok.ensures.ok (c.simulate.ensures.short three)
