use Rattle.std.proofs.Common.{subst, sym, ◌∙◌, ◌≡◌, Some, Result, IfOk}
use Rattle.clap.specs.Simple.{app_of}
use Rattle.clk_cli.specs.Meaning.{texts, meaning}
use Rattle.clk_cli.specs.declared.cli.Cli.{Cli}
use Rattle.clk_cli.specs.declared.cli.CliFault.{CliFault}
use Rattle.clk_cli.proofs.Matches.{told-ok, told-usage}
use Rattle.clk_cli.proofs.reading.words.Goals as goal

pub returns-clause-ok : goal.returns-clause-ok
returns-clause-ok c =
    subst (λ (r : Result Cli CliFault). IfOk r (λ cli. meaning (texts c.args.words.now) ≡ Some cli)) (sym c.cli_in.ensures)
    (told-ok (app_of c.in-Ok.command) (texts c.args.words.now) c.try_get_matches_from.result c.in-Ok.ensures c.try_get_matches_from.ensures.kinds c.try_get_matches_from.ensures.matches)

pub returns-clause-usage : goal.returns-clause-usage
returns-clause-usage c = λ same.
    told-usage (app_of c.in-Ok.command) (texts c.args.words.now) c.try_get_matches_from.result c.in-Ok.ensures c.try_get_matches_from.ensures.kinds c.try_get_matches_from.ensures.matches (sym c.cli_in.ensures ∙ same)
