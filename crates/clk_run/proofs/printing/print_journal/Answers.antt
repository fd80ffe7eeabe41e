use Rattle.clk_io.proofs.Chains.{AppendsFront-none}
use Rattle.clk_journal.proofs.Lines.{Gathers-fault}
use Rattle.clk_run.proofs.printing.print_journal.Goals as goal

pub returns-in_err-names-clause-gathers : goal.returns-in_err-names-clause-gathers
returns-in_err-names-clause-gathers g c = Gathers-fault _ _ _ _ _ _ c.from_residual.ensures.0 (AppendsFront-none _ _)
