use Rattle.std.proofs.Common.{◌∙◌, sym}
use Rattle.clk_framework.proofs.kernel.look_at.Goals as goal

pub returns-clause-lawful : goal.returns-clause-lawful
returns-clause-lawful g c = record {
  legal = c.journal.ensures.legal;
  lawful = λ told. record { fed = c.journal.ensures.fed told; laws = c.journal.ensures.laws told; quiet = sym (c.quiet.ensures.tells told) ∙ c.quiet.ensures.quiet };
}
