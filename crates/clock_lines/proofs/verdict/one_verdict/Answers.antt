use Rattle.clock_lines.proofs.Verdicts.{one_description, one_refusal, never_both, decided}
use Rattle.clock_lines.proofs.verdict.one_verdict.Goals as goal

pub returns-clause-one_description : goal.returns-clause-one_description
returns-clause-one_description c = one_description

pub returns-clause-one_refusal : goal.returns-clause-one_refusal
returns-clause-one_refusal c = one_refusal

pub returns-clause-not_both : goal.returns-clause-not_both
returns-clause-not_both c = never_both

pub returns-clause-decided : goal.returns-clause-decided
returns-clause-decided c = decided
