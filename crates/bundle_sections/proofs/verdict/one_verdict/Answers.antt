use Rattle.bundle_sections.proofs.Verdicts.{same_division, same_refusal, never_both, each_decided}
use Rattle.bundle_sections.proofs.verdict.one_verdict.Goals as goal

pub returns-clause-one_division : goal.returns-clause-one_division
returns-clause-one_division c = same_division

pub returns-clause-one_refusal : goal.returns-clause-one_refusal
returns-clause-one_refusal c = same_refusal

pub returns-clause-not_both : goal.returns-clause-not_both
returns-clause-not_both c = never_both

pub returns-clause-decided : goal.returns-clause-decided
returns-clause-decided c = each_decided
