use Rattle.dts_tokens.proofs.OneReading.{one_list, one_flaw, not_both}
use Rattle.dts_tokens.proofs.Decided.{decided}
use Rattle.dts_tokens.proofs.laws.one_reading.Goals as goal

pub returns-clause-one_list : goal.returns-clause-one_list
returns-clause-one_list c = one_list

pub returns-clause-one_flaw : goal.returns-clause-one_flaw
returns-clause-one_flaw c = one_flaw

pub returns-clause-not_both : goal.returns-clause-not_both
returns-clause-not_both c = not_both

pub returns-clause-decided : goal.returns-clause-decided
returns-clause-decided c = decided
