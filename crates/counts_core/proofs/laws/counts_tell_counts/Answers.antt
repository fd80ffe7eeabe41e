use Rattle.counts_core.proofs.Standing.{tells_counts}
use Rattle.counts_core.proofs.laws.counts_tell_counts.Goals as goal

pub returns : goal.returns
returns c = record { law = tells_counts }
