use Rattle.counts_core.proofs.Standing.{tells_holds}
use Rattle.counts_core.proofs.laws.counts_tell_holds.Goals as goal

pub returns : goal.returns
returns c = record { law = tells_holds }
