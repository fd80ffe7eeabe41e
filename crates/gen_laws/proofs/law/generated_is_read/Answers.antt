use Rattle.gen_laws.proofs.WholeBundle.{text-spells}
use Rattle.gen_laws.proofs.law.generated_is_read.Goals as goal

pub returns : goal.returns
returns c = text-spells
