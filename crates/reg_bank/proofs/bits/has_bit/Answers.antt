use Rattle.reg_bank.proofs.Masks.{tested_bit}
use Rattle.reg_bank.proofs.bits.has_bit.Goals as goal

pub returns : goal.returns
returns c = tested_bit c.args.value c.args.bit
