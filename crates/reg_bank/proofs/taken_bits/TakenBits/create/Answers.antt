use Rattle.reg_bank.proofs.BitLaws.{is_set_zero}
use Rattle.reg_bank.proofs.taken_bits.TakenBits.create.Goals as goal

pub returns-clause-free : goal.returns-clause-free
returns-clause-free c = is_set_zero c.in_ok-zeros.field-0.items c.in_ok-zeros.ensures.zero
