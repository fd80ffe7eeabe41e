use Rattle.std.proofs.Common.{nat_eq}
use Rattle.reg_bank.specs.Registers.{is_set, field, bits_of}
use Rattle.reg_bank.proofs.Told.{read_told}
use Rattle.reg_bank.proofs.bits.read_bit.Goals as goal

pub returns : goal.returns
unfolding is_set field
returns g c =
    read_told (λ value. nat_eq (bits_of value c.args.bit 1) 1) (g.B.Bank.contents c.args.bank.now) c.read.result
    c.args.word c.has_bit.result c.has_bit.ensures c.read.ensures
