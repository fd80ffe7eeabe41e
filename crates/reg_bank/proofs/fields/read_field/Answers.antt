use Rattle.reg_bank.specs.Registers.{field, bits_of}
use Rattle.reg_bank.proofs.Told.{read_told}
use Rattle.reg_bank.proofs.fields.read_field.Goals as goal

pub returns-clause-value : goal.returns-clause-value
unfolding field
returns-clause-value g c =
    read_told (λ value. bits_of value c.args.shift c.args.width) (g.B.Bank.contents c.args.bank.now) c.read.result
    c.args.word c.field_of.result c.field_of.ensures.value c.read.ensures
