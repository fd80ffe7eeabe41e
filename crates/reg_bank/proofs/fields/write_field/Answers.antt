use Rattle.reg_bank.specs.Registers.{put, with_bits}
use Rattle.reg_bank.proofs.Told.{write_told}
use Rattle.reg_bank.proofs.fields.write_field.Goals as goal

pub returns-clause-words : goal.returns-clause-words
unfolding put
returns-clause-words g c =
    write_told (λ value. with_bits value c.args.shift c.args.width c.args.value)
    (g.B.Bank.contents c.args.bank.now) (g.B.Bank.contents c.write.new.self) c.read-old.result c.with_field.result
    c.args.word c.with_field.ensures c.read-old.ensures c.write.ensures.words
