use Rattle.std.proofs.Common.{if◌then◌else◌}
use Rattle.reg_bank.specs.Registers.{put_bit, put, with_bits}
use Rattle.reg_bank.proofs.Told.{write_told}
use Rattle.reg_bank.proofs.bits.write_bit.Goals as goal

pub returns-clause-words : goal.returns-clause-words
unfolding put_bit put
returns-clause-words g c =
    write_told (λ value. with_bits value c.args.bit 1 (if c.args.value then 1 else 0))
    (g.B.Bank.contents c.args.bank.now) (g.B.Bank.contents c.write.new.self) c.read-old.result c.with_bit.result
    c.args.word c.with_bit.ensures c.read-old.ensures c.write.ensures.words
