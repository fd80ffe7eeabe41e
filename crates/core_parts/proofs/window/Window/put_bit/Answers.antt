use Rattle.std.proofs.Common.{◌<◌}
use Rattle.std.proofs.Common.{ap}
use Rattle.core_parts.proofs.LockLaws.{delay_of, behind_stays}
use Rattle.core_parts.proofs.WindowLaws.{told_put, behind_put}
use Rattle.core_parts.proofs.window.Window.put_bit.Goals as goal

pub invariant_of-self : goal.invariant_of-self
invariant_of-self g c = rw c.write_bit.ensures.size c.self.invariant

pub returns-clause-words : goal.returns-clause-words
returns-clause-words g c =
    let within : c.args.word < c.self.inside.size = rw (← c.self.view_is) at c.requires.word in
    rw (← c.self.view_is) (told_put c.self.inside.size (g.B.Bank.contents c.self.inside.bank) (g.B.Bank.contents c.write_bit.new.bank) c.args.word c.args.bit c.args.value within c.write_bit.ensures.words)

pub returns-clause-behind : goal.returns-clause-behind
returns-clause-behind g c =
    let within : c.args.word < c.self.inside.size = rw (← c.self.view_is) at c.requires.word in
    rw (← c.self.view_is)
    (behind_stays c.self.inside.size (g.B.Bank.contents c.self.inside.bank) (g.B.Bank.contents c.write_bit.new.bank) (g.B.Bank.lock c.self.inside.bank) (g.B.Bank.lock c.write_bit.new.bank)
    (behind_put c.self.inside.size (g.B.Bank.contents c.self.inside.bank) (g.B.Bank.contents c.write_bit.new.bank) c.args.word c.args.bit c.args.value within c.write_bit.ensures.words)
    (λ p. ap delay_of (c.write_bit.ensures.locks p)))
