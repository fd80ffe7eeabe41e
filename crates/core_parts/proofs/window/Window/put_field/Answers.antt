use Rattle.std.proofs.Common.{◌<◌}
use Rattle.std.proofs.Common.{ap}
use Rattle.core_parts.proofs.LockLaws.{delay_of, behind_stays}
use Rattle.core_parts.proofs.WindowLaws.{field_told_put, field_behind_put}
use Rattle.core_parts.proofs.window.Window.put_field.Goals as goal

pub invariant_of-self : goal.invariant_of-self
invariant_of-self g c = rw c.write_field.ensures.size c.self.invariant

pub returns-clause-words : goal.returns-clause-words
returns-clause-words g c =
    let within : c.args.word < c.self.inside.size = rw (← c.self.view_is) at c.requires.word in
    rw (← c.self.view_is) (field_told_put c.self.inside.size (g.B.Bank.contents c.self.inside.bank) (g.B.Bank.contents c.write_field.new.bank) c.args.word c.args.shift c.args.width c.args.value within c.write_field.ensures.words)

pub returns-clause-behind : goal.returns-clause-behind
returns-clause-behind g c =
    let within : c.args.word < c.self.inside.size = rw (← c.self.view_is) at c.requires.word in
    rw (← c.self.view_is)
    (behind_stays c.self.inside.size (g.B.Bank.contents c.self.inside.bank) (g.B.Bank.contents c.write_field.new.bank) (g.B.Bank.lock c.self.inside.bank) (g.B.Bank.lock c.write_field.new.bank)
    (field_behind_put c.self.inside.size (g.B.Bank.contents c.self.inside.bank) (g.B.Bank.contents c.write_field.new.bank) c.args.word c.args.shift c.args.width c.args.value within c.write_field.ensures.words)
    (λ p. ap delay_of (c.write_field.ensures.locks p)))
