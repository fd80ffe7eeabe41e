use Rattle.core_parts.proofs.WindowLaws.{told_first}
use Rattle.core_parts.proofs.window.Window.bank.Goals as goal

pub returns-clause-told : goal.returns-clause-told
returns-clause-told g c =
    let bank = c.self.inside.bank in
    rw (← c.self.view_is) (told_first c.self.inside.size (g.B.Bank.size bank) (g.B.Bank.contents bank) c.self.invariant (g.met.B.Bank.sized bank) (g.met.B.Bank.whole bank))
