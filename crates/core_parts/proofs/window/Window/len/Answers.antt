use Rattle.core_parts.proofs.WindowLaws.{told_first}
use Rattle.core_parts.proofs.window.Window.len.Goals as goal

-- told words are words of 32 bits, by the bank's law
pub returns-clause-words : goal.returns-clause-words
returns-clause-words g c =
    let bank = c.self.inside.bank in
    rw (← c.self.view_is) (told_first c.self.inside.size (g.B.Bank.size bank) (g.B.Bank.contents bank) c.self.invariant (g.met.B.Bank.sized bank) (g.met.B.Bank.whole bank))
