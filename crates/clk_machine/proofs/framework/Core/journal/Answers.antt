use Rattle.clk_machine.proofs.Lawful.{lawful}
use Rattle.clk_machine.proofs.framework.Core.journal.Goals as goal

pub returns-clause-laws : goal.returns-clause-laws
returns-clause-laws g c = rw (← c.self.view_is) (lawful c.self.inside.machine c.self.inside.words.items c.self.inside.log c.self.invariant)
