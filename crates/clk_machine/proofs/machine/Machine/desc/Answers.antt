use Rattle.core_parts.specs.Tied.{desc_of}
use Rattle.clk_machine.proofs.Described.{checked_same}
use Rattle.clk_machine.proofs.machine.Machine.desc.Goals as goal

pub returns-clause-desc : goal.returns-clause-desc
returns-clause-desc g c = rw (← c.self.view_is) (checked_same c.desc.result.now (desc_of c.self.inside.tree) c.desc.ensures.words c.desc.ensures.defs)
