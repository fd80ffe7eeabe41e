use Rattle.clk_machine.proofs.machine.Machine.driver.Goals as goal

pub returns-clause-paid : goal.returns-clause-paid
returns-clause-paid g c = rw (← c.self.view_is) c.self.invariant.paid.within
