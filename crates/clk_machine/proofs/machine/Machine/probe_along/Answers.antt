use Rattle.std.proofs.Common.{◌∙◌, sym, inl, inr, arith}
use Rattle.clk_machine.proofs.Along.{along_probe, along_no_probe}
use Rattle.clk_machine.proofs.machine.Machine.probe_along.Goals as goal

pub returns-then-is_registered-clause-along : goal.returns-then-is_registered-clause-along
returns-then-is_registered-clause-along g c = along_no_probe c.args.self.now c.args.driver c.args.clock (inl (sym c.is_registered.ensures ∙ c.if-is_registered.true))

pub returns-then-credits_left-eq0-clause-along : goal.returns-then-credits_left-eq0-clause-along
returns-then-credits_left-eq0-clause-along g c = along_no_probe c.args.self.now c.args.driver c.args.clock (inr (let left = c.credits_left.ensures in let none = c.if-credits_left-eq0.true in omega arith))

pub returns-then-is_critical-clause-along : goal.returns-then-is_critical-clause-along
returns-then-is_critical-clause-along g c = along_probe c.args.self.now c.register_critical.new.self c.args.driver c.args.clock c.register_critical.ensures

pub returns-else-is_critical-clause-along : goal.returns-else-is_critical-clause-along
returns-else-is_critical-clause-along g c = along_probe c.args.self.now c.register.new.self c.args.driver c.args.clock c.register.ensures
