use Rattle.std.proofs.Common.{◌∙◌, sym}
use Rattle.clk_machine.proofs.SweptAlong.{stands_past}
use Rattle.clk_machine.proofs.machine.Machine.switch_along.Goals as goal

pub returns-else-has_clock-clause-stands : goal.returns-else-has_clock-clause-stands
returns-else-has_clock-clause-stands g c = stands_past c.args.self.now c.args.pll.0 c.args.on (sym c.has_clock.ensures ∙ c.if-has_clock.false)
