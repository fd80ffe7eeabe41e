use Rattle.std.proofs.Common.{sym, subst}
use Rattle.clk_base.specs.declared.call.Micro.{Micro}
use Rattle.clk_machine.specs.Along.{SweepsAlong}
use Rattle.clk_machine.proofs.SweptAlong.{others_stay}
use Rattle.clk_machine.proofs.machine.Machine.sweep_on.Goals as goal

pub returns-in-Poll-clause-along : goal.returns-in-Poll-clause-along
returns-in-Poll-clause-along g c = subst (λ (m : Micro). SweepsAlong c.args.self.now m c.switch_along.new.self) (sym c.in-Poll.is) (λ s stands there. c.switch_along.ensures.stands s stands)

pub returns-in-Fall-clause-along : goal.returns-in-Fall-clause-along
returns-in-Fall-clause-along g c = subst (λ (m : Micro). SweepsAlong c.args.self.now m c.switch_along-in-Fall.new.self) (sym c.in-Fall.is) (λ s stands there. c.switch_along-in-Fall.ensures.stands s stands)

pub returns-in-Lower-clause-along : goal.returns-in-Lower-clause-along
returns-in-Lower-clause-along g c = subst (λ (m : Micro). SweepsAlong c.args.self.now m c.lower_if_there.new.self) (sym c.in-Lower.is) c.lower_if_there.ensures.along

pub returns-in-Unpower-clause-along : goal.returns-in-Unpower-clause-along
returns-in-Unpower-clause-along g c = subst (λ (m : Micro). SweepsAlong c.args.self.now m c.switch_along-in-Unpower.new.self) (sym c.in-Unpower.is) (λ s stands there. c.switch_along-in-Unpower.ensures.stands s stands)

pub returns-in_default-clause-along : goal.returns-in_default-clause-along
returns-in_default-clause-along g c = others_stay c.args.self.now c.args.step c.in_default.not-Poll c.in_default.not-Fall c.in_default.not-Lower c.in_default.not-Unpower
