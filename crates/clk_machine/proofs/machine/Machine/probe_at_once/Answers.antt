use Rattle.std.proofs.Common.{refl}
use Rattle.clk_base.specs.declared.event.Event.TheVariants.{Begin}
use Rattle.clk_base.specs.declared.event.Reply.TheVariants.{Fine}
use Rattle.clk_base.specs.declared.call.Sleeping.TheVariants.{Probe}
use Rattle.clk_model.specs.Begin.{register}
use Rattle.clk_machine.proofs.Entered.{enters}
use Rattle.clk_machine.proofs.Probing.{may_probe, probe_calm}
use Rattle.clk_machine.proofs.machine.Machine.probe_at_once.Goals as goal

pub returns-then-is_critical : goal.returns-then-is_critical
returns-then-is_critical g c =
    enters c.args.self.now c.register_critical.new.self c.args.driver (Begin (Probe c.args.clock)) Fine (λ s. register s c.args.clock.0) refl c.requires.quiet c.requires.credit c.register_critical.ensures
    (λ s stands sound. probe_calm s c.args.driver c.args.clock (may_probe c.args.self.now s c.args.clock stands c.requires.quiet c.requires.free) (c.requires.calm s stands sound))

pub returns-else-is_critical : goal.returns-else-is_critical
returns-else-is_critical g c =
    enters c.args.self.now c.register.new.self c.args.driver (Begin (Probe c.args.clock)) Fine (λ s. register s c.args.clock.0) refl c.requires.quiet c.requires.credit c.register.ensures
    (λ s stands sound. probe_calm s c.args.driver c.args.clock (may_probe c.args.self.now s c.args.clock stands c.requires.quiet c.requires.free) (c.requires.calm s stands sound))
