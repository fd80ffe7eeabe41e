use Rattle.std.proofs.Common.{◌<◌, sym, ap, subst, length}
use Rattle.clk_base.specs.declared.clock.ClockDef.{ClockDef}
use Rattle.core_parts.proofs.Powering.{tied_powered}
use Rattle.clk_machine.specs.Parts.{Parts, parts_of}
use Rattle.clk_machine.proofs.Raising.{power_made}
use Rattle.clk_machine.proofs.SweptAlong.{whole_tied, stands_powered}
use Rattle.clk_machine.proofs.Raising.{power_lies}
use Rattle.core_parts.specs.Tied.{desc_of}
use Rattle.clk_machine.proofs.machine.Machine.power_along.Goals as goal

pub set_power-requires : goal.set_power-requires
set_power-requires g c =
    let m = c.self.inside in
    let p : Parts = parts_of m.window m.tree m.handles m.counts m.notifiers m.credits m.spent m.ignore_unused m.flight m.course m.prepare_holds m.enable_holds m.steps in
    power_lies p c.def.result.now.kind c.args.pll.0 c.self.invariant (subst (λ (q : Parts). c.args.pll.0 < length q.desc.defs) (sym c.self.view_is) c.requires) (ap (λ (d : ClockDef). d.kind) c.def.ensures.def)

pub invariant_of-self : goal.invariant_of-self
invariant_of-self g c =
    let m = c.self.inside in
    let p : Parts = parts_of m.window m.tree m.handles m.counts m.notifiers m.credits m.spent m.ignore_unused m.flight m.course m.prepare_holds m.enable_holds m.steps in
    let words = power_made m.tree.defs c.def.result.now.kind c.args.pll.0 c.args.on m.window.words c.set_power.new.window.words (ap (λ (d : ClockDef). d.kind) c.def.ensures.def) c.set_power.ensures.words in
    whole_tied p c.set_power.new.window c.self.invariant
    (tied_powered (desc_of m.tree) m.window c.set_power.new.window m.tree c.args.pll.0 c.args.on c.self.invariant.tied (subst (λ (q : Parts). c.args.pll.0 < length q.desc.defs) (sym c.self.view_is) c.requires) c.set_power.ensures.size words)

pub returns-clause-stands : goal.returns-clause-stands
returns-clause-stands g c =
    let m = c.self.inside in
    let p : Parts = parts_of m.window m.tree m.handles m.counts m.notifiers m.credits m.spent m.ignore_unused m.flight m.course m.prepare_holds m.enable_holds m.steps in
    let words = power_made m.tree.defs c.def.result.now.kind c.args.pll.0 c.args.on m.window.words c.set_power.new.window.words (ap (λ (d : ClockDef). d.kind) c.def.ensures.def) c.set_power.ensures.words in
    rw (← c.self.view_is) (stands_powered p c.args.pll.0 c.args.on c.set_power.new.window words)
