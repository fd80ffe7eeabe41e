use Rattle.std.proofs.Common.{◌≡◌, ◌<◌, true, false, Some, refl, sym, ap, subst, length}
use Rattle.std.specs.Prelude.{IfSome}
use Rattle.clk_base.specs.declared.call.Micro.TheVariants as micro
use Rattle.clk_base.specs.declared.clock.ClockDef.{ClockDef}
use Rattle.clk_model.specs.State.{registered}
use Rattle.clk_model.specs.Tree.{path}
use Rattle.clk_flight.specs.Flights.{FlightState, own_step}
use Rattle.core_parts.specs.InFlight.{IsUnderWay}
use Rattle.clk_machine.specs.Making.{ComesFirst}
use Rattle.core_parts.specs.Listed.{rows_from}
use Rattle.clk_machine.specs.Parts.{Parts, parts_of}
use Rattle.core_parts.specs.Plls.{lowerable, Finds}
use Rattle.core_parts.proofs.StepsInFlight.{under_way-lowered}
use Rattle.core_parts.proofs.Keeping.{along-lowered}
use Rattle.core_parts.proofs.SameCall.{SameCall, KeepsAlong}
use Rattle.clk_machine.proofs.Making.{whole_stepped}
use Rattle.core_parts.proofs.Powering.{tied_powered}
use Rattle.clk_machine.proofs.Raising.{power_lies, power_made, lower_enters}
use Rattle.core_parts.specs.Tied.{desc_of}
use Rattle.clk_machine.proofs.machine.Machine.power_down.Goals as goal

pub set_power-requires : goal.set_power-requires
set_power-requires g c =
    let m = c.self.inside in
    let p : Parts = parts_of m.window m.tree m.handles m.counts m.notifiers m.credits m.spent m.ignore_unused m.flight m.course m.prepare_holds m.enable_holds m.steps in
    let going : p.flight.going ≡ true = subst (λ (q : Parts). q.flight.going ≡ true) (sym c.self.view_is) c.requires.going in
    let place : c.args.pll.0 < length p.desc.defs = subst (λ (q : Parts). c.args.pll.0 < length q.desc.defs) (sym c.self.view_is) c.requires.place in
    power_lies p c.def.result.now.kind c.args.pll.0 c.self.invariant place (ap (λ (d : ClockDef). d.kind) c.def.ensures.def)

pub invariant_of-self : goal.invariant_of-self
invariant_of-self g c =
    let m = c.self.inside in
    let p : Parts = parts_of m.window m.tree m.handles m.counts m.notifiers m.credits m.spent m.ignore_unused m.flight m.course m.prepare_holds m.enable_holds m.steps in
    let going : p.flight.going ≡ true = subst (λ (q : Parts). q.flight.going ≡ true) (sym c.self.view_is) c.requires.going in
    let own : own_step p.flight ≡ Some (micro.Lower c.args.clock) = subst (λ (q : Parts). own_step q.flight ≡ Some (micro.Lower c.args.clock)) (sym c.self.view_is) c.requires.next in
    let place : c.args.pll.0 < length p.desc.defs = subst (λ (q : Parts). c.args.pll.0 < length q.desc.defs) (sym c.self.view_is) c.requires.place in
    whole_stepped p c.set_power.new.window c.lower.new.self c.self.invariant
    (tied_powered (desc_of m.tree) m.window c.set_power.new.window m.tree c.args.pll.0 false c.self.invariant.tied place c.set_power.ensures.size
    (power_made m.tree.defs c.def.result.now.kind c.args.pll.0 false m.window.words c.set_power.new.window.words (ap (λ (d : ClockDef). d.kind) c.def.ensures.def) c.set_power.ensures.words))
    going (subst (λ (f : FlightState). KeepsAlong m.flight f) (sym c.lower.ensures.flight) (along-lowered m.flight c.args.clock c.args.more own)) (subst (λ (f : FlightState). SameCall m.flight f) (sym c.lower.ensures.flight) (record { plls = refl; driver = refl; call = refl; going = refl }))
    (subst (λ (f : FlightState). IsUnderWay (registered m.tree.clocks) f) (sym c.lower.ensures.flight) (under_way-lowered m.flight (registered m.tree.clocks) c.args.clock c.args.more own (c.self.invariant.flown going).way))
    (c.lower.ensures.less (rows_from 0 m.notifiers))

pub returns : goal.returns
returns g c =
    let m = c.self.inside in
    let p : Parts = parts_of m.window m.tree m.handles m.counts m.notifiers m.credits m.spent m.ignore_unused m.flight m.course m.prepare_holds m.enable_holds m.steps in
    let going : p.flight.going ≡ true = subst (λ (q : Parts). q.flight.going ≡ true) (sym c.self.view_is) c.requires.going in
    let own : own_step p.flight ≡ Some (micro.Lower c.args.clock) = subst (λ (q : Parts). own_step q.flight ≡ Some (micro.Lower c.args.clock)) (sym c.self.view_is) c.requires.next in
    let first : ComesFirst p (micro.Lower c.args.clock) = subst (λ (q : Parts). ComesFirst q (micro.Lower c.args.clock)) (sym c.self.view_is) c.requires.first in
    let found : IfSome p.window.words (λ regs. Finds (record { pll = Some c.args.pll; more = c.args.more }) (lowerable p.desc.defs p.counts regs (path p.tree.clocks c.args.clock.0))) = subst (λ (q : Parts). IfSome q.window.words (λ regs. Finds (record { pll = Some c.args.pll; more = c.args.more }) (lowerable q.desc.defs q.counts regs (path q.tree.clocks c.args.clock.0)))) (sym c.self.view_is) c.requires.found in
    rw (← c.self.view_is) (lower_enters p c.args.clock c.args.pll c.args.more c.set_power.new.window c.lower.new.self (record {
      whole = c.self.invariant;
      going = going;
      first = first;
      found = found;
      size = c.set_power.ensures.size;
      words = power_made m.tree.defs c.def.result.now.kind c.args.pll.0 false m.window.words c.set_power.new.window.words (ap (λ (d : ClockDef). d.kind) c.def.ensures.def) c.set_power.ensures.words;
      behind = c.set_power.ensures.behind;
      locks = c.set_power.ensures.locks;
      flight = c.lower.ensures.flight;
      change = c.lower.ensures.change;
      less = c.lower.ensures.less;
    }))
