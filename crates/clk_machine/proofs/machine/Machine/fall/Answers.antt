use Rattle.std.proofs.Common.{◌≡◌, true, false, [], Some, refl, sym, ap, subst}
use Rattle.clk_base.specs.declared.call.Micro.TheVariants as micro
use Rattle.clk_base.specs.declared.clock.ClockDef.{ClockDef}
use Rattle.clk_model.specs.State.{registered}
use Rattle.clk_flight.specs.Flights.{FlightState, comes_next}
use Rattle.core_parts.specs.InFlight.{IsUnderWay}
use Rattle.clk_machine.specs.Making.{ComesFirst}
use Rattle.clk_machine.specs.Parts.{Parts, parts_of}
use Rattle.core_parts.proofs.StepsInFlight.{under_way-fallen, fall_in_front}
use Rattle.core_parts.proofs.Keeping.{along-fallen}
use Rattle.core_parts.proofs.SameCall.{SameCall, KeepsAlong}
use Rattle.clk_machine.proofs.Making.{whole_stepped}
use Rattle.core_parts.proofs.Powering.{tied_powered}
use Rattle.clk_machine.proofs.Raising.{fallen_place, power_lies, power_made, fall_enters, fall_less}
use Rattle.core_parts.specs.Tied.{desc_of}
use Rattle.clk_machine.proofs.machine.Machine.fall.Goals as goal

pub def-requires : goal.def-requires
def-requires g c =
    let m = c.self.inside in
    let p : Parts = parts_of m.window m.tree m.handles m.counts m.notifiers m.credits m.spent m.ignore_unused m.flight m.course m.prepare_holds m.enable_holds m.steps in
    let going : p.flight.going ≡ true = subst (λ (q : Parts). q.flight.going ≡ true) (sym c.self.view_is) c.requires.going in
    let next : comes_next [] p.flight ≡ Some (micro.Fall c.args.pll) = subst (λ (q : Parts). comes_next [] q.flight ≡ Some (micro.Fall c.args.pll)) (sym c.self.view_is) c.requires.next in
    let place = fallen_place p c.args.pll c.self.invariant going next in
    record { place = place }

pub set_power-requires : goal.set_power-requires
set_power-requires g c =
    let m = c.self.inside in
    let p : Parts = parts_of m.window m.tree m.handles m.counts m.notifiers m.credits m.spent m.ignore_unused m.flight m.course m.prepare_holds m.enable_holds m.steps in
    let going : p.flight.going ≡ true = subst (λ (q : Parts). q.flight.going ≡ true) (sym c.self.view_is) c.requires.going in
    let next : comes_next [] p.flight ≡ Some (micro.Fall c.args.pll) = subst (λ (q : Parts). comes_next [] q.flight ≡ Some (micro.Fall c.args.pll)) (sym c.self.view_is) c.requires.next in
    let place = fallen_place p c.args.pll c.self.invariant going next in
    power_lies p c.def.result.now.kind c.args.pll.0 c.self.invariant place (ap (λ (d : ClockDef). d.kind) c.def.ensures.def)

pub invariant_of-self : goal.invariant_of-self
invariant_of-self g c =
    let m = c.self.inside in
    let p : Parts = parts_of m.window m.tree m.handles m.counts m.notifiers m.credits m.spent m.ignore_unused m.flight m.course m.prepare_holds m.enable_holds m.steps in
    let going : p.flight.going ≡ true = subst (λ (q : Parts). q.flight.going ≡ true) (sym c.self.view_is) c.requires.going in
    let next : comes_next [] p.flight ≡ Some (micro.Fall c.args.pll) = subst (λ (q : Parts). comes_next [] q.flight ≡ Some (micro.Fall c.args.pll)) (sym c.self.view_is) c.requires.next in
    let place = fallen_place p c.args.pll c.self.invariant going next in
    whole_stepped p c.set_power.new.window c.fall.new.self c.self.invariant
    (tied_powered (desc_of m.tree) m.window c.set_power.new.window m.tree c.args.pll.0 false c.self.invariant.tied place c.set_power.ensures.size
    (power_made m.tree.defs c.def.result.now.kind c.args.pll.0 false m.window.words c.set_power.new.window.words (ap (λ (d : ClockDef). d.kind) c.def.ensures.def) c.set_power.ensures.words))
    going (subst (λ (f : FlightState). KeepsAlong m.flight f) (sym c.fall.ensures.flight) (along-fallen m.flight (fall_in_front m.flight (registered m.tree.clocks) c.args.pll next (c.self.invariant.flown going).way).0)) (subst (λ (f : FlightState). SameCall m.flight f) (sym c.fall.ensures.flight) (record { plls = refl; driver = refl; call = refl; going = refl }))
    (subst (λ (f : FlightState). IsUnderWay (registered m.tree.clocks) f) (sym c.fall.ensures.flight) (under_way-fallen m.flight (registered m.tree.clocks) (fall_in_front m.flight (registered m.tree.clocks) c.args.pll next (c.self.invariant.flown going).way).0 (c.self.invariant.flown going).way))
    (fall_less p c.args.pll c.fall.new.self next c.fall.ensures.less)

pub returns : goal.returns
returns g c =
    let m = c.self.inside in
    let p : Parts = parts_of m.window m.tree m.handles m.counts m.notifiers m.credits m.spent m.ignore_unused m.flight m.course m.prepare_holds m.enable_holds m.steps in
    let going : p.flight.going ≡ true = subst (λ (q : Parts). q.flight.going ≡ true) (sym c.self.view_is) c.requires.going in
    let next : comes_next [] p.flight ≡ Some (micro.Fall c.args.pll) = subst (λ (q : Parts). comes_next [] q.flight ≡ Some (micro.Fall c.args.pll)) (sym c.self.view_is) c.requires.next in
    let place = fallen_place p c.args.pll c.self.invariant going next in
    let first : ComesFirst p (micro.Fall c.args.pll) = subst (λ (q : Parts). ComesFirst q (micro.Fall c.args.pll)) (sym c.self.view_is) c.requires.first in
    rw (← c.self.view_is) (fall_enters p c.args.pll c.set_power.new.window c.fall.new.self going next first c.set_power.ensures.size
    (power_made m.tree.defs c.def.result.now.kind c.args.pll.0 false m.window.words c.set_power.new.window.words (ap (λ (d : ClockDef). d.kind) c.def.ensures.def) c.set_power.ensures.words) c.set_power.ensures.behind c.set_power.ensures.locks c.fall.ensures.flight c.fall.ensures.change c.fall.ensures.less)
