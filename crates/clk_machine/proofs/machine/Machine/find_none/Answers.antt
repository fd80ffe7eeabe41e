use Rattle.std.proofs.Common.{◌≡◌, ◌∙◌, ◌+◌, true, Some, refl, sym, ap, subst}
use Rattle.clk_model.specs.State.{registered}
use Rattle.clk_flight.specs.Flights.{FlightState, seeks_plls, own_step}
use Rattle.core_parts.specs.InFlight.{IsUnderWay}
use Rattle.clk_machine.specs.Making.{FindsNothing}
use Rattle.core_parts.specs.Listed.{rows_from}
use Rattle.clk_machine.specs.Parts.{Parts, parts_of}
use Rattle.core_parts.proofs.StepsInFlight.{under_way-none}
use Rattle.core_parts.proofs.Keeping.{along-none}
use Rattle.core_parts.proofs.SameCall.{SameCall, KeepsAlong}
use Rattle.clk_machine.proofs.Making.{whole_stepped}
use Rattle.clk_machine.proofs.Raising.{seeks_of, none_enters}
use Rattle.clk_machine.proofs.Polling.{starts_none}
use Rattle.clk_machine.proofs.machine.Machine.find_none.Goals as goal

pub find_none-requires : goal.find_none-requires
find_none-requires g c =
    let m = c.self.inside in
    let p : Parts = parts_of m.window m.tree m.handles m.counts m.notifiers m.credits m.spent m.ignore_unused m.flight m.course m.prepare_holds m.enable_holds m.steps in
    let going : p.flight.going ≡ true = subst (λ (q : Parts). q.flight.going ≡ true) (sym c.self.view_is) c.requires.going in
    let own : own_step p.flight ≡ Some (c.args.step) = subst (λ (q : Parts). own_step q.flight ≡ Some (c.args.step)) (sym c.self.view_is) c.requires.next in
    let nothing : FindsNothing p c.args.step = subst (λ (q : Parts). FindsNothing q c.args.step) (sym c.self.view_is) c.requires.seeks in
    record { next = ap seeks_plls own ∙ seeks_of m.flight.call (registered m.tree.clocks) c.args.step nothing.seeks }

pub invariant_of-self : goal.invariant_of-self
invariant_of-self g c =
    let m = c.self.inside in
    let p : Parts = parts_of m.window m.tree m.handles m.counts m.notifiers m.credits m.spent m.ignore_unused m.flight m.course m.prepare_holds m.enable_holds m.steps in
    let going : p.flight.going ≡ true = subst (λ (q : Parts). q.flight.going ≡ true) (sym c.self.view_is) c.requires.going in
    let own : own_step p.flight ≡ Some (c.args.step) = subst (λ (q : Parts). own_step q.flight ≡ Some (c.args.step)) (sym c.self.view_is) c.requires.next in
    let nothing : FindsNothing p c.args.step = subst (λ (q : Parts). FindsNothing q c.args.step) (sym c.self.view_is) c.requires.seeks in
    whole_stepped p m.window c.find_none.new.self c.self.invariant c.self.invariant.tied going (subst (λ (f : FlightState). KeepsAlong m.flight f) (sym c.find_none.ensures.flight) (along-none m.flight (registered m.tree.clocks) c.args.step own nothing.seeks))
    (subst (λ (f : FlightState). SameCall m.flight f) (sym c.find_none.ensures.flight) (record { plls = refl; driver = refl; call = refl; going = refl }))
    (subst (λ (f : FlightState). IsUnderWay (registered m.tree.clocks) f) (sym c.find_none.ensures.flight) (under_way-none m.flight (registered m.tree.clocks) c.args.step own nothing.seeks (c.self.invariant.flown going).way))
    (c.find_none.ensures.less (rows_from 0 m.notifiers))

pub returns-clause-enters : goal.returns-clause-enters
returns-clause-enters g c =
    let m = c.self.inside in
    let p : Parts = parts_of m.window m.tree m.handles m.counts m.notifiers m.credits m.spent m.ignore_unused m.flight m.course m.prepare_holds m.enable_holds m.steps in
    let going : p.flight.going ≡ true = subst (λ (q : Parts). q.flight.going ≡ true) (sym c.self.view_is) c.requires.going in
    let nothing : FindsNothing p c.args.step = subst (λ (q : Parts). FindsNothing q c.args.step) (sym c.self.view_is) c.requires.seeks in
    rw (← c.self.view_is) (none_enters p c.args.step c.find_none.new.self going nothing c.find_none.ensures.flight c.find_none.ensures.change c.find_none.ensures.less)

pub returns-clause-starts : goal.returns-clause-starts
returns-clause-starts g c =
    let m = c.self.inside in
    let p : Parts = parts_of m.window m.tree m.handles m.counts m.notifiers m.credits m.spent m.ignore_unused m.flight m.course m.prepare_holds m.enable_holds m.steps in
    rw (← c.self.view_is) (starts_none p (parts_of m.window m.tree m.handles m.counts m.notifiers m.credits m.spent m.ignore_unused c.find_none.new.self m.course m.prepare_holds m.enable_holds (m.steps + 1)) c.find_none.ensures.flight)
