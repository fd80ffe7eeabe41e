use Rattle.std.proofs.Common.{◌≡◌, true, Some, refl, sym, subst}
use Rattle.clk_base.specs.declared.call.Micro.TheVariants as micro
use Rattle.clk_model.specs.State.{registered}
use Rattle.clk_flight.specs.Flights.{FlightState, own_step}
use Rattle.core_parts.specs.InFlight.{IsUnderWay}
use Rattle.core_parts.specs.Listed.{rows_from}
use Rattle.core_parts.proofs.StepsInFlight.{under_way-polled}
use Rattle.core_parts.proofs.Keeping.{along-polled}
use Rattle.core_parts.proofs.SameCall.{SameCall, KeepsAlong, same_polled}
use Rattle.clk_machine.specs.Making.{ComesFirst}
use Rattle.clk_machine.specs.Parts.{Parts, parts_of}
use Rattle.clk_machine.proofs.Making.{whole_stepped}
use Rattle.clk_machine.proofs.Raising.{poll_enters}
use Rattle.clk_machine.proofs.machine.Machine.poll_as.Goals as goal

pub invariant_of-self : goal.invariant_of-self
invariant_of-self g c =
    let m = c.self.inside in
    let p : Parts = parts_of m.window m.tree m.handles m.counts m.notifiers m.credits m.spent m.ignore_unused m.flight m.course m.prepare_holds m.enable_holds m.steps in
    let going : p.flight.going ≡ true = subst (λ (q : Parts). q.flight.going ≡ true) (sym c.self.view_is) c.requires.going in
    let own : own_step p.flight ≡ Some (micro.Poll c.args.pll) = subst (λ (q : Parts). own_step q.flight ≡ Some (micro.Poll c.args.pll)) (sym c.self.view_is) c.requires.next in
    whole_stepped p m.window c.poll.new.self c.self.invariant c.self.invariant.tied going (subst (λ (f : FlightState). KeepsAlong m.flight f) (sym c.poll.ensures.flight) (along-polled m.flight (registered m.tree.clocks) c.args.pll c.args.yes own (c.self.invariant.flown going).way))
    (subst (λ (f : FlightState). SameCall m.flight f) (sym c.poll.ensures.flight) (same_polled m.flight c.args.yes))
    (subst (λ (f : FlightState). IsUnderWay (registered m.tree.clocks) f) (sym c.poll.ensures.flight) (under_way-polled m.flight (registered m.tree.clocks) c.args.pll c.args.yes own (c.self.invariant.flown going).way))
    (c.poll.ensures.less c.args.pll own (rows_from 0 m.notifiers))

pub returns : goal.returns
returns g c =
    let m = c.self.inside in
    let p : Parts = parts_of m.window m.tree m.handles m.counts m.notifiers m.credits m.spent m.ignore_unused m.flight m.course m.prepare_holds m.enable_holds m.steps in
    let going : p.flight.going ≡ true = subst (λ (q : Parts). q.flight.going ≡ true) (sym c.self.view_is) c.requires.going in
    let own : own_step p.flight ≡ Some (micro.Poll c.args.pll) = subst (λ (q : Parts). own_step q.flight ≡ Some (micro.Poll c.args.pll)) (sym c.self.view_is) c.requires.next in
    let first : ComesFirst p (micro.Poll c.args.pll) = subst (λ (q : Parts). ComesFirst q (micro.Poll c.args.pll)) (sym c.self.view_is) c.requires.first in
    rw (← c.self.view_is) (poll_enters p c.args.pll c.args.yes m.window c.poll.new.self going own first refl refl refl c.poll.ensures.flight c.poll.ensures.change (c.poll.ensures.less c.args.pll own))
