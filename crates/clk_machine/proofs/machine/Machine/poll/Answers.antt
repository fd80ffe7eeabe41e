use Rattle.std.proofs.Common.{◌≡◌, true, Some, sym, subst}
use Rattle.clk_base.specs.declared.call.Micro.TheVariants as micro
use Rattle.clk_model.specs.State.{registered}
use Rattle.clk_flight.specs.Flights.{FlightState, own_step}
use Rattle.core_parts.specs.InFlight.{IsUnderWay}
use Rattle.clk_machine.specs.Making.{ComesFirst}
use Rattle.core_parts.specs.Listed.{rows_from}
use Rattle.clk_machine.specs.Parts.{Parts, parts_of}
use Rattle.core_parts.proofs.InFlight.{poll_in_front}
use Rattle.core_parts.proofs.StepsInFlight.{under_way-polled}
use Rattle.core_parts.proofs.Keeping.{along-polled}
use Rattle.core_parts.proofs.SameCall.{SameCall, KeepsAlong, same_polled}
use Rattle.clk_machine.proofs.Making.{whole_stepped}
use Rattle.clk_machine.proofs.Polling.{polled_again}
use Rattle.core_parts.proofs.Powering.{tied_same}
use Rattle.clk_machine.proofs.Raising.{polled_place, known_pll, poll_enters}
use Rattle.core_parts.specs.Tied.{desc_of}
use Rattle.clk_machine.proofs.machine.Machine.poll.Goals as goal

pub locked-yes-requires : goal.locked-yes-requires
locked-yes-requires g c =
    let m = c.self.inside in
    let p : Parts = parts_of m.window m.tree m.handles m.counts m.notifiers m.credits m.spent m.ignore_unused m.flight m.course m.prepare_holds m.enable_holds m.steps in
    let going : p.flight.going ≡ true = subst (λ (q : Parts). q.flight.going ≡ true) (sym c.self.view_is) c.requires.going in
    let own : own_step p.flight ≡ Some (micro.Poll c.args.pll) = subst (λ (q : Parts). own_step q.flight ≡ Some (micro.Poll c.args.pll)) (sym c.self.view_is) c.requires.next in
    known_pll p c.args.pll.0 c.self.invariant (polled_place p c.args.pll c.self.invariant going own)

pub invariant_of-self : goal.invariant_of-self
invariant_of-self g c =
    let m = c.self.inside in
    let p : Parts = parts_of m.window m.tree m.handles m.counts m.notifiers m.credits m.spent m.ignore_unused m.flight m.course m.prepare_holds m.enable_holds m.steps in
    let going : p.flight.going ≡ true = subst (λ (q : Parts). q.flight.going ≡ true) (sym c.self.view_is) c.requires.going in
    let own : own_step p.flight ≡ Some (micro.Poll c.args.pll) = subst (λ (q : Parts). own_step q.flight ≡ Some (micro.Poll c.args.pll)) (sym c.self.view_is) c.requires.next in
    whole_stepped p c.locked-yes.new.self c.poll.new.self c.self.invariant (tied_same (desc_of m.tree) m.window c.locked-yes.new.self m.tree c.self.invariant.tied c.locked-yes.ensures.size c.locked-yes.ensures.words) going (subst (λ (f : FlightState). KeepsAlong m.flight f) (sym c.poll.ensures.flight) (along-polled m.flight (registered m.tree.clocks) c.args.pll c.locked-yes.result own (c.self.invariant.flown going).way))
    (subst (λ (f : FlightState). SameCall m.flight f) (sym c.poll.ensures.flight) (same_polled m.flight c.locked-yes.result))
    (subst (λ (f : FlightState). IsUnderWay (registered m.tree.clocks) f) (sym c.poll.ensures.flight) (under_way-polled m.flight (registered m.tree.clocks) c.args.pll c.locked-yes.result own (c.self.invariant.flown going).way))
    (c.poll.ensures.less c.args.pll own (rows_from 0 m.notifiers))

pub returns-clause-enters : goal.returns-clause-enters
returns-clause-enters g c =
    let m = c.self.inside in
    let p : Parts = parts_of m.window m.tree m.handles m.counts m.notifiers m.credits m.spent m.ignore_unused m.flight m.course m.prepare_holds m.enable_holds m.steps in
    let going : p.flight.going ≡ true = subst (λ (q : Parts). q.flight.going ≡ true) (sym c.self.view_is) c.requires.going in
    let own : own_step p.flight ≡ Some (micro.Poll c.args.pll) = subst (λ (q : Parts). own_step q.flight ≡ Some (micro.Poll c.args.pll)) (sym c.self.view_is) c.requires.next in
    let first : ComesFirst p (micro.Poll c.args.pll) = subst (λ (q : Parts). ComesFirst q (micro.Poll c.args.pll)) (sym c.self.view_is) c.requires.first in
    rw (← c.self.view_is) (poll_enters p c.args.pll c.locked-yes.result c.locked-yes.new.self c.poll.new.self going own first c.locked-yes.ensures.size c.locked-yes.ensures.words c.locked-yes.ensures.behind c.poll.ensures.flight c.poll.ensures.change (c.poll.ensures.less c.args.pll own))

pub returns-clause-polls : goal.returns-clause-polls
returns-clause-polls g c =
    let m = c.self.inside in
    let p : Parts = parts_of m.window m.tree m.handles m.counts m.notifiers m.credits m.spent m.ignore_unused m.flight m.course m.prepare_holds m.enable_holds m.steps in
    let going : p.flight.going ≡ true = subst (λ (q : Parts). q.flight.going ≡ true) (sym c.self.view_is) c.requires.going in
    let own : own_step p.flight ≡ Some (micro.Poll c.args.pll) = subst (λ (q : Parts). own_step q.flight ≡ Some (micro.Poll c.args.pll)) (sym c.self.view_is) c.requires.next in
    let in_front = poll_in_front m.flight (registered m.tree.clocks) c.args.pll own (c.self.invariant.flown going).way in
    rw (← c.self.view_is) (record {
      inside = known_pll p c.args.pll.0 c.self.invariant (polled_place p c.args.pll c.self.invariant going own);
      lock = c.locked-yes.ensures.lock;
      told = c.locked-yes.ensures.answer;
      delays = c.locked-yes.ensures.delays;
      next = polled_again m.flight c.poll.new.self c.args.pll c.locked-yes.result in_front.polls in_front.again in_front.front c.poll.ensures.flight;
    })
