use Rattle.std.proofs.Common.{◌≡◌, None, ◌<◌, length, true, sym, ap, subst}
use Rattle.clk_base.specs.Description.{Description}
use Rattle.clk_base.specs.declared.call.Micro.TheVariants as micro
use Rattle.clk_flight.specs.Flights.{FlightState}
use Rattle.clk_machine.specs.Landing.{Requests}
use Rattle.clk_machine.specs.Making.{ComesFirst}
use Rattle.clk_machine.specs.Parts.{Parts, parts_of}
use Rattle.clk_machine.proofs.Ending.{IsRequested, whole_landed, whole_requested, end_enters}
use Rattle.clk_machine.proofs.Landings.{requested_ends, clock_among}
use Rattle.clk_machine.proofs.Making.{with_step}
use Rattle.core_parts.proofs.Moving.{clock_within}
use Rattle.core_parts.specs.Tied.{desc_of}
use Rattle.clk_machine.specs.Landing.{reply_of}
use Rattle.clk_machine.proofs.Described.{whole_described, enters_described}
use Rattle.core_parts.proofs.Described.{desc_same}
use Rattle.clk_base.specs.declared.event.Event.TheVariants as event
use Rattle.clk_base.specs.declared.event.Turn.TheVariants as turn
use Rattle.clk_machine.proofs.machine.Machine.land_requested.Goals as goal

pub set_last_request-requires : goal.set_last_request-requires
set_last_request-requires g c =
    let m = c.self.inside in
    let p : Parts = parts_of m.window m.tree m.handles m.counts m.notifiers m.credits m.spent m.ignore_unused m.flight m.course m.prepare_holds m.enable_holds m.steps in
    let requests : Requests p c.args.clock c.args.rate = subst (λ (q : Parts). Requests q c.args.clock c.args.rate) (sym c.self.view_is) c.requires.requests in
    record { place = subst (λ (d : Description). c.args.clock.0 < length d) (sym c.self.invariant.tied.defs) (clock_within (desc_of m.tree) m.window m.tree c.args.clock.0 c.self.invariant.tied requests.there) }

pub invariant_of-self : goal.invariant_of-self
invariant_of-self g c =
    let m = c.self.inside in
    let p : Parts = parts_of m.window m.tree m.handles m.counts m.notifiers m.credits m.spent m.ignore_unused m.flight m.course m.prepare_holds m.enable_holds m.steps in
    let going : p.flight.going ≡ true = subst (λ (q : Parts). q.flight.going ≡ true) (sym c.self.view_is) c.requires.going in
    let requests : Requests p c.args.clock c.args.rate = subst (λ (q : Parts). Requests q c.args.clock c.args.rate) (sym c.self.view_is) c.requires.requests in
    let requested_ : IsRequested m.tree c.set_last_request.new.self c.args.clock.0 c.args.rate = record {
      place = clock_among p c.args.clock.0 c.self.invariant requests.there;
      clocks = c.set_last_request.ensures.request;
      order = c.set_last_request.ensures.order;
      rates = c.set_last_request.ensures.rates;
      defs = c.set_last_request.ensures.defs;
      stands = c.set_last_request.ensures.stands;
    } in
    whole_described (record (with_step p m.window c.end.new.self) { tree = c.set_last_request.new.self }) (desc_same c.set_last_request.new.self m.tree c.set_last_request.ensures.words c.set_last_request.ensures.defs)
    (whole_requested (with_step p m.window c.end.new.self) c.set_last_request.new.self c.args.clock.0 c.args.rate (whole_landed p c.end.new.self c.self.invariant going c.end.ensures.flight) (ap (λ (f : FlightState). f.going) c.end.ensures.flight) requested_)

pub returns : goal.returns
returns g c =
    let m = c.self.inside in
    let p : Parts = parts_of m.window m.tree m.handles m.counts m.notifiers m.credits m.spent m.ignore_unused m.flight m.course m.prepare_holds m.enable_holds m.steps in
    let going : p.flight.going ≡ true = subst (λ (q : Parts). q.flight.going ≡ true) (sym c.self.view_is) c.requires.going in
    let first : ComesFirst p micro.End = subst (λ (q : Parts). ComesFirst q micro.End) (sym c.self.view_is) c.requires.first in
    let requests : Requests p c.args.clock c.args.rate = subst (λ (q : Parts). Requests q c.args.clock c.args.rate) (sym c.self.view_is) c.requires.requests in
    let requested_ : IsRequested m.tree c.set_last_request.new.self c.args.clock.0 c.args.rate = record {
      place = clock_among p c.args.clock.0 c.self.invariant requests.there;
      clocks = c.set_last_request.ensures.request;
      order = c.set_last_request.ensures.order;
      rates = c.set_last_request.ensures.rates;
      defs = c.set_last_request.ensures.defs;
      stands = c.set_last_request.ensures.stands;
    } in
    rw (← c.self.view_is)
    (enters_described p p.flight.driver (event.Step micro.End None) (turn.Done (reply_of p.flight.vetoed p.flight.timed_out)) (record (with_step p m.window c.end.new.self) { tree = c.set_last_request.new.self }) (desc_same c.set_last_request.new.self m.tree c.set_last_request.ensures.words c.set_last_request.ensures.defs)
    (end_enters p _ _ (requested_ends p c.args.clock c.args.rate c.end.new.self c.set_last_request.new.self c.self.invariant going c.end.ensures.flight requested_ first requests)))
