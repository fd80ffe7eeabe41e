use Rattle.std.proofs.Common.{◌≡◌, None, ◌+◌, ◌<◌, ◌∙◌, length, true, false, refl, sym, ap, subst, arith, Some, get_or}
use Rattle.clk_model.specs.State.{handle_at}
use Rattle.clk_machine.specs.Parts.{Parts, parts_of}
use Rattle.clk_machine.specs.Holding.{exclusive_more}
use Rattle.clk_base.specs.Description.{Description}
use Rattle.clk_base.specs.declared.call.Micro.TheVariants as micro
use Rattle.clk_flight.specs.Flights.{FlightState}
use Rattle.clk_base.specs.declared.call.Sleeping.TheVariants as call
use Rattle.clk_machine.specs.Making.{ComesFirst}
use Rattle.counts_core.specs.Counted.{CountState, is_active}
use Rattle.core_parts.specs.InFlight.{is_called_off}
use Rattle.clk_machine.proofs.Ending.{IsRequested, with_ended, whole_ended, whole_requested, end_enters}
use Rattle.clk_machine.proofs.Landings.{held_ends, row_among}
use Rattle.clk_machine.proofs.Room.{row_few, exclusive_room}
use Rattle.clk_machine.proofs.Rows.{counted_place}
use Rattle.clk_machine.proofs.Writing.{Written, written_exclusives, row_place, counts_given}
use Rattle.clk_machine.specs.Landing.{reply_of}
use Rattle.clk_machine.proofs.Described.{whole_described, enters_described}
use Rattle.core_parts.proofs.Described.{desc_same}
use Rattle.clk_base.specs.declared.event.Event.TheVariants as event
use Rattle.clk_base.specs.declared.event.Turn.TheVariants as turn
use Rattle.clk_machine.proofs.machine.Machine.land_held.Goals as goal

pub protect-requires-clause-place : goal.protect-requires-clause-place
protect-requires-clause-place g c =
    let m = c.self.inside in
    let p : Parts = parts_of m.window m.tree m.handles m.counts m.notifiers m.credits m.spent m.ignore_unused m.flight m.course m.prepare_holds m.enable_holds m.steps in
    let row = c.args.row in
    let n = c.args.handle.number in
    let live : handle_at m.handles.handles n ≡ Some row = rw (← c.self.view_is) at c.requires.live in
    counted_place p row.clock.0 c.self.invariant (row_place p n row c.self.invariant live)

pub protect-requires-clause-links : goal.protect-requires-clause-links
protect-requires-clause-links g c =
    let m = c.self.inside in
    let p : Parts = parts_of m.window m.tree m.handles m.counts m.notifiers m.credits m.spent m.ignore_unused m.flight m.course m.prepare_holds m.enable_holds m.steps in
    let row = c.args.row in
    let n = c.args.handle.number in
    let live : handle_at m.handles.handles n ≡ Some row = rw (← c.self.view_is) at c.requires.live in
    c.self.invariant.counted.stands.links

pub protect-requires-clause-room : goal.protect-requires-clause-room
protect-requires-clause-room g c =
    let m = c.self.inside in
    let p : Parts = parts_of m.window m.tree m.handles m.counts m.notifiers m.credits m.spent m.ignore_unused m.flight m.course m.prepare_holds m.enable_holds m.steps in
    let row = c.args.row in
    let n = c.args.handle.number in
    let live : handle_at m.handles.handles n ≡ Some row = rw (← c.self.view_is) at c.requires.live in
    exclusive_room p row.clock.0 c.self.invariant

pub overflow_add-row : goal.overflow_add-row
overflow_add-row g c =
    let m = c.self.inside in
    let p : Parts = parts_of m.window m.tree m.handles m.counts m.notifiers m.credits m.spent m.ignore_unused m.flight m.course m.prepare_holds m.enable_holds m.steps in
    let row = c.args.row in
    let n = c.args.handle.number in
    let live : handle_at m.handles.handles n ≡ Some row = rw (← c.self.view_is) at c.requires.live in
    let few = row_few p n row c.self.invariant live in
    omega arith

pub set_last_request-requires : goal.set_last_request-requires
set_last_request-requires g c =
    let m = c.self.inside in
    let p : Parts = parts_of m.window m.tree m.handles m.counts m.notifiers m.credits m.spent m.ignore_unused m.flight m.course m.prepare_holds m.enable_holds m.steps in
    let row = c.args.row in
    let n = c.args.handle.number in
    let live : handle_at m.handles.handles n ≡ Some row = rw (← c.self.view_is) at c.requires.live in
    record { place = subst (λ (d : Description). row.clock.0 < length d) (sym c.self.invariant.tied.defs) (row_place p n row c.self.invariant live) }

pub invariant_of-self : goal.invariant_of-self
invariant_of-self g c =
    let m = c.self.inside in
    let p : Parts = parts_of m.window m.tree m.handles m.counts m.notifiers m.credits m.spent m.ignore_unused m.flight m.course m.prepare_holds m.enable_holds m.steps in
    let row = c.args.row in
    let n = c.args.handle.number in
    let live : handle_at m.handles.handles n ≡ Some row = rw (← c.self.view_is) at c.requires.live in
    let written : Written p n row (exclusive_more row) c.set_counts.new.self c.protect.new.self =
    written_exclusives p n (get_or m.counts.exclusives row.clock.0 0 + 1) row (exclusive_more row) c.set_counts.new.self c.protect.new.self c.self.invariant (record {
      live = live;
      clock = refl;
      driver = refl;
      handles = c.set_counts.ensures.counts ∙ counts_given m.handles.handles n row.prepares row.enables (row.exclusives + 1) row live;
      clocks = c.set_counts.ensures.clocks;
      more = omega arith;
    }) c.protect.ensures.stands c.protect.ensures.holders (omega arith) refl refl in
    let going : p.flight.going ≡ true = subst (λ (q : Parts). q.flight.going ≡ true) (sym c.self.view_is) c.requires.going in
    let requested_ : IsRequested m.tree c.set_last_request.new.self row.clock.0 c.args.rate = record {
      place = row_among p n row c.self.invariant live;
      clocks = c.set_last_request.ensures.request;
      order = c.set_last_request.ensures.order;
      rates = c.set_last_request.ensures.rates;
      defs = c.set_last_request.ensures.defs;
      stands = c.set_last_request.ensures.stands;
    } in
    whole_described (record (with_ended p c.set_counts.new.self c.protect.new.self c.end.new.self) { tree = c.set_last_request.new.self }) (desc_same c.set_last_request.new.self m.tree c.set_last_request.ensures.words c.set_last_request.ensures.defs)
    (whole_requested (with_ended p c.set_counts.new.self c.protect.new.self c.end.new.self) c.set_last_request.new.self row.clock.0 c.args.rate
    (whole_ended p n row (exclusive_more row) c.set_counts.new.self c.protect.new.self c.end.new.self c.self.invariant going c.end.ensures.flight written) (ap (λ (f : FlightState). f.going) c.end.ensures.flight) requested_)

pub returns : goal.returns
returns g c =
    let m = c.self.inside in
    let p : Parts = parts_of m.window m.tree m.handles m.counts m.notifiers m.credits m.spent m.ignore_unused m.flight m.course m.prepare_holds m.enable_holds m.steps in
    let row = c.args.row in
    let n = c.args.handle.number in
    let live : handle_at m.handles.handles n ≡ Some row = rw (← c.self.view_is) at c.requires.live in
    let written : Written p n row (exclusive_more row) c.set_counts.new.self c.protect.new.self =
    written_exclusives p n (get_or m.counts.exclusives row.clock.0 0 + 1) row (exclusive_more row) c.set_counts.new.self c.protect.new.self c.self.invariant (record {
      live = live;
      clock = refl;
      driver = refl;
      handles = c.set_counts.ensures.counts ∙ counts_given m.handles.handles n row.prepares row.enables (row.exclusives + 1) row live;
      clocks = c.set_counts.ensures.clocks;
      more = omega arith;
    }) c.protect.ensures.stands c.protect.ensures.holders (omega arith) refl refl in
    let going : p.flight.going ≡ true = subst (λ (q : Parts). q.flight.going ≡ true) (sym c.self.view_is) c.requires.going in
    let first : ComesFirst p micro.End = subst (λ (q : Parts). ComesFirst q micro.End) (sym c.self.view_is) c.requires.first in
    let requested_ : IsRequested m.tree c.set_last_request.new.self row.clock.0 c.args.rate = record {
      place = row_among p n row c.self.invariant live;
      clocks = c.set_last_request.ensures.request;
      order = c.set_last_request.ensures.order;
      rates = c.set_last_request.ensures.rates;
      defs = c.set_last_request.ensures.defs;
      stands = c.set_last_request.ensures.stands;
    } in
    let holds : p.flight.call ≡ call.SetRateExclusive c.args.handle c.args.rate = subst (λ (q : Parts). q.flight.call ≡ call.SetRateExclusive c.args.handle c.args.rate) (sym c.self.view_is) c.requires.call in
    let timely : is_called_off p.flight ≡ false = subst (λ (q : Parts). is_called_off q.flight ≡ false) (sym c.self.view_is) c.requires.timely in
    rw (← c.self.view_is)
    (enters_described p p.flight.driver (event.Step micro.End None) (turn.Done (reply_of p.flight.vetoed p.flight.timed_out)) (record (with_ended p c.set_counts.new.self c.protect.new.self c.end.new.self) { tree = c.set_last_request.new.self }) (desc_same c.set_last_request.new.self m.tree c.set_last_request.ensures.words c.set_last_request.ensures.defs)
    (end_enters p _ _ (held_ends p c.args.handle row c.args.rate c.set_counts.new.self c.protect.new.self c.end.new.self c.set_last_request.new.self c.self.invariant going c.end.ensures.flight written requested_ first holds timely
    (λ d. ap (λ (k : CountState). is_active k d) c.protect.ensures.holders))))
