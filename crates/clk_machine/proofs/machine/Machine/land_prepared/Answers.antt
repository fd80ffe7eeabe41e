use Rattle.std.proofs.Common.{◌≡◌, ◌+◌, ◌∙◌, true, false, refl, sym, ap, subst, arith, Some, get_or}
use Rattle.clk_model.specs.State.{handle_at}
use Rattle.clk_machine.specs.Parts.{Parts, parts_of}
use Rattle.clk_machine.specs.Holding.{prepared_more}
use Rattle.clk_base.specs.declared.call.Micro.TheVariants as micro
use Rattle.clk_base.specs.declared.call.Sleeping.TheVariants as call
use Rattle.clk_machine.specs.Making.{ComesFirst}
use Rattle.counts_core.specs.Counted.{CountState, is_active}
use Rattle.core_parts.specs.InFlight.{is_called_off}
use Rattle.clk_machine.proofs.Ending.{whole_ended, end_enters}
use Rattle.clk_machine.proofs.Landings.{prepared_ends}
use Rattle.clk_machine.proofs.Room.{row_few, prepare_room}
use Rattle.clk_machine.proofs.Rows.{counted_place}
use Rattle.clk_machine.proofs.Writing.{Written, written_prepares, row_place, counts_given}
use Rattle.clk_machine.proofs.machine.Machine.land_prepared.Goals as goal

pub hold-requires-clause-place : goal.hold-requires-clause-place
hold-requires-clause-place g c =
    let m = c.self.inside in
    let p : Parts = parts_of m.window m.tree m.handles m.counts m.notifiers m.credits m.spent m.ignore_unused m.flight m.course m.prepare_holds m.enable_holds m.steps in
    let row = c.args.row in
    let n = c.args.handle.number in
    let live : handle_at m.handles.handles n ≡ Some row = rw (← c.self.view_is) at c.requires.live in
    counted_place p row.clock.0 c.self.invariant (row_place p n row c.self.invariant live)

pub hold-requires-clause-links : goal.hold-requires-clause-links
hold-requires-clause-links g c =
    let m = c.self.inside in
    let p : Parts = parts_of m.window m.tree m.handles m.counts m.notifiers m.credits m.spent m.ignore_unused m.flight m.course m.prepare_holds m.enable_holds m.steps in
    let row = c.args.row in
    let n = c.args.handle.number in
    let live : handle_at m.handles.handles n ≡ Some row = rw (← c.self.view_is) at c.requires.live in
    c.self.invariant.counted.stands.links

pub hold-requires-clause-room : goal.hold-requires-clause-room
hold-requires-clause-room g c =
    let m = c.self.inside in
    let p : Parts = parts_of m.window m.tree m.handles m.counts m.notifiers m.credits m.spent m.ignore_unused m.flight m.course m.prepare_holds m.enable_holds m.steps in
    let row = c.args.row in
    let n = c.args.handle.number in
    let live : handle_at m.handles.handles n ≡ Some row = rw (← c.self.view_is) at c.requires.live in
    prepare_room p row.clock.0 c.self.invariant

pub overflow_add-row : goal.overflow_add-row
overflow_add-row g c =
    let m = c.self.inside in
    let p : Parts = parts_of m.window m.tree m.handles m.counts m.notifiers m.credits m.spent m.ignore_unused m.flight m.course m.prepare_holds m.enable_holds m.steps in
    let row = c.args.row in
    let n = c.args.handle.number in
    let live : handle_at m.handles.handles n ≡ Some row = rw (← c.self.view_is) at c.requires.live in
    let few = row_few p n row c.self.invariant live in
    omega arith

pub invariant_of-self : goal.invariant_of-self
invariant_of-self g c =
    let m = c.self.inside in
    let p : Parts = parts_of m.window m.tree m.handles m.counts m.notifiers m.credits m.spent m.ignore_unused m.flight m.course m.prepare_holds m.enable_holds m.steps in
    let row = c.args.row in
    let n = c.args.handle.number in
    let live : handle_at m.handles.handles n ≡ Some row = rw (← c.self.view_is) at c.requires.live in
    let written : Written p n row (prepared_more row) c.set_counts.new.self c.hold.new.self =
    written_prepares p n (get_or m.counts.prepares row.clock.0 0 + 1) row (prepared_more row) c.set_counts.new.self c.hold.new.self c.self.invariant (record {
      live = live;
      clock = refl;
      driver = refl;
      handles = c.set_counts.ensures.counts ∙ counts_given m.handles.handles n (row.prepares + 1) row.enables row.exclusives row live;
      clocks = c.set_counts.ensures.clocks;
      more = omega arith;
    }) c.hold.ensures.stands c.hold.ensures.holders (omega arith) refl refl in
    let going : p.flight.going ≡ true = subst (λ (q : Parts). q.flight.going ≡ true) (sym c.self.view_is) c.requires.going in
    whole_ended p n row (prepared_more row) c.set_counts.new.self c.hold.new.self c.end.new.self c.self.invariant going c.end.ensures.flight written

pub returns : goal.returns
returns g c =
    let m = c.self.inside in
    let p : Parts = parts_of m.window m.tree m.handles m.counts m.notifiers m.credits m.spent m.ignore_unused m.flight m.course m.prepare_holds m.enable_holds m.steps in
    let row = c.args.row in
    let n = c.args.handle.number in
    let live : handle_at m.handles.handles n ≡ Some row = rw (← c.self.view_is) at c.requires.live in
    let written : Written p n row (prepared_more row) c.set_counts.new.self c.hold.new.self =
    written_prepares p n (get_or m.counts.prepares row.clock.0 0 + 1) row (prepared_more row) c.set_counts.new.self c.hold.new.self c.self.invariant (record {
      live = live;
      clock = refl;
      driver = refl;
      handles = c.set_counts.ensures.counts ∙ counts_given m.handles.handles n (row.prepares + 1) row.enables row.exclusives row live;
      clocks = c.set_counts.ensures.clocks;
      more = omega arith;
    }) c.hold.ensures.stands c.hold.ensures.holders (omega arith) refl refl in
    let going : p.flight.going ≡ true = subst (λ (q : Parts). q.flight.going ≡ true) (sym c.self.view_is) c.requires.going in
    let first : ComesFirst p micro.End = subst (λ (q : Parts). ComesFirst q micro.End) (sym c.self.view_is) c.requires.first in
    let prepares : p.flight.call ≡ call.Prepare c.args.handle = subst (λ (q : Parts). q.flight.call ≡ call.Prepare c.args.handle) (sym c.self.view_is) c.requires.call in
    let timely : is_called_off p.flight ≡ false = subst (λ (q : Parts). is_called_off q.flight ≡ false) (sym c.self.view_is) c.requires.timely in
    rw (← c.self.view_is) (end_enters p _ _ (prepared_ends p c.args.handle row c.set_counts.new.self c.hold.new.self c.end.new.self c.self.invariant going c.end.ensures.flight written first prepares timely
    (λ d. ap (λ (k : CountState). is_active k d) c.hold.ensures.holders)))
