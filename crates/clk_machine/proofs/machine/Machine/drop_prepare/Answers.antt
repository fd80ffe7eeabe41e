use Rattle.std.proofs.Common.{◌≡◌, ◌<◌, ◌-◌, ◌∙◌, refl, arith, Some, get_or}
use Rattle.clk_model.specs.State.{handle_at}
use Rattle.clk_machine.specs.Parts.{Parts, parts_of}
use Rattle.clk_machine.specs.Holding.{prepared_less}
use Rattle.clk_machine.proofs.Room.{prepare_held}
use Rattle.clk_machine.proofs.Rows.{counted_place}
use Rattle.clk_machine.proofs.Writing.{Written, whole_written, becomes_written, written_prepares, row_place, counts_given}
use Rattle.clk_machine.proofs.machine.Machine.drop_prepare.Goals as goal

pub release-requires-clause-place : goal.release-requires-clause-place
release-requires-clause-place g c =
    let m = c.self.inside in
    let p : Parts = parts_of m.window m.tree m.handles m.counts m.notifiers m.credits m.spent m.ignore_unused m.flight m.course m.prepare_holds m.enable_holds m.steps in
    let row = c.args.row in
    let n = c.args.handle.number in
    let live : handle_at m.handles.handles n ≡ Some row = rw (← c.self.view_is) at c.requires.live in
    counted_place p row.clock.0 c.self.invariant (row_place p n row c.self.invariant live)

pub release-requires-clause-links : goal.release-requires-clause-links
release-requires-clause-links g c =
    let m = c.self.inside in
    let p : Parts = parts_of m.window m.tree m.handles m.counts m.notifiers m.credits m.spent m.ignore_unused m.flight m.course m.prepare_holds m.enable_holds m.steps in
    let row = c.args.row in
    let n = c.args.handle.number in
    let live : handle_at m.handles.handles n ≡ Some row = rw (← c.self.view_is) at c.requires.live in
    c.self.invariant.counted.stands.links

pub release-requires-clause-held : goal.release-requires-clause-held
release-requires-clause-held g c =
    let m = c.self.inside in
    let p : Parts = parts_of m.window m.tree m.handles m.counts m.notifiers m.credits m.spent m.ignore_unused m.flight m.course m.prepare_holds m.enable_holds m.steps in
    let row = c.args.row in
    let n = c.args.handle.number in
    let live : handle_at m.handles.handles n ≡ Some row = rw (← c.self.view_is) at c.requires.live in
    prepare_held p n row c.self.invariant live c.requires.some

pub invariant_of-self : goal.invariant_of-self
invariant_of-self g c =
    let m = c.self.inside in
    let p : Parts = parts_of m.window m.tree m.handles m.counts m.notifiers m.credits m.spent m.ignore_unused m.flight m.course m.prepare_holds m.enable_holds m.steps in
    let row = c.args.row in
    let n = c.args.handle.number in
    let live : handle_at m.handles.handles n ≡ Some row = rw (← c.self.view_is) at c.requires.live in
    let written : Written p n row (prepared_less row) c.set_counts.new.self c.release.new.self =
    written_prepares p n (get_or m.counts.prepares row.clock.0 0 - 1) row (prepared_less row) c.set_counts.new.self c.release.new.self c.self.invariant (record {
      live = live;
      clock = refl;
      driver = refl;
      handles = c.set_counts.ensures.counts ∙ counts_given m.handles.handles n (row.prepares - 1) row.enables row.exclusives row live;
      clocks = c.set_counts.ensures.clocks;
      more = omega arith;
    }) c.release.ensures.stands c.release.ensures.holders ((let held : 0 < get_or m.counts.prepares row.clock.0 0 = prepare_held p n row c.self.invariant live c.requires.some in let some = c.requires.some in omega arith)) refl refl in
    let left : m.spent < m.credits = rw (← c.self.view_is) at c.requires.credit in
    whole_written p n row (prepared_less row) m.window c.set_counts.new.self c.release.new.self c.self.invariant written left c.self.invariant.tied

pub returns : goal.returns
returns g c =
    let m = c.self.inside in
    let p : Parts = parts_of m.window m.tree m.handles m.counts m.notifiers m.credits m.spent m.ignore_unused m.flight m.course m.prepare_holds m.enable_holds m.steps in
    let row = c.args.row in
    let n = c.args.handle.number in
    let live : handle_at m.handles.handles n ≡ Some row = rw (← c.self.view_is) at c.requires.live in
    let written : Written p n row (prepared_less row) c.set_counts.new.self c.release.new.self =
    written_prepares p n (get_or m.counts.prepares row.clock.0 0 - 1) row (prepared_less row) c.set_counts.new.self c.release.new.self c.self.invariant (record {
      live = live;
      clock = refl;
      driver = refl;
      handles = c.set_counts.ensures.counts ∙ counts_given m.handles.handles n (row.prepares - 1) row.enables row.exclusives row live;
      clocks = c.set_counts.ensures.clocks;
      more = omega arith;
    }) c.release.ensures.stands c.release.ensures.holders ((let held : 0 < get_or m.counts.prepares row.clock.0 0 = prepare_held p n row c.self.invariant live c.requires.some in let some = c.requires.some in omega arith)) refl refl in
    rw (← c.self.view_is) (becomes_written p n row (prepared_less row) c.set_counts.new.self c.release.new.self written refl)
