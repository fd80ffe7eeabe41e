use Rattle.std.proofs.Common.{◌≡◌, ◌<◌, ◌+◌, ◌∙◌, refl, arith, Some, get_or}
use Rattle.clk_model.specs.State.{handle_at}
use Rattle.clk_machine.specs.Parts.{Parts, parts_of}
use Rattle.clk_machine.specs.Holding.{exclusive_more}
use Rattle.clk_machine.proofs.Room.{row_few, exclusive_room}
use Rattle.clk_machine.proofs.Rows.{counted_place}
use Rattle.clk_machine.proofs.Writing.{Written, whole_written, becomes_written, written_exclusives, row_place, counts_given}
use Rattle.clk_machine.proofs.machine.Machine.add_exclusive.Goals as goal

pub protect-requires-clause-place : goal.protect-requires-clause-place
protect-requires-clause-place g c =
    let m = c.self.inside in
    let p : Parts = parts_of m.window m.tree m.handles m.counts m.notifiers m.credits m.spent m.ignore_unused m.flight m.course m.prepare_holds m.enable_holds m.steps in
    let row = c.args.row in
    let n = c.args.handle.number in
    let live : handle_at m.handles.handles n ≡ Some row = rw (← c.self.view_is) at c.requires.live in
    counted_place p row.clock.0 c.self.invariant (row_place p n row c.self.invariant live)

pub protect-requires-clause-links : goal.protect-requires-clause-links
protect-requires-clause-links g c =
    let m = c.self.inside in
    let p : Parts = parts_of m.window m.tree m.handles m.counts m.notifiers m.credits m.spent m.ignore_unused m.flight m.course m.prepare_holds m.enable_holds m.steps in
    let row = c.args.row in
    let n = c.args.handle.number in
    let live : handle_at m.handles.handles n ≡ Some row = rw (← c.self.view_is) at c.requires.live in
    c.self.invariant.counted.stands.links

pub protect-requires-clause-room : goal.protect-requires-clause-room
protect-requires-clause-room g c =
    let m = c.self.inside in
    let p : Parts = parts_of m.window m.tree m.handles m.counts m.notifiers m.credits m.spent m.ignore_unused m.flight m.course m.prepare_holds m.enable_holds m.steps in
    let row = c.args.row in
    let n = c.args.handle.number in
    let live : handle_at m.handles.handles n ≡ Some row = rw (← c.self.view_is) at c.requires.live in
    exclusive_room p row.clock.0 c.self.invariant

pub overflow_add-row : goal.overflow_add-row
overflow_add-row g c =
    let m = c.self.inside in
    let p : Parts = parts_of m.window m.tree m.handles m.counts m.notifiers m.credits m.spent m.ignore_unused m.flight m.course m.prepare_holds m.enable_holds m.steps in
    let row = c.args.row in
    let n = c.args.handle.number in
    let live : handle_at m.handles.handles n ≡ Some row = rw (← c.self.view_is) at c.requires.live in
    let few = row_few p n row c.self.invariant live in
    omega arith

pub invariant_of-self : goal.invariant_of-self
invariant_of-self g c =
    let m = c.self.inside in
    let p : Parts = parts_of m.window m.tree m.handles m.counts m.notifiers m.credits m.spent m.ignore_unused m.flight m.course m.prepare_holds m.enable_holds m.steps in
    let row = c.args.row in
    let n = c.args.handle.number in
    let live : handle_at m.handles.handles n ≡ Some row = rw (← c.self.view_is) at c.requires.live in
    let written : Written p n row (exclusive_more row) c.set_counts.new.self c.protect.new.self =
    written_exclusives p n (get_or m.counts.exclusives row.clock.0 0 + 1) row (exclusive_more row) c.set_counts.new.self c.protect.new.self c.self.invariant (record {
      live = live;
      clock = refl;
      driver = refl;
      handles = c.set_counts.ensures.counts ∙ counts_given m.handles.handles n row.prepares row.enables (row.exclusives + 1) row live;
      clocks = c.set_counts.ensures.clocks;
      more = omega arith;
    }) c.protect.ensures.stands c.protect.ensures.holders (omega arith) refl refl in
    let left : m.spent < m.credits = rw (← c.self.view_is) at c.requires.credit in
    whole_written p n row (exclusive_more row) m.window c.set_counts.new.self c.protect.new.self c.self.invariant written left c.self.invariant.tied

pub returns : goal.returns
returns g c =
    let m = c.self.inside in
    let p : Parts = parts_of m.window m.tree m.handles m.counts m.notifiers m.credits m.spent m.ignore_unused m.flight m.course m.prepare_holds m.enable_holds m.steps in
    let row = c.args.row in
    let n = c.args.handle.number in
    let live : handle_at m.handles.handles n ≡ Some row = rw (← c.self.view_is) at c.requires.live in
    let written : Written p n row (exclusive_more row) c.set_counts.new.self c.protect.new.self =
    written_exclusives p n (get_or m.counts.exclusives row.clock.0 0 + 1) row (exclusive_more row) c.set_counts.new.self c.protect.new.self c.self.invariant (record {
      live = live;
      clock = refl;
      driver = refl;
      handles = c.set_counts.ensures.counts ∙ counts_given m.handles.handles n row.prepares row.enables (row.exclusives + 1) row live;
      clocks = c.set_counts.ensures.clocks;
      more = omega arith;
    }) c.protect.ensures.stands c.protect.ensures.holders (omega arith) refl refl in
    rw (← c.self.view_is) (becomes_written p n row (exclusive_more row) c.set_counts.new.self c.protect.new.self written refl)
