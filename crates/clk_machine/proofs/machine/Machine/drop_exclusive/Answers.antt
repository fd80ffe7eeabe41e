use Rattle.std.proofs.Common.{◌≡◌, ◌<◌, ◌-◌, ◌∙◌, refl, arith, Some, get_or}
use Rattle.clk_model.specs.State.{handle_at}
use Rattle.clk_machine.specs.Parts.{Parts, parts_of}
use Rattle.clk_machine.specs.Holding.{exclusive_less}
use Rattle.clk_machine.proofs.Room.{exclusive_held}
use Rattle.clk_machine.proofs.Rows.{counted_place}
use Rattle.clk_machine.proofs.Writing.{Written, whole_written, becomes_written, written_exclusives, row_place, counts_given}
use Rattle.clk_machine.proofs.machine.Machine.drop_exclusive.Goals as goal

pub unprotect-requires-clause-place : goal.unprotect-requires-clause-place
unprotect-requires-clause-place g c =
    let m = c.self.inside in
    let p : Parts = parts_of m.window m.tree m.handles m.counts m.notifiers m.credits m.spent m.ignore_unused m.flight m.course m.prepare_holds m.enable_holds m.steps in
    let row = c.args.row in
    let n = c.args.handle.number in
    let live : handle_at m.handles.handles n ≡ Some row = rw (← c.self.view_is) at c.requires.live in
    counted_place p row.clock.0 c.self.invariant (row_place p n row c.self.invariant live)

pub unprotect-requires-clause-links : goal.unprotect-requires-clause-links
unprotect-requires-clause-links g c =
    let m = c.self.inside in
    let p : Parts = parts_of m.window m.tree m.handles m.counts m.notifiers m.credits m.spent m.ignore_unused m.flight m.course m.prepare_holds m.enable_holds m.steps in
    let row = c.args.row in
    let n = c.args.handle.number in
    let live : handle_at m.handles.handles n ≡ Some row = rw (← c.self.view_is) at c.requires.live in
    c.self.invariant.counted.stands.links

pub unprotect-requires-clause-held : goal.unprotect-requires-clause-held
unprotect-requires-clause-held g c =
    let m = c.self.inside in
    let p : Parts = parts_of m.window m.tree m.handles m.counts m.notifiers m.credits m.spent m.ignore_unused m.flight m.course m.prepare_holds m.enable_holds m.steps in
    let row = c.args.row in
    let n = c.args.handle.number in
    let live : handle_at m.handles.handles n ≡ Some row = rw (← c.self.view_is) at c.requires.live in
    exclusive_held p n row c.self.invariant live c.requires.some

pub invariant_of-self : goal.invariant_of-self
invariant_of-self g c =
    let m = c.self.inside in
    let p : Parts = parts_of m.window m.tree m.handles m.counts m.notifiers m.credits m.spent m.ignore_unused m.flight m.course m.prepare_holds m.enable_holds m.steps in
    let row = c.args.row in
    let n = c.args.handle.number in
    let live : handle_at m.handles.handles n ≡ Some row = rw (← c.self.view_is) at c.requires.live in
    let written : Written p n row (exclusive_less row) c.set_counts.new.self c.unprotect.new.self =
    written_exclusives p n (get_or m.counts.exclusives row.clock.0 0 - 1) row (exclusive_less row) c.set_counts.new.self c.unprotect.new.self c.self.invariant (record {
      live = live;
      clock = refl;
      driver = refl;
      handles = c.set_counts.ensures.counts ∙ counts_given m.handles.handles n row.prepares row.enables (row.exclusives - 1) row live;
      clocks = c.set_counts.ensures.clocks;
      more = omega arith;
    }) c.unprotect.ensures.stands c.unprotect.ensures.holders ((let held : 0 < get_or m.counts.exclusives row.clock.0 0 = exclusive_held p n row c.self.invariant live c.requires.some in let some = c.requires.some in omega arith)) refl refl in
    let left : m.spent < m.credits = rw (← c.self.view_is) at c.requires.credit in
    whole_written p n row (exclusive_less row) m.window c.set_counts.new.self c.unprotect.new.self c.self.invariant written left c.self.invariant.tied

pub returns : goal.returns
returns g c =
    let m = c.self.inside in
    let p : Parts = parts_of m.window m.tree m.handles m.counts m.notifiers m.credits m.spent m.ignore_unused m.flight m.course m.prepare_holds m.enable_holds m.steps in
    let row = c.args.row in
    let n = c.args.handle.number in
    let live : handle_at m.handles.handles n ≡ Some row = rw (← c.self.view_is) at c.requires.live in
    let written : Written p n row (exclusive_less row) c.set_counts.new.self c.unprotect.new.self =
    written_exclusives p n (get_or m.counts.exclusives row.clock.0 0 - 1) row (exclusive_less row) c.set_counts.new.self c.unprotect.new.self c.self.invariant (record {
      live = live;
      clock = refl;
      driver = refl;
      handles = c.set_counts.ensures.counts ∙ counts_given m.handles.handles n row.prepares row.enables (row.exclusives - 1) row live;
      clocks = c.set_counts.ensures.clocks;
      more = omega arith;
    }) c.unprotect.ensures.stands c.unprotect.ensures.holders ((let held : 0 < get_or m.counts.exclusives row.clock.0 0 = exclusive_held p n row c.self.invariant live c.requires.some in let some = c.requires.some in omega arith)) refl refl in
    rw (← c.self.view_is) (becomes_written p n row (exclusive_less row) c.set_counts.new.self c.unprotect.new.self written refl)
