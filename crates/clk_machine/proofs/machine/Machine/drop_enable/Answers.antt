use Rattle.std.proofs.Common.{◌≡◌, ◌<◌, ◌-◌, ◌∙◌, refl, arith, Some, get_or}
use Rattle.clk_model.specs.State.{handle_at}
use Rattle.clk_machine.specs.Parts.{Parts, parts_of}
use Rattle.clk_machine.specs.Holding.{enabled_less}
use Rattle.core_parts.proofs.Moving.{links_within}
use Rattle.clk_machine.proofs.Following.{becomes_closed, tied_closed}
use Rattle.clk_machine.proofs.Room.{enable_held}
use Rattle.clk_machine.proofs.Rows.{counted_place}
use Rattle.clk_machine.proofs.Writing.{Written, whole_written, written_enables, row_place, counts_given}
use Rattle.core_parts.specs.Tied.{desc_of}
use Rattle.clk_machine.proofs.machine.Machine.drop_enable.Goals as goal

pub disable_walk-stopped-requires-clause-place : goal.disable_walk-stopped-requires-clause-place
disable_walk-stopped-requires-clause-place g c =
    let m = c.self.inside in
    let p : Parts = parts_of m.window m.tree m.handles m.counts m.notifiers m.credits m.spent m.ignore_unused m.flight m.course m.prepare_holds m.enable_holds m.steps in
    let row = c.args.row in
    let n = c.args.handle.number in
    let live : handle_at m.handles.handles n ≡ Some row = rw (← c.self.view_is) at c.requires.live in
    counted_place p row.clock.0 c.self.invariant (row_place p n row c.self.invariant live)

pub disable_walk-stopped-requires-clause-links : goal.disable_walk-stopped-requires-clause-links
disable_walk-stopped-requires-clause-links g c =
    let m = c.self.inside in
    let p : Parts = parts_of m.window m.tree m.handles m.counts m.notifiers m.credits m.spent m.ignore_unused m.flight m.course m.prepare_holds m.enable_holds m.steps in
    let row = c.args.row in
    let n = c.args.handle.number in
    let live : handle_at m.handles.handles n ≡ Some row = rw (← c.self.view_is) at c.requires.live in
    c.self.invariant.counted.stands.links

pub disable_walk-stopped-requires-clause-held : goal.disable_walk-stopped-requires-clause-held
disable_walk-stopped-requires-clause-held g c =
    let m = c.self.inside in
    let p : Parts = parts_of m.window m.tree m.handles m.counts m.notifiers m.credits m.spent m.ignore_unused m.flight m.course m.prepare_holds m.enable_holds m.steps in
    let row = c.args.row in
    let n = c.args.handle.number in
    let live : handle_at m.handles.handles n ≡ Some row = rw (← c.self.view_is) at c.requires.live in
    enable_held p n row c.self.invariant live c.requires.some

pub close_path-requires-clause-place : goal.close_path-requires-clause-place
close_path-requires-clause-place g c =
    let m = c.self.inside in
    let p : Parts = parts_of m.window m.tree m.handles m.counts m.notifiers m.credits m.spent m.ignore_unused m.flight m.course m.prepare_holds m.enable_holds m.steps in
    let row = c.args.row in
    let n = c.args.handle.number in
    let live : handle_at m.handles.handles n ≡ Some row = rw (← c.self.view_is) at c.requires.live in
    row_place p n row c.self.invariant live

pub close_path-requires-clause-links : goal.close_path-requires-clause-links
close_path-requires-clause-links g c =
    let m = c.self.inside in
    let p : Parts = parts_of m.window m.tree m.handles m.counts m.notifiers m.credits m.spent m.ignore_unused m.flight m.course m.prepare_holds m.enable_holds m.steps in
    let row = c.args.row in
    let n = c.args.handle.number in
    let live : handle_at m.handles.handles n ≡ Some row = rw (← c.self.view_is) at c.requires.live in
    links_within (desc_of m.tree) m.window m.tree c.self.invariant.tied

pub invariant_of-self : goal.invariant_of-self
invariant_of-self g c =
    let m = c.self.inside in
    let p : Parts = parts_of m.window m.tree m.handles m.counts m.notifiers m.credits m.spent m.ignore_unused m.flight m.course m.prepare_holds m.enable_holds m.steps in
    let row = c.args.row in
    let n = c.args.handle.number in
    let live : handle_at m.handles.handles n ≡ Some row = rw (← c.self.view_is) at c.requires.live in
    let written : Written p n row (enabled_less row) c.set_counts.new.self c.disable_walk-stopped.new.self =
    written_enables p n (get_or m.counts.enables row.clock.0 0 - 1) row (enabled_less row) c.set_counts.new.self c.disable_walk-stopped.new.self c.self.invariant (record {
      live = live;
      clock = refl;
      driver = refl;
      handles = c.set_counts.ensures.counts ∙ counts_given m.handles.handles n row.prepares (row.enables - 1) row.exclusives row live;
      clocks = c.set_counts.ensures.clocks;
      more = omega arith;
    }) c.disable_walk-stopped.ensures.stands c.disable_walk-stopped.ensures.holders ((let held : 0 < get_or m.counts.enables row.clock.0 0 = enable_held p n row c.self.invariant live c.requires.some in let some = c.requires.some in omega arith)) refl refl in
    let left : m.spent < m.credits = rw (← c.self.view_is) at c.requires.credit in
    whole_written p n row (enabled_less row) c.close_path.new.window c.set_counts.new.self c.disable_walk-stopped.new.self c.self.invariant written left (tied_closed p n c.disable_walk-stopped.result row c.close_path.new.window c.self.invariant live c.close_path.ensures.size c.close_path.ensures.words)

pub returns : goal.returns
returns g c =
    let m = c.self.inside in
    let p : Parts = parts_of m.window m.tree m.handles m.counts m.notifiers m.credits m.spent m.ignore_unused m.flight m.course m.prepare_holds m.enable_holds m.steps in
    let row = c.args.row in
    let n = c.args.handle.number in
    let live : handle_at m.handles.handles n ≡ Some row = rw (← c.self.view_is) at c.requires.live in
    let written : Written p n row (enabled_less row) c.set_counts.new.self c.disable_walk-stopped.new.self =
    written_enables p n (get_or m.counts.enables row.clock.0 0 - 1) row (enabled_less row) c.set_counts.new.self c.disable_walk-stopped.new.self c.self.invariant (record {
      live = live;
      clock = refl;
      driver = refl;
      handles = c.set_counts.ensures.counts ∙ counts_given m.handles.handles n row.prepares (row.enables - 1) row.exclusives row live;
      clocks = c.set_counts.ensures.clocks;
      more = omega arith;
    }) c.disable_walk-stopped.ensures.stands c.disable_walk-stopped.ensures.holders ((let held : 0 < get_or m.counts.enables row.clock.0 0 = enable_held p n row c.self.invariant live c.requires.some in let some = c.requires.some in omega arith)) refl refl in
    rw (← c.self.view_is)
    (becomes_closed p n c.disable_walk-stopped.result row (enabled_less row) c.close_path.new.window c.set_counts.new.self c.disable_walk-stopped.new.self c.self.invariant written c.close_path.ensures.size c.close_path.ensures.behind c.close_path.ensures.locks
    c.requires.some c.disable_walk-stopped.ensures.stopped c.close_path.ensures.words)
