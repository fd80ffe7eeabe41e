use Rattle.std.proofs.Common.{◌≡◌, ◌<◌, ◌+◌, ◌∙◌, refl, arith, Some, get_or}
use Rattle.clk_model.specs.State.{handle_at}
use Rattle.clk_machine.specs.Parts.{Parts, parts_of}
use Rattle.clk_machine.specs.Holding.{enabled_more}
use Rattle.core_parts.proofs.Moving.{links_within}
use Rattle.clk_machine.proofs.Following.{becomes_opened, tied_opened}
use Rattle.clk_machine.proofs.Room.{row_few, enable_room}
use Rattle.clk_machine.proofs.Rows.{counted_place}
use Rattle.clk_machine.proofs.Writing.{Written, whole_written, written_enables, row_place, counts_given}
use Rattle.core_parts.specs.Tied.{desc_of}
use Rattle.clk_machine.proofs.machine.Machine.add_enable.Goals as goal

pub enable_walk-begun-requires-clause-place : goal.enable_walk-begun-requires-clause-place
enable_walk-begun-requires-clause-place g c =
    let m = c.self.inside in
    let p : Parts = parts_of m.window m.tree m.handles m.counts m.notifiers m.credits m.spent m.ignore_unused m.flight m.course m.prepare_holds m.enable_holds m.steps in
    let row = c.args.row in
    let n = c.args.handle.number in
    let live : handle_at m.handles.handles n ≡ Some row = rw (← c.self.view_is) at c.requires.live in
    counted_place p row.clock.0 c.self.invariant (row_place p n row c.self.invariant live)

pub enable_walk-begun-requires-clause-links : goal.enable_walk-begun-requires-clause-links
enable_walk-begun-requires-clause-links g c =
    let m = c.self.inside in
    let p : Parts = parts_of m.window m.tree m.handles m.counts m.notifiers m.credits m.spent m.ignore_unused m.flight m.course m.prepare_holds m.enable_holds m.steps in
    let row = c.args.row in
    let n = c.args.handle.number in
    let live : handle_at m.handles.handles n ≡ Some row = rw (← c.self.view_is) at c.requires.live in
    c.self.invariant.counted.stands.links

pub enable_walk-begun-requires-clause-room : goal.enable_walk-begun-requires-clause-room
enable_walk-begun-requires-clause-room g c =
    let m = c.self.inside in
    let p : Parts = parts_of m.window m.tree m.handles m.counts m.notifiers m.credits m.spent m.ignore_unused m.flight m.course m.prepare_holds m.enable_holds m.steps in
    let row = c.args.row in
    let n = c.args.handle.number in
    let live : handle_at m.handles.handles n ≡ Some row = rw (← c.self.view_is) at c.requires.live in
    enable_room p row.clock.0 c.self.invariant

pub open_path-requires-clause-place : goal.open_path-requires-clause-place
open_path-requires-clause-place g c =
    let m = c.self.inside in
    let p : Parts = parts_of m.window m.tree m.handles m.counts m.notifiers m.credits m.spent m.ignore_unused m.flight m.course m.prepare_holds m.enable_holds m.steps in
    let row = c.args.row in
    let n = c.args.handle.number in
    let live : handle_at m.handles.handles n ≡ Some row = rw (← c.self.view_is) at c.requires.live in
    row_place p n row c.self.invariant live

pub open_path-requires-clause-links : goal.open_path-requires-clause-links
open_path-requires-clause-links g c =
    let m = c.self.inside in
    let p : Parts = parts_of m.window m.tree m.handles m.counts m.notifiers m.credits m.spent m.ignore_unused m.flight m.course m.prepare_holds m.enable_holds m.steps in
    let row = c.args.row in
    let n = c.args.handle.number in
    let live : handle_at m.handles.handles n ≡ Some row = rw (← c.self.view_is) at c.requires.live in
    links_within (desc_of m.tree) m.window m.tree c.self.invariant.tied

pub overflow_add-row : goal.overflow_add-row
overflow_add-row g c =
    let m = c.self.inside in
    let p : Parts = parts_of m.window m.tree m.handles m.counts m.notifiers m.credits m.spent m.ignore_unused m.flight m.course m.prepare_holds m.enable_holds m.steps in
    let row = c.args.row in
    let n = c.args.handle.number in
    let live : handle_at m.handles.handles n ≡ Some row = rw (← c.self.view_is) at c.requires.live in
    let few = row_few p n row c.self.invariant live in
    omega arith

pub invariant_of-self : goal.invariant_of-self
invariant_of-self g c =
    let m = c.self.inside in
    let p : Parts = parts_of m.window m.tree m.handles m.counts m.notifiers m.credits m.spent m.ignore_unused m.flight m.course m.prepare_holds m.enable_holds m.steps in
    let row = c.args.row in
    let n = c.args.handle.number in
    let live : handle_at m.handles.handles n ≡ Some row = rw (← c.self.view_is) at c.requires.live in
    let written : Written p n row (enabled_more row) c.set_counts.new.self c.enable_walk-begun.new.self =
    written_enables p n (get_or m.counts.enables row.clock.0 0 + 1) row (enabled_more row) c.set_counts.new.self c.enable_walk-begun.new.self c.self.invariant (record {
      live = live;
      clock = refl;
      driver = refl;
      handles = c.set_counts.ensures.counts ∙ counts_given m.handles.handles n row.prepares (row.enables + 1) row.exclusives row live;
      clocks = c.set_counts.ensures.clocks;
      more = omega arith;
    }) c.enable_walk-begun.ensures.stands c.enable_walk-begun.ensures.holders (omega arith) refl refl in
    let left : m.spent < m.credits = rw (← c.self.view_is) at c.requires.credit in
    whole_written p n row (enabled_more row) c.open_path.new.window c.set_counts.new.self c.enable_walk-begun.new.self c.self.invariant written left (tied_opened p n c.enable_walk-begun.result row c.open_path.new.window c.self.invariant live c.open_path.ensures.size c.open_path.ensures.words)

pub returns : goal.returns
returns g c =
    let m = c.self.inside in
    let p : Parts = parts_of m.window m.tree m.handles m.counts m.notifiers m.credits m.spent m.ignore_unused m.flight m.course m.prepare_holds m.enable_holds m.steps in
    let row = c.args.row in
    let n = c.args.handle.number in
    let live : handle_at m.handles.handles n ≡ Some row = rw (← c.self.view_is) at c.requires.live in
    let written : Written p n row (enabled_more row) c.set_counts.new.self c.enable_walk-begun.new.self =
    written_enables p n (get_or m.counts.enables row.clock.0 0 + 1) row (enabled_more row) c.set_counts.new.self c.enable_walk-begun.new.self c.self.invariant (record {
      live = live;
      clock = refl;
      driver = refl;
      handles = c.set_counts.ensures.counts ∙ counts_given m.handles.handles n row.prepares (row.enables + 1) row.exclusives row live;
      clocks = c.set_counts.ensures.clocks;
      more = omega arith;
    }) c.enable_walk-begun.ensures.stands c.enable_walk-begun.ensures.holders (omega arith) refl refl in
    rw (← c.self.view_is)
    (becomes_opened p n c.enable_walk-begun.result row (enabled_more row) c.open_path.new.window c.set_counts.new.self c.enable_walk-begun.new.self c.self.invariant written c.open_path.ensures.size c.open_path.ensures.behind c.open_path.ensures.locks
    refl c.enable_walk-begun.ensures.begun c.open_path.ensures.words)
