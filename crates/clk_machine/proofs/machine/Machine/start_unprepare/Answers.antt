use Rattle.std.proofs.Common.{◌≡◌, ◌+◌, ◌-◌, ◌<◌, ◌≤◌, ◌∙◌, false, Some, None, refl, sym, ap, subst}
use Rattle.clk_base.specs.declared.call.Sleeping.TheVariants as call
use Rattle.clk_flight.specs.declared.start.Start.{Start}
use Rattle.clk_model.specs.State.{handle_at}
use Rattle.clk_model.specs.Begin.{most_credits, change_of}
use Rattle.clk_model.specs.Script.{plls}
use Rattle.counts_core.specs.Counted.{CountState, AreCounts}
use Rattle.clk_machine.specs.Holding.{prepared_less}
use Rattle.clk_machine.specs.Parts.{Parts, parts_of, IsWhole}
use Rattle.clk_machine.specs.Starting.{StartsCall}
use Rattle.clk_machine.specs.Holding.{puts}
use Rattle.clk_machine.proofs.Lowering.{lower_script, Releases, written_less, whole_lowering, starts_lowering}
use Rattle.clk_machine.proofs.Room.{prepare_held}
use Rattle.clk_machine.proofs.Rows.{counted_place}
use Rattle.clk_machine.proofs.Starting.{Started, begun_started, starts_as, flying}
use Rattle.clk_machine.proofs.Writing.{row_place, counts_given, with_written}
use Rattle.clk_machine.proofs.machine.Machine.start_unprepare.Goals as goal

pub release-requires-clause-place : goal.release-requires-clause-place
release-requires-clause-place g c =
    let m = c.self.inside in
    let p : Parts = parts_of m.window m.tree m.handles m.counts m.notifiers m.credits m.spent m.ignore_unused m.flight m.course m.prepare_holds m.enable_holds m.steps in
    let live : handle_at p.table.handles c.args.handle.number ≡ Some c.args.row = subst (λ (q : Parts). handle_at q.table.handles c.args.handle.number ≡ Some c.args.row) (sym c.self.view_is) c.requires.live in
    counted_place p c.args.row.clock.0 c.self.invariant (row_place p c.args.handle.number c.args.row c.self.invariant live)

pub release-requires-clause-links : goal.release-requires-clause-links
release-requires-clause-links g c = c.self.invariant.counted.stands.links

pub release-requires-clause-held : goal.release-requires-clause-held
release-requires-clause-held g c =
    let m = c.self.inside in
    let p : Parts = parts_of m.window m.tree m.handles m.counts m.notifiers m.credits m.spent m.ignore_unused m.flight m.course m.prepare_holds m.enable_holds m.steps in
    let live : handle_at p.table.handles c.args.handle.number ≡ Some c.args.row = subst (λ (q : Parts). handle_at q.table.handles c.args.handle.number ≡ Some c.args.row) (sym c.self.view_is) c.requires.live in
    prepare_held p c.args.handle.number c.args.row c.self.invariant live c.requires.some

pub invariant_of-self-2 : goal.invariant_of-self-2
invariant_of-self-2 g c =
    let m = c.self.inside in
    let p : Parts = parts_of m.window m.tree m.handles m.counts m.notifiers m.credits m.spent m.ignore_unused m.flight m.course m.prepare_holds m.enable_holds m.steps in
    let live : handle_at p.table.handles c.args.handle.number ≡ Some c.args.row = subst (λ (q : Parts). handle_at q.table.handles c.args.handle.number ≡ Some c.args.row) (sym c.self.view_is) c.requires.live in
    let left : p.spent < p.credits = subst (λ (q : Parts). q.spent < q.credits) (sym c.self.view_is) c.requires.credit in
    let room : p.credits + p.steps + (plls p.desc.defs + 2) ≤ most_credits = subst (λ (q : Parts). q.credits + q.steps + (plls q.desc.defs + 2) ≤ most_credits) (sym c.self.view_is) c.requires.room in
    let start : Start = record { driver = c.args.driver; call = call.Unprepare c.args.handle; script = c.in_ok-script.script; range = None; extra = 0; vetoed = false } in
    let now : Started p c.args.driver (call.Unprepare c.args.handle) (lower_script c.args.row.clock) c.begin.new.self =
    begun_started p c.args.driver (call.Unprepare c.args.handle) (lower_script c.args.row.clock) c.begin.new.self start c.plls.result c.in_ok-begin.ensures.begun (c.plls.ensures.plls ∙ ap plls c.self.invariant.tied.defs) refl refl c.in_ok-script.ensures refl refl in
    let is : Releases p c.args.handle.number c.args.row =
    record { whole = c.self.invariant; live = live; some = c.requires.some; left = left; keeps = subst (λ (k : CountState). AreCounts k) c.release.ensures.holders c.release.ensures.stands } in
    subst (λ (k : CountState). IsWhole (flying (with_written p p.window c.set_counts.new.self k) c.begin.new.self)) (sym c.release.ensures.holders)
    (whole_lowering p c.args.driver c.args.handle c.args.row c.set_counts.new.self c.begin.new.self is
    (written_less p c.args.handle.number c.args.row c.set_counts.new.self is (c.set_counts.ensures.counts ∙ counts_given m.handles.handles c.args.handle.number (c.args.row.prepares - 1) c.args.row.enables c.args.row.exclusives c.args.row live) c.set_counts.ensures.clocks)
    room now)

pub returns-clause-ok : goal.returns-clause-ok
returns-clause-ok g c =
    let m = c.self.inside in
    let p : Parts = parts_of m.window m.tree m.handles m.counts m.notifiers m.credits m.spent m.ignore_unused m.flight m.course m.prepare_holds m.enable_holds m.steps in
    let live : handle_at p.table.handles c.args.handle.number ≡ Some c.args.row = subst (λ (q : Parts). handle_at q.table.handles c.args.handle.number ≡ Some c.args.row) (sym c.self.view_is) c.requires.live in
    let left : p.spent < p.credits = subst (λ (q : Parts). q.spent < q.credits) (sym c.self.view_is) c.requires.credit in
    let start : Start = record { driver = c.args.driver; call = call.Unprepare c.args.handle; script = c.in_ok-script.script; range = None; extra = 0; vetoed = false } in
    let now : Started p c.args.driver (call.Unprepare c.args.handle) (lower_script c.args.row.clock) c.begin.new.self =
    begun_started p c.args.driver (call.Unprepare c.args.handle) (lower_script c.args.row.clock) c.begin.new.self start c.plls.result c.in_ok-begin.ensures.begun (c.plls.ensures.plls ∙ ap plls c.self.invariant.tied.defs) refl refl c.in_ok-script.ensures refl refl in
    let is : Releases p c.args.handle.number c.args.row =
    record { whole = c.self.invariant; live = live; some = c.requires.some; left = left; keeps = subst (λ (k : CountState). AreCounts k) c.release.ensures.holders c.release.ensures.stands } in
    rw (← c.self.view_is)
    (subst (λ (k : CountState). StartsCall p c.args.driver (call.Unprepare c.args.handle) (lower_script c.args.row.clock) (puts c.args.handle.number (Some (prepared_less c.args.row))) (flying (with_written p p.window c.set_counts.new.self k) c.begin.new.self)) (sym c.release.ensures.holders)
    (starts_lowering p c.args.driver c.args.handle c.args.row c.set_counts.new.self c.begin.new.self
    (written_less p c.args.handle.number c.args.row c.set_counts.new.self is (c.set_counts.ensures.counts ∙ counts_given m.handles.handles c.args.handle.number (c.args.row.prepares - 1) c.args.row.enables c.args.row.exclusives c.args.row live) c.set_counts.ensures.clocks)
    now (λ s. c.in_ok-begin.ensures.change s.notifiers (change_of s c.args.driver (call.Unprepare c.args.handle) (lower_script c.args.row.clock)) (starts_as s s.notifiers c.args.driver (call.Unprepare c.args.handle) (lower_script c.args.row.clock) start refl refl refl c.in_ok-script.ensures refl refl refl))))
