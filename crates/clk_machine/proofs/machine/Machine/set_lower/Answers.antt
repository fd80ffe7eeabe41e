use Rattle.std.proofs.Common.{◌≡◌, ◌-◌, ◌∙◌, Some, sym, subst}
use Rattle.clk_model.specs.State.{handle_at}
use Rattle.clk_machine.specs.Parts.{Parts, parts_of, IsWhole}
use Rattle.clk_machine.specs.SettingOut.{set_lower}
use Rattle.clk_machine.proofs.Room.{prepare_held}
use Rattle.clk_machine.proofs.Rows.{counted_place}
use Rattle.clk_machine.proofs.SettingOut.{lower_parts}
use Rattle.clk_machine.proofs.Writing.{row_place, counts_given}
use Rattle.clk_machine.proofs.machine.Machine.set_lower.Goals as goal

pub release-requires-clause-place : goal.release-requires-clause-place
release-requires-clause-place g c =
    let m = c.self.inside in
    let p : Parts = parts_of m.window m.tree m.handles m.counts m.notifiers m.credits m.spent m.ignore_unused m.flight m.course m.prepare_holds m.enable_holds m.steps in
    let live : handle_at p.table.handles c.args.handle.number ≡ Some c.args.row = subst (λ (q : Parts). handle_at q.table.handles c.args.handle.number ≡ Some c.args.row) (sym c.self.view_is) c.requires.live in
    counted_place p c.args.row.clock.0 c.self.invariant (row_place p c.args.handle.number c.args.row c.self.invariant live)

pub release-requires-clause-held : goal.release-requires-clause-held
release-requires-clause-held g c =
    let m = c.self.inside in
    let p : Parts = parts_of m.window m.tree m.handles m.counts m.notifiers m.credits m.spent m.ignore_unused m.flight m.course m.prepare_holds m.enable_holds m.steps in
    let live : handle_at p.table.handles c.args.handle.number ≡ Some c.args.row = subst (λ (q : Parts). handle_at q.table.handles c.args.handle.number ≡ Some c.args.row) (sym c.self.view_is) c.requires.live in
    prepare_held p c.args.handle.number c.args.row c.self.invariant live c.requires.some

pub invariant_of-self : goal.invariant_of-self
invariant_of-self g c =
    let m = c.self.inside in
    let p : Parts = parts_of m.window m.tree m.handles m.counts m.notifiers m.credits m.spent m.ignore_unused m.flight m.course m.prepare_holds m.enable_holds m.steps in
    let live : handle_at p.table.handles c.args.handle.number ≡ Some c.args.row = subst (λ (q : Parts). handle_at q.table.handles c.args.handle.number ≡ Some c.args.row) (sym c.self.view_is) c.requires.live in
    let whole : IsWhole (set_lower p c.args.handle.number c.args.row c.args.flight.now) = subst (λ (q : Parts). IsWhole (set_lower q c.args.handle.number c.args.row c.args.flight.now)) (sym c.self.view_is) c.requires.whole in
    subst IsWhole
    (sym (lower_parts p c.args.handle.number c.args.row c.args.flight.now c.swap.new.x c.set_counts.new.self c.release.new.self c.swap.ensures.x_after c.set_counts.ensures.clocks c.set_counts.ensures.place
    (c.set_counts.ensures.counts ∙ counts_given m.handles.handles c.args.handle.number (c.args.row.prepares - 1) c.args.row.enables c.args.row.exclusives c.args.row live) c.release.ensures.holders)) whole

pub returns-clause-parts : goal.returns-clause-parts
returns-clause-parts g c =
    let m = c.self.inside in
    let p : Parts = parts_of m.window m.tree m.handles m.counts m.notifiers m.credits m.spent m.ignore_unused m.flight m.course m.prepare_holds m.enable_holds m.steps in
    let live : handle_at p.table.handles c.args.handle.number ≡ Some c.args.row = subst (λ (q : Parts). handle_at q.table.handles c.args.handle.number ≡ Some c.args.row) (sym c.self.view_is) c.requires.live in
    rw (← c.self.view_is)
    (lower_parts p c.args.handle.number c.args.row c.args.flight.now c.swap.new.x c.set_counts.new.self c.release.new.self c.swap.ensures.x_after c.set_counts.ensures.clocks c.set_counts.ensures.place
    (c.set_counts.ensures.counts ∙ counts_given m.handles.handles c.args.handle.number (c.args.row.prepares - 1) c.args.row.enables c.args.row.exclusives c.args.row live) c.release.ensures.holders)
