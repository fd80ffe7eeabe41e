use Rattle.std.proofs.Common.{◌≡◌, ◌<◌, ◌∙◌, Some, sym, ap, subst, length}
use Rattle.std.specs.Prelude.{IfSome, is_some, slice_get}
use Rattle.clk_model.specs.State.{handle_at}
use Rattle.clk_model.specs.Tree.{path}
use Rattle.counts_core.specs.Counted.{CountState, AreCounts}
use Rattle.clk_machine.specs.Parts.{Parts, parts_of, IsWhole}
use Rattle.clk_machine.specs.Starting.{released}
use Rattle.core_parts.specs.Plls.{lowerable}
use Rattle.clk_machine.proofs.Lowering.{held_again, found_some, small_again}
use Rattle.clk_machine.proofs.NoPlls.{none_freed}
use Rattle.core_parts.proofs.Moving.{links_within}
use Rattle.clk_machine.proofs.Room.{prepare_held, prepare_room}
use Rattle.clk_machine.proofs.Rows.{counted_place}
use Rattle.clk_machine.proofs.Writing.{row_place}
use Rattle.core_parts.specs.Tied.{desc_of}
use Rattle.clk_machine.proofs.machine.Machine.frees_pll.Goals as goal

pub returns-then-plls-eq0-clause-found : goal.returns-then-plls-eq0-clause-found
returns-then-plls-eq0-clause-found g c =
    let m = c.self.inside in
    rw (← c.self.view_is) (none_freed m.window.words (released m.counts c.args.row.clock.0) m.tree c.args.row.clock.0 c.plls.result c.plls.ensures.stands c.plls.ensures.plls c.if-plls-eq0.true)

pub release-requires-clause-place : goal.release-requires-clause-place
release-requires-clause-place g c =
    let m = c.self.inside in
    let p : Parts = parts_of m.window m.tree m.handles m.counts m.notifiers m.credits m.spent m.ignore_unused m.flight m.course m.prepare_holds m.enable_holds m.steps in
    let live : handle_at p.table.handles c.args.handle.number ≡ Some c.args.row = subst (λ (q : Parts). handle_at q.table.handles c.args.handle.number ≡ Some c.args.row) (sym c.self.view_is) c.requires.live in
    counted_place p c.args.row.clock.0 c.self.invariant (row_place p c.args.handle.number c.args.row c.self.invariant live)

pub release-requires-clause-links : goal.release-requires-clause-links
release-requires-clause-links g c = c.self.invariant.counted.stands.links

pub release-requires-clause-held : goal.release-requires-clause-held
release-requires-clause-held g c =
    let m = c.self.inside in
    let p : Parts = parts_of m.window m.tree m.handles m.counts m.notifiers m.credits m.spent m.ignore_unused m.flight m.course m.prepare_holds m.enable_holds m.steps in
    let live : handle_at p.table.handles c.args.handle.number ≡ Some c.args.row = subst (λ (q : Parts). handle_at q.table.handles c.args.handle.number ≡ Some c.args.row) (sym c.self.view_is) c.requires.live in
    prepare_held p c.args.handle.number c.args.row c.self.invariant live c.requires.some

pub next_to_lower-found-requires-clause-place : goal.next_to_lower-found-requires-clause-place
next_to_lower-found-requires-clause-place g c =
    let m = c.self.inside in
    let p : Parts = parts_of m.window m.tree m.handles m.counts m.notifiers m.credits m.spent m.ignore_unused m.flight m.course m.prepare_holds m.enable_holds m.steps in
    let live : handle_at p.table.handles c.args.handle.number ≡ Some c.args.row = subst (λ (q : Parts). handle_at q.table.handles c.args.handle.number ≡ Some c.args.row) (sym c.self.view_is) c.requires.live in
    row_place p c.args.handle.number c.args.row c.self.invariant live

pub next_to_lower-found-requires-clause-links : goal.next_to_lower-found-requires-clause-links
next_to_lower-found-requires-clause-links g c = links_within (desc_of c.self.inside.tree) c.self.inside.window c.self.inside.tree c.self.invariant.tied

pub next_to_lower-found-requires-clause-counted : goal.next_to_lower-found-requires-clause-counted
next_to_lower-found-requires-clause-counted g c =
    ap (λ (k : CountState). length k.links) c.release.ensures.holders ∙ c.self.invariant.counted.stands.size

pub next_to_lower-found-requires-clause-same : goal.next_to_lower-found-requires-clause-same
next_to_lower-found-requires-clause-same g c = rw c.release.ensures.holders c.self.invariant.counted.stands.links

pub hold-requires-clause-place : goal.hold-requires-clause-place
hold-requires-clause-place g c =
    let m = c.self.inside in
    let p : Parts = parts_of m.window m.tree m.handles m.counts m.notifiers m.credits m.spent m.ignore_unused m.flight m.course m.prepare_holds m.enable_holds m.steps in
    let live : handle_at p.table.handles c.args.handle.number ≡ Some c.args.row = subst (λ (q : Parts). handle_at q.table.handles c.args.handle.number ≡ Some c.args.row) (sym c.self.view_is) c.requires.live in
    subst (λ (k : CountState). c.args.row.clock.0 < length k.links) (sym c.release.ensures.holders)
    (counted_place p c.args.row.clock.0 c.self.invariant (row_place p c.args.handle.number c.args.row c.self.invariant live))

pub hold-requires-clause-links : goal.hold-requires-clause-links
hold-requires-clause-links g c = rw c.release.ensures.holders c.self.invariant.counted.stands.links

pub hold-requires-clause-room : goal.hold-requires-clause-room
hold-requires-clause-room g c =
    let m = c.self.inside in
    let p : Parts = parts_of m.window m.tree m.handles m.counts m.notifiers m.credits m.spent m.ignore_unused m.flight m.course m.prepare_holds m.enable_holds m.steps in
    let live : handle_at p.table.handles c.args.handle.number ≡ Some c.args.row = subst (λ (q : Parts). handle_at q.table.handles c.args.handle.number ≡ Some c.args.row) (sym c.self.view_is) c.requires.live in
    let within : c.args.row.clock.0 < length m.counts.links = counted_place p c.args.row.clock.0 c.self.invariant (row_place p c.args.handle.number c.args.row c.self.invariant live) in
    small_again m.counts c.release.new.self c.args.row.clock.0 c.self.invariant.counted.keeps within c.release.ensures.holders (prepare_room p c.args.row.clock.0 c.self.invariant)

pub invariant_of-self : goal.invariant_of-self
invariant_of-self g c =
    let m = c.self.inside in
    let p : Parts = parts_of m.window m.tree m.handles m.counts m.notifiers m.credits m.spent m.ignore_unused m.flight m.course m.prepare_holds m.enable_holds m.steps in
    let live : handle_at p.table.handles c.args.handle.number ≡ Some c.args.row = subst (λ (q : Parts). handle_at q.table.handles c.args.handle.number ≡ Some c.args.row) (sym c.self.view_is) c.requires.live in
    let within : c.args.row.clock.0 < length m.counts.links = counted_place p c.args.row.clock.0 c.self.invariant (row_place p c.args.handle.number c.args.row c.self.invariant live) in
    let same : c.hold.new.self ≡ m.counts =
    held_again m.counts c.release.new.self c.hold.new.self c.args.row.clock.0 c.self.invariant.counted.keeps (prepare_held p c.args.handle.number c.args.row c.self.invariant live c.requires.some) within c.release.ensures.holders c.hold.ensures.holders in
    subst (λ (k : CountState). IsWhole (parts_of m.window m.tree m.handles k m.notifiers m.credits m.spent m.ignore_unused m.flight m.course m.prepare_holds m.enable_holds m.steps)) (sym same) c.self.invariant

pub returns-clause-found : goal.returns-clause-found
returns-clause-found g c =
    let m = c.self.inside in
    rw (← c.self.view_is) (subst (λ (k : CountState). IfSome m.window.words (λ regs. c.is_some.result ≡ is_some (slice_get (lowerable m.tree.defs k regs (path m.tree.clocks c.args.row.clock.0)) 0))) c.release.ensures.holders
    (found_some m.window.words m.tree.defs c.release.new.self m.tree.clocks c.args.row.clock.0 c.next_to_lower-found.result c.is_some.result c.is_some.ensures c.next_to_lower-found.ensures.found))

pub returns-clause-counts : goal.returns-clause-counts
returns-clause-counts g c = rw (← c.self.view_is) (subst (λ (k : CountState). AreCounts k) c.release.ensures.holders c.release.ensures.stands)

pub returns-clause-same : goal.returns-clause-same
returns-clause-same g c =
    let m = c.self.inside in
    let p : Parts = parts_of m.window m.tree m.handles m.counts m.notifiers m.credits m.spent m.ignore_unused m.flight m.course m.prepare_holds m.enable_holds m.steps in
    let live : handle_at p.table.handles c.args.handle.number ≡ Some c.args.row = subst (λ (q : Parts). handle_at q.table.handles c.args.handle.number ≡ Some c.args.row) (sym c.self.view_is) c.requires.live in
    let within : c.args.row.clock.0 < length m.counts.links = counted_place p c.args.row.clock.0 c.self.invariant (row_place p c.args.handle.number c.args.row c.self.invariant live) in
    ap (λ (k : CountState). parts_of m.window m.tree m.handles k m.notifiers m.credits m.spent m.ignore_unused m.flight m.course m.prepare_holds m.enable_holds m.steps)
    (held_again m.counts c.release.new.self c.hold.new.self c.args.row.clock.0 c.self.invariant.counted.keeps (prepare_held p c.args.handle.number c.args.row c.self.invariant live c.requires.some) within c.release.ensures.holders c.hold.ensures.holders)
    ∙ c.self.view_is
