use Rattle.std.proofs.Common.{◌≡◌, ◌<◌, ◌∙◌, Option, Some, None, false, true, sym, subst, ap, length}
use Rattle.std.specs.Prelude.{IfSome}
use Rattle.clk_base.specs.declared.clock.ClockId.{ClockId}
use Rattle.clk_base.specs.Flags.{is_critical}
use Rattle.clk_model.specs.State.{registered}
use Rattle.clk_machine.specs.Parts.{Parts, parts_of}
use Rattle.clk_machine.specs.Stands.{Stands}
use Rattle.core_parts.proofs.Moving.{links_within, clock_within}
use Rattle.clk_machine.proofs.Probing.{must_plain, must_critical}
use Rattle.core_parts.specs.Tied.{desc_of}
use Rattle.clk_machine.proofs.machine.Machine.must_raise.Goals as goal

pub given_parent-parent-requires-clause-place : goal.given_parent-parent-requires-clause-place
given_parent-parent-requires-clause-place g c = subst (λ (q : Parts). c.args.clock.0 < length q.desc.defs) (sym c.self.view_is) c.requires.place

pub given_parent-parent-requires-clause-valid : goal.given_parent-parent-requires-clause-valid
given_parent-parent-requires-clause-valid g c = c.self.invariant.tied.valid

pub given_parent-parent-requires-clause-words : goal.given_parent-parent-requires-clause-words
given_parent-parent-requires-clause-words g c = c.self.invariant.tied.words

pub is_unprepared_under-requires-clause-place : goal.is_unprepared_under-requires-clause-place
is_unprepared_under-requires-clause-place g c = subst (λ (q : Parts). c.args.clock.0 < length q.desc.defs) (sym c.self.view_is) c.requires.place

pub is_unprepared_under-requires-clause-parent : goal.is_unprepared_under-requires-clause-parent
is_unprepared_under-requires-clause-parent g c =
    by c.given_parent-parent.result c.given_parent-parent.ensures.there where
      by : (o : Option ClockId) → IfSome o (λ q. registered c.self.inside.tree.clocks q.0 ≡ true) → IfSome o (λ q. q.0 < length c.self.inside.tree.defs)
      by None there = tt
      by (Some q) there = clock_within (desc_of c.self.inside.tree) c.self.inside.window c.self.inside.tree q.0 c.self.invariant.tied there

pub is_unprepared_under-requires-clause-links : goal.is_unprepared_under-requires-clause-links
is_unprepared_under-requires-clause-links g c = links_within (desc_of c.self.inside.tree) c.self.inside.window c.self.inside.tree c.self.invariant.tied

pub is_unprepared_under-requires-clause-counted : goal.is_unprepared_under-requires-clause-counted
is_unprepared_under-requires-clause-counted g c = c.self.invariant.counted.stands.size

pub returns-then-not-is_critical-clause-told : goal.returns-then-not-is_critical-clause-told
returns-then-not-is_critical-clause-told g c = λ s stands.
    must_plain c.args.self.now s c.args.clock.0 stands (ap (λ (q : Parts). is_critical q.desc.defs c.args.clock.0) (sym c.self.view_is) ∙ sym c.is_critical.ensures ∙ c.if-not-is_critical.true)

pub returns-clause-told : goal.returns-clause-told
returns-clause-told g c = λ s stands.
    let m = c.self.inside in
    let p : Parts = parts_of m.window m.tree m.handles m.counts m.notifiers m.credits m.spent m.ignore_unused m.flight m.course m.prepare_holds m.enable_holds m.steps in
    let at : Stands p s = subst (λ (q : Parts). Stands q s) (sym c.self.view_is) stands in
    let free : registered m.tree.clocks c.args.clock.0 ≡ false = subst (λ (q : Parts). registered q.tree.clocks c.args.clock.0 ≡ false) (sym c.self.view_is) c.requires.free in
    must_critical p s c.args.clock.0 c.given_parent-parent.result c.is_unprepared_under.result c.self.invariant at (sym c.is_critical.ensures ∙ c.if-not-is_critical.false) free c.given_parent-parent.ensures.link c.is_unprepared_under.ensures
