use Rattle.std.proofs.Common.{◌≡◌, ◌<◌, ◌∙◌, Option, Some, None, true, sym, subst, length}
use Rattle.std.specs.Prelude.{IfSome}
use Rattle.clk_base.specs.declared.clock.ClockId.{ClockId}
use Rattle.clk_model.specs.State.{registered}
use Rattle.core_parts.specs.InFlight.{is_near}
use Rattle.clk_machine.specs.Parts.{Parts, parts_of}
use Rattle.clk_machine.proofs.Making.{found_on_path, found_under, near_on_path, near_under, near_within}
use Rattle.core_parts.proofs.Moving.{links_within, clock_within}
use Rattle.core_parts.specs.Tied.{desc_of}
use Rattle.clk_machine.proofs.machine.Machine.to_raise.Goals as goal

pub next_to_raise-requires-clause-place : goal.next_to_raise-requires-clause-place
next_to_raise-requires-clause-place g c =
    let m = c.self.inside in
    clock_within (desc_of m.tree) m.window m.tree c.args.clock.0 c.self.invariant.tied (sym c.registered.ensures.registered ∙ c.if-registered.true)

pub next_to_raise-requires-clause-links : goal.next_to_raise-requires-clause-links
next_to_raise-requires-clause-links g c = links_within (desc_of c.self.inside.tree) c.self.inside.window c.self.inside.tree c.self.invariant.tied

pub next_to_raise-requires-clause-counted : goal.next_to_raise-requires-clause-counted
next_to_raise-requires-clause-counted g c = c.self.invariant.counted.stands.size

pub given_parent-parent-requires-clause-place : goal.given_parent-parent-requires-clause-place
given_parent-parent-requires-clause-place g c =
    let m = c.self.inside in
    let p : Parts = parts_of m.window m.tree m.handles m.counts m.notifiers m.credits m.spent m.ignore_unused m.flight m.course m.prepare_holds m.enable_holds m.steps in
    let going : p.flight.going ≡ true = subst (λ (q : Parts). q.flight.going ≡ true) (sym c.self.view_is) c.requires.going in
    let near : is_near p.flight.call (registered p.tree.clocks) c.args.clock.0 ≡ true = subst (λ (q : Parts). is_near q.flight.call (registered q.tree.clocks) c.args.clock.0 ≡ true) (sym c.self.view_is) c.requires.near in
    near_within p c.args.clock.0 c.self.invariant going near

pub given_parent-parent-requires-clause-valid : goal.given_parent-parent-requires-clause-valid
given_parent-parent-requires-clause-valid g c = c.self.invariant.tied.valid

pub given_parent-parent-requires-clause-words : goal.given_parent-parent-requires-clause-words
given_parent-parent-requires-clause-words g c = c.self.invariant.tied.words

pub next_to_raise_under-requires-clause-place : goal.next_to_raise_under-requires-clause-place
next_to_raise_under-requires-clause-place g c =
    let m = c.self.inside in
    let p : Parts = parts_of m.window m.tree m.handles m.counts m.notifiers m.credits m.spent m.ignore_unused m.flight m.course m.prepare_holds m.enable_holds m.steps in
    let going : p.flight.going ≡ true = subst (λ (q : Parts). q.flight.going ≡ true) (sym c.self.view_is) c.requires.going in
    let near : is_near p.flight.call (registered p.tree.clocks) c.args.clock.0 ≡ true = subst (λ (q : Parts). is_near q.flight.call (registered q.tree.clocks) c.args.clock.0 ≡ true) (sym c.self.view_is) c.requires.near in
    near_within p c.args.clock.0 c.self.invariant going near

pub next_to_raise_under-requires-clause-parent : goal.next_to_raise_under-requires-clause-parent
next_to_raise_under-requires-clause-parent g c =
    let m = c.self.inside in
    by c.given_parent-parent.result c.given_parent-parent.ensures.there where
      by : (o : Option ClockId) → IfSome o (λ q. registered c.self.inside.tree.clocks q.0 ≡ true) → IfSome o (λ q. q.0 < length c.self.inside.tree.defs)
      by None there = tt
      by (Some q) there = clock_within (desc_of c.self.inside.tree) c.self.inside.window c.self.inside.tree q.0 c.self.invariant.tied there

pub next_to_raise_under-requires-clause-links : goal.next_to_raise_under-requires-clause-links
next_to_raise_under-requires-clause-links g c = links_within (desc_of c.self.inside.tree) c.self.inside.window c.self.inside.tree c.self.invariant.tied

pub next_to_raise_under-requires-clause-counted : goal.next_to_raise_under-requires-clause-counted
next_to_raise_under-requires-clause-counted g c = c.self.invariant.counted.stands.size

pub returns-then-registered-clause-found : goal.returns-then-registered-clause-found
returns-then-registered-clause-found g c =
    let m = c.self.inside in
    let p : Parts = parts_of m.window m.tree m.handles m.counts m.notifiers m.credits m.spent m.ignore_unused m.flight m.course m.prepare_holds m.enable_holds m.steps in
    rw (← c.self.view_is) (found_on_path p c.args.clock.0 c.next_to_raise.result (sym c.registered.ensures.registered ∙ c.if-registered.true) c.next_to_raise.ensures)

pub returns-then-registered-clause-near : goal.returns-then-registered-clause-near
returns-then-registered-clause-near g c =
    let m = c.self.inside in
    let p : Parts = parts_of m.window m.tree m.handles m.counts m.notifiers m.credits m.spent m.ignore_unused m.flight m.course m.prepare_holds m.enable_holds m.steps in
    rw (← c.self.view_is) (near_on_path p c.args.clock.0 c.next_to_raise.result c.self.invariant (sym c.registered.ensures.registered ∙ c.if-registered.true) c.next_to_raise.ensures)

pub returns-clause-found : goal.returns-clause-found
returns-clause-found g c =
    let m = c.self.inside in
    let p : Parts = parts_of m.window m.tree m.handles m.counts m.notifiers m.credits m.spent m.ignore_unused m.flight m.course m.prepare_holds m.enable_holds m.steps in
    rw (← c.self.view_is) (found_under p c.args.clock.0 c.given_parent-parent.result c.next_to_raise_under.result (sym c.registered.ensures.registered ∙ c.if-registered.false) c.given_parent-parent.ensures.link c.next_to_raise_under.ensures)

pub returns-clause-near : goal.returns-clause-near
returns-clause-near g c =
    let m = c.self.inside in
    let p : Parts = parts_of m.window m.tree m.handles m.counts m.notifiers m.credits m.spent m.ignore_unused m.flight m.course m.prepare_holds m.enable_holds m.steps in
    let near : is_near p.flight.call (registered p.tree.clocks) c.args.clock.0 ≡ true = subst (λ (q : Parts). is_near q.flight.call (registered q.tree.clocks) c.args.clock.0 ≡ true) (sym c.self.view_is) c.requires.near in
    rw (← c.self.view_is) (near_under p c.args.clock.0 c.given_parent-parent.result c.next_to_raise_under.result c.self.invariant near c.given_parent-parent.ensures.there c.next_to_raise_under.ensures)
