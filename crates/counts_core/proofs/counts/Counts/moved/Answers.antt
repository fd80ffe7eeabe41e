-- The sums over the old links turn into those over the tree's.
use Rattle.std.proofs.Common.{◌≡◌, ℕ, ◌<◌, List, Bool, Option, Some, refl, sym, ◌∙◌, subst, arith, length, set}
use Rattle.std.specs.Option.{IfSome}
use Rattle.clk_base.specs.declared.clock.ClockId.{ClockId}
use Rattle.counts_core.specs.Sums.{up_in, AreSums, AreOwed, Grows}
use Rattle.counts_core.proofs.Growing.{grows_both}
use Rattle.counts_core.proofs.Held.{own_small, counted_same, counts_stand}
use Rattle.counts_core.proofs.Moving.{moves, moves_links, moves_inside, moves_there, moves_owed, counted_moved}
use Rattle.counts_core.proofs.counts.Counts.moved.Goals as goal

pub child_joins-requires-clause-there : goal.child_joins-requires-clause-there
child_joins-requires-clause-there c =
    let m = moves c.args.self.now c.self.view_is c.parent-to.ensures.stands c.requires.place c.requires.size c.requires.from c.requires.others c.parent-to.ensures.link in
    subst (λ (ls : List (Option ClockId)). IfSome c.parent-to.result (λ p. p.0 < length ls)) (sym c.deref.ensures.value) (moves_there m)

pub child_joins-requires-clause-room : goal.child_joins-requires-clause-room
child_joins-requires-clause-room c = λ d. let small = own_small c.self.invariant d in omega arith

pub child_leaves-requires-clause-inside : goal.child_leaves-requires-clause-inside
child_leaves-requires-clause-inside c =
    let m = moves c.args.self.now c.self.view_is c.parent-to.ensures.stands c.requires.place c.requires.size c.requires.from c.requires.others c.parent-to.ensures.link in
    subst (λ (ls : List (Option ClockId)). (d p : ℕ) → up_in ls d ≡ Some p → p < length ls) (sym c.deref-3.ensures.value) (moves_inside m)

pub child_leaves-requires-clause-enable_owed : goal.child_leaves-requires-clause-enable_owed
child_leaves-requires-clause-enable_owed c =
    let m = moves c.args.self.now c.self.view_is c.parent-to.ensures.stands c.requires.place c.requires.size c.requires.from c.requires.others c.parent-to.ensures.link in
    let owed =
    subst (λ (ls : List (Option ClockId)). AreOwed ls c.child_joins.new.enables.own.items c.child_joins.new.enables.counts.items c.args.c.0 c.parent-to.result) c.deref.ensures.value
    c.child_joins.ensures.enable_owed in
    subst (λ (ls : List (Option ClockId)). AreOwed ls c.child_joins.new.enables.own.items c.child_joins.new.enables.counts.items c.args.c.0 c.args.from) (sym c.deref-3.ensures.value)
    (moves_owed c.child_joins.new.enables.own.items c.child_joins.new.enables.counts.items m owed)

pub child_leaves-requires-clause-prepare_owed : goal.child_leaves-requires-clause-prepare_owed
child_leaves-requires-clause-prepare_owed c =
    let m = moves c.args.self.now c.self.view_is c.parent-to.ensures.stands c.requires.place c.requires.size c.requires.from c.requires.others c.parent-to.ensures.link in
    let owed =
    subst (λ (ls : List (Option ClockId)). AreOwed ls c.child_joins.new.prepares.own.items c.child_joins.new.prepares.counts.items c.args.c.0 c.parent-to.result) c.deref.ensures.value
    c.child_joins.ensures.prepare_owed in
    subst (λ (ls : List (Option ClockId)). AreOwed ls c.child_joins.new.prepares.own.items c.child_joins.new.prepares.counts.items c.args.c.0 c.args.from) (sym c.deref-3.ensures.value)
    (moves_owed c.child_joins.new.prepares.own.items c.child_joins.new.prepares.counts.items m owed)

pub child_leaves-requires-clause-owed : goal.child_leaves-requires-clause-owed
child_leaves-requires-clause-owed c =
    let m = moves c.args.self.now c.self.view_is c.parent-to.ensures.stands c.requires.place c.requires.size c.requires.from c.requires.others c.parent-to.ensures.link in
    let owed =
    subst (λ (ls : List (Option ClockId)). AreOwed ls c.child_joins.new.protects.own.items c.child_joins.new.protects.counts.items c.args.c.0 c.parent-to.result) c.deref.ensures.value
    c.child_joins.ensures.owed in
    subst (λ (ls : List (Option ClockId)). AreOwed ls c.child_joins.new.protects.own.items c.child_joins.new.protects.counts.items c.args.c.0 c.args.from) (sym c.deref-3.ensures.value)
    (moves_owed c.child_joins.new.protects.own.items c.child_joins.new.protects.counts.items m owed)

pub invariant_of-self : goal.invariant_of-self
invariant_of-self c =
    let s = c.self.inside in
    let v = c.child_leaves.new in
    let m = moves c.args.self.now c.self.view_is c.parent-to.ensures.stands c.requires.place c.requires.size c.requires.from c.requires.others c.parent-to.ensures.link in
    let enables = c.child_leaves.ensures.enable_own ∙ c.child_joins.ensures.enable_own in
    let prepares = c.child_leaves.ensures.prepare_own ∙ c.child_joins.ensures.prepare_own in
    let over = λ (own counts : List ℕ) (sums : AreSums c.deref-3.result.now own counts). subst (λ (ls : List (Option ClockId)). AreSums ls own counts) c.deref-3.ensures.value sums in
    let grown =
    grows_both s.gated.items s.protects.own.items s.prepares.counts.items c.child_joins.new.protects.own.items c.child_joins.new.prepares.counts.items v.protects.own.items v.prepares.counts.items
    (subst (λ (gs : List Bool). Grows gs s.protects.own.items s.prepares.counts.items c.child_joins.new.protects.own.items c.child_joins.new.prepares.counts.items) c.deref-2.ensures.value
    c.child_joins.ensures.coupled)
    (subst (λ (gs : List Bool). Grows gs c.child_joins.new.protects.own.items c.child_joins.new.prepares.counts.items v.protects.own.items v.prepares.counts.items) c.deref-4.ensures.value
    c.child_leaves.ensures.coupled) in
    counted_same refl enables prepares refl refl refl refl refl
    (counted_moved v.enables.counts.items v.prepares.counts.items v.protects.own.items v.protects.counts.items c.self.invariant m
    (subst (λ (xs : List ℕ). AreSums (set s.links.items c.args.c.0 c.parent-to.result) xs v.enables.counts.items) enables (over v.enables.own.items v.enables.counts.items c.child_leaves.ensures.enable_sums))
    (subst (λ (xs : List ℕ). AreSums (set s.links.items c.args.c.0 c.parent-to.result) xs v.prepares.counts.items) prepares (over v.prepares.own.items v.prepares.counts.items c.child_leaves.ensures.prepare_sums))
    (over v.protects.own.items v.protects.counts.items c.child_leaves.ensures.sums) grown)

pub returns-clause-links : goal.returns-clause-links
returns-clause-links c =
    moves_links (moves c.args.self.now c.self.view_is c.parent-to.ensures.stands c.requires.place c.requires.size c.requires.from c.requires.others c.parent-to.ensures.link)

pub returns-clause-stands : goal.returns-clause-stands
returns-clause-stands c = counts_stand (invariant_of-self c)
