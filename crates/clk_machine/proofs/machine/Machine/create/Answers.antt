use Rattle.std.proofs.Common.{refl, ◌∙◌, ap, subst, length, List, ℕ, Option, replicate}
use Rattle.std.proofs.lemmas.List.{length-replicate}
use Rattle.std.specs.Prelude.{is_some}
use Rattle.clk_base.specs.Checked.{Checked}
use Rattle.clk_base.specs.Valid.{IsValid}
use Rattle.notifiers.specs.declared.notifier.Notifier.{Notifier}
use Rattle.core_parts.specs.Tied.{desc_of}
use Rattle.clk_machine.proofs.Described.{checked_same}
use Rattle.clk_machine.proofs.Following.{told_mapped}
use Rattle.clk_machine.proofs.Opened.{whole_opening, counts_opening, stands_opening, blank_registered}
use Rattle.clk_machine.proofs.machine.Machine.create.Goals as goal

pub invariant_of-result : goal.invariant_of-result
invariant_of-result g c =
    let tree = c.in_ok-tree.tree in
    let made = c.in_ok-lists.ensures in
    whole_opening c.args.desc c.create-window.result tree c.in_ok-lists.lists.0 c.in_ok-lists.lists.1 c.in_ok-lists.lists.2 c.args.credits c.args.ignore_unused c.create-flight.result c.none-course.result c.in_ok-holds.holds.0 c.in_ok-holds.holds.1
    (c.in_ok-holds.ensures.prepares ∙ ap (λ (n : ℕ). replicate n 0) c.len.ensures.len) (c.in_ok-holds.ensures.enables ∙ ap (λ (n : ℕ). replicate n 0) c.len.ensures.len) c.create-flight.ensures.quiet
    (subst (λ (d : Checked). IsValid d.words d.defs) c.desc.view_is c.desc.invariant) (c.create-window.ensures.size ∙ c.requires.words) c.create-window.ensures.told
    (checked_same (desc_of tree) c.args.desc c.in_ok-tree.ensures.words c.in_ok-tree.ensures.defs) c.in_ok-tree.ensures.rows c.in_ok-tree.ensures.stands c.requires.credits
    made.clocks made.handles made.stands
    (counts_opening c.args.desc c.in_ok-lists.lists.1 made.gated made.links made.enables made.prepares made.exclusives)
    (ap (λ (chains : List (List Notifier)). length chains) made.chains ∙ length-replicate (length c.args.desc.defs) _) made.told

pub returns-clause-stands : goal.returns-clause-stands
returns-clause-stands g c = λ told.
    stands_opening c.args.desc c.create-window.result c.in_ok-tree.tree c.in_ok-lists.lists.0 c.in_ok-lists.lists.1 c.in_ok-lists.lists.2 c.args.credits c.args.ignore_unused c.create-flight.result c.none-course.result c.in_ok-holds.holds.0 c.in_ok-holds.holds.1
    c.args.words.now (g.B.Bank.contents c.args.bank) (c.in_ok-holds.ensures.prepares ∙ ap (λ (n : ℕ). replicate n 0) c.len.ensures.len) (c.in_ok-holds.ensures.enables ∙ ap (λ (n : ℕ). replicate n 0) c.len.ensures.len) c.create-flight.ensures.quiet c.create-window.ensures.words (checked_same (desc_of c.in_ok-tree.tree) c.args.desc c.in_ok-tree.ensures.words c.in_ok-tree.ensures.defs) c.in_ok-tree.ensures.rows c.in_ok-tree.ensures.order c.in_ok-lists.ensures.handles
    c.in_ok-lists.ensures.told told

pub returns-clause-none : goal.returns-clause-none
returns-clause-none g c = λ k. blank_registered c.in_ok-tree.tree.clocks (length c.args.desc.defs) k c.in_ok-tree.ensures.rows

pub returns-clause-told : goal.returns-clause-told
returns-clause-told g c = ap (λ (o : Option (List ℕ)). is_some o) c.create-window.ensures.words ∙ told_mapped (λ (ws : List ℕ). c.args.words.now) (g.B.Bank.contents c.args.bank)

pub returns-clause-fixed : goal.returns-clause-fixed
returns-clause-fixed g c = (checked_same (desc_of c.in_ok-tree.tree) c.args.desc c.in_ok-tree.ensures.words c.in_ok-tree.ensures.defs, refl, refl, refl)
