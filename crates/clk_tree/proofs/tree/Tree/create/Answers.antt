-- The empty tree.
use Rattle.std.proofs.Common.{rules, false, ◌≡◌, ◌∙◌, ap, subst, sym, List, ℕ, replicate, length, arith}
use Rattle.clk_base.specs.Checked.{Checked}
use Rattle.clk_model.specs.declared.row.ClockRow.{ClockRow}
use Rattle.clk_model.specs.State.{unregistered_row}
use Rattle.clk_tree.specs.Held.{IsHeld}
use Rattle.clk_tree.specs.Rings.{ring_of}
use Rattle.clk_tree.proofs.HeldLaws.{held_made}
use Rattle.clk_tree.proofs.tree.Tree.create.Goals as goal

pub invariant_of-result : goal.invariant_of-result
invariant_of-result c =
    let defs = c.args.desc.now.defs in
    let rows : c.in_ok-clocks.clocks.items ≡ replicate (length defs) unregistered_row =
    c.in_ok-clocks.ensures.items_if_clones_equal (search rules)
    ∙ ap (λ (r : ClockRow). replicate c.len.result r) c.unregistered.ensures
    ∙ ap (λ (n : ℕ). replicate n unregistered_row) c.len.ensures.len in
    let rated : length c.in_ok-rates.rates.items ≡ length defs =
    let ok = c.in_ok-rates.rates.ok in let len = c.in_ok-rates.ensures.len in let is = c.len-2.ensures.len in omega arith in
    let down : c.in_ok-rooted.rooted.items ≡ replicate (length defs) false =
    c.in_ok-rooted.ensures.items_if_clones_equal (search rules) ∙ ap (λ (n : ℕ). replicate n false) c.len-3.ensures.len in
    subst (λ (d : Checked). IsHeld d.defs c.in_ok-clocks.clocks.items c.in_ok-rates.rates.items c.in_ok-turns.turns c.in_ok-siblings.siblings c.in_ok-plls.plls c.in_ok-rooted.rooted.items) (sym c.in_ok-copy.ensures)
    (subst (λ (rs : List ClockRow). IsHeld defs rs c.in_ok-rates.rates.items c.in_ok-turns.turns c.in_ok-siblings.siblings c.in_ok-plls.plls c.in_ok-rooted.rooted.items) (sym rows)
    (held_made c.args.desc.now.words defs c.in_ok-rates.rates.items c.in_ok-turns.turns c.in_ok-siblings.siblings c.in_ok-plls.plls c.in_ok-rooted.rooted.items c.count_of-count.result c.count_of-count.ensures.valid
    c.count_of-count.ensures.count rated c.in_ok-turns.ensures.size c.in_ok-siblings.ensures.size c.in_ok-turns.ensures.alone c.in_ok-siblings.ensures.alone c.in_ok-plls.ensures down).1)

pub returns-clause-order : goal.returns-clause-order
returns-clause-order c =
    let defs = c.args.desc.now.defs in
    let rated : length c.in_ok-rates.rates.items ≡ length defs =
    let ok = c.in_ok-rates.rates.ok in let len = c.in_ok-rates.ensures.len in let is = c.len-2.ensures.len in omega arith in
    let down : c.in_ok-rooted.rooted.items ≡ replicate (length defs) false =
    c.in_ok-rooted.ensures.items_if_clones_equal (search rules) ∙ ap (λ (n : ℕ). replicate n false) c.len-3.ensures.len in
    ap (λ (d : Checked). ring_of c.in_ok-turns.turns (length d.defs)) c.in_ok-copy.ensures
    ∙ (held_made c.args.desc.now.words defs c.in_ok-rates.rates.items c.in_ok-turns.turns c.in_ok-siblings.siblings c.in_ok-plls.plls c.in_ok-rooted.rooted.items c.count_of-count.result c.count_of-count.ensures.valid
    c.count_of-count.ensures.count rated c.in_ok-turns.ensures.size c.in_ok-siblings.ensures.size c.in_ok-turns.ensures.alone c.in_ok-siblings.ensures.alone c.in_ok-plls.ensures down).0

pub returns-clause-stands : goal.returns-clause-stands
returns-clause-stands c = (invariant_of-result c).tree
