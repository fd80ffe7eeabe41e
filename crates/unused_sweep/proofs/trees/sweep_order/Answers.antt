-- The roots, or without any the orphans, and then the orphans that are left.
use Rattle.std.proofs.Common.{◌∙◌, ◌<◌, ◌++◌, ℕ, List, map, refl, sym, ap, subst, inl, inr}
use Rattle.std.specs.Prelude.{drop}
use Rattle.clk_base.specs.declared.clock.ClockId.{ClockId}
use Rattle.clk_model.specs.Tree.{roots, orphans}
use Rattle.unused_sweep.specs.Together.{trees}
use Rattle.unused_sweep.proofs.Sweeping.{both_lists, sweeps_trees}
use Rattle.unused_sweep.proofs.trees.sweep_order.Goals as goal

pub returns : goal.returns
returns c = λ s defs clocks order.
    let t = c.args.tree.now in
    both_lists t (roots t.defs t.order) (orphans t.defs t.order t.clocks) c.top.result c.top-2.result c.in_ok-done.done
    (map (λ (d : ClockId). d.0) c.push_trees.new.order.items) (map (λ (d : ClockId). d.0) c.push_trees-2.new.order.items)
    (inr (inl refl)) (inr (inr refl)) c.top.ensures.top c.top-2.ensures.top
    (λ cs k are at.
    c.in_ok-done.ensures.pushed cs k are at
    ∙ ap (λ (ds : List ClockId). map (λ (d : ClockId). d.0) ds ++ trees t c.depth.result (drop k cs)) c.new-order.ensures.items
    ∙ ap (λ (n : ℕ). trees t n (drop k cs)) c.depth.ensures)
    (λ cs k are at some within. c.in_ok-done.ensures.counted cs k are at (subst (λ (n : ℕ). 0 < n) (sym c.depth.ensures) some) within)
    (λ cs k are at.
    c.in_ok-push_trees.ensures.pushed cs k are at
    ∙ ap (λ (n : ℕ). map (λ (d : ClockId). d.0) c.push_trees.new.order.items ++ trees t n (drop k cs)) c.depth-2.ensures)
    ∙ sweeps_trees t s defs clocks order
