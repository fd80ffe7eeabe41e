-- The roots, of which none waits, and the orphans.
use Rattle.std.proofs.Common.{◌≡◌, ◌∙◌, ◌++◌, true, List, map, refl, sym, ap, subst, inl, inr}
use Rattle.std.specs.Prelude.{All, drop, filter}
use Rattle.std.proofs.lemmas.List.Elements.{All-nil}
use Rattle.clk_base.specs.declared.clock.ClockId.{ClockId}
use Rattle.clk_model.specs.State.{registered}
use Rattle.clk_model.specs.Tree.{roots, orphans}
use Rattle.orphans.specs.Beside.{rows_with, waits_beside}
use Rattle.orphans.proofs.WaitingLaws.{both_lists, both_there, roots_wait_not, top_inside}
use Rattle.orphans.proofs.waiting.waiting.Goals as goal

pub push_waiting-requires-clause-inside : goal.push_waiting-requires-clause-inside
push_waiting-requires-clause-inside g c =
    top_inside c.args.tree.now 0 c.top.result c.top.ensures.stands c.top.ensures.top

pub push_waiting-requires-2-clause-inside : goal.push_waiting-requires-2-clause-inside
push_waiting-requires-2-clause-inside g c =
    top_inside c.args.tree.now c.in_ok-done.done c.top-2.result c.top.ensures.stands c.top-2.ensures.top

pub returns-clause-there : goal.returns-clause-there
returns-clause-there g c =
    let t = c.args.tree.now in
    let test : ClockId → Type 0 = λ d. registered t.clocks d.0 ≡ true in
    both_there t test (roots t.defs t.order) (orphans t.defs t.order t.clocks) c.top.result c.top-2.result c.in_ok-done.done c.push_waiting.new.waiting.items c.push_waiting-2.new.waiting.items
    (inl refl) (inr refl) c.top.ensures.top c.top-2.ensures.top
    (λ cs k are at. c.in_ok-done.ensures.there cs k are at (subst (λ (ds : List ClockId). All test ds) (sym c.new-list.ensures.items) (All-nil test)))
    (λ cs k are at within. c.in_ok-done.ensures.counted cs k are at within)
    (λ cs k are at before. c.in_ok-push_waiting.ensures.there cs k are at before)

pub returns-clause-list : goal.returns-clause-list
returns-clause-list g c = λ regs told.
    let t = c.args.tree.now in
    both_lists t (waits_beside t regs c.args.new.0) (roots t.defs t.order) (orphans t.defs t.order t.clocks) c.top.result c.top-2.result c.in_ok-done.done
    (map (λ (x : ClockId). x.0) c.push_waiting.new.waiting.items) (map (λ (x : ClockId). x.0) c.push_waiting-2.new.waiting.items)
    (inl refl) (inr refl) c.top.ensures.top c.top-2.ensures.top
    (roots_wait_not (g.B.Bank.size c.args.bank.now) t regs (rows_with t regs c.args.new.0) c.requires.valid c.top.ensures.stands)
    (λ cs k are at.
    c.in_ok-done.ensures.pushed regs cs k told are at
    ∙ ap (λ (ds : List ClockId). map (λ (x : ClockId). x.0) ds ++ filter (waits_beside t regs c.args.new.0) (drop k cs)) c.new-list.ensures.items)
    (λ cs k are at within. c.in_ok-done.ensures.counted cs k are at within)
    (λ cs k are at. c.in_ok-push_waiting.ensures.pushed regs cs k told are at)
