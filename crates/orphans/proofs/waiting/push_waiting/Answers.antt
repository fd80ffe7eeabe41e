-- Clock by clock.
use Rattle.std.proofs.Common.{◌≡◌, ◌∙◌, ◌+◌, ◌≤◌, ◌++◌, Bool, List, ◌∷◌, Some, None, ℕ, suc, sym, ap, arith, length, drop, map}
use Rattle.std.specs.Prelude.{filter, slice_get}
use Rattle.std.specs.Option.{option_map}
use Rattle.std.proofs.lemmas.List.{append-nil}
use Rattle.clk_base.specs.declared.clock.ClockId.{ClockId}
use Rattle.clk_tree.proofs.Along.{none_left}
use Rattle.orphans.specs.Beside.{waits_beside}
use Rattle.clk_tree.proofs.Along.{drop_at, few_at, within_at}
use Rattle.orphans.proofs.WaitingLaws.{next_along, together_few, together_there, one_more}
use Rattle.orphans.proofs.waiting.push_waiting.Goals as goal

pub returns-in_default-clause-pushed : goal.returns-in_default-clause-pushed
returns-in_default-clause-pushed g c = λ regs cs k told are at.
    let test : ℕ → Bool = waits_beside c.args.tree.now regs c.args.new.0 in
    let places : List ℕ = map (λ (x : ClockId). x.0) c.loop-count.waiting.items in
    let none : slice_get cs (k + c.loop-count.count) ≡ None = sym (c.loop-count.invariant.along cs k are at) ∙ ap (option_map (λ (x : ClockId). x.0)) c.in_default.is in
    sym (append-nil places)
    ∙ ap (λ (xs : List ℕ). places ++ filter test xs) (sym (none_left cs (k + c.loop-count.count) (few_at cs (k + c.loop-count.count) none)))
    ∙ c.loop-count.invariant.pushed regs cs k told are at

pub returns-in_default-clause-counted : goal.returns-in_default-clause-counted
returns-in_default-clause-counted g c = λ cs k are at within.
    let none : slice_get cs (k + c.loop-count.count) ≡ None = sym (c.loop-count.invariant.along cs k are at) ∙ ap (option_map (λ (x : ClockId). x.0)) c.in_default.is in
    let past = few_at cs (k + c.loop-count.count) none in
    let few = c.loop-count.invariant.few cs k are at within in
    omega arith

pub returns-clause-pushed : goal.returns-clause-pushed
returns-clause-pushed g c = λ regs cs k told are at.
    let test : ℕ → Bool = waits_beside c.args.tree.now regs c.args.new.0 in
    let places : List ℕ = map (λ (x : ClockId). x.0) c.loop-count.waiting.items in
    let past : length cs ≤ k + c.loop-count.count =
    let few = together_few c.args.tree.now cs c.len-all.ensures.stands are in let all = c.len-all.ensures.len in let over = c.loop-count-test.false in omega arith in
    sym (append-nil places)
    ∙ ap (λ (xs : List ℕ). places ++ filter test xs) (sym (none_left cs (k + c.loop-count.count) past))
    ∙ c.loop-count.invariant.pushed regs cs k told are at

pub returns-clause-counted : goal.returns-clause-counted
returns-clause-counted g c = λ cs k are at within.
    let most = c.loop-count.invariant.few cs k are at within in
    let few = together_few c.args.tree.now cs c.len-all.ensures.stands are in let all = c.len-all.ensures.len in let over = c.loop-count-test.false in
    omega arith

pub loop-count-preserved : goal.loop-count-preserved
loop-count-preserved g c =
    let tree = c.args.tree.now in
    let n = c.loop-count.count in
    record {
      at_inside = c.next_sibling-at.ensures.inside;
      inside = c.in_ok-push_if_waiting.ensures.inside;
      there = λ cs k are at before.
          let is : slice_get cs (k + n) ≡ Some c.in-Some.clock.0 = sym (c.loop-count.invariant.along cs k are at) ∙ ap (option_map (λ (x : ClockId). x.0)) c.in-Some.is in
          c.in_ok-push_if_waiting.ensures.there (together_there tree cs (k + n) c.in-Some.clock.0 c.len-all.ensures.stands are is) (c.loop-count.invariant.there cs k are at before);
      along = λ cs k are at.
          let is : slice_get cs (k + n) ≡ Some c.in-Some.clock.0 = sym (c.loop-count.invariant.along cs k are at) ∙ ap (option_map (λ (x : ClockId). x.0)) c.in-Some.is in
          next_along tree cs (k + n) c.in-Some.clock.0 c.next_sibling-at.result are is c.next_sibling-at.ensures.root c.next_sibling-at.ensures.orphan
          ∙ ap (slice_get cs) (let sum : (k + n) + 1 ≡ k + (n + 1) = omega arith in sum);
      few = λ cs k are at within.
          let is : slice_get cs (k + n) ≡ Some c.in-Some.clock.0 = sym (c.loop-count.invariant.along cs k are at) ∙ ap (option_map (λ (x : ClockId). x.0)) c.in-Some.is in
          let less = within_at cs (k + n) c.in-Some.clock.0 is in omega arith;
      pushed = λ regs cs k told are at.
          let is : slice_get cs (k + n) ≡ Some c.in-Some.clock.0 = sym (c.loop-count.invariant.along cs k are at) ∙ ap (option_map (λ (x : ClockId). x.0)) c.in-Some.is in
          let behind : drop (k + n) cs ≡ c.in-Some.clock.0 ∷ drop (k + (n + 1)) cs = drop_at cs (k + n) c.in-Some.clock.0 is ∙ ap (λ (m : ℕ). c.in-Some.clock.0 ∷ drop m cs) (let sum : suc (k + n) ≡ k + (n + 1) = omega arith in sum) in
          one_more (waits_beside tree regs c.args.new.0) c.in-Some.clock.0 (drop (k + n) cs) (drop (k + (n + 1)) cs)
          (map (λ (x : ClockId). x.0) c.loop-count.waiting.items) (map (λ (x : ClockId). x.0) c.push_if_waiting.new.waiting.items)
          (map (λ (x : ClockId). x.0) c.args.waiting.now.items ++ filter (waits_beside tree regs c.args.new.0) (drop k cs))
          behind (c.in_ok-push_if_waiting.ensures.pushed regs told) (c.loop-count.invariant.pushed regs cs k told are at);
    }
