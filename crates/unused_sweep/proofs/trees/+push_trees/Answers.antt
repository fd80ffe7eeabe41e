-- Clock by clock, what is below it and then the clock.
use Rattle.std.proofs.Common.{◌≡◌, ℕ, suc, ◌+◌, ◌-◌, ◌≤◌, ◌++◌, List, [], ◌∷◌, Some, None, refl, sym, ap, ◌∙◌, inl, arith, length, drop, map}
use Rattle.std.specs.Prelude.{slice_get}
use Rattle.std.specs.Option.{option_map}
use Rattle.std.proofs.lemmas.List.{append-nil, map-append, length-append, length-map}
use Rattle.clk_base.specs.declared.clock.ClockId.{ClockId}
use Rattle.clk_model.specs.Tree.{children}
use Rattle.clk_tree.proofs.Along.{none_left}
use Rattle.unused_sweep.specs.Together.{trees}
use Rattle.clk_tree.proofs.Along.{drop_zero, drop_at, few_at, within_at}
use Rattle.unused_sweep.proofs.Sweeping.{no_trees, next_along, one_tree}
use Rattle.unused_sweep.proofs.trees.+push_trees.Goals as goal

-- clocks with more clocks behind them are as many or more
longer_by : (one two : List ClockId) (more : List ℕ) → map (λ (d : ClockId). d.0) two ≡ map (λ (d : ClockId). d.0) one ++ more → length one ≤ length two
longer_by one two more e =
    let sum = length-append (map (λ (d : ClockId). d.0) one) more in
    let same = ap length e in
    let first : length (map {B = ℕ} (λ (d : ClockId). d.0) one) ≡ length one = length-map one (λ (d : ClockId). d.0) in
    let second : length (map {B = ℕ} (λ (d : ClockId). d.0) two) ≡ length two = length-map two (λ (d : ClockId). d.0) in
    omega arith

pub returns-then-levels-eq0-clause-pushed : goal.returns-then-levels-eq0-clause-pushed
returns-then-levels-eq0-clause-pushed t c = λ cs k are at.
    let places : List ℕ = map (λ (d : ClockId). d.0) c.args.order.now.items in
    sym (ap (λ (n : ℕ). places ++ trees c.args.tree.now n (drop k cs)) c.if-levels-eq0.true ∙ ap (λ (xs : List ℕ). places ++ xs) (no_trees c.args.tree.now (drop k cs)) ∙ append-nil places)

pub returns-in_default-clause-pushed : goal.returns-in_default-clause-pushed
returns-in_default-clause-pushed t c = λ cs k are at.
    let places : List ℕ = map (λ (d : ClockId). d.0) c.loop-count.order.items in
    let none : slice_get cs (k + c.loop-count.count) ≡ None = sym (c.loop-count.invariant.along cs k are at) ∙ ap (option_map (λ (d : ClockId). d.0)) c.in_default.is in
    sym (append-nil places)
    ∙ ap (λ (xs : List ℕ). places ++ trees c.args.tree.now c.args.levels xs) (sym (none_left cs (k + c.loop-count.count) (few_at cs (k + c.loop-count.count) none)))
    ∙ c.loop-count.invariant.pushed cs k are at

pub returns-in_default-clause-counted : goal.returns-in_default-clause-counted
returns-in_default-clause-counted t c = λ cs k are at some within.
    let none : slice_get cs (k + c.loop-count.count) ≡ None = sym (c.loop-count.invariant.along cs k are at) ∙ ap (option_map (λ (d : ClockId). d.0)) c.in_default.is in
    let past = few_at cs (k + c.loop-count.count) none in
    let few = c.loop-count.invariant.few cs k are at within in
    omega arith

pub loop-count-preserved : goal.loop-count-preserved
loop-count-preserved t c =
    let tree = c.args.tree.now in
    let n = c.loop-count.count in
    let deep : c.args.levels ≡ suc (c.args.levels - 1) = let some = c.if-levels-eq0.false in omega arith in
    let one : c.push.new.self.items ≡ c.push_trees.new.order.items ++ c.in-Some.clock ∷ [] = c.in_ok-push.ensures.items in
    record {
      room = let sum : length c.push.new.self.items ≡ length c.push_trees.new.order.items + 1 = ap length one ∙ length-append c.push_trees.new.order.items (c.in-Some.clock ∷ []) in
          let longer = longer_by c.loop-count.order.items c.push_trees.new.order.items (trees tree (c.args.levels - 1) (drop 0 (children tree.order tree.clocks c.in-Some.clock.0)))
          (c.in_ok-push_trees.ensures.pushed (children tree.order tree.clocks c.in-Some.clock.0) 0 (inl (c.in-Some.clock.0, refl)) c.first_child.ensures.first) in
          let room = c.loop-count.invariant.room in omega arith;
      along = λ cs k are at.
          let is : slice_get cs (k + n) ≡ Some c.in-Some.clock.0 = sym (c.loop-count.invariant.along cs k are at) ∙ ap (option_map (λ (d : ClockId). d.0)) c.in-Some.is in
          next_along tree cs (k + n) c.in-Some.clock.0 c.next_sibling-at.result are is c.next_sibling-at.ensures.child c.next_sibling-at.ensures.root c.next_sibling-at.ensures.orphan
          ∙ ap (slice_get cs) (let sum : (k + n) + 1 ≡ k + (n + 1) = omega arith in sum);
      few = λ cs k are at within.
          let is : slice_get cs (k + n) ≡ Some c.in-Some.clock.0 = sym (c.loop-count.invariant.along cs k are at) ∙ ap (option_map (λ (d : ClockId). d.0)) c.in-Some.is in
          let less = within_at cs (k + n) c.in-Some.clock.0 is in omega arith;
      pushed = λ cs k are at.
          let is : slice_get cs (k + n) ≡ Some c.in-Some.clock.0 = sym (c.loop-count.invariant.along cs k are at) ∙ ap (option_map (λ (d : ClockId). d.0)) c.in-Some.is in
          let behind : drop (k + n) cs ≡ c.in-Some.clock.0 ∷ drop (k + (n + 1)) cs = drop_at cs (k + n) c.in-Some.clock.0 is ∙ ap (λ (m : ℕ). c.in-Some.clock.0 ∷ drop m cs) (let sum : suc (k + n) ≡ k + (n + 1) = omega arith in sum) in
          ap (λ (ds : List ClockId). map (λ (d : ClockId). d.0) ds ++ trees tree c.args.levels (drop (k + (n + 1)) cs)) one
          ∙ ap (λ (xs : List ℕ). xs ++ trees tree c.args.levels (drop (k + (n + 1)) cs)) (map-append (λ (d : ClockId). d.0) c.push_trees.new.order.items (c.in-Some.clock ∷ []))
          ∙ one_tree tree c.args.levels (c.args.levels - 1) c.in-Some.clock.0 (drop (k + n) cs) (drop (k + (n + 1)) cs)
          (map (λ (d : ClockId). d.0) c.loop-count.order.items) (map (λ (d : ClockId). d.0) c.push_trees.new.order.items)
          (map (λ (d : ClockId). d.0) c.args.order.now.items ++ trees tree c.args.levels (drop k cs))
          deep behind
          (c.in_ok-push_trees.ensures.pushed (children tree.order tree.clocks c.in-Some.clock.0) 0 (inl (c.in-Some.clock.0, refl)) c.first_child.ensures.first
          ∙ ap (λ (xs : List ℕ). map (λ (d : ClockId). d.0) c.loop-count.order.items ++ trees tree (c.args.levels - 1) xs) (drop_zero (children tree.order tree.clocks c.in-Some.clock.0)))
          (c.loop-count.invariant.pushed cs k are at);
    }
