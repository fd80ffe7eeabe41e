-- Laws on trees that are gone along, one beside the other.
use Rattle.std.proofs.Common.{◌≡◌, ℕ, suc, ◌+◌, ◌<◌, ◌≤◌, ◌++◌, List, [], ◌∷◌, Option, Some, refl, sym, ap, ◌∙◌, inl, inr, arith, length, drop, append_assoc}
use Rattle.std.specs.Prelude.{slice_get}
use Rattle.std.specs.Option.{option_map}
use Rattle.std.proofs.lemmas.Grind.{flat_map-append}
use Rattle.std.proofs.lemmas.List.{append-nil}
use Rattle.clk_base.specs.declared.clock.ClockId.{ClockId}
use Rattle.clk_base.specs.Levels.{depth}
use Rattle.clk_model.specs.State.{State}
use Rattle.clk_model.specs.Tree.{children, roots, orphans}
use Rattle.clk_model.specs.Script.{sweep_order, tree_within}
use Rattle.clk_model.proofs.PathLaws.{some_levels}
use Rattle.clk_tree.specs.TreeState.{TreeState}
use Rattle.clk_tree.proofs.Along.{get_second, none_left, drop_zero}
use Rattle.unused_sweep.specs.Together.{StandTogether, trees}

-- ---- one clock

-- trees of no levels are empty
pub no_trees : (t : TreeState) (cs : List ℕ) → trees t 0 cs ≡ []
no_trees t [] = refl
no_trees t (c ∷ cs) = no_trees t cs

-- the next of the clocks that stand together
pub next_along : (t : TreeState) (cs : List ℕ) (j c : ℕ) (next : Option ClockId) → StandTogether t cs → slice_get cs j ≡ Some c
    → ((p k : ℕ) → slice_get (children t.order t.clocks p) k ≡ Some c → option_map (λ d. d.0) next ≡ slice_get (children t.order t.clocks p) (k + 1))
    → ((k : ℕ) → slice_get (roots t.defs t.order) k ≡ Some c → option_map (λ d. d.0) next ≡ slice_get (roots t.defs t.order) (k + 1))
    → ((k : ℕ) → slice_get (orphans t.defs t.order t.clocks) k ≡ Some c → option_map (λ d. d.0) next ≡ slice_get (orphans t.defs t.order t.clocks) (k + 1))
    → option_map (λ d. d.0) next ≡ slice_get cs (j + 1)
next_along t cs j c next (inl (p, e)) at child root orphan = child p j (ap (λ (xs : List ℕ). slice_get xs j) (sym e) ∙ at) ∙ ap (λ (xs : List ℕ). slice_get xs (j + 1)) (sym e)
next_along t cs j c next (inr (inl e)) at child root orphan = root j (ap (λ (xs : List ℕ). slice_get xs j) (sym e) ∙ at) ∙ ap (λ (xs : List ℕ). slice_get xs (j + 1)) (sym e)
next_along t cs j c next (inr (inr e)) at child root orphan = orphan j (ap (λ (xs : List ℕ). slice_get xs j) (sym e) ∙ at) ∙ ap (λ (xs : List ℕ). slice_get xs (j + 1)) (sym e)

-- what is below a clock and then the clock are the first of the trees that are left
pub one_tree : (t : TreeState) (levels below c : ℕ) (cs rest one two whole : List ℕ) → levels ≡ suc below → cs ≡ c ∷ rest
    → two ≡ one ++ trees t below (children t.order t.clocks c) → one ++ trees t levels cs ≡ whole → (two ++ c ∷ []) ++ trees t levels rest ≡ whole
one_tree t levels below c cs rest one two whole deep is pushed left =
    ap (λ (xs : List ℕ). (xs ++ c ∷ []) ++ trees t levels rest) pushed
    ∙ regroup one (trees t below (children t.order t.clocks c)) (c ∷ []) (trees t levels rest)
    ∙ ap (λ (xs : List ℕ). one ++ (xs ++ trees t levels rest)) (ap (λ (n : ℕ). tree_within (children t.order t.clocks) n c) (sym deep))
    ∙ ap (λ (xs : List ℕ). one ++ trees t levels xs) (sym is)
    ∙ left where
      regroup : (a b d e : List ℕ) → ((a ++ b) ++ d) ++ e ≡ a ++ ((b ++ d) ++ e)
      regroup a b d e = simp append_assoc

-- ---- the roots and the orphans

-- the trees of the first of two lists that has any, and then those of what stands behind it
pub both_lists : (t : TreeState) (rs os : List ℕ) (first second : Option ClockId) (done : ℕ) (one two : List ℕ) → StandTogether t rs → StandTogether t os
    → option_map (λ c. c.0) first ≡ slice_get (rs ++ os) 0 → option_map (λ c. c.0) second ≡ slice_get (rs ++ os) done
    → ((cs : List ℕ) (k : ℕ) → StandTogether t cs → option_map (λ c. c.0) first ≡ slice_get cs k → one ≡ trees t depth (drop k cs))
    → ((cs : List ℕ) (k : ℕ) → StandTogether t cs → option_map (λ c. c.0) first ≡ slice_get cs k → 0 < depth → k ≤ length cs → k + done ≡ length cs)
    → ((cs : List ℕ) (k : ℕ) → StandTogether t cs → option_map (λ c. c.0) second ≡ slice_get cs k → two ≡ one ++ trees t depth (drop k cs))
    → two ≡ trees t depth (rs ++ os)
both_lists t [] os first second done one two are_roots are_orphans at next pushed counted pushed' =
    let all = counted os 0 are_orphans at some_levels (omega arith) in
    pushed' os done are_orphans next
    ∙ ap (λ (xs : List ℕ). one ++ trees t depth xs) (none_left os done (omega arith))
    ∙ append-nil one
    ∙ pushed os 0 are_orphans at
    ∙ ap (λ (xs : List ℕ). trees t depth xs) (drop_zero os)
both_lists t (r ∷ rs) os first second done one two are_roots are_orphans at next pushed counted pushed' =
    let all = counted (r ∷ rs) 0 are_roots at some_levels (omega arith) in
    pushed' os 0 are_orphans (next ∙ get_second (r ∷ rs) os done 0 (omega arith))
    ∙ ap (λ (xs : List ℕ). one ++ trees t depth xs) (drop_zero os)
    ∙ ap (λ (xs : List ℕ). xs ++ trees t depth os) (pushed (r ∷ rs) 0 are_roots at)
    ∙ sym (flat_map-append (tree_within (children t.order t.clocks) depth) (r ∷ rs) os)

-- the order of the sweep is that of the trees of the roots and then of the orphans
pub sweeps_trees : (t : TreeState) (s : State) → s.defs ≡ t.defs → s.clocks ≡ t.clocks → s.order ≡ t.order
    → trees t depth (roots t.defs t.order ++ orphans t.defs t.order t.clocks) ≡ sweep_order s
unfolding sweep_order
sweeps_trees t s defs clocks order = rw (defs, clocks, order) refl
