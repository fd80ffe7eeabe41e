-- Laws on the orphans that wait for a parent.
use Rattle.std.proofs.Common.{◌≡◌, ℕ, suc, ◌+◌, ◌<◌, ◌≤◌, ◌++◌, Bool, true, false, cond, List, [], ◌∷◌, Option, Some, None, refl, sym, ap, ◌∙◌, inl, inr, arith, length, drop}
use Rattle.std.specs.Prelude.{All, IfSome, filter, slice_get, find}
use Rattle.std.specs.Option.{option_map, option_map_or}
use Rattle.std.proofs.lemmas.List.{append-nil, append_assoc}
use Rattle.clk_base.specs.declared.clock.ClockId.{ClockId}
use Rattle.clk_base.specs.Description.{kind_of}
use Rattle.clk_base.specs.Valid.{IsValid}
use Rattle.reg_bank.specs.Registers.{Registers}
use Rattle.clk_model.specs.declared.row.ClockRow.{ClockRow}
use Rattle.clk_model.specs.Kinds.{is_fixed}
use Rattle.clk_model.specs.Lists.{is_in}
use Rattle.clk_model.specs.State.{registered}
use Rattle.clk_model.specs.Tree.{roots, orphans, is_orphan}
use Rattle.clk_model.proofs.OnceLaws.{in_append, is_in-filter, filter_passes, length-filter-le}
use Rattle.clk_model.proofs.StateLaws.{filter_none}
use Rattle.clk_tree.specs.TreeState.{TreeState, IsTree}
use Rattle.clk_tree.proofs.Along.{get_second, none_left, drop_zero, drop_at}
use Rattle.clk_tree.proofs.GroupLaws.{order_below}
use Rattle.clk_tree.proofs.Rows.{order-few}
use Rattle.orphans.specs.Beside.{has_parent, StandTogether}
use Rattle.orphans.proofs.LinkLaws.{given_fixed}
use Rattle.clk_model.proofs.PllLaws.{at_place}

-- ---- the roots and the orphans

-- the next of the clocks that stand together
pub next_along : (t : TreeState) (cs : List ℕ) (j c : ℕ) (next : Option ClockId) → StandTogether t cs → slice_get cs j ≡ Some c
    → ((k : ℕ) → slice_get (roots t.defs t.order) k ≡ Some c → option_map (λ d. d.0) next ≡ slice_get (roots t.defs t.order) (k + 1))
    → ((k : ℕ) → slice_get (orphans t.defs t.order t.clocks) k ≡ Some c → option_map (λ d. d.0) next ≡ slice_get (orphans t.defs t.order t.clocks) (k + 1))
    → option_map (λ d. d.0) next ≡ slice_get cs (j + 1)
next_along t cs j c next (inl e) at root orphan = root j (ap (λ (xs : List ℕ). slice_get xs j) (sym e) ∙ at) ∙ ap (λ (xs : List ℕ). slice_get xs (j + 1)) (sym e)
next_along t cs j c next (inr e) at root orphan = orphan j (ap (λ (xs : List ℕ). slice_get xs j) (sym e) ∙ at) ∙ ap (λ (xs : List ℕ). slice_get xs (j + 1)) (sym e)

-- there are at most as many of them as clocks
pub together_few : (t : TreeState) (cs : List ℕ) → IsTree t.defs t.clocks t.order t.rates → StandTogether t cs → length cs ≤ length t.defs
together_few t cs tree (inl e) =
    let same = ap length e in let kept = length-filter-le (λ c. is_fixed (kind_of t.defs c)) t.order in let few = order-few t.defs t.clocks t.order t.rates tree in omega arith
together_few t cs tree (inr e) =
    let same = ap length e in let kept = length-filter-le (is_orphan t.defs t.clocks) t.order in let few = order-few t.defs t.clocks t.order t.rates tree in omega arith

-- and each is registered
pub together_there : (t : TreeState) (cs : List ℕ) (j c : ℕ) → IsTree t.defs t.clocks t.order t.rates → StandTogether t cs → slice_get cs j ≡ Some c → registered t.clocks c ≡ true
together_there t cs j c tree (inl e) at =
    sym (tree.order_lists.listed c) ∙ is_in-filter (λ d. is_fixed (kind_of t.defs d)) c t.order (ap (is_in c) (sym e) ∙ at_place cs j c at)
together_there t cs j c tree (inr e) at =
    sym (tree.order_lists.listed c) ∙ is_in-filter (is_orphan t.defs t.clocks) c t.order (ap (is_in c) (sym e) ∙ at_place cs j c at)

-- what waits of a clock and of those behind it
pub one_more : (test : ℕ → Bool) (c : ℕ) (cs rest one two whole : List ℕ) → cs ≡ c ∷ rest → two ≡ one ++ cond (test c) (c ∷ []) []
    → one ++ filter test cs ≡ whole → two ++ filter test rest ≡ whole
one_more test c cs rest one two whole is pushed left =
    ap (λ (xs : List ℕ). xs ++ filter test rest) pushed
    ∙ by_test (test c) refl
    ∙ ap (λ (xs : List ℕ). one ++ filter test xs) (sym is) ∙ left where
      by_test : (b : Bool) → test c ≡ b → (one ++ cond b (c ∷ []) []) ++ filter test rest ≡ one ++ filter test (c ∷ rest)
      by_test true e = append_assoc one (c ∷ []) (filter test rest) ∙ ap (λ (t : Bool). one ++ cond t (c ∷ filter test rest) (filter test rest)) (sym e)
      by_test false e = ap (λ (xs : List ℕ). xs ++ filter test rest) (append-nil one) ∙ ap (λ (t : Bool). one ++ cond t (c ∷ filter test rest) (filter test rest)) (sym e)

-- no root has a parent to be given
pub roots_wait_not : (words : ℕ) (t : TreeState) (regs : Registers) (rows : List ClockRow) → IsValid words t.defs → IsTree t.defs t.clocks t.order t.rates
    → filter (has_parent t.defs regs rows) (roots t.defs t.order) ≡ []
roots_wait_not words t regs rows valid tree =
    filter_none (has_parent t.defs regs rows) (roots t.defs t.order) (λ c m.
    ap (λ (o : Option ℕ). option_map_or (λ p. true) o false)
    (given_fixed words t.defs regs rows c valid
    (order_below t.defs t.clocks t.order t.rates tree c (is_in-filter (λ d. is_fixed (kind_of t.defs d)) c t.order m))
    (filter_passes (λ d. is_fixed (kind_of t.defs d)) c t.order m)))

-- what waits of the first of two lists that has any, and then of what stands behind it, where nothing waits in the first list
pub both_lists : (t : TreeState) (test : ℕ → Bool) (rs os : List ℕ) (first second : Option ClockId) (done : ℕ) (one two : List ℕ) → StandTogether t rs → StandTogether t os
    → option_map (λ c. c.0) first ≡ slice_get (rs ++ os) 0 → option_map (λ c. c.0) second ≡ slice_get (rs ++ os) done → filter test rs ≡ []
    → ((cs : List ℕ) (k : ℕ) → StandTogether t cs → option_map (λ c. c.0) first ≡ slice_get cs k → one ≡ filter test (drop k cs))
    → ((cs : List ℕ) (k : ℕ) → StandTogether t cs → option_map (λ c. c.0) first ≡ slice_get cs k → k ≤ length cs → k + done ≡ length cs)
    → ((cs : List ℕ) (k : ℕ) → StandTogether t cs → option_map (λ c. c.0) second ≡ slice_get cs k → two ≡ one ++ filter test (drop k cs))
    → two ≡ filter test os
both_lists t test [] os first second done one two are_roots are_orphans at next none pushed counted pushed' =
    let all = counted os 0 are_orphans at (omega arith) in
    pushed' os done are_orphans next
    ∙ ap (λ (xs : List ℕ). one ++ filter test xs) (none_left os done (omega arith))
    ∙ append-nil one
    ∙ pushed os 0 are_orphans at
    ∙ ap (λ (xs : List ℕ). filter test xs) (drop_zero os)
both_lists t test (r ∷ rs) os first second done one two are_roots are_orphans at next none pushed counted pushed' =
    let all = counted (r ∷ rs) 0 are_roots at (omega arith) in
    pushed' os 0 are_orphans (next ∙ get_second (r ∷ rs) os done 0 (omega arith))
    ∙ ap (λ (xs : List ℕ). one ++ filter test xs) (drop_zero os)
    ∙ ap (λ (xs : List ℕ). xs ++ filter test os) (pushed (r ∷ rs) 0 are_roots at ∙ none)

-- so what holds of each clock that waits of one of two such lists, and then of what stands behind it, holds of all that wait
pub both_there : (t : TreeState) (test : ClockId → Type 0) (rs os : List ℕ) (first second : Option ClockId) (done : ℕ) (one two : List ClockId) → StandTogether t rs → StandTogether t os
    → option_map (λ c. c.0) first ≡ slice_get (rs ++ os) 0 → option_map (λ c. c.0) second ≡ slice_get (rs ++ os) done
    → ((cs : List ℕ) (k : ℕ) → StandTogether t cs → option_map (λ c. c.0) first ≡ slice_get cs k → All test one)
    → ((cs : List ℕ) (k : ℕ) → StandTogether t cs → option_map (λ c. c.0) first ≡ slice_get cs k → k ≤ length cs → k + done ≡ length cs)
    → ((cs : List ℕ) (k : ℕ) → StandTogether t cs → option_map (λ c. c.0) second ≡ slice_get cs k → All test one → All test two)
    → All test two
both_there t test [] os first second done one two are_roots are_orphans at next pushed counted pushed' = pushed' os done are_orphans next (pushed os 0 are_orphans at)
both_there t test (r ∷ rs) os first second done one two are_roots are_orphans at next pushed counted pushed' =
    let all = counted (r ∷ rs) 0 are_roots at (omega arith) in
    pushed' os 0 are_orphans (next ∙ get_second (r ∷ rs) os done 0 (omega arith)) (pushed (r ∷ rs) 0 are_roots at)

-- ---- the first that is free

pub find_at : (test : ℕ → Bool) (xs : List ℕ) (k x : ℕ) → slice_get xs k ≡ Some x → find test (drop k xs) ≡ cond (test x) (Some x) (find test (drop (suc k) xs))
find_at test xs k x at = ap (find test) (drop_at xs k x at)

-- a root or an orphan is a clock of the description
pub top_inside : (t : TreeState) (k : ℕ) (top : Option ClockId) → IsTree t.defs t.clocks t.order t.rates
    → option_map (λ c. c.0) top ≡ slice_get (roots t.defs t.order ++ orphans t.defs t.order t.clocks) k → IfSome top (λ c. c.0 < length t.defs)
top_inside t k None tree at = tt
top_inside t k (Some c) tree at =
    order_below t.defs t.clocks t.order t.rates tree c.0
    (elim (in_append c.0 (roots t.defs t.order) (orphans t.defs t.order t.clocks) (at_place (roots t.defs t.order ++ orphans t.defs t.order t.clocks) k c.0 (sym at))) [
      | inl root ↦ is_in-filter (λ d. is_fixed (kind_of t.defs d)) c.0 t.order root
      | inr orphan ↦ is_in-filter (is_orphan t.defs t.clocks) c.0 t.order orphan
    ])
