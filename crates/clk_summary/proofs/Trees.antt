-- The trees of a core, one clock beside the other and one level below the other.
use Rattle.std.proofs.Common.{◌≡◌, ℕ, suc, ◌+◌, ◌-◌, ◌<◌, ◌≤◌, Bool, true, false, not, ◌&&◌, cond, List, [], ◌∷◌, ◌++◌, Option, Some, None, IfSome, is_none, refl, sym, ap, ◌∙◌, inl, inr, arith, drop, length}
use Rattle.std.proofs.lemmas.List.{length-append}
use Rattle.std.specs.Prelude.{slice_get, filter, flat_map}
use Rattle.std.specs.Option.{option_map}
use Rattle.clk_base.specs.Description.{kind_of}
use Rattle.clk_base.specs.Levels.{depth}
use Rattle.clk_base.specs.declared.clock.ClockId.{ClockId}
use Rattle.clk_machine.specs.Row.{IsTreeOf}
use Rattle.clk_model.proofs.OnceLaws.{in_append, is_in-filter, length-filter-le}
use Rattle.clk_model.proofs.StateLaws.{registered_lt}
use Rattle.clk_model.specs.Kinds.{is_fixed}
use Rattle.clk_model.specs.Lists.{is_at}
use Rattle.clk_model.specs.State.{State, registered, link_in}
use Rattle.clk_model.specs.Summary.{lines_within, summary_line}
use Rattle.clk_model.specs.Tree.{children, roots, orphans, is_orphan}
use Rattle.clk_model.proofs.PllLaws.{at_place}
use Rattle.clk_tree.proofs.Along.{drop_at, few_at, get_first, get_second, none_left}
use Rattle.clk_tree.proofs.Rows.{order-few}
use Rattle.clk_tree.specs.TreeState.{TreeState, IsTree}
use Rattle.clk_summary.specs.Rows.{tops}

-- ---- places

-- where no two tests are passed at once, those that pass one or the other are at most all
both_few : (p q : ℕ → Bool) (xs : List ℕ) → ((x : ℕ) → p x ≡ true → q x ≡ false) → length (filter p xs) + length (filter q xs) ≤ length xs
both_few p q [] apart = omega arith
both_few p q (x ∷ xs) apart = one (p x) (q x) (apart x) (both_few p q xs apart) where
  one : (a b : Bool) → (a ≡ true → b ≡ false) → length (filter p xs) + length (filter q xs) ≤ length xs
      → length (cond a (x ∷ filter p xs) (filter p xs)) + length (cond b (x ∷ filter q xs) (filter q xs)) ≤ length (x ∷ xs)
  one true true both rest = absurd (let no : true ≡ false = both refl in cc)
  one true false both rest = omega (arith, rest)
  one false true both rest = omega (arith, rest)
  one false false both rest = omega (arith, rest)

-- the texts of what stands from a place on are that of the one there, and those of the ones behind it
pub texts_at : (text : ℕ → List ℕ) (xs : List ℕ) (k x : ℕ) → slice_get xs k ≡ Some x → flat_map text (drop k xs) ≡ text x ++ flat_map text (drop (k + 1) xs)
texts_at text xs k x at = ap (flat_map text) (drop_at xs k x at ∙ ap (λ n. x ∷ drop n xs) (let one : suc k ≡ k + 1 = omega arith in one))

-- where none stands, none is left
pub none_at : (text : ℕ → List ℕ) (xs : List ℕ) (k : ℕ) → slice_get xs k ≡ None → flat_map text (drop k xs) ≡ []
none_at text xs k at = ap (flat_map text) (none_left xs k (few_at xs k at))

-- nor where there are not so many
pub none_behind : (text : ℕ → List ℕ) (xs : List ℕ) (k : ℕ) → length xs ≤ k → flat_map text (drop k xs) ≡ []
none_behind text xs k few = ap (flat_map text) (none_left xs k few)

-- ---- children

-- the children of a clock in the tree of a core are those in its state
pub same_children : (s : State) (t : TreeState) (p : ℕ) → IsTreeOf s t → children t.order t.clocks p ≡ children s.order s.clocks p
same_children s t p of = rw (of.order, of.clocks) refl

-- a child is registered
pub child_registered : (s : State) (t : TreeState) (p k c : ℕ) → IsTreeOf s t → IsTree t.defs t.clocks t.order t.rates → slice_get (children s.order s.clocks p) k ≡ Some c
    → registered s.clocks c ≡ true
child_registered s t p k c of tree at =
    ap (λ rows. registered rows c) (sym of.clocks)
    ∙ sym (tree.order_lists.listed c)
    ∙ is_in-filter (λ d. is_at p (link_in t.clocks d)) c t.order (at_place (children t.order t.clocks p) k c (ap (λ xs. slice_get xs k) (same_children s t p of) ∙ at))

-- there are at most as many children as clocks
pub children_few : (s : State) (t : TreeState) (p : ℕ) → IsTreeOf s t → IsTree t.defs t.clocks t.order t.rates → length (children s.order s.clocks p) ≤ length t.defs
children_few s t p of tree =
    let few = length-filter-le (λ d. is_at p (link_in t.clocks d)) t.order in
    let all = order-few t.defs t.clocks t.order t.rates tree in
    let same = ap length (same_children s t p of) in
    omega (arith, few, all, same)

-- ---- the roots and the orphans

-- the roots and the orphans of the tree of a core are those of its state
pub same_tops : (s : State) (t : TreeState) → IsTreeOf s t → roots t.defs t.order ++ orphans t.defs t.order t.clocks ≡ tops s
same_tops s t of = rw (of.defs, of.order, of.clocks) refl

-- a root or an orphan is registered
pub top_registered : (t : TreeState) (k c : ℕ) → IsTree t.defs t.clocks t.order t.rates → slice_get (roots t.defs t.order ++ orphans t.defs t.order t.clocks) k ≡ Some c
    → registered t.clocks c ≡ true
top_registered t k c tree at =
    sym (tree.order_lists.listed c)
    ∙ elim (in_append c (roots t.defs t.order) (orphans t.defs t.order t.clocks) (at_place (roots t.defs t.order ++ orphans t.defs t.order t.clocks) k c at)) [
      | inl m ↦ is_in-filter (λ d. is_fixed (kind_of t.defs d)) c t.order m
      | inr m ↦ is_in-filter (is_orphan t.defs t.clocks) c t.order m
    ]

-- so it is a clock of the description
pub top_within : (t : TreeState) (k : ℕ) (found : Option ClockId) → IsTree t.defs t.clocks t.order t.rates
    → option_map (λ c. c.0) found ≡ slice_get (roots t.defs t.order ++ orphans t.defs t.order t.clocks) k → IfSome found (λ c. c.0 < length t.defs)
top_within t k None tree at = tt
top_within t k (Some c) tree at =
    let row : c.0 < length t.clocks = registered_lt t.clocks c.0 (top_registered t k c.0 tree (sym at)) in
    omega (arith, row, tree.rows)

-- there are at most as many roots and orphans as clocks
pub tops_few : (s : State) (t : TreeState) → IsTreeOf s t → IsTree t.defs t.clocks t.order t.rates → length (tops s) ≤ length t.defs
tops_few s t of tree =
    let rs = roots t.defs t.order in
    let os = orphans t.defs t.order t.clocks in
    let few = both_few (λ c. is_fixed (kind_of t.defs c)) (is_orphan t.defs t.clocks) t.order (λ c fixed. ap (λ a. not a && is_none (link_in t.clocks c)) fixed) in
    let all = order-few t.defs t.clocks t.order t.rates tree in
    let sum : length (rs ++ os) ≡ length rs + length os = length-append rs os in
    let same = ap length (same_tops s t of) in
    omega (arith, few, all, sum, same)

-- behind a root or an orphan that has one behind it among its own stands this one
pub next_beside : (t : TreeState) (k c : ℕ) (next : ClockId) → slice_get (roots t.defs t.order ++ orphans t.defs t.order t.clocks) k ≡ Some c
    → ((j : ℕ) → slice_get (roots t.defs t.order) j ≡ Some c → Some next.0 ≡ slice_get (roots t.defs t.order) (j + 1))
    → ((j : ℕ) → slice_get (orphans t.defs t.order t.clocks) j ≡ Some c → Some next.0 ≡ slice_get (orphans t.defs t.order t.clocks) (j + 1))
    → Some next.0 ≡ slice_get (roots t.defs t.order ++ orphans t.defs t.order t.clocks) (k + 1)
next_beside t k c next at root orphan = one (slice_get (roots t.defs t.order) k) refl where
  one : (o : Option ℕ) → slice_get (roots t.defs t.order) k ≡ o
      → Some next.0 ≡ slice_get (roots t.defs t.order ++ orphans t.defs t.order t.clocks) (k + 1)
  one (Some d) is =
      let here : Some d ≡ Some c = sym (get_first (roots t.defs t.order) (orphans t.defs t.order t.clocks) k d is) ∙ at in
      sym (get_first (roots t.defs t.order) (orphans t.defs t.order t.clocks) (k + 1) next.0 (sym (root k (is ∙ here))))
  one None is =
      let past = few_at (roots t.defs t.order) k is in
      let j : ℕ = k - length (roots t.defs t.order) in
      let here = get_second (roots t.defs t.order) (orphans t.defs t.order t.clocks) k j (omega (arith, past)) in
      let there = get_second (roots t.defs t.order) (orphans t.defs t.order t.clocks) (k + 1) (j + 1) (omega (arith, past)) in
      orphan j (sym here ∙ at) ∙ sym there

-- ---- levels

-- below a level there is one level less
pub lines_at : (s : State) (level c : ℕ) → level < depth
    → lines_within (depth - level) s level c ≡ summary_line s level c ++ flat_map (lines_within (depth - (level + 1)) s (level + 1)) (children s.order s.clocks c)
lines_at s level c below = ap (λ n. lines_within n s level c) (let less : depth - level ≡ suc (depth - (level + 1)) = omega (arith, below) in less)

-- none is left out above the first
pub all_levels : depth - 0 ≡ depth
all_levels = omega arith
