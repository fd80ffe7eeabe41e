-- Laws on the order of adoptions.
use Rattle.std.proofs.Common.{◌≡◌, ℕ, zero, suc, ◌<◌, ◌++◌, ◌||◌, ◌&&◌, Bool, true, false, not, cond, List, [], ◌∷◌, Option, Some, None, refl, sym, ap, ◌∙◌, inl, inr, arith, length, drop, take, nat_eq}
use Rattle.std.specs.Prelude.{filter, slice_get, slice_set, find}
use Rattle.std.specs.List.{list_any, list_all}
use Rattle.std.specs.Option.{option_map_or}
use Rattle.std.proofs.Math.Path.{fun_ext}
use Rattle.std.proofs.lemmas.Bool.{both_ways, false_from_ne_true}
use Rattle.std.proofs.lemmas.List.{append-nil, append_assoc, length-set, get_or-set_same, get_or-set_other}
use Rattle.clk_base.specs.Description.{kind_of, parents_of}
use Rattle.clk_base.specs.Levels.{depth, ends_within}
use Rattle.clk_base.specs.Tables.{flag_at}
use Rattle.clk_model.specs.Kinds.{is_fixed}
use Rattle.clk_model.specs.Lists.{is_in, none_twice, without, without_one, to_front}
use Rattle.clk_model.specs.State.{State, registered}
use Rattle.clk_model.specs.Tree.{path, selected, orphans, is_orphan, link_given}
use Rattle.clk_model.specs.Script.{adoptable, is_next, adoption_order}
use Rattle.clk_model.specs.Begin.{register, registered_rows}
use Rattle.clk_model.specs.Laws.Siblings.{front_if}
use Rattle.clk_model.specs.Wired.{LinesEnd, ListsRegistered}
use Rattle.clk_model.proofs.Members.{any_in, any_from_in, same_from_test, test_same, test_other, is_in_cases, both_left, both_right, not_either}
use Rattle.clk_model.proofs.OnceLaws.{once_head, is_in-filter}
use Rattle.clk_model.proofs.SiblingLaws.{registers_attach, registers_unattached}
use Rattle.clk_model.proofs.PllLaws.{selected_possible, at_place}
use Rattle.orphans.specs.Beside.{AreMarked, is_free, has_parent}
use Rattle.orphans.proofs.LinkLaws.{given_none, given_there, given_away}
use Rattle.orphans.proofs.BesideLaws.{registered_beside}
use Rattle.clk_model.proofs.WalkLaws.{either_way}
use Rattle.clk_model.proofs.AdoptGoLaws.{left_once}

-- ---- one of the marked clocks on a path

-- that one of a list is in another is that one of the other is in it
any_both : (xs ys : List ℕ) → list_any (λ b. is_in b ys) xs ≡ list_any (λ x. is_in x xs) ys
any_both xs ys =
    either_way (list_any (λ b. is_in b ys) xs) (list_any (λ x. is_in x xs) ys)
    (λ e. let found = any_in (λ b. is_in b ys) xs e in any_from_in (λ x. is_in x xs) ys found.0 found.2 found.1)
    (λ e. let found = any_in (λ x. is_in x xs) ys e in any_from_in (λ b. is_in b ys) xs found.0 found.2 found.1)

-- what is in a list without one clock, where none stands twice
in_without_one : (a x : ℕ) (xs : List ℕ) → none_twice xs ≡ true → is_in x (without_one a xs) ≡ (not (nat_eq x a) && is_in x xs)
in_without_one a x [] once = by_test (nat_eq x a) where
  by_test : (t : Bool) → false ≡ (not t && false)
  by_test true = refl
  by_test false = refl
in_without_one a x (y ∷ ys) once = by_tests (nat_eq y a) (nat_eq x a) (in_without_one a x ys (once_head y ys once).1) refl refl where
  by_tests : (t u : Bool) → is_in x (without_one a ys) ≡ (not (nat_eq x a) && is_in x ys) → nat_eq y a ≡ t → nat_eq x a ≡ u → is_in x (cond t ys (y ∷ without_one a ys)) ≡ (not u && (nat_eq y x || is_in x ys))
  by_tests true true rest here there =
      let same : y ≡ x = same_from_test y a here ∙ sym (same_from_test x a there) in
      ap (λ (z : ℕ). is_in z ys) (sym same) ∙ (once_head y ys once).0
  by_tests true false rest here there =
      let other : nat_eq y x ≡ false = false_from_ne_true (nat_eq y x) (λ e. let clash : nat_eq x a ≡ true = ap (λ (z : ℕ). nat_eq z a) (sym (same_from_test y x e)) ∙ here in both_ways (nat_eq x a) there clash) in
      sym (ap (λ (t : Bool). t || is_in x ys) other)
  by_tests false true rest here there =
      let other : nat_eq y x ≡ false = false_from_ne_true (nat_eq y x) (λ e. let clash : nat_eq y a ≡ true = ap (λ (z : ℕ). nat_eq z a) (same_from_test y x e) ∙ there in both_ways (nat_eq y a) here clash) in
      ap (λ (t : Bool). t || is_in x (without_one a ys)) other ∙ rest ∙ ap (λ (t : Bool). not t && is_in x ys) there
  by_tests false false rest here there = ap (λ (t : Bool). nat_eq y x || t) (rest ∙ ap (λ (t : Bool). not t && is_in x ys) there)

-- a clock is next where it is free by the marks
pub next_is_free : (s : State) (n : ℕ) (marks : List Bool) (left : List ℕ) (a : ℕ) → AreMarked n marks left → is_next s left a ≡ is_free s.defs s.regs s.clocks marks a
next_is_free s n marks left a are =
    ap (λ (f : ℕ → Bool). option_map_or f (link_given s.defs s.regs s.clocks a) false)
    (fun_ext (λ p. ap not
    (any_both (without_one a left) (path s.clocks p)
    ∙ ap (λ (f : ℕ → Bool). list_any f (path s.clocks p)) (fun_ext (λ x. in_without_one a x left are.once ∙ ap (λ (t : Bool). not (nat_eq x a) && t) (sym (are.marked x)))))))

-- ---- one turn

-- a list without the number at a place, where none stands twice
pub taken_at : (xs : List ℕ) (k x : ℕ) → slice_get xs k ≡ Some x → none_twice xs ≡ true → without_one x xs ≡ take k xs ++ drop (suc k) xs
taken_at [] k x at once = absurd cc
taken_at (y ∷ xs) zero x at once = let same : y ≡ x = cc in ap (λ (t : Bool). cond t xs (y ∷ without_one x xs)) (ap (λ (z : ℕ). nat_eq z x) same ∙ test_same x) ∙ first xs where
  first : (ys : List ℕ) → ys ≡ drop 0 ys
  first [] = refl
  first (z ∷ ys) = refl
taken_at (y ∷ xs) (suc k) x at once =
    let other : nat_eq y x ≡ false = false_from_ne_true (nat_eq y x) (λ e. both_ways (is_in x xs) (ap (λ (z : ℕ). is_in z xs) (sym (same_from_test y x e)) ∙ (once_head y xs once).0) (at_place xs k x at)) in
    ap (λ (t : Bool). cond t xs (y ∷ without_one x xs)) other ∙ ap (λ (zs : List ℕ). y ∷ zs) (taken_at xs k x at (once_head y xs once).1)

-- the first that is free is the next
pub turn_of : (s : State) (n m : ℕ) (marks : List Bool) (left : List ℕ) (o : Option ℕ) → AreMarked n marks left → find (is_free s.defs s.regs s.clocks marks) left ≡ o
    → adoption_order (suc m) s left ≡ option_map_or (λ a. a ∷ adoption_order m s (without_one a left)) o []
turn_of s n m marks left o are found =
    ap (λ (p : Option ℕ). option_map_or (λ a. a ∷ adoption_order m s (without_one a left)) p [])
    (ap (λ (f : ℕ → Bool). find f left) (fun_ext (λ a. next_is_free s n marks left a are)) ∙ found)

-- the marks with one taken away are those of the others
pub unmarked : (n : ℕ) (marks : List Bool) (left : List ℕ) (a : ℕ) → a < n → AreMarked n marks left → AreMarked n (slice_set marks a false) (without_one a left)
unmarked n marks left a within are = record {
  size = length-set marks a false ∙ are.size;
  once = left_once a left are.once;
  inside = λ x m. are.inside x (both_right (not (nat_eq x a)) (is_in x left) (sym (in_without_one a x left are.once) ∙ m));
  marked = λ x. by_test x (nat_eq x a) refl ∙ sym (in_without_one a x left are.once);
} where
  by_test : (x : ℕ) (t : Bool) → nat_eq x a ≡ t → flag_at (slice_set marks a false) x ≡ (not t && is_in x left)
  by_test x true same =
      let here : x ≡ a = same_from_test x a same in
      ap (flag_at (slice_set marks a false)) here ∙ get_or-set_same marks a false false (let size = are.size in omega arith)
  by_test x false other = get_or-set_other marks a x false false (test_other x a other) ∙ are.marked x

-- a turn with the first that is free
pub one_turn : (s : State) (c n m a : ℕ) (marks : List Bool) (left order whole : List ℕ) → AreMarked n marks left
    → find (is_free s.defs s.regs (registered_rows s.defs s.regs s.clocks c) marks) left ≡ Some a
    → order ++ adoption_order (suc m) (register s c) left ≡ whole → (order ++ a ∷ []) ++ adoption_order m (register s c) (without_one a left) ≡ whole
unfolding register
one_turn s c n m a marks left order whole are found left_over =
    append_assoc order (a ∷ []) (adoption_order m (register s c) (without_one a left))
    ∙ ap (λ (xs : List ℕ). order ++ xs) (sym (turn_of (register s c) n m marks left (Some a) are found)) ∙ left_over

-- and where none is
pub no_turn : (s : State) (c n k : ℕ) (marks : List Bool) (left order whole : List ℕ) → AreMarked n marks left
    → find (is_free s.defs s.regs (registered_rows s.defs s.regs s.clocks c) marks) left ≡ None
    → order ++ adoption_order k (register s c) left ≡ whole → order ≡ whole
unfolding register
no_turn s c n zero marks left order whole are found left_over = sym (append-nil order) ∙ left_over
no_turn s c n (suc k) marks left order whole are found left_over =
    sym (append-nil order) ∙ ap (λ (xs : List ℕ). order ++ xs) (sym (turn_of (register s c) n k marks left None are found)) ∙ left_over

-- ---- who waits

-- a clock is no parent of its own
no_own_parent : (parents : ℕ → List ℕ) (levels c : ℕ) → ends_within parents levels c ≡ true → is_in c (parents c) ≡ true → ⊥
no_own_parent parents zero c ends m = absurd cc
no_own_parent parents (suc levels) c ends m = no_own_parent parents levels c (each (parents c) ends m) m where
  each : (ps : List ℕ) → list_all (ends_within parents levels) ps ≡ true → is_in c ps ≡ true → ends_within parents levels c ≡ true
  each [] all in_ = absurd cc
  each (p ∷ ps) all in_ =
      elim (is_in_cases c p ps in_) [
        | inl same ↦ ap (ends_within parents levels) (sym same) ∙ both_left (ends_within parents levels p) (list_all (ends_within parents levels) ps) all
        | inr later ↦ each ps (both_right (ends_within parents levels p) (list_all (ends_within parents levels) ps) all) later
      ]

-- a clock that is registered without a parent waits for none
waits_not : (s : State) (c : ℕ) → LinesEnd s.defs → c < length s.clocks → link_given s.defs s.regs s.clocks c ≡ None
    → has_parent s.defs s.regs (registered_rows s.defs s.regs s.clocks c) c ≡ false
waits_not s c lines within none = by_selected (selected s.defs s.regs c) refl where
  by_selected : (o : Option ℕ) → selected s.defs s.regs c ≡ o → has_parent s.defs s.regs (registered_rows s.defs s.regs s.clocks c) c ≡ false
  by_selected None e = ap (λ (o : Option ℕ). option_map_or (λ p. true) o false) (given_none s.defs s.regs (registered_rows s.defs s.regs s.clocks c) c e)
  by_selected (Some p) e =
      let away : registered s.clocks p ≡ false = false_from_ne_true (registered s.clocks p) (λ there. let given = given_there s.defs s.regs s.clocks c p e there in cc) in
      let other : nat_eq c p ≡ false = false_from_ne_true (nat_eq c p) (λ same.
      no_own_parent (parents_of s.defs) depth c (lines c) (ap (λ (x : ℕ). is_in x (parents_of s.defs c)) (same_from_test c p same) ∙ selected_possible s.defs s.regs c p e)) in
      ap (λ (o : Option ℕ). option_map_or (λ q. true) o false)
      (given_away s.defs s.regs (registered_rows s.defs s.regs s.clocks c) c p e
      (registered_beside s.defs s.regs s.clocks c p within ∙ ap (λ (t : Bool). t || registered s.clocks p) other ∙ away))

-- a list without a number that isn't in it
absent : (c : ℕ) (xs : List ℕ) → is_in c xs ≡ false → without (c ∷ []) xs ≡ xs
absent c [] out = refl
absent c (y ∷ ys) out =
    let split = not_either (nat_eq y c) (is_in c ys) out in
    let other : nat_eq c y ≡ false = false_from_ne_true (nat_eq c y) (λ same. both_ways (nat_eq y c) split.0 (ap (λ (z : ℕ). nat_eq z c) (sym (same_from_test c y same)) ∙ test_same c)) in
    ap (λ (t : Bool). cond (not (t || false)) (y ∷ without (c ∷ []) ys) (without (c ∷ []) ys)) other ∙ ap (λ (zs : List ℕ). y ∷ zs) (absent c ys split.1)

-- the orphans that wait beside a new clock are those that can be adopted when it is registered
pub waiting_are : (s : State) (c : ℕ) → LinesEnd s.defs → c < length s.clocks → registered s.clocks c ≡ false → ListsRegistered s.order s.clocks
    → filter (has_parent s.defs s.regs (registered_rows s.defs s.regs s.clocks c)) (orphans s.defs s.order s.clocks) ≡ adoptable (register s c)
unfolding register
waiting_are s c lines within free lists = by_link (link_given s.defs s.regs s.clocks c) refl where
  test : ℕ → Bool
  test = has_parent s.defs s.regs (registered_rows s.defs s.regs s.clocks c)

  out : is_in c (orphans s.defs s.order s.clocks) ≡ false
  out = false_from_ne_true (is_in c (orphans s.defs s.order s.clocks)) (λ m.
      both_ways (registered s.clocks c) free (sym (lists.listed c) ∙ is_in-filter (is_orphan s.defs s.clocks) c s.order m))

  by_front : (t : Bool) → test c ≡ false → filter test (orphans s.defs s.order s.clocks) ≡ filter test (front_if t c (orphans s.defs s.order s.clocks))
  by_front true none = ap (λ (xs : List ℕ). filter test xs) (sym (absent c (orphans s.defs s.order s.clocks) out))
      ∙ sym (ap (λ (t : Bool). cond t (c ∷ filter test (without (c ∷ []) (orphans s.defs s.order s.clocks))) (filter test (without (c ∷ []) (orphans s.defs s.order s.clocks)))) none)
  by_front false none = ap (λ (xs : List ℕ). filter test xs) (sym (absent c (orphans s.defs s.order s.clocks) out))

  by_link : (o : Option ℕ) → link_given s.defs s.regs s.clocks c ≡ o
      → filter test (orphans s.defs s.order s.clocks) ≡ filter test (orphans s.defs (to_front c s.order) (registered_rows s.defs s.regs s.clocks c))
  by_link None e = by_front (not (is_fixed (kind_of s.defs c))) (waits_not s c lines within e) ∙ ap (λ (xs : List ℕ). filter test xs) (sym (registers_unattached s c within e).orphans_after)
  by_link (Some p) e =
      ap (λ (xs : List ℕ). filter test xs) (sym (absent c (orphans s.defs s.order s.clocks) out) ∙ sym (registers_attach s c p within e).orphans_left)
