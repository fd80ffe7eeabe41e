-- Laws on the counts where handles alone hold clocks.
use Rattle.std.proofs.Common.{◌≡◌, ℕ, suc, ◌+◌, ◌≤◌, ◌||◌, Bool, true, false, cond, List, [], ◌∷◌, ◌++◌, Option, Some, None, refl, sym, ap, ◌∙◌, arith, map, nat_lt}
use Rattle.std.specs.Prelude.{filter, sum_by, count_by}
use Rattle.std.proofs.lemmas.List.Sums.{sum_by-cons}
use Rattle.std.proofs.lemmas.List.Folds.{list_any-append}
use Rattle.clk_model.specs.declared.row.ClockRow.{ClockRow}
use Rattle.clk_model.specs.declared.row.HandleRow.{HandleRow}
use Rattle.clk_model.specs.Lists.{is_in, present}
use Rattle.clk_model.specs.State.{State, handle_at}
use Rattle.clk_model.specs.Tree.{path, children}
use Rattle.clk_model.specs.Holders.{clocks_of, is_prepared, is_exclusive, critical_clocks, is_held, prepared}
use Rattle.clk_model.proofs.HolderLaws.{held_by}

-- ---- counting

pub count_by-agree : (p q : ℕ → Bool) (xs : List ℕ) → ((x : ℕ) → p x ≡ q x) → count_by p xs ≡ count_by q xs
count_by-agree p q [] same = refl
count_by-agree p q (x ∷ xs) same =
    sum_by-cons (λ y. cond (p y) 1 0) x xs
    ∙ ap (λ (b : Bool). cond b 1 0 + count_by p xs) (same x)
    ∙ ap (λ (n : ℕ). cond (q x) 1 0 + n) (count_by-agree p q xs same)
    ∙ sym (sum_by-cons (λ y. cond (q y) 1 0) x xs)

pub count_by-none : (p : ℕ → Bool) (xs : List ℕ) → ((x : ℕ) → p x ≡ false) → count_by p xs ≡ 0
count_by-none p [] none = refl
count_by-none p (x ∷ xs) none =
    sum_by-cons (λ y. cond (p y) 1 0) x xs
    ∙ ap (λ (b : Bool). cond b 1 0 + count_by p xs) (none x)
    ∙ ap (λ (n : ℕ). 0 + n) (count_by-none p xs none)

-- some of the handles have at most what all have of something that is no less
pub sum_by-part : (f g : HandleRow → ℕ) (p : HandleRow → Bool) (hs : List HandleRow) → ((h : HandleRow) → f h ≤ g h) → sum_by f (filter p hs) ≤ sum_by g hs
sum_by-part f g p [] less = omega arith
sum_by-part f g p (h ∷ hs) less =
    let rest = sum_by-part f g p hs less in
    let here = less h in
    let whole = sum_by-cons g h hs in
    elim (p h) as (λ t. sum_by f (cond t (h ∷ filter p hs) (filter p hs)) ≤ sum_by g (h ∷ hs)) [
      | true ↦ let part = sum_by-cons f h (filter p hs) in omega arith
      | false ↦ omega arith
    ]

-- ---- the counts by handles alone

-- what handles hold is all that is held, where no clock holds itself and no change holds one
held_alone : (clocks : List ClockRow) (hs cs ks : List ℕ) (c : ℕ) → cs ≡ [] → ks ≡ [] → is_held clocks (hs ++ cs ++ ks) c ≡ is_held clocks hs c
held_alone clocks hs cs ks c none holds =
    list_any-append (λ h. is_in c (path clocks h)) (hs ++ cs) ks
    ∙ ap (λ (t : Bool). t || is_held clocks ks c) (list_any-append (λ h. is_in c (path clocks h)) hs cs)
    ∙ ap (λ (xs : List ℕ). (is_held clocks hs c || is_held clocks xs c) || is_held clocks ks c) none
    ∙ ap (λ (xs : List ℕ). (is_held clocks hs c || false) || is_held clocks xs c) holds
    ∙ or_none (is_held clocks hs c) where
      or_none : (a : Bool) → ((a || false) || false) ≡ a
      or_none true = refl
      or_none false = refl

pub prepared_by_handles : (s : State) (c : ℕ) → critical_clocks s ≡ [] → s.prepare_holds ≡ [] → prepared s c ≡ held_by s.clocks is_prepared s.handles c
prepared_by_handles s c none holds = held_alone s.clocks (clocks_of is_prepared s.handles) (critical_clocks s) s.prepare_holds c none holds

parts : (sum critical held held' children children' : ℕ) → critical ≡ 0 → held ≡ held' → held' ≡ 0 → children ≡ children' → sum + critical + held + children ≡ sum + children'
parts sum critical held held' children children' a b d e = omega arith

-- ---- nobody holds a rate

sum_none : (count : HandleRow → ℕ) (p : HandleRow → Bool) (handles : List (Option HandleRow)) → ((n : ℕ) (h : HandleRow) → handle_at handles n ≡ Some h → count h ≡ 0)
    → sum_by count (filter p (present handles)) ≡ 0
sum_none count p [] none = refl
sum_none count p (None ∷ handles) none = sum_none count p handles (λ n h at. none (suc n) h at)
sum_none count p (Some g ∷ handles) none =
    let rest = sum_none count p handles (λ n h at. none (suc n) h at) in
    let here : count g ≡ 0 = none 0 g refl in
    elim (p g) as (λ t. sum_by count (cond t (g ∷ filter p (present handles)) (filter p (present handles))) ≡ 0) [
      | true ↦ let part = sum_by-cons count g (filter p (present handles)) in omega arith
      | false ↦ rest
    ]

clocks_none : (handles : List (Option HandleRow)) → ((n : ℕ) (h : HandleRow) → handle_at handles n ≡ Some h → h.exclusives ≡ 0) → clocks_of is_exclusive handles ≡ []
clocks_none [] none = refl
clocks_none (None ∷ handles) none = clocks_none handles (λ n h at. none (suc n) h at)
clocks_none (Some g ∷ handles) none =
    ap (λ (n : ℕ). map_clocks (cond (nat_lt 0 n) (g ∷ filter is_exclusive (present handles)) (filter is_exclusive (present handles)))) (none 0 g refl)
    ∙ clocks_none handles (λ n h at. none (suc n) h at) where
      map_clocks : List HandleRow → List ℕ
      map_clocks hs = map (λ h. h.clock.0) hs
