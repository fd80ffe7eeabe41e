-- Sums over the handles of a line, after one of them changed.
use Rattle.std.proofs.Common.{◌≡◌, ◌≢◌, ℕ, ◌+◌, ◌-◌, ◌^◌, ◌<◌, ◌≤◌, ◌⊎◌, inl, inr, Bool, true, false, cond, List, [], ◌∷◌, ◌++◌, Option, Some, None, IfSome, length, nat_eq, slice_index_or, slice_set, zero, suc, refl, sym, ap, subst, ◌∙◌, arith, not}
use Rattle.std.proofs.lemmas.Bool.{cases_eq, cases_lt}
use Rattle.std.proofs.lemmas.Bool.Decides.{nat_tests}
use Rattle.std.proofs.lemmas.List.{get_or-set_same, get_or-set_other, get_or_past, length-set, length-append}
use Rattle.std.proofs.lemmas.List.Sums.{sum_by-set, sum_by-append, sum_by-cons}
use Rattle.std.proofs.Math.ListN.{get_or-append}
use Rattle.std.proofs.Math.Seq.{get_or-append_right}
use Rattle.reset_core.specs.declared.record.HandleRecord.{HandleRecord}
use Rattle.reset_core.specs.declared.handles.Tally.{Tally}
use Rattle.reset_core.specs.Lines.{one, is_shared, row_at, on_line, sum_on, shared_weight, other_weight, acquired_weight, deassert_weight, deasserts_on}
use Rattle.reset_core.specs.Kept.{tally_of, no_tally, weights_of, MayMove, MaySwap, Swapped, IsTallied}

not_both : (x : Option HandleRecord) (r : HandleRecord) → x ≡ None → x ≡ Some r → ⊥
not_both x r none some = cc

-- a live handle has a place
pub has_place : (handles : List (Option HandleRecord)) (n : ℕ) (r : HandleRecord) → row_at handles n ≡ Some r → n < length handles
has_place handles n r is = elim (cases_lt n (length handles)) [
  | inl less ↦ less
  | inr past ↦ absurd (not_both (row_at handles n) r (get_or_past handles n None past) is)
]

abbrev pub weight : (HandleRecord → ℕ) → Option HandleRecord → ℕ
weight w None = 0
weight w (Some r) = w r

pub here : (w : HandleRecord → ℕ) (line : ℕ) (x : Option HandleRecord) → IfSome x (λ r. r.line ≡ line) → on_line w line x ≡ weight w x
here w line None is = refl
here w line (Some r) is = ap (λ (b : Bool). cond b (w r) 0) (same r.line line is) where
  same : (a b : ℕ) → a ≡ b → nat_eq a b ≡ true
  same a b is = grind (arith, nat_tests)

pub away : (w : HandleRecord → ℕ) (line l : ℕ) (x : Option HandleRecord) → l ≢ line → IfSome x (λ r. r.line ≡ line) → on_line w l x ≡ 0
away w line l None differs is = refl
away w line l (Some r) differs is = ap (λ (b : Bool). cond b (w r) 0) (other r.line line l differs is) where
  other : (a b c : ℕ) → c ≢ b → a ≡ b → nat_eq a c ≡ false
  other a b c differs is = grind (arith, nat_tests)

few_on : (w : HandleRecord → ℕ) → ((r : HandleRecord) → w r ≤ 1) → (l : ℕ) (x : Option HandleRecord) → on_line w l x ≤ 1
few_on w small l None = omega arith
few_on w small l (Some r) = few_if (nat_eq r.line l) (w r) (small r) where
  few_if : (b : Bool) (n : ℕ) → n ≤ 1 → cond b n 0 ≤ 1
  few_if true n less = less
  few_if false n less = omega arith

few_sum : (w : HandleRecord → ℕ) → ((r : HandleRecord) → w r ≤ 1) → (l : ℕ) (hs : List (Option HandleRecord)) → sum_on w l hs ≤ length hs
few_sum w small l [] = omega arith
few_sum w small l (x ∷ hs) = omega (arith, sum_by-cons (on_line w l) x hs, few_on w small l x, few_sum w small l hs)

one_small : (b : Bool) → one b ≤ 1
one_small true = omega arith
one_small false = omega arith

same_tally : (t : Tally) (a b d e : ℕ) → t.shared ≡ a → t.others ≡ b → t.acquired ≡ d → t.deasserts ≡ e → t ≡ record { shared = a; others = b; acquired = d; deasserts = e }
same_tally t a b d e p q r s =
    ap (λ (n : ℕ). let x : Tally = record t { shared = n } in x) p
    ∙ ap (λ (n : ℕ). let x : Tally = record t { shared = a; others = n } in x) q
    ∙ ap (λ (n : ℕ). let x : Tally = record t { shared = a; others = b; acquired = n } in x) r
    ∙ ap (λ (n : ℕ). let x : Tally = record t { shared = a; others = b; acquired = d; deasserts = n } in x) s

-- a change of one handle on a line
pub record Change (line : ℕ) (hs hs' : List (Option HandleRecord)) (old new : Option HandleRecord) : Type 0 where
  pub sums : (w : HandleRecord → ℕ) (l : ℕ) → sum_on w l hs' + on_line w l old ≡ sum_on w l hs + on_line w l new
  pub within : (w : HandleRecord → ℕ) (l : ℕ) → on_line w l old ≤ sum_on w l hs
  pub old_line : IfSome old (λ r. r.line ≡ line)
  pub new_line : IfSome new (λ r. r.line ≡ line)
  pub few : length hs' < 2 ^ 32
  pub rows : (n : ℕ) (r : HandleRecord) → row_at hs' n ≡ Some r → ((row_at hs n ≡ Some r) ⊎ (r.line ≡ line))

pub change_set : (line : ℕ) (hs : List (Option HandleRecord)) (n : ℕ) (r : HandleRecord) (x : Option HandleRecord) → row_at hs n ≡ Some r → r.line ≡ line → IfSome x (λ q. q.line ≡ line) → length hs < 2 ^ 32
    → Change line hs (slice_set hs n x) (Some r) x
change_set line hs n r x is on on' few =
    let place = has_place hs n r is in
    let sums : (w : HandleRecord → ℕ) (l : ℕ) (y : Option HandleRecord) → sum_on w l (slice_set hs n y) + on_line w l (Some r) ≡ sum_on w l hs + on_line w l y =
    λ w l y. subst (λ (q : Option HandleRecord). sum_on w l (slice_set hs n y) + on_line w l q ≡ sum_on w l hs + on_line w l y) is (sum_by-set (on_line w l) hs n y None place) in
    record {
      sums = λ w l. sums w l x;
      within = λ w l. let e = sums w l None in omega (arith, e);
      old_line = on;
      new_line = on';
      few = subst (λ (k : ℕ). k < 2 ^ 32) (sym (length-set hs n x)) few;
      rows = λ m q at. elim (cases_eq m n) [
        | inl same ↦ inr (on_it x q on' (sym (get_or-set_same hs n x None place) ∙ ap (λ (k : ℕ). row_at (slice_set hs n x) k) (sym same) ∙ at))
        | inr other ↦ inl (sym (get_or-set_other hs n m x None other) ∙ at)
      ];
    } where
      on_it : (x : Option HandleRecord) (q : HandleRecord) → IfSome x (λ q. q.line ≡ line) → x ≡ Some q → q.line ≡ line
      on_it None q on is = absurd cc
      on_it (Some r) q on is = let same : r ≡ q = cc in ap (λ (r : HandleRecord). r.line) (sym same) ∙ on

pub change_add : (line : ℕ) (hs : List (Option HandleRecord)) (r : HandleRecord) → r.line ≡ line → length hs + 1 < 2 ^ 32 → Change line hs (hs ++ Some r ∷ []) None (Some r)
change_add line hs r on few = record {
  sums = λ w l. omega (arith, sum_by-append (on_line w l) hs (Some r ∷ []), sum_by-cons (on_line w l) (Some r) []);
  within = λ w l. omega arith;
  old_line = tt;
  new_line = on;
  few = longer;
  rows = λ n q at. elim (cases_lt n (length hs)) [
    | inl less ↦ inl (sym (get_or-append hs (Some r ∷ []) None n less) ∙ at)
    | inr past ↦ inr (last (n - length hs) q (sym (get_or-append_right hs (Some r ∷ []) n None past) ∙ at))
  ];
} where
  longer : length (hs ++ Some r ∷ []) < 2 ^ 32
  longer = subst (λ (k : ℕ). k < 2 ^ 32) (sym (length-append hs (Some r ∷ []))) few

  last : (k : ℕ) (q : HandleRecord) → slice_index_or (Some r ∷ []) k None ≡ Some q → q.line ≡ line
  last zero q is = let same : r ≡ q = cc in ap (λ (r : HandleRecord). r.line) (sym same) ∙ on
  last (suc k) q is = absurd cc

module _ (line : ℕ) (hs hs' : List (Option HandleRecord)) (old new : Option HandleRecord) (c : Change line hs hs' old new) where
  moves : (w : HandleRecord → ℕ) → sum_on w line hs' < 2 ^ 32 → MayMove (sum_on w line hs) (weight w old) (weight w new)
  moves w small =
      let a = here w line old c.old_line in
      let b = here w line new c.new_line in
      record {
        within = omega (arith, a, c.within w line);
        fits = omega (arith, a, b, c.within w line, c.sums w line, small);
      }

  light : (w : HandleRecord → ℕ) → ((r : HandleRecord) → w r ≤ 1) → MayMove (sum_on w line hs) (weight w old) (weight w new)
  light w small = moves w (omega (arith, few_sum w small line hs', c.few))

  shared_is : (x : Option HandleRecord) → weight shared_weight x ≡ (weights_of x).shared
  shared_is None = refl
  shared_is (Some r) = refl

  others_is : (x : Option HandleRecord) → weight other_weight x ≡ (weights_of x).others
  others_is None = refl
  others_is (Some r) = refl

  acquired_is : (x : Option HandleRecord) → weight acquired_weight x ≡ (weights_of x).acquired
  acquired_is None = refl
  acquired_is (Some r) = refl

  deasserts_is : (x : Option HandleRecord) → weight deassert_weight x ≡ (weights_of x).deasserts
  deasserts_is None = refl
  deasserts_is (Some r) = refl

  -- a count of the line's tally may be moved
  as_moves : (w : HandleRecord → ℕ) (t a b : ℕ) → t ≡ sum_on w line hs → weight w old ≡ a → weight w new ≡ b → MayMove (sum_on w line hs) (weight w old) (weight w new) → MayMove t a b
  as_moves w t a b is is_a is_b m = record {
    within = omega (arith, is, is_a, m.within);
    fits = omega (arith, is, is_a, is_b, m.fits);
  }

  pub may_swap : (t : Tally) → t ≡ tally_of hs line → deasserts_on line hs - (weights_of old).deasserts + (weights_of new).deasserts < 2 ^ 32 → MaySwap t (weights_of old) (weights_of new)
  may_swap t is few = record {
    shared_ = as_moves shared_weight t.shared (weights_of old).shared (weights_of new).shared (ap (λ (t : Tally). t.shared) is) (shared_is old) (shared_is new) (light shared_weight (λ r. one_small (is_shared r)));
    others_ = as_moves other_weight t.others (weights_of old).others (weights_of new).others (ap (λ (t : Tally). t.others) is) (others_is old) (others_is new) (light other_weight (λ r. one_small (not (is_shared r))));
    acquired_ = as_moves acquired_weight t.acquired (weights_of old).acquired (weights_of new).acquired (ap (λ (t : Tally). t.acquired) is) (acquired_is old) (acquired_is new) (light acquired_weight (λ r. one_small r.acquired));
    deasserts_ = record {
      within = omega (arith, ap (λ (t : Tally). t.deasserts) is, deasserts_is old, here deassert_weight line old c.old_line, c.within deassert_weight line);
      fits = omega (arith, ap (λ (t : Tally). t.deasserts) is, few);
    };
  }

  -- the count after it
  gives : (w : HandleRecord → ℕ) (t t' a b : ℕ) → t ≡ sum_on w line hs → weight w old ≡ a → weight w new ≡ b → t' + a ≡ t + b → t' ≡ sum_on w line hs'
  gives w t t' a b is is_a is_b swap = omega (arith, is, is_a, is_b, swap, c.sums w line, here w line old c.old_line, here w line new c.new_line)

  elsewhere : (w : HandleRecord → ℕ) (l : ℕ) → l ≢ line → sum_on w l hs' ≡ sum_on w l hs
  elsewhere w l other = omega (arith, c.sums w l, away w line l old other c.old_line, away w line l new other c.new_line)

  tally_here : (t t' : Tally) → t ≡ tally_of hs line → Swapped t (weights_of old) (weights_of new) t' → t' ≡ tally_of hs' line
  tally_here t t' is s =
      let a = gives shared_weight t.shared t'.shared (weights_of old).shared (weights_of new).shared (ap (λ (t : Tally). t.shared) is) (shared_is old) (shared_is new) s.shared_ in
      let b = gives other_weight t.others t'.others (weights_of old).others (weights_of new).others (ap (λ (t : Tally). t.others) is) (others_is old) (others_is new) s.others_ in
      let d = gives acquired_weight t.acquired t'.acquired (weights_of old).acquired (weights_of new).acquired (ap (λ (t : Tally). t.acquired) is) (acquired_is old) (acquired_is new) s.acquired_ in
      let e = gives deassert_weight t.deasserts t'.deasserts (weights_of old).deasserts (weights_of new).deasserts (ap (λ (t : Tally). t.deasserts) is) (deasserts_is old) (deasserts_is new) s.deasserts_ in
      same_tally t' (sum_on shared_weight line hs') (sum_on other_weight line hs') (sum_on acquired_weight line hs') (sum_on deassert_weight line hs') a b d e

  tally_away : (l : ℕ) → l ≢ line → tally_of hs l ≡ tally_of hs' l
  tally_away l other =
      let a = elsewhere shared_weight l other in
      let b = elsewhere other_weight l other in
      let d = elsewhere acquired_weight l other in
      let e = elsewhere deassert_weight l other in
      cc

  pub tallied : (ts : List Tally) (t t' : Tally) → IsTallied ts hs → line < length ts → t ≡ tally_of hs line → Swapped t (weights_of old) (weights_of new) t' → IsTallied (slice_set ts line t') hs'
  tallied ts t t' is place at s = record {
    each = λ l less. elim (cases_eq l line) [
      | inl same ↦ ap (λ (k : ℕ). slice_index_or (slice_set ts line t') k no_tally) same ∙ get_or-set_same ts line t' no_tally place ∙ tally_here t t' at s ∙ ap (λ (k : ℕ). tally_of hs' k) (sym same)
      | inr other ↦ get_or-set_other ts line l t' no_tally other ∙ is.each l (subst (λ (k : ℕ). l < k) (length-set ts line t') less) ∙ tally_away l other
    ];
    inside = λ n r at. subst (λ (k : ℕ). r.line < k) (sym (length-set ts line t')) (elim (c.rows n r at) [
      | inl before ↦ is.inside n r before
      | inr on ↦ subst (λ (k : ℕ). k < length ts) (sym on) place
    ]);
    few = c.few;
  }

pub inside_some : (x : Option HandleRecord) (k : ℕ) → ((r : HandleRecord) → x ≡ Some r → r.line < k) → IfSome x (λ r. r.line < k)
inside_some None k each = tt
inside_some (Some r) k each = each r refl

-- a handle has no more deasserts than its line
pub row_within : (hs : List (Option HandleRecord)) (n : ℕ) (r : HandleRecord) → row_at hs n ≡ Some r → r.deasserts ≤ deasserts_on r.line hs
row_within hs n r is =
    let place = has_place hs n r is in
    let e = subst (λ (q : Option HandleRecord). deasserts_on r.line (slice_set hs n None) + on_line deassert_weight r.line q ≡ deasserts_on r.line hs + 0) is (sum_by-set (on_line deassert_weight r.line) hs n None None place) in
    omega (arith, e, here deassert_weight r.line (Some r) refl)
