-- What counts of holds tell.
use Rattle.std.proofs.Common.{◌≡◌, ◌≢◌, Some, subst, ℕ, zero, suc, ◌+◌, ◌-◌, ◌<◌, ◌≤◌, Bool, true, false, cond, List, [], ◌∷◌, refl, sym, ap, ◌∙◌, arith, nat_eq, replicate, length, set}
use Rattle.std.proofs.lemmas.Bool.Decides.{nat_tests}
use Rattle.std.proofs.lemmas.List.{length-replicate, length-set, get_or-set_same, get_or-set_other}
use Rattle.std.proofs.lemmas.List.Sums.{sum_by-set, sum_by-cons}
use Rattle.std.proofs.lemmas.List.Folds.{sum_by-replicate}
use Rattle.std.specs.Prelude.{count_by, sum_by, slice_index}
use Rattle.clk_model.proofs.Members.{test_same, same_from_test, test_other}
use Rattle.clk_model.specs.Step.{passed_over}
use Rattle.core_parts.specs.Holds.{held_times, listed_from, listed, TellsHolds, AreHeld, passed_times, Passes}

-- ---- the holds that counts say

-- how often a clock is held
abbrev pub times_in : ℕ → List ℕ → ℕ
times_in c holds = count_by (λ h. nat_eq h c) holds

-- one hold more in front
pub times_more : (c x : ℕ) (holds : List ℕ) → times_in c (x ∷ holds) ≡ cond (nat_eq x c) 1 0 + times_in c holds
times_more c x holds = sum_by-cons (λ (h : ℕ). cond (nat_eq h c) 1 0) x holds

times_same : (n c : ℕ) (holds : List ℕ) → times_in c (held_times n c holds) ≡ n + times_in c holds
times_same zero c holds = let same : times_in c holds ≡ 0 + times_in c holds = omega arith in same
times_same (suc n) c holds =
    times_more c c (held_times n c holds)
    ∙ ap (λ (b : Bool). cond b 1 0 + times_in c (held_times n c holds)) (test_same c) ∙ (let more : 1 + times_in c (held_times n c holds) ≡ suc n + times_in c holds = (let more = times_same n c holds in omega arith) in more)

times_other : (n b c : ℕ) (holds : List ℕ) → nat_eq b c ≡ false → times_in c (held_times n b holds) ≡ times_in c holds
times_other zero b c holds other = refl
times_other (suc n) b c holds other =
    times_more c b (held_times n b holds)
    ∙ ap (λ (t : Bool). cond t 1 0 + times_in c (held_times n b holds)) other ∙ (let same : 0 + times_in c (held_times n b holds) ≡ times_in c holds = (let more = times_other n b c holds other in omega arith) in same)

differs : (b c : ℕ) → b < c → nat_eq b c ≡ false
differs b c less = grind (arith, nat_tests)

differs_above : (b c : ℕ) → c < b → nat_eq b c ≡ false
differs_above b c less = grind (arith, nat_tests)

none_below : (counts : List ℕ) (k c : ℕ) → c < k → times_in c (listed_from k counts) ≡ 0
none_below [] k c less = refl
none_below (n ∷ ns) k c less = times_other n k c (listed_from (suc k) ns) (differs_above k c less) ∙ none_below ns (suc k) c (omega arith)

listed_at : (counts : List ℕ) (k d c : ℕ) → c ≡ k + d → times_in c (listed_from k counts) ≡ slice_index counts d
listed_at [] k d c is = refl
listed_at (n ∷ ns) k zero c is =
    let here : c ≡ k = omega arith in
    ap (λ (b : ℕ). times_in b (listed_from k (n ∷ ns))) here ∙ times_same n k (listed_from (suc k) ns)
    ∙ (let same : n + times_in k (listed_from (suc k) ns) ≡ n = (let none = none_below ns (suc k) k (omega arith) in omega arith) in same)
listed_at (n ∷ ns) k (suc d) c is =
    times_other n k c (listed_from (suc k) ns) (differs k c (omega arith)) ∙ listed_at ns (suc k) d c (omega arith)

-- the list of holds has each clock as often as the counts say
pub listed_tells : (counts : List ℕ) → TellsHolds counts (listed counts)
unfolding listed
listed_tells counts = record { each = λ c. listed_at counts 0 c c (omega arith) }

-- ---- at the opening

pub none_at : (n c : ℕ) → slice_index (replicate n 0) c ≡ 0
none_at zero c = refl
none_at (suc n) zero = refl
none_at (suc n) (suc c) = none_at n c

pub tells_none : (counts : List ℕ) (n : ℕ) → counts ≡ replicate n 0 → TellsHolds counts []
tells_none counts n is = record { each = λ c. sym (ap (λ (xs : List ℕ). slice_index xs c) is ∙ none_at n c) }

pub held_none : (there : ℕ → Bool) (counts : List ℕ) (n : ℕ) → counts ≡ replicate n 0 → AreHeld there n 0 counts
held_none there counts n is = record {
  inside = λ c free. ap (λ (xs : List ℕ). slice_index xs c) is ∙ none_at n c;
  size = ap (λ (xs : List ℕ). length xs) is ∙ length-replicate n 0;
  few = let sum = ap (λ (xs : List ℕ). sum_by (λ n. n) xs) is in let none = sum_by-replicate (λ (n : ℕ). n) n 0 in omega arith;
}

-- ---- with the steps

-- a step more is made
pub held_on : (there : ℕ → Bool) (clocks steps : ℕ) (counts : List ℕ) → AreHeld there clocks steps counts → AreHeld there clocks (steps + 1) counts
held_on there clocks steps counts held = record { inside = held.inside; size = held.size; few = let few = held.few in omega arith }

-- and where the clocks that passed the test pass another
pub held_still : (there there' : ℕ → Bool) (clocks steps : ℕ) (counts : List ℕ) → ((c : ℕ) → there c ≡ true → there' c ≡ true) → AreHeld there clocks steps counts → AreHeld there' clocks steps counts
held_still there there' clocks steps counts stays held = record { inside = λ c free. by c free (there c) refl; size = held.size; few = held.few } where
  by : (c : ℕ) → there' c ≡ false → (t : Bool) → there c ≡ t → slice_index counts c ≡ 0
  by c free true at = let no : true ≡ false = sym (stays c at) ∙ free in absurd cc
  by c free false at = held.inside c at

-- no clock is held more often than steps were made
pub held_few : (there : ℕ → Bool) (clocks steps : ℕ) (counts : List ℕ) (c : ℕ) → AreHeld there clocks steps counts → slice_index counts c ≤ steps
held_few there clocks steps counts c held = by (within counts c) where
  within : (xs : List ℕ) (c : ℕ) → slice_index xs c ≤ sum_by (λ n. n) xs
  within [] c = omega arith
  within (x ∷ xs) zero =
      let sum = sum_by-cons (λ (n : ℕ). n) x xs in
      let le : x ≤ sum_by (λ n. n) (x ∷ xs) = omega arith in
      le
  within (x ∷ xs) (suc c) =
      let more = within xs c in
      let sum = sum_by-cons (λ (n : ℕ). n) x xs in
      let le : slice_index xs c ≤ sum_by (λ n. n) (x ∷ xs) = omega arith in
      le

  by : slice_index counts c ≤ sum_by (λ n. n) counts → slice_index counts c ≤ steps
  by le = let few = held.few in omega arith

-- one hold more
pub held_more : (there : ℕ → Bool) (clocks steps : ℕ) (counts : List ℕ) (c : ℕ) → AreHeld there clocks steps counts → c < clocks → there c ≡ true → AreHeld there clocks (steps + 1) (set counts c (slice_index counts c + 1))
held_more there clocks steps counts c held within here = record {
  inside = λ d free. get_or-set_other counts c d (slice_index counts c + 1) 0 (λ same. let no : true ≡ false = sym here ∙ sym (ap there same) ∙ free in absurd cc) ∙ held.inside d free;
  size = length-set counts c (slice_index counts c + 1) ∙ held.size;
  few =
      let size = held.size in
      let few = held.few in
      let place : c < length counts = omega arith in
      let sums = sum_by-set (λ (n : ℕ). n) counts c (slice_index counts c + 1) 0 place in
      omega arith;
}

-- one hold less
pub held_less : (there : ℕ → Bool) (clocks steps : ℕ) (counts : List ℕ) (c : ℕ) → AreHeld there clocks steps counts → c < clocks → there c ≡ true → 0 < slice_index counts c → AreHeld there clocks (steps + 1) (set counts c (slice_index counts c - 1))
held_less there clocks steps counts c held within here some = record {
  inside = λ d free. get_or-set_other counts c d (slice_index counts c - 1) 0 (λ same. let no : true ≡ false = sym here ∙ sym (ap there same) ∙ free in absurd cc) ∙ held.inside d free;
  size = length-set counts c (slice_index counts c - 1) ∙ held.size;
  few =
      let size = held.size in
      let few = held.few in
      let place : c < length counts = omega arith in
      let sums = sum_by-set (λ (n : ℕ). n) counts c (slice_index counts c - 1) 0 place in
      omega arith;
}

-- ---- holds that go over to another clock

pub passes_none : (from to : ℕ) (own held : List ℕ) → Passes from to own own held held
passes_none from to own held = record { length_ = refl; sum_ = refl; coupled = λ d. refl; both = refl; others = λ d one two. refl }

pub passes_then : (from to : ℕ) (own own' own'' held held' held'' : List ℕ) → Passes from to own own' held held' → Passes from to own' own'' held' held'' → Passes from to own own'' held held''
passes_then from to own own' own'' held held' held'' first then_ = record {
  length_ = then_.length_ ∙ first.length_;
  sum_ = then_.sum_ ∙ first.sum_;
  coupled = λ d. let one = first.coupled d in let two = then_.coupled d in omega arith;
  both = then_.both ∙ first.both;
  others = λ d one two. then_.others d one two ∙ first.others d one two;
}

-- one does
pub passes_one : (from to : ℕ) (own held : List ℕ) → from ≢ to → from < length own → to < length own → length held ≡ length own → 0 < slice_index own from → 0 < slice_index held from
    → Passes from to own (set (set own to (slice_index own to + 1)) from (slice_index (set own to (slice_index own to + 1)) from - 1)) held
    (set (set held to (slice_index held to + 1)) from (slice_index (set held to (slice_index held to + 1)) from - 1))
passes_one from to own held apart in_from in_to size some_own some_held = record {
  length_ = length-set more_held from _ ∙ length-set held to _;
  sum_ =
      let place : to < length held = omega arith in
      let len = length-set held to (slice_index held to + 1) in
      let place' : from < length more_held = omega arith in
      let one = sum_by-set (λ (n : ℕ). n) held to (slice_index held to + 1) 0 place in
      let two = sum_by-set (λ (n : ℕ). n) more_held from (slice_index more_held from - 1) 0 place' in
      let was = at_other held in
      omega arith;
  coupled = λ d. by d (nat_eq from d) refl (nat_eq to d) refl;
  both =
      let one = at_from held (omega arith) (omega arith) in
      let two = at_to held (omega arith) (omega arith) in
      omega arith;
  others = λ d no_from no_to. at_rest held d (λ same. no_from (sym same)) (λ same. no_to (sym same));
} where
  more_held : List ℕ
  more_held = set held to (slice_index held to + 1)

  at_other : (xs : List ℕ) → slice_index (set xs to (slice_index xs to + 1)) from ≡ slice_index xs from
  at_other xs = get_or-set_other xs to from (slice_index xs to + 1) 0 apart

  at_from : (xs : List ℕ) → from < length xs → to < length xs
      → slice_index (set (set xs to (slice_index xs to + 1)) from (slice_index (set xs to (slice_index xs to + 1)) from - 1)) from ≡ slice_index xs from - 1
  at_from xs place place' =
      get_or-set_same (set xs to (slice_index xs to + 1)) from (slice_index (set xs to (slice_index xs to + 1)) from - 1) 0 (let len = length-set xs to (slice_index xs to + 1) in omega arith)
      ∙ ap (λ (n : ℕ). n - 1) (at_other xs)

  at_to : (xs : List ℕ) → from < length xs → to < length xs
      → slice_index (set (set xs to (slice_index xs to + 1)) from (slice_index (set xs to (slice_index xs to + 1)) from - 1)) to ≡ slice_index xs to + 1
  at_to xs place place' =
      get_or-set_other (set xs to (slice_index xs to + 1)) from to (slice_index (set xs to (slice_index xs to + 1)) from - 1) 0 (λ same. apart (sym same))
      ∙ get_or-set_same xs to (slice_index xs to + 1) 0 place'

  at_rest : (xs : List ℕ) (d : ℕ) → from ≢ d → to ≢ d
      → slice_index (set (set xs to (slice_index xs to + 1)) from (slice_index (set xs to (slice_index xs to + 1)) from - 1)) d ≡ slice_index xs d
  at_rest xs d no_from no_to =
      get_or-set_other (set xs to (slice_index xs to + 1)) from d (slice_index (set xs to (slice_index xs to + 1)) from - 1) 0 (λ same. no_from (sym same))
      ∙ get_or-set_other xs to d (slice_index xs to + 1) 0 (λ same. no_to (sym same))

  after : List ℕ → ℕ → ℕ
  after xs d = slice_index (set (set xs to (slice_index xs to + 1)) from (slice_index (set xs to (slice_index xs to + 1)) from - 1)) d

  by : (d : ℕ) → (t : Bool) → nat_eq from d ≡ t → (u : Bool) → nat_eq to d ≡ u → after own d + slice_index held d ≡ slice_index own d + after held d
  by d true e u f =
      subst (λ (x : ℕ). after own x + slice_index held x ≡ slice_index own x + after held x) (same_from_test from d e)
      (let one = at_from own in_from in_to in let two = at_from held (omega arith) (omega arith) in omega arith)
  by d false e true f =
      subst (λ (x : ℕ). after own x + slice_index held x ≡ slice_index own x + after held x) (same_from_test to d f)
      (let one = at_to own in_from in_to in let two = at_to held (omega arith) (omega arith) in omega arith)
  by d false e false f =
      let one = at_rest own d (test_other from d e) (test_other to d f) in
      let two = at_rest held d (test_other from d e) (test_other to d f) in
      omega arith

-- the counts behind it tell the holds that are passed over
turn_ : (a b : ℕ) (t : Bool) → nat_eq a b ≡ t → nat_eq b a ≡ t
turn_ a b true e = grind (arith, nat_tests)
turn_ a b false e = grind (arith, nat_tests)

-- a hold that is passed over is one on its new clock, and none on its old one
gone : (x p c : ℕ) → nat_eq x p ≡ true → (u : Bool) → nat_eq c p ≡ u → ◌≡◌ {A = ℕ} (cond u 0 (cond (nat_eq x c) 1 0)) 0
gone x p c e true f = refl
gone x p c e false f = ap (λ (b : Bool). cond b 1 0) (ap (λ (y : ℕ). nat_eq y c) (same_from_test x p e) ∙ turn_ c p false f)

no_more : (v : Bool) → ◌≡◌ {A = ℕ} (cond v 0 0) 0
no_more true = refl
no_more false = refl

plus_none : (a b : ℕ) → b ≡ 0 → a ≡ a + b
plus_none a b e = omega arith

one_passed : (x p o c : ℕ) → cond (nat_eq (cond (nat_eq x p) o x) c) 1 0 ≡ cond (nat_eq c p) 0 (cond (nat_eq x c) 1 0) + cond (nat_eq c o) (cond (nat_eq x p) 1 0) 0
one_passed x p o c = by (nat_eq x p) refl (nat_eq c p) refl (nat_eq c o) refl where
  by : (t : Bool) → nat_eq x p ≡ t → (u : Bool) → nat_eq c p ≡ u → (v : Bool) → nat_eq c o ≡ v
      → cond (nat_eq (cond t o x) c) 1 0 ≡ cond u 0 (cond (nat_eq x c) 1 0) + cond v (cond t 1 0) 0
  by true e u f true g = ap (λ (b : Bool). cond b 1 0) (turn_ c o true g) ∙ ap (λ (n : ℕ). n + 1) (sym (gone x p c e u f))
  by true e u f false g = ap (λ (b : Bool). cond b 1 0) (turn_ c o false g) ∙ ap (λ (n : ℕ). n + 0) (sym (gone x p c e u f))
  by false e true f v g = ap (λ (b : Bool). cond b 1 0) (ap (nat_eq x) (same_from_test c p f) ∙ e) ∙ plus_none 0 (cond v 0 0) (no_more v)
  by false e false f v g = plus_none (cond (nat_eq x c) 1 0) (cond v 0 0) (no_more v)

passed_holds : (p o c : ℕ) (holds : List ℕ) → times_in c (passed_over p (Some o) holds) ≡ passed_times p (Some o) (λ d. times_in d holds) c
passed_holds p o c [] = by (nat_eq c p) (nat_eq c o) where
  by : (t u : Bool) → ◌≡◌ {A = ℕ} 0 (cond t 0 0 + cond u 0 0)
  by true true = refl
  by true false = refl
  by false true = refl
  by false false = refl
passed_holds p o c (x ∷ xs) =
    times_more c (cond (nat_eq x p) o x) (passed_over p (Some o) xs)
    ∙ ap (λ (n : ℕ). n + times_in c (passed_over p (Some o) xs)) (one_passed x p o c)
    ∙ ap (λ (n : ℕ). cond (nat_eq c p) 0 (cond (nat_eq x c) 1 0) + cond (nat_eq c o) (cond (nat_eq x p) 1 0) 0 + n) (passed_holds p o c xs)
    ∙ sym (apart (nat_eq c p) (nat_eq c o) (cond (nat_eq x c) 1 0) (times_in c xs) (cond (nat_eq x p) 1 0) (times_in p xs))
    ∙ ap (λ (n : ℕ). cond (nat_eq c p) 0 n + cond (nat_eq c o) (cond (nat_eq x p) 1 0 + times_in p xs) 0) (sym (times_more c x xs))
    ∙ ap (λ (n : ℕ). cond (nat_eq c p) 0 (times_in c (x ∷ xs)) + cond (nat_eq c o) n 0) (sym (times_more p x xs)) where
      apart : (t u : Bool) (a n e m : ℕ) → cond t 0 (a + n) + cond u (e + m) 0 ≡ cond t 0 a + cond u e 0 + (cond t 0 n + cond u m 0)
      apart true true a n e m = omega arith
      apart true false a n e m = omega arith
      apart false true a n e m = omega arith
      apart false false a n e m = omega arith

pub tells_passed : (p o : ℕ) (counts counts' holds : List ℕ) → TellsHolds counts holds → ((d : ℕ) → slice_index counts' d ≡ passed_times p (Some o) (slice_index counts) d) → TellsHolds counts' (passed_over p (Some o) holds)
tells_passed p o counts counts' holds tells passed = record {
  each = λ c.
      passed_holds p o c holds
      ∙ ap (λ (n : ℕ). cond (nat_eq c p) 0 n + cond (nat_eq c o) (times_in p holds) 0) (tells.each c)
      ∙ ap (λ (n : ℕ). cond (nat_eq c p) 0 (slice_index counts c) + cond (nat_eq c o) n 0) (tells.each p)
      ∙ sym (passed c);
}

-- with the steps
pub held_passed : (there : ℕ → Bool) (clocks steps from to : ℕ) (own own' held held' : List ℕ) → there to ≡ true → AreHeld there clocks steps held → Passes from to own own' held held'
    → ((d : ℕ) → slice_index held' d ≡ passed_times from (Some to) (slice_index held) d) → AreHeld there clocks (steps + 1) held'
held_passed there clocks steps from to own own' held held' here are passes passed = record {
  inside = λ d free.
      passed d ∙ ap (λ (n : ℕ). cond (nat_eq d from) 0 n + cond (nat_eq d to) (slice_index held from) 0) (are.inside d free) ∙ none (nat_eq d from) (nat_eq d to) (slice_index held from)
      (other d free (nat_eq d to) refl);
  size = passes.length_ ∙ are.size;
  few = let few = are.few in let sum = passes.sum_ in omega arith;
} where
  other : (d : ℕ) → there d ≡ false → (t : Bool) → nat_eq d to ≡ t → t ≡ false
  other d free true e = let no : true ≡ false = sym here ∙ ap there (sym (same_from_test d to e)) ∙ free in absurd cc
  other d free false e = refl

  none : (t u : Bool) (n : ℕ) → u ≡ false → ◌≡◌ {A = ℕ} (cond t 0 0 + cond u n 0) 0
  none true false n e = refl
  none false false n e = refl
  none true true n e = absurd cc
  none false true n e = absurd cc
