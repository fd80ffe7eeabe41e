-- The rate that is nearest to a wanted one, and the least divisor that gives it.
use Rattle.std.proofs.Common.{◌≡◌, ℕ, ◌<◌, ◌≤◌, refl, sym, ◌∙◌, ap, subst, arith, ◌⊎◌, inl, inr, List, [], ◌∷◌, true, false, min, max, length, nat_le, nat_eq}
use Rattle.std.specs.List.{AllByRecursion, fold}
use Rattle.std.specs.Option.{unwrap_or}
use Rattle.std.specs.Int.{abs_diff, div_ceil}
use Rattle.std.proofs.lemmas.Bool.{cases_lt, cond-true, cond-false, eq-eqb, eqb-true, le-leb, leb-true, lt-ltb, le-ltb, true≢false}
use Rattle.kind_math.specs.Choices.{least}
use Rattle.kind_math.specs.Closest.{nearer, nearest, rates_by, closest}
use Rattle.kind_math.specs.Dividers.{least_or_greatest}
use Rattle.kind_math.proofs.Chosen.{IsIn, Prefers, min_prefers, fold_is, fold_keeps, fold_first, fold_each, reduce_is}
use Rattle.kind_math.proofs.DivisorLaws.{each_at}
use Rattle.kind_math.proofs.Picked.{Picked, picked, each_in}
use Rattle.kind_math.proofs.Quotients.{ceil_exchange, ceil-le, ceil-reaches, ceil-falls}

-- the first rate is nearer to the wanted one than the second, or as near and not higher
abbrev pub IsNearer : ℕ → ℕ → ℕ → Type 0
IsNearer wanted one other = (abs_diff one wanted < abs_diff other wanted) ⊎ ((abs_diff one wanted ≡ abs_diff other wanted) × (one ≤ other))

-- which of the two is taken
pub takes_first : (wanted one other : ℕ) → IsNearer wanted one other → nearer wanted one other ≡ one
takes_first wanted one other (inl closer) = cond-true _ one _ (lt-ltb (abs_diff one wanted) (abs_diff other wanted) closer)
takes_first wanted one other (inr same) =
    cond-false _ one _ (le-ltb (abs_diff one wanted) (abs_diff other wanted) (omega (arith, same.0)))
    ∙ cond-false _ other _ (le-ltb (abs_diff other wanted) (abs_diff one wanted) (omega (arith, same.0)))
    ∙ (let low : min one other ≡ one = omega (arith, same.1) in low)

pub takes_second : (wanted one other : ℕ) → IsNearer wanted other one → nearer wanted one other ≡ other
takes_second wanted one other (inl closer) =
    cond-false _ one _ (le-ltb (abs_diff one wanted) (abs_diff other wanted) (omega (arith, closer)))
    ∙ cond-true _ other _ (lt-ltb (abs_diff other wanted) (abs_diff one wanted) closer)
takes_second wanted one other (inr same) =
    cond-false _ one _ (le-ltb (abs_diff one wanted) (abs_diff other wanted) (omega (arith, same.0)))
    ∙ cond-false _ other _ (le-ltb (abs_diff other wanted) (abs_diff one wanted) (omega (arith, same.0)))
    ∙ (let low : min one other ≡ other = omega (arith, same.1) in low)

-- one of two rates is the nearer
either_nearer : (wanted one other : ℕ) → IsNearer wanted one other ⊎ IsNearer wanted other one
either_nearer wanted one other = elim (cases_lt (abs_diff one wanted) (abs_diff other wanted)) [
  | inl closer ↦ inl (inl closer)
  | inr farther ↦ elim (cases_lt (abs_diff other wanted) (abs_diff one wanted)) [
    | inl closer ↦ inr (inl closer)
    | inr same ↦ elim (cases_lt other one) [
      | inl lower ↦ inr (inr (omega (arith, same, farther), omega (arith, lower)))
      | inr higher ↦ inl (inr (omega (arith, same, farther), higher))
    ]
  ]
]

nearer_chain : (wanted a b e : ℕ) → IsNearer wanted a b → IsNearer wanted b e → IsNearer wanted a e
nearer_chain wanted a b e (inl h) (inl k) = inl (omega (arith, h, k))
nearer_chain wanted a b e (inl h) (inr k) = inl (omega (arith, h, k.0))
nearer_chain wanted a b e (inr h) (inl k) = inl (omega (arith, h.0, k))
nearer_chain wanted a b e (inr h) (inr k) = inr (omega (arith, h.0, k.0), omega (arith, h.1, k.1))

-- taking the nearer one goes for those that are nearer
pub nearer_prefers : (wanted : ℕ) → Prefers (nearer wanted) (IsNearer wanted)
nearer_prefers wanted = record {
  one = λ a b. elim (either_nearer wanted a b) [ inl h ↦ inl (takes_first wanted a b h) | inr h ↦ inr (takes_second wanted a b h) ];
  keeps = λ d a b h k. elim (either_nearer wanted a b) [
    | inl first ↦ subst (IsNearer wanted d) (sym (takes_first wanted a b first)) h
    | inr second ↦ subst (IsNearer wanted d) (sym (takes_second wanted a b second)) k
  ];
  left = λ d b h. takes_first wanted d b h;
  right = λ d a h. takes_second wanted a d h;
  first = λ a b. elim (either_nearer wanted a b) [
    | inl h ↦ subst (λ n. IsNearer wanted n a) (sym (takes_first wanted a b h)) (inr (refl, omega arith))
    | inr h ↦ subst (λ n. IsNearer wanted n a) (sym (takes_second wanted a b h)) h
  ];
  second = λ a b. elim (either_nearer wanted a b) [
    | inl h ↦ subst (λ n. IsNearer wanted n b) (sym (takes_first wanted a b h)) h
    | inr h ↦ subst (λ n. IsNearer wanted n b) (sym (takes_second wanted a b h)) (inr (refl, omega arith))
  ];
  chain = λ a b e h k. nearer_chain wanted a b e h k;
  itself = λ a. inr (refl, omega arith);
}

-- ---- the nearest rate that divisors give

-- a rate that a divisor gives and that is nearer than each
pub record IsClosestRate (parent wanted rate : ℕ) (divisors : List ℕ) : Type 0 where
  pub given : (d : ℕ) × IsIn d divisors × (div_ceil parent d ≡ rate)
  pub nearest : (e : ℕ) → IsIn e divisors → IsNearer wanted rate (div_ceil parent e)

in_rates : (parent d : ℕ) (divisors : List ℕ) → IsIn d divisors → IsIn (div_ceil parent d) (rates_by parent divisors)
in_rates parent d [] there = absurd there
in_rates parent d (x ∷ xs) (inl same) = inl (ap (div_ceil parent) same)
in_rates parent d (x ∷ xs) (inr there) = inr (in_rates parent d xs there)

each_rate : (parent : ℕ) (P : ℕ → Type 0) (divisors : List ℕ) → ((e : ℕ) → IsIn e divisors → P (div_ceil parent e)) → AllByRecursion P (rates_by parent divisors)
each_rate parent P [] holds = tt
each_rate parent P (x ∷ xs) holds = (holds x (inl refl), each_rate parent P xs (λ e there. holds e (inr there)))

-- such a rate is the nearest
pub nearest_is : (parent wanted rate : ℕ) (divisors : List ℕ) → IsClosestRate parent wanted rate divisors → nearest wanted (rates_by parent divisors) ≡ rate
unfolding nearest
nearest_is parent wanted rate [] is = absurd is.given.1
nearest_is parent wanted rate (x ∷ xs) is =
    fold_is (nearer_prefers wanted) (div_ceil parent x) rate (rates_by parent xs) (is.nearest x (inl refl))
    (each_rate parent (IsNearer wanted rate) xs (λ e there. is.nearest e (inr there)))
    (among is.given.1 is.given.2)
  where
    among : IsIn is.given.0 (x ∷ xs) → div_ceil parent is.given.0 ≡ rate → (div_ceil parent x ≡ rate) ⊎ IsIn rate (rates_by parent xs)
    among (inl same) gives = inl (ap (div_ceil parent) same ∙ gives)
    among (inr there) gives = inr (subst (λ n. IsIn n (rates_by parent xs)) gives (in_rates parent is.given.0 xs there))

-- and the nearest is such a rate
pub nearest_among : (parent wanted : ℕ) (divisors : List ℕ) → 0 < length divisors → IsClosestRate parent wanted (nearest wanted (rates_by parent divisors)) divisors
unfolding nearest
nearest_among parent wanted [] some = absurd (omega arith)
nearest_among parent wanted (x ∷ xs) some = record {
  given = fold_keeps law (λ n. (d : ℕ) × IsIn d (x ∷ xs) × (div_ceil parent d ≡ n)) (div_ceil parent x) (rates_by parent xs)
      (x, inl refl, refl)
      (each_rate parent (λ n. (d : ℕ) × IsIn d (x ∷ xs) × (div_ceil parent d ≡ n)) xs (λ e there. (e, inr there, refl)));
  nearest = each;
} where
  law : Prefers (nearer wanted) (IsNearer wanted)
  law = nearer_prefers wanted

  each : (e : ℕ) → IsIn e (x ∷ xs) → IsNearer wanted (fold (nearer wanted) (div_ceil parent x) (rates_by parent xs)) (div_ceil parent e)
  each e (inl same) =
      subst (λ n. IsNearer wanted (fold (nearer wanted) (div_ceil parent x) (rates_by parent xs)) n) (ap (div_ceil parent) same)
      (fold_first law (div_ceil parent x) (rates_by parent xs))
  each e (inr there) = fold_each law (div_ceil parent x) (div_ceil parent e) (rates_by parent xs) (in_rates parent e xs there)

-- ---- the least divisor that gives it

-- the divisor that is wanted for a rate that one of them gives: the least that gives it
pub record GivesFirst (parent rate : ℕ) (divisors : List ℕ) (d : ℕ) : Type 0 where
  pub within : IsIn d divisors
  pub gives : div_ceil parent d ≡ rate
  pub first : (e : ℕ) → IsIn e divisors → div_ceil parent e ≡ rate → d ≤ e

-- a divisor gives at most a rate, or 1, if it reaches the divisor of that
reaching : (parent rate d : ℕ) → 0 < d → nat_le (div_ceil parent (max rate 1)) d ≡ nat_le (div_ceil parent d) (max rate 1)
reaching parent rate d some = sym (ceil_exchange parent d (max rate 1) some (omega arith))

nothing_over : (parent d : ℕ) → 0 < d → div_ceil parent d ≡ 0 → parent ≡ 0
nothing_over parent d some none = let reach = ceil-reaches parent d 0 some (omega (arith, none)) in omega (arith, reach)

nothing_of : (parent d : ℕ) → 0 < d → parent ≡ 0 → div_ceil parent d ≡ 0
nothing_of parent d some none = let under = ceil-le parent d 0 some (omega (arith, none)) in omega (arith, under)

-- a divisor that passes gives the rate or less
passing : (parent rate f d : ℕ) → 0 < f → 0 < d → div_ceil parent f ≡ rate → nat_le (div_ceil parent (max rate 1)) d ≡ true → div_ceil parent d ≤ rate
passing parent rate f d some some' gives good =
    let under = leb-true (div_ceil parent d) (max rate 1) (sym (reaching parent rate d some') ∙ good) in
    elim (cases_lt 0 rate) [
      | inl more ↦ omega (arith, under)
      | inr none ↦
          let zero_rate : div_ceil parent f ≡ 0 = omega (arith, none, gives) in
          let nothing = nothing_of parent d some' (nothing_over parent f some zero_rate) in
          omega (arith, nothing)
    ]

passes_if : (parent rate d : ℕ) → 0 < d → div_ceil parent d ≡ rate → nat_le (div_ceil parent (max rate 1)) d ≡ true
passes_if parent rate d some gives = reaching parent rate d some ∙ le-leb (div_ceil parent d) (max rate 1) (omega (arith, gives))

gives_first : (parent rate : ℕ) (divisors : List ℕ) → AllByRecursion (λ d. 0 < d) divisors → (f : ℕ) → IsIn f divisors → div_ceil parent f ≡ rate
    → (d : ℕ) → Picked (λ e. nat_le (div_ceil parent (max rate 1)) e) divisors d → GivesFirst parent rate divisors d
gives_first parent rate divisors each f there gives d is = by_case is.case where
  divides : 0 < d
  divides = each_at (λ e. 0 < e) divisors d each is.within

  some : 0 < f
  some = each_at (λ e. 0 < e) divisors f each there

  by_case : ((nat_le (div_ceil parent (max rate 1)) d ≡ true) × ((e : ℕ) → IsIn e divisors → nat_le (div_ceil parent (max rate 1)) e ≡ true → d ≤ e))
      ⊎ (((e : ℕ) → IsIn e divisors → nat_le (div_ceil parent (max rate 1)) e ≡ false) × ((e : ℕ) → IsIn e divisors → e ≤ d)) → GivesFirst parent rate divisors d
  by_case (inl least) =
      let below = least.1 f there (passes_if parent rate f some gives) in
      let more = ceil-falls parent f d divides below in
      let less = passing parent rate f d some divides gives least.0 in
      record {
        within = is.within;
        gives = omega (arith, more, less, gives);
        first = λ e among same. least.1 e among (passes_if parent rate e (each_at (λ n. 0 < n) divisors e each among) same);
      }
  by_case (inr none) = absurd (true≢false (sym (passes_if parent rate f some gives) ∙ none.0 f there))

-- the closest divisor is the first that gives the nearest rate
pub closest_is : (parent wanted rate d : ℕ) (divisors : List ℕ) → IsClosestRate parent wanted rate divisors → GivesFirst parent rate divisors d → d ≡ closest parent wanted divisors
unfolding closest least
closest_is parent wanted rate d divisors is first =
    let near = nearest_is parent wanted rate divisors is in
    sym (ap (λ o. unwrap_or o 0) (reduce_is min_prefers (λ e. nat_eq (div_ceil parent e) (nearest wanted (rates_by parent divisors))) divisors d first.within
    (eq-eqb (div_ceil parent d) (nearest wanted (rates_by parent divisors)) (first.gives ∙ sym near))
    (each_in (λ e. nat_eq (div_ceil parent e) (nearest wanted (rates_by parent divisors)) ≡ true → d ≤ e) divisors
    (λ e there good. first.first e there (eqb-true (div_ceil parent e) (nearest wanted (rates_by parent divisors)) good ∙ near)))))

-- it is the divisor that rounding takes for the nearest rate
pub closest_by_rounding : (parent wanted rate d : ℕ) (divisors : List ℕ) → AllByRecursion (λ e. 0 < e) divisors → 0 < length divisors
    → IsClosestRate parent wanted rate divisors → d ≡ least_or_greatest (λ e. nat_le (div_ceil parent (max rate 1)) e) divisors → d ≡ closest parent wanted divisors
closest_by_rounding parent wanted rate d divisors each some is found =
    closest_is parent wanted rate d divisors is
    (gives_first parent rate divisors each is.given.0 is.given.1 is.given.2 d
    (subst (Picked (λ e. nat_le (div_ceil parent (max rate 1)) e) divisors) (sym found) (picked (λ e. nat_le (div_ceil parent (max rate 1)) e) divisors some)))
