-- The number that is picked of a list: the least that passes, or else the greatest.
use Rattle.std.proofs.Common.{◌≡◌, ℕ, ◌<◌, ◌≤◌, refl, sym, ◌∙◌, ap, subst, arith, ◌⊎◌, inl, inr, List, [], ◌∷◌, Bool, true, false, min, max, length}
use Rattle.std.specs.List.{AllByRecursion, reduce}
use Rattle.std.specs.Option.{unwrap_or}
use Rattle.std.proofs.lemmas.Bool.{cases_Bool}
use Rattle.kind_math.specs.Choices.{least, greatest_of}
use Rattle.kind_math.specs.Dividers.{least_or_greatest}
use Rattle.kind_math.proofs.Chosen.{IsIn, min_prefers, max_prefers, chosen, filter_none, fold_keeps, fold_each}

-- the number is one of the list; it is the least that passes, or none passes and it is the greatest
pub record Picked (passes : ℕ → Bool) (xs : List ℕ) (d : ℕ) : Type 0 where
  pub within : IsIn d xs
  pub case : ((passes d ≡ true) × ((e : ℕ) → IsIn e xs → passes e ≡ true → d ≤ e)) ⊎ (((e : ℕ) → IsIn e xs → passes e ≡ false) × ((e : ℕ) → IsIn e xs → e ≤ d))

-- what holds of each number of a list
pub each_in : (P : ℕ → Type 0) (xs : List ℕ) → ((e : ℕ) → IsIn e xs → P e) → AllByRecursion P xs
each_in P [] holds = tt
each_in P (x ∷ xs) holds = (holds x (inl refl), each_in P xs (λ e there. holds e (inr there)))

-- some number of a list passes, or none does
some_or_none : (passes : ℕ → Bool) (xs : List ℕ) → ((e : ℕ) × IsIn e xs × (passes e ≡ true)) ⊎ ((e : ℕ) → IsIn e xs → passes e ≡ false)
some_or_none passes [] = inr (λ e there. absurd there)
some_or_none passes (x ∷ xs) = elim (cases_Bool (passes x)) [
  | inl good ↦ inl (x, inl refl, good)
  | inr bad ↦ elim (some_or_none passes xs) [
    | inl found ↦ inl (found.0, inr found.1, found.2)
    | inr none ↦ inr (λ e there. elim there [ inl same ↦ subst (λ n. passes n ≡ false) same bad | inr after ↦ none e after ])
  ]
]

-- the greatest is one of the list, and no number of it is greater
greatest_among : (x : ℕ) (xs : List ℕ) → IsIn (greatest_of (x ∷ xs)) (x ∷ xs)
unfolding greatest_of
greatest_among x xs =
    let first : x ≡ max 0 x = omega arith in
    fold_keeps max_prefers (λ n. IsIn n (x ∷ xs)) (max 0 x) xs (inl first) (each_in (λ n. IsIn n (x ∷ xs)) xs (λ e there. inr there))

none_greater : (e : ℕ) (xs : List ℕ) → IsIn e xs → e ≤ greatest_of xs
unfolding greatest_of
none_greater e xs there = fold_each max_prefers 0 e xs there

-- what is picked is that
pub picked : (passes : ℕ → Bool) (xs : List ℕ) → 0 < length xs → Picked passes xs (least_or_greatest passes xs)
unfolding least_or_greatest least
picked passes [] some = absurd (omega arith)
picked passes (x ∷ xs) some = elim (some_or_none passes (x ∷ xs)) [
  | inl found ↦
      let all = each_in (λ n. IsIn n (x ∷ xs)) (x ∷ xs) (λ e there. there) in
      let one = chosen min_prefers passes (λ n. IsIn n (x ∷ xs)) (x ∷ xs) found.0 all found.1 found.2 in
      let is : least_or_greatest passes (x ∷ xs) ≡ one.0 = ap (λ o. unwrap_or o (greatest_of (x ∷ xs))) one.1 in
      subst (Picked passes (x ∷ xs)) (sym is) (record {
        within = one.2.holds;
        case = inl (
          one.2.passes,
          λ e there good.
              let other = chosen min_prefers passes (λ n. IsIn n (x ∷ xs)) (x ∷ xs) e all there good in
              let is' : least_or_greatest passes (x ∷ xs) ≡ other.0 = ap (λ o. unwrap_or o (greatest_of (x ∷ xs))) other.1 in
              subst (λ n. n ≤ e) (sym is' ∙ is) other.2.preferred,
        );
      })
  | inr none ↦
      let is : least_or_greatest passes (x ∷ xs) ≡ greatest_of (x ∷ xs) =
      ap (λ ys. unwrap_or (reduce min ys) (greatest_of (x ∷ xs))) (filter_none passes (x ∷ xs) (each_in (λ e. passes e ≡ false) (x ∷ xs) none)) in
      subst (Picked passes (x ∷ xs)) (sym is)
      (record { within = greatest_among x xs; case = inr (none, λ e there. none_greater e (x ∷ xs) there) })
]
