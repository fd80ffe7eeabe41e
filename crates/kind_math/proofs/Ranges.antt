-- The chosen one among the numbers of a range, and among their images.
use Rattle.std.proofs.Common.{◌≡◌, ℕ, zero, suc, ◌+◌, ◌-◌, ◌<◌, ◌≤◌, refl, sym, ◌∙◌, ap, subst, arith, inl, inr, List, [], ◌∷◌, map, Bool, true, false, min, max, Option, Some, None, nat_le}
use Rattle.std.specs.Option.{option_map, unwrap_or}
use Rattle.std.specs.List.{filter, reduce, fold, AllByRecursion, range_with_len}
use Rattle.std.proofs.lemmas.Bool.{cases_lt, le-leb, lt-leb, leb-true}
use Rattle.kind_math.specs.Choices.{least, greatest, greatest_of}
use Rattle.kind_math.specs.Dividers.{least_or_greatest}
use Rattle.kind_math.proofs.Chosen.{IsIn, min_prefers, max_prefers, fold_is, fold_keeps, each-filter, filter_none, filter_same, filter-map, reduce_is}

-- what holds from `a` on holds of each number of the range
pub each_in_range : (P : ℕ → Type 0) (a n : ℕ) → ((e : ℕ) → a ≤ e → e < a + n → P e) → AllByRecursion P (range_with_len a n)
each_in_range P a zero holds = tt
each_in_range P a (suc n) holds =
    (holds a (omega arith) (omega arith), each_in_range P (a + 1) n (λ e low high. holds e (omega arith) (omega arith)))

-- each of them is in the range
pub in_range : (d a n : ℕ) → a ≤ d → d < a + n → IsIn d (range_with_len a n)
in_range d a zero low high = absurd (omega arith)
in_range d a (suc n) low high = elim (cases_lt a d) [
  | inl above ↦ inr (in_range d (a + 1) n (omega arith) (omega arith))
  | inr below ↦ inl (omega arith)
]

-- tests that agree on all numbers choose the same
pub same_least : (p q : ℕ → Bool) (xs : List ℕ) → AllByRecursion (λ x. p x ≡ q x) xs → least_or_greatest p xs ≡ least_or_greatest q xs
unfolding least_or_greatest least
same_least p q xs each = ap (λ ys. unwrap_or (reduce min ys) (greatest_of xs)) (filter_same p q xs each)

pub same_greatest : (p q : ℕ → Bool) (xs : List ℕ) → AllByRecursion (λ x. p x ≡ q x) xs → greatest p xs ≡ greatest q xs
unfolding greatest
same_greatest p q xs each = ap (reduce max) (filter_same p q xs each)

-- the greatest of a range is its last
pub greatest_of_range : (a n : ℕ) → 0 < n → greatest_of (range_with_len a n) ≡ a + n - 1
unfolding greatest_of
greatest_of_range a n some =
    fold_is max_prefers 0 (a + n - 1) (range_with_len a n) (omega arith)
    (each_in_range (λ e. e ≤ a + n - 1) a n (λ e low high. omega arith))
    (inr (in_range (a + n - 1) a n (omega arith) (omega arith)))

-- the least of a range that is at least `wanted`, or else its last
pub least_from : (wanted a n : ℕ) → 0 < n → least_or_greatest (λ e. nat_le wanted e) (range_with_len a n) ≡ min (max wanted a) (a + n - 1)
unfolding least_or_greatest least
least_from wanted a n some = elim (cases_lt wanted (a + n)) [
  | inl reached ↦
      let place : max wanted a ≡ min (max wanted a) (a + n - 1) = omega arith in
      ap (λ o. unwrap_or o (greatest_of (range_with_len a n)))
      (reduce_is min_prefers (λ e. nat_le wanted e) (range_with_len a n) (max wanted a)
      (in_range (max wanted a) a n (omega arith) (omega arith))
      (le-leb wanted (max wanted a) (omega arith))
      (each_in_range (λ e. nat_le wanted e ≡ true → max wanted a ≤ e) a n
      (λ e low high passes. let above = leb-true wanted e passes in omega (arith, above))))
      ∙ place
  | inr missed ↦
      let place : a + n - 1 ≡ min (max wanted a) (a + n - 1) = omega arith in
      ap (λ ys. unwrap_or (reduce min ys) (greatest_of (range_with_len a n)))
      (filter_none (λ e. nat_le wanted e) (range_with_len a n)
      (each_in_range (λ e. nat_le wanted e ≡ false) a n (λ e low high. lt-leb wanted e (omega arith))))
      ∙ greatest_of_range a n some ∙ place
]

-- the greatest of a range that is at most `limit`, or else its first
pub greatest_up_to : (limit a n : ℕ) → 0 < n → unwrap_or (greatest (λ e. nat_le e limit) (range_with_len a n)) a ≡ max a (min limit (a + n - 1))
unfolding greatest
greatest_up_to limit a n some = elim (cases_lt limit a) [
  | inl missed ↦
      let place : a ≡ max a (min limit (a + n - 1)) = omega arith in
      ap (λ ys. unwrap_or (reduce max ys) a)
      (filter_none (λ e. nat_le e limit) (range_with_len a n)
      (each_in_range (λ e. nat_le e limit ≡ false) a n (λ e low high. lt-leb e limit (omega arith))))
      ∙ place
  | inr reached ↦
      let place : min limit (a + n - 1) ≡ max a (min limit (a + n - 1)) = omega arith in
      ap (λ o. unwrap_or o a)
      (reduce_is max_prefers (λ e. nat_le e limit) (range_with_len a n) (min limit (a + n - 1))
      (in_range (min limit (a + n - 1)) a n (omega arith) (omega arith))
      (le-leb (min limit (a + n - 1)) limit (omega arith))
      (each_in_range (λ e. nat_le e limit ≡ true → e ≤ min limit (a + n - 1)) a n
      (λ e low high passes. let below = leb-true e limit passes in omega (arith, below))))
      ∙ place
]

-- what holds of each holds of the chosen one
pub chosen_keeps : (Q : ℕ → Type 0) (p : ℕ → Bool) (x : ℕ) (xs : List ℕ) → AllByRecursion Q (x ∷ xs) → Q (least_or_greatest p (x ∷ xs))
unfolding least_or_greatest least greatest_of
chosen_keeps Q p x xs each = from (filter p (x ∷ xs)) (each-filter p Q (x ∷ xs) (given (x ∷ xs) each))
  where
    given : (ys : List ℕ) → AllByRecursion Q ys → AllByRecursion (λ y. p y ≡ true → Q y) ys
    given [] each' = tt
    given (y ∷ ys) each' = ((λ _. each'.0), given ys each'.1)

    from : (ys : List ℕ) → AllByRecursion Q ys → Q (unwrap_or (reduce min ys) (fold max (max 0 x) xs))
    from [] each' = let first : x ≡ max 0 x = omega arith in fold_keeps max_prefers Q (max 0 x) xs (subst Q first each.0) each.1
    from (y ∷ ys) each' = fold_keeps min_prefers Q y ys each'.0 each'.1

-- ---- images under a function that keeps order

-- the function keeps the least and the greatest of two
pub record KeepsOrder (f : ℕ → ℕ) : Type 0 where
  pub least_of_two : (a b : ℕ) → f (min a b) ≡ min (f a) (f b)
  pub greatest_of_two : (a b : ℕ) → f (max a b) ≡ max (f a) (f b)

fold-map : (pick : ℕ → ℕ → ℕ) (f : ℕ → ℕ) → ((a b : ℕ) → f (pick a b) ≡ pick (f a) (f b)) → (a : ℕ) (xs : List ℕ) → fold pick (f a) (map f xs) ≡ f (fold pick a xs)
fold-map pick f keeps a [] = refl
fold-map pick f keeps a (x ∷ xs) = ap (λ n. fold pick n (map f xs)) (sym (keeps a x)) ∙ fold-map pick f keeps (pick a x) xs

reduce-map : (pick : ℕ → ℕ → ℕ) (f : ℕ → ℕ) → ((a b : ℕ) → f (pick a b) ≡ pick (f a) (f b)) → (xs : List ℕ) → reduce pick (map f xs) ≡ option_map f (reduce pick xs)
reduce-map pick f keeps [] = refl
reduce-map pick f keeps (x ∷ xs) = ap Some (fold-map pick f keeps x xs)

greatest_of-map : (f : ℕ → ℕ) → KeepsOrder f → (x : ℕ) (xs : List ℕ) → greatest_of (map f (x ∷ xs)) ≡ f (greatest_of (x ∷ xs))
unfolding greatest_of
greatest_of-map f law x xs =
    let first : max 0 (f x) ≡ f x = omega arith in
    let first' : x ≡ max 0 x = omega arith in
    ap (λ n. fold max n (map f xs)) first ∙ fold-map max f law.greatest_of_two x xs ∙ ap (λ n. f (fold max n xs)) first'

image_or : (f : ℕ → ℕ) (o : Option ℕ) (d : ℕ) → unwrap_or (option_map f o) (f d) ≡ f (unwrap_or o d)
image_or f None d = refl
image_or f (Some x) d = refl

-- the chosen image is the image of the chosen one
pub least_or_greatest-map : (p : ℕ → Bool) (f : ℕ → ℕ) → KeepsOrder f → (x : ℕ) (xs : List ℕ) → least_or_greatest p (map f (x ∷ xs)) ≡ f (least_or_greatest (λ y. p (f y)) (x ∷ xs))
unfolding least_or_greatest least
least_or_greatest-map p f law x xs =
    ap (λ ys. unwrap_or (reduce min ys) (greatest_of (map f (x ∷ xs)))) (filter-map p f (x ∷ xs))
    ∙ ap (λ o. unwrap_or o (greatest_of (map f (x ∷ xs)))) (reduce-map min f law.least_of_two (filter (λ y. p (f y)) (x ∷ xs)))
    ∙ ap (λ d. unwrap_or (option_map f (reduce min (filter (λ y. p (f y)) (x ∷ xs)))) d) (greatest_of-map f law x xs)
    ∙ image_or f (reduce min (filter (λ y. p (f y)) (x ∷ xs))) (greatest_of (x ∷ xs))
