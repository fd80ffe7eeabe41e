-- What is said at one more place.
use Rattle.std.proofs.Common.{◌≡◌, ℕ, zero, suc, ◌+◌, ◌<◌, ◌≤◌, List, [], ◌∷◌, ◌++◌, length, get_or, refl, ap, sym, ◌∙◌, arith, add-one, inl, inr}
use Rattle.std.specs.Prelude.{slice_get}
use Rattle.std.specs.Option.{unwrap_or}
use Rattle.std.proofs.lemmas.Bool.{cases_lt}
use Rattle.std.proofs.lemmas.List.{append-nil, append_assoc, length_push, get_or_append_left, get_or_push}
use Rattle.std.proofs.lemmas.Option.{slice_get-get_or, slice_get_past}
use Rattle.dts_clocks.specs.Joined.{joined, listed, total}

pub joined-more : {X : Type 0} (f : ℕ → List X) (n : ℕ) → joined f (n + 1) ≡ joined f n ++ f n
unfolding joined
joined-more f n = rw add-one

pub total-more : (f : ℕ → ℕ) (n : ℕ) → total f (n + 1) ≡ total f n + f n
unfolding total
total-more f n = rw add-one

pub joined-none : {X : Type 0} (f : ℕ → List X) → joined f 0 ≡ []
unfolding joined
joined-none f = refl

pub total-none : (f : ℕ → ℕ) → total f 0 ≡ 0
unfolding total
total-none f = refl

pub length-listed : {X : Type 0} (f : ℕ → X) (n : ℕ) → length (listed f n) ≡ n
unfolding joined
length-listed f zero = refl
length-listed f (suc n) = length_push (listed f n) (f n) ∙ (ap (λ k. k + 1) (length-listed f n) ∙ add-one n)

pub get-listed : {X : Type 0} (f : ℕ → X) (n k : ℕ) (d : X) → k < n → get_or (listed f n) k d ≡ f k
unfolding joined
get-listed f zero k d h = absurd (omega arith)
get-listed f (suc n) k d h = newest f n k d h (get-listed f n k d) where
  newest : {X : Type 0} (f : ℕ → X) (n k : ℕ) (d : X) → k < suc n → (k < n → get_or (listed f n) k d ≡ f k) → get_or (listed f n ++ f n ∷ []) k d ≡ f k
  newest f n k d h before = elim (cases_lt k n) [
    | inl lt ↦ get_or_append_left (listed f n) (f n ∷ []) d k (omega (arith, length-listed f n)) ∙ before lt
    | inr ge ↦ let e : k ≡ n = omega arith in rw e (get_or_push (listed f n) (f n) d n (length-listed f n))
  ]

pub listed_none : {X : Type 0} (f : ℕ → X) (xs : List X) → xs ≡ [] → xs ≡ listed f 0
listed_none f xs none = none ∙ sym (joined-none (λ k. f k ∷ []))

pub listed_push : {X : Type 0} (f : ℕ → X) (xs ys : List X) (n : ℕ) (x : X) → xs ≡ listed f n → x ≡ f n → ys ≡ xs ++ x ∷ [] → ys ≡ listed f (n + 1)
listed_push f xs ys n x so_far here pushed = pushed ∙ (ap (λ zs. zs ++ x ∷ []) so_far ∙ (ap (λ z. listed f n ++ z ∷ []) here ∙ sym (joined-more (λ k. f k ∷ []) n)))

pub listed_within : {X : Type 0} (f : ℕ → X) (xs : List X) (n k : ℕ) → xs ≡ listed f n → k < n → k < length xs
listed_within f xs n k all low = omega (arith, ap length all, length-listed f n)

pub listed_read : {X : Type 0} (f : ℕ → X) (xs : List X) (n k : ℕ) (x : X) → xs ≡ listed f n → k < n → x ≡ get_or xs k x → x ≡ f k
listed_read f xs n k x all low read = read ∙ (ap (λ ys. get_or ys k x) all ∙ get-listed f n k x low)

-- a table that is asked also behind its end, where the function gives the same
pub listed_or : {X : Type 0} (f : ℕ → X) (xs : List X) (n k : ℕ) (d : X) → xs ≡ listed f n → (n ≤ k → f k ≡ d) → unwrap_or (slice_get xs k) d ≡ f k
listed_or f xs n k d all past = rw all (elim (cases_lt k n) [
  | inl low ↦ rw (slice_get-get_or (listed f n) k d (listed_within f (listed f n) n k refl low)) (get-listed f n k d low)
  | inr high ↦ rw (slice_get_past (listed f n) k (omega (arith, length-listed f n))) (sym (past high))
])

pub joined_start : {X : Type 0} (f : ℕ → List X) (xs : List X) → xs ≡ xs ++ joined f 0
joined_start f xs = sym (ap (λ ys. xs ++ ys) (joined-none f) ∙ append-nil xs)

pub joined_push : {X : Type 0} (f : ℕ → List X) (start old new here : List X) (n : ℕ) → old ≡ start ++ joined f n → here ≡ f n → new ≡ old ++ here → new ≡ start ++ joined f (n + 1)
joined_push f start old new here n so_far is pushed =
    pushed ∙ (ap (λ xs. xs ++ here) so_far ∙ (append_assoc start (joined f n) here ∙ ap (λ xs. start ++ xs) (ap (λ ys. joined f n ++ ys) is ∙ sym (joined-more f n))))
