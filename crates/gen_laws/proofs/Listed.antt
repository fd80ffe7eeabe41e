-- Lists of the numbers from 1 to one, one behind the other.
use Rattle.std.proofs.Common.{◌≡◌, ℕ, zero, suc, ◌+◌, ◌-◌, ◌<◌, ◌≤◌, Bool, true, false, List, [], ◌∷◌, length, map, get_or, refl, sym, ap, subst, ◌∙◌, inl, inr, arith}
use Rattle.std.specs.List.{list_all, list_any, AllByRecursion}
use Rattle.std.proofs.lemmas.Bool.{cases_lt, and_from, or_from}
use Rattle.std.proofs.lemmas.List.{length-append, get_or_append_left, get_or-append_right}
use Rattle.std.proofs.lemmas.List.Folds.{list_all-append, list_any-append}
use Rattle.drv_scripts.proofs.ListPlaced.{all_append}
use Rattle.gen_laws.specs.Clocks.{up_to}

-- where the list of each number begins: behind those before it
pub record Begins {X : Type 0} (list : ℕ → List X) (at : ℕ → ℕ) : Type 0 where
  pub first : at 0 ≡ 0
  pub next : (k : ℕ) → at (suc k) ≡ at k + length (list (suc k))

pub length-up_to : {X : Type 0} (list : ℕ → List X) (at : ℕ → ℕ) → Begins list at → (n : ℕ) → length (up_to list n) ≡ at n
length-up_to list at b zero = sym b.first
length-up_to list at b (suc n) =
    length-append (up_to list n) (list (suc n)) ∙ (ap (λ m. m + length (list (suc n))) (length-up_to list at b n) ∙ sym (b.next n))

rises : {X : Type 0} (list : ℕ → List X) (at : ℕ → ℕ) → Begins list at → (i n : ℕ) → i < n → at (suc i) ≤ at n
rises list at b i zero low = absurd (omega arith)
rises list at b i (suc n) low =
    elim (cases_lt i n) [
      | inl before ↦ omega (arith, rises list at b i n before, b.next n)
      | inr behind ↦ let same : suc i ≡ suc n = omega arith in subst (λ m. at (suc i) ≤ at m) same (omega arith)
    ]

-- an element stands as far behind the beginning of its list as in it
pub up_to-at : {X : Type 0} (list : ℕ → List X) (at : ℕ → ℕ) → Begins list at → (n i j : ℕ) (d : X) → i < n → j < length (list (suc i))
    → get_or (up_to list n) (at i + j) d ≡ get_or (list (suc i)) j d
up_to-at list at b zero i j d low within = absurd (omega arith)
up_to-at list at b (suc n) i j d low within =
    elim (cases_lt i n) [
      | inl before ↦
          let length_is = length-up_to list at b n in
          let there : at i + j < length (up_to list n) = omega (arith, rises list at b i n before, b.next i, length_is) in
          get_or_append_left (up_to list n) (list (suc n)) d (at i + j) there ∙ up_to-at list at b n i j d before within
      | inr behind ↦
          let same : i ≡ n = omega arith in
          let here : at i ≡ at n = ap at same in
          let left : at i + j - at n ≡ j = omega arith in
          get_or-append_right (up_to list n) (list (suc n)) (at n) (at i + j) d (length-up_to list at b n) (omega arith)
          ∙ (ap (λ m. get_or (list (suc n)) m d) left ∙ ap (λ m. get_or (list (suc m)) j d) (sym same))
    ]

-- each element passes, or none does
pub all-up_to : {X : Type 0} (p : X → Bool) (list : ℕ → List X) (n : ℕ) → ((k : ℕ) → k < n → list_all p (list (suc k)) ≡ true) → list_all p (up_to list n) ≡ true
all-up_to p list zero h = refl
all-up_to p list (suc n) h =
    list_all-append p (up_to list n) (list (suc n)) ∙ and_from _ _ (all-up_to p list n (λ k low. h k (omega arith))) (h n (omega arith))

pub any-up_to : {X : Type 0} (p : X → Bool) (list : ℕ → List X) (n : ℕ) → ((k : ℕ) → k < n → list_any p (list (suc k)) ≡ false) → list_any p (up_to list n) ≡ false
any-up_to p list zero h = refl
any-up_to p list (suc n) h =
    list_any-append p (up_to list n) (list (suc n)) ∙ or_from _ _ (any-up_to p list n (λ k low. h k (omega arith))) (h n (omega arith))

pub each-up_to : {X : Type 0} (P : X → Type 0) (list : ℕ → List X) (n : ℕ) → ((k : ℕ) → k < n → AllByRecursion P (list (suc k))) → AllByRecursion P (up_to list n)
each-up_to P list zero h = tt
each-up_to P list (suc n) h = all_append P (up_to list n) (list (suc n)) (each-up_to P list n (λ k low. h k (omega arith))) (h n (omega arith))

pub each-map : {X Y : Type 0} (P : Y → Type 0) (f : X → Y) (xs : List X) → AllByRecursion (λ x. P (f x)) xs → AllByRecursion P (map f xs)
each-map P f [] h = tt
each-map P f (x ∷ xs) h = (h.0, each-map P f xs h.1)

pub each-weaker : {X : Type 0} (P Q : X → Type 0) (xs : List X) → ((x : X) → P x → Q x) → AllByRecursion P xs → AllByRecursion Q xs
each-weaker P Q [] step h = tt
each-weaker P Q (x ∷ xs) step h = (step x h.0, each-weaker P Q xs step h.1)
