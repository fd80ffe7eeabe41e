-- Laws on counting: a list that has each number once, against all numbers below a bound.
use Rattle.std.proofs.Common.{◌≡◌, ℕ, zero, suc, ◌+◌, ◌<◌, ◌≤◌, ◌&&◌, ◌||◌, Bool, true, false, cond, List, [], ◌∷◌, refl, sym, ap, ◌∙◌, arith, nat_eq}
use Rattle.std.specs.Prelude.{count_by, filter}
use Rattle.std.proofs.lemmas.Bool.Decides.{nat_tests}
use Rattle.std.proofs.lemmas.List.Sums.{sum_by-cons}
use Rattle.clk_model.specs.Lists.{is_in, none_twice, count_from}
use Rattle.clk_model.proofs.Members.{same_from_test, test_other}
use Rattle.clk_model.proofs.CountLaws.{count_by-none}
use Rattle.clk_model.proofs.OnceLaws.{once_head}

-- one for a test that passes
abbrev pub tally : Bool → ℕ
tally t = cond t 1 0

-- a number more
pub count_step : (p : ℕ → Bool) (x : ℕ) (xs : List ℕ) → count_by p (x ∷ xs) ≡ tally (p x) + count_by p xs
count_step p x xs = sum_by-cons (λ y. tally (p y)) x xs

-- what of a filtered list passes, passes both tests
pub count_by-filter : (p q : ℕ → Bool) (xs : List ℕ) → count_by p (filter q xs) ≡ count_by (λ x. q x && p x) xs
count_by-filter p q [] = refl
count_by-filter p q (x ∷ xs) =
    elim (q x) as (λ t. count_by p (cond t (x ∷ filter q xs) (filter q xs)) ≡ tally (t && p x) + count_by (λ y. q y && p y) xs) [
      | true ↦ count_step p x (filter q xs) ∙ ap (λ (n : ℕ). tally (p x) + n) (count_by-filter p q xs)
      | false ↦ let rest = count_by-filter p q xs in omega arith
    ] ∙ sym (count_step (λ y. q y && p y) x xs)

-- where each number that passes is of one kind or of another, both kinds are counted
count_by-both : (p q r : ℕ → Bool) (xs : List ℕ) → ((x : ℕ) → tally (p x) ≡ tally (q x) + tally (r x)) → count_by p xs ≡ count_by q xs + count_by r xs
count_by-both p q r [] parts = refl
count_by-both p q r (x ∷ xs) parts =
    let rest = count_by-both p q r xs parts in
    let here = parts x in
    let a = count_step p x xs in
    let b = count_step q x xs in
    let c = count_step r x xs in
    omega arith

-- one number isn't among those behind it
none_behind : (t : ℕ → Bool) (x k n : ℕ) → x < k → count_by (λ d. nat_eq x d && t d) (count_from k n) ≡ 0
none_behind t x k zero less = refl
none_behind t x k (suc n) less =
    let head : tally (nat_eq x k && t k) ≡ 0 = ap (λ (b : Bool). tally (b && t k)) (before x k less) in
    let rest = none_behind t x (suc k) n (omega arith) in
    let whole = count_step (λ d. nat_eq x d && t d) k (count_from (suc k) n) in
    omega arith where
      before : (a b : ℕ) → a < b → nat_eq a b ≡ false
      before a b less_ = grind (arith, nat_tests)

-- and once among those around it
once_among : (t : ℕ → Bool) (x k n : ℕ) → k ≤ x → x < k + n → t x ≡ true → count_by (λ d. nat_eq x d && t d) (count_from k n) ≡ 1
once_among t x k zero from below pass = absurd (omega arith)
once_among t x k (suc n) from below pass =
    elim (nat_eq x k) as (λ b. nat_eq x k ≡ b → count_by (λ d. nat_eq x d && t d) (k ∷ count_from (suc k) n) ≡ 1) [
      | true ↦ λ e.
          let same = same_from_test x k e in
          let head : tally (nat_eq x k && t k) ≡ 1 = ap (λ (b : Bool). tally (b && t k)) e ∙ ap (λ (y : ℕ). tally (t y)) (sym same) ∙ ap tally pass in
          let rest = none_behind t x (suc k) n (omega arith) in
          let whole = count_step (λ d. nat_eq x d && t d) k (count_from (suc k) n) in
          omega arith
      | false ↦ λ e.
          let other = test_other x k e in
          let head : tally (nat_eq x k && t k) ≡ 0 = ap (λ (b : Bool). tally (b && t k)) e in
          let rest = once_among t x (suc k) n (further x k from other) (omega arith) pass in
          let whole = count_step (λ d. nat_eq x d && t d) k (count_from (suc k) n) in
          omega arith
    ] refl where
      further : (a b : ℕ) → b ≤ a → (a ≡ b → ⊥) → suc b ≤ a
      further a b le ne = grind arith

one_of : (t : ℕ → Bool) (x n : ℕ) → (t x ≡ true → x < n) → count_by (λ d. nat_eq x d && t d) (count_from 0 n) ≡ tally (t x)
one_of t x n within =
    elim (t x) as (λ b. t x ≡ b → count_by (λ d. nat_eq x d && t d) (count_from 0 n) ≡ tally b) [
      | true ↦ λ e. let less = within e in once_among t x 0 n (omega arith) (omega arith) e
      | false ↦ λ e. count_by-none (λ d. nat_eq x d && t d) (count_from 0 n) (λ d. silent d e)
    ] refl where
      silent : (d : ℕ) → t x ≡ false → (nat_eq x d && t d) ≡ false
      silent d e =
          elim (nat_eq x d) as (λ b. nat_eq x d ≡ b → (b && t d) ≡ false) [
            | true ↦ λ same. ap t (sym (same_from_test x d same)) ∙ e
            | false ↦ λ other. refl
          ] refl

-- what of a list passes is what of all numbers below a bound is in the list and passes
pub count_by-listed : (t : ℕ → Bool) (n : ℕ) (xs : List ℕ) → none_twice xs ≡ true → ((x : ℕ) → t x ≡ true → x < n) → count_by t xs ≡ count_by (λ d. is_in d xs && t d) (count_from 0 n)
count_by-listed t n [] once within = sym (count_by-none (λ d. is_in d [] && t d) (count_from 0 n) (λ d. refl))
count_by-listed t n (x ∷ xs) once within =
    let apart = once_head x xs once in
    let rest = count_by-listed t n xs apart.1 within in
    let mine = one_of t x n (within x) in
    let whole = count_step t x xs in
    let split = count_by-both (λ d. is_in d (x ∷ xs) && t d) (λ d. nat_eq x d && t d) (λ d. is_in d xs && t d) (count_from 0 n) (parts apart.0) in
    omega arith where
      parts : is_in x xs ≡ false → (d : ℕ) → tally ((nat_eq x d || is_in d xs) && t d) ≡ tally (nat_eq x d && t d) + tally (is_in d xs && t d)
      parts gone d =
          elim (nat_eq x d) as (λ b. nat_eq x d ≡ b → tally ((b || is_in d xs) && t d) ≡ tally (b && t d) + tally (is_in d xs && t d)) [
            | true ↦ λ e.
                let none : is_in d xs ≡ false = ap (λ (y : ℕ). is_in y xs) (sym (same_from_test x d e)) ∙ gone in
                let nothing : tally (is_in d xs && t d) ≡ 0 = ap (λ (b : Bool). tally (b && t d)) none in
                omega arith
            | false ↦ λ e. omega arith
          ] refl
