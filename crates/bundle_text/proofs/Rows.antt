-- What is said at places in a row, and tests over them.
use Rattle.std.proofs.Common.{◌≡◌, ◌⊎◌, ℕ, zero, suc, ◌+◌, ◌≤◌, List, [], length, ◌∷◌, ◌++◌, Option, Some, None, refl, ap, sym, ◌∙◌, inl, inr, arith, below_more}
use Rattle.std.specs.Option.{option_to_list}
use Rattle.std.proofs.lemmas.Bool.{cases_lt}
use Rattle.std.proofs.lemmas.Option.{none-some, same_Some}
use Rattle.bundle_text.specs.Firsts.{First, KeepsBelow, onto, said_from}

onto-append : {X : Type 0} (o : Option X) (xs ys : List X) → onto o (xs ++ ys) ≡ onto o xs ++ ys
onto-append None xs ys = refl
onto-append (Some x) xs ys = refl

onto-nil : {X : Type 0} (o : Option X) → onto o [] ≡ option_to_list o
onto-nil None = refl
onto-nil (Some x) = refl

length-onto : {X : Type 0} (o : Option X) (xs : List X) → length (onto o xs) ≤ length xs + 1
length-onto None xs = omega arith
length-onto (Some x) xs = omega arith

-- no more is said than there are places
pub length-said_from : {X : Type 0} (said : ℕ → Option X) (from count : ℕ) → length (said_from said from count) ≤ count
length-said_from said from zero = omega arith
length-said_from said from (suc count) = omega (arith, length-onto (said from) (said_from said (from + 1) count), length-said_from said (from + 1) count)

-- what is said at one place more
pub said_from-next : {X : Type 0} (said : ℕ → Option X) (from count place : ℕ) → from + count ≡ place → said_from said from (count + 1) ≡ said_from said from count ++ option_to_list (said place)
said_from-next said from zero place there =
    let same : from ≡ place = omega arith in
    onto-nil (said from) ∙ ap (λ k. option_to_list (said k)) same
said_from-next said from (suc count) place there =
    let later : from + 1 + count ≡ place = omega arith in
    let next : suc count + 1 ≡ suc (count + 1) = omega arith in
    ap (said_from said from) next
    ∙ (ap (onto (said from)) (said_from-next said (from + 1) count place later) ∙ onto-append (said from) (said_from said (from + 1) count) (option_to_list (said place)))

-- one place more, at which something is said
pub said_from-more : {X : Type 0} (said : ℕ → Option X) (from count : ℕ) (x : X) → said (from + count) ≡ Some x → said_from said from (count + 1) ≡ said_from said from count ++ x ∷ []
said_from-more said from count x e = said_from-next said from count (from + count) refl ∙ ap (λ o. said_from said from count ++ option_to_list o) e

-- one place more, at which the test finds no fault
pub KeepsBelow-more : {R : Type 0} (test : ℕ → Option R) (n : ℕ) → KeepsBelow test n → test n ≡ None → KeepsBelow test (n + 1)
KeepsBelow-more test n kept here = below_more (λ k. test k ≡ None) n kept here

-- a test that finds no fault has no first one
pub First-kept : {R : Type 0} (test : ℕ → Option R) (n place : ℕ) (fault : R) → KeepsBelow test n → First test n place fault → ⊥
First-kept test n place fault kept first = none-some fault (sym (kept place first.within) ∙ first.found)

-- there is one first place with a fault, and one fault
pub First-unique : {R : Type 0} (test : ℕ → Option R) (n a b : ℕ) (r s : R) → First test n a r → First test n b s → (a ≡ b) × (r ≡ s)
First-unique test n a b r s first other =
    elim (cases_lt a b) [
      | inl below ↦ absurd (none-some r (sym (other.before a below) ∙ first.found))
      | inr above ↦ elim (cases_lt b a) [
        | inl below ↦ absurd (none-some s (sym (first.before b below) ∙ other.found))
        | inr least ↦ (let same : a ≡ b = omega arith in (same, same_Some r s (sym first.found ∙ (ap test same ∙ other.found))))
      ]
    ]

-- below n the test finds no fault, or a first one
pub kept_or_first : {R : Type 0} (test : ℕ → Option R) (n : ℕ) → KeepsBelow test n ⊎ ((place : ℕ) × (fault : R) × First test n place fault)
kept_or_first test zero = inl (λ k lt. absurd (omega arith))
kept_or_first {R} test (suc n) =
    elim (kept_or_first test n) [
      | inl kept ↦
          elim (test n) as (λ o. test n ≡ o → KeepsBelow test (suc n) ⊎ ((place : ℕ) × (fault : R) × First test (suc n) place fault)) [
            | None ↦ λ e. inl (λ k lt. elim (cases_lt k n) [ inl below ↦ kept k below | inr here ↦ (let same : k ≡ n = omega arith in ap test same ∙ e) ])
            | Some fault ↦ λ e. inr (n, fault, record { within = omega arith; before = kept; found = e })
          ] refl
      | inr first ↦ inr (first.0, first.1, record { within = omega (arith, first.2.within); before = first.2.before; found = first.2.found })
    ]
