-- The first element of a list that passes a test.
use Rattle.std.proofs.Common.{◌≡◌, ℕ, ◌+◌, ◌<◌, Bool, true, false, cond, not, ◌||◌, List, [], ◌∷◌, ◌++◌, length, Some, None, refl, sym, arith}
use Rattle.std.specs.List.{list_any, position, position_or_len, AllByRecursion}
use Rattle.std.proofs.lemmas.Bool.{false≢true, lt-ltb, le-ltb, cond-true, cond-false}

-- where an element passes, the first that does is one of them
pub any_within : {X : Type 0} (p : X → Bool) (xs : List X) → list_any p xs ≡ true → position_or_len p xs < length xs
any_within p [] h = absurd (false≢true h)
any_within p (x ∷ xs) h =
    elim (p x) as (λ b. (b || list_any p xs) ≡ true → cond (not b) (1 + position_or_len p xs) 0 < length (x ∷ xs))
    [ true ↦ λ _. omega arith | false ↦ λ later. omega (arith, any_within p xs later) ] h

-- where none does, the place is behind them
pub none_within : {X : Type 0} (p : X → Bool) (xs : List X) → list_any p xs ≡ false → position_or_len p xs ≡ length xs
none_within p [] h = refl
none_within p (x ∷ xs) h =
    elim (p x) as (λ b. (b || list_any p xs) ≡ false → cond (not b) (1 + position_or_len p xs) 0 ≡ length (x ∷ xs))
    [ true ↦ λ here. absurd (false≢true (sym here)) | false ↦ λ later. omega (arith, none_within p xs later) ] h

pub position-found : {X : Type 0} (p : X → Bool) (xs : List X) → list_any p xs ≡ true → position p xs ≡ Some (position_or_len p xs)
position-found p xs h = cond-true _ _ _ (lt-ltb (position_or_len p xs) (length xs) (any_within p xs h))

pub position-missing : {X : Type 0} (p : X → Bool) (xs : List X) → list_any p xs ≡ false → position p xs ≡ None
position-missing p xs h = cond-false _ _ _ (le-ltb (position_or_len p xs) (length xs) (omega (arith, none_within p xs h)))

-- one element more of which it holds
pub all_more : {X : Type 0} (P : X → Type 0) (xs : List X) (x : X) → AllByRecursion P xs → P x → AllByRecursion P (xs ++ x ∷ [])
all_more P [] x all here = (here, tt)
all_more P (y ∷ xs) x all here = (all.0, all_more P xs x all.1 here)
