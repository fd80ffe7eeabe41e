-- Laws on lists of locks.
use Rattle.std.proofs.Common.{◌≡◌, ℕ, zero, suc, ◌+◌, ◌<◌, ◌≤◌, List, [], ◌∷◌, Option, Some, None, Bool, true, false, refl, sym, ap, subst, ◌∙◌, arith, nat_lt, nat_eq, map}
use Rattle.std.proofs.lemmas.Bool.Decides.{nat_tests}
use Rattle.std.specs.Prelude.{drop, slice_index_or}
use Rattle.std.specs.Option.{option_map}
use Rattle.reg_bank.specs.Locks.{most_plls, started, polled}
use Rattle.reg_bank.specs.declared.pll_lock.PllLock.{PllLock}
use Rattle.clk_model.specs.Lists.{count_from}
use Rattle.clk_model.proofs.Members.{same_from_test, test_other}
use Rattle.core_parts.specs.declared.behind.Behind.{Behind}
use Rattle.core_parts.specs.Window.{lock_count, locks_of, lock_in, delays_in, behind_of}

at_count : (f : ℕ → Option PllLock) (k n p : ℕ) → p < n → slice_index_or (map f (count_from k n)) p None ≡ f (k + p)
at_count f k zero p lt = absurd (omega arith)
at_count f k (suc n) zero lt = let same : k ≡ k + 0 = omega arith in ap f same
at_count f k (suc n) (suc p) lt = let same : suc k + p ≡ k + suc p = omega arith in at_count f (suc k) n p (omega arith) ∙ ap f same

at_beyond : (f : ℕ → Option PllLock) (k n p : ℕ) → n ≤ p → slice_index_or (map f (count_from k n)) p None ≡ None
at_beyond f k zero p le = refl
at_beyond f k (suc n) zero le = absurd (omega arith)
at_beyond f k (suc n) (suc p) le = at_beyond f (suc k) n p (omega arith)

-- there are as many locks as there may be PLLs
pub counted_locks : lock_count ≡ most_plls
unfolding lock_count
counted_locks = refl

-- the lock of a PLL stands at its place
pub lock_of : (lock : ℕ → Option PllLock) (p : ℕ) → p < most_plls → lock_in (locks_of lock) p ≡ lock p
lock_of lock p within =
    let few : p < lock_count = let n = counted_locks in omega arith in
    let same : 0 + p ≡ p = omega arith in
    at_count lock 0 lock_count p few ∙ ap lock same

pub others_same : (old new : ℕ → Option PllLock) (y : ℕ) → ((p : ℕ) → (p ≡ y → ⊥) → new p ≡ old p) → (p : ℕ) → (p ≡ y → ⊥) → lock_in (locks_of new) p ≡ lock_in (locks_of old) p
others_same old new y same p other = elim (nat_lt p lock_count) as (λ b. nat_lt p lock_count ≡ b → lock_in (locks_of new) p ≡ lock_in (locks_of old) p) [
  | true ↦ λ e.
      let few : p < lock_count = grind (arith, nat_tests) in
      let at : 0 + p ≡ p = omega arith in
      at_count new 0 lock_count p few ∙ ap new at ∙ same p other ∙ sym (at_count old 0 lock_count p few ∙ ap old at)
  | false ↦ λ e. let far : lock_count ≤ p = grind (arith, nat_tests) in at_beyond new 0 lock_count p far ∙ sym (at_beyond old 0 lock_count p far)
] refl

pub lock_changed : (old new : ℕ → Option PllLock) (y : ℕ) (f : PllLock → PllLock) → y < most_plls → new y ≡ option_map f (old y)
    → lock_in (locks_of new) y ≡ option_map f (lock_in (locks_of old) y)
lock_changed old new y f within h = lock_of new y within ∙ h ∙ ap (option_map f) (sym (lock_of old y within))

-- ---- delays

-- the delay of a lock that may not be told
abbrev pub delay_of : Option PllLock → Option ℕ
delay_of lock = option_map (λ l. l.delay) lock

delays_along : (old new : ℕ → Option PllLock) (ps : List ℕ) → ((p : ℕ) → delay_of (new p) ≡ delay_of (old p)) → delays_in (map new ps) ≡ delays_in (map old ps)
delays_along old new [] same = refl
delays_along old new (p ∷ ps) same =
    ap (λ (d : Option ℕ). d ∷ delays_in (map new ps)) (same p) ∙ ap (λ (ds : List (Option ℕ)). delay_of (old p) ∷ ds) (delays_along old new ps same)

-- what lies behind the words stays where the words there and the delays do
pub behind_stays : (n : ℕ) (contents contents' : Option (List ℕ)) (old new : ℕ → Option PllLock) → option_map (drop n) contents' ≡ option_map (drop n) contents
    → ((p : ℕ) → delay_of (new p) ≡ delay_of (old p)) → behind_of n contents' new ≡ behind_of n contents old
behind_stays n contents contents' old new words same =
    ap (λ (ws : Option (List ℕ)). let b : Behind = record { words = ws; delays = delays_in (locks_of new) } in b) words
    ∙ ap (λ (ds : List (Option ℕ)). let b : Behind = record { words = option_map (drop n) contents; delays = ds } in b) (delays_along old new (count_from 0 lock_count) same)

-- a start and a poll leave the delay
pub start_leaves : (lock : Option PllLock) → delay_of (option_map started lock) ≡ delay_of lock
start_leaves None = refl
start_leaves (Some lock) = refl

pub poll_leaves : (lock : Option PllLock) → delay_of (option_map polled lock) ≡ delay_of lock
poll_leaves None = refl
poll_leaves (Some lock) = refl

-- so every delay stays where one lock alone has changed, and its delay stays
pub delays_stay : (old new : ℕ → Option PllLock) (y : ℕ) → delay_of (new y) ≡ delay_of (old y) → ((p : ℕ) → (p ≡ y → ⊥) → new p ≡ old p) → (p : ℕ) → delay_of (new p) ≡ delay_of (old p)
delays_stay old new y here others p = by (nat_eq p y) refl where
  by : (t : Bool) → nat_eq p y ≡ t → delay_of (new p) ≡ delay_of (old p)
  by true e = subst (λ (q : ℕ). delay_of (new q) ≡ delay_of (old q)) (sym (same_from_test p y e)) here
  by false e = ap delay_of (others p (λ same. test_other p y e same))

-- the delay of a lock stands at its place
pub delay_in : (locks : List (Option PllLock)) (p : ℕ) → slice_index_or (delays_in locks) p None ≡ delay_of (lock_in locks p)
delay_in [] p = refl
delay_in (lock ∷ locks) zero = refl
delay_in (lock ∷ locks) (suc p) = delay_in locks p
