-- Going along a ring.
use Rattle.std.proofs.Common.{◌≡◌, ◌≢◌, ℕ, zero, suc, ◌+◌, ◌<◌, ◌≤◌, true, false, cond, List, [], ◌∷◌, ◌++◌, Option, Some, None, refl, sym, ap, subst, ◌∙◌, arith, drop, length, nat_lt}
use Rattle.std.specs.Prelude.{slice_get, slice_index}
use Rattle.std.specs.Option.{option_map}
use Rattle.std.specs.Result.{MatchResult, result_ok}
use Rattle.std.specs.Prelude.{Result, Ok, Err}
use Rattle.std.proofs.lemmas.Bool.{ltb-true, ltb-false, true_from_ne_false, false_from_ne_true}
use Rattle.clk_base.specs.declared.clock.ClockId.{ClockId}
use Rattle.clk_model.specs.Lists.{is_in}
use Rattle.clk_model.proofs.Members.{is_in_head, is_in_tail}
use Rattle.clk_tree.specs.Rings.{Leads}

-- each of these numbers is below another
abbrev pub AreBelow : ℕ → List ℕ → Type 0
AreBelow n xs = (x : ℕ) → is_in x xs ≡ true → x < n

-- a number is the first of those that are left, which stand behind it; where none is left it is the end
abbrev pub ComesAt : List ℕ → ℕ → ℕ → List ℕ → Type 0
ComesAt after end at [] = at ≡ end
ComesAt after end at (x ∷ xs) = (at ≡ x) × Leads after end x xs

pub below_rest : (n x : ℕ) (xs : List ℕ) → AreBelow n (x ∷ xs) → AreBelow n xs
below_rest n x xs below y m = below y (is_in_tail y x xs m)

-- behind a number comes what it leads to
pub leads_comes : (after : List ℕ) (end a : ℕ) (xs : List ℕ) → Leads after end a xs → ComesAt after end (slice_index after a) xs
leads_comes after end a [] is = is
leads_comes after end a (x ∷ xs) is = is

-- a number that isn't an end is the one at its place, and behind it come the others
pub go_on : (after : List ℕ) (end at n step : ℕ) (xs : List ℕ) → n ≤ end → at < n → ComesAt after end at (drop step xs)
    → (slice_get xs step ≡ Some at) × ComesAt after end (slice_index after at) (drop (suc step) xs)
go_on after end at n zero [] le less is = let at_end : at ≡ end = is in absurd (omega arith)
go_on after end at n zero (x ∷ xs) le less is =
    (ap (λ (y : ℕ). Some y) (sym is.0), subst (λ (y : ℕ). ComesAt after end (slice_index after y) xs) (sym is.0) (leads_comes after end x xs is.1))
go_on after end at n (suc step) [] le less is = let at_end : at ≡ end = is in absurd (omega arith)
go_on after end at n (suc step) (x ∷ xs) le less is = go_on after end at n step xs le less is

-- where an end comes, none is left
pub stops : (after : List ℕ) (end at n step : ℕ) (xs : List ℕ) → AreBelow n xs → n ≤ at → ComesAt after end at (drop step xs) → length xs ≤ step
stops after end at n zero [] below le is = omega arith
stops after end at n zero (x ∷ xs) below le is = let less : x < n = below x (is_in_head x xs) in let same : at ≡ x = is.0 in absurd (omega arith)
stops after end at n (suc step) [] below le is = omega arith
stops after end at n (suc step) (x ∷ xs) below le is = let rest : length xs ≤ step = stops after end at n step xs (below_rest n x xs below) le is in omega arith

-- ---- places in a list

pub get_within : (xs : List ℕ) (k x : ℕ) → slice_get xs k ≡ Some x → k < length xs
get_within [] k x at = absurd cc
get_within (y ∷ xs) zero x at = omega arith
get_within (y ∷ xs) (suc k) x at = let rest : k < length xs = get_within xs k x at in omega arith

pub get_past : (xs : List ℕ) (k : ℕ) → length xs ≤ k → slice_get xs k ≡ None
get_past [] k past = refl
get_past (y ∷ xs) zero past = absurd (omega arith)
get_past (y ∷ xs) (suc k) past = get_past xs k (omega arith)

pub get_drop : (xs : List ℕ) (k : ℕ) → slice_get (drop k xs) 0 ≡ slice_get xs k
get_drop [] zero = refl
get_drop [] (suc k) = refl
get_drop (y ∷ xs) zero = refl
get_drop (y ∷ xs) (suc k) = get_drop xs k

-- what is left of a list is in it
pub in_drop : (x k : ℕ) (xs : List ℕ) → is_in x (drop k xs) ≡ true → is_in x xs ≡ true
in_drop x zero [] m = m
in_drop x (suc k) [] m = m
in_drop x zero (y ∷ xs) m = m
in_drop x (suc k) (y ∷ xs) m = is_in_tail x y xs (in_drop x k xs m)

-- and behind all nothing is left
pub none_left : {X : Type 0} (xs : List X) (k : ℕ) → length xs ≤ k → drop k xs ≡ []
none_left [] zero few = refl
none_left [] (suc k) few = refl
none_left (x ∷ xs) zero few = absurd (omega arith)
none_left (x ∷ xs) (suc k) few = none_left xs k (omega arith)

pub get_first : (xs ys : List ℕ) (k x : ℕ) → slice_get xs k ≡ Some x → slice_get (xs ++ ys) k ≡ Some x
get_first [] ys k x at = absurd cc
get_first (y ∷ xs) ys zero x at = at
get_first (y ∷ xs) ys (suc k) x at = get_first xs ys k x at

pub get_second : (xs ys : List ℕ) (k left : ℕ) → k ≡ length xs + left → slice_get (xs ++ ys) k ≡ slice_get ys left
get_second [] ys k left is = let same : k ≡ left = omega (arith, is) in ap (slice_get ys) same
get_second (x ∷ xs) ys zero left is = absurd (omega arith)
get_second (x ∷ xs) ys (suc k) left is = get_second xs ys k left (omega arith)

-- behind the number at a place comes the rest
pub comes_behind : (after : List ℕ) (end a k x : ℕ) (xs : List ℕ) → Leads after end a xs → slice_get xs k ≡ Some x → ComesAt after end (slice_index after x) (drop (suc k) xs)
comes_behind after end a k x [] is at = absurd cc
comes_behind after end a zero x (y ∷ xs) is at = let same : y ≡ x = cc in subst (λ (z : ℕ). ComesAt after end (slice_index after z) xs) same (leads_comes after end y xs is.1)
comes_behind after end a (suc k) x (y ∷ xs) is at = comes_behind after end y k x xs is.1 at

-- who stands in a ring with an end isn't alone
pub never_alone : (after : List ℕ) (end c : ℕ) (xs : List ℕ) → c ≢ end → ComesAt after end (slice_index after c) xs → slice_index after c ≢ c
never_alone after end c [] two is same = two (sym same ∙ is)
never_alone after end c (x ∷ xs) two is same =
    never_alone after end c xs two (leads_comes after end c xs (subst (λ (y : ℕ). Leads after end y xs) (sym is.0 ∙ same) is.1)) same

-- ---- answers

-- the number that comes, as a clock if it is one, is the first of those that are left
pub clock_first : (after : List ℕ) (end at n : ℕ) (xs : List ℕ) (found : Option ClockId) → AreBelow n xs → n ≤ end → ComesAt after end at xs
    → found ≡ cond (nat_lt at n) (Some (let c : ClockId = record { 0 = at } in c)) None → option_map (λ c. c.0) found ≡ slice_get xs 0
clock_first after end at n [] found below le is e =
    ap (option_map (λ (c : ClockId). c.0)) (e ∙ ap (λ t. cond t (Some (let c : ClockId = record { 0 = at } in c)) None) (beyond is)) where
      beyond : at ≡ end → nat_lt at n ≡ false
      beyond same = false_from_ne_true (nat_lt at n) (λ less. let below_it : at < n = ltb-true at n less in absurd (omega arith))
clock_first after end at n (x ∷ xs) found below le is e =
    ap (option_map (λ (c : ClockId). c.0)) (e ∙ ap (λ t. cond t (Some (let c : ClockId = record { 0 = at } in c)) None) less) ∙ ap (λ (y : ℕ). Some y) is.0 where
      less : nat_lt at n ≡ true
      less = let small : x < n = below x (is_in_head x xs) in let same : at ≡ x = is.0 in true_from_ne_false (nat_lt at n) (λ most. let above : n ≤ at = ltb-false at n most in absurd (omega arith))

-- the clock at a place, or how many are left to go behind all
pub clock_at : (xs : List ℕ) (k : ℕ) (found : Result ClockId ℕ) → MatchResult found (λ c. slice_get xs k ≡ Some c.0) (λ left. k ≡ length xs + left)
    → option_map (λ c. c.0) (result_ok found) ≡ slice_get xs k
clock_at xs k (Ok c) is = sym is
clock_at xs k (Err left) is = sym (get_past xs k (let e : k ≡ length xs + left = is in omega arith))

-- ---- places in lists

pub drop_zero : (xs : List ℕ) → drop 0 xs ≡ xs
drop_zero [] = refl
drop_zero (x ∷ xs) = refl

-- where a number stands in a list, it is the first of what is left there
pub drop_at : (xs : List ℕ) (k x : ℕ) → slice_get xs k ≡ Some x → drop k xs ≡ x ∷ drop (suc k) xs
drop_at [] k x at = absurd cc
drop_at (y ∷ xs) zero x at = let same : y ≡ x = cc in ap (λ (z : ℕ). z ∷ xs) same ∙ ap (λ (ys : List ℕ). x ∷ ys) (sym (drop_zero xs))
drop_at (y ∷ xs) (suc k) x at = drop_at xs k x at

-- where none stands, nothing is left
pub few_at : (xs : List ℕ) (k : ℕ) → slice_get xs k ≡ None → length xs ≤ k
few_at [] k at = omega arith
few_at (y ∷ xs) zero at = absurd cc
few_at (y ∷ xs) (suc k) at = let few : length xs ≤ k = few_at xs k at in omega arith

pub within_at : (xs : List ℕ) (k x : ℕ) → slice_get xs k ≡ Some x → k + 1 ≤ length xs
within_at [] k x at = absurd cc
within_at (y ∷ xs) zero x at = omega arith
within_at (y ∷ xs) (suc k) x at = let less : k + 1 ≤ length xs = within_at xs k x at in omega arith
