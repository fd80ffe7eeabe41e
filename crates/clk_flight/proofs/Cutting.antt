-- What a timeout leaves of a script begins at a place of it.
use Rattle.std.proofs.Common.{◌≡◌, ℕ, zero, suc, ◌+◌, ◌<◌, ◌≤◌, Bool, true, false, not, cond, List, [], ◌∷◌, Some, None, refl, sym, ap, ◌∙◌, ◌-◌, ◌&&◌, ◌++◌, Option, arith, length, take, drop, nat_lt}
use Rattle.std.specs.Prelude.{position, slice_index_or, is_some, option_map}
use Rattle.std.specs.List.{position_or_len}
use Rattle.std.proofs.lemmas.Bool.Decides.{nat_tests}
use Rattle.clk_base.specs.declared.call.Micro.{Micro}
use Rattle.clk_model.specs.Step.{next_visit, visit_clock, from_first, behind_first, behind_lets, first_alone, lets_go, is_visit, missed_by, cut_short}
use Rattle.clk_base.specs.declared.call.Micro.TheVariants as micro
use Rattle.clk_base.specs.declared.call.Sleeping.{Sleeping}
use Rattle.clk_base.specs.declared.call.Sleeping.TheVariants as call
use Rattle.clk_base.specs.declared.clock.ClockId.{ClockId}
use Rattle.clk_base.specs.declared.handle.Handle.{Handle}
use Rattle.clk_flight.specs.Parts.{keeps_visit, missed_of, visit_alone}

pub drop_all : (xs : List Micro) → drop (length xs) xs ≡ []
drop_all [] = refl
drop_all (x ∷ xs) = drop_all xs

within : (test : Micro → Bool) (xs : List Micro) → position_or_len test xs ≤ length xs
within test [] = omega arith
within test (x ∷ xs) = one (test x) (within test xs) where
  one : (t : Bool) → position_or_len test xs ≤ length xs → cond (not t) (1 + position_or_len test xs) 0 ≤ suc (length xs)
  one true le = omega arith
  one false le = omega arith

from_place : (test : Micro → Bool) (xs : List Micro) → drop (position_or_len test xs) xs ≡ from_first test xs
from_place test [] = refl
from_place test (x ∷ xs) = one (test x) (from_place test xs) where
  one : (t : Bool) → drop (position_or_len test xs) xs ≡ from_first test xs
      → drop (cond (not t) (1 + position_or_len test xs) 0) (x ∷ xs) ≡ cond t (x ∷ xs) (from_first test xs)
  one true rest = refl
  one false rest = let e : 1 + position_or_len test xs ≡ suc (position_or_len test xs) = omega arith in ap (λ (n : ℕ). drop n (x ∷ xs)) e ∙ rest

behind_place : (test : Micro → Bool) (xs : List Micro) → drop (suc (position_or_len test xs)) xs ≡ behind_first test xs
behind_place test [] = refl
behind_place test (x ∷ xs) = one (test x) (behind_place test xs) where
  one : (t : Bool) → drop (suc (position_or_len test xs)) xs ≡ behind_first test xs
      → drop (suc (cond (not t) (1 + position_or_len test xs) 0)) (x ∷ xs) ≡ cond t xs (behind_first test xs)
  one true rest = refl
  one false rest = let e : 1 + position_or_len test xs ≡ suc (position_or_len test xs) = omega arith in ap (λ (n : ℕ). drop n xs) e ∙ rest

-- a place that was found is the first one, and where none was found all are passed
at_some : (k n p : ℕ) → Some p ≡ cond (nat_lt k n) (Some k) None → p ≡ k
at_some k n p e = one (nat_lt k n) e where
  one : (t : Bool) → Some p ≡ cond t (Some k) None → p ≡ k
  one true e = cc
  one false e = cc

at_none : (k n : ℕ) → k ≤ n → None ≡ cond (nat_lt k n) (Some k) None → k ≡ n
at_none k n le e = one (nat_lt k n) refl e where
  one : (t : Bool) → nat_lt k n ≡ t → None ≡ cond t (Some k) None → k ≡ n
  one true is e = cc
  one false is e = grind (arith, nat_tests)

pub from_some : (test : Micro → Bool) (xs : List Micro) (p : ℕ) → Some p ≡ position test xs → drop p xs ≡ from_first test xs
from_some test xs p e = ap (λ (n : ℕ). drop n xs) (at_some (position_or_len test xs) (length xs) p e) ∙ from_place test xs

pub from_none : (test : Micro → Bool) (xs : List Micro) → None ≡ position test xs → drop (length xs) xs ≡ from_first test xs
from_none test xs e = ap (λ (n : ℕ). drop n xs) (sym (at_none (position_or_len test xs) (length xs) (within test xs) e)) ∙ from_place test xs

pub behind_some : (test : Micro → Bool) (xs : List Micro) (p : ℕ) → Some p ≡ position test xs → drop (p + 1) xs ≡ behind_first test xs
behind_some test xs p e =
    let one : p + 1 ≡ suc p = omega arith in
    ap (λ (n : ℕ). drop n xs) (one ∙ ap suc (at_some (position_or_len test xs) (length xs) p e)) ∙ behind_place test xs

drop_nil : (k : ℕ) → let none : List Micro = [] in drop k none ≡ none
drop_nil zero = refl
drop_nil (suc k) = refl

past : (n : ℕ) (xs : List Micro) → length xs ≤ n → drop n xs ≡ []
past n [] le = drop_nil n
past zero (x ∷ xs) le = absurd (let h : suc (length xs) ≤ 0 = le in omega arith)
past (suc n) (x ∷ xs) le = past n xs (let h : suc (length xs) ≤ suc n = le in omega arith)

pub behind_none : (test : Micro → Bool) (xs : List Micro) → None ≡ position test xs → drop (length xs) xs ≡ behind_first test xs
behind_none test xs e =
    drop_all xs
    ∙ sym (past (suc (position_or_len test xs)) xs (let at = at_none (position_or_len test xs) (length xs) (within test xs) e in omega arith))
    ∙ behind_place test xs

-- ---- steps that let go

pub lets_are : (xs : List Micro) → from_first (λ m. not (lets_go m)) xs ≡ behind_lets xs
lets_are [] = refl
lets_are (x ∷ xs) = one (lets_go x) (lets_are xs) where
  one : (t : Bool) → from_first (λ m. not (lets_go m)) xs ≡ behind_lets xs → cond (not t) (x ∷ xs) (from_first (λ m. not (lets_go m)) xs) ≡ cond t (behind_lets xs) (x ∷ xs)
  one true e = e
  one false e = refl

pub drop_drop : (n m : ℕ) (xs : List Micro) → drop (n + m) xs ≡ drop m (drop n xs)
drop_drop zero m xs = let e : 0 + m ≡ m = omega arith in ap (λ (k : ℕ). drop k xs) e ∙ ap (drop m) (sym (drop_zero xs)) where
  drop_zero : (ys : List Micro) → drop 0 ys ≡ ys
  drop_zero [] = refl
  drop_zero (y ∷ ys) = refl
drop_drop (suc n) m [] = drop_nil (suc n + m) ∙ sym (drop_nil m)
drop_drop (suc n) m (x ∷ xs) = let e : suc n + m ≡ suc (n + m) = omega arith in ap (λ (k : ℕ). drop k (x ∷ xs)) e ∙ drop_drop n m xs

-- what a timeout leaves of a visit and the steps after it, and which clock it misses
cut_alone : (what : Sleeping) (c : ClockId) (xs : List Micro) → cut_short what (micro.Visit c ∷ xs) ≡ cond (keeps_visit what) (micro.Visit c ∷ behind_lets xs) (cut_short what xs)
cut_alone (call.Prepare h) c xs = refl
cut_alone (call.SetParent h p) c xs = refl
cut_alone (call.Probe d) c xs = refl
cut_alone call.Sweep c xs = refl
cut_alone _ c xs = refl

-- if the visit that comes next stays, it is of the clock that is missed
pub missed_kept : (what : Sleeping) (xs : List Micro) → keeps_visit what ≡ true → missed_of what (next_visit xs) ≡ missed_by what xs
missed_kept (call.SetRate h x) xs keeps = refl
missed_kept (call.SetRateExclusive h x) xs keeps = refl
missed_kept (call.SetRange h least most) xs keeps = refl
missed_kept _ xs keeps = refl

-- and else none is missed
pub none_missed : (what : Sleeping) (xs : List Micro) → keeps_visit what ≡ false → missed_by what xs ≡ None
none_missed (call.SetRate h x) xs keeps = absurd cc
none_missed (call.SetRateExclusive h x) xs keeps = absurd cc
none_missed (call.SetRange h least most) xs keeps = absurd cc
none_missed _ xs keeps = refl

-- of the calls that a visit may stay of
pub cut_others : (what : Sleeping) (xs : List Micro) → ((h : Handle) → what ≡ call.Prepare h → ⊥) → ((h : Handle) (p : ClockId) → what ≡ call.SetParent h p → ⊥)
    → ((k : ClockId) → what ≡ call.Probe k → ⊥) → (what ≡ call.Sweep → ⊥)
    → (first_alone (from_first is_visit xs) ≡ cut_short what xs) × (missed_of what (next_visit xs) ≡ missed_by what xs)
cut_others (call.Prepare h) xs a b c d = absurd (a h refl)
cut_others (call.SetParent h p) xs a b c d = absurd (b h p refl)
cut_others (call.Probe k) xs a b c d = absurd (c k refl)
cut_others call.Sweep xs a b c d = absurd (d refl)
cut_others (call.SetRate h x) xs a b c d = (refl, refl)
cut_others (call.SetRateExclusive h x) xs a b c d = (refl, refl)
cut_others (call.SetRange h least most) xs a b c d = (refl, refl)
cut_others _ xs a b c d = (refl, refl)

-- ---- the first step that passes a test

index_at : (p : ℕ) (xs : List Micro) (d : Micro) → p < length xs → drop p xs ≡ slice_index_or xs p d ∷ drop (p + 1) xs
index_at p [] d less = absurd (omega arith)
index_at zero (x ∷ xs) d less = ap (λ (ys : List Micro). x ∷ ys) (sym (none xs)) where
  none : (ys : List Micro) → drop 0 ys ≡ ys
  none [] = refl
  none (y ∷ ys) = refl
index_at (suc p) (x ∷ xs) d less = let rest = index_at p xs d (omega arith) in let e : suc p + 1 ≡ suc (p + 1) = omega arith in rest ∙ ap (λ (k : ℕ). slice_index_or xs p d ∷ drop k (x ∷ xs)) (sym e)

below_place : (k n p : ℕ) → Some p ≡ cond (nat_lt k n) (Some k) None → p < n
below_place k n p e = one (nat_lt k n) refl e where
  one : (t : Bool) → nat_lt k n ≡ t → Some p ≡ cond t (Some k) None → p < n
  one true is e = let same : p ≡ k = cc in grind (arith, nat_tests)
  one false is e = absurd cc

pub first_at : (test : Micro → Bool) (xs : List Micro) (p : ℕ) (d : Micro) → Some p ≡ position test xs → from_first test xs ≡ slice_index_or xs p d ∷ drop (p + 1) xs
first_at test xs p d e = sym (from_some test xs p e) ∙ index_at p xs d (below_place (position_or_len test xs) (length xs) p e)

pub first_passes : (test : Micro → Bool) (xs : List Micro) (m : Micro) (ms : List Micro) → from_first test xs ≡ m ∷ ms → test m ≡ true
first_passes test [] m ms e = absurd cc
first_passes test (x ∷ xs) m ms e = one (test x) refl e (first_passes test xs m ms) where
  one : (t : Bool) → test x ≡ t → cond t (x ∷ xs) (from_first test xs) ≡ m ∷ ms → (from_first test xs ≡ m ∷ ms → test m ≡ true) → test m ≡ true
  one true is f rest = let same : x ≡ m = cc in ap test (sym same) ∙ is
  one false is f rest = rest f

pub next_at : (xs : List Micro) (m : Micro) (ms : List Micro) → from_first is_visit xs ≡ m ∷ ms → next_visit xs ≡ visit_clock m
next_at [] m ms e = absurd cc
next_at (x ∷ xs) m ms e = one (is_visit x) e (next_at xs m ms) where
  one : (t : Bool) → cond t (x ∷ xs) (from_first is_visit xs) ≡ m ∷ ms → (from_first is_visit xs ≡ m ∷ ms → next_visit xs ≡ visit_clock m) → cond t (visit_clock x) (next_visit xs) ≡ visit_clock m
  one true f rest = let same : x ≡ m = cc in ap visit_clock same
  one false f rest = rest f

pub next_none : (xs : List Micro) → from_first is_visit xs ≡ [] → next_visit xs ≡ None
next_none [] e = refl
next_none (x ∷ xs) e = one (is_visit x) e (next_none xs) where
  one : (t : Bool) → cond t (x ∷ xs) (from_first is_visit xs) ≡ [] → (from_first is_visit xs ≡ [] → next_visit xs ≡ None) → cond t (visit_clock x) (next_visit xs) ≡ None
  one true f rest = absurd cc
  one false f rest = rest f

-- ---- a part of a list

take_all : (n : ℕ) (xs : List Micro) → length xs ≤ n → take n xs ≡ xs
take_all zero [] le = refl
take_all zero (x ∷ xs) le = absurd (omega arith)
take_all (suc n) [] le = refl
take_all (suc n) (x ∷ xs) le = ap (λ (ys : List Micro). x ∷ ys) (take_all n xs (omega arith))

length_drop : (k : ℕ) (xs : List Micro) → length (drop k xs) ≤ length xs - k
length_drop zero [] = omega arith
length_drop zero (x ∷ xs) = omega arith
length_drop (suc k) [] = omega arith
length_drop (suc k) (x ∷ xs) = let rest = length_drop k xs in omega arith

pub rest_whole : (k : ℕ) (xs : List Micro) → take (length xs - k) (drop k xs) ≡ drop k xs
rest_whole k xs = take_all (length xs - k) (drop k xs) (length_drop k xs)

-- what a timeout leaves of the steps after a visit that came next by itself
pub cut_after : (what : Sleeping) (alone : Option ClockId) (xs : List Micro) → (is_some alone && keeps_visit what) ≡ false → cut_short what (visit_alone alone ++ xs) ≡ cut_short what xs
cut_after what None xs none = refl
cut_after what (Some c) xs none = cut_alone what c xs ∙ ap (λ (t : Bool). cond t (micro.Visit c ∷ behind_lets xs) (cut_short what xs)) none

pub missed_after : (what : Sleeping) (alone : Option ClockId) (xs : List Micro) → (is_some alone && keeps_visit what) ≡ false → missed_by what (visit_alone alone ++ xs) ≡ missed_by what xs
missed_after what None xs none = refl
missed_after what (Some c) xs none = none_missed what (micro.Visit c ∷ xs) none ∙ sym (none_missed what xs none)

-- and if that visit stays
pub cut_kept : (what : Sleeping) (alone : Option ClockId) (xs : List Micro) → is_some alone ≡ true → keeps_visit what ≡ true → visit_alone alone ++ behind_lets xs ≡ cut_short what (visit_alone alone ++ xs)
cut_kept what None xs is keeps = absurd cc
cut_kept what (Some c) xs is keeps = sym (cut_alone what c xs ∙ ap (λ (t : Bool). cond t (micro.Visit c ∷ behind_lets xs) (cut_short what xs)) keeps)

pub missed_first : (what : Sleeping) (alone : Option ClockId) (xs : List Micro) → is_some alone ≡ true → keeps_visit what ≡ true
    → missed_of what (option_map (λ c. c.0) alone) ≡ missed_by what (visit_alone alone ++ xs)
missed_first what None xs is keeps = absurd cc
missed_first what (Some c) xs is keeps = missed_kept what (micro.Visit c ∷ xs) keeps
