-- Laws on the divisors of a divider: the first that passes, the greatest, and those that are left.
use Rattle.std.proofs.Common.{◌≡◌, ◌≢◌, ℕ, zero, suc, ◌+◌, ◌-◌, ◌*◌, ◌^◌, ◌<◌, ◌≤◌, Bool, true, false, cond, List, [], ◌∷◌, map, Some, None, refl, sym, ap, subst, ◌∙◌, inl, inr, arith, max, nat_le}
use Rattle.std.specs.Prelude.{◌==◌, filter, find, min}
use Rattle.std.specs.List.{AllByRecursion, range_with_len, reduce}
use Rattle.std.specs.Option.{unwrap_or}
use Rattle.std.specs.Int.{div_ceil}
use Rattle.std.proofs.lemmas.Bool.{both_ways, eq-eqb, le-leb, leb-true, cond-true, cond-false}
use Rattle.std.proofs.lemmas.Nat.{pow_pos}
use Rattle.std.proofs.Math.Nat.{mul-le-mul_left}
use Rattle.kind_math.specs.declared.div_style.DivStyle.{DivStyle}
use Rattle.kind_math.specs.declared.div_style.DivStyle.TheVariants.{Plain, OneBased, PowerOfTwo}
use Rattle.kind_math.specs.Rates.{divisor}
use Rattle.kind_math.specs.Choices.{least, greatest_of}
use Rattle.kind_math.specs.Dividers.{IsDividerWidth, valid_fields, valid_divisors, least_or_greatest, div_round}
use Rattle.kind_math.proofs.Chosen.{IsIn, min_prefers, filter_none, reduce_is}
use Rattle.kind_math.proofs.Ranges.{greatest_of_range, least_or_greatest-map, chosen_keeps}
use Rattle.kind_math.proofs.DivisorLaws.{Divides, valid_divide, divisor_keeps_order, divisor_rises, valid_fields_some, round_by_field, two-le-pow}
use Rattle.kind_math.proofs.Quotients.{ceil-le, ceil-reaches}
use Rattle.clk_model.specs.Round.{most_rate}
use Rattle.clk_model.proofs.Members.{same_from_test}
use Rattle.rate_planner.specs.Divisors.{first_field, divisors_from}

-- ---- searches

-- where what is searched for passes a filter, the filter leaves the search
find-filter : (p t : ℕ → Bool) (xs : List ℕ) → ((e : ℕ) → p e ≡ true → t e ≡ true) → find p (filter t xs) ≡ find p xs
find-filter p t [] passes = refl
find-filter p t (x ∷ xs) passes = by_test (t x) (p x) refl refl (find-filter p t xs passes) where
  by_test : (a b : Bool) → t x ≡ a → p x ≡ b → find p (filter t xs) ≡ find p xs → find p (cond a (x ∷ filter t xs) (filter t xs)) ≡ cond b (Some x) (find p xs)
  by_test true b is on same = ap (λ c. cond c (Some x) (find p (filter t xs))) on ∙ ap (λ o. cond b (Some x) o) same
  by_test false true is on same = absurd (both_ways _ is (passes x on))
  by_test false false is on same = same

-- the only one that passes is found
find-only : (p : ℕ → Bool) (d : ℕ) (xs : List ℕ) → IsIn d xs → p d ≡ true → ((e : ℕ) → p e ≡ true → e ≡ d) → find p xs ≡ Some d
find-only p d [] within on only = absurd within
find-only p d (x ∷ xs) within on only = by_test (p x) refl within (λ there. find-only p d xs there on only) where
  by_test : (b : Bool) → p x ≡ b → IsIn d (x ∷ xs) → (IsIn d xs → find p xs ≡ Some d) → find p (x ∷ xs) ≡ Some d
  by_test true is w rest = cond-true (p x) (Some x) (find p xs) is ∙ ap (λ (n : ℕ). Some n) (only x is)
  by_test false is (inl same) rest = absurd (both_ways _ is (ap p same ∙ on))
  by_test false is (inr there) rest = cond-false (p x) (Some x) (find p xs) is ∙ rest there

-- where none passes none is found
find-none : (p : ℕ → Bool) (xs : List ℕ) → ((e : ℕ) → IsIn e xs → p e ≡ true → ⊥) → find p xs ≡ None
find-none p [] none = refl
find-none p (x ∷ xs) none = by_test (p x) refl (find-none p xs (λ e within. none e (inr within))) where
  by_test : (b : Bool) → p x ≡ b → find p xs ≡ None → find p (x ∷ xs) ≡ None
  by_test true is rest = absurd (none x (inl refl) is)
  by_test false is rest = cond-false (p x) (Some x) (find p xs) is ∙ rest

-- ---- valid divisors

all_within : (xs ys : List ℕ) → ((e : ℕ) → IsIn e xs → IsIn e ys) → AllByRecursion (λ e. IsIn e ys) xs
all_within [] ys within = tt
all_within (x ∷ xs) ys within = (within x (inl refl), all_within xs ys (λ e there. within e (inr there)))

-- there is a valid divisor
some_divisor : (style : DivStyle) (width : ℕ) → IsDividerWidth style width → (x : ℕ) × (xs : List ℕ) × (valid_divisors style width ≡ map (divisor style) (x ∷ xs))
unfolding valid_divisors
some_divisor style width right = let some = valid_fields_some style width right in (some.0, some.1, ap (map (divisor style)) some.2)

-- the one that a divider takes for a rate is a valid one
pub round_within : (style : DivStyle) (parent rate width : ℕ) → IsDividerWidth style width → IsIn (div_round parent rate width style) (valid_divisors style width)
unfolding div_round
round_within style parent rate width right =
    let some = some_divisor style width right in
    subst (λ (ds : List ℕ). IsIn (least_or_greatest (λ d. nat_le (div_ceil parent (max rate 1)) d) ds) ds) (sym some.2)
    (chosen_keeps (λ e. IsIn e (map (divisor style) (some.0 ∷ some.1))) (λ d. nat_le (div_ceil parent (max rate 1)) d) (divisor style some.0) (map (divisor style) some.1)
    (all_within (map (divisor style) (some.0 ∷ some.1)) (map (divisor style) (some.0 ∷ some.1)) (λ e there. there)))

-- and isn't 0
pub round_divides : (style : DivStyle) (parent rate width : ℕ) → IsDividerWidth style width → 0 < div_round parent rate width style
round_divides style parent rate width right =
    let some = valid_fields_some style width right in
    let each = subst (AllByRecursion (Divides style)) some.2 (valid_divide style width right) in
    let taken = chosen_keeps (Divides style) (λ field. nat_le (div_ceil parent (max rate 1)) (divisor style field)) some.0 some.1 each in
    subst (λ n. 0 < n)
    (sym (round_by_field style parent rate width right
    ∙ ap (λ fields. divisor style (least_or_greatest (λ field. nat_le (div_ceil parent (max rate 1)) (divisor style field)) fields)) some.2))
    taken.some

-- a valid divisor that a parent's rate fits is the one that it takes
round_fits : (style : DivStyle) (x parent width e : ℕ) → IsDividerWidth style width → 1 ≤ x → x * e ≡ parent → IsIn e (valid_divisors style width)
    → div_round parent x width style ≡ e
unfolding div_round least_or_greatest least
round_fits style x parent width e right some fits within =
    let one : max x 1 ≡ x = omega arith in
    let up : parent ≤ e * x = grind arith in
    let low : div_ceil parent x ≤ e = ceil-le parent x e some up in
    let reach : parent ≤ div_ceil parent x * x = ceil-reaches parent x (div_ceil parent x) some (omega arith) in
    let high : e ≤ div_ceil parent x = cancel x e (div_ceil parent x) some (grind arith) in
    let ceil : div_ceil parent (max x 1) ≡ e = ap (div_ceil parent) one ∙ (omega arith) in
    ap (λ n. least_or_greatest (λ d. nat_le n d) (valid_divisors style width)) ceil
    ∙ ap (λ o. unwrap_or o (greatest_of (valid_divisors style width)))
    (reduce_is min_prefers (λ d. nat_le e d) (valid_divisors style width) e within (le-leb e e (omega arith))
    (each_passes (valid_divisors style width))) where
      cancel : (k a b : ℕ) → 0 < k → k * a ≤ b * k → a ≤ b
      cancel k a b pos le = grind arith

      each_passes : (ds : List ℕ) → AllByRecursion (λ d. nat_le e d ≡ true → e ≤ d) ds
      each_passes [] = tt
      each_passes (d ∷ ds) = ((λ passes. leb-true e d passes), each_passes ds)

-- ---- the exact fit

fits_once : (x d e : ℕ) → 1 ≤ x → x * e ≡ x * d → e ≡ d
fits_once x d e some same = grind arith

-- where a product with the divisor that is taken is the parent's rate, it is the divisor that fits
pub fit_found : (style : DivStyle) (x parent width : ℕ) → IsDividerWidth style width → 1 ≤ x → parent ≤ most_rate → x * div_round parent x width style ≡ parent
    → Some (div_round parent x width style) ≡ find (λ i. x * i == parent) (filter (λ i. nat_le (x * i) most_rate) (valid_divisors style width))
fit_found style x parent width right some few fits =
    sym (find-filter (λ i. x * i == parent) (λ i. nat_le (x * i) most_rate) (valid_divisors style width)
    (λ e is. let same : x * e ≡ parent = same_from_test (x * e) parent is in le-leb (x * e) most_rate (omega arith))
    ∙ find-only (λ i. x * i == parent) (div_round parent x width style) (valid_divisors style width) (round_within style parent x width right)
    (eq-eqb (x * div_round parent x width style) parent fits)
    (λ e is. fits_once x (div_round parent x width style) e some (same_from_test (x * e) parent is ∙ sym fits)))

-- and where it isn't, none fits
pub fit_missed : (style : DivStyle) (x parent width : ℕ) → IsDividerWidth style width → 1 ≤ x → parent ≤ most_rate → x * div_round parent x width style ≢ parent
    → None ≡ find (λ i. x * i == parent) (filter (λ i. nat_le (x * i) most_rate) (valid_divisors style width))
fit_missed style x parent width right some few other =
    sym (find-filter (λ i. x * i == parent) (λ i. nat_le (x * i) most_rate) (valid_divisors style width)
    (λ e is. let same : x * e ≡ parent = same_from_test (x * e) parent is in le-leb (x * e) most_rate (omega arith))
    ∙ find-none (λ i. x * i == parent) (valid_divisors style width)
    (λ e within is.
    let fits : x * e ≡ parent = same_from_test (x * e) parent is in
    other (ap (λ (d : ℕ). x * d) (round_fits style x parent width e right some fits within) ∙ fits)))

-- ---- the greatest

greatest_none : (xs : List ℕ) → least_or_greatest (λ d. false) xs ≡ greatest_of xs
unfolding least_or_greatest least
greatest_none xs = ap (λ ys. unwrap_or (reduce min ys) (greatest_of xs)) (filter_none (λ d. false) xs (each xs)) where
  each : (ys : List ℕ) → AllByRecursion (λ y. false ≡ false) ys
  each [] = tt
  each (y ∷ ys) = (refl, each ys)

greatest_field : (style : DivStyle) (width : ℕ) → IsDividerWidth style width → greatest_of (valid_fields style width) ≡ 2 ^ width - 1
unfolding valid_fields
greatest_field Plain width right = greatest_of_range 0 (2 ^ width) (pow_pos width) ∙ omega arith
greatest_field OneBased width right =
    let two = two-le-pow width right.0 in
    greatest_of_range 1 (2 ^ width - 1) (omega (arith, two)) ∙ omega (arith, two)
greatest_field PowerOfTwo width right = greatest_of_range 0 (2 ^ width) (pow_pos width) ∙ omega arith

-- the greatest divisor is that of the last field
pub greatest_is : (style : DivStyle) (width : ℕ) → IsDividerWidth style width → divisor style (2 ^ width - 1) ≡ greatest_of (valid_divisors style width)
unfolding valid_divisors
greatest_is style width right =
    let some = valid_fields_some style width right in
    sym (ap (λ fields. greatest_of (map (divisor style) fields)) some.2
    ∙ sym (greatest_none (map (divisor style) (some.0 ∷ some.1)))
    ∙ least_or_greatest-map (λ d. false) (divisor style) (divisor_keeps_order style) some.0 some.1
    ∙ ap (divisor style) (greatest_none (some.0 ∷ some.1) ∙ sym (ap greatest_of some.2) ∙ greatest_field style width right))

-- ---- what is left

-- the valid divisors are those from the first field on
pub divisors_all : (style : DivStyle) (width : ℕ) → valid_divisors style width ≡ divisors_from style (first_field style) (2 ^ width)
unfolding valid_divisors valid_fields
divisors_all Plain width = let whole : 2 ^ width ≡ 2 ^ width - 0 = omega arith in ap (λ n. map (divisor Plain) (range_with_len 0 n)) whole
divisors_all OneBased width = refl
divisors_all PowerOfTwo width = let whole : 2 ^ width ≡ 2 ^ width - 0 = omega arith in ap (λ n. map (divisor PowerOfTwo) (range_with_len 0 n)) whole

-- what a field divides by, and the rest
pub divisors_more : (style : DivStyle) (field end : ℕ) → field < end → divisors_from style field end ≡ divisor style field ∷ divisors_from style (field + 1) end
divisors_more style field end less =
    let some : end - field ≡ suc (end - (field + 1)) = omega arith in
    ap (λ n. map (divisor style) (range_with_len field n)) some

pub divisors_none : (style : DivStyle) (field end : ℕ) → end ≤ field → divisors_from style field end ≡ []
divisors_none style field end le = let none : end - field ≡ 0 = omega arith in ap (λ n. map (divisor style) (range_with_len field n)) none

-- a field from the first on divides by some number that isn't 0
pub divides_some : (style : DivStyle) (field : ℕ) → first_field style ≤ field → 0 < divisor style field
unfolding divisor
divides_some Plain field first = omega arith
divides_some OneBased field first = first
divides_some PowerOfTwo field first = pow_pos field

-- where a product is above the greatest rate, so is each that is left
pub none_product : (style : DivStyle) (x field end : ℕ) → most_rate < x * divisor style field → filter (λ i. nat_le (x * i) most_rate) (divisors_from style field end) ≡ []
none_product style x field end above = filter_none (λ i. nat_le (x * i) most_rate) (divisors_from style field end) (each field (end - field) (omega arith)) where
  each : (from n : ℕ) → field ≤ from → AllByRecursion (λ i. nat_le (x * i) most_rate ≡ false) (map (divisor style) (range_with_len from n))
  each from zero le = tt
  each from (suc n) le =
      let rises = divisor_rises style field from le in
      let more : x * divisor style field ≤ x * divisor style from = mul-le-mul_left x rises in
      (above_all (x * divisor style from) (omega arith), each (from + 1) n (omega arith)) where
        above_all : (product : ℕ) → most_rate < product → nat_le product most_rate ≡ false
        above_all product less = grind arith

-- the last field is none before the first
pub last_field : (style : DivStyle) (width : ℕ) → IsDividerWidth style width → first_field style ≤ 2 ^ width - 1
last_field Plain width right = omega arith
last_field OneBased width right = let two = two-le-pow width right.0 in omega arith
last_field PowerOfTwo width right = omega arith
