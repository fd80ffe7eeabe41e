-- The multiplier that a PLL takes.
use Rattle.std.proofs.Common.{◌≡◌, ℕ, ◌+◌, ◌-◌, ◌*◌, ◌/◌, ◌<◌, ◌≤◌, sym, ◌∙◌, ap, arith, Bool, true, min, max, Some, nat_le, zero-mul}
use Rattle.std.specs.Option.{unwrap_or}
use Rattle.std.specs.List.{filter, reduce}
use Rattle.std.proofs.Math.Nat.{mul-le-mul_left, zero-div}
use Rattle.std.proofs.lemmas.Bool.{le-leb, leb-true}
use Rattle.kind_math.specs.Rates.{pll_rate, capped}
use Rattle.kind_math.specs.Choices.{greatest}
use Rattle.kind_math.specs.Plls.{multipliers, pll_multiplier}
use Rattle.kind_math.proofs.Chosen.{max_prefers, chosen}
use Rattle.kind_math.proofs.Ranges.{each_in_range, in_range, same_greatest, greatest_up_to}
use Rattle.kind_math.proofs.Quotients.{same_le, floor_exchange, quotient_rises}

-- a test of the rate that says of each multiplier whether it is at most `limit` chooses `limit`, within the range
pub multiplier_is : (parent rate low high m limit : ℕ) → low ≤ high → ((n : ℕ) → n ≤ high → nat_le (pll_rate parent n m) rate ≡ nat_le n limit) → pll_multiplier parent rate low high m ≡ max low (min limit high)
unfolding pll_multiplier
multiplier_is parent rate low high m limit order same =
    ap (λ o. unwrap_or o low)
    (same_greatest (λ n. nat_le (pll_rate parent n m) rate) (λ n. nat_le n limit) (multipliers low high)
    (each_in_range (λ n. nat_le (pll_rate parent n m) rate ≡ nat_le n limit) low (high + 1 - low)
    (λ n above below. same n (omega arith))))
    ∙ greatest_up_to limit low (high + 1 - low) (omega arith)
    ∙ (let end : max low (min limit (low + (high + 1 - low) - 1)) ≡ max low (min limit high) = omega arith in end)

-- no rate is above the greatest
pub pll_rate-le : (parent n m : ℕ) → pll_rate parent n m ≤ 18446744073709551615
unfolding pll_rate
pll_rate-le parent n m = omega arith

-- over a parent of 0 every multiplier gives 0
pub pll_rate_of_nothing : (parent n m : ℕ) → parent ≡ 0 → pll_rate parent n m ≡ 0
unfolding pll_rate
pll_rate_of_nothing parent n m none =
    ap (λ p. capped (p * n / m)) none ∙ ap (λ p. capped (p / m)) (zero-mul n) ∙ ap capped (zero-div m)

-- below the greatest rate the cap is no matter
pub multiplier_test : (parent rate n m : ℕ) → 0 < parent → rate < 18446744073709551615 → 0 < m → nat_le (pll_rate parent n m) rate ≡ nat_le n (((rate + 1) * m - 1) / parent)
unfolding pll_rate
multiplier_test parent rate n m some small divides =
    same_le (capped (parent * n / m)) rate (parent * n / m) rate (λ h. omega arith) (λ h. omega arith)
    ∙ floor_exchange parent n m rate some divides

-- a greater multiplier gives no lesser rate
pub pll_rate_rises : (parent low high m : ℕ) → low ≤ high → pll_rate parent low m ≤ pll_rate parent high m
unfolding pll_rate
pll_rate_rises parent low high m below =
    let more = quotient_rises (parent * low) (parent * high) m (mul-le-mul_left {m = low} {n = high} parent below) in
    omega (arith, more)

-- where one passes, the multiplier is the greatest that does
multiplier_found : (parent rate low high m r : ℕ) → reduce max (filter (λ n. nat_le (pll_rate parent n m) rate) (multipliers low high)) ≡ Some r → pll_multiplier parent rate low high m ≡ r
unfolding pll_multiplier greatest
multiplier_found parent rate low high m r found = ap (λ o. unwrap_or o low) found

-- a rate that a multiplier of the range gives is given back
pub multiplier_gives_back : (parent rate low high m n : ℕ) → low ≤ n → n ≤ high → rate ≡ pll_rate parent n m → pll_rate parent (pll_multiplier parent rate low high m) m ≡ rate
multiplier_gives_back parent rate low high m n above below gives =
    let p : ℕ → Bool = λ k. nat_le (pll_rate parent k m) rate in
    let within = in_range n low (high + 1 - low) above (omega arith) in
    let passes : p n ≡ true = le-leb (pll_rate parent n m) rate (omega arith) in
    let found = chosen max_prefers p (λ _. Unit {0}) (multipliers low high) n (each_in_range (λ _. Unit {0}) low (high + 1 - low) (λ _ _ _. tt)) within passes in
    let under = leb-true (pll_rate parent found.0 m) rate found.2.passes in
    let rises = pll_rate_rises parent n found.0 m found.2.preferred in
    ap (λ k. pll_rate parent k m) (multiplier_found parent rate low high m found.0 found.1)
    ∙ (let same : pll_rate parent found.0 m ≡ rate = omega (arith, under, rises, gives) in same)

-- where no rate is above the wanted one, the multiplier is the last
pub all_pass : (parent rate low high m : ℕ) → low ≤ high → ((n : ℕ) → pll_rate parent n m ≤ rate) → pll_multiplier parent rate low high m ≡ high
all_pass parent rate low high m order under =
    multiplier_is parent rate low high m high order
    (λ n below. le-leb (pll_rate parent n m) rate (under n) ∙ sym (le-leb n high below))
    ∙ (let end : max low (min high high) ≡ high = omega arith in end)

-- which is so over a parent of 0
pub none_above : (parent rate n m : ℕ) → parent ≡ 0 → pll_rate parent n m ≤ rate
none_above parent rate n m none = let nothing = pll_rate_of_nothing parent n m none in omega (arith, nothing)

-- and where the greatest rate is wanted
pub none_above_greatest : (parent rate n m : ℕ) → rate ≡ 18446744073709551615 → pll_rate parent n m ≤ rate
none_above_greatest parent rate n m greatest_rate = let under = pll_rate-le parent n m in omega (arith, under)
