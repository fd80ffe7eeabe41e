-- Quotients that are rounded up or down, against a bound.
use Rattle.std.proofs.Common.{◌≡◌, ℕ, zero, suc, ◌+◌, ◌-◌, ◌*◌, ◌/◌, ◌<◌, ◌≤◌, sym, ◌∙◌, arith, inl, inr, nat_le}
use Rattle.std.specs.Int.{div_ceil}
use Rattle.std.proofs.Math.Nat.{lt_of_mul-lt-mul_right, mul-le-mul_right, mul-le-mul_left, le-div_iff_mul-le, div-lt_iff_lt-mul, div-zero, div-mul-le_self}
use Rattle.std.proofs.lemmas.Grind.{div_ceil_times}
use Rattle.std.proofs.lemmas.Bool.{cases_lt, le-leb, lt-leb}

-- two tests of order that say the same are equal
pub same_le : (a b c d : ℕ) → (a ≤ b → c ≤ d) → (c ≤ d → a ≤ b) → nat_le a b ≡ nat_le c d
same_le a b c d there back = elim (cases_lt b a) [
  | inl above ↦ elim (cases_lt d c) [
    | inl above' ↦ lt-leb a b above ∙ sym (lt-leb c d above')
    | inr below' ↦ absurd (let below = back below' in omega (arith, below))
  ]
  | inr below ↦ le-leb a b below ∙ sym (le-leb c d (there below))
]

-- more over the same is no less
pub quotient_rises : (low high k : ℕ) → low ≤ high → low / k ≤ high / k
quotient_rises low high zero below = let none = div-zero low in omega (arith, none)
quotient_rises low high (suc k) below =
    let under = div-mul-le_self low (suc k) in
    (le-div_iff_mul-le {k = suc k} {x = low / suc k} {y = high} (omega arith)).1 (omega (arith, under))

-- a quotient rounded up is at most a bound where the bound times the divisor reaches
pub ceil-le : (n k m : ℕ) → 0 < k → n ≤ m * k → div_ceil n k ≤ m
ceil-le n k m some reaches =
    let bound = (div_ceil_times n k some).1 in
    let next : div_ceil n k * k < (m + 1) * k = omega (arith, bound) in
    let below = lt_of_mul-lt-mul_right k {m = div_ceil n k} {n = m + 1} next in
    omega (arith, below)

pub ceil-reaches : (n k m : ℕ) → 0 < k → div_ceil n k ≤ m → n ≤ m * k
ceil-reaches n k m some below =
    let bound = (div_ceil_times n k some).0 in
    let more = mul-le-mul_right {m = div_ceil n k} {n = m} k below in
    omega (arith, bound, more)

-- a greater divisor gives no greater quotient
pub ceil-falls : (n k j : ℕ) → 0 < j → j ≤ k → div_ceil n k ≤ div_ceil n j
ceil-falls n k j some below =
    let reach = ceil-reaches n j (div_ceil n j) some (omega arith) in
    let more = mul-le-mul_left {m = j} {n = k} (div_ceil n j) below in
    ceil-le n k (div_ceil n j) (omega arith) (omega (arith, reach, more))

-- a quotient rounded up is at most `rate` where the divisor is at least that of the rate
pub ceil_exchange : (n k rate : ℕ) → 0 < k → 0 < rate → nat_le (div_ceil n k) rate ≡ nat_le (div_ceil n rate) k
ceil_exchange n k rate some some' =
    same_le (div_ceil n k) rate (div_ceil n rate) k
    (λ h. let reach = ceil-reaches n k rate some h in ceil-le n rate k some' (omega (arith, reach)))
    (λ h. let reach = ceil-reaches n rate k some' h in ceil-le n k rate some (omega (arith, reach)))

-- a quotient rounded down is at most a bound where the factor is at most a quotient of the bound
pub floor_exchange : (parent n m bound : ℕ) → 0 < parent → 0 < m → nat_le (parent * n / m) bound ≡ nat_le n (((bound + 1) * m - 1) / parent)
floor_exchange parent n m bound some divides =
    same_le (parent * n / m) bound n (((bound + 1) * m - 1) / parent)
    (λ h.
    let next : parent * n / m < bound + 1 = omega arith in
    let under = (div-lt_iff_lt-mul {k = m} {x = parent * n} {y = bound + 1} divides).0 next in
    (le-div_iff_mul-le {k = parent} {x = n} {y = (bound + 1) * m - 1} some).1 (omega (arith, under)))
    (λ h.
    let under = (le-div_iff_mul-le {k = parent} {x = n} {y = (bound + 1) * m - 1} some).0 h in
    let positive : 0 < (bound + 1) * m = grind arith in
    let next = (div-lt_iff_lt-mul {k = m} {x = parent * n} {y = bound + 1} divides).1 (omega (arith, under, positive)) in
    omega (arith, next))
