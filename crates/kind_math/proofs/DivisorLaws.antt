-- The valid fields of a divider and what they divide by.
use Rattle.std.proofs.Common.{◌≡◌, ℕ, zero, suc, ◌+◌, ◌-◌, ◌*◌, ◌^◌, ◌<◌, ◌≤◌, refl, sym, ◌∙◌, ap, subst, arith, inl, inr, List, [], ◌∷◌, map, Bool, true, min, max, nat_le, nat_eq, length, get_or, zero-mul, Some}
use Rattle.std.specs.List.{Contains, AllByRecursion, range_with_len, filter, reduce}
use Rattle.std.specs.Int.{div_ceil}
use Rattle.std.proofs.Math.Nat.{pow-le-pow_right, min-eq_left, min-eq_right, max-eq_left, max-eq_right, div-eq_of_lt, mod-eq_of_lt}
use Rattle.std.proofs.lemmas.Nat.{pow_pos}
use Rattle.std.proofs.lemmas.Bool.{cases_lt, cond-true, cond-false, eq-eqb, ne_eqb, le-leb, leb-true}
use Rattle.kind_math.specs.declared.div_style.DivStyle.{DivStyle}
use Rattle.kind_math.specs.declared.div_style.DivStyle.TheVariants.{Plain, OneBased, PowerOfTwo}
use Rattle.kind_math.specs.Rates.{divisor, div_rate}
use Rattle.kind_math.specs.Dividers.{IsDividerWidth, valid_fields, valid_divisors, least_or_greatest, div_round, div_setting}
use Rattle.kind_math.proofs.Ranges.{each_in_range, same_least, least_from, KeepsOrder, least_or_greatest-map}
use Rattle.kind_math.proofs.Quotients.{same_le, ceil_exchange, ceil-le, ceil-reaches, ceil-falls}
use Rattle.kind_math.proofs.Chosen.{IsIn, min_prefers, chosen}
use Rattle.kind_math.specs.Choices.{least, greatest_of}
use Rattle.std.specs.Option.{unwrap_or}

-- two to a power that is at least 1 is at least 2
pub two-le-pow : (width : ℕ) → 1 ≤ width → 2 ≤ 2 ^ width
two-le-pow width some = pow-le-pow_right {n = 2} (omega arith) {i = 1} {j = width} some

-- a field of at most 5 bits is at most 31
pub pow-le-32 : (width : ℕ) → width ≤ 5 → 2 ^ width ≤ 32
pow-le-32 width small = pow-le-pow_right {n = 2} (omega arith) {i = width} {j = 5} small

-- one of at most 16 bits is at most 65,535
pow-le-65536 : (width : ℕ) → width ≤ 16 → 2 ^ width ≤ 65536
pow-le-65536 width small = pow-le-pow_right {n = 2} (omega arith) {i = width} {j = 16} small

-- what a valid field divides by is neither 0 nor above 2,147,483,648
pub record Divides (style : DivStyle) (field : ℕ) : Type 0 where
  pub some : 0 < divisor style field
  pub small : divisor style field ≤ 2147483648

pub valid_divide : (style : DivStyle) (width : ℕ) → IsDividerWidth style width → AllByRecursion (Divides style) (valid_fields style width)
unfolding valid_fields divisor
valid_divide Plain width right =
    let top = pow-le-65536 width right.1 in
    each_in_range (Divides Plain) 0 (2 ^ width) (λ e low high. record { some = omega arith; small = omega (arith, top) })
valid_divide OneBased width right =
    let top = pow-le-65536 width right.1 in
    each_in_range (Divides OneBased) 1 (2 ^ width - 1) (λ e low high. record { some = omega arith; small = omega (arith, top) })
valid_divide PowerOfTwo width right =
    let top = pow-le-32 width right.1 in
    each_in_range (Divides PowerOfTwo) 0 (2 ^ width) (λ e low high.
    let within : e ≤ 31 = omega (arith, top) in
    record { some = pow_pos e; small = pow-le-pow_right {n = 2} (omega arith) {i = e} {j = 31} within })

-- ---- the least field that divides by at least `wanted`

-- which field that is, up to the last
pub least_plain : (style : DivStyle) (wanted width last taken : ℕ) → style ≡ Plain → IsDividerWidth style width → last + 1 ≡ 2 ^ width → taken ≡ wanted - 1 → min taken last ≡ least_or_greatest (λ field. nat_le wanted (divisor style field)) (valid_fields style width)
unfolding valid_fields divisor
least_plain style wanted width last taken is right whole less =
    subst (λ s. min taken last ≡ least_or_greatest (λ field. nat_le wanted (divisor s field)) (valid_fields s width)) (sym is)
    (sym (same_least (λ field. nat_le wanted (field + 1)) (λ field. nat_le (wanted - 1) field) (range_with_len 0 (2 ^ width))
    (each_in_range (λ field. nat_le wanted (field + 1) ≡ nat_le (wanted - 1) field) 0 (2 ^ width)
    (λ e low high. same_le wanted (e + 1) (wanted - 1) e (λ h. omega arith) (λ h. omega arith)))
    ∙ least_from (wanted - 1) 0 (2 ^ width) (pow_pos width)
    ∙ (let end : min (max (wanted - 1) 0) (0 + 2 ^ width - 1) ≡ min taken last = omega arith in end)))

pub least_one_based : (style : DivStyle) (wanted width last taken : ℕ) → style ≡ OneBased → IsDividerWidth style width → last + 1 ≡ 2 ^ width → taken ≡ max wanted 1 → min taken last ≡ least_or_greatest (λ field. nat_le wanted (divisor style field)) (valid_fields style width)
unfolding valid_fields divisor
least_one_based style wanted width last taken is right whole more =
    let two = two-le-pow width (subst (λ s. IsDividerWidth s width) is right).0 in
    subst (λ s. min taken last ≡ least_or_greatest (λ field. nat_le wanted (divisor s field)) (valid_fields s width)) (sym is)
    (sym (least_from wanted 1 (2 ^ width - 1) (omega (arith, two))
    ∙ (let end : min (max wanted 1) (1 + (2 ^ width - 1) - 1) ≡ min taken last = omega (arith, two) in end)))

pub least_power : (style : DivStyle) (wanted width last taken : ℕ) → style ≡ PowerOfTwo → last + 1 ≡ 2 ^ width → wanted ≤ 2 ^ taken → ((k : ℕ) → wanted ≤ 2 ^ k → taken ≤ k) → min taken last ≡ least_or_greatest (λ field. nat_le wanted (divisor style field)) (valid_fields style width)
unfolding valid_fields divisor
least_power style wanted width last taken is whole reaches shortest =
    subst (λ s. min taken last ≡ least_or_greatest (λ field. nat_le wanted (divisor s field)) (valid_fields s width)) (sym is)
    (sym (same_least (λ field. nat_le wanted (2 ^ field)) (λ field. nat_le taken field) (range_with_len 0 (2 ^ width))
    (each_in_range (λ field. nat_le wanted (2 ^ field) ≡ nat_le taken field) 0 (2 ^ width)
    (λ e low high. same_le wanted (2 ^ e) taken e (λ h. shortest e h)
    (λ h. let more = pow-le-pow_right {n = 2} (omega arith) {i = taken} {j = e} h in omega (arith, more, reaches))))
    ∙ least_from taken 0 (2 ^ width) (pow_pos width)
    ∙ (let end : min (max taken 0) (0 + 2 ^ width - 1) ≡ min taken last = omega arith in end)))

-- no power below the logarithm's next reaches
pub no_lesser_power : (wanted log k : ℕ) → 2 ^ log ≤ wanted - 1 → 1 < wanted → wanted ≤ 2 ^ k → log + 1 ≤ k
no_lesser_power wanted log k under some reaches = elim (cases_lt log k) [
  | inl above ↦ omega arith
  | inr below ↦ absurd (let more = pow-le-pow_right {n = 2} (omega arith) {i = k} {j = log} below in omega (arith, more))
]

-- ---- the divisor of the least field is the least divisor

pow_keeps_min : (a b : ℕ) → 2 ^ min a b ≡ min (2 ^ a) (2 ^ b)
pow_keeps_min a b = elim (cases_lt a b) [
  | inl below ↦
      let more = pow-le-pow_right {n = 2} (omega arith) {i = a} {j = b} (omega arith) in
      ap (λ k. 2 ^ k) (min-eq_left {n = a} {m = b} (omega arith)) ∙ sym (min-eq_left more)
  | inr above ↦
      let more = pow-le-pow_right {n = 2} (omega arith) {i = b} {j = a} above in
      ap (λ k. 2 ^ k) (min-eq_right {n = b} {m = a} above) ∙ sym (min-eq_right {n = 2 ^ b} {m = 2 ^ a} more)
]

pow_keeps_max : (a b : ℕ) → 2 ^ max a b ≡ max (2 ^ a) (2 ^ b)
pow_keeps_max a b = elim (cases_lt a b) [
  | inl below ↦
      let more = pow-le-pow_right {n = 2} (omega arith) {i = a} {j = b} (omega arith) in
      ap (λ k. 2 ^ k) (max-eq_right {n = a} {m = b} (omega arith)) ∙ sym (max-eq_right more)
  | inr above ↦
      let more = pow-le-pow_right {n = 2} (omega arith) {i = b} {j = a} above in
      ap (λ k. 2 ^ k) (max-eq_left {n = a} {m = b} above) ∙ sym (max-eq_left {n = 2 ^ a} {m = 2 ^ b} more)
]

-- a greater field divides by more
pub divisor_keeps_order : (style : DivStyle) → KeepsOrder (divisor style)
unfolding divisor
divisor_keeps_order Plain = record { least_of_two = λ a b. omega arith; greatest_of_two = λ a b. omega arith }
divisor_keeps_order OneBased = record { least_of_two = λ a b. refl; greatest_of_two = λ a b. refl }
divisor_keeps_order PowerOfTwo = record { least_of_two = pow_keeps_min; greatest_of_two = pow_keeps_max }

pub divisor_rises : (style : DivStyle) (low high : ℕ) → low ≤ high → divisor style low ≤ divisor style high
unfolding divisor
divisor_rises Plain low high below = omega arith
divisor_rises OneBased low high below = below
divisor_rises PowerOfTwo low high below = pow-le-pow_right {n = 2} (omega arith) {i = low} {j = high} below

-- a range that isn't empty begins with its first
range_more : (a n : ℕ) → 0 < n → range_with_len a n ≡ a ∷ range_with_len (a + 1) (n - 1)
range_more a zero some = absurd (omega arith)
range_more a (suc n) some = let less : n ≡ suc n - 1 = omega arith in ap (λ k. a ∷ range_with_len (a + 1) k) less

-- there is a valid field
pub valid_fields_some : (style : DivStyle) (width : ℕ) → IsDividerWidth style width → (x : ℕ) × (xs : List ℕ) × (valid_fields style width ≡ x ∷ xs)
unfolding valid_fields
valid_fields_some Plain width right = (0, range_with_len 1 (2 ^ width - 1), range_more 0 (2 ^ width) (pow_pos width))
valid_fields_some OneBased width right =
    let two = two-le-pow width right.0 in
    (1, range_with_len 2 (2 ^ width - 1 - 1), range_more 1 (2 ^ width - 1) (omega (arith, two)))
valid_fields_some PowerOfTwo width right = (0, range_with_len 1 (2 ^ width - 1), range_more 0 (2 ^ width) (pow_pos width))

pub round_by_field : (style : DivStyle) (parent rate width : ℕ) → IsDividerWidth style width → div_round parent rate width style ≡ divisor style (least_or_greatest (λ field. nat_le (div_ceil parent (max rate 1)) (divisor style field)) (valid_fields style width))
unfolding div_round valid_divisors
round_by_field style parent rate width right =
    let some = valid_fields_some style width right in
    ap (λ fields. least_or_greatest (λ d. nat_le (div_ceil parent (max rate 1)) d) (map (divisor style) fields)) some.2
    ∙ least_or_greatest-map (λ d. nat_le (div_ceil parent (max rate 1)) d) (divisor style) (divisor_keeps_order style) some.0 some.1
    ∙ sym (ap (λ fields. divisor style (least_or_greatest (λ field. nat_le (div_ceil parent (max rate 1)) (divisor style field)) fields)) some.2)

-- the same of the field that was found
pub round_taken : (style : DivStyle) (parent rate width wanted field : ℕ) → IsDividerWidth style width → wanted ≡ div_ceil parent (max rate 1) → field ≡ least_or_greatest (λ f. nat_le wanted (divisor style f)) (valid_fields style width) → divisor style field ≡ div_round parent rate width style
round_taken style parent rate width wanted field right is found =
    ap (divisor style) (found ∙ ap (λ n. least_or_greatest (λ f. nat_le n (divisor style f)) (valid_fields style width)) is)
    ∙ sym (round_by_field style parent rate width right)

-- ---- the rate

-- a field that divides gives the quotient rounded up
pub div_rate_divides : (style : DivStyle) (parent field : ℕ) → 0 < divisor style field → div_rate parent field style ≡ div_ceil parent (divisor style field)
unfolding div_rate
div_rate_divides style parent field some =
    cond-false (nat_eq (divisor style field) 0) parent (div_ceil parent (divisor style field))
    (ne_eqb (divisor style field) 0 (λ none. absurd (omega arith)))

-- a field that doesn't leaves the parent's rate
pub div_rate_leaves : (style : DivStyle) (parent field : ℕ) → divisor style field ≡ 0 → div_rate parent field style ≡ parent
unfolding div_rate
div_rate_leaves style parent field none =
    cond-true (nat_eq (divisor style field) 0) parent (div_ceil parent (divisor style field)) (eq-eqb (divisor style field) 0 none)

-- ---- the divisor of each style

pub divisor_plain : (style : DivStyle) (field : ℕ) → style ≡ Plain → divisor style field ≡ field + 1
unfolding divisor
divisor_plain style field is = ap (λ s. divisor s field) is

pub divisor_one_based : (style : DivStyle) (field : ℕ) → style ≡ OneBased → divisor style field ≡ field
unfolding divisor
divisor_one_based style field is = ap (λ s. divisor s field) is

pub divisor_power : (style : DivStyle) (field : ℕ) → style ≡ PowerOfTwo → divisor style field ≡ 2 ^ field
unfolding divisor
divisor_power style field is = ap (λ s. divisor s field) is

-- a rate by the number that the field divides by
pub div_rate_by : (style : DivStyle) (parent field d result : ℕ) → divisor style field ≡ d → 0 < d → result ≡ div_ceil parent d → result ≡ div_rate parent field style
div_rate_by style parent field d result divides some is =
    is ∙ sym (div_rate_divides style parent field (subst (λ n. 0 < n) (sym divides) some) ∙ ap (div_ceil parent) divides)

-- a divisor that no parent reaches leaves 1, or 0 of 0
pub div_ceil_beyond : (parent d : ℕ) → parent < d → div_ceil parent d ≡ min parent 1
div_ceil_beyond parent d beyond =
    let whole = div-eq_of_lt {n = parent} {m = d} beyond in
    let rest = mod-eq_of_lt {n = parent} {m = d} beyond in
    omega (arith, whole, rest)

-- ---- the field for a planned rate

-- the setting by a test of the divisor that says the same of each valid field
pub setting_is : (style : DivStyle) (parent rate width wanted : ℕ) → IsDividerWidth style width → ((field : ℕ) → Divides style field → nat_le (div_rate parent field style) rate ≡ nat_le wanted (divisor style field)) → div_setting parent rate width style ≡ least_or_greatest (λ field. nat_le wanted (divisor style field)) (valid_fields style width)
unfolding div_setting
setting_is style parent rate width wanted right same =
    same_least (λ field. nat_le (div_rate parent field style) rate) (λ field. nat_le wanted (divisor style field)) (valid_fields style width)
    (each_weaker (Divides style) (λ field. nat_le (div_rate parent field style) rate ≡ nat_le wanted (divisor style field)) same (valid_fields style width) (valid_divide style width right))
  where
    each_weaker : (P Q : ℕ → Type 0) → ((x : ℕ) → P x → Q x) → (xs : List ℕ) → AllByRecursion P xs → AllByRecursion Q xs
    each_weaker P Q more [] each = tt
    each_weaker P Q more (x ∷ xs) each = (more x each.0, each_weaker P Q more xs each.1)

-- a planned rate that isn't 0 wants the parent's rate over it
pub wanted_of_rate : (style : DivStyle) (parent rate field : ℕ) → 0 < rate → Divides style field → nat_le (div_rate parent field style) rate ≡ nat_le (div_ceil parent rate) (divisor style field)
wanted_of_rate style parent rate field some divides =
    ap (λ r. nat_le r rate) (div_rate_divides style parent field divides.some)
    ∙ ceil_exchange parent (divisor style field) rate divides.some some

-- over a parent of 0 every divisor gives 0
pub wanted_of_nothing : (style : DivStyle) (parent rate field : ℕ) → rate ≡ 0 → parent ≡ 0 → Divides style field → nat_le (div_rate parent field style) rate ≡ nat_le 0 (divisor style field)
wanted_of_nothing style parent rate field none none' divides =
    ap (λ r. nat_le r rate) (div_rate_divides style parent field divides.some)
    ∙ same_le (div_ceil parent (divisor style field)) rate 0 (divisor style field) (λ h. omega arith)
    (λ h. ceil-le parent (divisor style field) rate divides.some (omega arith))

-- over any other none does, as if the greatest number were wanted
pub wanted_of_zero : (style : DivStyle) (parent rate field : ℕ) → rate ≡ 0 → 0 < parent → Divides style field → nat_le (div_rate parent field style) rate ≡ nat_le 18446744073709551615 (divisor style field)
wanted_of_zero style parent rate field none some divides =
    let small = divides.small in
    ap (λ r. nat_le r rate) (div_rate_divides style parent field divides.some)
    ∙ same_le (div_ceil parent (divisor style field)) rate 18446744073709551615 (divisor style field)
    (λ h. absurd (let reach = ceil-reaches parent (divisor style field) rate divides.some h in
    let nothing : rate * divisor style field ≡ 0 = ap (λ r. r * divisor style field) none ∙ zero-mul (divisor style field) in
    omega (arith, reach, nothing)))
    (λ h. absurd (omega (arith, small)))

-- a number of a list is in it
pub IsIn-from_at : (d : ℕ) (xs : List ℕ) (k : ℕ) → k < length xs → get_or xs k d ≡ d → IsIn d xs
IsIn-from_at d [] k within same = absurd (omega arith)
IsIn-from_at d (x ∷ xs) zero within same = inl same
IsIn-from_at d (x ∷ xs) (suc k) within same = inr (IsIn-from_at d xs k (omega arith) same)

-- a lesser divisor gives no lesser rate
pub div_rate_falls : (style : DivStyle) (parent low high : ℕ) → Divides style low → Divides style high → low ≤ high → div_rate parent high style ≤ div_rate parent low style
div_rate_falls style parent low high divides divides' below =
    let order : divisor style low ≤ divisor style high = divisor_rises style low high below in
    let falls = ceil-falls parent (divisor style high) (divisor style low) divides.some order in
    let here = div_rate_divides style parent low divides.some in
    let there = div_rate_divides style parent high divides'.some in
    omega (arith, falls, here, there)

-- what holds of each holds of one
pub each_at : (P : ℕ → Type 0) (xs : List ℕ) (d : ℕ) → AllByRecursion P xs → IsIn d xs → P d
each_at P [] d each within = absurd within
each_at P (x ∷ xs) d each (inl same) = subst P same each.0
each_at P (x ∷ xs) d each (inr within) = each_at P xs d each.1 within

-- where one passes, the setting is the least that does
setting_found : (style : DivStyle) (parent rate width r : ℕ) → reduce min (filter (λ f. nat_le (div_rate parent f style) rate) (valid_fields style width)) ≡ Some r → div_setting parent rate width style ≡ r
unfolding div_setting least_or_greatest least
setting_found style parent rate width r found = ap (λ o. unwrap_or o (greatest_of (valid_fields style width))) found

-- a rate that a valid field gives is given back
pub setting_gives_back : (style : DivStyle) (parent rate width field : ℕ) → IsDividerWidth style width → Contains (valid_fields style width) field → rate ≡ div_rate parent field style → div_rate parent (div_setting parent rate width style) style ≡ rate
setting_gives_back style parent rate width field right among gives =
    let p : ℕ → Bool = λ f. nat_le (div_rate parent f style) rate in
    let each = valid_divide style width right in
    let within = IsIn-from_at field (valid_fields style width) among.0 among.1 among.2 in
    let divides = each_at (Divides style) (valid_fields style width) field each within in
    let passes : p field ≡ true = le-leb (div_rate parent field style) rate (omega arith) in
    let found = chosen min_prefers p (Divides style) (valid_fields style width) field each within passes in
    let below = leb-true (div_rate parent found.0 style) rate found.2.passes in
    let falls = div_rate_falls style parent found.0 field found.2.holds divides found.2.preferred in
    ap (λ f. div_rate parent f style) (setting_found style parent rate width found.0 found.1)
    ∙ (let same : div_rate parent found.0 style ≡ rate = omega (arith, below, falls, gives) in same)
