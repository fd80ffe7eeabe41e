-- The two valid fields between whose rates no valid field has one, and the nearer one of their rates.
use Rattle.std.proofs.Common.{◌≡◌, ℕ, ◌+◌, ◌-◌, ◌^◌, ◌<◌, ◌≤◌, refl, sym, ◌∙◌, ap, subst, arith, ◌⊎◌, inl, inr, List, [], ◌∷◌, map, Bool, true, false, max, length, nat_le}
use Rattle.std.specs.List.{AllByRecursion, range_with_len}
use Rattle.std.specs.Int.{div_ceil}
use Rattle.std.proofs.lemmas.Bool.{cases_lt, le-leb, leb-true, true≢false}
use Rattle.kind_math.specs.declared.div_style.DivStyle.{DivStyle}
use Rattle.kind_math.specs.declared.div_style.DivStyle.TheVariants.{Plain, OneBased, PowerOfTwo}
use Rattle.kind_math.specs.Rates.{divisor, div_rate}
use Rattle.kind_math.specs.Closest.{nearer, closest}
use Rattle.kind_math.specs.Dividers.{IsDividerWidth, valid_fields, first_field, valid_divisors, least_or_greatest, div_round, div_round_closest}
use Rattle.kind_math.proofs.Chosen.{IsIn}
use Rattle.kind_math.proofs.ClosestLaws.{IsNearer, nearer_prefers, IsClosestRate, closest_by_rounding}
use Rattle.kind_math.proofs.DivisorLaws.{Divides, valid_divide, valid_fields_some, div_rate_divides, div_rate_falls, each_at}
use Rattle.kind_math.proofs.Picked.{Picked, picked}
use Rattle.kind_math.proofs.Quotients.{ceil_exchange}
use Rattle.kind_math.proofs.Ranges.{each_in_range, in_range}

-- ---- the valid fields are a range

count_of : DivStyle → ℕ → ℕ
count_of Plain width = 2 ^ width
count_of OneBased width = 2 ^ width - 1
count_of PowerOfTwo width = 2 ^ width

fields_are : (style : DivStyle) (width : ℕ) → valid_fields style width ≡ range_with_len (first_field style) (count_of style width)
unfolding valid_fields count_of
fields_are Plain width = refl
fields_are OneBased width = refl
fields_are PowerOfTwo width = refl

each_above : (a n : ℕ) → AllByRecursion (λ e. a ≤ e) (range_with_len a n)
each_above a n = each_in_range (λ e. a ≤ e) a n (λ e low high. low)

each_below : (a n : ℕ) → AllByRecursion (λ e. e < a + n) (range_with_len a n)
each_below a n = each_in_range (λ e. e < a + n) a n (λ e low high. high)

-- a valid field is none before the first
from_first : (style : DivStyle) (width e : ℕ) → IsIn e (valid_fields style width) → first_field style ≤ e
from_first style width e there =
    each_at (λ f. first_field style ≤ f) (range_with_len (first_field style) (count_of style width)) e (each_above (first_field style) (count_of style width))
    (subst (IsIn e) (fields_are style width) there)

-- a number between two valid fields is one
between : (style : DivStyle) (width e f : ℕ) → IsIn f (valid_fields style width) → first_field style ≤ e → e ≤ f → IsIn e (valid_fields style width)
between style width e f there low high =
    let below = each_at (λ k. k < first_field style + count_of style width) (range_with_len (first_field style) (count_of style width)) f
    (each_below (first_field style) (count_of style width)) (subst (IsIn f) (fields_are style width) there) in
    subst (IsIn e) (sym (fields_are style width)) (in_range e (first_field style) (count_of style width) low (omega (arith, high, below)))

-- ---- the rate of each field against those of the two

-- a field that reaches the divisor of a wanted rate gives no more than that
reaches : (style : DivStyle) (parent wanted field : ℕ) → 0 < wanted → Divides style field → nat_le (div_ceil parent wanted) (divisor style field) ≡ nat_le (div_rate parent field style) wanted
reaches style parent wanted field some divides =
    sym (ap (λ r. nat_le r wanted) (div_rate_divides style parent field divides.some) ∙ ceil_exchange parent (divisor style field) wanted divides.some some)

under : (wanted low other : ℕ) → low ≤ wanted → other ≤ low → IsNearer wanted low other
under wanted low other below less = elim (cases_lt other low) [
  | inl lower ↦ inl (omega arith)
  | inr same ↦ inr (omega arith, omega arith)
]

over : (wanted high other : ℕ) → wanted < high → high ≤ other → IsNearer wanted high other
over wanted high other above more = elim (cases_lt high other) [
  | inl higher ↦ inl (omega arith)
  | inr same ↦ inr (omega arith, more)
]

-- one of the two rates is at least as near as that of each valid field
one_of_two : (style : DivStyle) (width parent wanted g b : ℕ) → 0 < wanted → IsDividerWidth style width
    → Picked (λ f. nat_le (div_ceil parent wanted) (divisor style f)) (valid_fields style width) g → b ≡ max (first_field style) (g - 1)
    → (e : ℕ) → IsIn e (valid_fields style width) → IsNearer wanted (div_rate parent g style) (div_rate parent e style) ⊎ IsNearer wanted (div_rate parent b style) (div_rate parent e style)
one_of_two style width parent wanted g b some right is before e there = by_case is.case where
  each : (f : ℕ) → IsIn f (valid_fields style width) → Divides style f
  each f among = each_at (Divides style) (valid_fields style width) f (valid_divide style width right) among

  b_there : IsIn b (valid_fields style width)
  b_there =
      let low = from_first style width g is.within in
      between style width b g is.within (omega (arith, before)) (omega (arith, before, low))

  b_divides : Divides style b
  b_divides = each b b_there

  rate_of : ℕ → ℕ
  rate_of f = div_rate parent f style

  reached : (f : ℕ) → IsIn f (valid_fields style width) → nat_le (div_ceil parent wanted) (divisor style f) ≡ true → rate_of f ≤ wanted
  reached f among good = leb-true (rate_of f) wanted (sym (reaches style parent wanted f some (each f among)) ∙ good)

  missed : (f : ℕ) → IsIn f (valid_fields style width) → (nat_le (div_ceil parent wanted) (divisor style f) ≡ true → ⊥) → wanted < rate_of f
  missed f among bad = elim (cases_lt wanted (rate_of f)) [
    | inl above ↦ above
    | inr below ↦ absurd (bad (reaches style parent wanted f some (each f among) ∙ le-leb (rate_of f) wanted below))
  ]

  by_case : ((nat_le (div_ceil parent wanted) (divisor style g) ≡ true) × ((f : ℕ) → IsIn f (valid_fields style width) → nat_le (div_ceil parent wanted) (divisor style f) ≡ true → g ≤ f))
      ⊎ (((f : ℕ) → IsIn f (valid_fields style width) → nat_le (div_ceil parent wanted) (divisor style f) ≡ false) × ((f : ℕ) → IsIn f (valid_fields style width) → f ≤ g))
      → IsNearer wanted (rate_of g) (rate_of e) ⊎ IsNearer wanted (rate_of b) (rate_of e)
  by_case (inl least) = elim (cases_lt e g) [
    | inl lower ↦
        let low = from_first style width e there in
        let not_e : wanted < rate_of b =
        missed b b_there (λ good. let no = least.1 b b_there good in absurd (omega (arith, no, before, low, lower))) in
        let more = div_rate_falls style parent e b (each e there) b_divides (omega (arith, before, low, lower)) in
        inr (over wanted (rate_of b) (rate_of e) not_e more)
    | inr higher ↦
        let less = div_rate_falls style parent g e (each g is.within) (each e there) higher in
        inl (under wanted (rate_of g) (rate_of e) (reached g is.within least.0) less)
  ]
  by_case (inr none) =
      let not_g : wanted < rate_of g = missed g is.within (λ good. absurd (true≢false (sym good ∙ none.0 g is.within))) in
      let more = div_rate_falls style parent e g (each e there) (each g is.within) (none.1 e there) in
      inl (over wanted (rate_of g) (rate_of e) not_g more)

-- ---- the nearer one is the closest rate

in_divisors : (style : DivStyle) (f : ℕ) (fields : List ℕ) → IsIn f fields → IsIn (divisor style f) (map (divisor style) fields)
in_divisors style f [] there = absurd there
in_divisors style f (x ∷ xs) (inl same) = inl (ap (divisor style) same)
in_divisors style f (x ∷ xs) (inr there) = inr (in_divisors style f xs there)

field_of : (style : DivStyle) (d : ℕ) (fields : List ℕ) → IsIn d (map (divisor style) fields) → (f : ℕ) × IsIn f fields × (divisor style f ≡ d)
field_of style d [] there = absurd there
field_of style d (x ∷ xs) (inl same) = (x, inl refl, same)
field_of style d (x ∷ xs) (inr there) = let found = field_of style d xs there in (found.0, inr found.1, found.2)

each_divides : (style : DivStyle) (fields : List ℕ) → AllByRecursion (Divides style) fields → AllByRecursion (λ d. 0 < d) (map (divisor style) fields)
each_divides style [] each = tt
each_divides style (x ∷ xs) each = (each.0.some, each_divides style xs each.1)

positive_divisors : (style : DivStyle) (width : ℕ) → IsDividerWidth style width → AllByRecursion (λ d. 0 < d) (valid_divisors style width)
unfolding valid_divisors
positive_divisors style width right = each_divides style (valid_fields style width) (valid_divide style width right)

-- there is a valid divisor
some_divisors : (style : DivStyle) (width : ℕ) → IsDividerWidth style width → 0 < length (valid_divisors style width)
unfolding valid_divisors
some_divisors style width right =
    let some = valid_fields_some style width right in
    subst (λ fields. 0 < length (map (divisor style) fields)) (sym some.2) (omega arith)

some_fields : (style : DivStyle) (width : ℕ) → IsDividerWidth style width → 0 < length (valid_fields style width)
some_fields style width right =
    let some = valid_fields_some style width right in
    subst (λ fields. 0 < length fields) (sym some.2) (omega arith)

-- the nearer one of the two rates is the closest
nearer_is_closest : (style : DivStyle) (width parent wanted g b : ℕ) → 0 < wanted → IsDividerWidth style width
    → Picked (λ f. nat_le (div_ceil parent wanted) (divisor style f)) (valid_fields style width) g → b ≡ max (first_field style) (g - 1)
    → IsClosestRate parent wanted (nearer wanted (div_rate parent g style) (div_rate parent b style)) (valid_divisors style width)
unfolding valid_divisors
nearer_is_closest style width parent wanted g b some right is before = record { given = given; nearest = nearest } where
  each : (f : ℕ) → IsIn f (valid_fields style width) → Divides style f
  each f among = each_at (Divides style) (valid_fields style width) f (valid_divide style width right) among

  b_there : IsIn b (valid_fields style width)
  b_there =
      let low = from_first style width g is.within in
      between style width b g is.within (omega (arith, before)) (omega (arith, before, low))

  of_field : (f : ℕ) → IsIn f (valid_fields style width) → (r : ℕ) → r ≡ div_rate parent f style
      → (d : ℕ) × IsIn d (map (divisor style) (valid_fields style width)) × (div_ceil parent d ≡ r)
  of_field f among r same =
      (divisor style f, in_divisors style f (valid_fields style width) among, sym (div_rate_divides style parent f (each f among).some) ∙ sym same)

  given : (d : ℕ) × IsIn d (map (divisor style) (valid_fields style width)) × (div_ceil parent d ≡ nearer wanted (div_rate parent g style) (div_rate parent b style))
  given = elim ((nearer_prefers wanted).one (div_rate parent g style) (div_rate parent b style)) [
    | inl same ↦ of_field g is.within (nearer wanted (div_rate parent g style) (div_rate parent b style)) same
    | inr same ↦ of_field b b_there (nearer wanted (div_rate parent g style) (div_rate parent b style)) same
  ]

  nearest : (d : ℕ) → IsIn d (map (divisor style) (valid_fields style width)) → IsNearer wanted (nearer wanted (div_rate parent g style) (div_rate parent b style)) (div_ceil parent d)
  nearest d among =
      let field = field_of style d (valid_fields style width) among in
      let gives : div_rate parent field.0 style ≡ div_ceil parent d =
      div_rate_divides style parent field.0 (each field.0 field.1).some ∙ ap (div_ceil parent) field.2 in
      let near = nearer wanted (div_rate parent g style) (div_rate parent b style) in
      subst (IsNearer wanted near) gives (elim (one_of_two style width parent wanted g b some right is before field.0 field.1) [
        | inl h ↦ (nearer_prefers wanted).chain near (div_rate parent g style) (div_rate parent field.0 style)
            ((nearer_prefers wanted).first (div_rate parent g style) (div_rate parent b style)) h
        | inr h ↦ (nearer_prefers wanted).chain near (div_rate parent b style) (div_rate parent field.0 style)
            ((nearer_prefers wanted).second (div_rate parent g style) (div_rate parent b style)) h
      ])

-- so rounding to it gives the closest divisor
pub round_closest : (style : DivStyle) (width parent rate wanted g b near : ℕ) → IsDividerWidth style width → wanted ≡ max rate 1
    → g ≡ least_or_greatest (λ f. nat_le (div_ceil parent wanted) (divisor style f)) (valid_fields style width) → b ≡ max (first_field style) (g - 1)
    → near ≡ nearer wanted (div_rate parent g style) (div_rate parent b style) → div_round parent near width style ≡ div_round_closest parent rate width style
unfolding div_round div_round_closest
round_closest style width parent rate wanted g b near right is found before nears =
    let some : 0 < wanted = omega (arith, is) in
    let passes : ℕ → Bool = λ f. nat_le (div_ceil parent wanted) (divisor style f) in
    let g_is = subst (Picked passes (valid_fields style width)) (sym found) (picked passes (valid_fields style width) (some_fields style width right)) in
    closest_by_rounding parent wanted near (div_round parent near width style) (valid_divisors style width)
    (positive_divisors style width right)
    (some_divisors style width right)
    (subst (λ r. IsClosestRate parent wanted r (valid_divisors style width)) (sym nears) (nearer_is_closest style width parent wanted g b some right g_is before))
    refl
    ∙ ap (λ w. closest parent w (valid_divisors style width)) is
