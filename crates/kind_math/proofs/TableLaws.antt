-- Laws on tables of divisors.
use Rattle.std.proofs.Common.{◌≡◌, ℕ, ◌*◌, ◌<◌, ◌≤◌, refl, sym, ◌∙◌, ap, subst, arith, ◌⊎◌, inl, inr, List, [], ◌∷◌, map, Bool, true, false, min, max, length, Option, Some, None, nat_le, nat_eq, get_or, zero-mul}
use Rattle.std.specs.List.{AllByRecursion, Contains, IsDistinct, find, reduce, fold}
use Rattle.std.specs.Option.{option_map_or, unwrap_or}
use Rattle.std.specs.Int.{div_ceil}
use Rattle.std.proofs.lemmas.Bool.{cases_Bool, cases_lt, cond-true, cond-false, eq-eqb, eqb-true, ne_eqb, le-leb, lt-leb, leb-true, true≢false}
use Rattle.std.proofs.lemmas.List.Elements.{recursion_from_All}
use Rattle.kind_math.specs.declared.table_row.TableRow.{TableRow}
use Rattle.kind_math.specs.Choices.{least, greatest_of}
use Rattle.kind_math.specs.Closest.{nearer, nearest, rates_by, closest}
use Rattle.kind_math.specs.Dividers.{least_or_greatest}
use Rattle.kind_math.specs.Tables.{IsTable, divisors_of, divisor_of, value_of, table_rate, table_round, planned_divisor, table_setting, lesser}
use Rattle.kind_math.proofs.Chosen.{IsIn, filter_one, filter_not, filter_none}
use Rattle.kind_math.proofs.ClosestLaws.{nearer_prefers, IsClosestRate, nearest_among, closest_by_rounding}
use Rattle.kind_math.proofs.DivisorLaws.{each_at, IsIn-from_at}
use Rattle.kind_math.proofs.Picked.{Picked, picked}
use Rattle.kind_math.proofs.Quotients.{ceil_exchange, ceil-le, ceil-reaches, ceil-falls}
use Rattle.kind_math.proofs.Ranges.{same_least}

-- ---- what the loops begin with

pub divisor_sought : (table : List TableRow) (value : ℕ) → option_map_or (λ row. row.div) (find (λ row. nat_eq row.value value) table) 0 ≡ divisor_of table value
unfolding divisor_of
divisor_sought table value = refl

pub value_sought : (table : List TableRow) (div : ℕ) → option_map_or (λ row. row.value) (find (λ row. nat_eq row.div div) table) 0 ≡ value_of table div
unfolding value_of
value_sought table div = refl

pub greatest_begins : (divisors : List ℕ) → fold max 0 divisors ≡ greatest_of divisors
unfolding greatest_of
greatest_begins divisors = refl

-- over the rate of the first row, all rates with that one once more give the nearest
pub nearest_begins : (parent wanted first : ℕ) (other : TableRow) (table : List TableRow) → 0 < length table → first ≡ div_ceil parent (get_or table 0 other).div
    → fold (nearer wanted) first (rates_by parent (divisors_of table)) ≡ nearest wanted (rates_by parent (divisors_of table))
unfolding nearest
nearest_begins parent wanted first other [] some is = absurd (omega arith)
nearest_begins parent wanted first other (row ∷ rows) some is =
    ap (λ (r : ℕ). fold (nearer wanted) (nearer wanted r (div_ceil parent row.div)) (rates_by parent (divisors_of rows))) is
    ∙ ap (λ (r : ℕ). fold (nearer wanted) r (rates_by parent (divisors_of rows)))
    ((nearer_prefers wanted).left (div_ceil parent row.div) (div_ceil parent row.div) ((nearer_prefers wanted).itself (div_ceil parent row.div)))

-- ---- the least divisor that passes, found one after the other

pub lesser_skips : (passes : ℕ → Bool) (found : Option ℕ) (d : ℕ) (ds : List ℕ) → passes d ≡ false → lesser passes found ds ≡ lesser passes found (d ∷ ds)
unfolding least
lesser_skips passes None d ds bad = ap (reduce min) (sym (filter_not passes d ds bad))
lesser_skips passes (Some other) d ds bad = ap (λ ys. Some (fold min other ys)) (sym (filter_not passes d ds bad))

pub lesser_first : (passes : ℕ → Bool) (d : ℕ) (ds : List ℕ) → passes d ≡ true → lesser passes (Some d) ds ≡ lesser passes None (d ∷ ds)
unfolding least
lesser_first passes d ds good = ap (reduce min) (sym (filter_one passes d ds good))

pub lesser_takes : (passes : ℕ → Bool) (other d : ℕ) (ds : List ℕ) → passes d ≡ true → lesser passes (Some (min other d)) ds ≡ lesser passes (Some other) (d ∷ ds)
lesser_takes passes other d ds good = ap (λ ys. Some (fold min other ys)) (sym (filter_one passes d ds good))

pub picked_some : (passes : ℕ → Bool) (divisors : List ℕ) (d : ℕ) → least passes divisors ≡ Some d → d ≡ least_or_greatest passes divisors
unfolding least_or_greatest
picked_some passes divisors d is = sym (ap (λ o. unwrap_or o (greatest_of divisors)) is)

pub picked_none : (passes : ℕ → Bool) (divisors : List ℕ) (d : ℕ) → least passes divisors ≡ None → d ≡ greatest_of divisors → d ≡ least_or_greatest passes divisors
unfolding least_or_greatest
picked_none passes divisors d none is = is ∙ sym (ap (λ o. unwrap_or o (greatest_of divisors)) none)

-- ---- the rate

pub rate_leaves : (parent field : ℕ) (table : List TableRow) → divisor_of table field ≡ 0 → parent ≡ table_rate parent field table
unfolding table_rate
rate_leaves parent field table none = sym (cond-true (nat_eq (divisor_of table field) 0) parent _ (eq-eqb (divisor_of table field) 0 none))

pub rate_divides : (parent field d : ℕ) (table : List TableRow) → d ≡ divisor_of table field → 0 < d → div_ceil parent d ≡ table_rate parent field table
unfolding table_rate
rate_divides parent field d table is some =
    ap (div_ceil parent) is
    ∙ sym (cond-false (nat_eq (divisor_of table field) 0) parent _ (ne_eqb (divisor_of table field) 0 (λ none. absurd (omega (arith, is, none)))))

-- ---- the divisors

pub each_divides : (table : List TableRow) → AllByRecursion (λ row. 0 < row.div) table → AllByRecursion (λ d. 0 < d) (divisors_of table)
each_divides [] each = tt
each_divides (row ∷ rows) each = (each.0, each_divides rows each.1)

some_divisors : (table : List TableRow) → 0 < length table → 0 < length (divisors_of table)
some_divisors [] some = absurd (omega arith)
some_divisors (row ∷ rows) some = omega arith

-- the divisor for a wanted rate
pub round_plain : (parent rate wanted d : ℕ) (table : List TableRow) (to_closest : Bool) → to_closest ≡ false → wanted ≡ max rate 1
    → d ≡ least_or_greatest (λ e. nat_le (div_ceil parent wanted) e) (divisors_of table) → d ≡ table_round parent rate table to_closest
unfolding table_round
round_plain parent rate wanted d table to_closest plain is found =
    found ∙ ap (λ w. least_or_greatest (λ e. nat_le (div_ceil parent w) e) (divisors_of table)) is
    ∙ sym (cond-false to_closest _ _ plain)

pub round_to_closest : (parent rate wanted near d : ℕ) (table : List TableRow) (to_closest : Bool) → IsTable table → to_closest ≡ true → wanted ≡ max rate 1
    → near ≡ nearest wanted (rates_by parent (divisors_of table)) → d ≡ least_or_greatest (λ e. nat_le (div_ceil parent (max near 1)) e) (divisors_of table)
    → d ≡ table_round parent rate table to_closest
unfolding table_round
round_to_closest parent rate wanted near d table to_closest is closely wants nears found =
    let some = some_divisors table is.some in
    closest_by_rounding parent wanted near d (divisors_of table) (each_divides table (recursion_from_All (λ row. 0 < row.div) table is.divides)) some
    (subst (λ r. IsClosestRate parent wanted r (divisors_of table)) (sym nears) (nearest_among parent wanted (divisors_of table) some))
    found
    ∙ ap (λ w. closest parent w (divisors_of table)) wants
    ∙ sym (cond-true to_closest _ _ closely)

-- ---- the setting

-- tests that agree at each number but 0 pick the same
tests_agree : (p q : ℕ → Bool) (table : List TableRow) → IsTable table → ((d : ℕ) → 0 < d → p d ≡ q d) → least_or_greatest p (divisors_of table) ≡ least_or_greatest q (divisors_of table)
tests_agree p q table is same = same_least p q (divisors_of table) (agree table (recursion_from_All (λ row. 0 < row.div) table is.divides))
  where
    agree : (rows : List TableRow) → AllByRecursion (λ row. 0 < row.div) rows → AllByRecursion (λ d. p d ≡ q d) (divisors_of rows)
    agree [] each = tt
    agree (row ∷ rows) each = (same row.div each.0, agree rows each.1)

-- a planned rate of 0 over another parent than 0 takes the greatest
pub planned_nothing : (parent rate : ℕ) (table : List TableRow) → IsTable table → rate ≡ 0 → 0 < parent → greatest_of (divisors_of table) ≡ planned_divisor parent rate table
unfolding planned_divisor least_or_greatest least
planned_nothing parent rate table is none some =
    sym (ap (λ ys. unwrap_or (reduce min ys) (greatest_of (divisors_of table)))
    (filter_none (λ d. nat_le (div_ceil parent d) rate) (divisors_of table) (each table (recursion_from_All (λ row. 0 < row.div) table is.divides))))
  where
    missed : (d : ℕ) → 0 < d → nat_le (div_ceil parent d) rate ≡ false
    missed d divides = lt-leb (div_ceil parent d) rate (elim (cases_lt rate (div_ceil parent d)) [
      | inl above ↦ above
      | inr below ↦ absurd (
          let reach = ceil-reaches parent d rate divides below in
          let nothing : rate * d ≡ 0 = ap (λ r. r * d) none ∙ zero-mul d in
          omega (arith, reach, nothing))
    ])

    each : (rows : List TableRow) → AllByRecursion (λ row. 0 < row.div) rows → AllByRecursion (λ d. nat_le (div_ceil parent d) rate ≡ false) (divisors_of rows)
    each [] divides = tt
    each (row ∷ rows) divides = (missed row.div divides.0, each rows divides.1)

-- another one takes the divisor that reaches the parent's rate over it
pub planned_by : (parent rate d : ℕ) (table : List TableRow) → IsTable table → (rate ≡ 0 → parent ≡ 0)
    → d ≡ least_or_greatest (λ e. nat_le (div_ceil parent (max rate 1)) e) (divisors_of table) → d ≡ planned_divisor parent rate table
unfolding planned_divisor
planned_by parent rate d table is nothing found =
    found ∙ tests_agree (λ e. nat_le (div_ceil parent (max rate 1)) e) (λ e. nat_le (div_ceil parent e) rate) table is same
  where
    same : (e : ℕ) → 0 < e → nat_le (div_ceil parent (max rate 1)) e ≡ nat_le (div_ceil parent e) rate
    same e divides = elim (cases_lt 0 rate) [
      | inl some ↦ sym (ap (λ r. nat_le (div_ceil parent e) r) (let is : rate ≡ max rate 1 = omega arith in is) ∙ ceil_exchange parent e (max rate 1) divides (omega arith))
      | inr none ↦
          let over_nothing : parent ≡ 0 = nothing (omega arith) in
          let gives : div_ceil parent e ≤ 0 = ceil-le parent e 0 divides (omega (arith, over_nothing)) in
          let reaches : div_ceil parent (max rate 1) ≤ 0 = ceil-le parent (max rate 1) 0 (omega arith) (omega (arith, over_nothing)) in
          le-leb (div_ceil parent (max rate 1)) e (omega (arith, reaches)) ∙ sym (le-leb (div_ceil parent e) rate (omega (arith, gives)))
    ]

pub setting_is_value : (parent rate d : ℕ) (table : List TableRow) → d ≡ planned_divisor parent rate table → value_of table d ≡ table_setting parent rate table
unfolding table_setting
setting_is_value parent rate d table is = ap (value_of table) is

-- the value of a divisor is one of the table
value_among : (table : List TableRow) (d : ℕ) → IsIn d (divisors_of table) → IsIn (value_of table d) (map (λ row. row.value) table)
unfolding value_of
value_among [] d there = absurd there
value_among (row ∷ rows) d there = elim (cases_Bool (nat_eq row.div d)) [
  | inl here ↦ inl (sym (ap (λ (o : Option TableRow). option_map_or (λ q. q.value) o 0) (cond-true (nat_eq row.div d) (Some row) (find (λ q. nat_eq q.div d) rows) here)))
  | inr other ↦
      inr (subst (λ v. IsIn v (map (λ q. q.value) rows))
      (sym (ap (λ (o : Option TableRow). option_map_or (λ q. q.value) o 0) (cond-false (nat_eq row.div d) (Some row) (find (λ q. nat_eq q.div d) rows) other)))
      (value_among rows d (elim there [ inl same ↦ absurd (true≢false (sym (eq-eqb row.div d same) ∙ other)) | inr after ↦ after ])))
]

-- the value of a divisor stands for it
stands_for : (table : List TableRow) (d : ℕ) → IsDistinct nat_eq (map (λ row. row.value) table) → IsIn d (divisors_of table) → divisor_of table (value_of table d) ≡ d
unfolding divisor_of value_of IsDistinct
stands_for [] d apart there = absurd there
stands_for (row ∷ rows) d apart there = elim (cases_Bool (nat_eq row.div d)) [
  | inl here ↦
      let value : value_of (row ∷ rows) d ≡ row.value =
      ap (λ (o : Option TableRow). option_map_or (λ q. q.value) o 0) (cond-true (nat_eq row.div d) (Some row) (find (λ q. nat_eq q.div d) rows) here) in
      ap (divisor_of (row ∷ rows)) value
      ∙ ap (λ (o : Option TableRow). option_map_or (λ q. q.div) o 0)
      (cond-true (nat_eq row.value row.value) (Some row) (find (λ q. nat_eq q.value row.value) rows) (eq-eqb row.value row.value refl))
      ∙ eqb-true row.div d here
  | inr other ↦
      let value : value_of (row ∷ rows) d ≡ value_of rows d =
      ap (λ (o : Option TableRow). option_map_or (λ q. q.value) o 0) (cond-false (nat_eq row.div d) (Some row) (find (λ q. nat_eq q.div d) rows) other) in
      let after : IsIn d (divisors_of rows) = elim there [ inl same ↦ absurd (true≢false (sym (eq-eqb row.div d same) ∙ other)) | inr more ↦ more ] in
      let differs : nat_eq row.value (value_of rows d) ≡ false =
      each_at (λ v. nat_eq row.value v ≡ false) (map (λ q. q.value) rows) (value_of rows d) apart.0 (value_among rows d after) in
      ap (divisor_of (row ∷ rows)) value
      ∙ ap (λ (o : Option TableRow). option_map_or (λ q. q.div) o 0)
      (cond-false (nat_eq row.value (value_of rows d)) (Some row) (find (λ q. nat_eq q.value (value_of rows d)) rows) differs)
      ∙ stands_for rows d apart.1 after
]

-- a rate that a divisor of the table gives is given back
pub setting_gives_back : (parent rate d : ℕ) (table : List TableRow) → IsTable table → Contains (divisors_of table) d → rate ≡ div_ceil parent d
    → table_rate parent (table_setting parent rate table) table ≡ rate
unfolding table_setting planned_divisor
setting_gives_back parent rate d table is among gives = by_case found.case where
  passes : ℕ → Bool
  passes e = nat_le (div_ceil parent e) rate

  planned : ℕ
  planned = least_or_greatest passes (divisors_of table)

  found : Picked passes (divisors_of table) planned
  found = picked passes (divisors_of table) (some_divisors table is.some)

  there : IsIn d (divisors_of table)
  there = IsIn-from_at d (divisors_of table) among.0 among.1 among.2

  good : passes d ≡ true
  good = le-leb (div_ceil parent d) rate (omega (arith, gives))

  divides : 0 < planned
  divides = each_at (λ e. 0 < e) (divisors_of table) planned (each_divides table (recursion_from_All (λ row. 0 < row.div) table is.divides)) found.within

  by_case : ((passes planned ≡ true) × ((e : ℕ) → IsIn e (divisors_of table) → passes e ≡ true → planned ≤ e))
      ⊎ (((e : ℕ) → IsIn e (divisors_of table) → passes e ≡ false) × ((e : ℕ) → IsIn e (divisors_of table) → e ≤ planned))
      → table_rate parent (value_of table planned) table ≡ rate
  by_case (inl least) =
      let below = leb-true (div_ceil parent planned) rate least.0 in
      let falls = ceil-falls parent d planned divides (least.1 d there good) in
      sym (rate_divides parent (value_of table planned) planned table (sym (stands_for table planned is.apart found.within)) divides)
      ∙ (let same : div_ceil parent planned ≡ rate = omega (arith, below, falls, gives) in same)
  by_case (inr none) = absurd (true≢false (sym good ∙ none.0 d there))
