-- The clocks of the bundle keep each rule of a description.
use Rattle.std.proofs.Common.{◌≡◌, ℕ, zero, suc, ◌+◌, ◌-◌, ◌*◌, ◌<◌, ◌≤◌, ◌==◌, ◌||◌, not, nat_lt, nat_le, Bool, true, false, List, [], ◌∷◌, length, map, take, get_or, refl, sym, ap, subst, ◌∙◌, inl, inr, arith}
use Rattle.std.specs.List.{list_all, list_any, flat_map, sum_by, AllByRecursion, All}
use Rattle.std.proofs.lemmas.Bool.{and_parts, and_from, and_left, and_right, or_from, lt-ltb, ltb-true, ne_eqb, cases_lt}
use Rattle.std.proofs.lemmas.List.{length-map, length-take-le, get_or-map, get_or-take, get_or_past}
use Rattle.std.proofs.lemmas.List.Elements.{recursion_from_All}
use Rattle.std.proofs.lemmas.List.Folds.{list_any-append}
use Rattle.clk_base.specs.declared.clock.ClockDef.{ClockDef}
use Rattle.clk_base.specs.Description.{Description, nobody, def_of, EachClock}
use Rattle.clk_base.specs.Description as description
use Rattle.clk_base.specs.Fields.{Field, fields_of, is_in_bank, share_bit, bit_field}
use Rattle.clk_base.specs.Flags.{has_flag}
use Rattle.clk_base.specs.Levels.{depth, ends_within, reaches_within}
use Rattle.clk_base.specs.Valid.{Rule, counts, ranges, bank, apart, acyclic, levels, bounded, keeps, keeps_counts, keeps_ranges, keeps_bank, keeps_apart, keeps_acyclic, keeps_levels, keeps_work, has_ranges, stand_apart, fields_before, most_work}
use Rattle.clk_base.specs.Work.{work_of, work_within}
use Rattle.clk_gen.specs.Generated.{first_word, second_word}
use Rattle.gen_laws.specs.Clocks.{Part, root, pll, divider, gate, all_parts, kind_of, parents_of, place_of, clock_of, clocks}
use Rattle.gen_laws.proofs.Parts.{part_at, each-part, pll-at, divider-at, gate-at}
use Rattle.gen_laws.proofs.RowPlaces.{length-parts}

pub length-clocks : (n : ℕ) → length (clocks n) ≡ 3 * n + 1
length-clocks n = length-map (all_parts n) clock_of ∙ length-parts n

-- what the description says of the clock at a place
pub def-at : (n p : ℕ) → p < 3 * n + 1 → def_of (clocks n) p ≡ clock_of (part_at n p)
def-at n p within = get_or-map clock_of (all_parts n) p root nobody (omega (arith, length-parts n))

-- a test of what the description says of a clock
at-part : (n : ℕ) (test : ℕ → ClockDef → Bool) → ((p : ℕ) → p < 3 * n + 1 → test p (clock_of (part_at n p)) ≡ true) → (p : ℕ) → p < length (clocks n) → test p (def_of (clocks n) p) ≡ true
at-part n test each p low =
    let within : p < 3 * n + 1 = omega (arith, length-clocks n) in
    ap (test p) (def-at n p within) ∙ each p within

-- ---- counts, ranges, bank

counts-kept : (n : ℕ) → n ≤ 64 → EachClock (clocks n) (keeps_counts (2 * n) (clocks n))
counts-kept n few p low =
    let within : p < 3 * n + 1 = omega (arith, length-clocks n) in
    and_from _ _ (lt-ltb p 4096 (omega arith)) (at-part n (λ _ d. nat_le (length d.parents) 64) (λ q at. each (part_at n q)) p low)
  where
    each : (part : Part) → nat_le (length (clock_of part).parents) 64 ≡ true
    each root = refl
    each (pll k) = refl
    each (divider k) = refl
    each (gate k) = refl

ranges-kept : (n : ℕ) → EachClock (clocks n) (keeps_ranges (2 * n) (clocks n))
ranges-kept n p low = at-part n (λ _ d. has_ranges d.kind (length d.parents)) (λ q at. each (part_at n q)) p low
  where
    each : (part : Part) → has_ranges (kind_of part) (length (clock_of part).parents) ≡ true
    each root = refl
    each (pll k) = refl
    each (divider k) = refl
    each (gate k) = refl

bank-kept : (n : ℕ) → EachClock (clocks n) (keeps_bank (2 * n) (clocks n))
bank-kept n p low =
    at-part n (λ _ d. list_all (is_in_bank (2 * n)) (fields_of d.kind))
    (λ q at. each-part (λ _ part. list_all (is_in_bank (2 * n)) (fields_of (kind_of part)) ≡ true) n refl
    (λ i within.
    let first : nat_lt (first_word (suc i)) (2 * n) ≡ true = lt-ltb (first_word (suc i)) (2 * n) (omega arith) in
    let second : nat_lt (second_word (suc i)) (2 * n) ≡ true = lt-ltb (second_word (suc i)) (2 * n) (omega arith) in
    record { at_pll = rw first refl; at_divider = rw second refl; at_gate = rw second refl }) q at) p low

-- ---- apart

-- fields of different words share no bit
other_word : (f g : Field) → (f.word ≡ g.word → ⊥) → share_bit f g ≡ false
other_word f g other = and_left _ _ (ne_eqb f.word g.word other)

-- the field shares no bit with those of a clock
abbrev IsClear : Field → Part → Type 0
IsClear f part = list_any (share_bit f) (fields_of (kind_of part)) ≡ false

any-flat_map : {X : Type 0} (test : Field → Bool) (fields : X → List Field) (xs : List X) → AllByRecursion (λ x. list_any test (fields x) ≡ false) xs → list_any test (flat_map fields xs) ≡ false
any-flat_map test fields [] h = refl
any-flat_map test fields (x ∷ xs) h = list_any-append test (fields x) (flat_map fields xs) ∙ or_from _ _ h.0 (any-flat_map test fields xs h.1)

-- it shares none with those of the clocks before a place
clear-before : (n p : ℕ) (f : Field) → p < 3 * n + 1 → ((q : ℕ) → q < p → IsClear f (part_at n q)) → list_any (share_bit f) (fields_before (clocks n) p) ≡ false
clear-before n p f within each =
    let ds = take p (clocks n) in
    let long : length ds ≡ p = length-take-le p (clocks n) (omega (arith, length-clocks n)) in
    let P : ClockDef → Type 0 = λ d. list_any (share_bit f) (fields_of d.kind) ≡ false in
    let all : All P ds = λ q d low.
    let before : q < p = omega arith in
    let here : get_or ds q d ≡ clock_of (part_at n q) = get_or-take p (clocks n) q d before ∙ get_or-map clock_of (all_parts n) q root d (omega (arith, length-parts n)) in
    subst P (sym here) (each q before) in
    any-flat_map (share_bit f) (λ d. fields_of d.kind) ds (recursion_from_All P ds all)

-- the fields of a driver's clocks
abbrev pll_field : ℕ → Field
pll_field k = record { word = first_word k; shift = 0; width = 9 }

abbrev power_field : ℕ → Field
power_field k = bit_field (first_word k) 31

abbrev divider_field : ℕ → Field
divider_field k = record { word = second_word k; shift = 0; width = 4 }

abbrev gate_field : ℕ → Field
gate_field k = bit_field (second_word k) 8

-- the word of a driver's clocks
abbrev word_of : Part → ℕ
word_of root = 0
word_of (pll k) = first_word k
word_of (divider k) = second_word k
word_of (gate k) = second_word k

-- a field shares no bit with those of clocks of another word
clear-other : (f : Field) (part : Part) → (f.word ≡ word_of part → ⊥) → IsClear f part
clear-other f root other = refl
clear-other f (pll k) other = or_from (share_bit f (pll_field k)) _ (other_word f (pll_field k) other) (or_from (share_bit f (power_field k)) false (other_word f (power_field k) other) refl)
clear-other f (divider k) other = or_from (share_bit f (divider_field k)) false (other_word f (divider_field k) other) refl
clear-other f (gate k) other = or_from (share_bit f (gate_field k)) false (other_word f (gate_field k) other) refl

-- the fields of a PLL are the only ones of its word
clear-pll : (n i : ℕ) (f : Field) → f.word ≡ first_word (suc i) → i < n → (q : ℕ) → q < 3 * i + 1 → IsClear f (part_at n q)
clear-pll n i f e low q before =
    each-part (λ p part. p < 3 * i + 1 → IsClear f part) n (λ _. refl)
    (λ k within. record {
      at_pll = λ b. clear-other f (pll (suc k)) (λ same. omega arith);
      at_divider = λ b. clear-other f (divider (suc k)) (λ same. omega arith);
      at_gate = λ b. clear-other f (gate (suc k)) (λ same. omega arith);
    }) q (omega arith) before

-- the field of a divider is the first one of its word
clear-divider : (n i : ℕ) → i < n → (q : ℕ) → q < 3 * i + 2 → IsClear (divider_field (suc i)) (part_at n q)
clear-divider n i low q before =
    let f : Field = divider_field (suc i) in
    each-part (λ p part. p < 3 * i + 2 → IsClear f part) n (λ _. refl)
    (λ k within. record {
      at_pll = λ b. clear-other f (pll (suc k)) (λ same. omega arith);
      at_divider = λ b. clear-other f (divider (suc k)) (λ same. omega arith);
      at_gate = λ b. clear-other f (gate (suc k)) (λ same. omega arith);
    }) q (omega arith) before

-- the bit of a gate stands behind the field of a divider
clear-gate : (n i : ℕ) → i < n → (q : ℕ) → q < 3 * i + 3 → IsClear (gate_field (suc i)) (part_at n q)
clear-gate n i low q before =
    let f : Field = gate_field (suc i) in
    each-part (λ p part. p < 3 * i + 3 → IsClear f part) n (λ _. refl)
    (λ k within. record {
      at_pll = λ b. clear-other f (pll (suc k)) (λ same. omega arith);
      at_divider = λ b. or_from (share_bit f (divider_field (suc k))) false (and_right (second_word (suc i) == second_word (suc k)) false refl) refl;
      at_gate = λ b. clear-other f (gate (suc k)) (λ same. omega arith);
    }) q (omega arith) before

apart-kept : (n : ℕ) → EachClock (clocks n) (keeps_apart (2 * n) (clocks n))
apart-kept n p low =
    let within : p < 3 * n + 1 = omega (arith, length-clocks n) in
    ap (λ d. stand_apart (fields_before (clocks n) p) (fields_of d.kind)) (def-at n p within)
    ∙ each-part (λ q part. stand_apart (fields_before (clocks n) q) (fields_of (kind_of part)) ≡ true) n refl
    (λ i at. record {
      at_pll =
          let k : ℕ = suc i in
          let first = clear-before n (3 * i + 1) (pll_field k) (omega arith) (clear-pll n i (pll_field k) refl at) in
          let second = clear-before n (3 * i + 1) (power_field k) (omega arith) (clear-pll n i (power_field k) refl at) in
          let own : share_bit (power_field k) (pll_field k) ≡ false = and_right (first_word k == first_word k) false refl in
          and_from _ _ (ap not first) (and_from _ true (ap not (or_from (share_bit (power_field k) (pll_field k)) _ own second)) refl);
      at_divider = and_from _ true (ap not (clear-before n (3 * i + 2) (divider_field (suc i)) (omega arith) (clear-divider n i at))) refl;
      at_gate = and_from _ true (ap not (clear-before n (3 * i + 3) (gate_field (suc i)) (omega arith) (clear-gate n i at))) refl;
    }) p within

-- ---- parents are earlier

pub earlier-parents : (n p : ℕ) → list_all (λ q. nat_lt q p) (description.parents_of (clocks n) p) ≡ true
earlier-parents n p =
    elim (cases_lt p (3 * n + 1)) [
      | inl within ↦
          ap (λ d. list_all (λ q. nat_lt q p) d.parents) (def-at n p within)
          ∙ each-part (λ p part. list_all (λ q. nat_lt q p) (map place_of (parents_of part)) ≡ true) n refl
          (λ i low. record {
            at_pll = and_from _ true (lt-ltb 0 (3 * i + 1) (omega arith)) refl;
            at_divider = and_from _ true (lt-ltb (3 * suc i - 2) (3 * i + 2) (omega arith)) refl;
            at_gate = and_from _ true (lt-ltb (3 * suc i - 1) (3 * i + 3) (omega arith)) refl;
          }) p within
      | inr past ↦ ap (λ d. list_all (λ q. nat_lt q p) d.parents) (get_or_past (clocks n) p nobody (omega (arith, length-clocks n)))
    ]

none-passes : (test other : ℕ → Bool) (xs : List ℕ) → list_all test xs ≡ true → ((x : ℕ) → test x ≡ true → other x ≡ false) → list_any other xs ≡ false
none-passes test other [] h step = refl
none-passes test other (x ∷ xs) h step =
    let parts = and_parts (test x) (list_all test xs) h in
    or_from (other x) (list_any other xs) (step x parts.0) (none-passes test other xs parts.1 step)

-- where parents are earlier, no line of them leads to a later clock
no-way-back : (parents : ℕ → List ℕ) → ((q : ℕ) → list_all (λ p. nat_lt p q) (parents q) ≡ true) → (steps a c : ℕ) → c ≤ a → reaches_within parents steps a c ≡ false
no-way-back parents earlier zero a c low = refl
no-way-back parents earlier (suc steps) a c low =
    none-passes (λ p. nat_lt p c) (λ p. (p == a) || reaches_within parents steps a p) (parents c) (earlier c)
    (λ p h.
    let before : p < c = ltb-true p c h in
    or_from (p == a) _ (ne_eqb p a (λ e. omega arith)) (no-way-back parents earlier steps a p (omega arith)))

acyclic-kept : (n : ℕ) → EachClock (clocks n) (keeps_acyclic (2 * n) (clocks n))
acyclic-kept n p low = ap not (no-way-back (description.parents_of (clocks n)) (earlier-parents n) (length (clocks n)) p p (omega arith))

-- ---- levels and work

parents-at : (n p : ℕ) (part : Part) → p < 3 * n + 1 → part_at n p ≡ part → description.parents_of (clocks n) p ≡ map place_of (parents_of part)
parents-at n p part within e = ap (λ d. d.parents) (def-at n p within) ∙ ap (λ x. map place_of (parents_of x)) e

one-place : (a b : ℕ) → a ≡ b → ◌≡◌ {A = List ℕ} (a ∷ []) (b ∷ [])
one-place a b e = ap (λ m. m ∷ []) e

parents-pll : (n i : ℕ) → i < n → description.parents_of (clocks n) (3 * i + 1) ≡ 0 ∷ []
parents-pll n i low = parents-at n (3 * i + 1) (pll (suc i)) (omega arith) (pll-at n i (3 * i + 1) low refl)

parents-divider : (n i : ℕ) → i < n → description.parents_of (clocks n) (3 * i + 2) ≡ (3 * i + 1) ∷ []
parents-divider n i low = parents-at n (3 * i + 2) (divider (suc i)) (omega arith) (divider-at n i (3 * i + 2) low refl) ∙ one-place _ _ (omega arith)

parents-gate : (n i : ℕ) → i < n → description.parents_of (clocks n) (3 * i + 3) ≡ (3 * i + 2) ∷ []
parents-gate n i low = parents-at n (3 * i + 3) (gate (suc i)) (omega arith) (gate-at n i (3 * i + 3) low refl) ∙ one-place _ _ (omega arith)

ends-one : (parents : ℕ → List ℕ) (l c p : ℕ) → parents c ≡ p ∷ [] → ends_within parents l p ≡ true → ends_within parents (suc l) c ≡ true
ends-one parents l c p e h = ap (list_all (ends_within parents l)) e ∙ and_from _ true h refl

levels-kept : (n : ℕ) → EachClock (clocks n) (keeps_levels (2 * n) (clocks n))
unfolding depth
levels-kept n p low =
    let parents = description.parents_of (clocks n) in
    let at_pll = λ (l i : ℕ) (h : i < n). ends-one parents (suc l) (3 * i + 1) 0 (parents-pll n i h) refl in
    let at_divider = λ (l i : ℕ) (h : i < n). ends-one parents (suc (suc l)) (3 * i + 2) (3 * i + 1) (parents-divider n i h) (at_pll l i h) in
    let at_gate = λ (l i : ℕ) (h : i < n). ends-one parents (suc (suc (suc l))) (3 * i + 3) (3 * i + 2) (parents-gate n i h) (at_divider l i h) in
    each-part (λ q part. ends_within parents 64 q ≡ true) n refl
    (λ i h. record { at_pll = at_pll 62 i h; at_divider = at_divider 61 i h; at_gate = at_gate 60 i h }) p (omega (arith, length-clocks n))

-- the work of a clock, by what the description says of it
work-of : (n l p : ℕ) (part : Part) → p < 3 * n + 1 → part_at n p ≡ part
    → work_within (clocks n) (suc l) p ≡ work_of (kind_of part) (has_flag (clock_of part).flags 4) (length (clock_of part).parents) (sum_by (work_within (clocks n) l) (clock_of part).parents)
work-of n l p part within e =
    ap (λ (d : ClockDef). work_of d.kind (has_flag d.flags 4) (length d.parents) (sum_by (work_within (clocks n) l) d.parents)) (def-at n p within ∙ ap clock_of e)

work-pll : (n l i : ℕ) → i < n → work_within (clocks n) (suc l) (3 * i + 1) ≡ 1
work-pll n l i low = work-of n l (3 * i + 1) (pll (suc i)) (omega arith) (pll-at n i (3 * i + 1) low refl)

work-divider : (n l i : ℕ) → i < n → work_within (clocks n) (suc (suc l)) (3 * i + 2) ≡ 33
work-divider n l i low =
    let parent : work_within (clocks n) (suc l) (3 * suc i - 2) ≡ 1 = ap (work_within (clocks n) (suc l)) (omega arith) ∙ work-pll n l i low in
    work-of n (suc l) (3 * i + 2) (divider (suc i)) (omega arith) (divider-at n i (3 * i + 2) low refl) ∙ ap (λ m. 1 + 16 * (1 + (0 + m))) parent

work-gate : (n l i : ℕ) → i < n → work_within (clocks n) (suc (suc (suc l))) (3 * i + 3) ≡ 34
work-gate n l i low =
    let parent : work_within (clocks n) (suc (suc l)) (3 * suc i - 1) ≡ 33 = ap (work_within (clocks n) (suc (suc l))) (omega arith) ∙ work-divider n l i low in
    work-of n (suc (suc l)) (3 * i + 3) (gate (suc i)) (omega arith) (gate-at n i (3 * i + 3) low refl) ∙ ap (λ m. 1 + (0 + m)) parent

work-kept : (n : ℕ) → EachClock (clocks n) (keeps_work (2 * n) (clocks n))
unfolding depth
work-kept n p low =
    each-part (λ q part. nat_le (work_within (clocks n) 64 q) most_work ≡ true) n (ap (λ m. nat_le m most_work) (work-of n 63 0 root (omega arith) refl))
    (λ i h. record {
      at_pll = ap (λ m. nat_le m most_work) (work-pll n 63 i h);
      at_divider = ap (λ m. nat_le m most_work) (work-divider n 62 i h);
      at_gate = ap (λ m. nat_le m most_work) (work-gate n 61 i h);
    }) p (omega (arith, length-clocks n))

-- each clock keeps every rule, for a bank of two words a driver
pub rules-kept : (n : ℕ) → n ≤ 64 → (rule : Rule) → EachClock (clocks n) (keeps rule (2 * n) (clocks n))
rules-kept n few counts = counts-kept n few
rules-kept n few ranges = ranges-kept n
rules-kept n few bank = bank-kept n
rules-kept n few apart = apart-kept n
rules-kept n few acyclic = acyclic-kept n
rules-kept n few levels = levels-kept n
rules-kept n few bounded = work-kept n
