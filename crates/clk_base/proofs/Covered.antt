-- Fields and the bits that they cover: two fields share a bit where both cover it, and the bits of
-- fields that are taken one by one.
use Rattle.std.proofs.Common.{◌≡◌, ◌≢◌, ℕ, ◌+◌, ◌<◌, ◌≤◌, min, max, Bool, true, false, not, ◌&&◌, ◌||◌, List, [], ◌∷◌, ◌++◌, take, length, refl, ap, sym, ◌∙◌, subst, inl, inr, ◌⊎◌, arith, leb, eqb, append-nil}
use Rattle.std.specs.List.{list_any, flat_map}
use Rattle.std.proofs.lemmas.Bool.{false≢true, both_ways, and_parts, and_from, and_left, and_right, or_left, or_right, or_cases, not_from_false, cases_lt, cases_eq, lt-ltb, le-ltb, le-leb, eq-eqb, ne_eqb, ltb-true, leb-true, eqb-true, false_from_ne_true}
use Rattle.std.proofs.lemmas.List.{take_more}
use Rattle.std.proofs.lemmas.List.Folds.{list_any-append}
use Rattle.std.proofs.lemmas.Grind.{flat_map-append}
use Rattle.reg_bank.specs.Registers.{is_set, put_bit}
use Rattle.reg_bank.proofs.BitLaws.{is_set-put_bit_same, is_set-put_bit_other}
use Rattle.clk_base.specs.declared.clock.ClockDef.{ClockDef}
use Rattle.clk_base.specs.Description.{Description, nobody, def_of, kind_of}
use Rattle.clk_base.specs.Fields.{Field, fields_of, share_bit}
use Rattle.clk_base.specs.Tables.{covers, IsTaken}
use Rattle.clk_base.specs.Valid.{stand_apart, fields_before}
use Rattle.std.proofs.Math.Bool.{and-true}

-- a field of these numbers
abbrev pub field : ℕ → ℕ → ℕ → Field
field word shift width = record { word = word; shift = shift; width = width }

-- ## Shared bits

-- two fields that cover one bit share it
pub shares-covered : (f g : Field) (bit : ℕ) → f.shift ≤ bit → bit < f.shift + f.width → covers f.word bit g ≡ true → share_bit f g ≡ true
shares-covered f g bit low high both =
    let parts = and_parts _ _ both in
    let more = and_parts _ _ parts.1 in
    let word : g.word ≡ f.word = eqb-true g.word f.word parts.0 in
    let from : g.shift ≤ bit = leb-true g.shift bit more.0 in
    let to : bit < g.shift + g.width = ltb-true bit (g.shift + g.width) more.1 in
    and_from _ _ (eq-eqb f.word g.word (sym word)) (lt-ltb _ _ (omega arith))

-- two fields that share a bit cover one
pub covered-shares : (f g : Field) → share_bit f g ≡ true → (bit : ℕ) × (f.shift ≤ bit) × (bit < f.shift + f.width) × (covers f.word bit g ≡ true)
covered-shares f g both =
    let parts = and_parts _ _ both in
    let word : f.word ≡ g.word = eqb-true f.word g.word parts.0 in
    let common : max f.shift g.shift < min (f.shift + f.width) (g.shift + g.width) = ltb-true _ _ parts.1 in (
      max f.shift g.shift,
      omega arith,
      omega arith,
      and_from _ _ (eq-eqb g.word f.word (sym word)) (and_from _ _ (le-leb g.shift (max f.shift g.shift) (omega arith)) (lt-ltb (max f.shift g.shift) (g.shift + g.width) (omega arith))),
    )

-- the same with one of many fields
pub any_shares : (f : Field) (fields : List Field) (bit : ℕ) → f.shift ≤ bit → bit < f.shift + f.width → list_any (covers f.word bit) fields ≡ true → list_any (share_bit f) fields ≡ true
any_shares f [] bit low high any = absurd (false≢true any)
any_shares f (g ∷ fields) bit low high any =
    elim (or_cases _ _ any) [
      | inl here ↦ or_left _ _ (shares-covered f g bit low high here)
      | inr later ↦ or_right (share_bit f g) _ (any_shares f fields bit low high later)
    ]

pub any_covered : (f : Field) (fields : List Field) → list_any (share_bit f) fields ≡ true → (bit : ℕ) × (f.shift ≤ bit) × (bit < f.shift + f.width) × (list_any (covers f.word bit) fields ≡ true)
any_covered f [] any = absurd (false≢true any)
any_covered f (g ∷ fields) any =
    elim (or_cases _ _ any) [
      | inl here ↦ (let found = covered-shares f g here in (found.0, found.1, found.2, or_left _ _ found.3))
      | inr later ↦ (let found = any_covered f fields later in (found.0, found.1, found.2, or_right (covers f.word found.0 g) _ found.3))
    ]

-- where no field covers a bit of a field, none shares one with it
pub free_shares : (f : Field) (fields : List Field) → ((bit : ℕ) → f.shift ≤ bit → bit < f.shift + f.width → list_any (covers f.word bit) fields ≡ false) → not (list_any (share_bit f) fields) ≡ true
free_shares f fields free =
    not_from_false _ (false_from_ne_true _ (λ shared.
    let found = any_covered f fields shared in both_ways _ (free found.0 found.1 found.2) found.3))

-- ## A field that is taken bit by bit

same_covered : (word shift width w b : ℕ) → ((w ≢ word) ⊎ (b ≢ shift + width)) → covers w b (field word shift width) ≡ covers w b (field word shift (width + 1))
same_covered word shift width w b (inl apart) =
    let other : eqb word w ≡ false = ne_eqb word w (λ e. apart (sym e)) in
    and_left _ _ other ∙ sym (and_left _ _ other)
same_covered word shift width w b (inr apart) =
    ap (λ (x : Bool). eqb word w && (leb shift b && x)) (elim (cases_lt b (shift + width)) [
      | inl below ↦ lt-ltb b (shift + width) below ∙ sym (lt-ltb b (shift + (width + 1)) (omega arith))
      | inr above ↦ le-ltb b (shift + width) above ∙ sym (le-ltb b (shift + (width + 1)) (omega arith))
    ])

next_covered : (word shift width : ℕ) → covers word (shift + width) (field word shift (width + 1)) ≡ true
next_covered word shift width =
    and_from _ _ (eq-eqb word word refl) (and_from _ _ (le-leb shift (shift + width) (omega arith)) (lt-ltb _ _ (omega arith)))

-- then one more
pub IsTaken-more : (taken : List ℕ) (fields : List Field) (word shift width bit : ℕ) → word < length taken → bit ≡ shift + width → IsTaken taken (field word shift width ∷ fields) → IsTaken (put_bit taken word bit true) (field word shift (width + 1) ∷ fields)
IsTaken-more taken fields word shift width bit inside next is w b =
    let other : ((w ≢ word) ⊎ (b ≢ bit)) → is_set (put_bit taken word bit true) w b ≡ (covers w b (field word shift (width + 1)) || list_any (covers w b) fields) = λ apart.
    is_set-put_bit_other taken word bit true w b apart ∙ (is w b ∙ ap (λ (x : Bool). x || list_any (covers w b) fields) (same_covered word shift width w b (subst (λ (n : ℕ). (w ≢ word) ⊎ (b ≢ n)) next apart))) in
    elim (cases_eq w word) [
      | inl same ↦ elim (cases_eq b bit) [
        | inl here ↦
            let P : ℕ → ℕ → Type 0 = λ x y. is_set (put_bit taken word bit true) x y ≡ (covers x y (field word shift (width + 1)) || list_any (covers x y) fields) in
            subst (λ x. P x b) (sym same) (subst (P word) (sym here)
            (is_set-put_bit_same taken word bit true inside
            ∙ sym (or_left _ _ (ap (λ n. covers word n (field word shift (width + 1))) next ∙ next_covered word shift width))))
        | inr apart ↦ other (inr apart)
      ]
      | inr apart ↦ other (inl apart)
    ]

-- the next bit of the field is taken where another field covers it
pub next_taken : (taken : List ℕ) (fields : List Field) (word shift width bit : ℕ) → bit ≡ shift + width → IsTaken taken (field word shift width ∷ fields) → is_set taken word bit ≡ list_any (covers word bit) fields
next_taken taken fields word shift width bit next is =
    is word bit
    ∙ ap (λ (x : Bool). x || list_any (covers word bit) fields)
    (and_right (eqb word word) _ (and_right (leb shift bit) _ (le-ltb bit (shift + width) (omega arith))))

-- ## Fields in their order

turned : (x y z : Bool) → (x || (y || z)) ≡ (z || (y || (x || false)))
turned true true true = refl
turned true true false = refl
turned true false true = refl
turned true false false = refl
turned false true true = refl
turned false true false = refl
turned false false true = refl
turned false false false = refl

pub IsTaken-two_behind : (taken : List ℕ) (fields : List Field) (f g : Field) → IsTaken taken (g ∷ f ∷ fields) → IsTaken taken (fields ++ f ∷ g ∷ [])
IsTaken-two_behind taken fields f g is w b =
    is w b
    ∙ (turned (covers w b g) (covers w b f) (list_any (covers w b) fields)
    ∙ sym (list_any-append (covers w b) fields (f ∷ g ∷ [])))

-- two fields stand apart of the taken ones where the first does, and the second of these and the first
pub apart_two : (fields : List Field) (f g : Field) (free : Bool) → not (list_any (share_bit f) fields) ≡ true → free ≡ not (list_any (share_bit g) (f ∷ fields)) → free ≡ stand_apart fields (f ∷ g ∷ [])
apart_two fields f g free first second =
    second
    ∙ (sym (and-true (not (list_any (share_bit g) (f ∷ fields))))
    ∙ ap (λ (x : Bool). x && (not (list_any (share_bit g) (f ∷ fields)) && true)) (sym first))

-- one clock more
pub fields_before-more : (defs : Description) (i : ℕ) → i < length defs → fields_before defs (i + 1) ≡ fields_before defs i ++ fields_of (kind_of defs i)
fields_before-more defs i lt =
    let fields = λ (d : ClockDef). fields_of d.kind in
    ap (flat_map fields) (take_more defs i nobody lt)
    ∙ (flat_map-append fields (take i defs) (def_of defs i ∷ [])
    ∙ ap (λ xs. fields_before defs i ++ xs) (append-nil (fields_of (kind_of defs i))))
