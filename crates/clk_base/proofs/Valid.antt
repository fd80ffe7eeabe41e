-- What a valid description promises: parents in it, lines that end, fields in the bank that share no
-- bit, and names that differ.
use Rattle.std.proofs.Common.{◌≡◌, ℕ, ◌+◌, ◌<◌, ◌≤◌, true, false, List, [], ◌∷◌, length, Some, refl, ap, sym, ◌∙◌, inl, inr, arith}
use Rattle.std.specs.Prelude.{slice_get}
use Rattle.std.specs.List.{list_all}
use Rattle.std.proofs.lemmas.Bool.{false≢true, both_ways, cases_lt, cases_order, and_parts, and_from, ltb-true, leb-true, eqb-true, lt-ltb, eq-eqb}
use Rattle.std.proofs.lemmas.List.{get_or_past}
use Rattle.std.proofs.lemmas.Option.{none-some, same_Some}
use Rattle.clk_base.specs.declared.clock.ClockDef.{ClockDef}
use Rattle.clk_base.specs.declared.clock.Kind.{Kind}
use Rattle.clk_base.specs.declared.clock.Kind.TheVariants.{FixedRate, Factor, Gate, Mux, Divider, Pll}
use Rattle.clk_base.specs.Description.{Description, nobody, kind_of, parents_of}
use Rattle.clk_base.specs.Fields.{Field, GateBit, PowerBit, gate_of, power_of, field_of, fields_of, bit_field, is_in_bank, share_bit}
use Rattle.clk_base.specs.Levels.{depth, ends_within}
use Rattle.clk_base.specs.Valid.{counts, bank, apart, levels, can_have_parents, IsValid}
use Rattle.clk_base.proofs.Shares.{passes_at, some_passes, passes_before, apart_at, apart_own, share_bit-sym}

-- ## Counts and parents

-- a valid description has at most 4,096 clocks
pub length-valid : (words : ℕ) (defs : Description) → IsValid words defs → length defs ≤ 4096
length-valid words defs valid =
    elim (cases_lt 4096 (length defs)) [
      | inl many ↦ absurd (false≢true (valid.rules counts 4096 many))
      | inr few ↦ few
    ]

none_of : (xs : List ℕ) → length xs ≡ 0 → xs ≡ []
none_of [] e = refl
none_of (x ∷ xs) e = absurd (omega arith)

-- a fixed clock has no parent
pub fixed-parents : (words : ℕ) (defs : Description) → IsValid words defs → (c rate : ℕ) → c < length defs → kind_of defs c ≡ FixedRate rate → parents_of defs c ≡ []
fixed-parents words defs valid c rate lt kind =
    let fits : can_have_parents (FixedRate rate) (length (parents_of defs c)) ≡ true =
    ap (λ k. can_have_parents k (length (parents_of defs c))) (sym kind) ∙ (and_parts _ _ (valid.parents c lt)).0 in
    none_of (parents_of defs c) (eqb-true _ 0 fits)

-- ## Lines of possible parents

-- following possible parents ends within `depth` levels
pub lines_end : (words : ℕ) (defs : Description) → IsValid words defs → (c : ℕ) → ends_within (parents_of defs) depth c ≡ true
unfolding depth
lines_end words defs valid c =
    elim (cases_lt c (length defs)) [
      | inl inside ↦ valid.rules levels c inside
      | inr outside ↦ ap (λ (d : ClockDef). list_all (ends_within (parents_of defs) 63) d.parents) (get_or_past defs c nobody outside)
    ]

-- ## Fields

-- the gate's bit, the power bit and the field stand among the fields of a kind
pub gate-field : (kind : Kind) (gate : GateBit) → gate_of kind ≡ Some gate → slice_get (fields_of kind) 0 ≡ Some (bit_field gate.word gate.bit)
gate-field (FixedRate rate) gate at = absurd (none-some gate at)
gate-field (Factor mult div) gate at = absurd (none-some gate at)
gate-field (Gate word bit set_to_disable) gate at = ap (λ g. Some (bit_field g.word g.bit)) (same_Some _ gate at)
gate-field (Mux word shift width read_only) gate at = absurd (none-some gate at)
gate-field (Divider word shift width one_based power_of_two) gate at = absurd (none-some gate at)
gate-field (Pll word shift width power_word power_bit least most m) gate at = absurd (none-some gate at)

pub power-field : (kind : Kind) (power : PowerBit) → power_of kind ≡ Some power → slice_get (fields_of kind) 1 ≡ Some (bit_field power.word power.bit)
power-field (FixedRate rate) power at = absurd (none-some power at)
power-field (Factor mult div) power at = absurd (none-some power at)
power-field (Gate word bit set_to_disable) power at = absurd (none-some power at)
power-field (Mux word shift width read_only) power at = absurd (none-some power at)
power-field (Divider word shift width one_based power_of_two) power at = absurd (none-some power at)
power-field (Pll word shift width power_word power_bit least most m) power at = ap (λ p. Some (bit_field p.word p.bit)) (same_Some _ power at)

pub field-field : (kind : Kind) (f : Field) → field_of kind ≡ Some f → slice_get (fields_of kind) 0 ≡ Some f
field-field (FixedRate rate) f at = absurd (none-some f at)
field-field (Factor mult div) f at = absurd (none-some f at)
field-field (Gate word bit set_to_disable) f at = absurd (none-some f at)
field-field (Mux word shift width read_only) f at = at
field-field (Divider word shift width one_based power_of_two) f at = at
field-field (Pll word shift width power_word power_bit least most m) f at = at

-- each field lies in the bank
pub fields-within : (words : ℕ) (defs : Description) → IsValid words defs → (c j : ℕ) (f : Field) → c < length defs → slice_get (fields_of (kind_of defs c)) j ≡ Some f → (f.word < words) × (f.shift + f.width ≤ 32)
fields-within words defs valid c j f lt at =
    let is = and_parts _ _ (passes_at (is_in_bank words) (fields_of (kind_of defs c)) j f (valid.rules bank c lt) at) in
    (ltb-true f.word words is.0, leb-true (f.shift + f.width) 32 is.1)

-- a gate's word is in the bank, and its bit in the word
pub gate-within : (words : ℕ) (defs : Description) → IsValid words defs → (c : ℕ) (gate : GateBit) → c < length defs → gate_of (kind_of defs c) ≡ Some gate → (gate.word < words) × (gate.bit < 32)
gate-within words defs valid c gate lt at =
    let is = fields-within words defs valid c 0 (bit_field gate.word gate.bit) lt (gate-field (kind_of defs c) gate at) in
    (is.0, (let le : gate.bit + 1 ≤ 32 = is.1 in omega arith))

-- so is a power bit
pub power-within : (words : ℕ) (defs : Description) → IsValid words defs → (c : ℕ) (power : PowerBit) → c < length defs → power_of (kind_of defs c) ≡ Some power → (power.word < words) × (power.bit < 32)
power-within words defs valid c power lt at =
    let is = fields-within words defs valid c 1 (bit_field power.word power.bit) lt (power-field (kind_of defs c) power at) in
    (is.0, (let le : power.bit + 1 ≤ 32 = is.1 in omega arith))

earlier_apart : (words : ℕ) (defs : Description) → IsValid words defs → (a b i j : ℕ) (f g : Field) → a < b → b < length defs → slice_get (fields_of (kind_of defs a)) i ≡ Some f → slice_get (fields_of (kind_of defs b)) j ≡ Some g → share_bit g f ≡ true → ⊥
earlier_apart words defs valid a b i j f g lt inside first second shared =
    let free = apart_at _ (fields_of (kind_of defs b)) j g (valid.rules apart b inside) second in
    both_ways _ free (passes_before (share_bit g) defs a b lt (omega arith) (some_passes (share_bit g) (fields_of (kind_of defs a)) i f first shared))

-- two fields that share a bit are fields of one clock
pub fields-once : (words : ℕ) (defs : Description) → IsValid words defs → (a b i j : ℕ) (f g : Field) → a < length defs → b < length defs → slice_get (fields_of (kind_of defs a)) i ≡ Some f → slice_get (fields_of (kind_of defs b)) j ≡ Some g → share_bit f g ≡ true → a ≡ b
fields-once words defs valid a b i j f g ha hb first second shared =
    elim (cases_order a b) [
      | inl same ↦ same
      | inr differ ↦ elim differ [
        | inl below ↦ absurd (earlier_apart words defs valid a b i j f g below hb first second (share_bit-sym g f ∙ shared))
        | inr above ↦ absurd (earlier_apart words defs valid b a j i g f above ha second first shared)
      ]
    ]

-- two fields of one clock share no bit
pub fields-own : (words : ℕ) (defs : Description) → IsValid words defs → (c i j : ℕ) (f g : Field) → c < length defs → i < j → slice_get (fields_of (kind_of defs c)) i ≡ Some f → slice_get (fields_of (kind_of defs c)) j ≡ Some g → share_bit g f ≡ false
fields-own words defs valid c i j f g lt order first second =
    apart_own _ (fields_of (kind_of defs c)) i j f g (valid.rules apart c lt) order first second

-- two gates at one bit are one clock
pub gates-once : (words : ℕ) (defs : Description) → IsValid words defs → (a b : ℕ) (g h : GateBit) → a < length defs → b < length defs → gate_of (kind_of defs a) ≡ Some g → gate_of (kind_of defs b) ≡ Some h → g.word ≡ h.word → g.bit ≡ h.bit → a ≡ b
gates-once words defs valid a b g h ha hb first second word bit =
    fields-once words defs valid a b 0 0 (bit_field g.word g.bit) (bit_field h.word h.bit) ha hb (gate-field (kind_of defs a) g first) (gate-field (kind_of defs b) h second)
    (and_from _ _ (eq-eqb g.word h.word word) (lt-ltb _ _ (omega arith)))
