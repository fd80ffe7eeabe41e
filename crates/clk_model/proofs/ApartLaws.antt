-- Laws on the fields of a valid description: they lie apart.
use Rattle.std.proofs.Common.{◌≡◌, ◌≢◌, ℕ, zero, suc, ◌+◌, ◌<◌, ◌≤◌, min, max, Bool, true, false, ◌&&◌, cond, Some, None, refl, ap, ◌∙◌, ◌⊎◌, inl, inr, arith, length, nat_lt}
use Rattle.std.specs.Prelude.{◌==◌, not, slice_get}
use Rattle.std.proofs.lemmas.Bool.{cases_lt, cases_order, and_parts, ltb-true}
use Rattle.std.proofs.lemmas.Bool.Decides.{nat_tests}
use Rattle.std.proofs.lemmas.List.{get_or_past}
use Rattle.clk_base.specs.declared.clock.ClockDef.{ClockDef}
use Rattle.clk_base.specs.declared.clock.Kind.{Kind}
use Rattle.clk_base.specs.declared.clock.Kind.TheVariants.{FixedRate, Factor, Gate, Mux, Divider, Pll}
use Rattle.clk_base.specs.Description.{Description, nobody, kind_of, parents_of}
use Rattle.clk_base.specs.Fields.{Field, GateBit, field_of, fields_of, gate_of, share_bit}
use Rattle.clk_base.specs.Valid.{IsValid, is_width, has_ranges, ranges}
use Rattle.clk_base.proofs.Shares.{share_bit-sym}
use Rattle.clk_base.proofs.Valid.{fields-once, fields-own}
use Rattle.clk_model.specs.Kinds.{mux_field}
use Rattle.clk_model.specs.Laws.Plans.{LieApart}

-- ---- widths

-- the ranges of a kind hold beyond the description too
pub ranges_hold : (words : ℕ) (defs : Description) → IsValid words defs → (c : ℕ) → has_ranges (kind_of defs c) (length (parents_of defs c)) ≡ true
ranges_hold words defs valid c =
    elim (cases_lt c (length defs)) [
      | inl inside ↦ valid.rules ranges c inside
      | inr outside ↦ ap (λ (d : ClockDef). has_ranges d.kind (length d.parents)) (get_or_past defs c nobody outside)
    ]

some_width : (most width : ℕ) → is_width most width ≡ true → 0 < width
some_width most width is = ltb-true 0 width (and_parts _ _ is).0

divider_width : (one_based power_of_two : Bool) (width : ℕ) → (cond power_of_two (is_width 5 width && not one_based) (is_width 16 width)) ≡ true → 0 < width
divider_width one_based true width is = some_width 5 width (and_parts _ _ is).0
divider_width one_based false width is = some_width 16 width is

-- a field has a bit at least
pub width_some : (kind : Kind) (parents j : ℕ) (f : Field) → has_ranges kind parents ≡ true → slice_get (fields_of kind) j ≡ Some f → 0 < f.width
width_some (FixedRate rate) parents j f is at = absurd cc
width_some (Factor mult div) parents j f is at = absurd cc
width_some (Gate word bit set_to_disable) parents zero f is at = let w : 1 ≡ f.width = cc in omega arith
width_some (Gate word bit set_to_disable) parents (suc j) f is at = absurd cc
width_some (Mux word shift width read_only) parents zero f is at =
    let some = some_width 6 width (and_parts _ _ is).0 in let w : width ≡ f.width = cc in omega arith
width_some (Mux word shift width read_only) parents (suc j) f is at = absurd cc
width_some (Divider word shift width one_based power_of_two) parents zero f is at =
    let some = divider_width one_based power_of_two width is in let w : width ≡ f.width = cc in omega arith
width_some (Divider word shift width one_based power_of_two) parents (suc j) f is at = absurd cc
width_some (Pll word shift width power_word power_bit least most m) parents zero f is at =
    let some = some_width 16 width (and_parts _ _ (and_parts _ _ (and_parts _ _ (and_parts _ _ is).0).0).0).0 in let w : width ≡ f.width = cc in omega arith
width_some (Pll word shift width power_word power_bit least most m) parents (suc zero) f is at = let w : 1 ≡ f.width = cc in omega arith
width_some (Pll word shift width power_word power_bit least most m) parents (suc (suc j)) f is at = absurd cc

-- ---- apart

-- fields that share no bit lie apart
pub apart_unshared : (f g : Field) → 0 < f.width → 0 < g.width → share_bit f g ≡ false → LieApart f g
apart_unshared f g some some' unshared = by_word (f.word == g.word) refl unshared where
  by_word : (t : Bool) → (f.word == g.word) ≡ t → (t && nat_lt (max f.shift g.shift) (min (f.shift + f.width) (g.shift + g.width))) ≡ false → LieApart f g
  by_word false differs e = inl (λ same. grind (arith, nat_tests))
  by_word true same e =
      let above : min (f.shift + f.width) (g.shift + g.width) ≤ max f.shift g.shift = grind (arith, nat_tests) in
      inr (elim (cases_lt g.shift (f.shift + f.width)) [
        | inr low ↦ inl low
        | inl high ↦ inr (omega arith)
      ])

-- a clock with a field is a clock of the description
pub fielded_lt : (defs : Description) (c j : ℕ) (f : Field) → slice_get (fields_of (kind_of defs c)) j ≡ Some f → c < length defs
fielded_lt defs c j f at =
    elim (cases_lt c (length defs)) [
      | inl inside ↦ inside
      | inr outside ↦
          let none : slice_get (fields_of (kind_of defs c)) j ≡ None = ap (λ (d : ClockDef). slice_get (fields_of d.kind) j) (get_or_past defs c nobody outside) in
          absurd cc
    ]

share_cases : (t : Bool) → (t ≡ true) ⊎ (t ≡ false)
share_cases true = inl refl
share_cases false = inr refl

-- two fields of a valid description lie apart, but for a field and itself
pub fields_apart : (words : ℕ) (defs : Description) → IsValid words defs → (c i : ℕ) (f : Field) (d j : ℕ) (g : Field)
    → slice_get (fields_of (kind_of defs c)) i ≡ Some f → slice_get (fields_of (kind_of defs d)) j ≡ Some g → (c ≡ d → i ≢ j) → LieApart f g
fields_apart words defs valid c i f d j g first second other =
    let inside = fielded_lt defs c i f first in
    let inside' = fielded_lt defs d j g second in
    apart_unshared f g
    (width_some (kind_of defs c) (length (parents_of defs c)) i f (ranges_hold words defs valid c) first)
    (width_some (kind_of defs d) (length (parents_of defs d)) j g (ranges_hold words defs valid d) second)
    (elim (share_cases (share_bit f g)) [
      | inr never ↦ never
      | inl shared ↦
          let same : c ≡ d = fields-once words defs valid c d i j f g inside inside' first second shared in
          let there : slice_get (fields_of (kind_of defs c)) j ≡ Some g = ap (λ (x : ℕ). slice_get (fields_of (kind_of defs x)) j) same ∙ second in
          elim (cases_order i j) [
            | inl equal ↦ absurd (other same equal)
            | inr order ↦ elim order [
              | inl below ↦ share_bit-sym f g ∙ fields-own words defs valid c i j f g inside below first there
              | inr above ↦ fields-own words defs valid c j i g f inside above there first
            ]
          ]
    ])

-- ---- fields of a kind by what they are for

-- the field of a mux is the one that it selects by
pub mux_is_field : (kind : Kind) (f : Field) → mux_field kind ≡ Some f → field_of kind ≡ Some f
mux_is_field (Mux word shift width read_only) f e = e
mux_is_field (FixedRate rate) f e = absurd cc
mux_is_field (Factor mult div) f e = absurd cc
mux_is_field (Gate word bit set_to_disable) f e = absurd cc
mux_is_field (Divider word shift width one_based power_of_two) f e = absurd cc
mux_is_field (Pll word shift width power_word power_bit least most m) f e = absurd cc

-- a gate has no other field
pub gate_or_field : (kind : Kind) (gate : GateBit) (f : Field) → gate_of kind ≡ Some gate → field_of kind ≡ Some f → ⊥
gate_or_field (Gate word bit set_to_disable) gate f at e = absurd cc
gate_or_field (FixedRate rate) gate f at e = absurd cc
gate_or_field (Factor mult div) gate f at e = absurd cc
gate_or_field (Mux word shift width read_only) gate f at e = absurd cc
gate_or_field (Divider word shift width one_based power_of_two) gate f at e = absurd cc
gate_or_field (Pll word shift width power_word power_bit least most m) gate f at e = absurd cc
