-- Laws on what a step writes: it leaves the gates of active clocks, the power bits of prepared ones, and the muxes that it doesn't move.
use Rattle.std.proofs.Common.{◌≡◌, ◌≢◌, ℕ, ◌<◌, ◌^◌, Bool, true, false, not, cond, Option, Some, None, refl, sym, ap, subst, ◌∙◌, ◌⊎◌, inl, inr, arith, length}
use Rattle.std.specs.Prelude.{IfSome, slice_get, if◌then◌else◌}
use Rattle.std.specs.Option.{option_map_or}
use Rattle.clk_base.specs.declared.clock.Kind.{Kind}
use Rattle.clk_base.specs.declared.clock.Kind.TheVariants.{FixedRate, Factor, Gate, Mux, Divider, Pll}
use Rattle.clk_base.specs.Description.{Description, kind_of, parents_of}
use Rattle.clk_base.specs.Fields.{Field, GateBit, PowerBit, bit_field, gate_of, power_of, field_of, fields_of}
use Rattle.clk_base.specs.Valid.{IsValid}
use Rattle.clk_base.proofs.Valid.{gate-field, power-field, field-field, fields-within, power-within}
use Rattle.reg_bank.specs.Registers.{Registers, field, put, is_set, put_bit}
use Rattle.reg_bank.proofs.BitLaws.{is_set-put_bit_same}
use Rattle.reg_bank.proofs.FieldLaws.{field-put_same}
use Rattle.clk_model.specs.Kinds.{mux_field, is_open, is_powered, with_gate, with_power}
use Rattle.clk_model.specs.State.{State, Change}
use Rattle.clk_model.specs.Tree.{selected}
use Rattle.clk_model.specs.Holders.{active, prepared}
use Rattle.clk_model.specs.Round.{wiring, parent_rate_in}
use Rattle.clk_model.specs.Chain.{setting}
use Rattle.clk_model.specs.Step.{powered, planned_rate, set_in_chain}
use Rattle.clk_model.specs.Laws.Plans.{LieApart}
use Rattle.clk_model.proofs.WholePathLaws.{same_or_not}
use Rattle.clk_model.proofs.ApartLaws.{fields_apart, fielded_lt, mux_is_field, gate_or_field}
use Rattle.clk_model.proofs.OutcomeLaws.{field-put_outside}
use Rattle.clk_model.proofs.SettingLaws.{settings_fit, bit_same}
use Rattle.clk_model.proofs.SupplyLaws.{field-put_off, selected_same}
use Rattle.clk_model.proofs.PowerLaws.{SameMuxes}
use Rattle.clk_model.proofs.AboveLaws.{put_at, put_same, put_other}

-- other registers hold the gates of active clocks open, and the PLLs of prepared clocks powered, where those of a state do
pub record Keeps (s : State) (regs : Registers) : Type 0 where
  pub gates : (c : ℕ) (gate : GateBit) → gate_of (kind_of s.defs c) ≡ Some gate → active s c ≡ true → is_open s.regs gate ≡ true → is_open regs gate ≡ true
  pub powers : (c : ℕ) (power : PowerBit) → power_of (kind_of s.defs c) ≡ Some power → prepared s c ≡ true → is_powered s.regs power ≡ true → is_powered regs power ≡ true

pub keeps_same : (s : State) → Keeps s s.regs
keeps_same s = record { gates = λ c gate at act is. is; powers = λ c power at prep is. is }

-- ---- a bit

-- a bit that is put leaves each field that lies apart from its own
pub put_leaves : (words : ℕ) (defs : Description) (regs : Registers) (c i word bit : ℕ) (value : Bool) (d j : ℕ) (f : Field) → IsValid words defs
    → slice_get (fields_of (kind_of defs c)) i ≡ Some (bit_field word bit) → slice_get (fields_of (kind_of defs d)) j ≡ Some f → (d ≡ c → j ≢ i)
    → field (put_bit regs word bit value) f.word f.shift f.width ≡ field regs f.word f.shift f.width
put_leaves words defs regs c i word bit value d j f valid own other apart =
    field-put_off regs f (record { word = word; bit = bit; set_to_disable = false }) value (fields_apart words defs valid d j f c i (bit_field word bit) other own apart)

open_same : (regs regs' : Registers) (gate : GateBit) → is_set regs' gate.word gate.bit ≡ is_set regs gate.word gate.bit → is_open regs gate ≡ true → is_open regs' gate ≡ true
open_same regs regs' gate same is = ap (λ (b : Bool). cond gate.set_to_disable (not b) b) same ∙ is

-- a power bit that is put leaves all gates
power_leaves_gate : (words : ℕ) (defs : Description) (regs : Registers) (y : ℕ) (power : PowerBit) (up : Bool) (c : ℕ) (gate : GateBit) → IsValid words defs
    → power_of (kind_of defs y) ≡ Some power → gate_of (kind_of defs c) ≡ Some gate → is_set (with_power regs power up) gate.word gate.bit ≡ is_set regs gate.word gate.bit
power_leaves_gate words defs regs y power up c gate valid own at =
    bit_same (with_power regs power up) regs gate.word gate.bit
    (put_leaves words defs regs y 1 power.word power.bit up c 0 (bit_field gate.word gate.bit) valid (power-field (kind_of defs y) power own) (gate-field (kind_of defs c) gate at) (λ same equal. omega arith))

-- and the power bits of other PLLs
pub power_leaves_power : (words : ℕ) (defs : Description) (regs : Registers) (y : ℕ) (power : PowerBit) (up : Bool) (c : ℕ) (other : PowerBit) → IsValid words defs
    → power_of (kind_of defs y) ≡ Some power → power_of (kind_of defs c) ≡ Some other → (y ≡ c → ⊥) → is_powered (with_power regs power up) other ≡ is_powered regs other
power_leaves_power words defs regs y power up c other valid own at apart =
    bit_same (with_power regs power up) regs other.word other.bit
    (put_leaves words defs regs y 1 power.word power.bit up c 1 (bit_field other.word other.bit) valid (power-field (kind_of defs y) power own) (power-field (kind_of defs c) other at)
    (λ same equal. apart (sym same)))

-- the power bit of an unprepared PLL may be cleared
pub keeps_lowered : (s : State) (y : ℕ) → IsValid (length s.regs) s.defs → prepared s y ≡ false → Keeps s (powered s y false).regs
keeps_lowered s y valid idle = one (power_of (kind_of s.defs y)) refl where
  one : (o : Option PowerBit) → power_of (kind_of s.defs y) ≡ o → Keeps s (option_map_or (λ power. with_power s.regs power false) o s.regs)
  one None own = keeps_same s
  one (Some power) own = record {
    gates = λ c gate at act is. open_same s.regs (with_power s.regs power false) gate (power_leaves_gate (length s.regs) s.defs s.regs y power false c gate valid own at) is;
    powers = λ c other at prep is.
        power_leaves_power (length s.regs) s.defs s.regs y power false c other valid own at
        (λ same. let no : false ≡ true = sym idle ∙ ap (prepared s) same ∙ prep in cc) ∙ is;
  }

powered_on : (s : State) (y : ℕ) (power : PowerBit) → IsValid (length s.regs) s.defs → power_of (kind_of s.defs y) ≡ Some power → is_powered (with_power s.regs power true) power ≡ true
powered_on s y power valid own =
    is_set-put_bit_same s.regs power.word power.bit true
    (power-within (length s.regs) s.defs valid y power (fielded_lt s.defs y 1 (bit_field power.word power.bit) (power-field (kind_of s.defs y) power own)) own).0

-- a power bit that is set leaves each that is set
pub raised_powers : (s : State) (y c : ℕ) (other : PowerBit) → IsValid (length s.regs) s.defs → power_of (kind_of s.defs c) ≡ Some other → (y ≡ c) ⊎ (is_powered s.regs other ≡ true)
    → is_powered (powered s y true).regs other ≡ true
raised_powers s y c other valid at is = one (power_of (kind_of s.defs y)) refl is where
  one : (o : Option PowerBit) → power_of (kind_of s.defs y) ≡ o → (y ≡ c) ⊎ (is_powered s.regs other ≡ true) → is_powered (option_map_or (λ power. with_power s.regs power true) o s.regs) other ≡ true
  one None own (inl same) = let no : None ≡ Some other = sym own ∙ ap (λ (x : ℕ). power_of (kind_of s.defs x)) same ∙ at in absurd cc
  one None own (inr was) = was
  one (Some power) own (inl same) =
      let both : Some power ≡ Some other = sym own ∙ ap (λ (x : ℕ). power_of (kind_of s.defs x)) same ∙ at in
      let equal : power ≡ other = cc in
      subst (λ (p : PowerBit). is_powered (with_power s.regs power true) p ≡ true) equal (powered_on s y power valid own)
  one (Some power) own (inr was) =
      elim (same_or_not y c) [
        | inl same ↦
            let both : Some power ≡ Some other = sym own ∙ ap (λ (x : ℕ). power_of (kind_of s.defs x)) same ∙ at in
            let equal : power ≡ other = cc in
            subst (λ (p : PowerBit). is_powered (with_power s.regs power true) p ≡ true) equal (powered_on s y power valid own)
        | inr apart ↦ power_leaves_power (length s.regs) s.defs s.regs y power true c other valid own at apart ∙ was
      ]

pub keeps_raised : (s : State) (y : ℕ) → IsValid (length s.regs) s.defs → Keeps s (powered s y true).regs
keeps_raised s y valid = record {
  gates = λ c gate at act is. one (power_of (kind_of s.defs y)) refl c gate at is;
  powers = λ c other at prep is. raised_powers s y c other valid at (inr is);
} where
  one : (o : Option PowerBit) → power_of (kind_of s.defs y) ≡ o → (c : ℕ) (gate : GateBit) → gate_of (kind_of s.defs c) ≡ Some gate → is_open s.regs gate ≡ true
      → is_open (option_map_or (λ power. with_power s.regs power true) o s.regs) gate ≡ true
  one None own c gate at is = is
  one (Some power) own c gate at is = open_same s.regs (with_power s.regs power true) gate (power_leaves_gate (length s.regs) s.defs s.regs y power true c gate valid own at) is

-- the gate of a clock that isn't active may be closed
pub keeps_closed : (s : State) (c : ℕ) → IsValid (length s.regs) s.defs
    → Keeps s (if active s c then s.regs else option_map_or (λ gate. with_gate s.regs gate false) (gate_of (kind_of s.defs c)) s.regs)
keeps_closed s c valid = by_active (active s c) refl where
  one : (o : Option GateBit) → gate_of (kind_of s.defs c) ≡ o → active s c ≡ false → Keeps s (option_map_or (λ gate. with_gate s.regs gate false) o s.regs)
  one None own idle = keeps_same s
  one (Some gate) own idle = record {
    gates = λ d other at act is.
        open_same s.regs (with_gate s.regs gate false) other
        (bit_same (with_gate s.regs gate false) s.regs other.word other.bit
        (put_leaves (length s.regs) s.defs s.regs c 0 gate.word gate.bit _ d 0 (bit_field other.word other.bit) valid (gate-field (kind_of s.defs c) gate own) (gate-field (kind_of s.defs d) other at)
        (λ same. let no : false ≡ true = sym idle ∙ ap (active s) (sym same) ∙ act in absurd cc))) is;
    powers = λ d power at prep is.
        bit_same (with_gate s.regs gate false) s.regs power.word power.bit
        (put_leaves (length s.regs) s.defs s.regs c 0 gate.word gate.bit _ d 1 (bit_field power.word power.bit) valid (gate-field (kind_of s.defs c) gate own) (power-field (kind_of s.defs d) power at)
        (λ same equal. omega arith)) ∙ is;
  }

  by_active : (t : Bool) → active s c ≡ t → Keeps s (if t then s.regs else option_map_or (λ gate. with_gate s.regs gate false) (gate_of (kind_of s.defs c)) s.regs)
  by_active true act = keeps_same s
  by_active false idle = one (gate_of (kind_of s.defs c)) refl idle

pub closed_muxes : (s : State) (words c : ℕ) → IsValid words s.defs
    → SameMuxes s.defs s.regs (if active s c then s.regs else option_map_or (λ gate. with_gate s.regs gate false) (gate_of (kind_of s.defs c)) s.regs)
closed_muxes s words c valid d f at = by_active (active s c) (gate_of (kind_of s.defs c)) refl where
  by_active : (t : Bool) (o : Option GateBit) → gate_of (kind_of s.defs c) ≡ o
      → field (if t then s.regs else option_map_or (λ gate. with_gate s.regs gate false) o s.regs) f.word f.shift f.width ≡ field s.regs f.word f.shift f.width
  by_active true o own = refl
  by_active false None own = refl
  by_active false (Some gate) own =
      put_leaves words s.defs s.regs c 0 gate.word gate.bit _ d 0 f valid (gate-field (kind_of s.defs c) gate own) (field-field (kind_of s.defs d) f (mux_is_field (kind_of s.defs d) f at))
      (λ same. absurd (gate_or_field (kind_of s.defs c) gate f own (ap (λ (x : ℕ). field_of (kind_of s.defs x)) (sym same) ∙ mux_is_field (kind_of s.defs d) f at)))

-- ---- a field

-- a field that is put leaves gates and power bits
leaves_bits : (s : State) (regs : Registers) (c : ℕ) → IsValid (length s.regs) s.defs
    → ((f : Field) → IfSome (field_of (kind_of s.defs c)) (LieApart f) → field regs f.word f.shift f.width ≡ field s.regs f.word f.shift f.width) → Keeps s regs
leaves_bits s regs c valid leaves = record {
  gates = λ d gate at act is.
      open_same s.regs regs gate
      (bit_same regs s.regs gate.word gate.bit
      (leaves (bit_field gate.word gate.bit) (off (field_of (kind_of s.defs c)) refl d 0 (bit_field gate.word gate.bit) (gate-field (kind_of s.defs d) gate at)
      (λ g own same. absurd (gate_or_field (kind_of s.defs d) gate g at (ap (λ (x : ℕ). field_of (kind_of s.defs x)) same ∙ own)))))) is;
  powers = λ d power at prep is.
      bit_same regs s.regs power.word power.bit
      (leaves (bit_field power.word power.bit) (off (field_of (kind_of s.defs c)) refl d 1 (bit_field power.word power.bit) (power-field (kind_of s.defs d) power at) (λ g own same equal. omega arith))) ∙ is;
} where
  off : (o : Option Field) → field_of (kind_of s.defs c) ≡ o → (d j : ℕ) (f : Field) → slice_get (fields_of (kind_of s.defs d)) j ≡ Some f
      → ((g : Field) → field_of (kind_of s.defs c) ≡ Some g → d ≡ c → j ≢ 0) → IfSome o (LieApart f)
  off None own d j f at other = tt
  off (Some g) own d j f at other = fields_apart (length s.regs) s.defs valid d j f c 0 g at (field-field (kind_of s.defs c) g own) (other g own)

setting_of_mux : (kind : Kind) (f : Field) (parent planned : ℕ) (regs : Registers) → mux_field kind ≡ Some f → setting kind parent planned regs ≡ regs
setting_of_mux (Mux word shift width read_only) f parent planned regs at = refl
setting_of_mux (FixedRate rate) f parent planned regs at = absurd cc
setting_of_mux (Factor mult div) f parent planned regs at = absurd cc
setting_of_mux (Gate word bit set_to_disable) f parent planned regs at = absurd cc
setting_of_mux (Divider word shift width one_based power_of_two) f parent planned regs at = absurd cc
setting_of_mux (Pll word shift width power_word power_bit least most m) f parent planned regs at = absurd cc

-- the setting of a clock leaves gates, power bits and muxes
pub keeps_set : (s : State) (k : Change) (c : ℕ) → IsValid (length s.regs) s.defs → Keeps s (set_in_chain s k c)
keeps_set s k c valid = one (planned_rate k c) where
  one : (o : Option ℕ) → Keeps s (option_map_or (λ planned. setting (kind_of s.defs c) (parent_rate_in (wiring s) c) planned s.regs) o s.regs)
  one None = keeps_same s
  one (Some planned) =
      leaves_bits s (setting (kind_of s.defs c) (parent_rate_in (wiring s) c) planned s.regs) c valid
      (λ f apart. (settings_fit (length s.regs) s.defs valid c).put_ (parent_rate_in (wiring s) c) planned s.regs f apart)

pub set_muxes : (s : State) (k : Change) (c : ℕ) → IsValid (length s.regs) s.defs → SameMuxes s.defs s.regs (set_in_chain s k c)
set_muxes s k c valid d f at = one (planned_rate k c) (same_or_not d c) where
  off : (o : Option Field) → field_of (kind_of s.defs c) ≡ o → (d ≡ c → ⊥) → IfSome o (LieApart f)
  off None own other = tt
  off (Some g) own other =
      fields_apart (length s.regs) s.defs valid d 0 f c 0 g (field-field (kind_of s.defs d) f (mux_is_field (kind_of s.defs d) f at)) (field-field (kind_of s.defs c) g own) (λ same. absurd (other same))

  one : (o : Option ℕ) → (d ≡ c) ⊎ (d ≡ c → ⊥)
      → field (option_map_or (λ planned. setting (kind_of s.defs c) (parent_rate_in (wiring s) c) planned s.regs) o s.regs) f.word f.shift f.width ≡ field s.regs f.word f.shift f.width
  one None by = refl
  one (Some planned) (inl same) =
      ap (λ (regs : Registers). field regs f.word f.shift f.width)
      (setting_of_mux (kind_of s.defs c) f (parent_rate_in (wiring s) c) planned s.regs (ap (λ (x : ℕ). mux_field (kind_of s.defs x)) (sym same) ∙ at))
  one (Some planned) (inr other) =
      (settings_fit (length s.regs) s.defs valid c).put_ (parent_rate_in (wiring s) c) planned s.regs f (off (field_of (kind_of s.defs c)) refl other)

-- ---- a mux

-- the registers with the field of a mux written
abbrev pub mux_written : State → ℕ → ℕ → Registers
mux_written s c place = option_map_or (λ f. put s.regs f.word f.shift f.width place) (mux_field (kind_of s.defs c)) s.regs

-- a mux that is written leaves gates and power bits
pub keeps_written : (s : State) (c place : ℕ) → IsValid (length s.regs) s.defs → ((f : Field) → mux_field (kind_of s.defs c) ≡ Some f → place < 2 ^ f.width) → Keeps s (mux_written s c place)
keeps_written s c place valid fits = one (mux_field (kind_of s.defs c)) refl where
  one : (o : Option Field) → mux_field (kind_of s.defs c) ≡ o → Keeps s (option_map_or (λ f. put s.regs f.word f.shift f.width place) o s.regs)
  one None at = keeps_same s
  one (Some g) at =
      leaves_bits s (put s.regs g.word g.shift g.width place) c valid
      (λ f apart. field-put_outside s.regs f g place (subst (λ (o : Option Field). IfSome o (LieApart f)) (mux_is_field (kind_of s.defs c) g at) apart) (fits g at))

-- it selects what stands at its place, and other clocks select what they did
pub selected_written : (s : State) (c place : ℕ) → IsValid (length s.regs) s.defs → ((f : Field) → mux_field (kind_of s.defs c) ≡ Some f → place < 2 ^ f.width) → (d : ℕ)
    → selected s.defs (mux_written s c place) d
    ≡ put_at c (option_map_or (λ f. slice_get (parents_of s.defs c) place) (mux_field (kind_of s.defs c)) (selected s.defs s.regs c)) (selected s.defs s.regs) d
selected_written s c place valid fits d = by_clock (same_or_not c d) where
  here : (o : Option Field) → mux_field (kind_of s.defs c) ≡ o
      → option_map_or (λ f. slice_get (parents_of s.defs c) (field (option_map_or (λ g. put s.regs g.word g.shift g.width place) o s.regs) f.word f.shift f.width)) o (slice_get (parents_of s.defs c) 0)
      ≡ option_map_or (λ f. slice_get (parents_of s.defs c) place) o (option_map_or (λ f. slice_get (parents_of s.defs c) (field s.regs f.word f.shift f.width)) o (slice_get (parents_of s.defs c) 0))
  here None at = refl
  here (Some f) at =
      let own = field-field (kind_of s.defs c) f (mux_is_field (kind_of s.defs c) f at) in
      ap (λ (n : ℕ). slice_get (parents_of s.defs c) n)
      (field-put_same s.regs f.word f.shift f.width place (fields-within (length s.regs) s.defs valid c 0 f (fielded_lt s.defs c 0 f own) own).0 (fits f at))

  there : (o : Option Field) → mux_field (kind_of s.defs c) ≡ o → (c ≡ d → ⊥) → (f : Field) → mux_field (kind_of s.defs d) ≡ Some f
      → field (option_map_or (λ g. put s.regs g.word g.shift g.width place) o s.regs) f.word f.shift f.width ≡ field s.regs f.word f.shift f.width
  there None at other f at' = refl
  there (Some g) at other f at' =
      field-put_outside s.regs f g place
      (fields_apart (length s.regs) s.defs valid d 0 f c 0 g (field-field (kind_of s.defs d) f (mux_is_field (kind_of s.defs d) f at')) (field-field (kind_of s.defs c) g (mux_is_field (kind_of s.defs c) g at))
      (λ same. absurd (other (sym same)))) (fits g at)

  by_clock : (c ≡ d) ⊎ (c ≡ d → ⊥) → selected s.defs (mux_written s c place) d
      ≡ put_at c (option_map_or (λ f. slice_get (parents_of s.defs c) place) (mux_field (kind_of s.defs c)) (selected s.defs s.regs c)) (selected s.defs s.regs) d
  by_clock (inl same) =
      ap (λ (x : ℕ). selected s.defs (mux_written s c place) x) (sym same)
      ∙ here (mux_field (kind_of s.defs c)) refl
      ∙ sym (put_same c d _ (selected s.defs s.regs) same)
  by_clock (inr other) =
      selected_same s.defs s.regs (mux_written s c place) d (there (mux_field (kind_of s.defs c)) refl other)
      ∙ sym (put_other c d _ (selected s.defs s.regs) other)
