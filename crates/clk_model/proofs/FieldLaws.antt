-- Laws on the fields by which clocks select, divide and multiply: what each write of a step leaves of them.
use Rattle.std.proofs.Common.{◌≡◌, ℕ, ◌<◌, ◌^◌, Bool, true, false, Option, Some, None, refl, sym, ap, ◌∙◌, arith, length}
use Rattle.std.specs.Prelude.{IfSome, if◌then◌else◌}
use Rattle.std.specs.Option.{option_map_or}
use Rattle.clk_base.specs.declared.clock.Kind.{Kind}
use Rattle.clk_base.specs.declared.clock.Kind.TheVariants.{FixedRate, Factor, Gate, Mux, Divider, Pll}
use Rattle.clk_base.specs.Description.{Description, kind_of}
use Rattle.clk_base.specs.Fields.{Field, GateBit, PowerBit, bit_field, gate_of, power_of, field_of}
use Rattle.clk_base.specs.Valid.{IsValid}
use Rattle.clk_base.proofs.Valid.{gate-field, power-field, field-field}
use Rattle.reg_bank.specs.Registers.{Registers, field, put}
use Rattle.clk_model.specs.Kinds.{mux_field, is_powered, with_gate, with_power}
use Rattle.clk_model.specs.State.{State, Change}
use Rattle.clk_model.specs.Holders.{active}
use Rattle.clk_model.specs.Gates.{settled}
use Rattle.clk_model.specs.Round.{wiring, parent_rate_in}
use Rattle.clk_model.specs.Chain.{setting}
use Rattle.clk_model.specs.Step.{powered, planned_rate, set_in_chain}
use Rattle.clk_model.specs.Laws.Paths.{scales_by}
use Rattle.clk_model.specs.Laws.Plans.{LieApart}
use Rattle.clk_model.proofs.ApartLaws.{fields_apart, mux_is_field, gate_or_field}
use Rattle.clk_model.proofs.OutcomeLaws.{field-put_outside}
use Rattle.clk_model.proofs.SettingLaws.{settings_fit, bit_same}
use Rattle.clk_model.proofs.GatesFollowLaws.{settled_follows_gates}
use Rattle.clk_model.proofs.KeepLaws.{put_leaves, mux_written}

-- the field by which a clock selects, divides or multiplies reads the same in other registers
abbrev pub FieldStays : Description → Registers → Registers → ℕ → Type 0
FieldStays defs regs regs' d = (f : Field) → field_of (kind_of defs d) ≡ Some f → field regs' f.word f.shift f.width ≡ field regs f.word f.shift f.width

-- a mux divides and multiplies by nothing
pub mux_no_scale : (kind : Kind) (f g : Field) → mux_field kind ≡ Some f → scales_by kind ≡ Some g → ⊥
mux_no_scale (Mux word shift width read_only) f g at e = absurd cc
mux_no_scale (FixedRate rate) f g at e = absurd cc
mux_no_scale (Factor mult div) f g at e = absurd cc
mux_no_scale (Gate word bit set_to_disable) f g at e = absurd cc
mux_no_scale (Divider word shift width one_based power_of_two) f g at e = absurd cc
mux_no_scale (Pll word shift width power_word power_bit least most m) f g at e = absurd cc

-- ---- bits

-- a power bit leaves all these fields
pub powered_stays : (s : State) (words z : ℕ) (up : Bool) (d : ℕ) → IsValid words s.defs → FieldStays s.defs s.regs (powered s z up).regs d
powered_stays s words z up d valid f at = one (power_of (kind_of s.defs z)) refl where
  one : (o : Option PowerBit) → power_of (kind_of s.defs z) ≡ o
      → field (option_map_or (λ power. with_power s.regs power up) o s.regs) f.word f.shift f.width ≡ field s.regs f.word f.shift f.width
  one None own = refl
  one (Some power) own =
      put_leaves words s.defs s.regs z 1 power.word power.bit up d 0 f valid (power-field (kind_of s.defs z) power own) (field-field (kind_of s.defs d) f at) (λ same equal. omega arith)

-- so does a gate that is closed
pub closed_stays : (s : State) (words c d : ℕ) → IsValid words s.defs
    → FieldStays s.defs s.regs (if active s c then s.regs else option_map_or (λ gate. with_gate s.regs gate false) (gate_of (kind_of s.defs c)) s.regs) d
closed_stays s words c d valid f at = by_active (active s c) (gate_of (kind_of s.defs c)) refl where
  by_active : (t : Bool) (o : Option GateBit) → gate_of (kind_of s.defs c) ≡ o
      → field (if t then s.regs else option_map_or (λ gate. with_gate s.regs gate false) o s.regs) f.word f.shift f.width ≡ field s.regs f.word f.shift f.width
  by_active true o own = refl
  by_active false None own = refl
  by_active false (Some gate) own =
      put_leaves words s.defs s.regs c 0 gate.word gate.bit _ d 0 f valid (gate-field (kind_of s.defs c) gate own) (field-field (kind_of s.defs d) f at)
      (λ same. absurd (gate_or_field (kind_of s.defs c) gate f own (ap (λ (x : ℕ). field_of (kind_of s.defs x)) (sym same) ∙ at)))

-- and so do gates that follow their clocks
pub settled_stays : (s y : State) (d : ℕ) → IsValid (length y.regs) y.defs → FieldStays y.defs y.regs (settled s y).regs d
settled_stays s y d valid f at =
    (settled_follows_gates s y valid).fields d 0 f (field-field (kind_of y.defs d) f at) (no_gate (gate_of (kind_of y.defs d)) refl) where
      no_gate : (o : Option GateBit) → gate_of (kind_of y.defs d) ≡ o → o ≡ None
      no_gate None own = refl
      no_gate (Some gate) own = absurd (gate_or_field (kind_of y.defs d) gate f own at)

-- ---- fields

-- the field of a mux leaves those of all other clocks
pub written_stays : (s : State) (words c place d : ℕ) → IsValid words s.defs → ((f : Field) → mux_field (kind_of s.defs c) ≡ Some f → place < 2 ^ f.width) → (d ≡ c → ⊥)
    → FieldStays s.defs s.regs (mux_written s c place) d
written_stays s words c place d valid fits other f at = one (mux_field (kind_of s.defs c)) refl where
  one : (o : Option Field) → mux_field (kind_of s.defs c) ≡ o
      → field (option_map_or (λ g. put s.regs g.word g.shift g.width place) o s.regs) f.word f.shift f.width ≡ field s.regs f.word f.shift f.width
  one None own = refl
  one (Some g) own =
      field-put_outside s.regs f g place
      (fields_apart words s.defs valid d 0 f c 0 g (field-field (kind_of s.defs d) f at) (field-field (kind_of s.defs c) g (mux_is_field (kind_of s.defs c) g own)) (λ same. absurd (other same)))
      (fits g own)

-- and so does the setting of a clock of the chain
pub set_stays : (s : State) (k : Change) (words c d : ℕ) → IsValid words s.defs → (d ≡ c → ⊥) → FieldStays s.defs s.regs (set_in_chain s k c) d
set_stays s k words c d valid other f at = one (planned_rate k c) where
  off : (o : Option Field) → field_of (kind_of s.defs c) ≡ o → IfSome o (LieApart f)
  off None own = tt
  off (Some g) own = fields_apart words s.defs valid d 0 f c 0 g (field-field (kind_of s.defs d) f at) (field-field (kind_of s.defs c) g own) (λ same. absurd (other same))

  one : (o : Option ℕ) → field (option_map_or (λ planned. setting (kind_of s.defs c) (parent_rate_in (wiring s) c) planned s.regs) o s.regs) f.word f.shift f.width ≡ field s.regs f.word f.shift f.width
  one None = refl
  one (Some planned) = (settings_fit words s.defs valid c).put_ (parent_rate_in (wiring s) c) planned s.regs f (off (field_of (kind_of s.defs c)) refl)

-- ---- power bits

-- the field of a mux leaves all power bits
pub written_power : (s : State) (words c place d : ℕ) (power : PowerBit) → IsValid words s.defs → ((f : Field) → mux_field (kind_of s.defs c) ≡ Some f → place < 2 ^ f.width)
    → power_of (kind_of s.defs d) ≡ Some power → is_powered (mux_written s c place) power ≡ is_powered s.regs power
written_power s words c place d power valid fits at = one (mux_field (kind_of s.defs c)) refl where
  one : (o : Option Field) → mux_field (kind_of s.defs c) ≡ o → is_powered (option_map_or (λ g. put s.regs g.word g.shift g.width place) o s.regs) power ≡ is_powered s.regs power
  one None own = refl
  one (Some g) own =
      bit_same (put s.regs g.word g.shift g.width place) s.regs power.word power.bit
      (field-put_outside s.regs (bit_field power.word power.bit) g place
      (fields_apart words s.defs valid d 1 (bit_field power.word power.bit) c 0 g (power-field (kind_of s.defs d) power at)
      (field-field (kind_of s.defs c) g (mux_is_field (kind_of s.defs c) g own)) (λ same equal. omega arith)) (fits g own))

-- so does the setting of a clock of the chain
pub set_power : (s : State) (k : Change) (words c d : ℕ) (power : PowerBit) → IsValid words s.defs → power_of (kind_of s.defs d) ≡ Some power
    → is_powered (set_in_chain s k c) power ≡ is_powered s.regs power
set_power s k words c d power valid at = one (planned_rate k c) where
  off : (o : Option Field) → field_of (kind_of s.defs c) ≡ o → IfSome o (LieApart (bit_field power.word power.bit))
  off None own = tt
  off (Some g) own =
      fields_apart words s.defs valid d 1 (bit_field power.word power.bit) c 0 g (power-field (kind_of s.defs d) power at) (field-field (kind_of s.defs c) g own) (λ same equal. omega arith)

  one : (o : Option ℕ) → is_powered (option_map_or (λ planned. setting (kind_of s.defs c) (parent_rate_in (wiring s) c) planned s.regs) o s.regs) power ≡ is_powered s.regs power
  one None = refl
  one (Some planned) =
      bit_same (setting (kind_of s.defs c) (parent_rate_in (wiring s) c) planned s.regs) s.regs power.word power.bit
      ((settings_fit words s.defs valid c).put_ (parent_rate_in (wiring s) c) planned s.regs (bit_field power.word power.bit) (off (field_of (kind_of s.defs c)) refl))

-- and so does a gate that is closed
pub closed_power : (s : State) (words c d : ℕ) (power : PowerBit) → IsValid words s.defs → power_of (kind_of s.defs d) ≡ Some power
    → is_powered (if active s c then s.regs else option_map_or (λ gate. with_gate s.regs gate false) (gate_of (kind_of s.defs c)) s.regs) power ≡ is_powered s.regs power
closed_power s words c d power valid at = by_active (active s c) (gate_of (kind_of s.defs c)) refl where
  by_active : (t : Bool) (o : Option GateBit) → gate_of (kind_of s.defs c) ≡ o
      → is_powered (if t then s.regs else option_map_or (λ gate. with_gate s.regs gate false) o s.regs) power ≡ is_powered s.regs power
  by_active true o own = refl
  by_active false None own = refl
  by_active false (Some gate) own =
      bit_same (with_gate s.regs gate false) s.regs power.word power.bit
      (put_leaves words s.defs s.regs c 0 gate.word gate.bit _ d 1 (bit_field power.word power.bit) valid (gate-field (kind_of s.defs c) gate own) (power-field (kind_of s.defs d) power at)
      (λ same equal. omega arith))
