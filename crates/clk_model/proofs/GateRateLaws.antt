-- Laws on gates that move: they leave the parents that registers select, and rates.
use Rattle.std.proofs.Common.{◌≡◌, ℕ, Bool, List, Some, sym, ap, ◌∙◌}
use Rattle.clk_base.specs.declared.clock.Kind.{Kind}
use Rattle.clk_base.specs.declared.clock.Kind.TheVariants.{FixedRate, Factor, Gate, Mux, Divider, Pll}
use Rattle.clk_base.specs.Description.{Description, kind_of}
use Rattle.clk_base.specs.Fields.{Field, bit_field, field_of}
use Rattle.clk_base.specs.Valid.{IsValid}
use Rattle.clk_base.proofs.Valid.{gate-field, field-field}
use Rattle.reg_bank.specs.Registers.{Registers}
use Rattle.clk_model.specs.declared.row.ClockRow.{ClockRow}
use Rattle.clk_model.specs.Rate.{rate}
use Rattle.clk_model.specs.Gates.{gates_moved}
use Rattle.clk_model.specs.Laws.Paths.{scales_by}
use Rattle.clk_model.proofs.ApartLaws.{fields_apart, gate_or_field}
use Rattle.clk_model.proofs.RateLaws.{writes_leave_rates}
use Rattle.clk_model.proofs.SupplyLaws.{LiesOffGates, field-gates_moved}

-- the field by which a clock divides or multiplies is its field
pub scales_is_field : (kind : Kind) (f : Field) → scales_by kind ≡ Some f → field_of kind ≡ Some f
scales_is_field (FixedRate rate) f at = absurd cc
scales_is_field (Factor mult div) f at = absurd cc
scales_is_field (Gate word bit set_to_disable) f at = absurd cc
scales_is_field (Mux word shift width read_only) f at = absurd cc
scales_is_field (Divider word shift width one_based power_of_two) f at = at
scales_is_field (Pll word shift width power_word power_bit least most m) f at = at

-- it lies apart from gates, where the description is valid
pub scale_off_gates : (words : ℕ) (defs : Description) (cs : List ℕ) (c : ℕ) (f : Field) → IsValid words defs → scales_by (kind_of defs c) ≡ Some f → LiesOffGates defs cs f
scale_off_gates words defs cs c f valid at d gate m e =
    let own = scales_is_field (kind_of defs c) f at in
    fields_apart words defs valid c 0 f d 0 (bit_field gate.word gate.bit) (field-field (kind_of defs c) f own) (gate-field (kind_of defs d) gate e)
    (λ same. absurd (gate_or_field (kind_of defs d) gate f e (ap (λ (x : ℕ). field_of (kind_of defs x)) (sym same) ∙ own)))

-- so they leave rates
pub rate-moved : (words : ℕ) (defs : Description) (before after : ℕ → Bool) (cs : List ℕ) (regs : Registers) (clocks : List ClockRow) (c : ℕ) → IsValid words defs
    → rate defs (gates_moved defs before after cs regs) clocks c ≡ rate defs regs clocks c
rate-moved words defs before after cs regs clocks c valid =
    writes_leave_rates defs regs (gates_moved defs before after cs regs) clocks c
    (λ a m f at. field-gates_moved defs before after cs regs f (scale_off_gates words defs cs a f valid at))
