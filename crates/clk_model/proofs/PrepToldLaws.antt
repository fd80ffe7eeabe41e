-- Laws on what the prepare tier's part of a state tells.
use Rattle.std.proofs.Common.{◌≡◌, ℕ, zero, suc, false, List, [], ◌∷◌, Option, Some, None, refl, sym, ap, ◌∙◌, map, length}
use Rattle.std.specs.Prelude.{option_map, slice_get}
use Rattle.std.specs.Option.{option_map_or}
use Rattle.clk_base.specs.Description.{Description, kind_of}
use Rattle.clk_base.specs.Fields.{Field, GateBit, bit_field, gate_of, fields_of}
use Rattle.clk_base.specs.Valid.{IsValid}
use Rattle.clk_base.proofs.Valid.{gate-field}
use Rattle.reg_bank.specs.Registers.{Registers, field, put_bit}
use Rattle.clk_model.specs.declared.row.ClockRow.{ClockRow}
use Rattle.clk_model.specs.declared.row.HandleRow.{HandleRow}
use Rattle.clk_model.specs.Lists.{count_from}
use Rattle.clk_model.specs.State.{State, handle_at}
use Rattle.clk_model.specs.Rate.{rate}
use Rattle.clk_model.specs.Prep.{gates_cleared, masked, without_enables, prep}
use Rattle.clk_model.specs.Laws.PrepTold.{PrepTells}
use Rattle.clk_model.specs.Laws.Plans.{LieApart}
use Rattle.clk_model.proofs.Members.{is_in_head, is_in_tail}
use Rattle.clk_model.proofs.PrepLaws.{length-gates_cleared}
use Rattle.clk_model.proofs.ApartLaws.{fields_apart}
use Rattle.clk_model.proofs.SupplyLaws.{LiesOffGates, field-put_off}
use Rattle.clk_model.proofs.RateLaws.{writes_leave_rates}
use Rattle.clk_model.proofs.GateRateLaws.{scale_off_gates}

-- ---- registers

field-cleared : (o : Option GateBit) (regs : Registers) (f : Field) → ((gate : GateBit) → o ≡ Some gate → LieApart f (bit_field gate.word gate.bit))
    → field (option_map_or (λ gate. put_bit regs gate.word gate.bit false) o regs) f.word f.shift f.width ≡ field regs f.word f.shift f.width
field-cleared None regs f apart = refl
field-cleared (Some gate) regs f apart = field-put_off regs f gate false (apart gate refl)

-- gates that are cleared leave a field that lies apart from them
pub field-gates_cleared : (defs : Description) (cs : List ℕ) (regs : Registers) (f : Field) → LiesOffGates defs cs f
    → field (gates_cleared defs cs regs) f.word f.shift f.width ≡ field regs f.word f.shift f.width
field-gates_cleared defs [] regs f off = refl
field-gates_cleared defs (c ∷ cs) regs f off =
    field-cleared (gate_of (kind_of defs c)) (gates_cleared defs cs regs) f (λ gate e. off c gate (is_in_head c cs) e)
    ∙ field-gates_cleared defs cs regs f (λ d gate m e. off d gate (is_in_tail d c cs m) e)

-- so it reads the same in registers that are the same without their gates
pub same_field : (defs : Description) (xs ys : Registers) (f : Field) → LiesOffGates defs (count_from 0 (length defs)) f → masked defs xs ≡ masked defs ys
    → field xs f.word f.shift f.width ≡ field ys f.word f.shift f.width
unfolding masked
same_field defs xs ys f off same =
    sym (field-gates_cleared defs (count_from 0 (length defs)) xs f off)
    ∙ ap (λ (regs : Registers). field regs f.word f.shift f.width) same
    ∙ field-gates_cleared defs (count_from 0 (length defs)) ys f off

pub same_words : (defs : Description) (xs ys : Registers) → masked defs xs ≡ masked defs ys → length xs ≡ length ys
unfolding masked
same_words defs xs ys same =
    sym (length-gates_cleared defs (count_from 0 (length defs)) xs)
    ∙ ap (λ (regs : Registers). length regs) same
    ∙ length-gates_cleared defs (count_from 0 (length defs)) ys

-- ---- handles

pub handle_masked : (handles : List (Option HandleRow)) (n : ℕ) → option_map without_enables (handle_at handles n) ≡ handle_at (map (option_map without_enables) handles) n
handle_masked [] n = refl
handle_masked (o ∷ handles) zero = refl
handle_masked (o ∷ handles) (suc n) = handle_masked handles n

-- ---- states

-- a field of a clock that isn't a gate lies off the gates
pub off_gates : (words : ℕ) (defs : Description) (c j : ℕ) (f : Field) → IsValid words defs → slice_get (fields_of (kind_of defs c)) j ≡ Some f
    → gate_of (kind_of defs c) ≡ None → LiesOffGates defs (count_from 0 (length defs)) f
off_gates words defs c j f valid at none d gate m at' =
    fields_apart words defs valid c j f d 0 (bit_field gate.word gate.bit) at (gate-field (kind_of defs d) gate at')
    (λ same. let gone : gate_of (kind_of defs d) ≡ None = ap (λ (x : ℕ). gate_of (kind_of defs x)) (sym same) ∙ none in absurd cc)

pub prep_tells : PrepTells
unfolding prep
prep_tells s t valid same =
    let defs : t.defs ≡ s.defs = ap (λ (u : State). u.defs) same in
    let clocks : t.clocks ≡ s.clocks = ap (λ (u : State). u.clocks) same in
    let regs : masked s.defs t.regs ≡ masked s.defs s.regs = ap (λ (ds : Description). masked ds t.regs) (sym defs) ∙ ap (λ (u : State). u.regs) same in
    record {
      defs = defs;
      clocks = clocks;
      order = ap (λ (u : State). u.order) same;
      handles = λ n. handle_masked t.handles n ∙ ap (λ (u : State). handle_at u.handles n) same ∙ sym (handle_masked s.handles n);
      notifiers = ap (λ (u : State). u.notifiers) same;
      prepare_holds = ap (λ (u : State). u.prepare_holds) same;
      words = same_words s.defs t.regs s.regs regs;
      fields = λ c j f at none. same_field s.defs t.regs s.regs f (off_gates (length s.regs) s.defs c j f valid at none) regs;
      rates = λ c.
          ap (λ (ds : Description). rate ds t.regs t.clocks c) defs
          ∙ ap (λ (rows : List ClockRow). rate s.defs t.regs rows c) clocks
          ∙ writes_leave_rates s.defs s.regs t.regs s.clocks c
          (λ a m f at. same_field s.defs t.regs s.regs f (scale_off_gates (length s.regs) s.defs (count_from 0 (length s.defs)) a f valid at) regs);
    }
