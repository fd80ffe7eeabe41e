-- Laws on gates that follow their clocks, each in turn, and on the opening, where no clock is active.
use Rattle.std.proofs.Common.{◌≡◌, ℕ, zero, suc, ◌<◌, ◌&&◌, Bool, true, false, not, cond, List, [], Some, None, refl, sym, ap, ◌∙◌, arith, length, replicate}
use Rattle.clk_base.specs.Description.{Description, kind_of}
use Rattle.clk_base.specs.Fields.{GateBit, bit_field, gate_of}
use Rattle.clk_base.specs.Flags.{is_critical}
use Rattle.clk_base.proofs.Valid.{gate-field}
use Rattle.reg_bank.specs.Registers.{Registers, is_set}
use Rattle.clk_model.specs.Lists.{is_in, count_from}
use Rattle.clk_model.specs.State.{State, unregistered_row, registered, link_in}
use Rattle.clk_model.specs.Holders.{critical_clocks, active, prepared}
use Rattle.clk_model.specs.Gates.{gates_moved, settled}
use Rattle.clk_model.specs.Journal.{opening}
use Rattle.clk_model.specs.Laws.Supplied.{OpeningIsSupplied, SettledFollowsGates}
use Rattle.clk_model.proofs.Members.{is_in-count_from}
use Rattle.clk_model.proofs.CountLaws.{prepared_by_handles}
use Rattle.clk_model.proofs.GateLaws.{gate_bit, is_set-gates_moved_same, is_set-gates_moved_other}
use Rattle.clk_model.proofs.StateLaws.{filter_none, active_by_handles}
use Rattle.clk_model.proofs.ApartLaws.{fields_apart, fielded_lt}
use Rattle.clk_model.proofs.SupplyLaws.{gates_lie, field-gates_moved}

-- ---- gates

-- a gate's bit shows what was made of it
shown : (gate : GateBit) (b t : Bool) → b ≡ gate_bit gate t → cond gate.set_to_disable (not b) b ≡ t
shown gate b t is = ap (λ (x : Bool). cond gate.set_to_disable (not x) x) is ∙ both gate.set_to_disable t where
  both : (d u : Bool) → cond d (not (cond d (not u) u)) (cond d (not u) u) ≡ u
  both true true = refl
  both true false = refl
  both false u = refl

listed : (defs : Description) (c : ℕ) (gate : GateBit) → gate_of (kind_of defs c) ≡ Some gate → is_in c (count_from 0 (length defs)) ≡ true
listed defs c gate at =
    let inside : c < length defs = fielded_lt defs c 0 (bit_field gate.word gate.bit) (gate-field (kind_of defs c) gate at) in
    is_in-count_from c 0 (length defs) (omega arith) (omega arith)

-- each gate follows its clock, and nothing else moves
pub settled_follows_gates : SettledFollowsGates
unfolding settled
settled_follows_gates old new valid =
    let all : List ℕ = count_from 0 (length new.defs) in
    let regs : Registers = gates_moved new.defs (active old) (active new) all new.regs in
    let lie = gates_lie new.defs (length new.regs) valid in
    record {
      opens = λ c gate at was is.
          shown gate (is_set regs gate.word gate.bit) true
          (is_set-gates_moved_same new.defs (active old) (active new) all new.regs c gate lie (listed new.defs c gate at) at
          (λ same. let no : false ≡ true = sym was ∙ same ∙ is in cc) ∙ ap (gate_bit gate) is);
      closes = λ c gate at was is.
          shown gate (is_set regs gate.word gate.bit) false
          (is_set-gates_moved_same new.defs (active old) (active new) all new.regs c gate lie (listed new.defs c gate at) at
          (λ same. let no : true ≡ false = sym was ∙ same ∙ is in cc) ∙ ap (gate_bit gate) is);
      stays = λ c gate at same.
          ap (λ (b : Bool). cond gate.set_to_disable (not b) b)
          (is_set-gates_moved_other new.defs (active old) (active new) all new.regs gate.word gate.bit
          (λ d other m at' word bit.
          let here : d ≡ c = lie.apart c d gate other (listed new.defs c gate at) m at at' word bit in
          ap (active old) here ∙ same ∙ ap (active new) (sym here)));
      fields = λ c j f at none.
          field-gates_moved new.defs (active old) (active new) all new.regs f
          (λ d gate m at'.
          fields_apart (length new.regs) new.defs valid c j f d 0 (bit_field gate.word gate.bit) at (gate-field (kind_of new.defs d) gate at')
          (λ same. let gone : gate_of (kind_of new.defs d) ≡ None = ap (λ (x : ℕ). gate_of (kind_of new.defs x)) (sym same) ∙ none in absurd cc));
      rest = refl;
    }

-- ---- the opening

-- no clock is registered there, and none has a link
pub blank_registered : (n c : ℕ) → registered (replicate n unregistered_row) c ≡ false
blank_registered zero c = refl
blank_registered (suc n) zero = refl
blank_registered (suc n) (suc c) = blank_registered n c

pub blank_link : (n c : ℕ) → link_in (replicate n unregistered_row) c ≡ None
blank_link zero c = refl
blank_link (suc n) zero = refl
blank_link (suc n) (suc c) = blank_link n c

and_off : (b : Bool) → (b && false) ≡ false
and_off true = refl
and_off false = refl

-- nothing is active or prepared at the opening
pub opening_is_supplied : OpeningIsSupplied
opening_is_supplied defs words ignore_unused credits valid = record {
  supplies = record {
    valid = valid;
    links = λ c p e. let none = blank_link (length defs) c in absurd cc;
    prepared_ = λ c act. let no : false ≡ true = sym (idle c) ∙ act in absurd cc;
    ready = λ c prep. let no : false ≡ true = sym (unprepared c) ∙ prep in absurd cc;
  };
  gates = λ c act. let no : false ≡ true = sym (idle c) ∙ act in absurd cc;
} where
  s : State
  s = opening defs words ignore_unused credits

  uncritical : critical_clocks s ≡ []
  uncritical =
      filter_none (λ c. is_critical defs c && registered s.clocks c) (count_from 0 (length defs))
      (λ c m. ap (λ (b : Bool). is_critical defs c && b) (blank_registered (length defs) c) ∙ and_off (is_critical defs c))

  idle : (c : ℕ) → active s c ≡ false
  idle c = active_by_handles s c uncritical refl

  unprepared : (c : ℕ) → prepared s c ≡ false
  unprepared c = prepared_by_handles s c uncritical refl
