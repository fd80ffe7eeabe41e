-- The parts of a core where a PLL is powered or switched off.
use Rattle.std.proofs.Common.{◌≡◌, ℕ, ◌<◌, Bool, true, List, Option, Some, None, refl, sym, ap, subst, ◌∙◌, length}
use Rattle.std.specs.Prelude.{is_some}
use Rattle.std.specs.Option.{option_map, option_map_or}
use Rattle.clk_base.specs.Checked.{Checked}
use Rattle.clk_base.specs.Description.{Description, kind_of}
use Rattle.clk_base.specs.Fields.{PowerBit, power_of}
use Rattle.clk_base.specs.Valid.{IsValid}
use Rattle.clk_base.proofs.Valid.{power-within}
use Rattle.reg_bank.specs.Registers.{Registers, AreWords}
use Rattle.reg_bank.proofs.BitLaws.{AreWords-put_bit, length-put_bit}
use Rattle.clk_model.specs.declared.row.ClockRow.{ClockRow}
use Rattle.clk_model.specs.Kinds.{with_power}
use Rattle.clk_model.specs.State.{State}
use Rattle.clk_model.specs.Rate.{rate}
use Rattle.clk_model.specs.Journal.{opening}
use Rattle.clk_model.specs.Step.{powered}
use Rattle.clk_model.proofs.FieldLaws.{powered_stays}
use Rattle.clk_model.proofs.GateRateLaws.{scales_is_field}
use Rattle.clk_model.proofs.RateLaws.{writes_leave_rates}
use Rattle.clk_tree.specs.TreeState.{TreeState}
use Rattle.core_parts.specs.Window.{Shown, AreTold}
use Rattle.core_parts.specs.Tied.{AreKept, AreTied}

-- registers in which a clock is powered or not
abbrev pub power_put : Description → ℕ → Bool → Registers → Registers
power_put defs y up regs = option_map_or (λ power. with_power regs power up) (power_of (kind_of defs y)) regs

-- power has no part in rates
rate_powered : (words : ℕ) (defs : Description) (y : ℕ) (up : Bool) (regs : Registers) (clocks : List ClockRow) (c : ℕ) → IsValid words defs
    → rate defs (power_put defs y up regs) clocks c ≡ rate defs regs clocks c
rate_powered words defs y up regs clocks c valid =
    writes_leave_rates defs regs (power_put defs y up regs) clocks c
    (λ a m f at. powered_stays (opening defs regs true 0) words y up a valid f (scales_is_field (kind_of defs a) f at))

told_powered : (n : ℕ) (told : Option (List ℕ)) (defs : Description) (y : ℕ) (up : Bool) → AreTold n told
    → ((power : PowerBit) → power_of (kind_of defs y) ≡ Some power → power.bit < 32) → AreTold n (option_map (power_put defs y up) told)
told_powered n None defs y up are low = tt
told_powered n (Some ws) defs y up are low = by (power_of (kind_of defs y)) refl where
  by : (o : Option PowerBit) → power_of (kind_of defs y) ≡ o
      → AreWords (option_map_or (λ power. with_power ws power up) o ws) × (length (option_map_or (λ power. with_power ws power up) o ws) ≡ n)
  by None at = are
  by (Some power) at = (AreWords-put_bit ws power.word power.bit up (low power at) are.0, length-put_bit ws power.word power.bit up ∙ are.1)

kept_powered : (words : ℕ) (told : Option (List ℕ)) (defs : Description) (y : ℕ) (up : Bool) (clocks : List ClockRow) (rates : List ℕ) → IsValid words defs
    → AreKept defs told clocks rates → AreKept defs (option_map (power_put defs y up) told) clocks rates
kept_powered words None defs y up clocks rates valid kept = tt
kept_powered words (Some ws) defs y up clocks rates valid kept = λ c there. kept c there ∙ sym (rate_powered words defs y up ws clocks c valid)

-- the words and the tree go on with each other
pub tied_powered : (desc : Checked) (window window' : Shown) (tree : TreeState) (y : ℕ) (up : Bool) → AreTied desc window tree → y < length desc.defs
    → window'.size ≡ window.size → window'.words ≡ option_map (power_put desc.defs y up) window.words → AreTied desc window' tree
tied_powered desc window window' tree y up tied within size words = record {
  valid = tied.valid;
  words = size ∙ tied.words;
  told = subst (λ (n : ℕ). AreTold n window'.words) (sym size)
      (subst (λ (o : Option (List ℕ)). AreTold window.size o) (sym words)
      (told_powered window.size window.words desc.defs y up tied.told (λ power at. (power-within desc.words desc.defs tied.valid y power within at).1)));
  defs = tied.defs;
  stands = tied.stands;
  kept = subst (λ (o : Option (List ℕ)). AreKept desc.defs o tree.clocks tree.rates) (sym words)
      (kept_powered desc.words window.words desc.defs y up tree.clocks tree.rates tied.valid tied.kept);
}

-- where nothing is written they stay
pub tied_same : (desc : Checked) (window window' : Shown) (tree : TreeState) → AreTied desc window tree → window'.size ≡ window.size → window'.words ≡ window.words
    → AreTied desc window' tree
tied_same desc window window' tree tied size words = record {
  valid = tied.valid;
  words = size ∙ tied.words;
  told = subst (λ (n : ℕ). AreTold n window'.words) (sym size) (subst (λ (o : Option (List ℕ)). AreTold window.size o) (sym words) tied.told);
  defs = tied.defs;
  stands = tied.stands;
  kept = subst (λ (o : Option (List ℕ)). AreKept desc.defs o tree.clocks tree.rates) (sym words) tied.kept;
}

-- the words that a state has then
pub powered_words : (defs : Description) (y : ℕ) (up : Bool) (told told' : Option (List ℕ)) (s : State) → s.defs ≡ defs → told ≡ Some s.regs
    → told' ≡ option_map (power_put defs y up) told → told' ≡ Some (powered s y up).regs
powered_words defs y up told told' s same is then =
    then ∙ ap (option_map (power_put defs y up)) is ∙ ap (λ (d : Description). Some (power_put d y up s.regs)) (sym same)

-- whether words are told stays
pub told_put : (defs : Description) (y : ℕ) (up : Bool) (told told' : Option (List ℕ)) → told' ≡ option_map (power_put defs y up) told → is_some told' ≡ is_some told
told_put defs y up told told' then = ap (λ (o : Option (List ℕ)). is_some o) then ∙ same told where
  same : (o : Option (List ℕ)) → is_some (option_map (power_put defs y up) o) ≡ is_some o
  same None = refl
  same (Some ws) = refl
