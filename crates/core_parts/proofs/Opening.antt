-- Opening the gates of clocks, one behind the others.
use Rattle.std.proofs.Common.{◌≡◌, ℕ, ◌<◌, Bool, true, false, List, [], ◌∷◌, ◌++◌, Option, Some, None, refl, sym, ap, ◌∙◌, length}
use Rattle.std.specs.Prelude.{IfSome}
use Rattle.clk_base.specs.Valid.{IsValid}
use Rattle.clk_base.proofs.Valid.{gate-within, power-within}
use Rattle.std.specs.Option.{option_map, option_map_or}
use Rattle.clk_base.specs.declared.clock.Kind.{Kind}
use Rattle.clk_base.specs.Description.{Description, kind_of}
use Rattle.clk_base.specs.Fields.{GateBit, PowerBit, gate_of, power_of}
use Rattle.clk_model.specs.Gates.{follow, gates_moved}
use Rattle.clk_model.proofs.GateLaws.{gates_moved-append}

-- the words after the gates of these clocks have opened, where they are told
abbrev pub opened : Description → (ℕ → Bool) → List ℕ → Option (List ℕ) → Option (List ℕ)
opened defs before cs told = option_map (gates_moved defs before (λ _. true) cs) told

-- the gates of no clocks
pub opened_none : (defs : Description) (before : ℕ → Bool) (old : Option (List ℕ)) → old ≡ opened defs before [] old
opened_none defs before None = refl
opened_none defs before (Some regs) = refl

-- the gate of one clock behind those of others
pub opened_next : (defs : Description) (before : ℕ → Bool) (c : ℕ) (cs : List ℕ) (kind : Kind) (old mid new : Option (List ℕ))
    → kind ≡ kind_of defs c → before c ≡ false → mid ≡ opened defs before cs old
    → new ≡ option_map (λ regs. option_map_or (follow regs false true) (gate_of kind) regs) mid
    → new ≡ opened defs before (c ∷ cs) old
opened_next defs before c cs kind old mid new is idle first then =
    then ∙ ap (option_map (λ regs. option_map_or (follow regs false true) (gate_of kind) regs)) first
    ∙ ap (λ (k : Kind). option_map (λ regs. option_map_or (follow regs false true) (gate_of k) regs) (opened defs before cs old)) is
    ∙ ap (λ (b : Bool). option_map (λ regs. option_map_or (follow regs b true) (gate_of (kind_of defs c)) regs) (opened defs before cs old)) (sym idle)
    ∙ join old where
      join : (old : Option (List ℕ)) → option_map (λ regs. option_map_or (follow regs (before c) true) (gate_of (kind_of defs c)) regs) (opened defs before cs old)
          ≡ opened defs before (c ∷ cs) old
      join None = refl
      join (Some regs) = refl

-- the gates of some clocks behind those of others
pub opened_behind : (defs : Description) (before : ℕ → Bool) (xs ys : List ℕ) (old mid new : Option (List ℕ))
    → mid ≡ opened defs before ys old → new ≡ opened defs before xs mid → new ≡ opened defs before (xs ++ ys) old
opened_behind defs before xs ys old mid new first then = then ∙ ap (opened defs before xs) first ∙ join old where
  join : (old : Option (List ℕ)) → opened defs before xs (opened defs before ys old) ≡ opened defs before (xs ++ ys) old
  join None = refl
  join (Some regs) = ap (λ (r : List ℕ). Some r) (sym (gates_moved-append defs before (λ _. true) xs ys regs))

-- a gate of a valid description lies in the bank
pub gate_fits : (words : ℕ) (defs : Description) (c : ℕ) → IsValid words defs → c < length defs → IfSome (gate_of (kind_of defs c)) (λ gate. (gate.word < words) × (gate.bit < 32))
gate_fits words defs c valid within = from (gate_of (kind_of defs c)) (λ gate e. gate-within words defs valid c gate within e) where
  from : (o : Option GateBit) → ((gate : GateBit) → o ≡ Some gate → (gate.word < words) × (gate.bit < 32)) → IfSome o (λ gate. (gate.word < words) × (gate.bit < 32))
  from None each = tt
  from (Some gate) each = each gate refl

-- and so does a power bit
pub power_fits : (words : ℕ) (defs : Description) (c : ℕ) → IsValid words defs → c < length defs → IfSome (power_of (kind_of defs c)) (λ power. (power.word < words) × (power.bit < 32))
power_fits words defs c valid within = from (power_of (kind_of defs c)) (λ power e. power-within words defs valid c power within e) where
  from : (o : Option PowerBit) → ((power : PowerBit) → o ≡ Some power → (power.word < words) × (power.bit < 32)) → IfSome o (λ power. (power.word < words) × (power.bit < 32))
  from None each = tt
  from (Some power) each = each power refl
