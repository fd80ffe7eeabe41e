-- The gates follow the active clocks.
use Rattle.std.specs.Prelude.{ℕ, List, [], ◌∷◌, Bool, true, false, length}
use Rattle.std.specs.Option.{option_map_or}
use Rattle.clk_base.specs.Description.{Description, kind_of}
use Rattle.reg_bank.specs.Registers.{Registers}
use Rattle.clk_model.specs.Lists.{count_from}
use Rattle.clk_base.specs.Fields.{GateBit, gate_of}
use Rattle.clk_model.specs.Kinds.{with_gate}
use Rattle.clk_model.specs.State.{State}
use Rattle.clk_model.specs.Holders.{active}

-- a gate opens where its clock wasn't active and is, closes where it was and isn't, and else stays
abbrev pub follow : Registers → Bool → Bool → GateBit → Registers
follow regs false true gate = with_gate regs gate true
follow regs true false gate = with_gate regs gate false
follow regs _ _ gate = regs

-- the registers after the gate of one clock has followed
abbrev pub gate_moved : Description → (ℕ → Bool) → (ℕ → Bool) → ℕ → Registers → Registers
gate_moved defs before after c regs = option_map_or (follow regs (before c) (after c)) (gate_of (kind_of defs c)) regs

-- the registers after the gates of these clocks have followed
abbrev pub gates_moved : Description → (ℕ → Bool) → (ℕ → Bool) → List ℕ → Registers → Registers
gates_moved defs before after [] regs = regs
gates_moved defs before after (c ∷ cs) regs = gate_moved defs before after c (gates_moved defs before after cs regs)

-- the state after an event: each gate follows its clock from the state before the event
unfoldable pub settled : State → State → State
settled old new =
    record new { regs = gates_moved new.defs (active old) (active new) (count_from 0 (length new.defs)) new.regs }
