-- The part of a state that belongs to the prepare tier: what no enable and no disable changes.
use Rattle.std.specs.Prelude.{ℕ, List, [], ◌∷◌, Bool, true, false, map, option_map, if◌then◌else◌, length}
use Rattle.std.specs.Option.{option_map_or}
use Rattle.clk_base.specs.declared.call.Sleeping.{Sleeping}
use Rattle.clk_base.specs.declared.call.Sleeping.TheVariants as call
use Rattle.clk_base.specs.Description.{Description, kind_of}
use Rattle.clk_base.specs.Fields.{gate_of}
use Rattle.reg_bank.specs.Registers.{Registers, put_bit}
use Rattle.clk_model.specs.declared.row.HandleRow.{HandleRow}
use Rattle.clk_model.specs.Lists.{count_from}
use Rattle.clk_model.specs.State.{State, Change}

-- the registers with the gate bit of a clock cleared
abbrev pub gate_cleared : Description → ℕ → Registers → Registers
gate_cleared defs c regs = option_map_or (λ gate. put_bit regs gate.word gate.bit false) (gate_of (kind_of defs c)) regs

-- the registers with the gate bits of these clocks cleared
abbrev pub gates_cleared : Description → List ℕ → Registers → Registers
gates_cleared defs [] regs = regs
gates_cleared defs (c ∷ cs) regs = gate_cleared defs c (gates_cleared defs cs regs)

-- the registers without what the gates say
unfoldable pub masked : Description → Registers → Registers
masked defs regs = gates_cleared defs (count_from 0 (length defs)) regs

-- a handle without its enables
abbrev pub without_enables : HandleRow → HandleRow
without_enables h = record h { enables = 0 }

-- whether the call is the unused sweep
abbrev pub is_sweep : Sleeping → Bool
is_sweep call.Sweep = true
is_sweep _ = false

-- a change; of a sweep, which looks at the active clocks, without what is left of it and whether a poll of it timed out
abbrev pub change_prep : Change → Change
change_prep k = record k {
  front = if is_sweep k.call then [] else k.front;
  left = if is_sweep k.call then [] else k.left;
  timed_out = if is_sweep k.call then false else k.timed_out;
}

-- a state without gate bits, enables, enable holds and what is left of a sweep, and without the spent credits and the steps
unfoldable pub prep : State → State
prep s = record s {
  regs = masked s.defs s.regs;
  handles = map (option_map without_enables) s.handles;
  enable_holds = [];
  change = option_map change_prep s.change;
  spent = 0;
  steps = 0;
}
