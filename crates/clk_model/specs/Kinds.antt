-- What the definitions ask of a clock's kind, one question each.
use Rattle.std.specs.Prelude.{Bool, true, false, not, if◌then◌else◌, Option, Some, None}
use Rattle.clk_base.specs.declared.clock.Kind.{Kind}
use Rattle.clk_base.specs.declared.clock.Kind.TheVariants.{FixedRate, Gate, Mux, Divider, Pll}
use Rattle.clk_base.specs.Fields.{Field, GateBit, PowerBit}
use Rattle.reg_bank.specs.Registers.{Registers, is_set, put_bit}

-- whether the clock has its rate from nowhere but its description
abbrev pub is_fixed : Kind → Bool
is_fixed (FixedRate rate) = true
is_fixed _ = false

-- whether the clock is a PLL
abbrev pub is_pll : Kind → Bool
is_pll (Pll word shift width power_word power_bit least most m) = true
is_pll _ = false

-- the field that selects the parent of a mux
abbrev pub mux_field : Kind → Option Field
mux_field (Mux word shift width read_only) = Some (record { word = word; shift = shift; width = width })
mux_field _ = None

-- whether the field of a mux is only read
abbrev pub is_read_only : Kind → Bool
is_read_only (Mux word shift width read_only) = read_only
is_read_only _ = false

-- whether a planned rate is set in a field of the clock: of a divider and a PLL
abbrev pub has_setting : Kind → Bool
has_setting (Divider word shift width one_based power_of_two) = true
has_setting (Pll word shift width power_word power_bit least most m) = true
has_setting _ = false

-- whether a request for a rate may change something of the clock itself
abbrev pub can_round : Kind → Bool
can_round (FixedRate rate) = false
can_round (Gate word bit set_to_disable) = false
can_round (Mux word shift width read_only) = not read_only
can_round _ = true

-- whether the registers hold a gate open
abbrev pub is_open : Registers → GateBit → Bool
is_open regs gate = if gate.set_to_disable then not (is_set regs gate.word gate.bit) else is_set regs gate.word gate.bit

-- the registers with a gate opened or closed
abbrev pub with_gate : Registers → GateBit → Bool → Registers
with_gate regs gate open_ = put_bit regs gate.word gate.bit (if gate.set_to_disable then not open_ else open_)

-- whether the registers power a PLL
abbrev pub is_powered : Registers → PowerBit → Bool
is_powered regs power = is_set regs power.word power.bit

-- the registers with a PLL powered or not
abbrev pub with_power : Registers → PowerBit → Bool → Registers
with_power regs power powered = put_bit regs power.word power.bit powered
