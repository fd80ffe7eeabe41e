-- When the active clocks are fed.
use Rattle.std.specs.Prelude.{◌≡◌, ℕ, List, Bool, true, Option, Some, IfSome, IsSome, option_and_then}
use Rattle.std.specs.Option.{option_map_or}
use Rattle.clk_base.specs.Description.{Description, kind_of}
use Rattle.reg_bank.specs.Registers.{Registers}
use Rattle.clk_model.specs.declared.row.ClockRow.{ClockRow}
use Rattle.clk_base.specs.Fields.{gate_of, power_of}
use Rattle.clk_model.specs.Kinds.{mux_field, is_open, is_powered}
use Rattle.clk_model.specs.State.{State, link_in}
use Rattle.clk_model.specs.Tree.{selected}
use Rattle.clk_model.specs.Holders.{active}

-- the clock that feeds another through the registers: of an attached mux the parent that its field selects, of another clock
-- the one that it is attached to
abbrev pub feeds : Description → Registers → List ClockRow → ℕ → Option ℕ
feeds defs regs clocks c =
    option_and_then (λ p. option_map_or (λ f. selected defs regs c) (mux_field (kind_of defs c)) (Some p)) (link_in clocks c)

-- a clock is fed: its gate is open, its PLL is powered, its link and its feeding clock are active, and where it is attached
-- it has a feeding clock
pub record IsFed (defs : Description) (regs : Registers) (clocks : List ClockRow) (active : ℕ → Bool) (c : ℕ) : Type 0 where
  pub open_ : IfSome (gate_of (kind_of defs c)) (λ gate. is_open regs gate ≡ true)
  pub powered : IfSome (power_of (kind_of defs c)) (λ power. is_powered regs power ≡ true)
  pub link : IfSome (link_in clocks c) (λ p. active p ≡ true)
  pub feeding : IfSome (feeds defs regs clocks c) (λ p. active p ≡ true)
  pub has_feeding : IsSome (link_in clocks c) → IsSome (feeds defs regs clocks c)

-- each active clock is fed
abbrev pub Fed : State → Type 0
Fed s = (c : ℕ) → active s c ≡ true → IsFed s.defs s.regs s.clocks (active s) c
