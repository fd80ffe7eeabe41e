-- What is said of a tree whose kept rates are those of the registers.
use Rattle.std.specs.Prelude.{◌≡◌, ℕ, true, Option, IfSome, slice_index}
use Rattle.clk_base.specs.Description.{Description}
use Rattle.reg_bank.specs.Registers.{Registers}
use Rattle.clk_model.specs.Prep.{masked}
use Rattle.clk_model.specs.Rate.{rate}
use Rattle.clk_model.specs.Round.{Wiring}
use Rattle.clk_model.specs.State.{registered}
use Rattle.clk_tree.specs.TreeState.{TreeState}

-- the kept rate of each registered clock is the one that the registers give
pub record KeepsRates (defs : Description) (regs : Registers) (t : TreeState) : Type 0 where
  pub kept : (c : ℕ) → registered t.clocks c ≡ true → slice_index t.rates c ≡ rate defs regs t.clocks c

-- a tree as these registers set it
abbrev pub wired : Description → Registers → TreeState → Wiring
wired defs regs t = record { defs = defs; regs = regs; clocks = t.clocks }

-- what holds of the tree with any registers whose rates it keeps
abbrev pub Always : Description → TreeState → (Wiring → Type 0) → Type 0
Always defs t P = (regs : Registers) → KeepsRates defs regs t → P (wired defs regs t)

-- what holds of the tree with the registers that a bank tells, if it keeps their rates
abbrev pub Told : Option Registers → Description → TreeState → (Wiring → Type 0) → Type 0
Told told defs t P = IfSome told (λ regs. KeepsRates defs regs t → P (wired defs regs t))

-- and with any others that differ from those in the bits of gates alone
abbrev pub ToldButGates : Option Registers → Description → TreeState → (Wiring → Type 0) → Type 0
ToldButGates told defs t P = IfSome told (λ regs. KeepsRates defs regs t → (other : Registers) → masked defs other ≡ masked defs regs → P (wired defs other t))
