-- The PLLs of a path that a raise powers or a lower switches off.
use Rattle.std.specs.Prelude.{◌≡◌, ℕ, ◌&&◌, Bool, not, List, filter, length, nat_le, slice_get}
use Rattle.std.specs.Option.{option_map}
use Rattle.clk_base.specs.Description.{Description, kind_of}
use Rattle.reg_bank.specs.Registers.{Registers}
use Rattle.clk_model.specs.Lists.{is_in}
use Rattle.clk_model.specs.Kinds.{is_pll}
use Rattle.clk_model.specs.Script.{runs}
use Rattle.counts_core.specs.Counted.{CountState, is_prepared}
use Rattle.core_parts.specs.declared.plls.Sought.{Sought}

-- a PLL that no prepare keeps powered
abbrev pub is_loose : Description → CountState → ℕ → Bool
is_loose defs counts c = is_pll (kind_of defs c) && not (is_prepared counts c)

-- those of a list that a raise is to power: the change in flight hasn't raised them yet
abbrev pub raisable : Description → CountState → List ℕ → List ℕ → List ℕ
raisable defs counts raised cs = filter (λ c. not (is_in c raised)) (filter (is_loose defs counts) cs)

-- those of a list that a lower is to switch off: they are powered
abbrev pub lowerable : Description → CountState → Registers → List ℕ → List ℕ
lowerable defs counts regs cs = filter (runs defs regs) (filter (is_loose defs counts) cs)

-- what was found is the first of a list, and whether there are more
pub record Finds (found : Sought) (xs : List ℕ) : Type 0 where
  pub first : option_map (λ c. c.0) found.pll ≡ slice_get xs 0
  pub more : found.more ≡ nat_le 2 (length xs)
