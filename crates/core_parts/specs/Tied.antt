-- The words and the tree of a description: that they go together.
use Rattle.std.specs.Prelude.{◌≡◌, ℕ, List, true, Option, IfSome, slice_index}
use Rattle.clk_base.specs.Checked.{Checked}
use Rattle.clk_base.specs.Description.{Description}
use Rattle.clk_base.specs.Valid.{IsValid}
use Rattle.clk_model.specs.declared.row.ClockRow.{ClockRow}
use Rattle.clk_model.specs.State.{registered}
use Rattle.clk_model.specs.Rate.{rate}
use Rattle.clk_tree.specs.TreeState.{TreeState, IsTree}
use Rattle.core_parts.specs.Window.{Shown, AreTold}

-- the description of a tree, as a checked one is seen
abbrev pub desc_of : TreeState → Checked
desc_of t = record { words = t.words; defs = t.defs }

-- the kept rate of each registered clock is the one that the registers give, where they are told
abbrev pub AreKept : Description → Option (List ℕ) → List ClockRow → List ℕ → Type 0
AreKept defs words clocks rates = IfSome words (λ regs. (c : ℕ) → registered clocks c ≡ true → slice_index rates c ≡ rate defs regs clocks c)

-- the words and the tree are those of a valid description
pub record AreTied (desc : Checked) (window : Shown) (tree : TreeState) : Type 0 where
  pub valid : IsValid desc.words desc.defs
  pub words : window.size ≡ desc.words
  pub told : AreTold window.size window.words
  pub defs : tree.defs ≡ desc.defs
  pub stands : IsTree tree.defs tree.clocks tree.order tree.rates
  pub kept : AreKept desc.defs window.words tree.clocks tree.rates
