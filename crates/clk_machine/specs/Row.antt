-- What a core tells of its clocks: the row of one, and the tree of all.
use Rattle.std.specs.Prelude.{◌≡◌, ℕ, true, false, Option, Some, None, slice_index}
use Rattle.clk_base.specs.Description.{kind_of}
use Rattle.clk_model.specs.State.{State, registered}
use Rattle.clk_model.specs.Rate.{rate}
use Rattle.clk_model.specs.Counts.{enable_count, prepare_count, protect_count}
use Rattle.clk_model.specs.Summary.{is_on}
use Rattle.clk_tree.specs.TreeState.{TreeState}
use Rattle.clk_machine.specs.declared.row.Row.{Row}

-- the row tells the counts and the rate of a clock, and whether its gate is open or its PLL powered, if it has one
pub record Tells (s : State) (c : ℕ) (row : Row) : Type 0 where
  pub enable_ : row.enable ≡ enable_count s c
  pub prepare_ : row.prepare ≡ prepare_count s c
  pub protect_ : row.protect ≡ protect_count s c
  pub rate_ : row.rate ≡ rate s.defs s.regs s.clocks c
  pub on_ : row.on ≡ is_on (kind_of s.defs c) s.regs

-- a registered clock has a row that tells of it, and another clock has none
abbrev pub IsRowOf : State → ℕ → Option Row → Type 0
IsRowOf s c None = registered s.clocks c ≡ false
IsRowOf s c (Some row) = (registered s.clocks c ≡ true) × Tells s c row

-- the tree has the clocks, links and attachments of the state, and each kept rate of a registered clock is the one that the registers give
pub record IsTreeOf (s : State) (t : TreeState) : Type 0 where
  pub defs : t.defs ≡ s.defs
  pub clocks : t.clocks ≡ s.clocks
  pub order : t.order ≡ s.order
  pub rates : (c : ℕ) → registered s.clocks c ≡ true → slice_index t.rates c ≡ rate s.defs s.regs s.clocks c
