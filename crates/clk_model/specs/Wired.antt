-- What holds of every tree: its links lead to possible parents, and the order of attaching lists its clocks.
use Rattle.std.specs.Prelude.{◌≡◌, ℕ, List, true, Some, length}
use Rattle.clk_base.specs.Description.{Description, parents_of}
use Rattle.clk_base.specs.Levels.{depth, ends_within}
use Rattle.clk_base.specs.Valid.{IsValid}
use Rattle.clk_model.specs.declared.row.ClockRow.{ClockRow}
use Rattle.clk_model.specs.Lists.{is_in, none_twice}
use Rattle.clk_model.specs.State.{registered, link_in}
use Rattle.clk_model.specs.Round.{Wiring}

-- each line of possible parents ends
abbrev pub LinesEnd : Description → Type 0
LinesEnd defs = (c : ℕ) → ends_within (parents_of defs) depth c ≡ true

-- each link leads to a possible parent
abbrev pub LinksArePossible : Description → List ClockRow → Type 0
LinksArePossible defs clocks = (c p : ℕ) → link_in clocks c ≡ Some p → is_in p (parents_of defs c) ≡ true

-- the order of attaching lists the registered clocks and no other, each once
pub record ListsRegistered (order : List ℕ) (clocks : List ClockRow) : Type 0 where
  pub once : none_twice order ≡ true
  pub listed : (c : ℕ) → is_in c order ≡ registered clocks c

-- the order of attaching lists each clock that has a link, and none twice
pub record IsOrder (order : List ℕ) (clocks : List ClockRow) : Type 0 where
  pub once : none_twice order ≡ true
  pub linked : (c p : ℕ) → link_in clocks c ≡ Some p → is_in c order ≡ true

-- a tree with a row for each clock, whose links lead to possible parents of a valid description
pub record IsWired (words : ℕ) (w : Wiring) : Type 0 where
  pub valid : IsValid words w.defs
  pub rows : length w.clocks ≡ length w.defs
  pub links : LinksArePossible w.defs w.clocks
