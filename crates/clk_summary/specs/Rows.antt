-- The rows of the table, and the clocks at the top of the trees.
use Rattle.std.specs.Prelude.{ℕ, ◌*◌, ◌++◌, List, decimal}
use Rattle.clk_machine.specs.declared.row.Row.{Row}
use Rattle.clk_model.specs.State.{State}
use Rattle.clk_model.specs.Summary.{columns, spaces, switch_word}
use Rattle.clk_model.specs.Text.{Word}
use Rattle.clk_model.specs.Tree.{roots, orphans}

-- a row under the name of its clock, on a level
abbrev pub columns_of : ℕ → Word → Row → List ℕ
columns_of level name row =
    columns (spaces (2 * level) ++ name) (decimal row.enable) (decimal row.prepare) (decimal row.protect) (decimal row.rate) (switch_word row.on)

-- the roots and then the orphans, the newest attached first of each
abbrev pub tops : State → List ℕ
tops s = roots s.defs s.order ++ orphans s.defs s.order s.clocks
