-- A registration that goes on.
use Rattle.std.specs.Prelude.{ℕ, ◌&&◌, ◌||◌, Bool, not, is_none, slice_get}
use Rattle.clk_base.specs.Flags.{is_critical}
use Rattle.clk_model.specs.Begin.{register}
use Rattle.clk_model.specs.Script.{adoptable, unprepared_plls}
use Rattle.clk_model.specs.State.{State}
use Rattle.clk_model.specs.Tree.{path_to_be}

-- whether a clock is critical, and a PLL of the path that it is to get isn't prepared
abbrev pub must_raise : State → ℕ → Bool
must_raise s c = is_critical s.defs c && not (is_none (slice_get (unprepared_plls s (path_to_be s.defs s.regs s.clocks c)) 0))

-- whether its registration goes on: an orphan can be adopted behind it, or a PLL has to be raised for it
abbrev pub goes_on : State → ℕ → Bool
goes_on s c = not (is_none (slice_get (adoptable (register s c)) 0)) || must_raise s c
