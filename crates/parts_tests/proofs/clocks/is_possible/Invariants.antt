use Rattle.std.proofs.Common.{◌≡◌, drop}
use Rattle.clk_base.specs.Places.{places}
use Rattle.clk_model.specs.Lists.{is_in}
use Rattle.parts_tests.proofs.clocks.is_possible.Given as goal

-- whether the clock is among the possible parents is up to those that are left
abbrev pub invariant-loop-parent : goal.invariant-loop-parent
invariant-loop-parent l = is_in l.p.0 (places l.parent-items) ≡ is_in l.p.0 (places (drop l.parent-index l.parent-items))
