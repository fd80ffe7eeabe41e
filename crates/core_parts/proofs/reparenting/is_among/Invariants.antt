use Rattle.std.proofs.Common.{◌≡◌, drop}
use Rattle.clk_base.specs.Places.{places}
use Rattle.clk_model.specs.Lists.{is_in}
use Rattle.core_parts.proofs.reparenting.is_among.Given as goal

-- whether the clock is among them is up to those that are left
abbrev pub invariant-loop-clock : goal.invariant-loop-clock
invariant-loop-clock l = is_in l.wanted.0 (places l.clocks) ≡ is_in l.wanted.0 (places (drop l.clock-index l.clocks))
