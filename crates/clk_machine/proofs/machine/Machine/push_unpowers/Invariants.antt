-- The steps of the clocks so far were added.
use Rattle.std.specs.Prelude.{take}
use Rattle.clk_base.specs.Places.{places}
use Rattle.clk_machine.specs.Sweeping.{Adds, unpowers, unpower_steps}
use Rattle.clk_machine.proofs.machine.Machine.push_unpowers.Given as goal

abbrev pub invariant-loop-place : goal.invariant-loop-place
invariant-loop-place g l = Adds l.self unpower_steps unpowers (take l.place (places l.order)) l.initial.steps.items l.steps.items
