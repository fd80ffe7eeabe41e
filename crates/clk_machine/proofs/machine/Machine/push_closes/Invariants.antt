-- The steps of the clocks so far were added.
use Rattle.std.specs.Prelude.{take}
use Rattle.clk_base.specs.Places.{places}
use Rattle.clk_machine.specs.Sweeping.{Adds, closes, close_steps}
use Rattle.clk_machine.proofs.machine.Machine.push_closes.Given as goal

abbrev pub invariant-loop-place : goal.invariant-loop-place
invariant-loop-place g l = Adds l.self (close_steps l.self) closes (take l.place (places l.order)) l.initial.steps.items l.steps.items
