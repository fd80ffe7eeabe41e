-- The steps of the orphans so far were added.
use Rattle.std.specs.Prelude.{take}
use Rattle.clk_base.specs.Places.{places}
use Rattle.clk_machine.specs.Adopting.{Adopts}
use Rattle.clk_machine.proofs.machine.Machine.push_adoptions.Given as goal

abbrev pub invariant-loop-place : goal.invariant-loop-place
invariant-loop-place g l = Adopts l.self l.new.0 (take l.place (places l.orphans)) l.initial.steps.items l.steps.items
