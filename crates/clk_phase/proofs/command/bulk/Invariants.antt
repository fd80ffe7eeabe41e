use Rattle.clk_phase.specs.Running.{most_left}
use Rattle.clk_phase.proofs.Looping.{Looped}
use Rattle.clk_phase.proofs.command.bulk.Given as goal

abbrev pub invariant-loop-step : goal.invariant-loop-step
invariant-loop-step g l = Looped g.C.Consumer.makes g.C.Consumer.credits g.C.Consumer.clocks l.initial.who l.what.kind l.what.items.items l.run l.who

abbrev pub decreases-loop-step : goal.decreases-loop-step
decreases-loop-step g l = most_left l.run
