use Rattle.std.proofs.Common.{take}
use Rattle.clk_model.specs.Follows.{no_handles}
use Rattle.driver_threads.specs.Going.{GoesThrough}
use Rattle.driver_threads.proofs.script.run_script.Given as goal

-- the driver has gone through the commands so far
abbrev pub invariant-loop-command : goal.invariant-loop-command
invariant-loop-command g l = GoesThrough l.fn.driver (no_handles l.commands) (take l.command-index l.commands) l.answers.items l.held l.driver
