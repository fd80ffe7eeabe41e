use Rattle.std.proofs.Common.{take}
use Rattle.clk_model.specs.Follows.{no_handles}
use Rattle.driver_runs.specs.Scripts.{GoesThrough}
use Rattle.driver_runs.proofs.boot.run_boot.Given as goal

-- the core has gone through the commands so far
abbrev pub invariant-loop-command : goal.invariant-loop-command
invariant-loop-command g l = GoesThrough l.fn.core 0 (no_handles l.commands) (take l.command-index l.commands) l.answers.items l.held l.core
