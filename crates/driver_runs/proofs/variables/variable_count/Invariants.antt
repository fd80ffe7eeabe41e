use Rattle.std.proofs.Common.{◌≡◌, max, drop}
use Rattle.clk_model.specs.Follows.{variable_count}
use Rattle.driver_runs.proofs.variables.variable_count.Given as goal

-- the count so far, and that of the commands that are left
abbrev pub invariant-loop-command : goal.invariant-loop-command
invariant-loop-command l = max l.count (variable_count (drop l.command-index l.commands)) ≡ variable_count l.commands
