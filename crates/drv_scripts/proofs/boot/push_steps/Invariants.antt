use Rattle.std.proofs.Common.{◌≡◌, ◌++◌, drop}
use Rattle.std.specs.List.{flat_map}
use Rattle.drv_scripts.specs.Spelled.{step_commands}
use Rattle.drv_scripts.proofs.boot.push_steps.Given as goal

-- the commands so far, and those of the steps that are left
abbrev pub invariant-loop-step : goal.invariant-loop-step
invariant-loop-step l = l.commands.items ++ flat_map step_commands (drop l.step-index l.steps) ≡ l.fn.commands.items ++ flat_map step_commands l.steps
