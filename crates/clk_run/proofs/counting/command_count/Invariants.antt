use Rattle.std.proofs.Common.{◌≡◌, ◌+◌, drop}
use Rattle.clk_run.specs.Texts.{command_count}
use Rattle.clk_run.proofs.counting.command_count.Given as goal

-- the commands so far, and those of the drivers that are left
abbrev pub invariant-loop-script : goal.invariant-loop-script
invariant-loop-script l = l.count + command_count (drop l.script-index l.drivers) ≡ command_count l.drivers
