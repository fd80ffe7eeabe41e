use Rattle.std.proofs.Common.{◌≡◌}
use Rattle.bundle_text.specs.Firsts.{said_from}
use Rattle.drv_scripts.specs.Spelled.{probe_unless}
use Rattle.drv_scripts.proofs.boot.probes.Given as goal

-- the commands of the clocks so far
abbrev pub invariant-loop-clock : goal.invariant-loop-clock
invariant-loop-clock l = l.commands.items ≡ said_from (probe_unless l.late) 0 l.clock
