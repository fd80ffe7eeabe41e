use Rattle.std.proofs.Common.{◌≡◌, ◌++◌, drop, map}
use Rattle.dts_clocks.specs.Assigned.{seen_assigned}
use Rattle.drv_scripts.specs.Spelled.{probes_without, assigned_commands}
use Rattle.drv_scripts.proofs.boot.boot_commands.Given as goal

-- the commands so far, and those of the nodes that are left
abbrev pub invariant-loop-node : goal.invariant-loop-node
invariant-loop-node l =
    l.commands.items ++ assigned_commands (map seen_assigned (drop l.node-index l.assigned)) ≡ probes_without l.late l.clocks ++ assigned_commands (map seen_assigned l.assigned)
