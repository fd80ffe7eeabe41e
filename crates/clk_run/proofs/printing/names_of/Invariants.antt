use Rattle.std.proofs.Common.{◌≡◌, ◌++◌, map, drop, string_bytes}
use Rattle.clk_run.specs.Texts.{names_of}
use Rattle.clk_run.proofs.printing.names_of.Given as goal

-- the names so far, and those of the drivers that are left
abbrev pub invariant-loop-script : goal.invariant-loop-script
invariant-loop-script l = map string_bytes l.names.items ++ map (λ s. s.name) (drop l.script-index l.drivers) ≡ names_of l.drivers
