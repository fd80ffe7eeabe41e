use Rattle.std.proofs.Common.{◌≡◌, map}
use Rattle.std.specs.Option.{option_map}
use Rattle.bundle_text.specs.Firsts.{KeepsBelow}
use Rattle.dts_bindings.specs.Binding.{seen_binding}
use Rattle.dts_clocks.specs.Clocks.{binding_at}
use Rattle.dts_clocks.specs.FirstPass.{names_before, first_fault}
use Rattle.dts_clocks.specs.Joined.{listed}
use Rattle.dts_clocks.proofs.first_pass.read_bindings.Given as goal

-- the nodes so far
abbrev pub invariant-loop-at : goal.invariant-loop-at
invariant-loop-at l =
    record {
      found : map (option_map seen_binding) l.found.items ≡ listed (binding_at l.chart) l.at;
      taken : l.taken ≡ names_before l.chart l.at;
      kept : KeepsBelow (first_fault l.chart) l.at;
    }
