use Rattle.std.proofs.Common.{◌≡◌, ◌++◌, map, take, drop}
use Rattle.dts_bindings.specs.Clocks.{seen_clock}
use Rattle.dts_clocks.specs.FirstPass.{has_twin}
use Rattle.dts_clocks.proofs.first_pass.take_names.Given as goal

-- the names so far are taken, and the rest is judged with them
abbrev pub invariant-loop-clock : goal.invariant-loop-clock
invariant-loop-clock l =
    record {
      taken : l.taken ≡ l.initial.taken ++ map (λ c. c.name) (map seen_clock (take l.clock-index l.clocks));
      twins : has_twin l.initial.taken (map (λ c. c.name) (map seen_clock l.clocks)) ≡ has_twin l.taken (map (λ c. c.name) (map seen_clock (drop l.clock-index l.clocks)));
    }
