use Rattle.std.proofs.Common.{◌≡◌, ◌++◌, map, take, drop, false}
use Rattle.dts_bindings.specs.Clocks.{seen_clock}
use Rattle.dts_clocks.specs.FirstPass.{has_twin}
use Rattle.dts_clocks.specs.Loaded.{def_with}
use Rattle.dts_clocks.proofs.loading.push_clocks.Given as goal

-- the clocks so far, and the names that are left
abbrev pub invariant-loop-clock : goal.invariant-loop-clock
invariant-loop-clock l =
    record {
      defs : l.desc ≡ l.initial.desc ++ map (def_with l.flags l.parents) (map seen_clock (take l.clock-index l.clocks));
      fresh : has_twin (map (λ d. d.name) l.desc) (map (λ c. c.name) (map seen_clock (drop l.clock-index l.clocks))) ≡ false;
    }
