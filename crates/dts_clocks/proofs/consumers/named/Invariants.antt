use Rattle.std.proofs.Common.{◌≡◌, ◌++◌, map, drop}
use Rattle.dts_clocks.specs.Consumers.{seen_name, named}
use Rattle.dts_clocks.proofs.consumers.named.Given as goal

-- the names so far, and those that are left
abbrev pub invariant-loop-k : goal.invariant-loop-k
invariant-loop-k l = named (map (λ t. t.now) l.texts) 0 l.clocks ≡ map seen_name l.names.items ++ named (map (λ t. t.now) l.texts) l.k (drop l.k l.clocks)
