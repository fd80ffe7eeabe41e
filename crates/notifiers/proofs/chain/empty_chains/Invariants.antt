-- So far there are so many chains, and each is empty.
use Rattle.std.proofs.Common.{◌≡◌, [], map, replicate}
use Rattle.notifiers.proofs.chain.empty_chains.Given as goal

abbrev pub invariant-loop-clock : goal.invariant-loop-clock
invariant-loop-clock l = map (λ chain. chain.items) l.chains.items ≡ replicate l._clock []
