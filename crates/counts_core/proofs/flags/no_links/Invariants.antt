-- So far there are so many places without a link.
use Rattle.std.proofs.Common.{◌≡◌, None, replicate}
use Rattle.counts_core.proofs.flags.no_links.Given as goal

abbrev pub invariant-loop-clock : goal.invariant-loop-clock
invariant-loop-clock l = l.links.items ≡ replicate l._clock None
