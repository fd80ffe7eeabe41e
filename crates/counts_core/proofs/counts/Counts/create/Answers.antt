-- Nobody holds a clock.
use Rattle.counts_core.proofs.Held.{counted_nobody, counted_same, counts_stand, flags_all}
use Rattle.counts_core.proofs.counts.Counts.create.Goals as goal

pub invariant_of-result : goal.invariant_of-result
invariant_of-result c =
    counted_same c.in_ok-links.ensures c.in_ok-enables.ensures.own c.in_ok-prepares.ensures.own c.in_ok-exclusives.ensures
    c.in_ok-enables.ensures.counts c.in_ok-prepares.ensures.counts c.in_ok-protects.ensures.own c.in_ok-protects.ensures.counts
    (counted_nobody c.args.desc.now.words c.args.desc.now.defs c.len-clocks.result c.in_ok-gated.gated.items c.len-clocks.ensures.valid c.len-clocks.ensures.len c.in_ok-gated.ensures.size)

pub returns-clause-gated : goal.returns-clause-gated
returns-clause-gated c = flags_all c.args.desc.now.defs c.in_ok-gated.gated.items c.in_ok-gated.ensures.size c.in_ok-gated.ensures.flags

pub returns-clause-stands : goal.returns-clause-stands
returns-clause-stands c = counts_stand (invariant_of-result c)
