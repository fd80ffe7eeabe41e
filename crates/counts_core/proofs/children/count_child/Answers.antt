-- Counts over few holders are small.
use Rattle.std.proofs.Common.{◌≡◌, ℕ, List, ap, arith, get_or}
use Rattle.counts_core.proofs.Tallies.{sums_small}
use Rattle.counts_core.proofs.children.count_child.Goals as goal

pub raise-requires-clause-room : goal.raise-requires-clause-room
raise-requires-clause-room c = λ d.
    let small = sums_small c.args.links.now c.args.tally.now.own.items c.args.tally.now.counts.items d 536870912 c.requires.sums c.requires.few (c.requires.room d) in
    let same : get_or c.deref_mut.result.now d 0 ≡ get_or c.args.tally.now.counts.items d 0 = ap (λ (xs : List ℕ). get_or xs d 0) c.deref_mut.ensures.value in
    omega arith
