-- Counts over few holders are small.
use Rattle.std.proofs.Common.{◌≡◌, ℕ, List, ap, arith, get_or}
use Rattle.counts_core.proofs.Tallies.{sums_small}
use Rattle.counts_core.proofs.children.count_prepared_child.Goals as goal

pub hold_up-requires-clause-room : goal.hold_up-requires-clause-room
hold_up-requires-clause-room c = λ d.
    let small = sums_small c.args.links.now c.args.prepares.now.own.items c.args.prepares.now.counts.items d 134217728 c.requires.prepare_sums c.requires.few (c.requires.room d) in
    let same : get_or c.deref_mut.result.now d 0 ≡ get_or c.args.prepares.now.counts.items d 0 = ap (λ (xs : List ℕ). get_or xs d 0) c.deref_mut.ensures.value in
    omega arith
