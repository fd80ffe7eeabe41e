-- Protections stay small while a prepared child comes.
use Rattle.std.proofs.Common.{ℕ, ◌≤◌, List, sym, subst, arith, get_or}
use Rattle.counts_core.proofs.Growing.{part-le}
use Rattle.counts_core.proofs.Moving.{owed_small}
use Rattle.counts_core.proofs.children.child_joins.Goals as goal

pub count_child-requires-2-clause-room : goal.count_child-requires-2-clause-room
count_child-requires-2-clause-room c = λ d.
    let few : get_or c.count_prepared_child.new.prepares.own.items d 0 ≤ 134217728 = subst (λ (xs : List ℕ). get_or xs d 0 ≤ 134217728) (sym c.count_prepared_child.ensures.own) (c.requires.prepare_room d) in
    let small =
    owed_small c.args.links.now c.count_prepared_child.new.prepares.own.items c.count_prepared_child.new.prepares.counts.items c.args.child.0 c.args.parent d 134217728 c.count_prepared_child.ensures.owed
    c.requires.few few in
    let part = part-le c.args.gated.now c.count_prepared_child.new.prepares.counts.items d in
    let grown = c.count_prepared_child.ensures.coupled d in
    let before = c.requires.room d in
    omega arith
