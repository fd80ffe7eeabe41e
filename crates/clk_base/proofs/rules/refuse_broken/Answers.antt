-- Each search that finds nothing gives its rule, and the first that finds a clock gives the fault.
use Rattle.std.proofs.Common.{inl, inr}
use Rattle.clk_base.specs.Valid.{counts, ranges, bank, apart, acyclic, levels, bounded}
use Rattle.clk_base.proofs.Kept.{keeps_none, below_ranges, below_bank, below_apart, below_acyclic, below_levels, below_bounded, keeps_next, valid-kept, broken-next}
use Rattle.clk_base.proofs.rules.refuse_broken.Goals as goal

pub returns-in-Some-clause-err : goal.returns-in-Some-clause-err
returns-in-Some-clause-err c =
    inl (broken-next c.args.words c.args.defs.now counts c.in-Some.c.0 (keeps_none c.args.words c.args.defs.now) (c.in-Some.ensures c.args.words))

pub returns-in-Some-first_out_of_range-clause-err : goal.returns-in-Some-first_out_of_range-clause-err
returns-in-Some-first_out_of_range-clause-err c =
    broken-next c.args.words c.args.defs.now ranges c.in-Some-first_out_of_range.c.0 (below_ranges c.args.words c.args.defs.now (c.in_default.ensures c.args.words)) (c.in-Some-first_out_of_range.ensures c.args.words)

pub returns-in-Some-first_outside-clause-err : goal.returns-in-Some-first_outside-clause-err
returns-in-Some-first_outside-clause-err c =
    broken-next c.args.words c.args.defs.now bank c.in-Some-first_outside.c.0 (below_bank c.args.words c.args.defs.now (c.in_default.ensures c.args.words) (c.in_default-first_out_of_range.ensures c.args.words)) c.in-Some-first_outside.ensures

pub returns-in-Some-2-clause-err : goal.returns-in-Some-2-clause-err
returns-in-Some-2-clause-err c =
    broken-next c.args.words c.args.defs.now apart c.in-Some-2.c.0 (below_apart c.args.words c.args.defs.now (c.in_default.ensures c.args.words) (c.in_default-first_out_of_range.ensures c.args.words) c.in_default-first_outside.ensures) (rw c.in-Some-2.is at c.in_ok-c.ensures)

pub returns-in-Some-3-clause-err : goal.returns-in-Some-3-clause-err
returns-in-Some-3-clause-err c =
    let own = rw c.in_default-2.is at c.in_ok-c.ensures in
    broken-next c.args.words c.args.defs.now acyclic c.in-Some-3.c.0 (below_acyclic c.args.words c.args.defs.now (c.in_default.ensures c.args.words) (c.in_default-first_out_of_range.ensures c.args.words) c.in_default-first_outside.ensures own) (rw c.in-Some-3.is at (c.in_ok-c-2.ensures c.args.words))

pub returns-in-Some-first_endless-clause-err : goal.returns-in-Some-first_endless-clause-err
returns-in-Some-first_endless-clause-err c =
    let own = rw c.in_default-2.is at c.in_ok-c.ensures in
    let none = rw c.in_default-3.is at (c.in_ok-c-2.ensures c.args.words) in
    let below = below_acyclic c.args.words c.args.defs.now (c.in_default.ensures c.args.words) (c.in_default-first_out_of_range.ensures c.args.words) c.in_default-first_outside.ensures own in
    inr (broken-next c.args.words c.args.defs.now levels c.in-Some-first_endless.c.0 (below_levels c.args.words c.args.defs.now below none)
    (c.in-Some-first_endless.ensures c.args.words c.args.defs.now (rw c.deref-2.ensures.value c.in_ok-ends.ensures)))

pub first_too_much-requires-clause-counts : goal.first_too_much-requires-clause-counts
first_too_much-requires-clause-counts c = c.in_default.ensures 0

pub returns-in-Some-4-clause-err : goal.returns-in-Some-4-clause-err
returns-in-Some-4-clause-err c =
    let own = rw c.in_default-2.is at c.in_ok-c.ensures in
    let none = rw c.in_default-3.is at (c.in_ok-c-2.ensures c.args.words) in
    let short = c.in_default-first_endless.ensures c.args.words c.args.defs.now (rw c.deref-2.ensures.value c.in_ok-ends.ensures) in
    let below = below_acyclic c.args.words c.args.defs.now (c.in_default.ensures c.args.words) (c.in_default-first_out_of_range.ensures c.args.words) c.in_default-first_outside.ensures own in
    broken-next c.args.words c.args.defs.now bounded c.in-Some-4.c.0 (below_bounded c.args.words c.args.defs.now (below_levels c.args.words c.args.defs.now below none) short)
    (rw c.in-Some-4.is at (c.in_ok-c-3.ensures c.args.words))

pub returns-clause-valid : goal.returns-clause-valid
returns-clause-valid c =
    let own = rw c.in_default-2.is at c.in_ok-c.ensures in
    let none = rw c.in_default-3.is at (c.in_ok-c-2.ensures c.args.words) in
    let short = c.in_default-first_endless.ensures c.args.words c.args.defs.now (rw c.deref-2.ensures.value c.in_ok-ends.ensures) in
    let below = below_acyclic c.args.words c.args.defs.now (c.in_default.ensures c.args.words) (c.in_default-first_out_of_range.ensures c.args.words) c.in_default-first_outside.ensures own in
    valid-kept c.args.words c.args.defs.now c.requires.parents c.requires.names
    (keeps_next c.args.words c.args.defs.now bounded (below_bounded c.args.words c.args.defs.now (below_levels c.args.words c.args.defs.now below none) short)
    (rw c.in_default-4.is at (c.in_ok-c-3.ensures c.args.words)))
