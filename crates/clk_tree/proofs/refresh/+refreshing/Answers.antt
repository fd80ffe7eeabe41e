-- The clock, then child by child all that is below it.
use Rattle.std.proofs.Common.{ℕ, ◌-◌, ◌<◌, length, refl, sym, subst, arith}
use Rattle.std.specs.Prelude.{slice_set}
use Rattle.clk_tree.specs.Refreshed.{AreKidRings}
use Rattle.clk_tree.proofs.KidRings.{no_kid_left}
use Rattle.clk_tree.proofs.Refreshing.{one_child, all_done, no_level, no_child, own_rate}
use Rattle.clk_tree.proofs.refresh.+refreshing.Goals as goal

pub refresh_kid-returns-then-has_kids-clause-below : goal.refresh_kid-returns-then-has_kids-clause-below
refresh_kid-returns-then-has_kids-clause-below g t c =
    (own_rate c.args.desc.now.defs (g.B.Bank.contents c.args.bank.now) c.args.siblings.now c.args.rates.now c.refresh_kids.new.rates (c.args.levels - 1) c.args.levels c.args.clock.0 c.args.parent c.rate_over-rate.result
    c.requires.some refl (let place = c.requires.place in let rated = c.requires.rated in omega arith) c.rate_over-rate.ensures
    (record { below = c.refresh_kids.ensures.below; others = c.refresh_kids.ensures.others })).below

pub refresh_kid-returns-then-has_kids-clause-others : goal.refresh_kid-returns-then-has_kids-clause-others
refresh_kid-returns-then-has_kids-clause-others g t c =
    (own_rate c.args.desc.now.defs (g.B.Bank.contents c.args.bank.now) c.args.siblings.now c.args.rates.now c.refresh_kids.new.rates (c.args.levels - 1) c.args.levels c.args.clock.0 c.args.parent c.rate_over-rate.result
    c.requires.some refl (let place = c.requires.place in let rated = c.requires.rated in omega arith) c.rate_over-rate.ensures
    (record { below = c.refresh_kids.ensures.below; others = c.refresh_kids.ensures.others })).others

pub refresh_kid-returns-else-has_kids-clause-below : goal.refresh_kid-returns-else-has_kids-clause-below
refresh_kid-returns-else-has_kids-clause-below g t c =
    (own_rate c.args.desc.now.defs (g.B.Bank.contents c.args.bank.now) c.args.siblings.now c.args.rates.now (slice_set c.args.rates.now c.args.clock.0 c.rate_over-rate.result) (c.args.levels - 1) c.args.levels c.args.clock.0 c.args.parent c.rate_over-rate.result
    c.requires.some refl (let place = c.requires.place in let rated = c.requires.rated in omega arith) c.rate_over-rate.ensures
    (no_child c.args.desc.now.defs (g.B.Bank.contents c.args.bank.now) c.args.siblings.now (slice_set c.args.rates.now c.args.clock.0 c.rate_over-rate.result) (c.args.levels - 1) c.args.clock.0 c.rate_over-rate.result
    (λ kids are. c.has_kids.ensures.none kids (subst (λ (n : ℕ). AreKidRings n c.args.siblings.now kids) (sym c.count_of.ensures.count) are) c.if-has_kids.false))).below

pub refresh_kid-returns-else-has_kids-clause-others : goal.refresh_kid-returns-else-has_kids-clause-others
refresh_kid-returns-else-has_kids-clause-others g t c =
    (own_rate c.args.desc.now.defs (g.B.Bank.contents c.args.bank.now) c.args.siblings.now c.args.rates.now (slice_set c.args.rates.now c.args.clock.0 c.rate_over-rate.result) (c.args.levels - 1) c.args.levels c.args.clock.0 c.args.parent c.rate_over-rate.result
    c.requires.some refl (let place = c.requires.place in let rated = c.requires.rated in omega arith) c.rate_over-rate.ensures
    (no_child c.args.desc.now.defs (g.B.Bank.contents c.args.bank.now) c.args.siblings.now (slice_set c.args.rates.now c.args.clock.0 c.rate_over-rate.result) (c.args.levels - 1) c.args.clock.0 c.rate_over-rate.result
    (λ kids are. c.has_kids.ensures.none kids (subst (λ (n : ℕ). AreKidRings n c.args.siblings.now kids) (sym c.count_of.ensures.count) are) c.if-has_kids.false))).others

pub refresh_kids-returns-then-levels-eq0-clause-below : goal.refresh_kids-returns-then-levels-eq0-clause-below
refresh_kids-returns-then-levels-eq0-clause-below g t c =
    (no_level c.args.desc.now.defs (g.B.Bank.contents c.args.bank.now) c.args.siblings.now c.args.rates.now c.args.levels c.args.clock.0 c.args.rate c.if-levels-eq0.true).below

pub refresh_kids-loop-step-preserved : goal.refresh_kids-loop-step-preserved
refresh_kids-loop-step-preserved g t c =
    let less : c.loop-step.at < length c.args.desc.now.defs = let n = c.count_of-count.ensures.count in let before = c.if-at-count.false in omega arith in
    record {
      inside = c.after-at-in-loop-step.ensures.inside;
      done = one_child c.args.desc.now.defs (g.B.Bank.contents c.args.bank.now) c.args.siblings.now c.args.rates.now c.loop-step.rates c.refresh_kid.new.rates c.args.levels c.args.clock.0 c.args.rate
          c.loop-step.at c.after-at-in-loop-step.result c.loop-step._step less c.after-at-in-loop-step.ensures.next c.loop-step.invariant.done
          (record { below = c.refresh_kid.ensures.below; others = c.refresh_kid.ensures.others });
    }

pub refresh_kids-returns-then-at-count-clause-below : goal.refresh_kids-returns-then-at-count-clause-below
refresh_kids-returns-then-at-count-clause-below g t c =
    (all_done c.args.desc.now.defs (g.B.Bank.contents c.args.bank.now) c.args.siblings.now c.args.rates.now c.loop-step.rates c.args.levels c.args.clock.0 c.args.rate c.loop-step.at c.loop-step._step
    (no_kid_left (length c.args.desc.now.defs) c.args.siblings.now c.args.clock.0 c.loop-step.at c.loop-step._step
    (let n = c.count_of-count.ensures.count in let past = c.if-at-count.true in omega arith) c.loop-step.invariant.done.comes) c.loop-step.invariant.done).below

pub refresh_kids-returns-clause-below : goal.refresh_kids-returns-clause-below
refresh_kids-returns-clause-below g t c =
    (all_done c.args.desc.now.defs (g.B.Bank.contents c.args.bank.now) c.args.siblings.now c.args.rates.now c.loop-step.rates c.args.levels c.args.clock.0 c.args.rate c.loop-step.at c.loop-step._step
    (λ kids are. let n = c.count_of-count.ensures.count in let past = c.loop-step-test.false in let few = are.few c.args.clock.0 in omega arith) c.loop-step.invariant.done).below
