-- The clock, and then all that is below it.
use Rattle.std.proofs.Common.{◌-◌, refl, arith}
use Rattle.clk_tree.proofs.Refreshing.{own_rate}
use Rattle.clk_tree.proofs.refresh.refresh_below.Goals as goal

pub returns-clause-below : goal.returns-clause-below
returns-clause-below g c =
    (own_rate c.args.desc.now.defs (g.B.Bank.contents c.args.bank.now) c.args.siblings.now c.args.rates.now c.refresh_kids.new.rates (c.args.levels - 1) c.args.levels c.args.clock.0 c.args.parent c.rate_over-rate.result
    (let some = c.if-levels-eq0.false in omega arith) refl (let place = c.requires.place in let rated = c.requires.rated in omega arith) c.rate_over-rate.ensures
    (record { below = c.refresh_kids.ensures.below; others = c.refresh_kids.ensures.others })).below

pub returns-clause-others : goal.returns-clause-others
returns-clause-others g c =
    (own_rate c.args.desc.now.defs (g.B.Bank.contents c.args.bank.now) c.args.siblings.now c.args.rates.now c.refresh_kids.new.rates (c.args.levels - 1) c.args.levels c.args.clock.0 c.args.parent c.rate_over-rate.result
    (let some = c.if-levels-eq0.false in omega arith) refl (let place = c.requires.place in let rated = c.requires.rated in omega arith) c.rate_over-rate.ensures
    (record { below = c.refresh_kids.ensures.below; others = c.refresh_kids.ensures.others })).others
