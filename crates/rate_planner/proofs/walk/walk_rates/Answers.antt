-- The walk begins at the top.
use Rattle.std.proofs.Common.{◌≡◌, ◌<◌, ◌++◌, ◌∷◌, List, [], true, ◌∙◌, refl, sym, ap, subst, arith, rules}
use Rattle.clk_base.specs.Levels.{depth}
use Rattle.clk_model.proofs.PathLaws.{some_levels}
use Rattle.clk_model.specs.State.{registered}
use Rattle.clk_model.specs.declared.row.ClockRow.{ClockRow}
use Rattle.clk_tree.specs.Plans.{AreThere, ClockRate, chain_of}
use Rattle.rate_planner.proofs.Walking.{walks_top, walks_whole, walks_alone}
use Rattle.rate_planner.proofs.walk.walk_rates.Goals as goal

pub overflow_sub-depth : goal.overflow_sub-depth
overflow_sub-depth g c = let some = subst (λ n. 0 < n) (sym c.depth.ensures) some_levels in omega arith

pub returns-in_ok-walk_below-clause-walked : goal.returns-in_ok-walk_below-clause-walked
returns-in_ok-walk_below-clause-walked g c =
    walks_top (g.B.Bank.contents c.args.bank.now) c.args.tree.now.defs c.args.tree.now c.args.steps.now c.args.rates.now c.depth.result _ _ c.clear.new.self c.walk_below.new.into
    c.requires.some c.clear.ensures c.depth.ensures refl
    (walks_whole (g.B.Bank.contents c.args.bank.now) c.args.tree.now.defs c.args.tree.now (chain_of c.args.steps.now) c.args.rates.now c.depth.result _ _ c.clear.new.self c.push.new.self c.walk_below.new.into
    (subst (λ n. 0 < n) (sym c.depth.ensures) some_levels) c.in_ok-push.ensures.pushed c.in_ok-walk_below.ensures.walked)

pub returns-else-may_go_on-clause-walked : goal.returns-else-may_go_on-clause-walked
returns-else-may_go_on-clause-walked g c =
    walks_top (g.B.Bank.contents c.args.bank.now) c.args.tree.now.defs c.args.tree.now c.args.steps.now c.args.rates.now depth _ _ c.clear.new.self c.push.new.self
    c.requires.some c.clear.ensures refl refl
    (walks_alone (g.B.Bank.contents c.args.bank.now) c.args.tree.now.defs c.args.tree.now (chain_of c.args.steps.now) c.args.rates.now depth _ _ c.clear.new.self c.push.new.self
    some_levels c.in_ok-push.ensures.pushed (c.may_go_on.ensures c.if-may_go_on.false))

-- a clock that is there alone is all that is there
alone_there : (clocks : List ClockRow) (before after : List ClockRate) (r : ClockRate) → after ≡ before ++ r ∷ [] → before ≡ [] → registered clocks r.clock ≡ true → AreThere clocks after
alone_there clocks before after r is none there = subst (AreThere clocks) (sym (is ∙ ap (λ (rs : List ClockRate). rs ++ r ∷ []) none)) (there, tt)

pub returns-in_ok-walk_below-clause-there : goal.returns-in_ok-walk_below-clause-there
returns-in_ok-walk_below-clause-there g c =
    c.in_ok-walk_below.ensures.there (alone_there c.args.tree.now.clocks c.clear.new.self c.push.new.self _ c.in_ok-push.ensures.pushed c.clear.ensures (search rules))
