-- The chain of one clock, and its walk.
use Rattle.std.proofs.Common.{◌≡◌, ◌∷◌, [], List, ap, sym, ◌∙◌}
use Rattle.reg_bank.specs.Registers.{Registers}
use Rattle.clk_model.specs.State as state
use Rattle.clk_tree.specs.Plans.{chain_of}
use Rattle.rate_planner.specs.Kept.{KeepsRates, wired}
use Rattle.rate_planner.specs.Walks.{walked_rates, parent_chain}
use Rattle.rate_planner.proofs.ListSteps.{told_on}
use Rattle.rate_planner.proofs.ParentPlans.{to_parent, parent_planned, parent_walked, parent_walks, pushed_one}
use Rattle.rate_planner.proofs.parent.plan_move.Goals as goal

pub returns-clause-chain : goal.returns-clause-chain
returns-clause-chain g c =
    let steps : c.push.new.self ≡ to_parent c.args.c.0 c.rate_of-rate.result c.args.p.0 ∷ [] =
    pushed_one c.push.new.self c.clear.new.self (to_parent c.args.c.0 c.rate_of-rate.result c.args.p.0) c.in_ok-push.ensures.pushed c.clear.ensures in
    told_on (g.B.Bank.contents c.args.bank.now)
    (λ (regs : Registers). KeepsRates c.args.tree.now.defs regs c.args.tree.now → to_parent c.args.c.0 c.rate_of-rate.result c.args.p.0 ∷ [] ≡ parent_chain (wired c.args.tree.now.defs regs c.args.tree.now) c.args.c.0 c.args.p.0)
    (λ (regs : Registers). KeepsRates c.args.tree.now.defs regs c.args.tree.now → c.push.new.self ≡ parent_chain (wired c.args.tree.now.defs regs c.args.tree.now) c.args.c.0 c.args.p.0)
    (λ regs is kept. steps ∙ is kept)
    (parent_planned (g.B.Bank.contents c.args.bank.now) (g.B.Bank.size c.args.bank.now) c.args.tree.now c.args.c.0 c.rate_of-rate.result c.rate_now.result c.args.p.0
    c.requires.valid (g.met.B.Bank.sized c.args.bank.now) c.registered-there.ensures.stands c.requires.clock c.requires.possible c.requires.other
    c.rate_of-rate.ensures c.rate_now.ensures.rate)

pub returns-clause-rates : goal.returns-clause-rates
returns-clause-rates g c =
    let steps : c.push.new.self ≡ to_parent c.args.c.0 c.rate_of-rate.result c.args.p.0 ∷ [] =
    pushed_one c.push.new.self c.clear.new.self (to_parent c.args.c.0 c.rate_of-rate.result c.args.p.0) c.in_ok-push.ensures.pushed c.clear.ensures in
    let rates : c.push-2.new.self.items ≡ c.rate_of-rate.result ∷ [] = pushed_one c.push-2.new.self.items c.clear-2.new.self.items c.rate_of-rate.result c.in_ok-push-2.ensures.items c.clear-2.ensures.items in
    told_on (g.B.Bank.contents c.args.bank.now)
    (λ (regs : Registers). KeepsRates c.args.tree.now.defs regs c.args.tree.now → c.walk_rates.new.into
    ≡ walked_rates c.args.tree.now.order (wired c.args.tree.now.defs regs c.args.tree.now) (to_parent c.args.c.0 c.rate_of-rate.result c.args.p.0 ∷ []))
    (λ (regs : Registers). KeepsRates c.args.tree.now.defs regs c.args.tree.now → c.walk_rates.new.into ≡ walked_rates c.args.tree.now.order (wired c.args.tree.now.defs regs c.args.tree.now) c.push.new.self)
    (λ regs is kept. is kept ∙ sym (ap (λ (ks : List state.ChainStep). walked_rates c.args.tree.now.order (wired c.args.tree.now.defs regs c.args.tree.now) ks) steps))
    (parent_walked (g.B.Bank.contents c.args.bank.now) (g.B.Bank.size c.args.bank.now) c.args.tree.now c.args.c.0 c.rate_of-rate.result c.rate_now.result c.args.p.0 c.walk_rates.new.into
    c.requires.valid (g.met.B.Bank.sized c.args.bank.now) c.registered-there.ensures.stands c.requires.clock c.requires.possible c.requires.other
    c.rate_of-rate.ensures c.rate_now.ensures.rate
    (parent_walks (g.B.Bank.contents c.args.bank.now) c.args.tree.now.defs c.args.tree.now c.args.c.0 c.rate_of-rate.result c.args.p.0 (chain_of c.as_slice-steps.result.now) c.as_slice-rates.result.now c.walk_rates.new.into
    (c.as_slice-steps.ensures ∙ steps) (c.as_slice-rates.ensures.value ∙ rates) c.in_ok-walk_rates.ensures.walked))
