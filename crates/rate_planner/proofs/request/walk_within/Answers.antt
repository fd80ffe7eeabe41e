-- A chain is planned where what comes out keeps the boundaries.
use Rattle.std.proofs.Common.{◌≡◌, true, false, ap, sym, ◌∙◌}
use Rattle.reg_bank.specs.Registers.{Registers}
use Rattle.clk_tree.specs.Plans.{chain_of}
use Rattle.rate_planner.specs.Kept.{KeepsRates, wired}
use Rattle.rate_planner.specs.Outcomes.{out_rates, rates_within}
use Rattle.rate_planner.proofs.ChainSteps.{chain_there}
use Rattle.rate_planner.proofs.ListSteps.{told_on}
use Rattle.rate_planner.proofs.PlanLaws.{bounded_chain, walked_chain, steps_seen}
use Rattle.rate_planner.proofs.request.walk_within.Goals as goal

pub outcome_rates-requires-clause-there : goal.outcome_rates-requires-clause-there
outcome_rates-requires-clause-there g c = chain_there c.args.tree.now.clocks c.as_slice-steps.result.now _ c.as_slice-steps.ensures c.requires.steps

pub keep_boundaries-requires-clause-inside : goal.keep_boundaries-requires-clause-inside
keep_boundaries-requires-clause-inside g c =
    steps_seen (g.V.View.size c.args.view.now) c.args.tree.now.defs c.args.tree.now.clocks c.args.tree.now.order c.args.tree.now.rates c.as_slice-steps.result.now _ c.registered-there.ensures.stands c.requires.seen
    c.as_slice-steps.ensures c.requires.steps

pub returns-then-not-keep_boundaries-clause-chain : goal.returns-then-not-keep_boundaries-clause-chain
returns-then-not-keep_boundaries-clause-chain g c =
    bounded_chain (g.B.Bank.contents c.args.bank.now) (g.B.Bank.size c.args.bank.now) c.args.tree.now (g.V.View.means c.args.view.now) c.as_slice-steps.result.now
    c.args.planning.now.plan.chain c.outcome_rates.new.rates.items false
    c.requires.valid (g.met.B.Bank.sized c.args.bank.now) c.registered-there.ensures.stands c.as_slice-steps.ensures c.requires.steps
    (sym c.if-not-keep_boundaries.true ∙ c.keep_boundaries.ensures ∙ ap (rates_within (g.V.View.means c.args.view.now) (chain_of c.as_slice-steps.result.now)) c.as_slice-rates.ensures.value) c.in_ok-outcome_rates.ensures.rates

pub walk_rates-requires-clause-steps : goal.walk_rates-requires-clause-steps
walk_rates-requires-clause-steps g c = chain_there c.args.tree.now.clocks c.as_slice-steps.result.now _ c.as_slice-steps.ensures c.requires.steps

pub returns-clause-chain : goal.returns-clause-chain
returns-clause-chain g c =
    bounded_chain (g.B.Bank.contents c.args.bank.now) (g.B.Bank.size c.args.bank.now) c.args.tree.now (g.V.View.means c.args.view.now) c.as_slice-steps.result.now
    c.args.planning.now.plan.chain c.outcome_rates.new.rates.items true
    c.requires.valid (g.met.B.Bank.sized c.args.bank.now) c.registered-there.ensures.stands c.as_slice-steps.ensures c.requires.steps
    (sym c.if-not-keep_boundaries.false ∙ c.keep_boundaries.ensures ∙ ap (rates_within (g.V.View.means c.args.view.now) (chain_of c.as_slice-steps.result.now)) c.as_slice-rates.ensures.value) c.in_ok-outcome_rates.ensures.rates

pub returns-clause-rates : goal.returns-clause-rates
returns-clause-rates g c = λ found.
    walked_chain (g.B.Bank.contents c.args.bank.now) (g.B.Bank.size c.args.bank.now) c.args.tree.now (g.V.View.means c.args.view.now) c.as_slice-steps.result.now
    c.args.planning.now.plan.chain c.as_slice-rates.result.now c.walk_rates.new.into
    c.requires.valid (g.met.B.Bank.sized c.args.bank.now) c.registered-there.ensures.stands c.as_slice-steps.ensures c.requires.steps c.requires.some
    (told_on (g.B.Bank.contents c.args.bank.now)
    (λ (regs : Registers). KeepsRates c.args.tree.now.defs regs c.args.tree.now → c.outcome_rates.new.rates.items ≡ out_rates (wired c.args.tree.now.defs regs c.args.tree.now) (chain_of c.as_slice-steps.result.now))
    (λ (regs : Registers). KeepsRates c.args.tree.now.defs regs c.args.tree.now → c.as_slice-rates.result.now ≡ out_rates (wired c.args.tree.now.defs regs c.args.tree.now) (chain_of c.as_slice-steps.result.now))
    (λ regs out kept. c.as_slice-rates.ensures.value ∙ out kept) c.in_ok-outcome_rates.ensures.rates)
    c.in_ok-walk_rates.ensures.walked
