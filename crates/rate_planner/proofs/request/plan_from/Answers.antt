-- Without a chain there is no plan.
use Rattle.std.proofs.Common.{◌≡◌, None}
use Rattle.std.specs.Option.{option_map}
use Rattle.reg_bank.specs.Registers.{Registers}
use Rattle.clk_model.specs.Chain.{chain}
use Rattle.clk_model.specs.Round.{round}
use Rattle.rate_planner.specs.Kept.{KeepsRates, wired}
use Rattle.rate_planner.specs.Rounded.{rounded_of}
use Rattle.rate_planner.proofs.ListSteps.{told_always}
use Rattle.rate_planner.proofs.PlanLaws.{chain_missing}
use Rattle.rate_planner.proofs.request.plan_from.Goals as goal

pub returns-then-not-branch-clause-chain : goal.returns-then-not-branch-clause-chain
returns-then-not-branch-clause-chain g c =
    let none = rw c.if-not-branch.true at c.in_ok-climb.ensures.chain in
    told_always (g.B.Bank.contents c.args.bank.now)
    (λ (regs : Registers). KeepsRates c.args.tree.now.defs regs c.args.tree.now → option_map rounded_of c.args.first ≡ round (wired c.args.tree.now.defs regs c.args.tree.now) (g.V.View.means c.args.view.now) c.args.c.0 c.args.x
    → None ≡ chain (wired c.args.tree.now.defs regs c.args.tree.now) (g.V.View.means c.args.view.now) c.args.c.0 c.args.x) (λ regs kept first. chain_missing (wired c.args.tree.now.defs regs c.args.tree.now) (g.V.View.means c.args.view.now) c.args.c.0 c.args.x (none regs kept first))
