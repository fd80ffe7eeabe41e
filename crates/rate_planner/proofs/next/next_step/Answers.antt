-- The chain goes on by the rounding of its clock.
use Rattle.std.proofs.Common.{◌∙◌, sym, Some, None}
use Rattle.rate_planner.specs.Kept.{wired}
use Rattle.rate_planner.specs.Rounded.{rounded_of}
use Rattle.rate_planner.proofs.ChainSteps.{chain_taken, chain_untaken}
use Rattle.rate_planner.proofs.next.next_step.Goals as goal

pub returns-in-Some-clause-next : goal.returns-in-Some-clause-next
returns-in-Some-clause-next g c = λ regs kept is more.
    c.continue_from.ensures.next regs kept more
    ∙ chain_taken more (wired c.args.tree.now.defs regs c.args.tree.now) (g.V.View.means c.args.view.now) c.args.clock.0 c.args.x (Some (rounded_of c.in-Some.rounded))
    (sym (c.takes_requests.ensures regs kept) ∙ c.if-takes_requests.true) (rw c.in-Some.is at is)

pub returns-in-None-clause-next : goal.returns-in-None-clause-next
returns-in-None-clause-next g c = λ regs kept is more.
    chain_taken more (wired c.args.tree.now.defs regs c.args.tree.now) (g.V.View.means c.args.view.now) c.args.clock.0 c.args.x None
    (sym (c.takes_requests.ensures regs kept) ∙ c.if-takes_requests.true) (rw c.in-None.is at is)

pub returns-else-takes_requests-clause-next : goal.returns-else-takes_requests-clause-next
returns-else-takes_requests-clause-next g c = λ regs kept is more.
    chain_untaken more (wired c.args.tree.now.defs regs c.args.tree.now) (g.V.View.means c.args.view.now) c.args.clock.0 c.args.x
    (sym (c.takes_requests.ensures regs kept) ∙ c.if-takes_requests.false)
