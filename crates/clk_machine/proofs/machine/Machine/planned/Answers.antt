use Rattle.std.proofs.Common.{sym, subst}
use Rattle.clk_machine.specs.Copied.{DecidesFor}
use Rattle.clk_machine.specs.declared.decision.Decision.{Decision}
use Rattle.core_parts.specs.Decisions.{decision_of}
use Rattle.clk_machine.proofs.Copied.{decides_told}
use Rattle.clk_machine.specs.ChangeCalls.{call_of}
use Rattle.clk_machine.proofs.ChangeCalls.{plans_of}
use Rattle.clk_machine.proofs.machine.Machine.planned.Goals as goal

pub returns-clause-decides : goal.returns-clause-decides
returns-clause-decides g c = λ s stands sound.
    subst (λ (made : Decision). DecidesFor s c.args.driver (call_of c.args.change) made) (sym c.taken_from.ensures)
    (decides_told c.args.self.now s c.args.driver (call_of c.args.change) (decision_of c.decide.new.draft c.in_ok-verdict.verdict) (plans_of c.args.change) stands c.in_ok-verdict.ensures.there (c.in_ok-verdict.ensures.decides s stands sound))
