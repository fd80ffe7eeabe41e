use Rattle.clk_machine.specs.Readied.{readied_of}
use Rattle.clk_machine.proofs.Readying.{enters_readied, ok_both}
use Rattle.clk_machine.specs.ChangeCalls.{call_of}
use Rattle.clk_machine.proofs.machine.Machine.begin_change.Goals as goal

pub returns-clause-ok : goal.returns-clause-ok
returns-clause-ok g c =
    ok_both c.begin_readied.result _ _ _
    (λ turn proceeds leads. enters_readied c.args.self.now c.begin_readied.new.self c.args.driver (call_of c.args.change) (readied_of c.ready.new.draft c.in_ok-verdict.verdict) turn c.in_ok-verdict.ensures.ready proceeds leads)
    c.begin_readied.ensures.proceeds c.begin_readied.ensures.leads
