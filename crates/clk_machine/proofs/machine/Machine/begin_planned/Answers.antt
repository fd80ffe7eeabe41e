use Rattle.std.proofs.lemmas.Result.{IfOk-weaker}
use Rattle.clk_machine.proofs.machine.Machine.begin_planned.Goals as goal

pub returns-clause-leads : goal.returns-clause-leads
returns-clause-leads g c =
    IfOk-weaker c.begin_readied.result _ _ (λ turn leads s script stands sound goes. leads s stands sound (c.in_ok-verdict.ensures.ready s script stands sound goes)) c.begin_readied.ensures.leads
