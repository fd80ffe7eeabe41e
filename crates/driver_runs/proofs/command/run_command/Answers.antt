use Rattle.std.proofs.Common.{Option, ap, sym, subst, ◌∙◌}
use Rattle.clk_base.specs.declared.event.Reply.{Reply}
use Rattle.clk_base.specs.declared.handle.Handle.{Handle}
use Rattle.clk_model.specs.Follows.{call_of}
use Rattle.driver_runs.specs.Scripts.{MakesCall}
use Rattle.driver_runs.proofs.Going.{goes_skipped}
use Rattle.driver_runs.proofs.command.run_command.Goals as goal

pub returns-in-None-clause-ok : goal.returns-in-None-clause-ok
returns-in-None-clause-ok g c =
    let old = c.args.core.now in
    let new = c.make_call.new.core in
    let command = c.args.command.now in
    let made = subst (λ (r : Option Reply). MakesCall old c.args.driver c.handle_of-before.result command.act r new) c.in-None.is c.in_ok-reply.ensures.ok in
    goes_skipped old new c.args.driver c.args.held.now command (ap (λ (held : Option Handle). call_of held command.act) (sym c.handle_of-before.ensures) ∙ made.0) made.1
