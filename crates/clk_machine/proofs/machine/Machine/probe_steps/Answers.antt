use Rattle.clk_base.specs.Places.{places}
use Rattle.clk_machine.proofs.AdoptionSteps.{probe_steps_are}
use Rattle.clk_machine.proofs.machine.Machine.probe_steps.Goals as goal

pub returns : goal.returns
returns g c =
    probe_steps_are c.args.self.now c.args.new (places c.args.orphans.now) c.is_critical-critical.result c.no_steps-steps.result.items c.push_registration.new.steps.items
    c.push_adoptions.new.steps.items c.push.new.self.items c.no_steps-steps.ensures c.is_critical-critical.ensures.critical c.in_ok-push_registration.ensures.pushed c.in_ok-push_adoptions.ensures
    c.in_ok-push.ensures.items
