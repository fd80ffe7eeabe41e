use Rattle.std.proofs.Common.{subst}
use Rattle.clk_base.specs.declared.event.Event.TheVariants.{Begin}
use Rattle.clk_base.specs.declared.event.Turn.{Turn}
use Rattle.clk_base.specs.declared.event.Turn.TheVariants.{Going}
use Rattle.clk_machine.specs.Run.{Appends, driver_in_flight}
use Rattle.driver_runs.proofs.WholeCalls.{answers_by_steps, begun_flies}
use Rattle.driver_runs.proofs.calling.make_sleeping.Goals as goal

pub finish-requires : goal.finish-requires
finish-requires g c =
    let begins : Appends c.args.core.now c.args.driver (Begin c.args.what.now) Going c.begin.new.self =
    subst (λ (t : Turn). Appends c.args.core.now c.args.driver (Begin c.args.what.now) t c.begin.new.self) c.in-Going.is c.in_ok-reply.ensures.ok in
    (begun_flies c.args.core.now c.begin.new.self c.args.driver c.args.what.now begins).0

pub returns-in-Going-clause-ok : goal.returns-in-Going-clause-ok
returns-in-Going-clause-ok g c =
    let begins : Appends c.args.core.now c.args.driver (Begin c.args.what.now) Going c.begin.new.self =
    subst (λ (t : Turn). Appends c.args.core.now c.args.driver (Begin c.args.what.now) t c.begin.new.self) c.in-Going.is c.in_ok-reply.ensures.ok in
    answers_by_steps c.args.core.now c.begin.new.self c.finish.new.core c.args.driver (driver_in_flight c.begin.new.self.journal) c.args.what.now c.finish.result begins
    (begun_flies c.args.core.now c.begin.new.self c.args.driver c.args.what.now begins).1 c.finish.ensures
