use Rattle.std.proofs.Common.{get_or, subst}
use Rattle.driver_threads.specs.declared.worker.Worker.{Worker}
use Rattle.driver_threads.specs.Workers.{Worked}
use Rattle.driver_threads.proofs.Starting.{each_worked}
use Rattle.driver_threads.proofs.working.work_all.Goals as goal

pub returns : goal.returns
returns g c =
    let before = c.args.workers.now in
    let after = c.for_each_mut.new.s in
    each_worked (λ (w : Worker g.row.B.Denot). w.driver) (λ (w : Worker g.row.B.Denot). w.commands.now) (λ (w : Worker g.row.B.Denot). w.answers) before after c.for_each_mut.auto.s
    (λ i d less.
    let k = (c.for_each_mut.ensures i d less).1 in
    let x = get_or before i d in
    subst (λ (y : Worker g.row.B.Denot). Worked x.driver x.commands.now y.driver y.answers) k.left
    (subst (λ (w : Worker g.row.B.Denot). Worked w.driver w.commands.now k.after_call.now.driver k.after_call.now.answers) k.argument_is k.call))
