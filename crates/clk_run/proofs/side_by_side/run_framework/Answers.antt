use Rattle.std.proofs.Common.{List, Some, IfOk, ap, subst}
use Rattle.clk_base.specs.declared.command.Command.{Command}
use Rattle.drv_scripts.specs.declared.bundle.Script.{Script}
use Rattle.driver_threads.specs.Runs.{HasRunOnThreads}
use Rattle.clk_framework.specs.Calls.{DriverView}
use Rattle.clk_run.specs.Cores.{opened_for}
use Rattle.clk_run.proofs.Threaded.{can_start}
use Rattle.clk_run.proofs.side_by_side.run_framework.Goals as goal

pub run_on_threads-requires-after_bounds : goal.run_on_threads-requires-after_bounds
run_on_threads-requires-after_bounds g c κs within =
    can_start _ c.args.bundle.now c.args.ignore_unused (g.B.Bank.contents c.args.bank) (g.B.Bank.lock c.args.bank) c.in_ok-unnamed.first _ _ c.requires.sound c.in_ok-unnamed.ensures c.as_slice-boot.ensures
    c.as_slice-drivers.ensures

pub returns : goal.returns
returns g c =
    let b = c.args.bundle.now in
    let opened = opened_for b c.args.ignore_unused (g.B.Bank.contents c.args.bank) (g.B.Bank.lock c.args.bank) in
    subst (λ (cs : List Command). IfOk c.run_on_threads.result (λ ran. HasRunOnThreads (Some opened) cs b.drivers ran.1.items ran.0)) c.as_slice-boot.ensures
    (subst (λ (ds : List Script). IfOk c.run_on_threads.result (λ ran. HasRunOnThreads (Some opened) c.as_slice-boot.result.now ds ran.1.items ran.0)) c.as_slice-drivers.ensures
    (subst (λ o. IfOk c.run_on_threads.result (λ ran. HasRunOnThreads o c.as_slice-boot.result.now c.as_slice-drivers.result.now ran.1.items ran.0))
    (ap (λ (d : DriverView). d.fixed) c.in_ok-unnamed.ensures) c.run_on_threads.ensures))
