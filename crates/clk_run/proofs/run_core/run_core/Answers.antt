use Rattle.std.proofs.Common.{◌≡◌, ℕ, ◌<◌, sum_by, ap, subst, sym, arith, length, List}
use Rattle.std.specs.List.{AllByRecursion}
use Rattle.clk_base.specs.Description.{Description}
use Rattle.clk_base.specs.declared.command.Answer.{Answer}
use Rattle.clk_base.specs.declared.command.Command.{Command}
use Rattle.clk_machine.specs.Run.{Run}
use Rattle.clk_model.specs.State.{State}
use Rattle.drv_scripts.specs.declared.bundle.Bundle.{Bundle}
use Rattle.drv_scripts.specs.declared.bundle.Script.{Script}
use Rattle.drv_scripts.specs.Placed.{IsScript, NamePlaces}
use Rattle.driver_runs.specs.Turns.{HasRun}
use Rattle.clk_run.specs.Cores.{HasCalls}
use Rattle.clk_run.specs.Runs.{drivers_in, told_by}
use Rattle.clk_run.proofs.Readiness.{drivers_keep, drivers_few, commands_few, few_credits}
use Rattle.clk_run.proofs.Leaving.{calls_of_run, printed_whole, printed_front, none_left, none_risen}
use Rattle.clk_run.proofs.Telling.{same_telling}
use Rattle.std.proofs.lemmas.Result.{err_from_is_err_and}
use Rattle.clk_run.proofs.run_core.run_core.Goals as goal

pub run_scripts-requires : goal.run_scripts-requires
run_scripts-requires g c =
    let b = c.args.bundle.now in
    let mode = c.args.cli.now.mode in
    let sound = c.requires.sound in
    let start = c.requires.start in
    let boot = c.as_slice-boot.ensures in
    let run = c.drivers_in-drivers.result.now in
    let drivers : drivers_in mode b ≡ run = sym c.drivers_in-drivers.ensures in
    let credits = ap (λ (s : State). s.credits) start in
    let defs : b.desc.defs ≡ c.args.core.now.start.defs = sym (ap (λ (s : State). s.defs) start) in
    let many = ap (λ (cs : List Command). length cs) boot in
    let sum = ap (λ (xs : List Script). sum_by (λ (s : Script). length s.commands) xs) drivers in
    let few = ap (λ (xs : List Script). length xs) drivers in
    let fewer = commands_few mode b in
    let no_more = drivers_few mode b in
    let one = sound.drivers in
    record {
      begins = c.requires.begins;
      credits = omega arith;
      boot = subst (λ (ds : Description). NamePlaces (length ds) c.as_slice-boot.result.now) defs (subst (NamePlaces (length b.desc.defs)) (sym boot) sound.boot);
      few = omega arith;
      placed = subst (λ (ds : Description). AllByRecursion (IsScript (length ds)) run) defs
          (subst (λ (xs : List Script). AllByRecursion (IsScript (length b.desc.defs)) xs) drivers (drivers_keep (IsScript (length b.desc.defs)) mode b sound.scripts));
      turns = subst (λ (ds : List ℕ). AllByRecursion (λ d. 0 < d) ds) (sym c.as_slice-order.ensures) sound.turns;
    }

-- the commands that were run are those of the bundle
ran_of : (b : Bundle) (boot : List Command) (drivers run : List Script) (order : List ℕ) (answers : List (List Answer)) (old new : Run) → boot ≡ b.boot → run ≡ drivers → order ≡ b.order
    → HasRun boot run order answers old new → HasRun b.boot drivers b.order answers old new
ran_of b boot drivers run order answers old new these those turns ran =
    subst (λ (ds : List ℕ). HasRun b.boot drivers ds answers old new) turns
    (subst (λ (xs : List Script). HasRun b.boot xs order answers old new) those (subst (λ (cs : List Command). HasRun cs run order answers old new) these ran))

pub print_core-requires : goal.print_core-requires
print_core-requires g c =
    let b = c.args.bundle.now in
    let cli = c.args.cli.now in
    let core = c.run_scripts.new.core in
    let answers = c.in_ok-answers.answers.items in
    let ran = ran_of b _ (drivers_in cli.mode b) _ _ answers c.args.core.now core c.as_slice-boot.ensures c.drivers_in-drivers.ensures c.as_slice-order.ensures c.in_ok-answers.ensures.ok in
    record {
      sound = c.requires.sound;
      calls = subst (λ (as_ : List (List Answer)). HasCalls b cli as_ core) (sym c.as_slice.ensures.value)
          (calls_of_run b cli c.args.core.now core answers c.requires.start ran);
      few = few_credits b c.requires.sound;
    }

pub returns-clause-done : goal.returns-clause-done
returns-clause-done g c =
    let ran = c.in_ok-answers.ensures.ok in
    printed_whole c.args.bundle.now c.args.cli.now c.args.core.now c.run_scripts.new.core _ _ c.print_core.result ran.start ran.told ran.behind c.print_core.ensures.prints

pub returns-clause-fault : goal.returns-clause-fault
returns-clause-fault g c =
    printed_front c.args.bundle.now c.args.cli.now (told_by c.args.core.now) c.run_scripts.new.core _ _ c.print_core.result (same_telling c.run_scripts.new.core c.args.core.now c.in_ok-answers.ensures.ok.told c.in_ok-answers.ensures.ok.behind) c.print_core.ensures.prints

pub returns-in_err-answers-clause-fault : goal.returns-in_err-answers-clause-fault
returns-in_err-answers-clause-fault g c =
    let p = err_from_is_err_and c.from_residual.result c.from_residual.ensures.1 in
    none_left c.args.bundle.now c.args.cli.now (told_by c.args.core.now) (g.K.Sink.written c.args.out.now) c.from_residual.result p.0 p.1 p.2

pub returns-in_err-answers-clause-counts : goal.returns-in_err-answers-clause-counts
returns-in_err-answers-clause-counts g c =
    let p = err_from_is_err_and c.from_residual.result c.from_residual.ensures.1 in
    none_risen (g.K.Sink.faults c.args.out.now) c.from_residual.result p.0 p.1 p.2
