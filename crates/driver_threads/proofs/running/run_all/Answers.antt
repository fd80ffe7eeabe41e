use Rattle.std.proofs.Common.{◌≡◌, List, ◌∷◌, ◌++◌, Some, IfOk, map, take, drop, length, subst, arith}
use Rattle.std.proofs.lemmas.List.{take_at}
use Rattle.driver_threads.specs.declared.worker.Worker.{Worker}
use Rattle.driver_threads.specs.Workers.{HaveWorked}
use Rattle.driver_threads.proofs.Newcomers.{commands_of}
use Rattle.driver_threads.proofs.Starting.{may_boot, may_make, all_done, ok_done}
use Rattle.driver_threads.proofs.running.run_all.Goals as goal

pub run_script-requires-after_bounds : goal.run_script-requires-after_bounds
run_script-requires-after_bounds g c κs within = may_boot _ c.args.first c.args.boot.now c.args.drivers.now c.requires

pub make_workers-requires : goal.make_workers-requires
make_workers-requires g c =
    may_make _ c.args.first c.args.boot.now c.args.drivers.now c.requires c.run_script.new.driver c.in_ok-own.ensures.goes.0 c.in_ok-own.own.items c.in_ok-own.ensures.goes.1

pub returns : goal.returns
returns g c =
    let booted = c.run_script.new.driver in
    let last = c.make_workers.new.first in
    let own = c.in_ok-own.own.items in
    let before = c.in_ok-workers.workers.items in
    let after = c.work_all.new.workers in
    let count = c.in_ok-workers.workers.len in
    let many : length after ≡ count = (let same = c.work_all.auto.workers in let is = c.as_mut_slice.ensures.len in omega (arith, same, is)) in
    let kept : take count (after ++ drop (length after) before) ≡ after = take_at after (drop (length after) before) count many in
    ok_done c.gather.result (λ all. all.0.items) (λ all. all.1.items) (last ∷ map (λ (w : Worker g.row.B.Denot). w.driver) after)
    (Some own ∷ map (λ (w : Worker g.row.B.Denot). w.answers) after) c.args.first c.args.boot.now (map commands_of c.args.drivers.now)
    (subst (λ (ws : List (Worker g.row.B.Denot)). IfOk c.gather.result (λ all. all.0.items ≡ last ∷ map (λ w. w.driver) ws)) kept c.gather.ensures.drivers)
    (subst (λ (ws : List (Worker g.row.B.Denot)). IfOk c.gather.result (λ all. map Some all.1.items ≡ Some own ∷ map (λ w. w.answers) ws)) kept c.gather.ensures.answers)
    (λ all mine these those.
    all_done c.args.first booted last c.args.boot.now c.in_ok-own.ensures.goes.0 own c.args.drivers.now (map (λ (w : Worker g.row.B.Denot). w.commands.now) before)
    (map (λ (w : Worker g.row.B.Denot). w.driver) before) (map (λ (w : Worker g.row.B.Denot). w.driver) after) all (map (λ (w : Worker g.row.B.Denot). w.answers) after) mine
    c.in_ok-own.ensures.goes.1 c.in_ok-workers.ensures.made c.in_ok-workers.ensures.scripts c.in_ok-workers.ensures.drivers
    (subst (λ (ws : List (Worker g.row.B.Denot)). HaveWorked (map (λ w. w.driver) ws) (map (λ w. w.commands.now) ws) (map (λ w. w.driver) after) (map (λ w. w.answers) after))
    c.as_mut_slice.ensures.value c.work_all.ensures) these those)
