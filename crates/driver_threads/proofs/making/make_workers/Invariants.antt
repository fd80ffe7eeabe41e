use Rattle.std.proofs.Common.{◌≡◌, ◌≤◌, All, take, drop, length, map, sum_by}
use Rattle.driver_threads.specs.Going.{MayRun}
use Rattle.driver_threads.specs.Workers.{HasMade, newcomers}
use Rattle.driver_threads.proofs.making.make_workers.Given as goal

-- a driver was made for each script so far, and the credits pay for the others
abbrev pub invariant-loop-script : goal.invariant-loop-script
invariant-loop-script g l = record {
  made : HasMade l.fn.first l.script-index l.first;
  credits : sum_by (λ s. length s.commands) (drop l.script-index l.scripts) ≤ l.first.room;
  may : All (λ w. MayRun g.N.Named.table w.driver w.commands.now) l.workers.items;
  commands : map (λ w. w.commands.now) l.workers.items ≡ map (λ s. s.commands) (take l.script-index l.scripts);
  drivers : map (λ w. w.driver) l.workers.items ≡ newcomers l.fn.first l.fn.first.made (map (λ s. s.commands) (take l.script-index l.scripts));
}
