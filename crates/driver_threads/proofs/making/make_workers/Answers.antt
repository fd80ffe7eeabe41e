use Rattle.std.proofs.Common.{◌≡◌, All, List, map, take, length, refl, sym, subst, ◌∙◌}
use Rattle.std.proofs.lemmas.List.Elements.{All-push}
use Rattle.clk_base.specs.declared.command.Command.{Command}
use Rattle.tier_lock.specs.Known.{parted, next_pass}
use Rattle.driver_threads.specs.declared.worker.Worker.{Worker}
use Rattle.driver_threads.specs.Going.{MayRun}
use Rattle.driver_threads.proofs.Newcomers.{commands_of, made_more, credits_next, may_work, map_more, commands_more, newcomers_next}
use Rattle.driver_threads.proofs.making.make_workers.Goals as goal

pub loop-script-preserved : goal.loop-script-preserved
loop-script-preserved g c =
    let old = c.args.first.now in
    let mid = c.loop-script.first in
    let new = c.driver-driver.new.boot in
    let d = c.driver-driver.result in
    let scripts = c.args.scripts.now in
    let i = c.loop-script.script-index in
    let s = c.script-item.result in
    let within = c.loop-script-test.true in
    let is = c.script-item.is in
    let so_far = c.loop-script.invariant in
    let same = c.as_slice-commands.ensures in
    let parts : new ≡ parted (length s.commands) mid = subst (λ (cs : List Command). new ≡ parted (length cs) mid) same c.driver-driver.ensures.old in
    let next : d ≡ next_pass (length s.commands) mid = subst (λ (cs : List Command). d ≡ next_pass (length cs) mid) same c.driver-driver.ensures.new in
    let worker = c.new.result in
    let workers = c.loop-script.workers.items in
    let more = c.in_ok-push.ensures.items in
    let may : MayRun g.N.Named.table worker.driver worker.commands.now =
    may_work g.N.Named.table old mid scripts i s c.requires so_far.made within is so_far.credits worker.driver worker.commands.now (c.new.ensures.driver ∙ next) (c.new.ensures.commands ∙ same) in
    record {
      made = made_more old mid new i (length s.commands) so_far.made parts;
      credits = credits_next g.N.Named.table old mid scripts i s c.requires so_far.made within is so_far.credits new parts;
      may = subst (λ (ws : List (Worker g.row.B.Denot)). All (λ w. MayRun g.N.Named.table w.driver w.commands.now) ws) (sym more)
          (All-push (λ (w : Worker g.row.B.Denot). MayRun g.N.Named.table w.driver w.commands.now) workers worker so_far.may may);
      commands = map_more (λ (w : Worker g.row.B.Denot). w.commands.now) workers c.push.new.self.items worker (map commands_of (take i scripts)) s.commands so_far.commands more
          (c.new.ensures.commands ∙ same)
          ∙ sym (commands_more scripts i s within is);
      drivers = map_more (λ (w : Worker g.row.B.Denot). w.driver) workers c.push.new.self.items worker (map (λ w. w.driver) workers) d refl more c.new.ensures.driver
          ∙ newcomers_next old mid d scripts i s (map (λ w. w.driver) workers) so_far.made within is so_far.drivers next;
    }
