use Rattle.std.proofs.Common.{[], ◌∷◌, List, map, sym, ap, subst, ◌∙◌, arith}
use Rattle.std.proofs.lemmas.List.{with_items_is}
use Rattle.std.proofs.lemmas.Result.{IfOk-weaker}
use Rattle.std.specs.Vec.{with_items}
use Rattle.clk_base.specs.declared.command.Answer.{Answer}
use Rattle.clk_machine.specs.Run.{in_flight}
use Rattle.clk_model.specs.Follows.{no_handles}
use Rattle.clk_model.specs.Journal.{cost}
use Rattle.clk_model.specs.State.{State}
use Rattle.driver_runs.specs.Courses.{ArePlaced, BeginsCourse, Course}
use Rattle.driver_runs.specs.Turns.{HasRun}
use Rattle.driver_runs.specs.declared.standing.Standing.{Standing}
use Rattle.driver_runs.proofs.Going.{goes_cost, goes_idle}
use Rattle.driver_runs.proofs.Sides.{new_owed}
use Rattle.driver_runs.proofs.Ended.{has_run}
use Rattle.driver_runs.proofs.scripts.run_scripts.Goals as goal

pub follow_order-requires-clause-placed : goal.follow_order-requires-clause-placed
follow_order-requires-clause-placed g c =
    subst (λ (s : State). ArePlaced s.defs c.args.drivers.now) (sym c.in_ok-first.ensures.ok.1.start) c.requires.placed

pub follow_order-requires-clause-begins : goal.follow_order-requires-clause-begins
follow_order-requires-clause-begins g c =
    let old = c.args.core.now in
    let first = c.run_boot.new.core in
    let drivers = c.args.drivers.now in
    let goes = c.in_ok-first.ensures.ok.1 in
    let idle = goes_idle old first 0 (no_handles c.args.boot.now) c.in_ok-first.ensures.ok.0 c.args.boot.now c.in_ok-first.first.items goes (ap in_flight c.requires.begins) in
    let spent = goes_cost old first 0 (no_handles c.args.boot.now) c.in_ok-first.ensures.ok.0 c.args.boot.now c.in_ok-first.first.items goes in
    let nothing = ap cost c.requires.begins in
    let paid = c.requires.credits in
    let same = ap (λ (s : State). s.credits) goes.start in
    subst (λ (xs : List Standing). BeginsCourse first drivers xs) (sym c.as_mut_slice.ensures.value) record {
      new = c.in_ok-standings.ensures;
      quiet = idle;
      credits = let few = new_owed 1 drivers c.in_ok-standings.standings.items c.in_ok-standings.ensures in omega arith;
    }

pub run_rest-requires-clause-placed : goal.run_rest-requires-clause-placed
run_rest-requires-clause-placed g c =
    subst (λ (s : State). ArePlaced s.defs c.args.drivers.now) (sym (c.in_ok-going.ensures.ok.start ∙ c.in_ok-first.ensures.ok.1.start)) c.requires.placed

pub returns-clause-ok : goal.returns-clause-ok
returns-clause-ok g c =
    let old = c.args.core.now in
    let boot = c.args.boot.now in
    let drivers = c.args.drivers.now in
    let order = c.args.order.now in
    let first = c.run_boot.new.core in
    let core = c.run_rest.new.core in
    let answers = c.in_ok-first.first.items in
    let xs = c.run_rest.new.standings in
    let v = c.in_ok-standings.standings in
    let w = with_items v c.follow_order.new.standings in
    let kept = c.follow_order.auto.standings ∙ c.as_mut_slice.ensures.len in
    let these = with_items_is w xs (c.run_rest.auto.standings ∙ c.as_mut_slice-2.ensures.len) in
    let ended = c.in_ok-run_rest.ensures.ok in
    let before = subst (λ (ys : List Standing). Course first drivers order ys c.in_ok-going.going [] c.follow_order.new.core) (sym (c.as_mut_slice-2.ensures.value ∙ with_items_is v c.follow_order.new.standings kept)) c.in_ok-going.ensures.ok in
    let ran = has_run old first core boot c.in_ok-first.ensures.ok.0 answers drivers order xs c.requires.begins c.in_ok-first.ensures.ok.1 (ended.keeps first order before) ended.done in
    let those = ap (λ (ys : List Standing). answers ∷ map (λ (x : Standing). x.answers.items) ys) these in
    IfOk-weaker c.gather.result _ _ (λ all is. subst (λ (as_ : List (List Answer)). HasRun boot drivers order as_ old core) (sym (is ∙ those)) ran) c.gather.ensures
