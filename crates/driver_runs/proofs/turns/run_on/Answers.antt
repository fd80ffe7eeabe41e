use Rattle.std.proofs.Common.{◌≡◌, true, [], sym, subst, ◌∙◌}
use Rattle.clk_model.specs.Lists.{is_at}
use Rattle.clk_model.specs.State.{State}
use Rattle.driver_runs.specs.Courses.{ArePlaced}
use Rattle.driver_runs.proofs.Making.{steps_is}
use Rattle.driver_runs.proofs.Coursing.{course_found, course_many, may_move, effort_less, next_on, effort_on}
use Rattle.driver_runs.proofs.GoneOn.{gone_further}
use Rattle.driver_runs.proofs.turns.run_on.Goals as goal

pub move_driver-requires-clause-many : goal.move_driver-requires-clause-many
move_driver-requires-clause-many g c =
    let way = c.requires.way in
    course_many way.0 c.args.core.now c.args.drivers.now way.1 [] c.args.standings.now c.args.going way.2

pub move_driver-requires-clause-may : goal.move_driver-requires-clause-may
move_driver-requires-clause-may g c =
    let way = c.requires.way in
    may_move way.0 c.args.core.now c.args.drivers.now way.1 [] c.args.standings.now c.args.going c.args.driver c.requires.placed way.2 c.requires.next.some c.requires.next.moves

pub steps-init : goal.steps-init
steps-init g c =
    let drivers = c.args.drivers.now in
    let old = c.args.core.now in
    let new = c.move_driver.new.core in
    let xs = c.args.standings.now in
    let xs' = c.move_driver.new.standings in
    let after = c.in_ok-flying.flying in
    record {
      keeps = λ first order course. course_found first old new drivers order xs xs' c.args.going after c.args.driver course c.requires.next c.in_ok-flying.ensures.ok;
      less = effort_less old new drivers xs xs' c.args.going after c.args.driver c.requires.next.some c.in_ok-flying.ensures.ok;
      next = λ flies. next_on old new drivers xs xs' c.args.going after c.args.driver c.requires.next c.in_ok-flying.ensures.ok flies;
      on = c.move_driver.ensures.on;
    }

pub move_driver-requires-in-steps-clause-many : goal.move_driver-requires-in-steps-clause-many
move_driver-requires-in-steps-clause-many g c =
    let way = c.requires.way in
    course_many way.0 c.steps.core c.args.drivers.now way.1 [] c.steps.standings c.steps.flying (c.steps.invariant.keeps way.0 way.1 way.2)

pub move_driver-requires-in-steps-clause-may : goal.move_driver-requires-in-steps-clause-may
move_driver-requires-in-steps-clause-may g c =
    let way = c.requires.way in
    let course = c.steps.invariant.keeps way.0 way.1 way.2 in
    let flies : is_at c.args.driver c.steps.flying ≡ true = sym (steps_is c.steps.flying c.args.driver) ∙ sym c.steps-test.ensures in
    let next = c.steps.invariant.next flies in
    may_move way.0 c.steps.core c.args.drivers.now way.1 [] c.steps.standings c.steps.flying c.args.driver
    (subst (λ (s : State). ArePlaced s.defs c.args.drivers.now) (way.2.start ∙ sym course.start) c.requires.placed) course next.some next.moves

pub steps-preserved : goal.steps-preserved
steps-preserved g c =
    let drivers = c.args.drivers.now in
    let old = c.steps.core in
    let new = c.move_driver-in-steps.new.core in
    let xs = c.steps.standings in
    let xs' = c.move_driver-in-steps.new.standings in
    let before = c.steps.flying in
    let after = c.in_ok-flying-2.flying in
    let flies : is_at c.args.driver before ≡ true = sym (steps_is before c.args.driver) ∙ sym c.steps-test.ensures in
    let next = c.steps.invariant.next flies in
    let moves = c.in_ok-flying-2.ensures.ok in
    record {
      keeps = λ first order course. course_found first old new drivers order xs xs' before after c.args.driver (c.steps.invariant.keeps first order course) next moves;
      less = effort_on old new drivers c.args.standings.now xs xs' c.args.going before after c.args.driver next.some flies moves c.steps.invariant.less;
      next = λ still. next_on old new drivers xs xs' before after c.args.driver next moves still;
      on = gone_further c.args.core.now old new c.steps.invariant.on c.move_driver-in-steps.ensures.on;
    }
