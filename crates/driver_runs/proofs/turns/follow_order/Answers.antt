use Rattle.std.proofs.Common.{ℕ, ◌+◌, ◌<◌, List, sym, subst, ◌∙◌, drop, get_or}
use Rattle.std.proofs.lemmas.List.{drop_more}
use Rattle.clk_model.specs.State.{State}
use Rattle.driver_runs.specs.Courses.{ArePlaced, Course}
use Rattle.driver_runs.proofs.Going.{element}
use Rattle.driver_runs.proofs.Coursing.{course_begins, course_listed, course_passes, course_many, moves_within, may_move}
use Rattle.driver_runs.proofs.turns.follow_order.Goals.{then-can_move_at+in_ok-going, else-can_move_at}
use Rattle.driver_runs.proofs.turns.follow_order.Goals as goal

pub loop-driver-init : goal.loop-driver-init
loop-driver-init g c = course_begins c.args.core.now c.args.drivers.now c.args.order.now c.args.standings.now c.requires.begins

pub move_driver-requires-clause-within : goal.move_driver-requires-clause-within
move_driver-requires-clause-within g c =
    let some = element (λ (d : ℕ). 0 < d) c.args.order.now c.loop-driver.driver-index 0 c.requires.turns c.loop-driver-test.true in
    moves_within c.loop-driver.going c.args.drivers.now c.loop-driver.standings _ some (sym c.can_move_at.ensures ∙ c.if-can_move_at.true)

pub move_driver-requires-clause-many : goal.move_driver-requires-clause-many
move_driver-requires-clause-many g c = course_many c.args.core.now c.loop-driver.core c.args.drivers.now c.args.order.now _ c.loop-driver.standings c.loop-driver.going c.loop-driver.invariant

pub move_driver-requires-clause-may : goal.move_driver-requires-clause-may
move_driver-requires-clause-may g c =
    let some = element (λ (d : ℕ). 0 < d) c.args.order.now c.loop-driver.driver-index 0 c.requires.turns c.loop-driver-test.true in
    may_move c.args.core.now c.loop-driver.core c.args.drivers.now c.args.order.now _ c.loop-driver.standings c.loop-driver.going _
    (subst (λ (s : State). ArePlaced s.defs c.args.drivers.now) (sym c.loop-driver.invariant.start) c.requires.placed) c.loop-driver.invariant some (sym c.can_move_at.ensures ∙ c.if-can_move_at.true)

pub loop-driver-preserved : goal.loop-driver-preserved
loop-driver-preserved g c =
    let first = c.args.core.now in
    let drivers = c.args.drivers.now in
    let order = c.args.order.now in
    let i = c.loop-driver.driver-index in
    let d = get_or order i 0 in
    let rest = drop (i + 1) order in
    let some = element (λ (n : ℕ). 0 < n) order i 0 c.requires.turns c.loop-driver-test.true in
    let was = subst (λ (left : List ℕ). Course first drivers order c.loop-driver.standings c.loop-driver.going left c.loop-driver.core) (drop_more order i 0 c.loop-driver-test.true) c.loop-driver.invariant in
    elim c.if-can_move_at.branch [
      | then-can_move_at+in_ok-going w ↦
          (let can = sym c.can_move_at.ensures ∙ w.if-can_move_at.true in
          let moved = course_listed first c.loop-driver.core w.move_driver.new.core drivers order rest c.loop-driver.standings w.move_driver.new.standings c.loop-driver.going w.in_ok-going.going d was some
          (moves_within c.loop-driver.going drivers c.loop-driver.standings d some can) can w.in_ok-going.ensures.ok in
          rw (w.core-is, w.standings-is, w.going-is) moved)
      | else-can_move_at w ↦
          (let passed = course_passes first c.loop-driver.core drivers order rest c.loop-driver.standings c.loop-driver.going d was some (sym c.can_move_at.ensures ∙ w.if-can_move_at.false) in
          rw (w.core-is, w.standings-is, w.going-is) passed)
    ]
