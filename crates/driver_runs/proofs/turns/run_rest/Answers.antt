use Rattle.std.proofs.Common.{sym, subst, ◌∙◌}
use Rattle.clk_model.specs.State.{State}
use Rattle.driver_runs.specs.Courses.{ArePlaced}
use Rattle.driver_runs.proofs.Coursing.{has_ended}
use Rattle.driver_runs.proofs.GoneOn.{gone_further}
use Rattle.driver_runs.proofs.turns.run_rest.Goals as goal

pub run_on-requires-clause-placed : goal.run_on-requires-clause-placed
run_on-requires-clause-placed g c =
    let way = c.requires.way in
    let course = c.events.invariant.keeps way.0 way.1 way.2 in
    subst (λ (s : State). ArePlaced s.defs c.args.drivers.now) (way.2.start ∙ sym course.start) c.requires.placed

pub returns-clause-ok : goal.returns-clause-ok
returns-clause-ok g c =
    has_ended c.args.drivers.now c.args.standings.now c.events.standings c.args.going c.events.flying c.args.core.now c.events.core c.requires.way c.events.invariant.keeps c.in_default.ensures.none

pub run_on-requires-clause-way : goal.run_on-requires-clause-way
run_on-requires-clause-way g c =
    let way = c.requires.way in
    (way.0, way.1, c.events.invariant.keeps way.0 way.1 way.2)

pub events-preserved : goal.events-preserved
events-preserved g c = record {
  keeps = λ first order course. c.in_ok-flying.ensures.ok.keeps first order (c.events.invariant.keeps first order course);
  on = gone_further c.args.core.now c.events.core c.run_on.new.core c.events.invariant.on c.run_on.ensures.on;
}
