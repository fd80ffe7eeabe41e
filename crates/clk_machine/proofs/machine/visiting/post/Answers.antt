use Rattle.std.specs.Prelude.{slice_index}
use Rattle.clk_machine.proofs.Visiting.{posted_none}
use Rattle.clk_machine.proofs.machine.visiting.post.Goals as goal

pub returns-then-count-eq0-clause-posted : goal.returns-then-count-eq0-clause-posted
returns-then-count-eq0-clause-posted c =
    posted_none c.args.course.now c.args.clock c.args.count (slice_index c.args.tree.now.rates c.args.clock.0) c.args.flight.now c.go_on.new.self c.if-count-eq0.true c.requires.next c.go_on.ensures.flight
