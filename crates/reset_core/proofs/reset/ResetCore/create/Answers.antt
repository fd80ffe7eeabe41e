use Rattle.std.specs.Vec.{vec_capacity}
use Rattle.reset_core.proofs.Going.{begins_run}
use Rattle.reset_core.proofs.reset.ResetCore.create.Goals as goal

pub invariant_of-result : goal.invariant_of-result
invariant_of-result c =
    (begins_run c.args.words c.args.room c.args.lines.now c.in_ok-controller.controller (vec_capacity c.in_ok-with_capacity.field-0) c.in_ok-with_capacity.field-0.items c.requires.placed c.requires.apart c.in_ok-controller.ensures.state c.in_ok-controller.ensures.room c.in_ok-with_capacity.ensures.capacity c.in_ok-with_capacity.ensures.items).0
