use Rattle.std.proofs.Common.{◌∙◌, sym, ap, arith}
use Rattle.std.specs.Prelude.{not}
use Rattle.clk_machine.specs.Run.{state_of}
use Rattle.clk_machine.proofs.Entering.{idle_left}
use Rattle.clk_machine.proofs.Weighed.{steps_weigh}
use Rattle.clk_machine.proofs.framework.Core.quiet.Goals as goal

pub returns-clause-quiet : goal.returns-clause-quiet
returns-clause-quiet g c = rw (← c.self.view_is) (c.is_quiet.ensures.going ∙ ap not c.self.invariant.going)

pub returns-clause-none : goal.returns-clause-none
returns-clause-none g c = rw (← c.self.view_is) (λ quiet. idle_left c.self.inside.machine (sym c.is_quiet.ensures.going ∙ quiet))

pub returns-clause-few : goal.returns-clause-few
returns-clause-few g c = let room = c.is_quiet.ensures.whole.room in rw (← c.self.view_is) (omega arith)

pub returns-clause-weight : goal.returns-clause-weight
returns-clause-weight g c =
    let m = c.self.inside in
    rw (← c.self.view_is) (λ told. steps_weigh m.machine (state_of m.machine m.words.items m.log) c.is_quiet.ensures.whole (c.self.invariant.stands told))
