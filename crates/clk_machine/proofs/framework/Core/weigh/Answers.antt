use Rattle.clk_machine.specs.Run.{state_of}
use Rattle.clk_machine.proofs.Weighed.{steps_weigh}
use Rattle.clk_machine.proofs.framework.Core.weigh.Goals as goal

pub returns : goal.returns
returns g c =
    let m = c.self.inside in
    rw (← c.self.view_is) (λ told. steps_weigh m.machine (state_of m.machine m.words.items m.log) c.keep.ensures (c.self.invariant.stands told))
