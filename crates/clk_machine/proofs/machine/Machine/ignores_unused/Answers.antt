use Rattle.std.proofs.Common.{◌≡◌, true}
use Rattle.clk_model.specs.State.{registered}
use Rattle.core_parts.proofs.Moving.{clock_within}
use Rattle.core_parts.specs.Tied.{desc_of}
use Rattle.clk_machine.proofs.machine.Machine.ignores_unused.Goals as goal

pub def-requires : goal.def-requires
def-requires g c =
    let m = c.self.inside in
    let there : registered m.tree.clocks c.args.clock.0 ≡ true = rw (← c.self.view_is) at c.requires in
    record { place = clock_within (desc_of m.tree) m.window m.tree c.args.clock.0 c.self.invariant.tied there }
