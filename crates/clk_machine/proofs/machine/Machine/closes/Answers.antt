use Rattle.std.proofs.Common.{◌∙◌}
use Rattle.core_parts.proofs.Moving.{clock_within}
use Rattle.clk_machine.proofs.Sweeping.{three_tests}
use Rattle.clk_machine.proofs.machine.Machine.closes.Goals as goal

pub is_active-held-requires : goal.is_active-held-requires
is_active-held-requires g c =
    let m = c.args.self.now in
    clock_within m.desc m.window m.tree c.args.clock.0 c.ignores_unused-passed_over.ensures.whole.tied c.requires

pub returns : goal.returns
returns g c = λ s stands.
    c.is_idle.ensures ∙ three_tests _ _ _ _ _ _ (c.ignores_unused-passed_over.ensures.told s stands) (c.lets_through-open.ensures s stands) (c.is_active-held.ensures s stands)
