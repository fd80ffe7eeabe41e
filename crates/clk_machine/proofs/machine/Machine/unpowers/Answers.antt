use Rattle.std.proofs.Common.{◌∙◌}
use Rattle.clk_machine.proofs.Sweeping.{three_tests}
use Rattle.clk_machine.proofs.machine.Machine.unpowers.Goals as goal

pub returns : goal.returns
returns g c = λ s stands.
    c.is_idle.ensures ∙ three_tests _ _ _ _ _ _ (c.ignores_unused-passed_over.ensures.told s stands) (c.is_powered-powered.ensures s stands) (c.is_prepared-held.ensures s stands)
