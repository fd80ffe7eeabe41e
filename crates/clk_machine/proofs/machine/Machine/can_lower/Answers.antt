use Rattle.std.proofs.Common.{ℕ, ◌+◌, ap, ◌∙◌, nat_le}
use Rattle.clk_model.specs.Begin.{most_credits}
use Rattle.clk_machine.proofs.machine.Machine.can_lower.Goals as goal

pub returns : goal.returns
returns g c =
    c.fits.ensures ∙ ap (λ (n : ℕ). nat_le (n + c.most_lowers.result) most_credits) c.used.ensures
    ∙ ap (λ (n : ℕ). nat_le (c.args.self.now.credits + c.args.self.now.steps + n) most_credits) c.most_lowers.ensures.most
