use Rattle.std.proofs.Common.{◌≡◌, ℕ, ◌+◌, ◌*◌, ap, ◌∙◌}
use Rattle.clk_model.specs.Script.{plls}
use Rattle.clk_machine.proofs.machine.Machine.most_raises.Goals as goal

pub returns-clause-most : goal.returns-clause-most
returns-clause-most g c =
    let m = c.self.inside in
    let most : c.plls.result ≡ plls m.tree.defs = c.plls.ensures.plls ∙ ap plls c.self.invariant.tied.defs in
    rw (← c.self.view_is) (c.most_to_raise.ensures ∙ ap (λ (n : ℕ). 34 * n + 2) most)
