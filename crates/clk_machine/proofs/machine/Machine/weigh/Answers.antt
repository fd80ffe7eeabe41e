use Rattle.std.proofs.Common.{ℕ, ◌-◌, ◌^◌, ◌∙◌, sym, ap, min}
use Rattle.std.specs.Prelude.{sum_by}
use Rattle.clk_model.specs.Script.{plls}
use Rattle.change_walk.specs.Weights.{step_weight}
use Rattle.core_parts.proofs.Scripting.{weighs_rows}
use Rattle.clk_machine.proofs.machine.Machine.weigh.Goals as goal

pub returns : goal.returns
returns g c =
    let m = c.self.inside in
    rw (← c.self.view_is) (c.weigh.ensures
    ∙ ap (λ (n : ℕ). min (sum_by (step_weight n m.notifiers) c.args.steps.now) (2 ^ 64 - 1)) (c.plls.ensures.plls ∙ ap plls c.self.invariant.tied.defs)
    ∙ ap (λ (n : ℕ). min n (2 ^ 64 - 1)) (sym (weighs_rows m.notifiers (plls m.tree.defs) c.args.steps.now)))
