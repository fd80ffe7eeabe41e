use Rattle.std.proofs.Common.{◌∙◌, ℕ, sym, ap, subst}
use Rattle.clk_base.specs.Checked.{Checked}
use Rattle.clk_base.specs.Valid.{IsValid}
use Rattle.clk_machine.proofs.framework.Core.desc.Goals as goal

pub returns-clause-words : goal.returns-clause-words
returns-clause-words g c = rw (← c.self.view_is) (ap (λ (d : Checked). d.words) c.desc.ensures.desc ∙ sym c.desc.ensures.whole.tied.words ∙ c.self.invariant.size)

pub returns-clause-valid : goal.returns-clause-valid
returns-clause-valid g c =
    rw (← c.self.view_is)
    (subst (λ (n : ℕ). IsValid n c.self.inside.machine.desc.defs) (sym c.desc.ensures.whole.tied.words ∙ c.self.invariant.size) c.desc.ensures.whole.tied.valid)
