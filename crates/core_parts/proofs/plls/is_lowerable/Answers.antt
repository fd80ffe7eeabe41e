use Rattle.std.proofs.Common.{ℕ, ◌<◌, sym, ap, subst}
use Rattle.std.specs.Prelude.{IfSome}
use Rattle.clk_base.specs.declared.clock.Kind.{Kind}
use Rattle.clk_base.specs.Fields.{power_of}
use Rattle.core_parts.proofs.Opening.{power_fits}
use Rattle.core_parts.proofs.plls.is_lowerable.Goals as goal

pub is_running-requires : goal.is_running-requires
is_running-requires g c =
    subst (λ (n : ℕ). IfSome (power_of c.def.result.now.kind) (λ power. (power.word < n) × (power.bit < 32))) (sym c.requires.words)
    (subst (λ (kind : Kind). IfSome (power_of kind) (λ power. (power.word < c.args.tree.now.words) × (power.bit < 32))) (sym (ap (λ def. def.kind) c.def.ensures.def))
    (power_fits c.args.tree.now.words c.args.tree.now.defs c.args.clock.0 c.def.ensures.valid c.requires.place))
