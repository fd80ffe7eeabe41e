-- A name that stands once isn't met a second time.
use Rattle.std.proofs.Common.{ap, ◌∙◌}
use Rattle.std.specs.Prelude.{Err}
use Rattle.clk_base.proofs.Names.{fresh_next}
use Rattle.clk_base.proofs.desc.Desc.copy.Goals as goal

pub unreachable-requires : goal.unreachable-requires
unreachable-requires c =
    fresh_next c.args.self.now c.loop-def.copied c.deref-def-items.result.now c.loop-def.def-index c.def-item.result c.in_ok-def.def
    (rw (← c.self.view_is) c.self.invariant.distinct) (c.deref-def-items.ensures.value ∙ c.self.view_is) c.loop-def-test.true c.loop-def.invariant c.in_ok-def.ensures c.def-item.is
    (c.add.ensures.twice_named.0 (c.in-Err-TwiceNamed.is ∙ ap (λ e. Err e) c.in-Err-TwiceNamed.field-0-is))
