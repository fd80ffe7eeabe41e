-- A step of the chain is of the clock, or none is.
use Rattle.std.proofs.Common.{◌∙◌, sym, rules, tests}
use Rattle.std.specs.Prelude.{◌==◌}
use Rattle.std.proofs.lemmas.Iterator.{YieldsList-from_slice}
use Rattle.std.proofs.lemmas.Iterator.Search.{any_from_yields_List}
use Rattle.clk_base.proofs.Mapped.{list_any-map}
use Rattle.clk_model.specs.State as state
use Rattle.clk_tree.specs.declared.chain.ChainStep.{ChainStep}
use Rattle.clk_tree.specs.Plans.{step_of}
use Rattle.change_walk.proofs.visits.is_planned.Goals as goal

pub returns : goal.returns
returns c =
    any_from_yields_List (λ (k : ChainStep). k.clock.0 == c.args.clock.0) _ _ _ c.any.ensures.ran (YieldsList-from_slice c.args.chain.now cc) (λ x b q k. search (rules, tests))
    ∙ sym (list_any-map (λ (k : state.ChainStep). k.clock == c.args.clock.0) step_of c.args.chain.now)
