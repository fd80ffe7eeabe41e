-- Step by step.
use Rattle.std.proofs.Common.{◌≡◌, ◌∙◌, ℕ, ◌+◌, ◌&&◌, Bool, List, Some, sym, ap, drop}
use Rattle.std.specs.Prelude.{slice_get}
use Rattle.std.specs.List.{list_all}
use Rattle.clk_model.specs.State as state
use Rattle.clk_tree.specs.declared.chain.ChainStep.{ChainStep}
use Rattle.clk_tree.specs.Plans.{chain_of, step_of}
use Rattle.change_walk.proofs.Rests.{rest_of}
use Rattle.core_parts.specs.Movable.{can_go}
use Rattle.core_parts.proofs.movable.can_go_along.Goals as goal

-- whether those that are left pass is up to the first
first_left : (test : state.ChainStep → Bool) (chain : List ChainStep) (k : ℕ) (s : ChainStep) → slice_get chain k ≡ Some s
    → list_all test (drop k (chain_of chain)) ≡ (test (step_of s) && list_all test (drop (k + 1) (chain_of chain)))
first_left test chain k s at = ap (λ (ks : List state.ChainStep). list_all test ks) (rest_of step_of chain k s at)

pub returns-then-not-can_go : goal.returns-then-not-can_go
returns-then-not-can_go c =
    let test = can_go c.args.sets_parent c.args.tree.now.defs c.args.tree.now.clocks in
    sym (c.loop-place.invariant
    ∙ first_left test c.args.chain.now c.loop-place.place c.step_at.result c.step_at.ensures
    ∙ ap (λ (t : Bool). t && list_all test (drop (c.loop-place.place + 1) (chain_of c.args.chain.now))) (sym c.can_go.ensures ∙ c.if-not-can_go.true))

pub loop-place-preserved : goal.loop-place-preserved
loop-place-preserved c =
    let test = can_go c.args.sets_parent c.args.tree.now.defs c.args.tree.now.clocks in
    c.loop-place.invariant
    ∙ first_left test c.args.chain.now c.loop-place.place c.step_at.result c.step_at.ensures
    ∙ ap (λ (t : Bool). t && list_all test (drop (c.loop-place.place + 1) (chain_of c.args.chain.now))) (sym c.can_go.ensures ∙ c.if-not-can_go.false)
