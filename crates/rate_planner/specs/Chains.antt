-- The steps of a chain in code, and how a chain goes on.
use Rattle.std.specs.Prelude.{◌≡◌, ℕ, true, false, ◌||◌, List, [], ◌∷◌, Option, Some, None, IfSome, option_map, option_and_then}
use Rattle.std.specs.List.{AllByRecursion}
use Rattle.clk_base.specs.Description.{kind_of}
use Rattle.clk_model.specs.declared.row.ClockRow.{ClockRow}
use Rattle.clk_model.specs.Kinds.{can_round}
use Rattle.clk_model.specs.Round.{Wiring, View, passes_on, round}
use Rattle.clk_model.specs.Chain.{chain_from}
use Rattle.clk_model.specs.State as state
use Rattle.clk_model.specs.State.{registered}
use Rattle.clk_tree.specs.declared.chain.ChainStep.{ChainStep}
use Rattle.clk_tree.specs.Plans.{step_of}
use Rattle.rate_planner.specs.declared.next.Next.{Next}
use Rattle.rate_planner.specs.declared.next.Next.TheVariants.{NoPlan, Last, More}

-- the chain of a step and what follows it, where more is the chain of a parent
abbrev pub continued : (ℕ → ℕ → Option (List state.ChainStep)) → Next → Option (List state.ChainStep)
continued more NoPlan = None
continued more (Last step) = Some (step_of step ∷ [])
continued more (More step parent request) = option_map (λ ks. step_of step ∷ ks) (more parent.0 request)

-- the chain from a clock that can round or passes requests on, where more is the chain of a parent
abbrev pub chain_here : (ℕ → ℕ → Option (List state.ChainStep)) → Wiring → View → ℕ → ℕ → Option (List state.ChainStep)
chain_here more w view c x =
    elim (can_round (kind_of w.defs c) || passes_on w c) [
      | false ↦ None
      | true ↦ option_and_then (λ r. chain_from more w view c x r) (round w view c x)
    ]

-- the clock of a step is registered, and so is its planned parent
pub record IsThere (clocks : List ClockRow) (s : ChainStep) : Type 0 where
  pub clock : registered clocks s.clock.0 ≡ true
  pub parent : IfSome s.parent (λ p. registered clocks p.0 ≡ true)

-- the step of a clock with which a chain goes on or ends is there, and so is the clock that is next
abbrev pub NextIsThere : List ClockRow → Next → Type 0
NextIsThere clocks NoPlan = Unit {0}
NextIsThere clocks (Last step) = IsThere clocks step
NextIsThere clocks (More step parent request) = IsThere clocks step × (registered clocks parent.0 ≡ true)

-- the clock of a step of the definitions is registered, and so is its planned parent
pub record StepIsThere (clocks : List ClockRow) (k : state.ChainStep) : Type 0 where
  pub clock : registered clocks k.clock ≡ true
  pub parent : IfSome k.parent (λ p. registered clocks p ≡ true)

-- the clocks of these steps are registered, and so are their planned parents
abbrev pub AllThere : List ClockRow → List state.ChainStep → Type 0
AllThere clocks ks = AllByRecursion (StepIsThere clocks) ks
