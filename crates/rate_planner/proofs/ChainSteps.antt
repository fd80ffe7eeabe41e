-- Laws on a chain that is climbed step by step.
use Rattle.std.proofs.Common.{◌≡◌, ℕ, zero, suc, ◌+◌, ◌-◌, ◌<◌, ◌||◌, Bool, true, false, List, [], ◌∷◌, ◌++◌, Option, Some, None, refl, sym, ap, subst, ◌∙◌, arith, append_assoc}
use Rattle.std.specs.Prelude.{IfSome, option_map, option_and_then}
use Rattle.std.specs.List.{All}
use Rattle.clk_base.specs.declared.clock.ClockId.{ClockId}
use Rattle.clk_base.specs.Description.{kind_of}
use Rattle.clk_model.specs.Kinds.{can_round}
use Rattle.clk_model.specs.Round.{Wiring, View, Rounded, passes_on, round}
use Rattle.clk_model.specs.Chain.{chain_from, chain_within}
use Rattle.clk_model.specs.declared.row.ClockRow.{ClockRow}
use Rattle.clk_model.specs.State as state
use Rattle.clk_model.specs.State.{registered}
use Rattle.clk_tree.specs.declared.chain.ChainStep.{ChainStep}
use Rattle.clk_tree.specs.Plans.{chain_of, step_of}
use Rattle.rate_planner.specs.declared.next.Next.{Next}
use Rattle.rate_planner.specs.declared.next.Next.TheVariants.{NoPlan, Last, More}
use Rattle.rate_planner.specs.Chains.{continued, chain_here, IsThere, StepIsThere, AllThere}

-- a clock that takes requests goes on by its rounding, and another has no chain
pub chain_taken : (more : ℕ → ℕ → Option (List state.ChainStep)) (w : Wiring) (view : View) (c x : ℕ) (o : Option Rounded) → (can_round (kind_of w.defs c) || passes_on w c) ≡ true
    → o ≡ round w view c x → option_and_then (λ r. chain_from more w view c x r) o ≡ chain_here more w view c x
chain_taken more w view c x o takes is =
    ap (option_and_then (λ (r : Rounded). chain_from more w view c x r)) is
    ∙ sym (ap (λ (t : Bool). elim t [ false ↦ None | true ↦ option_and_then (λ r. chain_from more w view c x r) (round w view c x) ]) takes)

pub chain_untaken : (more : ℕ → ℕ → Option (List state.ChainStep)) (w : Wiring) (view : View) (c x : ℕ) → (can_round (kind_of w.defs c) || passes_on w c) ≡ false → None ≡ chain_here more w view c x
chain_untaken more w view c x no_ = sym (ap (λ (t : Bool). elim t [ false ↦ None | true ↦ option_and_then (λ r. chain_from more w view c x r) (round w view c x) ]) no_)

-- ---- climbing

-- what the next step says of the rest of the chain
climbed : (w : Wiring) (view : View) (n c x : ℕ) (next : Next) (xs : List state.ChainStep) → 0 < n → ((more : ℕ → ℕ → Option (List state.ChainStep)) → continued more next ≡ chain_here more w view c x)
    → option_map (λ ks. xs ++ ks) (continued (chain_within (n - 1) w view) next) ≡ option_map (λ ks. xs ++ ks) (chain_within n w view c x)
climbed w view zero c x next xs some says = absurd (omega arith)
climbed w view (suc n) c x next xs some says =
    let less : suc n - 1 ≡ n = omega arith in
    ap (λ m. option_map (λ ks. xs ++ ks) (continued (chain_within m w view) next)) less
    ∙ ap (option_map (λ (ks : List state.ChainStep). xs ++ ks)) (says (chain_within n w view))

-- without a plan there is none
pub climb_none : (w : Wiring) (view : View) (n c x : ℕ) (xs : List state.ChainStep) (all : Option (List state.ChainStep)) → 0 < n
    → ((more : ℕ → ℕ → Option (List state.ChainStep)) → continued more NoPlan ≡ chain_here more w view c x)
    → option_map (λ ks. xs ++ ks) (chain_within n w view c x) ≡ all → None ≡ all
climb_none w view n c x xs all some says left = climbed w view n c x NoPlan xs some says ∙ left

-- the step of the top ends the chain
pub climb_last : (w : Wiring) (view : View) (n c x : ℕ) (xs : List state.ChainStep) (step : ChainStep) (all : Option (List state.ChainStep)) → 0 < n
    → ((more : ℕ → ℕ → Option (List state.ChainStep)) → continued more (Last step) ≡ chain_here more w view c x)
    → option_map (λ ks. xs ++ ks) (chain_within n w view c x) ≡ all → Some (xs ++ chain_of (step ∷ [])) ≡ all
climb_last w view n c x xs step all some says left = climbed w view n c x (Last step) xs some says ∙ left

-- behind another step the chain of the parent is left
pub climb_more : (w : Wiring) (view : View) (end level c x y : ℕ) (xs : List state.ChainStep) (step : ChainStep) (parent : ClockId) (all : Option (List state.ChainStep)) → level < end
    → ((more : ℕ → ℕ → Option (List state.ChainStep)) → continued more (More step parent y) ≡ chain_here more w view c x)
    → option_map (λ ks. xs ++ ks) (chain_within (end - level) w view c x) ≡ all
    → option_map (λ ks. (xs ++ chain_of (step ∷ [])) ++ ks) (chain_within (end - (level + 1)) w view parent.0 y) ≡ all
climb_more w view end level c x y xs step parent all less says left =
    let fewer : end - (level + 1) ≡ end - level - 1 = omega arith in
    ap (λ n. option_map (λ ks. (xs ++ chain_of (step ∷ [])) ++ ks) (chain_within n w view parent.0 y)) fewer
    ∙ moved (chain_within (end - level - 1) w view parent.0 y)
    ∙ climbed w view (end - level) c x (More step parent y) xs (omega arith) says ∙ left where
      moved : (o : Option (List state.ChainStep)) → option_map (λ ks. (xs ++ chain_of (step ∷ [])) ++ ks) o ≡ option_map (λ ks. xs ++ ks) (option_map (λ ks. step_of step ∷ ks) o)
      moved None = refl
      moved (Some ks) = ap (λ (ls : List state.ChainStep). Some ls) (append_assoc xs (step_of step ∷ []) ks)

-- ---- clocks that are registered

-- a step of the code is there as it is for the definitions
there_step : (clocks : List ClockRow) (s : ChainStep) → IsThere clocks s → StepIsThere clocks (step_of s)
there_step clocks s is = record { clock = is.clock; parent = parent_id s.parent is.parent } where
  parent_id : (o : Option ClockId) → IfSome o (λ p. registered clocks p.0 ≡ true) → IfSome (option_map (λ p. p.0) o) (λ p. registered clocks p ≡ true)
  parent_id None there = tt
  parent_id (Some p) there = there

step_there : (clocks : List ClockRow) (s : ChainStep) → StepIsThere clocks (step_of s) → IsThere clocks s
step_there clocks s is = record { clock = is.clock; parent = id_parent s.parent is.parent } where
  id_parent : (o : Option ClockId) → IfSome (option_map (λ p. p.0) o) (λ p. registered clocks p ≡ true) → IfSome o (λ p. registered clocks p.0 ≡ true)
  id_parent None there = tt
  id_parent (Some p) there = there

-- so are all steps of a chain
pub each_there : (clocks : List ClockRow) (steps : List ChainStep) → AllThere clocks (chain_of steps) → All (IsThere clocks) steps
each_there clocks [] all i d less = absurd (omega arith)
each_there clocks (s ∷ steps) all zero d less = step_there clocks s all.0
each_there clocks (s ∷ steps) all (suc i) d less = each_there clocks steps all.1 i d (omega arith)

-- also of a chain that is seen by the definitions alone
pub chain_there : (clocks : List ClockRow) (steps : List ChainStep) (ks : List state.ChainStep) → chain_of steps ≡ ks → AllThere clocks ks → All (IsThere clocks) steps
chain_there clocks steps ks is all = each_there clocks steps (subst (λ (ls : List state.ChainStep). AllThere clocks ls) (sym is) all)

-- and those of a chain with one more
pub there_more : (clocks : List ClockRow) (ks ls : List state.ChainStep) (s : ChainStep) → ls ≡ ks ++ chain_of (s ∷ []) → AllThere clocks ks → IsThere clocks s → AllThere clocks ls
there_more clocks ks ls s is all there = subst (λ (ms : List state.ChainStep). AllThere clocks ms) (sym is) (more ks all) where
  more : (ms : List state.ChainStep) → AllThere clocks ms → AllThere clocks (ms ++ chain_of (s ∷ []))
  more [] all' = (there_step clocks s there, tt)
  more (m ∷ ms) all' = (all'.0, more ms all'.1)
