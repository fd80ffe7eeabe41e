-- Which plans are ones for a state: for the caller of planning.
use Rattle.std.proofs.Common.{◌≡◌, ℕ, true, [], ◌∷◌, Some, refl, sym, subst}
use Rattle.clk_base.specs.Description.{parents_of}
use Rattle.clk_model.specs.Chain.{chain}
use Rattle.clk_model.specs.Laws.Plans.{LeadsFrom, HasParent}
use Rattle.clk_model.specs.Lists.{is_in}
use Rattle.clk_model.specs.Round.{View, Wiring, wiring}
use Rattle.clk_model.specs.State.{State, ChainStep}
use Rattle.clk_model.specs.Wired.{LinesEnd, LinksArePossible}
use Rattle.clk_model.proofs.PlanLaws.{chains_lead}
use Rattle.clk_tree.specs.declared.plan.Plan.{Plan}
use Rattle.change_walk.specs.Given.{IsPlanFor, walked}

-- the plan of a request for a rate, where its chain is the planned one and its rates are those of the walk
pub request_fits : (s : State) (view : View) (c x : ℕ) (plan : Plan) → LinesEnd s.defs → LinksArePossible s.defs s.clocks → chain (wiring s) view c x ≡ Some plan.chain
    → plan.rates ≡ walked s.order (wiring s) plan.chain → IsPlanFor s plan
request_fits s view c x plan ends links planned rates = record {
  clock = c;
  leads = (chains_lead (wiring s) view c x plan.chain ends links planned).leads;
  rates = rates;
}

same_parent : (p q : ℕ) → Some p ≡ Some q → p ≡ q
same_parent p q e = cc

-- a clock with a possible parent leads upwards by itself
pub alone_leads : (w : Wiring) (c p rate : ℕ) → is_in p (parents_of w.defs c) ≡ true → LeadsFrom w c (record { clock = c; rate = rate; parent = Some p } ∷ [])
alone_leads w c p rate possible =
    let step : ChainStep = record { clock = c; rate = rate; parent = Some p } in
    let has : HasParent w step = record { possible = λ q is. subst (λ (r : ℕ). is_in r (parents_of w.defs c) ≡ true) (same_parent p q is) possible; none = λ is. absurd cc } in
    record { first = refl; leads = tt; parents = (has, tt); once = refl }

-- the plan of a change of parent, where its chain is the clock alone with a possible parent
pub parent_fits : (s : State) (c p rate : ℕ) (plan : Plan) → is_in p (parents_of s.defs c) ≡ true → plan.chain ≡ record { clock = c; rate = rate; parent = Some p } ∷ []
    → plan.rates ≡ walked s.order (wiring s) plan.chain → IsPlanFor s plan
parent_fits s c p rate plan possible alone rates = record {
  clock = c;
  leads = subst (LeadsFrom (wiring s) c) (sym alone) (alone_leads (wiring s) c p rate possible);
  rates = rates;
}
