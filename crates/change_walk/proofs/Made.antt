-- What a script is made of, and that it is the script of the definitions where the view tells what a state holds prepared.
use Rattle.std.proofs.Common.{◌≡◌, ℕ, ◌+◌, ◌-◌, ◌^◌, ◌≤◌, min, Bool, true, false, ◌&&◌, cond, List, refl, sym, ap, subst, ◌∙◌, arith}
use Rattle.std.specs.Prelude.{flat_map, sum_by}
use Rattle.std.specs.List.{list_any}
use Rattle.clk_base.specs.declared.call.Micro.{Micro}
use Rattle.clk_base.specs.Valid.{IsValid}
use Rattle.clk_model.specs.Notices.{is_veto}
use Rattle.clk_model.specs.Round.{wiring}
use Rattle.clk_model.specs.Script.{is_raise, planned, plls, weight}
use Rattle.clk_model.specs.State.{State}
use Rattle.clk_model.specs.Walk.{changing}
use Rattle.clk_tree.specs.Plans.{AreThere}
use Rattle.clk_tree.specs.TreeState.{IsTree, TreeState}
use Rattle.clk_tree.specs.declared.plan.Plan.{Plan}
use Rattle.notifiers.specs.declared.notifier.Notifier.{Notifier}
use Rattle.notifiers.specs.Chains.{AreChains}
use Rattle.notifiers.proofs.Kept.{few_told}
use Rattle.change_walk.specs.declared.changes.Changed.{Changed}
use Rattle.change_walk.specs.Given.{IsOf, IsPlanFor, OfPlan, Script, all_changed, extra_of, planned_by, weight_of}
use Rattle.change_walk.specs.Steps.{IsMadeOf, brought_by, changed_by, steps_for, weighed_with}
use Rattle.change_walk.specs.Tellings.{notifiers_at, tell_before}
use Rattle.change_walk.proofs.Weighing.{HasFewNotifiers, brought_whole, notices_count, steps_weigh, weighed_whole}
use Rattle.change_walk.proofs.Whole.{Fits, changed_are, made_over, steps_are, steps_over, vetoed_is}

-- ---- numbers that are cut

-- what is brought or nothing is cut as one number
pub cut_either : (t : Bool) (n most : ℕ) → cond t (min n most) 0 ≡ min (cond t n 0) most
cut_either true n most = refl
cut_either false n most = omega arith

-- what is cut is cut once
pub cut_once : (a e most : ℕ) → min (min a most + e) most ≡ min (a + e) most
cut_once a e most = omega arith

uncut : (n m most : ℕ) → n ≡ min m most → m ≤ most → n ≡ m
uncut n m most is less = omega arith

-- ---- of any plan and any view

-- what is given with a script
pub record IsGivenWith (words : ℕ) (t : TreeState) (lists : List (List Notifier)) (plan : Plan) : Type 0 where
  pub stands : IsTree t.defs t.clocks t.order t.rates
  pub valid : IsValid words t.defs
  pub there : AreThere t.clocks plan.rates
  pub chains : AreChains lists

module _ {words : ℕ} {t : TreeState} {lists : List (List Notifier)} {plan : Plan} (given : IsGivenWith words t lists plan) where
  fitting : (s : State) → IsOf s t lists → IsPlanFor s plan → Fits words s t lists plan
  fitting s is plans = record { told = is; planned = plans; stands = given.stands; valid = given.valid; there = given.there }

  few : (s : State) → IsOf s t lists → HasFewNotifiers s
  few s is = few_told lists s.notifiers given.chains is.notifiers

  changing_are : (s : State) → IsOf s t lists → IsPlanFor s plan → changed_by t plan ≡ all_changed s plan.chain
  changing_are s is plans = changed_are s t lists plan (record { told = is; planned = plans; stands = given.stands; there = given.there })

  brought_small : (s : State) → IsOf s t lists → IsPlanFor s plan → (steps : List Micro) → brought_by lists plan (changed_by t plan) steps ≤ 16777216
  brought_small s is plans steps =
      subst (λ (xs : List Changed). brought_by lists plan xs steps ≤ 16777216) (sym (changing_are s is plans)) (brought_whole words s t lists plan (fitting s is plans) (few s is) steps)

  -- a script is made of a plan, if its parts are
  pub is_made : (held : ℕ → Bool) (script : Script) → script.steps ≡ steps_for t held lists plan (changed_by t plan)
      → script.vetoed ≡ list_any is_veto (flat_map (λ x. tell_before x (notifiers_at lists x)) (changed_by t plan))
      → script.extra ≡ min (brought_by lists plan (changed_by t plan) script.steps) (2 ^ 64 - 1)
      → script.weight ≡ min (weighed_with t lists script.steps script.extra) (2 ^ 64 - 1)
      → IsMadeOf t held lists plan script
  is_made held script steps vetoed extra weight = record {
    steps = steps;
    vetoed = vetoed;
    extra = extra;
    weight = weight;
    changing = changing_are;
    extra_whole = extra_is;
    weight_whole = λ s is plans.
        let brought = brought_small s is plans script.steps in
        let small = extra_is s is plans in
        let over : script.steps ≡ steps_over s held plan =
        steps ∙ ap (steps_for t held lists plan) (changing_are s is plans) ∙ made_over words s t lists plan (fitting s is plans) held in
        let fits = subst (λ (ms : List Micro). weighed_with t lists ms script.extra ≤ 67108866) (sym over)
        (weighed_whole words s t lists plan (fitting s is plans) (few s is) held script.extra (omega arith)) in
        uncut script.weight (weighed_with t lists script.steps script.extra) (2 ^ 64 - 1) weight (omega arith);
  } where
    extra_is : (s : State) → IsOf s t lists → IsPlanFor s plan → script.extra ≡ brought_by lists plan (changed_by t plan) script.steps
    extra_is s is plans =
        let small = brought_small s is plans script.steps in
        uncut script.extra (brought_by lists plan (changed_by t plan) script.steps) (2 ^ 64 - 1) extra (omega arith)

  -- ---- of a view that tells what a state holds prepared

  module _ {held : ℕ → Bool} {script : Script} (made : IsMadeOf t held lists plan script) where
    pub told_steps : OfPlan t held lists plan (λ s. script.steps ≡ (planned_by s plan).steps)
    told_steps s told plans =
        made.steps ∙ ap (steps_for t held lists plan) (changing_are s told.is plans) ∙ steps_are words s t lists plan (fitting s told.is plans) held told.prepared

    pub told_vetoed : OfPlan t held lists plan (λ s. script.vetoed ≡ (planned_by s plan).vetoed)
    told_vetoed s told plans =
        made.vetoed
        ∙ ap (λ (xs : List Changed). list_any is_veto (flat_map (λ x. tell_before x (notifiers_at lists x)) xs)) (changing_are s told.is plans)
        ∙ vetoed_is words s t lists plan (fitting s told.is plans)

    pub told_extra : OfPlan t held lists plan (λ s. script.extra ≡ extra_of s plan)
    unfolding planned
    told_extra s told plans =
        made.extra_whole s told.is plans
        ∙ ap (λ (xs : List Changed). brought_by lists plan xs script.steps) (changing_are s told.is plans)
        ∙ ap (λ (ms : List Micro). brought_by lists plan (all_changed s plan.chain) ms) (told_steps s told plans)
        ∙ ap (λ (n : ℕ). cond (plan.set_parent && list_any is_raise (planned_by s plan).steps) n 0) (notices_count s plan.chain lists told.is.notifiers (changing s.order (wiring s) plan.chain))

    pub told_weight : OfPlan t held lists plan (λ s. script.weight ≡ weight_of s plan)
    told_weight s told plans =
        made.weight_whole s told.is plans
        ∙ ap (λ (ms : List Micro). weighed_with t lists ms script.extra) (told_steps s told plans)
        ∙ ap (λ (n : ℕ). n + script.extra) (steps_weigh s (plls t.defs) lists (planned_by s plan).steps (ap plls (sym told.is.defs)) told.is.notifiers)
        ∙ ap (λ (n : ℕ). sum_by (weight s) (planned_by s plan).steps + n) (told_extra s told plans)
