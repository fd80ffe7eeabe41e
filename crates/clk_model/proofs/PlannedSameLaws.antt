-- Laws on states that differ in the enable tier's part alone: who is held is the same, and so are the changes that planned chains give.
use Rattle.std.proofs.Common.{◌≡◌, ℕ, Bool, not, ◌&&◌, List, [], ◌∷◌, ◌++◌, Option, refl, ap, ◌∙◌, map, length}
use mathlib.Core.Path.{fun_ext}
use Rattle.std.specs.Prelude.{filter, flat_map, fold, min, max, if◌then◌else◌, ◌==◌}
use Rattle.std.specs.List.{AllByRecursion, list_any}
use Rattle.clk_base.specs.declared.call.Micro.{Micro}
use Rattle.clk_base.specs.declared.call.Micro.TheVariants as micro
use Rattle.clk_base.specs.declared.call.Sleeping.{Sleeping}
use Rattle.clk_base.specs.Description.{Description}
use Rattle.clk_base.specs.Flags.{sets_rate_gate}
use Rattle.clk_base.specs.Levels.{depth}
use Rattle.clk_base.specs.Valid.{IsValid}
use Rattle.reg_bank.specs.Registers.{Registers}
use Rattle.clk_model.specs.declared.row.ClockRow.{ClockRow}
use Rattle.clk_model.specs.declared.row.HandleRow.{HandleRow}
use Rattle.clk_model.specs.Lists.{count_from, is_in}
use Rattle.clk_model.specs.State.{State, Change, ChainStep}
use Rattle.clk_model.specs.Tree.{path}
use Rattle.clk_model.specs.Rate.{rate}
use Rattle.clk_model.specs.Holders.{clocks_of, is_prepared, is_exclusive, critical_clocks, prepare_holders, is_held, protect_holders}
use Rattle.clk_model.specs.Round.{Wiring, View, most_rate, rate_in}
use Rattle.clk_model.specs.Chain.{outcome}
use Rattle.clk_model.specs.Walk.{top_of, kids_after, below_within, walk, changing, rates_in}
use Rattle.clk_model.specs.Notices.{Rates, is_veto, pre_list, abort_list}
use Rattle.clk_model.specs.Views.{view, free_view, cut_at}
use Rattle.clk_model.specs.Script.{Planned, visit_of, move_of, planned}
use Rattle.clk_model.specs.Begin.{change_of, change_along}
use Rattle.clk_model.proofs.BareHandleLaws.{bare, values_same}
use Rattle.clk_model.proofs.SameRateLaws.{tree_over}
use Rattle.clk_model.proofs.SameSettingLaws.{SameFields, rates_same, tree_rates, IsPossible, outcome_same}

-- ---- states

-- what the enable tier writes of a state besides registers and handles, with the change in flight
pub record Rest : Type 0 where
  pub enable_holds : List ℕ
  pub change : Option Change
  pub spent : ℕ
  pub steps : ℕ

-- a state with these registers and handles, and the rest of the enable tier's part
abbrev pub beside : State → Registers → List (Option HandleRow) → Rest → State
beside s regs handles x =
    record s { regs = regs; handles = handles; enable_holds = x.enable_holds; change = x.change; spent = x.spent; steps = x.steps }

-- ---- holders

clocks_same : (test : HandleRow → Bool) (old new : List (Option HandleRow)) → ((h : HandleRow) → test (record h { enables = 0 }) ≡ test h) → bare new ≡ bare old
    → clocks_of test new ≡ clocks_of test old
clocks_same test old new tests same = values_same (λ h. h.clock.0) test old new (λ h. refl) tests same

pub preparers_same : (s : State) (old new : Registers) (before after : List (Option HandleRow)) (x y : Rest) → bare after ≡ bare before
    → prepare_holders (beside s new after y) ≡ prepare_holders (beside s old before x)
preparers_same s old new before after x y same =
    ap (λ (cs : List ℕ). cs ++ critical_clocks s ++ s.prepare_holds) (clocks_same is_prepared before after (λ h. refl) same)

pub protectors_same : (s : State) (old new : Registers) (before after : List (Option HandleRow)) (x y : Rest) → bare after ≡ bare before
    → protect_holders (beside s new after y) ≡ protect_holders (beside s old before x)
protectors_same s old new before after x y same =
    ap (λ (cs : List ℕ). cs ++ filter (λ c. sets_rate_gate s.defs c && is_held s.clocks (prepare_holders (beside s new after y)) c) (count_from 0 (length s.defs)))
    (clocks_same is_exclusive before after (λ h. refl) same)
    ∙ ap (λ (hs : List ℕ). clocks_of is_exclusive before ++ filter (λ c. sets_rate_gate s.defs c && is_held s.clocks hs c) (count_from 0 (length s.defs)))
    (preparers_same s old new before after x y same)

-- planning sees the same of the states, also where a clock is free
low_same : (s : State) (old new : Registers) (before after : List (Option HandleRow)) (x y : Rest) → bare after ≡ bare before
    → (view (beside s new after y)).low ≡ (view (beside s old before x)).low
low_same s old new before after x y same =
    fun_ext (λ c. ap (λ (rates : List ℕ). fold max 0 rates) (values_same (λ h. h.min) (λ h. h.clock.0 == c) before after (λ h. refl) (λ h. refl) same))

high_same : (s : State) (old new : Registers) (before after : List (Option HandleRow)) (x y : Rest) → bare after ≡ bare before
    → (view (beside s new after y)).high ≡ (view (beside s old before x)).high
high_same s old new before after x y same =
    fun_ext (λ c. ap (λ (rates : List ℕ). fold min most_rate rates) (values_same (λ h. h.max) (λ h. h.clock.0 == c) before after (λ h. refl) (λ h. refl) same))

pub view_same : (s : State) (old new : Registers) (before after : List (Option HandleRow)) (x y : Rest) → bare after ≡ bare before
    → view (beside s new after y) ≡ view (beside s old before x)
view_same s old new before after x y same =
    let now : View = view (beside s new after y) in
    ap (λ (f : ℕ → ℕ). let v : View = record now { low = f } in v) (low_same s old new before after x y same)
    ∙ ap (λ (f : ℕ → ℕ). let v : View = record now { low = (view (beside s old before x)).low; high = f } in v) (high_same s old new before after x y same)
    ∙ ap (λ (hs : List ℕ). let v : View = record (view (beside s old before x)) { guarded = is_held s.clocks hs; prepared = now.prepared } in v) (protectors_same s old new before after x y same)
    ∙ ap (λ (hs : List ℕ). let v : View = record (view (beside s old before x)) { prepared = is_held s.clocks hs } in v) (preparers_same s old new before after x y same)

pub free_same : (s : State) (old new : Registers) (before after : List (Option HandleRow)) (x y : Rest) (c : ℕ) → bare after ≡ bare before
    → free_view (beside s new after y) c ≡ free_view (beside s old before x) c
free_same s old new before after x y c same =
    ap (λ (v : View). let u : View = record v { guarded = (free_view (beside s new after y) c).guarded } in u) (view_same s old new before after x y same)
    ∙ ap (λ (hs : List ℕ). let u : View = record (view (beside s old before x)) { guarded = λ a. list_any (λ h. is_in a (cut_at c (path s.clocks h))) hs } in u)
    (protectors_same s old new before after x y same)

-- ---- what a planned chain gives

walk_same : (order : List ℕ) (defs : Description) (clocks : List ClockRow) (old new : Registers) (ks : List ChainStep) → walk order (tree_over defs clocks new) ks ≡ walk order (tree_over defs clocks old) ks
unfolding walk
walk_same order defs clocks old new ks = refl

-- the clocks whose rate a plan changes, by the rates before and after it
abbrev changing_by : List ℕ → List ClockRow → List ChainStep → (ℕ → ℕ) → (ℕ → ℕ) → List ℕ
changing_by order clocks ks before after =
    if not (after (top_of ks) == before (top_of ks))
    then below_within (λ p. filter (λ c. not (after c == before c)) (kids_after order clocks ks p)) depth (top_of ks)
    else []

changing_same : (order : List ℕ) (defs : Description) (clocks : List ClockRow) (old new : Registers) (ks : List ChainStep) → rate defs new clocks ≡ rate defs old clocks
    → rate_in (outcome ks (tree_over defs clocks new)) ≡ rate_in (outcome ks (tree_over defs clocks old))
    → changing order (tree_over defs clocks new) ks ≡ changing order (tree_over defs clocks old) ks
unfolding changing
changing_same order defs clocks old new ks now out =
    ap (λ (before : ℕ → ℕ). changing_by order clocks ks before (rate_in (outcome ks (tree_over defs clocks new)))) now
    ∙ ap (λ (after : ℕ → ℕ). changing_by order clocks ks (rate defs old clocks) after) out

-- what a plan comes to, by what it reads
abbrev planned_by : State → List ChainStep → List Micro → Rates → List ℕ → List ℕ → List ℕ → Planned
planned_by s ks settles rates clocks line holders = record {
  steps = pre_list rates s.notifiers clocks
      ++ (if list_any is_veto (pre_list rates s.notifiers clocks) then abort_list rates s.notifiers clocks
      else flat_map (λ c. move_of s.defs s.clocks (is_held s.clocks holders) ks c ++ visit_of s.defs s.clocks ks c) line ++ settles)
      ++ micro.End ∷ [];
  vetoed = list_any is_veto (pre_list rates s.notifiers clocks);
  changing = clocks;
  outcome = rates.outcome;
}

list_rates : (v w : Wiring) → v.defs ≡ w.defs → rate_in v ≡ rate_in w → rates_in v ≡ rates_in w
list_rates v w defs same =
    ap (λ (ds : Description). map (rate_in v) (count_from 0 (length ds))) defs
    ∙ ap (λ (rates : ℕ → ℕ). map rates (count_from 0 (length w.defs))) same

-- what two states need for the same plan to come to the same in both
pub record SameHere (s : State) (old new : Registers) (before after : List (Option HandleRow)) : Type 0 where
  pub valid : IsValid (length old) s.defs
  pub regs : SameFields s.defs old new
  pub handles : bare after ≡ bare before

-- a chain of possible parents comes to the same
planned_same : (s : State) (old new : Registers) (before after : List (Option HandleRow)) (x y : Rest) (ks : List ChainStep) (settles : List Micro) → SameHere s old new before after
    → AllByRecursion (IsPossible s.defs) ks → planned (beside s new after y) ks settles ≡ planned (beside s old before x) ks settles
unfolding planned
planned_same s old new before after x y ks settles here possible =
    let v : Wiring = tree_over s.defs s.clocks new in
    let w : Wiring = tree_over s.defs s.clocks old in
    let now = rates_same s.defs s.clocks old new here.regs in
    let trees = outcome_same (length old) ks v w here.valid possible (record { defs = refl; clocks = refl; regs = here.regs }) in
    let out = tree_rates (outcome ks v) (outcome ks w) trees in
    let holders = prepare_holders (beside s new after y) in
    ap (λ (rates : List ℕ). planned_by s ks settles (record { before = rates; outcome = rates_in (outcome ks v) }) (changing s.order v ks) (walk s.order v ks) holders) (list_rates v w refl now)
    ∙ ap (λ (rates : List ℕ). planned_by s ks settles (record { before = rates_in w; outcome = rates }) (changing s.order v ks) (walk s.order v ks) holders)
    (list_rates (outcome ks v) (outcome ks w) trees.defs out)
    ∙ ap (λ (cs : List ℕ). planned_by s ks settles (record { before = rates_in w; outcome = rates_in (outcome ks w) }) cs (walk s.order v ks) holders) (changing_same s.order s.defs s.clocks old new ks now out)
    ∙ ap (λ (cs : List ℕ). planned_by s ks settles (record { before = rates_in w; outcome = rates_in (outcome ks w) }) (changing s.order w ks) cs holders) (walk_same s.order s.defs s.clocks old new ks)
    ∙ ap (λ (hs : List ℕ). planned_by s ks settles (record { before = rates_in w; outcome = rates_in (outcome ks w) }) (changing s.order w ks) (walk s.order w ks) hs)
    (preparers_same s old new before after x y here.handles)

-- and so does its change
pub along_same : (s : State) (old new : Registers) (before after : List (Option HandleRow)) (x y : Rest) (d : ℕ) (what : Sleeping) (ks : List ChainStep) (settles : List Micro) (range : Option (ℕ × ℕ))
    → SameHere s old new before after → AllByRecursion (IsPossible s.defs) ks
    → change_along (beside s new after y) d what ks settles range ≡ change_along (beside s old before x) d what ks settles range
along_same s old new before after x y d what ks settles range here possible =
    let v : Wiring = tree_over s.defs s.clocks new in
    let w : Wiring = tree_over s.defs s.clocks old in
    let made : Planned → List ℕ → Change = (λ p rates. record (change_of (beside s old before x) d what p.steps) {
      before = rates;
      chain = ks;
      changing = p.changing;
      outcome = p.outcome;
      vetoed = p.vetoed;
      range = range;
    }) in
    ap (λ (p : Planned). made p (rates_in v)) (planned_same s old new before after x y ks settles here possible)
    ∙ ap (λ (rates : List ℕ). made (planned (beside s old before x) ks settles) rates) (list_rates v w refl (rates_same s.defs s.clocks old new here.regs))
