-- Laws on changed clocks that bring the same notices.
use Rattle.std.proofs.Common.{◌≡◌, ℕ, Bool, true, false, not, cond, List, [], ◌∷◌, ◌++◌, Option, refl, sym, ap, ◌∙◌, arith, length}
use Rattle.std.specs.Prelude.{◌==◌, flat_map}
use Rattle.std.specs.List.{list_any}
use Rattle.std.proofs.lemmas.List.Concat.{length-flat_map}
use Rattle.clk_base.proofs.Mapped.{list_any-map}
use Rattle.clk_base.specs.declared.call.Micro.{Micro}
use Rattle.clk_base.specs.declared.call.Micro.TheVariants as micro
use Rattle.clk_model.specs.Notices.{is_veto}
use Rattle.clk_model.proofs.Members.{not_either, same_from_test}
use Rattle.clk_model.proofs.OutcomeLaws.{not_false}
use Rattle.clk_tree.specs.declared.plan.Plan.{Plan}
use Rattle.clk_tree.specs.declared.walk_rates.WalkRate.{WalkRate}
use Rattle.clk_tree.specs.Plans.{ClockRate, rates_of}
use Rattle.clk_tree.specs.TreeState.{TreeState}
use Rattle.notifiers.specs.declared.notifier.Notifier.{Notifier}
use Rattle.change_walk.specs.declared.changes.Changed.{Changed}
use Rattle.change_walk.specs.declared.changes.Passed.{Passed}
use Rattle.change_walk.specs.Changes.{back_to, changes, changed_to, changed_along}
use Rattle.change_walk.specs.Given.{settles}
use Rattle.change_walk.specs.Steps.{IsToldAs, steps_for, visits}
use Rattle.change_walk.specs.Tellings.{has_notifiers, notifiers_at, tell_before, tell_off}

-- ---- where no clock of a walk has a notifier

pub no_notifier : (ns : List Notifier) → not (length ns == 0) ≡ false → ns ≡ []
no_notifier [] none = refl
no_notifier (n ∷ ns) none = let same : length (n ∷ ns) ≡ 0 = same_from_test (length (n ∷ ns)) 0 (not_false (length (n ∷ ns) == 0) none) in absurd (omega arith)

-- what is made of notifiers alone is nothing there
none_made : {Y : Type 0} (f : Changed → List Notifier → List Y) → ((x : Changed) → f x [] ≡ []) → (lists : List (List Notifier)) (up : ℕ → Option ℕ) (before : ℕ → ℕ) (passed : List Passed) (rates : List WalkRate)
    → list_any (λ r. has_notifiers lists r.clock.0) rates ≡ false → flat_map (λ x. f x (notifiers_at lists x)) (changed_along up before passed (rates_of rates)) ≡ []
none_made f none lists up before passed [] out = refl
none_made {Y} f none lists up before passed (r ∷ rates) out =
    let parts = not_either (has_notifiers lists r.clock.0) (list_any (λ (s : WalkRate). has_notifiers lists s.clock.0) rates) out in
    let found : ClockRate = record { clock = r.clock.0; rate = r.rate } in
    let above : List Passed = back_to (up r.clock.0) passed in
    let x : Changed = changed_to before found in
    one x (changes before above found) _ (ap (f x) (no_notifier (notifiers_at lists x) parts.0) ∙ none x)
    (none_made f none lists up before (record { clock = r.clock; changes = changes before above found } ∷ above) rates parts.1) where
      one : (x : Changed) (t : Bool) (more : List Changed) → f x (notifiers_at lists x) ≡ [] → flat_map (λ y. f y (notifiers_at lists y)) more ≡ []
          → flat_map (λ y. f y (notifiers_at lists y)) (cond t (x ∷ []) [] ++ more) ≡ []
      one x true more here rest = ap (λ (ys : List Y). ys ++ flat_map (λ y. f y (notifiers_at lists y)) more) here ∙ rest
      one x false more here rest = rest

-- so the changed clocks bring what no clock brings
pub none_told : (lists : List (List Notifier)) (up : ℕ → Option ℕ) (before : ℕ → ℕ) (rates : List WalkRate) → list_any (λ r. has_notifiers lists r.clock.0) rates ≡ false
    → IsToldAs lists [] (changed_along up before [] (rates_of rates))
none_told lists up before rates out =
    let xs : List Changed = changed_along up before [] (rates_of rates) in
    record {
      before = sym (none_made tell_before (λ x. refl) lists up before [] rates out);
      off = sym (none_made tell_off (λ x. refl) lists up before [] rates out);
      count = sym (sym (length-flat_map (notifiers_at lists) xs) ∙ ap length (none_made (λ x ns. ns) (λ x. refl) lists up before [] rates out));
    }

-- the clocks of a walk in code have a notifier where those of its plan have one
pub walked_tell : (lists : List (List Notifier)) (rates : List WalkRate) → list_any (λ r. has_notifiers lists r.clock.0) rates ≡ list_any (λ r. has_notifiers lists r.clock) (rates_of rates)
walked_tell lists rates = sym (list_any-map (λ (r : ClockRate). has_notifiers lists r.clock) (λ (w : WalkRate). record { clock = w.clock.0; rate = w.rate }) rates)

-- ---- the steps

-- changed clocks that bring the same notices have the same steps
pub steps_alike : (t : TreeState) (prepared : ℕ → Bool) (lists : List (List Notifier)) (plan : Plan) (xs ys : List Changed) → IsToldAs lists xs ys
    → steps_for t prepared lists plan xs ≡ steps_for t prepared lists plan ys
steps_alike t prepared lists plan xs ys alike =
    let rest : List Micro = visits t.defs t.clocks prepared plan.chain plan.rates ++ settles plan.set_parent plan.chain in
    let whole : List Micro → List Micro → List Micro = λ told off. told ++ cond (list_any is_veto told) off rest ++ micro.End ∷ [] in
    ap (λ ms. whole ms (flat_map (λ x. tell_off x (notifiers_at lists x)) xs)) alike.before
    ∙ ap (whole (flat_map (λ x. tell_before x (notifiers_at lists x)) ys)) alike.off
