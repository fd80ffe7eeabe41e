-- Laws on scripts without a notice and without a PLL: each step weighs one.
use Rattle.std.proofs.Common.{◌≡◌, ℕ, ◌+◌, ◌-◌, ◌^◌, ◌≤◌, min, ◌||◌, Bool, true, false, List, [], ◌∷◌, ◌++◌, Option, Some, None, refl, sym, ap, ◌∙◌, arith, length}
use Rattle.std.specs.Prelude.{◌==◌, ◌&&◌, filter, slice_index_or, sum_by}
use Rattle.std.specs.List.{list_any}
use Rattle.std.specs.Option.{option_map_or}
use Rattle.std.proofs.lemmas.List.Sums.{sum_by-cons}
use Rattle.clk_base.specs.declared.call.Micro.{Micro}
use Rattle.clk_base.specs.declared.call.Micro.TheVariants as micro
use Rattle.clk_base.specs.Description.{Description}
use Rattle.clk_base.specs.Flags.{runs_parent}
use Rattle.clk_model.specs.declared.row.ClockRow.{ClockRow}
use Rattle.clk_model.specs.Chain.{clock_id, moves}
use Rattle.clk_model.specs.Script.{fed_step, move, move_of, runs_for, unfeed, visit_of}
use Rattle.clk_model.specs.State.{ChainStep, link_in}
use Rattle.clk_model.proofs.Members.{not_either}
use Rattle.clk_model.proofs.NoneLaws.{none_append, none_flat_map, none_if}
use Rattle.clk_tree.specs.declared.plan.Plan.{Plan}
use Rattle.clk_tree.specs.Plans.{ClockRate}
use Rattle.clk_tree.specs.TreeState.{TreeState}
use Rattle.notifiers.specs.declared.notifier.Notifier.{Notifier}
use Rattle.change_walk.specs.declared.changes.Changed.{Changed}
use Rattle.change_walk.specs.Given.{settles}
use Rattle.change_walk.specs.Steps.{steps_for, visits}
use Rattle.change_walk.specs.Tellings.{has_notifiers}
use Rattle.change_walk.specs.Weights.{brings_notices, step_weight}
use Rattle.change_walk.proofs.Alike.{no_notifier}

-- ---- what a step weighs

one_weighs : (lists : List (List Notifier)) (m : Micro) → brings_notices lists m ≡ false → step_weight 0 lists m ≡ 1
one_weighs lists (micro.Raise x) none = refl
one_weighs lists (micro.Lower x) none = refl
one_weighs lists (micro.Visit c) none = ap (λ (ns : List Notifier). 1 + length ns) (no_notifier (slice_index_or lists c.0 []) none)
one_weighs lists (micro.Notify kind c id old new) none = refl
one_weighs lists (micro.Poll y) none = refl
one_weighs lists (micro.Fall y) none = refl
one_weighs lists (micro.HoldPrepare x) none = refl
one_weighs lists (micro.HoldEnable x) none = refl
one_weighs lists (micro.Relink c p) none = refl
one_weighs lists (micro.WriteMux c place) none = refl
one_weighs lists (micro.DropEnable x) none = refl
one_weighs lists (micro.DropPrepare x) none = refl
one_weighs lists (micro.Register c) none = refl
one_weighs lists (micro.Settle c) none = refl
one_weighs lists (micro.Close c) none = refl
one_weighs lists (micro.Unpower c) none = refl
one_weighs lists micro.End none = refl

-- so steps weigh as much as there are
each_weighs : (lists : List (List Notifier)) (ms : List Micro) → list_any (brings_notices lists) ms ≡ false → sum_by (step_weight 0 lists) ms ≡ length ms
each_weighs lists [] none = refl
each_weighs lists (m ∷ ms) none =
    let parts = not_either (brings_notices lists m) (list_any (brings_notices lists) ms) none in
    let one_more : 1 + length ms ≡ length (m ∷ ms) = omega arith in
    sum_by-cons (step_weight 0 lists) m ms
    ∙ ap (λ (n : ℕ). n + sum_by (step_weight 0 lists) ms) (one_weighs lists m parts.0)
    ∙ ap (λ (n : ℕ). 1 + n) (each_weighs lists ms parts.1)
    ∙ one_more

-- and what they weigh fits in 64 bits, as their number does
pub number_weighs : (lists : List (List Notifier)) (k : ℕ) (ms : List Micro) → k ≡ 0 → list_any (brings_notices lists) ms ≡ false → length ms ≤ 2 ^ 64 - 1
    → length ms ≡ min (sum_by (step_weight k lists) ms) (2 ^ 64 - 1)
number_weighs lists k ms no_pll none small =
    within (length ms) (2 ^ 64 - 1) small
    ∙ ap (λ (n : ℕ). min n (2 ^ 64 - 1)) (sym (each_weighs lists ms none))
    ∙ ap (λ (n : ℕ). min (sum_by (step_weight n lists) ms) (2 ^ 64 - 1)) (sym no_pll) where
      within : (a b : ℕ) → a ≤ b → a ≡ min a b
      within a b less = omega arith

-- ---- the steps of a walk

-- a move visits no clock
move_plain : (lists : List (List Notifier)) (defs : Description) (clocks : List ClockRow) (held : ℕ → Bool) (c : ℕ) (parent : Option ℕ)
    → list_any (brings_notices lists) (option_map_or (move defs clocks held c) parent []) ≡ false
move_plain lists defs clocks held c None = refl
move_plain lists defs clocks held c (Some p) =
    none_if (brings_notices lists) (held c) _ _ (dropped (link_in clocks c))
    (none_if (brings_notices lists) (runs_parent defs c) _ _ (let_go (link_in clocks c)) refl) where
      dropped : (o : Option ℕ) → list_any (brings_notices lists) (option_map_or unfeed o []) ≡ false
      dropped None = refl
      dropped (Some q) = refl

      let_go : (o : Option ℕ) → list_any (brings_notices lists) (option_map_or unfeed o [] ++ unfeed c) ≡ false
      let_go None = refl
      let_go (Some q) = refl

-- a visit brings notices only of its own clock
visit_plain : (lists : List (List Notifier)) (defs : Description) (clocks : List ClockRow) (ks : List ChainStep) (c : ℕ) → has_notifiers lists c ≡ false
    → list_any (brings_notices lists) (visit_of defs clocks ks c) ≡ false
visit_plain lists defs clocks ks c none = one (runs_for defs clocks ks c) where
  one : (o : Option ℕ) → list_any (brings_notices lists) (fed_step o (micro.Visit (clock_id c))) ≡ false
  one None = ap (λ (t : Bool). t || false) none
  one (Some x) = ap (λ (t : Bool). t || false) none

visits_plain : (lists : List (List Notifier)) (defs : Description) (clocks : List ClockRow) (held : ℕ → Bool) (ks : List ChainStep) (rates : List ClockRate)
    → list_any (λ r. has_notifiers lists r.clock) rates ≡ false → list_any (brings_notices lists) (visits defs clocks held ks rates) ≡ false
visits_plain lists defs clocks held ks [] none = refl
visits_plain lists defs clocks held ks (r ∷ rates) none =
    let parts = not_either (has_notifiers lists r.clock) (list_any (λ (q : ClockRate). has_notifiers lists q.clock) rates) none in
    none_append (brings_notices lists) (move_of defs clocks held ks r.clock ++ visit_of defs clocks ks r.clock) (visits defs clocks held ks rates)
    (none_append (brings_notices lists) (move_of defs clocks held ks r.clock) (visit_of defs clocks ks r.clock)
    (none_flat_map (brings_notices lists) (λ (k : ChainStep). option_map_or (move defs clocks held r.clock) k.parent []) (filter (λ k. (k.clock == r.clock) && moves clocks k) ks)
    (λ k. move_plain lists defs clocks held r.clock k.parent))
    (visit_plain lists defs clocks ks r.clock parts.0))
    (visits_plain lists defs clocks held ks rates parts.1)

settled_plain : (lists : List (List Notifier)) (set_parent : Bool) (ks : List ChainStep) → list_any (brings_notices lists) (settles set_parent ks) ≡ false
settled_plain lists true [] = refl
settled_plain lists true (k ∷ ks) = refl
settled_plain lists false ks = refl

-- where no clock of a walk has a notifier and none is told, no step visits a clock with one
pub steps_plain : (lists : List (List Notifier)) (t : TreeState) (held : ℕ → Bool) (plan : Plan) (ms : List Micro) (xs : List Changed) → ms ≡ steps_for t held lists plan xs → xs ≡ []
    → list_any (λ r. has_notifiers lists r.clock) plan.rates ≡ false → list_any (brings_notices lists) ms ≡ false
steps_plain lists t held plan ms xs made untold none =
    ap (list_any (brings_notices lists)) made
    ∙ ap (λ (ys : List Changed). list_any (brings_notices lists) (steps_for t held lists plan ys)) untold
    ∙ none_append (brings_notices lists) (visits t.defs t.clocks held plan.chain plan.rates ++ settles plan.set_parent plan.chain) (micro.End ∷ [])
    (none_append (brings_notices lists) (visits t.defs t.clocks held plan.chain plan.rates) (settles plan.set_parent plan.chain)
    (visits_plain lists t.defs t.clocks held plan.chain plan.rates none)
    (settled_plain lists plan.set_parent plan.chain))
    refl
