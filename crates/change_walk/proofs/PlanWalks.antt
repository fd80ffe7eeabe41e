-- Laws on the walk of a plan: what is found along it are the changing clocks of the definitions.
use Rattle.std.proofs.Common.{◌≡◌, ℕ, Bool, true, false, not, ◌&&◌, cond, List, [], ◌∷◌, ◌++◌, map, Option, Some, refl, sym, ap, ◌∙◌, inl, inr, nat_eq}
use Rattle.std.specs.Prelude.{◌==◌, filter, flat_map}
use Rattle.std.specs.List.{AllByRecursion}
use Rattle.clk_base.specs.Description.{parents_of}
use Rattle.clk_base.specs.Levels.{depth, ends_within}
use Rattle.clk_model.specs.declared.row.ClockRow.{ClockRow}
use Rattle.clk_model.specs.Chain.{clock_id, moves, outcome}
use Rattle.clk_model.specs.Laws.Plans.{HasParent, LeadsFrom, clocks_in}
use Rattle.clk_model.specs.Lists.{is_at, is_in, none_twice}
use Rattle.clk_model.specs.Round.{Wiring, rate_in}
use Rattle.clk_model.specs.State.{ChainStep, link_in}
use Rattle.clk_model.specs.Tree.{children}
use Rattle.clk_model.specs.Walk.{below_within, changing, kids_after, movers_to, moves_away, top_of, walk}
use Rattle.clk_model.specs.Wired.{IsWired, IsOrder, LinesEnd, LinksArePossible}
use Rattle.clk_model.proofs.BalanceLaws.{other_way}
use Rattle.clk_model.proofs.BelowLaws.{AreKids, IsUp, below_rises, no_round, rises_on}
use Rattle.clk_model.proofs.ChainStepLaws.{no_step, once_steps, step_in}
use Rattle.clk_model.proofs.GateLaws.{and_false}
use Rattle.clk_model.proofs.Members.{both_left, both_right, not_either, same_from_test, test_same}
use Rattle.clk_model.proofs.OnceLaws.{filter_passes, in_append, in_flat_map, is_in-filter, once_append, once_filter, once_head}
use Rattle.clk_model.proofs.OutcomeLaws.{differs_in}
use Rattle.clk_model.proofs.SettingLaws.{settings_fit}
use Rattle.clk_model.proofs.WalkLaws.{Planned_, is_at_same, not_moving, turned_off}
use Rattle.clk_tree.specs.Plans.{ClockRate}
use Rattle.change_walk.specs.declared.changes.Changed.{Changed}
use Rattle.change_walk.specs.declared.changes.Passed.{Passed}
use Rattle.change_walk.specs.Changes.{back_to, changes, changes_below, changed_to, changed_along, parent_after}
use Rattle.change_walk.proofs.Descending.{Descends, all_found, found, turned_to}

-- ---- the way up and the kids after a plan

-- nobody is below himself
pub nobody_below : (parents : ℕ → List ℕ) (kids : ℕ → List ℕ) (up : ℕ → Option ℕ) (most levels c : ℕ) → IsUp parents up → ((d : ℕ) → ends_within parents most d ≡ true) → AreKids kids up
    → is_in c (flat_map (below_within kids levels) (kids c)) ≡ false
nobody_below parents kids up most levels c is ends are = off (is_in c (flat_map (below_within kids levels) (kids c))) refl where
  off : (t : Bool) → is_in c (flat_map (below_within kids levels) (kids c)) ≡ t → t ≡ false
  off false m = refl
  off true m = absurd (
      let below = in_flat_map (below_within kids levels) c (kids c) m in
      let way = below_rises kids up levels below.0 c are below.2 in
      no_round parents up most way.0 c is (ends c) (rises_on up way.0 c below.0 c way.1 (are.parent below.0 c below.1)))

-- what a plan does with links
pub plan_of : (words : ℕ) (order : List ℕ) (w : Wiring) (c : ℕ) (ks : List ChainStep) → IsWired words w → IsOrder order w.clocks → LeadsFrom w c ks → Planned_ words order w ks (outcome ks w)
plan_of words order w c ks wired ordered leads =
    record { wired = wired; ordered = ordered; parents = leads.parents; once = leads.once; differs = differs_in ks w (settings_fit words w.defs wired.valid) leads.parents leads.once }

-- a clock that no step of a chain moves keeps its link
keeps_link : (clocks : List ClockRow) (ks : List ChainStep) (c : ℕ) → moves_away clocks ks c ≡ false → parent_after clocks ks c ≡ link_in clocks c
keeps_link clocks [] c still = refl
keeps_link clocks (k ∷ ks) c still =
    let parts = not_either ((k.clock == c) && moves clocks k) (moves_away clocks ks c) still in
    elim (nat_eq k.clock c) as (λ t. nat_eq k.clock c ≡ t → cond t k.parent (parent_after clocks ks c) ≡ link_in clocks c) [
      | true ↦ λ same.
          not_moving k.parent (link_in clocks k.clock) (and_false (k.clock == c) (moves clocks k) parts.0 same) ∙ ap (link_in clocks) (same_from_test k.clock c same)
      | false ↦ λ other. keeps_link clocks ks c parts.1
    ] refl

-- each step of a chain with no clock twice gives its clock its parent
gives_parent : (clocks : List ClockRow) (ks : List ChainStep) → none_twice (clocks_in ks) ≡ true → AllByRecursion (λ k. parent_after clocks ks k.clock ≡ k.parent) ks
gives_parent clocks [] once = tt
gives_parent clocks (k ∷ ks) once =
    let split = once_head k.clock (clocks_in ks) once in
    (ap (λ (t : Bool). cond t k.parent (parent_after clocks ks k.clock)) (test_same k.clock), behind ks split.0 (gives_parent clocks ks split.1)) where
      behind : (ls : List ChainStep) → is_in k.clock (clocks_in ls) ≡ false → AllByRecursion (λ l. parent_after clocks ks l.clock ≡ l.parent) ls
          → AllByRecursion (λ l. parent_after clocks (k ∷ ks) l.clock ≡ l.parent) ls
      behind [] out each = tt
      behind (l ∷ ls) out each =
          let parts = not_either (nat_eq l.clock k.clock) (is_in k.clock (clocks_in ls)) out in
          (ap (λ (t : Bool). cond t k.parent (parent_after clocks ks l.clock)) (other_way l.clock k.clock parts.0) ∙ each.0, behind ls parts.1 each.1)

-- after a plan the parents are possible ones
parents_possible : (w : Wiring) (ks : List ChainStep) → LinksArePossible w.defs w.clocks → AllByRecursion (HasParent w) ks → IsUp (parents_of w.defs) (parent_after w.clocks ks)
parents_possible w [] links has = links
parents_possible w (k ∷ ks) links has = λ c p e.
    elim (nat_eq k.clock c) as (λ t. nat_eq k.clock c ≡ t → cond t k.parent (parent_after w.clocks ks c) ≡ Some p → is_in p (parents_of w.defs c) ≡ true) [
      | true ↦ λ same at. ap (λ (x : ℕ). is_in p (parents_of w.defs x)) (sym (same_from_test k.clock c same)) ∙ has.0.possible p at
      | false ↦ λ other at. parents_possible w ks links has.1 c p at
    ] refl e

-- who stays with a clock, and who moves to it
abbrev stays_with : List ℕ → List ClockRow → List ChainStep → ℕ → List ℕ
stays_with order clocks ks p = filter (λ c. not (moves_away clocks ks c)) (children order clocks p)

-- who stays isn't moved
stays_still : (order : List ℕ) (clocks : List ClockRow) (ks : List ChainStep) (p c : ℕ) → is_in c (stays_with order clocks ks p) ≡ true → moves_away clocks ks c ≡ false
stays_still order clocks ks p c m = turned_off (moves_away clocks ks c) (filter_passes (λ x. not (moves_away clocks ks x)) c (children order clocks p) m)

-- the kids after a plan have their clock as their parent
kids_fit : (order : List ℕ) (clocks : List ClockRow) (ks : List ChainStep) → none_twice order ≡ true → none_twice (clocks_in ks) ≡ true → AreKids (kids_after order clocks ks) (parent_after clocks ks)
kids_fit order clocks ks listed once = record {
  parent = λ c p m. elim (in_append c (stays_with order clocks ks p) (movers_to clocks ks p) m) [
    | inl stays ↦
        let there = is_in-filter (λ x. not (moves_away clocks ks x)) c (children order clocks p) stays in
        keeps_link clocks ks c (stays_still order clocks ks p c stays) ∙ is_at_same p (link_in clocks c) (filter_passes (λ x. is_at p (link_in clocks x)) c order there)
    | inr moved ↦
        let l = step_in (λ k. is_at p k.parent && moves clocks k) c ks moved in
        ap (parent_after clocks ks) (sym l.1) ∙ l.3 (λ k. parent_after clocks ks k.clock ≡ k.parent) (gives_parent clocks ks once)
        ∙ is_at_same p l.0.parent (both_left (is_at p l.0.parent) (moves clocks l.0) l.2)
  ];
  once = λ p.
      once_append (stays_with order clocks ks p) (movers_to clocks ks p)
      (once_filter (λ c. not (moves_away clocks ks c)) (children order clocks p) (once_filter (λ c. is_at p (link_in clocks c)) order listed))
      (once_steps (λ k. is_at p k.parent && moves clocks k) ks once)
      (λ x stays moved.
      let l = step_in (λ k. is_at p k.parent && moves clocks k) x ks moved in
      let fails = l.3 (λ k. ((k.clock == x) && moves clocks k) ≡ false) (no_step (λ k. (k.clock == x) && moves clocks k) ks (stays_still order clocks ks p x stays)) in
      let still : moves clocks l.0 ≡ false = and_false (l.0.clock == x) (moves clocks l.0) fails (ap (λ (n : ℕ). l.0.clock == n) (sym l.1) ∙ test_same l.0.clock) in
      let on_ : moves clocks l.0 ≡ true = both_right (is_at p l.0.parent) (moves clocks l.0) l.2 in
      let no : false ≡ true = sym still ∙ on_ in cc);
}

-- and none is below itself, where lines of possible parents end
pub plan_descends : (order : List ℕ) (w : Wiring) (c : ℕ) (ks : List ChainStep) → LinesEnd w.defs → LinksArePossible w.defs w.clocks → none_twice order ≡ true → LeadsFrom w c ks
    → Descends (kids_after order w.clocks ks) (parent_after w.clocks ks)
plan_descends order w c ks ends links listed leads =
    let are = kids_fit order w.clocks ks listed leads.once in
    record {
      parent = are.parent;
      apart = λ levels d. nobody_below (parents_of w.defs) (kids_after order w.clocks ks) (parent_after w.clocks ks) depth levels d (parents_possible w ks links leads.parents) ends are;
    }

-- ---- rates before

-- what is found depends on the rates before of the clocks of the walk alone
pub found_alike : (up : ℕ → Option ℕ) (f g : ℕ → ℕ) (passed : List Passed) (rates : List ClockRate) → AllByRecursion (λ r. f r.clock ≡ g r.clock) rates
    → changed_along up f passed rates ≡ changed_along up g passed rates
found_alike up f g passed [] same = refl
found_alike up f g passed (r ∷ rs) same =
    let above : List Passed = back_to (up r.clock) passed in
    let on_ : ℕ → Bool = λ n. changes_below above && not (r.rate == n) in
    ap (λ (n : ℕ). cond (on_ n) (record { clock = clock_id r.clock; before = n; after = r.rate } ∷ []) [] ++ changed_along up f (record { clock = clock_id r.clock; changes = on_ n } ∷ above) rs) same.0
    ∙ ap (λ (xs : List Changed). cond (changes g above r) (changed_to g r ∷ []) [] ++ xs) (found_alike up f g (record { clock = clock_id r.clock; changes = changes g above r } ∷ above) rs same.1)

-- ---- the changing clocks

pub changing_found : (order : List ℕ) (w : Wiring) (c : ℕ) (ks : List ChainStep) → LinesEnd w.defs → LinksArePossible w.defs w.clocks → none_twice order ≡ true → LeadsFrom w c ks
    → found (parent_after w.clocks ks) (rate_in w) (rate_in (outcome ks w)) [] (walk order w ks) ≡ map (turned_to (rate_in w) (rate_in (outcome ks w))) (changing order w ks)
unfolding walk changing
changing_found order w c ks ends links listed leads =
    all_found (kids_after order w.clocks ks) (parent_after w.clocks ks) (rate_in w) (rate_in (outcome ks w)) depth (top_of ks) (plan_descends order w c ks ends links listed leads)
