-- Laws on walks: which clocks a plan's walk lists, and which of them change.
use Rattle.std.proofs.Common.{◌≡◌, ℕ, zero, suc, ◌<◌, Bool, true, false, not, ◌&&◌, ◌||◌, cond, List, [], ◌∷◌, Option, Some, None, refl, sym, ap, subst, ◌∙◌, inl, inr, arith, length}
use Rattle.std.specs.Prelude.{◌==◌, filter, option_map, slice_get, ◌↔◌}
use Rattle.std.specs.List.{AllByRecursion, list_any}
use Rattle.std.proofs.lemmas.Bool.{cases_lt}
use Rattle.std.proofs.lemmas.List.{get_or_past}
use Rattle.clk_base.specs.declared.clock.ClockDef.{ClockDef}
use Rattle.clk_base.specs.Description.{nobody, parents_of}
use Rattle.clk_base.specs.Levels.{depth}
use Rattle.clk_base.proofs.Valid.{lines_end}
use Rattle.clk_model.specs.declared.row.ClockRow.{ClockRow}
use Rattle.clk_model.specs.Lists.{is_in, is_at, same_place, none_twice}
use Rattle.clk_model.specs.State.{ChainStep, row_of, link_in}
use Rattle.clk_model.specs.Tree.{children}
use Rattle.clk_model.specs.Round.{Wiring}
use Rattle.clk_model.specs.Chain.{clock_id, moves, outcome}
use Rattle.clk_model.specs.Walk.{top_of, moves_away, movers_to, kids_after, below_within, walk, differs, changing}
use Rattle.clk_model.specs.Laws.Plans.{clocks_in, HasParent, DiffersIn}
use Rattle.clk_model.specs.Laws.Walks.{will_be_below, IsWalk, AllDiffer, AreChanging, WalksList}
use Rattle.clk_model.proofs.Members.{same_from_test, test_same, both_left, both_right, or_left, or_right}
use Rattle.clk_model.proofs.OutcomeLaws.{differs_in}
use Rattle.clk_model.proofs.SettingLaws.{settings_fit}
use Rattle.clk_model.proofs.BelowLaws.{Rises, few_steps, path_rises, rises_path, AreKids, below_rises, rises_below, once_below, below_passes}
use Rattle.clk_model.proofs.ChainStepLaws.{steps_that, step_in, chain_in, any_step, no_step, passing_any, passing_in, once_steps}
use Rattle.clk_model.specs.Wired.{LinksArePossible, IsWired, IsOrder}
use Rattle.clk_model.proofs.OnceLaws.{once_filter, in_append, is_in-append, once_append, is_in-filter, filter_passes, filter_keeps}
use Rattle.clk_model.proofs.PathLaws.{some_levels}
use Rattle.clk_model.proofs.GateLaws.{and_false}

-- ---- links after the plan

pub is_at_same : (p : ℕ) (o : Option ℕ) → is_at p o ≡ true → o ≡ Some p
is_at_same p None e = absurd cc
is_at_same p (Some q) e = ap (λ (n : ℕ). Some n) (same_from_test q p e)

pub at_same : (p : ℕ) (o : Option ℕ) → o ≡ Some p → is_at p o ≡ true
at_same p o e = ap (is_at p) e ∙ test_same p

pub linked_lt : (clocks : List ClockRow) (c p : ℕ) → link_in clocks c ≡ Some p → c < length clocks
linked_lt [] c p e = absurd cc
linked_lt (row ∷ clocks) zero p e = omega arith
linked_lt (row ∷ clocks) (suc c) p e = let below : c < length clocks = linked_lt clocks c p e in omega arith

-- what the law of walks is about: a chain with its outcome
pub record Planned_ (words : ℕ) (order : List ℕ) (w : Wiring) (ks : List ChainStep) (v : Wiring) : Type 0 where
  pub wired : IsWired words w
  pub ordered : IsOrder order w.clocks
  pub parents : AllByRecursion (HasParent w) ks
  pub once : none_twice (clocks_in ks) ≡ true
  pub differs : DiffersIn ks w v

pub parented_lt : (words : ℕ) (w : Wiring) (c p : ℕ) → IsWired words w → is_in p (parents_of w.defs c) ≡ true → c < length w.clocks
parented_lt words w c p wired m =
    elim (cases_lt c (length w.defs)) [
      | inl inside ↦ let same = wired.rows in omega arith
      | inr outside ↦
          let none : is_in p (parents_of w.defs c) ≡ false = ap (λ (d : ClockDef). is_in p d.parents) (get_or_past w.defs c nobody outside) in
          absurd cc
    ]

-- a clock of the chain has its planned parent
pub planned_link : (words : ℕ) (order : List ℕ) (w : Wiring) (ks : List ChainStep) (v : Wiring) (l : ChainStep) → Planned_ words order w ks v
    → ((P : ChainStep → Type 0) → AllByRecursion P ks → P l) → l.clock < length w.clocks → link_in v.clocks l.clock ≡ l.parent
planned_link words order w ks v l plan of within =
    ap (λ (r : ClockRow). option_map (λ p. p.0) r.link) (of (λ k. k.clock < length w.clocks → row_of v.clocks k.clock ≡ record (row_of w.clocks k.clock) { link = option_map clock_id k.parent }) plan.differs.links within)
    ∙ back l.parent where
      back : (o : Option ℕ) → option_map (λ p. p.0) (option_map clock_id o) ≡ o
      back None = refl
      back (Some p) = refl

pub not_moving : (o q : Option ℕ) → not (same_place o q) ≡ false → o ≡ q
not_moving None None e = refl
not_moving None (Some y) e = absurd cc
not_moving (Some x) None e = absurd cc
not_moving (Some x) (Some y) e = ap (λ (n : ℕ). Some n) (same_from_test x y (turned (x == y) e)) where
  turned : (t : Bool) → not t ≡ false → t ≡ true
  turned true e' = refl
  turned false e' = absurd cc

-- a clock that doesn't move keeps its link
still_link : (words : ℕ) (order : List ℕ) (w : Wiring) (ks : List ChainStep) (v : Wiring) (c : ℕ) → Planned_ words order w ks v
    → moves_away w.clocks ks c ≡ false → c < length w.clocks → link_in v.clocks c ≡ link_in w.clocks c
still_link words order w ks v c plan stays within = by_chain (is_in c (clocks_in ks)) refl where
  by_chain : (t : Bool) → is_in c (clocks_in ks) ≡ t → link_in v.clocks c ≡ link_in w.clocks c
  by_chain false out = ap (λ (r : ClockRow). option_map (λ p. p.0) r.link) (plan.differs.others c out)
  by_chain true there =
      let l = chain_in c ks there in
      let fails = l.2 (λ k. ((k.clock == c) && moves w.clocks k) ≡ false) (no_step (λ k. (k.clock == c) && moves w.clocks k) ks stays) in
      let still : moves w.clocks l.0 ≡ false = and_false (l.0.clock == c) (moves w.clocks l.0) fails (ap (λ (x : ℕ). l.0.clock == x) (sym l.1) ∙ test_same l.0.clock) in
      ap (link_in v.clocks) (sym l.1)
      ∙ planned_link words order w ks v l.0 plan l.2 (subst (λ (x : ℕ). x < length w.clocks) (sym l.1) within)
      ∙ not_moving l.0.parent (link_in w.clocks l.0.clock) still
      ∙ ap (link_in w.clocks) l.1

-- links after the plan lead to possible parents
pub links_after : (words : ℕ) (order : List ℕ) (w : Wiring) (ks : List ChainStep) (v : Wiring) → Planned_ words order w ks v → LinksArePossible w.defs v.clocks
links_after words order w ks v plan c p e = by_chain (is_in c (clocks_in ks)) refl where
  by_chain : (t : Bool) → is_in c (clocks_in ks) ≡ t → is_in p (parents_of w.defs c) ≡ true
  by_chain false out = plan.wired.links c p (ap (λ (r : ClockRow). option_map (λ q. q.0) r.link) (sym (plan.differs.others c out)) ∙ e)
  by_chain true there =
      let l = chain_in c ks there in
      let within : c < length w.clocks = let below = linked_lt v.clocks c p e in let same = plan.differs.size in omega arith in
      let up : l.0.parent ≡ Some p =
      sym (planned_link words order w ks v l.0 plan l.2 (subst (λ (x : ℕ). x < length w.clocks) (sym l.1) within)) ∙ ap (link_in v.clocks) l.1 ∙ e in
      let has = l.2 (HasParent w) plan.parents in
      ap (λ (x : ℕ). is_in p (parents_of w.defs x)) (sym l.1) ∙ has.possible p up

-- ---- kids after the plan

abbrev stays_with : List ℕ → Wiring → List ChainStep → ℕ → List ℕ
stays_with order w ks p = filter (λ c. not (moves_away w.clocks ks c)) (children order w.clocks p)

pub turned_off : (t : Bool) → not t ≡ true → t ≡ false
turned_off true e = absurd cc
turned_off false e = refl

mover_moves : (w : Wiring) (ks : List ChainStep) (c p : ℕ) → is_in c (movers_to w.clocks ks p) ≡ true → moves_away w.clocks ks c ≡ true
mover_moves w ks c p m =
    let l = step_in (λ k. is_at p k.parent && moves w.clocks k) c ks m in
    l.3 (λ k. ((k.clock == c) && moves w.clocks k) ≡ true → list_any (λ k. (k.clock == c) && moves w.clocks k) ks ≡ true) (passing_any (λ k. (k.clock == c) && moves w.clocks k) ks)
    (both (l.0.clock == c) (moves w.clocks l.0) (ap (λ (x : ℕ). l.0.clock == x) (sym l.1) ∙ test_same l.0.clock) (both_right (is_at p l.0.parent) (moves w.clocks l.0) l.2)) where
      both : (a b : Bool) → a ≡ true → b ≡ true → (a && b) ≡ true
      both a b e f = rw (e, f) refl

-- the kids after the plan are those whose link then leads to the clock
pub kids_are : (words : ℕ) (order : List ℕ) (w : Wiring) (ks : List ChainStep) (v : Wiring) → Planned_ words order w ks v → AreKids (kids_after order w.clocks ks) (link_in v.clocks)
kids_are words order w ks v plan = record {
  parent = λ c p m. elim (in_append c (stays_with order w ks p) (movers_to w.clocks ks p) m) [
    | inl stays ↦
        let there = is_in-filter (λ x. not (moves_away w.clocks ks x)) c (children order w.clocks p) stays in
        let link : link_in w.clocks c ≡ Some p = is_at_same p (link_in w.clocks c) (filter_passes (λ x. is_at p (link_in w.clocks x)) c order there) in
        still_link words order w ks v c plan (turned_off (moves_away w.clocks ks c) (filter_passes (λ x. not (moves_away w.clocks ks x)) c (children order w.clocks p) stays)) (linked_lt w.clocks c p link) ∙ link
    | inr moved ↦
        let l = step_in (λ k. is_at p k.parent && moves w.clocks k) c ks moved in
        let up : l.0.parent ≡ Some p = is_at_same p l.0.parent (both_left (is_at p l.0.parent) (moves w.clocks l.0) l.2) in
        let has = l.3 (HasParent w) plan.parents in
        ap (link_in v.clocks) (sym l.1)
        ∙ planned_link words order w ks v l.0 plan l.3 (parented_lt words w l.0.clock p plan.wired (has.possible p up)) ∙ up
  ];
  once = λ p.
      once_append (stays_with order w ks p) (movers_to w.clocks ks p)
      (once_filter (λ c. not (moves_away w.clocks ks c)) (children order w.clocks p) (once_filter (λ c. is_at p (link_in w.clocks c)) order plan.ordered.once))
      (once_steps (λ k. is_at p k.parent && moves w.clocks k) ks plan.once)
      (λ x stays moved.
      let off = turned_off (moves_away w.clocks ks x) (filter_passes (λ y. not (moves_away w.clocks ks y)) x (children order w.clocks p) stays) in
      let on_ = mover_moves w ks x p moved in
      let no : false ≡ true = sym off ∙ on_ in cc);
}

-- a clock whose link then leads to another is one of its kids
kid_of_link : (words : ℕ) (order : List ℕ) (w : Wiring) (ks : List ChainStep) (v : Wiring) (c p : ℕ) → Planned_ words order w ks v → link_in v.clocks c ≡ Some p
    → is_in c (kids_after order w.clocks ks p) ≡ true
kid_of_link words order w ks v c p plan e = is_in-append c (stays_with order w ks p) (movers_to w.clocks ks p) ∙ by_move (moves_away w.clocks ks c) refl where
  by_move : (t : Bool) → moves_away w.clocks ks c ≡ t → (is_in c (stays_with order w ks p) || is_in c (movers_to w.clocks ks p)) ≡ true
  by_move false stays =
      let within : c < length w.clocks = let below = linked_lt v.clocks c p e in let same = plan.differs.size in omega arith in
      let link : link_in w.clocks c ≡ Some p = sym (still_link words order w ks v c plan stays within) ∙ e in
      or_left (is_in c (stays_with order w ks p)) (is_in c (movers_to w.clocks ks p))
      (filter_keeps (λ x. not (moves_away w.clocks ks x)) c (children order w.clocks p) (ap not stays)
      (filter_keeps (λ x. is_at p (link_in w.clocks x)) c order (at_same p (link_in w.clocks c) link) (plan.ordered.linked c p link)))
  by_move true away =
      let l = any_step (λ k. (k.clock == c) && moves w.clocks k) ks away in
      let same : l.0.clock ≡ c = same_from_test l.0.clock c (both_left (l.0.clock == c) (moves w.clocks l.0) l.1) in
      let within : l.0.clock < length w.clocks = let below = linked_lt v.clocks c p e in let size = plan.differs.size in omega arith in
      let up : l.0.parent ≡ Some p = sym (planned_link words order w ks v l.0 plan l.2 within) ∙ ap (link_in v.clocks) same ∙ e in
      or_right (is_in c (stays_with order w ks p)) (is_in c (movers_to w.clocks ks p))
      (ap (λ (x : ℕ). is_in x (movers_to w.clocks ks p)) (sym same)
      ∙ l.2 (λ k. (is_at p k.parent && moves w.clocks k) ≡ true → is_in k.clock (steps_that (λ k. is_at p k.parent && moves w.clocks k) ks) ≡ true)
      (passing_in (λ k. is_at p k.parent && moves w.clocks k) ks)
      (both (is_at p l.0.parent) (moves w.clocks l.0) (at_same p l.0.parent up) (both_right (l.0.clock == c) (moves w.clocks l.0) l.1))) where
        both : (a b : Bool) → a ≡ true → b ≡ true → (a && b) ≡ true
        both a b e' f = rw (e', f) refl

-- ---- the walk

first_below : (kids : ℕ → List ℕ) (levels t : ℕ) → 0 < levels → slice_get (below_within kids levels t) 0 ≡ Some t
first_below kids zero t some = absurd (omega arith)
first_below kids (suc levels) t some = refl

pub either_way : (a b : Bool) → (a ≡ true → b ≡ true) → (b ≡ true → a ≡ true) → a ≡ b
either_way true b f g = sym (f refl)
either_way false true f g = g refl
either_way false false f g = refl

-- the walk lists what will be below the top
walk_is : (words : ℕ) (order : List ℕ) (w : Wiring) (ks : List ChainStep) → Planned_ words order w ks (outcome ks w) → IsWalk order w ks
unfolding walk
walk_is words order w ks plan =
    let up : ℕ → Option ℕ = link_in (outcome ks w).clocks in
    let kids : ℕ → List ℕ = kids_after order w.clocks ks in
    let t : ℕ = top_of ks in
    let are = kids_are words order w ks (outcome ks w) plan in
    let is = links_after words order w ks (outcome ks w) plan in
    let ends = lines_end words w.defs plan.wired.valid in
    record {
      first = first_below kids depth t some_levels;
      listed = λ c. either_way (is_in c (below_within kids depth t)) (will_be_below w ks c)
          (λ m. let way = below_rises kids up depth t c are m in rises_path up depth way.0 c t way.1 (few_steps (parents_of w.defs) up depth way.0 c t is (ends c) way.1))
          (λ m. let way = path_rises up depth c t m in
          rises_below kids up depth way.0 c t (λ d p j k from e rest. kid_of_link words order w ks (outcome ks w) d p plan e) way.1
          (few_steps (parents_of w.defs) up depth way.0 c t is (ends c) way.1));
      once = once_below (parents_of w.defs) kids up depth depth t is ends are;
    }

-- ---- the changing clocks

-- the kids that differ
abbrev changing_kids : List ℕ → Wiring → List ChainStep → ℕ → List ℕ
changing_kids order w ks p = filter (differs w ks) (kids_after order w.clocks ks p)

differing_kids : (words : ℕ) (order : List ℕ) (w : Wiring) (ks : List ChainStep) → Planned_ words order w ks (outcome ks w) → AreKids (changing_kids order w ks) (link_in (outcome ks w).clocks)
differing_kids words order w ks plan =
    let are = kids_are words order w ks (outcome ks w) plan in
    record {
      parent = λ c p m. are.parent c p (is_in-filter (differs w ks) c (kids_after order w.clocks ks p) m);
      once = λ p. once_filter (differs w ks) (kids_after order w.clocks ks p) (are.once p);
    }

-- the changing clocks where the top differs
entered_are : (words : ℕ) (order : List ℕ) (w : Wiring) (ks : List ChainStep) → Planned_ words order w ks (outcome ks w) → differs w ks (top_of ks) ≡ true → (c : ℕ)
    → (is_in c (below_within (changing_kids order w ks) depth (top_of ks)) ≡ true) ↔ ((is_in c (walk order w ks) ≡ true) × AllDiffer w ks c)
entered_are words order w ks plan here c =
    let up : ℕ → Option ℕ = link_in (outcome ks w).clocks in
    let kids : ℕ → List ℕ = changing_kids order w ks in
    let t : ℕ = top_of ks in
    let are = differing_kids words order w ks plan in
    let is = links_after words order w ks (outcome ks w) plan in
    let ends = lines_end words w.defs plan.wired.valid in
    let walked = walk_is words order w ks plan in (
      (λ m.
          let way = below_rises kids up depth t c are m in (
            walked.listed c ∙ rises_path up depth way.0 c t way.1 (few_steps (parents_of w.defs) up depth way.0 c t is (ends c) way.1),
            (λ a on below.
                let to = path_rises up depth c a on in
                let from = path_rises up depth a t below in
                below_passes (parents_of w.defs) kids up (differs w ks) depth depth t c a to.0 from.0 is ends are
                (λ d p n. filter_passes (differs w ks) d (kids_after order w.clocks ks p) n) here m to.1 from.1),
          )),
      (λ both.
          let way = path_rises up depth c t (sym (walked.listed c) ∙ both.0) in
          rises_below kids up depth way.0 c t
          (λ d p j k from e rest.
          filter_keeps (differs w ks) d (kids_after order w.clocks ks p)
          (both.1 d (rises_path up depth j c d from (few_steps (parents_of w.defs) up depth j c d is (ends c) from))
          (let more : Rises up (suc k) d t = (p, e, rest) in rises_path up depth (suc k) d t more (few_steps (parents_of w.defs) up depth (suc k) d t is (ends d) more)))
          (kid_of_link words order w ks (outcome ks w) d p plan e))
          way.1 (few_steps (parents_of w.defs) up depth way.0 c t is (ends c) way.1)),
    )

-- the changing clocks as a list, where it is said whether the top differs
abbrev entered : List ℕ → Wiring → List ChainStep → Bool → List ℕ
entered order w ks t = cond t (below_within (changing_kids order w ks) depth (top_of ks)) []

by_top : (words : ℕ) (order : List ℕ) (w : Wiring) (ks : List ChainStep) (t : Bool) → Planned_ words order w ks (outcome ks w) → differs w ks (top_of ks) ≡ t
    → ((c : ℕ) → (is_in c (entered order w ks t) ≡ true) ↔ ((is_in c (walk order w ks) ≡ true) × AllDiffer w ks c)) × (none_twice (entered order w ks t) ≡ true)
by_top words order w ks true plan here = (
  entered_are words order w ks plan here,
  once_below (parents_of w.defs) (changing_kids order w ks) (link_in (outcome ks w).clocks) depth depth (top_of ks)
      (links_after words order w ks (outcome ks w) plan) (lines_end words w.defs plan.wired.valid) (differing_kids words order w ks plan),
)
by_top words order w ks false plan here = (
  (λ c. (
    (λ m. absurd cc),
    (λ both.
        let below = sym ((walk_is words order w ks plan).listed c) ∙ both.0 in
        let top = rises_path (link_in (outcome ks w).clocks) depth zero (top_of ks) (top_of ks) refl some_levels in
        let differs_ : differs w ks (top_of ks) ≡ true = both.1 (top_of ks) below top in
        absurd cc),
  )),
  refl,
)

changing_are : (words : ℕ) (order : List ℕ) (w : Wiring) (ks : List ChainStep) → Planned_ words order w ks (outcome ks w) → AreChanging order w ks
unfolding changing
changing_are words order w ks plan =
    let parts = by_top words order w ks (differs w ks (top_of ks)) plan refl in
    record { listed = parts.0; once = parts.1 }

-- each walk and the changing clocks of a chain that leads upwards
pub walks_list : WalksList
walks_list words order w c ks wired ordered leads =
    let differs = differs_in ks w (settings_fit words w.defs wired.valid) leads.parents leads.once in
    let plan : Planned_ words order w ks (outcome ks w) = record { wired = wired; ordered = ordered; parents = leads.parents; once = leads.once; differs = differs } in
    (walk_is words order w ks plan, changing_are words order w ks plan)
