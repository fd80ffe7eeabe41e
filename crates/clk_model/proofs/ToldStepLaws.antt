-- Laws on the steps of changes and their notices: each step of a change on its way leaves it on its way.
use Rattle.std.proofs.Common.{◌≡◌, ℕ, ◌+◌, ◌||◌, Bool, true, false, not, List, [], ◌∷◌, ◌++◌, Option, Some, refl, sym, ap, subst, ◌∙◌, ◌⊎◌, inl, inr, length}
use Rattle.std.proofs.lemmas.List.{append_assoc, append-nil}
use Rattle.std.specs.Prelude.{◌==◌, if◌then◌else◌}
use Rattle.std.specs.List.{list_any}
use Rattle.clk_base.specs.declared.call.Micro.{Micro}
use Rattle.clk_base.specs.declared.call.Micro.TheVariants as micro
use Rattle.clk_base.specs.declared.clock.ClockId.{ClockId}
use Rattle.clk_base.specs.declared.event.Turn.TheVariants as turn
use Rattle.clk_base.specs.Description.{Description}
use Rattle.clk_base.specs.Valid.{IsValid}
use Rattle.clk_model.specs.State.{State, Change, ChainStep}
use Rattle.clk_model.specs.Gates.{settled}
use Rattle.clk_model.specs.Round.{wiring}
use Rattle.clk_model.specs.Walk.{differs, rates_in}
use Rattle.clk_model.specs.Step.{taken, rest_of, relink, set_in_chain, visit, is_end, stepped}
use Rattle.clk_model.specs.Wired.{IsWired}
use Rattle.clk_model.specs.Laws.Flight.{may_be_put, IsFront}
use Rattle.clk_model.specs.Laws.LinksKept.{HasShapeOf}
use Rattle.clk_model.specs.Laws.ChangesTold.{is_post_of}
use Rattle.clk_model.proofs.Members.{not_either}
use Rattle.clk_model.proofs.NoneLaws.{none_front, none_rest}
use Rattle.clk_model.proofs.NextLaws.{Comes, was_put, was_own, comes_of, going_no_end}
use Rattle.clk_model.proofs.StepLaws.{IsAfter}
use Rattle.clk_model.proofs.FlightLaws.{IsStep, front_put}
use Rattle.clk_model.proofs.AboveLaws.{put_at}
use Rattle.clk_model.proofs.ArriveLaws.{wired_before}
use Rattle.clk_model.proofs.PlanGoLaws.{PlanOver}
use Rattle.clk_model.proofs.FollowLaws.{outcome_of, Agrees, AgreesAll, stirs, Follows, IsVisited, visit_done}
use Rattle.clk_model.proofs.FollowStepLaws.{alike_same, idle_alike, posts, posts_append, posts_none, is_visit_of_any, front_told}
use Rattle.clk_model.proofs.ToldLaws.{FirstFollows, first_idles, first_links, first_visits, first_follows, agrees_alike, settled_alike, agrees_linked, expected, visits_of, to_come, visits_once, Telling, late, called_off, on_time, visit_tells}

put_calm : (defs : Description) (m : Micro) → may_be_put m ≡ true → (stirs defs m ≡ false) × (is_visit_of_any m ≡ false)
put_calm defs (micro.Relink c p) put = absurd cc
put_calm defs (micro.Register c) put = absurd cc
put_calm defs (micro.WriteMux c place) put = absurd cc
put_calm defs (micro.Visit c) put = absurd cc
put_calm defs m put = (refl, refl)

calm_no_visit : (defs : Description) (c : ℕ) (m : Micro) → stirs defs m ≡ false → (is_visit_of_any m ≡ false) × (visits_of c m ≡ false)
calm_no_visit defs c (micro.Visit d) calm = absurd cc
calm_no_visit defs c m calm = (refl, refl)

-- what a change is planned in, and the clock whose notices are followed
pub record Following (n : State) (base : ℕ) (ks : List ChainStep) (c : ℕ) : Type 0 where
  pub over : PlanOver n base ks
  pub differs_ : differs (wiring n) ks c ≡ true

-- a change that has the plan's numbers
pub record HasNumbers (n : State) (ks : List ChainStep) (s : State) (k : Change) : Type 0 where
  pub chain : k.chain ≡ ks
  pub before : k.before ≡ rates_in (wiring n)
  pub outcome : k.outcome ≡ rates_in (outcome_of n ks)
  pub notifiers : s.notifiers ≡ n.notifiers

-- the state behind a new link and behind a visit
linked_state : (s : State) (k : Change) (answer : Option Bool) (m : Micro) (c p : ClockId) → m ≡ micro.Relink c p → (stepped s k answer m).0 ≡ relink s k c.0 p.0
unfolding stepped
linked_state s k answer m c p at = ap (λ (x : Micro). (stepped s k answer x).0) at

visited_state : (s : State) (k : Change) (answer : Option Bool) (m : Micro) (c : ClockId) → m ≡ micro.Visit c → (stepped s k answer m).0 ≡ visit s k c.0
unfolding stepped
visited_state s k answer m c at = ap (λ (x : Micro). (stepped s k answer x).0) at

-- with one step more made
total_with : (c : ℕ) (made : List Micro) (m : Micro) (old new whole : List Micro) → posts c (m ∷ []) ++ new ≡ old → posts c made ++ old ≡ whole → posts c (made ++ m ∷ []) ++ new ≡ whole
total_with c made m old new whole step total =
    ap (λ (xs : List Micro). xs ++ new) (posts_append c made (m ∷ [])) ∙ append_assoc (posts c made) (posts c (m ∷ [])) new ∙ ap (λ (xs : List Micro). posts c made ++ xs) step ∙ total

-- the step of a change on its way
pub telling_step : (n : State) (base : ℕ) (ks : List ChainStep) (c : ℕ) (s t : State) (d : ℕ) (m : Micro) (answer : Option Bool) (k j : Change) (made : List Micro) → Following n base ks c
    → IsStep s t d m answer turn.Going k → IsWired (length s.regs) (wiring s) → IsWired (length t.regs) (wiring t) → HasShapeOf s t → IsFront k → HasNumbers n ks s k
    → IsAfter m (taken k) j → (stepped s (taken k) answer m).0.change ≡ Some j → Telling n ks c s k made → Telling n ks c t j (made ++ m ∷ [])
telling_step n base ks c s t d m answer k j made plan step wired wired_t shape front has is now (late e) = elim is.left [
  | inl same ↦ late (same.1 ∙ e)
  | inr timed ↦ late timed.2
]
telling_step n base ks c s t d m answer k j made plan step wired wired_t shape front has is now (called_off e) = called_off (is.vetoed ∙ e)
telling_step n base ks c s t d m answer k j made plan step wired wired_t shape front has is now (on_time e way) = elim is.left [
  | inr timed ↦ late timed.2
  | inl same ↦ by_place same (comes_of k.front k.left m step.first (front_put k front))
] where
  u : State
  u = (stepped s (taken k) answer m).0

  valid_u : IsValid (length u.regs) u.defs
  valid_u = (wired_before s u (subst (λ (v : State). IsWired (length v.regs) (wiring v)) (sym step.state) wired_t)).valid

  going : is_end m ≡ false
  going = going_no_end s (taken k) answer m step.answered

  -- what clocks agree with behind the gates
  behind : (done : ℕ → Bool) → u.defs ≡ n.defs → ((a : ℕ) → Agrees n ks u (done a) a) → AgreesAll n ks done t
  behind done defs each = record {
    defs = shape.defs ∙ way.agrees.defs;
    size = shape.words ∙ way.agrees.size;
    each = λ a.
        subst (λ (v : State). Agrees n ks v (done a) a) step.state
        (agrees_alike n ks u (record (settled s u) { steps = s.steps + 1 }) (done a) a defs (settled_alike s u (settled s u).spent (s.steps + 1) valid_u) (each a));
  }

  idle : stirs n.defs m ≡ false → AgreesAll n ks way.done t
  idle calm =
      let alike = idle_alike s (taken k) answer m wired.valid (ap (λ (ds : Description). stirs ds m) way.agrees.defs ∙ calm) going in
      behind way.done (alike.defs ∙ way.agrees.defs) (λ a. agrees_alike n ks s u (way.done a) a way.agrees.defs alike (way.agrees.each a))

  Same : Type 0
  Same = (j.left ≡ (taken k).left) × (j.timed_out ≡ (taken k).timed_out) × (j.missed ≡ (taken k).missed)

  -- a step that stood in front
  from_front : Same → k.front ≡ m ∷ rest_of k.front → may_be_put m ≡ true → (taken k).left ≡ k.left → Telling n ks c t j (made ++ m ∷ [])
  from_front same at put left = by_told (front_told c s (taken k) answer m j going (put_calm n.defs m put).1 now) where
    here : j.left ≡ k.left
    here = same.0 ∙ left

    by_told : (j.timed_out ≡ true) ⊎ (posts c j.front ≡ posts c (rest_of k.front)) → Telling n ks c t j (made ++ m ∷ [])
    by_told (inl timed) = late timed
    by_told (inr told) = on_time (same.1 ∙ e) (record {
      done = way.done;
      agrees = idle (put_calm n.defs m put).0;
      follows = subst (λ (ms : List Micro). Follows n ks way.done ms) (sym here) way.follows;
      total = total_with c made m (posts c k.front ++ to_come n ks c k.left) (posts c j.front ++ to_come n ks c j.left) (expected n ks c)
          (ap (λ (xs : List Micro). posts c (m ∷ []) ++ (xs ++ to_come n ks c j.left)) told
          ∙ sym (append_assoc (posts c (m ∷ [])) (posts c (rest_of k.front)) (to_come n ks c j.left))
          ∙ ap (λ (xs : List Micro). xs ++ to_come n ks c j.left) (sym (posts_append c (m ∷ []) (rest_of k.front)) ∙ ap (posts c) (sym at))
          ∙ ap (λ (ms : List Micro). posts c k.front ++ to_come n ks c ms) here)
          way.total;
      once = ap (visits_once c) here ∙ way.once;
      quiet_ = ap (list_any (is_post_of c)) here ∙ way.quiet_;
      planned_ = same.2 ∙ way.planned_;
    })

  -- a step of the script
  no_post : (ms : List Micro) → k.left ≡ m ∷ ms → posts c (m ∷ []) ≡ []
  no_post ms left = posts_none c (m ∷ []) (ap (λ (b : Bool). b || false) (none_front (is_post_of c) m ms (ap (list_any (is_post_of c)) (sym left) ∙ way.quiet_)))

  from_script : Same → (ms : List Micro) → k.front ≡ [] → k.left ≡ m ∷ ms → (taken k).left ≡ ms → (done : ℕ → Bool) → AgreesAll n ks done t → Follows n ks done ms → visits_once c ms ≡ true
      → posts c j.front ++ to_come n ks c ms ≡ to_come n ks c (m ∷ ms) → Telling n ks c t j (made ++ m ∷ [])
  from_script same ms empty left rest done agrees follows once told = on_time (same.1 ∙ e) (record {
    done = done;
    agrees = agrees;
    follows = subst (λ (ns : List Micro). Follows n ks done ns) (sym here) follows;
    total = total_with c made m (posts c k.front ++ to_come n ks c k.left) (posts c j.front ++ to_come n ks c j.left) (expected n ks c)
        (ap (λ (xs : List Micro). xs ++ (posts c j.front ++ to_come n ks c j.left)) (no_post ms left)
        ∙ ap (λ (ns : List Micro). posts c j.front ++ to_come n ks c ns) here ∙ told
        ∙ ap (to_come n ks c) (sym left) ∙ ap (λ (ns : List Micro). posts c ns ++ to_come n ks c k.left) (sym empty))
        way.total;
    once = ap (visits_once c) here ∙ once;
    planned_ = same.2 ∙ way.planned_;
    quiet_ = ap (list_any (is_post_of c)) here ∙ none_rest (is_post_of c) m ms (ap (list_any (is_post_of c)) (sym left) ∙ way.quiet_);
  }) where
    here : j.left ≡ ms
    here = same.0 ∙ rest

  -- one that isn't a visit
  no_visit : Same → (ms : List Micro) → k.front ≡ [] → k.left ≡ m ∷ ms → (taken k).left ≡ ms → (done : ℕ → Bool) → AgreesAll n ks done t → Follows n ks done ms → is_visit_of_any m ≡ false → visits_of c m ≡ false
      → Telling n ks c t j (made ++ m ∷ [])
  no_visit same ms empty left rest done agrees follows other off = by_told (front_told c s (taken k) answer m j going other now) where
    by_told : (j.timed_out ≡ true) ⊎ (posts c j.front ≡ posts c (rest_of k.front)) → Telling n ks c t j (made ++ m ∷ [])
    by_told (inl timed) = late timed
    by_told (inr told) =
        from_script same ms empty left rest done agrees follows
        (sym (ap (λ (b : Bool). if b then not (list_any (visits_of c) ms) else visits_once c ms) off) ∙ ap (visits_once c) (sym left) ∙ way.once)
        (ap (λ (xs : List Micro). xs ++ to_come n ks c ms) (told ∙ ap (λ (ns : List Micro). posts c (rest_of ns)) empty)
        ∙ ap (λ (b : Bool). if (b || list_any (visits_of c) ms) then expected n ks c else []) (sym off))

  by_first : Same → (ms : List Micro) → k.front ≡ [] → k.left ≡ m ∷ ms → (taken k).left ≡ ms → FirstFollows n ks way.done m ms → Telling n ks c t j (made ++ m ∷ [])
  by_first same ms empty left rest (first_idles calm follows) =
      let other = calm_no_visit n.defs c m calm in
      no_visit same ms empty left rest way.done (idle calm) follows other.0 other.1
  by_first same ms empty left rest (first_links x p at link none parent follows) =
      no_visit same ms empty left rest (put_at x.0 true way.done)
      (linked_behind x p at (agrees_linked n ks way.done s (taken k) x.0 p.0 wired.rows way.agrees link none parent)) follows (ap is_visit_of_any at) (ap (visits_of c) at) where
        linked_behind : (y q : ClockId) → m ≡ micro.Relink y q → ((a : ℕ) → Agrees n ks (relink s (taken k) y.0 q.0) (put_at y.0 true way.done a) a) → AgreesAll n ks (put_at y.0 true way.done) t
        linked_behind y q same' each =
            behind (put_at y.0 true way.done) (ap (λ (v : State). v.defs) (linked_state s (taken k) answer m y q same') ∙ way.agrees.defs)
            (λ a. subst (λ (v : State). Agrees n ks v (put_at y.0 true way.done a) a) (sym (linked_state s (taken k) answer m y q same')) (each a))
  by_first same ms empty left rest (first_visits x at above visit_ follows) = visited where
    done' : ℕ → Bool
    done' = put_at x.0 true way.done

    is_visited : IsVisited n ks way.done s x.0 (set_in_chain s (taken k) x.0)
    is_visited = visit_done n ks way.done s (taken k) x.0 base plan.over has.chain way.planned_ wired.valid way.agrees above visit_

    state : u ≡ visit s (taken k) x.0
    state = visited_state s (taken k) answer m x at

    agrees_t : AgreesAll n ks done' t
    agrees_t =
        behind done' (ap (λ (v : State). v.defs) state ∙ way.agrees.defs)
        (λ a. subst (λ (v : State). Agrees n ks v (done' a) a) (sym state)
        (agrees_alike n ks (record s { regs = set_in_chain s (taken k) x.0 }) (visit s (taken k) x.0) (done' a) a way.agrees.defs (alike_same (record s { regs = set_in_chain s (taken k) x.0 }) (visit s (taken k) x.0) refl refl refl) (is_visited.each a)))

    told : posts c j.front ≡ (if x.0 == c then expected n ks c else [])
    told =
        visit_tells n base ks c s (taken k) answer x j plan.over plan.differs_ has.before has.outcome has.notifiers (ap rest_of empty) is_visited.rate_is
        (ap (λ (y : Micro). (stepped s (taken k) answer y).0.change) (sym at) ∙ now)

    once_m : visits_once c (micro.Visit x ∷ ms) ≡ true
    once_m = ap (λ (y : Micro). visits_once c (y ∷ ms)) (sym at) ∙ ap (visits_once c) (sym left) ∙ way.once

    rest_none_ : (b : Bool) → not b ≡ true → b ≡ false
    rest_none_ false f = refl
    rest_none_ true f = absurd cc

    once_none : (xs : List Micro) → list_any (visits_of c) xs ≡ false → visits_once c xs ≡ true
    once_none [] f = refl
    once_none (y ∷ ys) f =
        let parts = not_either (visits_of c y) (list_any (visits_of c) ys) f in
        ap (λ (b : Bool). if b then not (list_any (visits_of c) ys) else visits_once c ys) parts.0 ∙ once_none ys parts.1

    by_clock : (b : Bool) → (if b then not (list_any (visits_of c) ms) else visits_once c ms) ≡ true
        → (visits_once c ms ≡ true) × ((if b then expected n ks c else []) ++ to_come n ks c ms ≡ (if (b || list_any (visits_of c) ms) then expected n ks c else []))
    by_clock false f = (f, refl)
    by_clock true f =
        let none = rest_none_ (list_any (visits_of c) ms) f in
        (once_none ms none, ap (λ (b : Bool). expected n ks c ++ (if b then expected n ks c else [])) none ∙ append-nil (expected n ks c))

    visited : Telling n ks c t j (made ++ m ∷ [])
    visited =
        let both = by_clock (x.0 == c) once_m in
        from_script same ms empty left rest done' agrees_t follows both.0
        (ap (λ (xs : List Micro). xs ++ to_come n ks c ms) told ∙ both.1 ∙ ap (λ (y : Micro). to_come n ks c (y ∷ ms)) (sym at))

  by_place : Same → Comes k.front k.left m → Telling n ks c t j (made ++ m ∷ [])
  by_place same (was_put at put left) = from_front same at put left
  by_place same (was_own empty left) = by_first same (taken k).left empty left refl (first_follows n ks m (taken k).left way.follows left)
