-- Laws on planned scripts and outcomes: each planned script leads to its outcome.
use Rattle.std.proofs.Common.{◌≡◌, ℕ, ◌&&◌, ◌||◌, Bool, true, false, not, cond, List, [], ◌∷◌, ◌++◌, Option, Some, None, refl, sym, ap, subst, ◌∙◌, ◌⊎◌, inl, inr, length}
use Rattle.std.proofs.lemmas.List.{append-nil, append_assoc}
use Rattle.std.specs.Prelude.{◌==◌, filter, find, flat_map, option_map, if◌then◌else◌}
use Rattle.std.specs.List.{list_any, AllByRecursion}
use Rattle.std.specs.Option.{option_map_or}
use Rattle.clk_base.specs.declared.call.Micro.{Micro}
use Rattle.clk_base.specs.declared.call.Micro.TheVariants as micro
use Rattle.clk_base.specs.Description.{kind_of, parents_of}
use Rattle.clk_base.specs.Fields.{Field}
use Rattle.clk_base.specs.Levels.{depth}
use Rattle.clk_base.specs.Valid.{IsValid}
use Rattle.clk_base.proofs.Valid.{field-field, lines_end}
use Rattle.reg_bank.specs.Registers.{field}
use Rattle.clk_model.specs.declared.row.ClockRow.{ClockRow}
use Rattle.clk_model.specs.Lists.{is_in, none_twice, same_place}
use Rattle.clk_model.specs.State.{State, ChainStep, link_in}
use Rattle.clk_model.specs.Holders.{prepared}
use Rattle.clk_model.specs.Round.{wiring, parent_rate_in}
use Rattle.clk_model.specs.Chain.{clock_id, moves, setting, place_of}
use Rattle.clk_model.specs.Walk.{top_of, kids_after, walk, changing}
use Rattle.clk_model.specs.Notices.{is_veto}
use Rattle.clk_model.specs.Script.{unfeed, fed_step, runs_for, visit_of, move, move_of, planned}
use Rattle.clk_base.specs.Flags.{runs_parent}
use Rattle.clk_model.specs.Laws.Paths.{scales_by, ScalesAlike}
use Rattle.clk_model.specs.Laws.Plans.{clocks_in, HasParent, LeadsUp, DiffersIn, LeavesFields}
use Rattle.clk_model.specs.Laws.Walks.{IsWalk}
use Rattle.clk_model.specs.Laws.Flight.{plan_rates, pre_notices, abort_notices}
use Rattle.clk_model.proofs.Members.{is_in_head, is_in_cases, same_from_test, test_same}
use Rattle.clk_model.proofs.OnceLaws.{once_head}
use Rattle.clk_model.proofs.AboveLaws.{put_at, put_same, put_other, Above, above_here, above_link, above_path}
use Rattle.clk_model.proofs.WholePathLaws.{same_or_not}
use Rattle.clk_model.proofs.OutcomeLaws.{same_from_place, not_false}
use Rattle.clk_model.proofs.SettingLaws.{outcomes_keep}
use Rattle.clk_model.proofs.BeginLaws.{walked_at, walked}
use Rattle.clk_model.proofs.WalkLaws.{links_after, kids_are, walks_list}
use Rattle.clk_model.proofs.WalkOrderLaws.{Descends, below_descends}
use Rattle.clk_model.proofs.PlanRootLaws.{StepsRooted}
use Rattle.clk_model.proofs.PlannedGoLaws.{all_both, moves_here, OneStep, one_step}
use Rattle.clk_model.proofs.PlanGoLaws.{PlanOver, plan_of, planned_links}
use Rattle.clk_model.proofs.GateRateLaws.{scales_is_field}
use Rattle.clk_model.proofs.ScriptLaws.{none_pre, none_aborts, planned_is}
use Rattle.clk_model.proofs.CalmScriptLaws.{place_calm}
use Rattle.clk_model.proofs.OutcomeRateLaws.{SetRight, settings_right, moved_no_scale}
use Rattle.clk_model.proofs.FollowLaws.{outcome_of, Agrees, AgreesAll, NoScale, SetsTo, IsVisit, moved, stays, AboveDone, stirs, Follows, stops, idles, links, visits, follows_idle}

-- ---- the steps of a chain

-- what is known of each
record OfChain (n : State) (ks : List ChainStep) (k : ChainStep) : Type 0 where
  link : link_in (outcome_of n ks).clocks k.clock ≡ k.parent
  right : SetRight (length n.regs) (wiring n) (outcome_of n ks) k
  parent : HasParent (wiring n) k
  rooted : StepsRooted (wiring n) k

of_chain : (n : State) (base : ℕ) (ks : List ChainStep) → PlanOver n base ks → AllByRecursion (OfChain n ks) ks
of_chain n base ks over =
    let right = settings_right (length n.regs) n.order (wiring n) ks
    (record { wired = over.fit.wired; size = refl; ordered = over.order; parents = over.leads.parents; once = over.leads.once; leads = over.leads.leads }) in
    all_both (λ k. HasParent (wiring n) k × StepsRooted (wiring n) k) (λ k. (link_in (outcome_of n ks).clocks k.clock ≡ k.parent) × SetRight (length n.regs) (wiring n) (outcome_of n ks) k) (OfChain n ks) ks
    (λ k p q. record { link = q.0; right = q.1; parent = p.0; rooted = p.1 })
    (all_both (HasParent (wiring n)) (StepsRooted (wiring n)) (λ k. HasParent (wiring n) k × StepsRooted (wiring n) k) ks (λ k p q. (p, q)) over.leads.parents over.steps)
    (all_both (λ k. link_in (outcome_of n ks).clocks k.clock ≡ k.parent) (SetRight (length n.regs) (wiring n) (outcome_of n ks))
    (λ k. (link_in (outcome_of n ks).clocks k.clock ≡ k.parent) × SetRight (length n.regs) (wiring n) (outcome_of n ks) k) ks (λ k p q. (p, q)) (planned_links n base ks over) right)

-- a clock has no step in the chain, or its first one; which doesn't move, where none does
record FirstStep (P : ChainStep → Type 0) (n : State) (c : ℕ) (ks : List ChainStep) : Type 0 where
  step : ChainStep
  found : find (λ k. k.clock == c) ks ≡ Some step
  clock : step.clock ≡ c
  has : P step
  still : filter (moves_here n.clocks c) ks ≡ [] → moves n.clocks step ≡ false

first_step : (P : ChainStep → Type 0) (n : State) (c : ℕ) (ks : List ChainStep) → AllByRecursion P ks → ((find (λ k. k.clock == c) ks ≡ None) × (is_in c (clocks_in ks) ≡ false)) ⊎ FirstStep P n c ks
first_step P n c [] all = inl (refl, refl)
first_step P n c (k ∷ ks) all = by_test (k.clock == c) refl (first_step P n c ks all.1) where
  by_test : (t : Bool) → (k.clock == c) ≡ t → ((find (λ j. j.clock == c) ks ≡ None) × (is_in c (clocks_in ks) ≡ false)) ⊎ FirstStep P n c ks
      → ((find (λ j. j.clock == c) (k ∷ ks) ≡ None) × (is_in c (clocks_in (k ∷ ks)) ≡ false)) ⊎ FirstStep P n c (k ∷ ks)
  by_test true e rest = inr (record {
    step = k;
    found = ap (λ (t : Bool). if t then Some k else find (λ j. j.clock == c) ks) e;
    clock = same_from_test k.clock c e;
    has = all.0;
    still = λ none. by_move (moves n.clocks k) refl (sym (ap (λ (t : Bool). cond (t && moves n.clocks k) (k ∷ filter (moves_here n.clocks c) ks) (filter (moves_here n.clocks c) ks)) e) ∙ none);
  }) where
    by_move : (u : Bool) → moves n.clocks k ≡ u → cond (true && moves n.clocks k) (k ∷ filter (moves_here n.clocks c) ks) (filter (moves_here n.clocks c) ks) ≡ [] → u ≡ false
    by_move false f none = refl
    by_move true f none =
        let no : k ∷ filter (moves_here n.clocks c) ks ≡ [] = sym (ap (λ (u : Bool). cond u (k ∷ filter (moves_here n.clocks c) ks) (filter (moves_here n.clocks c) ks)) f) ∙ none in
        absurd cc
  by_test false e (inl none) = inl (
    ap (λ (t : Bool). if t then Some k else find (λ j. j.clock == c) ks) e ∙ none.0,
    ap (λ (t : Bool). t || is_in c (clocks_in ks)) e ∙ none.1,
  )
  by_test false e (inr first) = inr (record {
    step = first.step;
    found = ap (λ (t : Bool). if t then Some k else find (λ j. j.clock == c) ks) e ∙ first.found;
    clock = first.clock;
    has = first.has;
    still = λ none. first.still (sym (ap (λ (t : Bool). cond (t && moves n.clocks k) (k ∷ filter (moves_here n.clocks c) ks) (filter (moves_here n.clocks c) ks)) e) ∙ none);
  })

-- ---- clocks that the chain hasn't

keeps_of : (n : State) (base : ℕ) (ks : List ChainStep) → PlanOver n base ks → DiffersIn ks (wiring n) (outcome_of n ks) × LeavesFields ks (wiring n) (outcome_of n ks)
keeps_of n base ks over = outcomes_keep (length n.regs) (wiring n) base ks over.fit.wired.valid over.leads

outside_link : (n : State) (base : ℕ) (ks : List ChainStep) (a : ℕ) → PlanOver n base ks → is_in a (clocks_in ks) ≡ false → link_in (outcome_of n ks).clocks a ≡ link_in n.clocks a
outside_link n base ks a over out = ap (λ (r : ClockRow). option_map (λ p. p.0) r.link) ((keeps_of n base ks over).0.others a out)

outside_scale : (n : State) (base : ℕ) (ks : List ChainStep) (a : ℕ) → PlanOver n base ks → is_in a (clocks_in ks) ≡ false → ScalesAlike n.defs n.regs (outcome_of n ks).regs a
outside_scale n base ks a over out f at = (keeps_of n base ks over).1.others a 0 f out (field-field (kind_of n.defs a) f (scales_is_field (kind_of n.defs a) f at))

-- ---- a clock of the walk

-- one that isn't moved stays, and gets its setting
stays_so : (n : State) (base : ℕ) (ks : List ChainStep) (done : ℕ → Bool) (c : ℕ) → PlanOver n base ks → filter (moves_here n.clocks c) ks ≡ [] → done c ≡ false → IsVisit n ks done c
stays_so n base ks done c over none fresh = by_step (first_step (OfChain n ks) n c ks (of_chain n base ks over)) where
  by_step : ((find (λ k. k.clock == c) ks ≡ None) × (is_in c (clocks_in ks) ≡ false)) ⊎ FirstStep (OfChain n ks) n c ks → IsVisit n ks done c
  by_step (inl out) =
      stays fresh (outside_link n base ks c over out.1)
      (subst (λ (o : Option ChainStep). SetsTo n ks c (option_map (λ k. k.rate) o)) (sym out.0) (λ f at. outside_scale n base ks c over out.1 f at))
  by_step (inr first) =
      let still = first.still none in
      let same = same_from_place first.step.parent (link_in n.clocks first.step.clock) (not_false (same_place first.step.parent (link_in n.clocks first.step.clock)) still) in
      stays fresh (subst (λ (x : ℕ). link_in (outcome_of n ks).clocks x ≡ link_in n.clocks x) first.clock (first.has.link ∙ same))
      (subst (λ (o : Option ChainStep). SetsTo n ks c (option_map (λ k. k.rate) o)) (sym first.found)
      (λ regs size f at. subst (λ (x : ℕ). (g : Field) → scales_by (kind_of n.defs x) ≡ Some g
      → field (setting (kind_of n.defs x) (parent_rate_in (outcome_of n ks) x) first.step.rate regs) g.word g.shift g.width ≡ field (outcome_of n ks).regs g.word g.shift g.width) first.clock
      (λ g at'. first.has.right still regs size g at') f at))

-- steps that let a clock go
unfed_follows : (n : State) (ks : List ChainStep) (done : ℕ → Bool) (o : ℕ) (ms : List Micro) → Follows n ks done ms → Follows n ks done (unfeed o ++ ms)
unfed_follows n ks done o ms rest = idles (micro.DropEnable (clock_id o)) refl (idles (micro.DropPrepare (clock_id o)) refl (idles (micro.Lower (clock_id o)) refl rest))

-- the steps that move a clock
follows_move : (n : State) (ks : List ChainStep) (done : ℕ → Bool) (c p : ℕ) (ms : List Micro) → IsValid (length n.regs) n.defs → link_in (outcome_of n ks).clocks c ≡ Some p → NoScale n c
    → is_in p (parents_of n.defs c) ≡ true → Follows n ks (put_at c true done) ms → Follows n ks done (move n.defs n.clocks (prepared n) c p ++ ms)
follows_move n ks done c p ms valid link none m rest =
    either (prepared n c) _ _ (idles (micro.Raise (clock_id p)) refl (idles (micro.HoldPrepare (clock_id p)) refl (idles (micro.HoldEnable (clock_id p)) refl (idles (micro.HoldEnable (clock_id c)) refl
    (links (clock_id c) (clock_id p) link none m (idles (micro.WriteMux (clock_id c) (place_of n.defs c p)) written (idles (micro.DropEnable (clock_id c)) refl (lets (link_in n.clocks c)))))))))
    (either (runs_parent n.defs c) _ _ (idles (micro.Raise (clock_id c)) refl (idles (micro.Raise (clock_id p)) refl (idles (micro.HoldPrepare (clock_id c)) refl (idles (micro.HoldEnable (clock_id c)) refl
    (idles (micro.HoldPrepare (clock_id p)) refl (idles (micro.HoldEnable (clock_id p)) refl
    (links (clock_id c) (clock_id p) link none m (idles (micro.WriteMux (clock_id c) (place_of n.defs c p)) written (more (link_in n.clocks c))))))))))
    (links (clock_id c) (clock_id p) link none m (idles (micro.WriteMux (clock_id c) (place_of n.defs c p)) written rest))) where
      written : stirs n.defs (micro.WriteMux (clock_id c) (place_of n.defs c p)) ≡ false
      written = place_calm n.defs (length n.regs) c p [] valid m

      lets : (l : Option ℕ) → Follows n ks (put_at c true done) (option_map_or unfeed l [] ++ ms)
      lets None = rest
      lets (Some o) = unfed_follows n ks (put_at c true done) o ms rest

      more : (l : Option ℕ) → Follows n ks (put_at c true done) ((option_map_or unfeed l [] ++ unfeed c) ++ ms)
      more None = unfed_follows n ks (put_at c true done) c ms rest
      more (Some o) = unfed_follows n ks (put_at c true done) o (unfeed c ++ ms) (unfed_follows n ks (put_at c true done) c ms rest)

      either : (t : Bool) (xs ys : List Micro) → Follows n ks done (xs ++ ms) → Follows n ks done (ys ++ ms) → Follows n ks done (cond t xs ys ++ ms)
      either true xs ys e f = e
      either false xs ys e f = f

-- ---- the walk

-- what is still to be walked: these clocks alone aren't done, and they come from the top down
record ToFollow (n : State) (ks : List ChainStep) (done : ℕ → Bool) (cs : List ℕ) : Type 0 where
  fresh : (a : ℕ) → done a ≡ not (is_in a cs)
  once : none_twice cs ≡ true
  down : Descends (link_in (outcome_of n ks).clocks) cs

out_of : (a : ℕ) (cs : List ℕ) → (is_in a cs ≡ true → ⊥) → is_in a cs ≡ false
out_of a cs out = by_test (is_in a cs) refl where
  by_test : (t : Bool) → is_in a cs ≡ t → t ≡ false
  by_test true e = absurd (out e)
  by_test false e = refl

follow_rest : (n : State) (ks : List ChainStep) (done done' : ℕ → Bool) (c : ℕ) (cs : List ℕ) → ToFollow n ks done (c ∷ cs) → done' c ≡ true → ((a : ℕ) → (c ≡ a → ⊥) → done' a ≡ done a) → ToFollow n ks done' cs
follow_rest n ks done done' c cs to own others = record {
  fresh = λ a. by_clock a (same_or_not c a);
  once = (once_head c cs to.once).1;
  down = to.down.1;
} where
  by_clock : (a : ℕ) → (c ≡ a) ⊎ (c ≡ a → ⊥) → done' a ≡ not (is_in a cs)
  by_clock a (inl same) = subst (λ (x : ℕ). done' x ≡ not (is_in x cs)) same (own ∙ sym (ap not (once_head c cs to.once).0))
  by_clock a (inr other) = others a other ∙ to.fresh a ∙ ap (λ (t : Bool). not (t || is_in a cs)) (apart (c == a) refl) where
    apart : (t : Bool) → (c == a) ≡ t → t ≡ false
    apart true e = absurd (other (same_from_test c a e))
    apart false e = refl

block_follows : (n : State) (base : ℕ) (ks : List ChainStep) (tail : List Micro) (c : ℕ) (cs : List ℕ) (done : ℕ → Bool) → PlanOver n base ks → ToFollow n ks done (c ∷ cs)
    → ((d : ℕ → Bool) → ToFollow n ks d cs → Follows n ks d (flat_map (walked_at n ks) cs ++ tail)) → Follows n ks done (flat_map (walked_at n ks) (c ∷ cs) ++ tail)
block_follows n base ks tail c cs done over to go_on =
    subst (λ (ms : List Micro). Follows n ks done ms) (sym (append_assoc (walked_at n ks c) (flat_map (walked_at n ks) cs) tail))
    (subst (λ (ms : List Micro). Follows n ks done ms) (sym (append_assoc (move_of n.defs n.clocks (prepared n) ks c) (visit_of n.defs n.clocks ks c) rest))
    (by_step (one_step (OfChain n ks) n.clocks c ks over.leads.once (of_chain n base ks over)))) where
      rest : List Micro
      rest = flat_map (walked_at n ks) cs ++ tail

      fresh : done c ≡ false
      fresh = to.fresh c ∙ ap not (is_in_head c cs)

      -- behind the visit the rest is followed
      goes : (done' : ℕ → Bool) → done' c ≡ true → ((a : ℕ) → (c ≡ a → ⊥) → done' a ≡ done a) → Follows n ks done' rest
      goes done' own others = go_on done' (follow_rest n ks done done' c cs to own others)

      above : (done' : ℕ → Bool) → ((a : ℕ) → (c ≡ a → ⊥) → done' a ≡ done a) → AboveDone n ks done' c
      above done' others a high other =
          others a other ∙ to.fresh a
          ∙ ap not (out_of a (c ∷ cs) (λ m. elim (is_in_cases a c cs m) [ inl same ↦ other same | inr later ↦ to.down.0 a later high ]))

      put_own : (done' : ℕ → Bool) → put_at c true done' c ≡ true
      put_own done' = put_same c c true done' refl

      visit_so : (done' : ℕ → Bool) → ((a : ℕ) → (c ≡ a → ⊥) → done' a ≡ done a) → IsVisit n ks done' c → Follows n ks done' (visit_of n.defs n.clocks ks c ++ rest)
      visit_so done' others visit_ =
          fed (runs_for n.defs n.clocks ks c) where
            goes_on : Follows n ks (put_at c true done') rest
            goes_on = goes (put_at c true done') (put_own done') (λ a other. put_other c a true done' other ∙ others a other)

            fed : (o : Option ℕ) → Follows n ks done' (fed_step o (micro.Visit (clock_id c)) ++ rest)
            fed None = visits (clock_id c) (above done' others) visit_ goes_on
            fed (Some x) = idles (micro.Raise (clock_id x)) refl (idles (micro.HoldPrepare (clock_id x)) refl (idles (micro.HoldEnable (clock_id x)) refl
                (visits (clock_id c) (above done' others) visit_ (unfed_follows n ks (put_at c true done') x rest goes_on))))

      by_step : (filter (moves_here n.clocks c) ks ≡ []) ⊎ OneStep (OfChain n ks) n.clocks c ks → Follows n ks done (move_of n.defs n.clocks (prepared n) ks c ++ (visit_of n.defs n.clocks ks c ++ rest))
      by_step (inl none) =
          subst (λ (ls : List ChainStep). Follows n ks done (flat_map (λ k. option_map_or (move n.defs n.clocks (prepared n) c) k.parent []) ls ++ (visit_of n.defs n.clocks ks c ++ rest))) (sym none)
          (visit_so done (λ a other. refl) (stays_so n base ks done c over none fresh))
      by_step (inr one) =
          subst (λ (ls : List ChainStep). Follows n ks done (flat_map (λ k. option_map_or (move n.defs n.clocks (prepared n) c) k.parent []) ls ++ (visit_of n.defs n.clocks ks c ++ rest))) (sym one.alone)
          (by_parent one.step.parent refl) where
            self : (o : Option ℕ) → not (same_place o o) ≡ false
            self None = refl
            self (Some x) = ap not (test_same x)

            none_ : NoScale n c
            none_ f at = moved_no_scale (length n.regs) (wiring n) one.step f over.fit.wired one.has.parent one.has.rooted one.moves_ (ap (λ (x : ℕ). scales_by (kind_of n.defs x)) one.clock ∙ at)

            by_parent : (o : Option ℕ) → one.step.parent ≡ o → Follows n ks done ((option_map_or (move n.defs n.clocks (prepared n) c) o [] ++ []) ++ (visit_of n.defs n.clocks ks c ++ rest))
            by_parent None e =
                let no : true ≡ false = sym one.moves_ ∙ ap (λ (q : Option ℕ). not (same_place q (link_in n.clocks one.step.clock))) (e ∙ sym (one.has.parent.none e)) ∙ self (link_in n.clocks one.step.clock) in
                absurd cc
            by_parent (Some p) e =
                subst (λ (ms : List Micro). Follows n ks done (ms ++ (visit_of n.defs n.clocks ks c ++ rest))) (sym (append-nil (move n.defs n.clocks (prepared n) c p)))
                (follows_move n ks done c p (visit_of n.defs n.clocks ks c ++ rest) over.fit.wired.valid
                (subst (λ (x : ℕ). link_in (outcome_of n ks).clocks x ≡ Some p) one.clock (one.has.link ∙ e)) none_
                (subst (λ (x : ℕ). is_in p (parents_of n.defs x) ≡ true) one.clock (one.has.parent.possible p e))
                (visit_so (put_at c true done) (λ a other. put_other c a true done other) (moved (put_own done) none_)))

walked_follows : (n : State) (base : ℕ) (ks : List ChainStep) (tail : List Micro) (cs : List ℕ) (done : ℕ → Bool) → PlanOver n base ks → ((d : ℕ → Bool) → Follows n ks d tail) → ToFollow n ks done cs
    → Follows n ks done (flat_map (walked_at n ks) cs ++ tail)
walked_follows n base ks tail [] done over ends to = ends done
walked_follows n base ks tail (c ∷ cs) done over ends to = block_follows n base ks tail c cs done over to (λ d to'. walked_follows n base ks tail cs d over ends to')

-- ---- whole scripts

-- what is done at the beginning: all that the walk hasn't
abbrev pub off_walk : State → List ChainStep → ℕ → Bool
off_walk n ks a = not (is_in a (walk n.order (wiring n) ks))

walk_to_follow : (n : State) (base : ℕ) (ks : List ChainStep) → PlanOver n base ks → ToFollow n ks (off_walk n ks) (walk n.order (wiring n) ks)
unfolding walk
walk_to_follow n base ks over =
    let up : ℕ → Option ℕ = link_in (outcome_of n ks).clocks in
    let plan = plan_of n base ks over in
    let lines = lines_end (length n.regs) n.defs over.fit.wired.valid in
    let is = links_after (length n.regs) n.order (wiring n) ks (outcome_of n ks) plan in
    record {
      fresh = λ a. refl;
      once = ((walks_list (length n.regs) n.order (wiring n) base ks over.fit.wired over.order over.leads).0).once;
      down = below_descends (parents_of n.defs) (kids_after n.order n.clocks ks) up depth depth (top_of ks) is lines (kids_are (length n.regs) n.order (wiring n) ks (outcome_of n ks) plan);
    }

-- each planned script leads to its outcome, also where it is called off
pub planned_follows : (n : State) (base : ℕ) (ks : List ChainStep) (settles : List Micro) → PlanOver n base ks → list_any (stirs n.defs) settles ≡ false → Follows n ks (off_walk n ks) (planned n ks settles).steps
planned_follows n base ks settles over calm =
    subst (λ (ms : List Micro). Follows n ks (off_walk n ks) ms) (sym (planned_is n ks settles))
    (subst (λ (ms : List Micro). Follows n ks (off_walk n ks) ms) (sym (append_assoc (pre_notices n ks) (middle (list_any is_veto (pre_notices n ks))) (micro.End ∷ [])))
    (follows_idle n ks (off_walk n ks) (pre_notices n ks) (middle (list_any is_veto (pre_notices n ks)) ++ micro.End ∷ []) (none_pre (stirs n.defs) n ks (λ kind c id old new. refl))
    (by_veto (list_any is_veto (pre_notices n ks))))) where
      middle : Bool → List Micro
      middle v = cond v (abort_notices n ks) (walked n ks ++ settles)

      last : (done : ℕ → Bool) → Follows n ks done (micro.End ∷ [])
      last done = idles micro.End refl stops

      by_veto : (v : Bool) → Follows n ks (off_walk n ks) (middle v ++ micro.End ∷ [])
      by_veto true =
          follows_idle n ks (off_walk n ks) (abort_notices n ks) (micro.End ∷ [])
          (none_aborts (stirs n.defs) (plan_rates n ks) n.notifiers (changing n.order (wiring n) ks) (λ kind c id old new. refl)) (last (off_walk n ks))
      by_veto false =
          subst (λ (ms : List Micro). Follows n ks (off_walk n ks) ms) (sym (append_assoc (walked n ks) settles (micro.End ∷ [])))
          (walked_follows n base ks (settles ++ micro.End ∷ []) (walk n.order (wiring n) ks) (off_walk n ks) over (λ d. follows_idle n ks d settles (micro.End ∷ []) calm (last d)) (walk_to_follow n base ks over))

-- ---- the beginning

chain_top : (up : ℕ → Option ℕ) (ks : List ChainStep) (c : ℕ) → LeadsUp ks → AllByRecursion (λ k. up k.clock ≡ k.parent) ks → is_in c (clocks_in ks) ≡ true → Above up c (top_of ks)
chain_top up [] c leads links_ m = absurd cc
chain_top up (k ∷ []) c leads links_ m = elim (is_in_cases c k.clock [] m) [
  | inl same ↦ subst (λ (x : ℕ). Above up x k.clock) same (above_here up k.clock)
  | inr none ↦ absurd cc
]
chain_top up (k ∷ l ∷ ks) c leads links_ m = elim (is_in_cases c k.clock (clocks_in (l ∷ ks)) m) [
  | inl same ↦ subst (λ (x : ℕ). Above up x (top_of (l ∷ ks))) same
      (above_link up k.clock l.clock (top_of (l ∷ ks)) (links_.0 ∙ leads.0) (chain_top up (l ∷ ks) l.clock leads.1 links_.1 (is_in_head l.clock (clocks_in ks))))
  | inr later ↦ chain_top up (l ∷ ks) c leads.1 links_.1 later
]

-- at the beginning each clock is done or not as the walk says
pub start_agrees : (n : State) (base : ℕ) (ks : List ChainStep) → PlanOver n base ks → AgreesAll n ks (off_walk n ks) n
start_agrees n base ks over = record { defs = refl; size = refl; each = λ a. by_walk a (is_in a (walk n.order (wiring n) ks)) refl } where
  up : ℕ → Option ℕ
  up = link_in (outcome_of n ks).clocks

  is_walk : IsWalk n.order (wiring n) ks
  is_walk = (walks_list (length n.regs) n.order (wiring n) base ks over.fit.wired over.order over.leads).0

  listed : (a : ℕ) → is_in a (clocks_in ks) ≡ true → is_in a (walk n.order (wiring n) ks) ≡ true
  listed a m =
      is_walk.listed a
      ∙ above_path n.defs up a (top_of ks) (lines_end (length n.regs) n.defs over.fit.wired.valid) (links_after (length n.regs) n.order (wiring n) ks (outcome_of n ks) (plan_of n base ks over))
      (chain_top up ks a over.leads.leads (planned_links n base ks over) m)

  by_walk : (a : ℕ) (t : Bool) → is_in a (walk n.order (wiring n) ks) ≡ t → Agrees n ks n (not t) a
  by_walk a true e = (refl, (λ f at. refl))
  by_walk a false e =
      let out : is_in a (clocks_in ks) ≡ false = out_of a (clocks_in ks) (λ m. let no : false ≡ true = sym e ∙ listed a m in cc) in
      (sym (outside_link n base ks a over out), (λ f at. sym (outside_scale n base ks a over out f at)))
