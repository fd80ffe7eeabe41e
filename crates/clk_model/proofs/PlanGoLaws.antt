-- Laws on the scripts of plans: over a fit state each script of a planned chain goes well.
use Rattle.std.proofs.Common.{◌≡◌, ℕ, ◌<◌, Bool, true, false, not, List, [], ◌∷◌, ◌++◌, Option, Some, None, refl, sym, ap, subst, ◌∙◌, ◌⊎◌, inl, inr, length}
use Rattle.std.specs.Prelude.{filter, flat_map, if◌then◌else◌, option_map, ◌==◌, ◌&&◌, ◌||◌}
use Rattle.std.specs.List.{list_any, list_all, AllByRecursion}
use Rattle.std.specs.Option.{option_map_or}
use Rattle.std.proofs.lemmas.List.{append_assoc}
use Rattle.clk_base.specs.declared.call.Micro.{Micro}
use Rattle.clk_base.specs.declared.call.Micro.TheVariants as micro
use Rattle.clk_base.specs.declared.call.Sleeping.{Sleeping}
use Rattle.clk_base.specs.Description.{Description, kind_of, parents_of}
use Rattle.clk_base.specs.Levels.{depth}
use Rattle.clk_base.proofs.Valid.{lines_end}
use Rattle.clk_model.specs.declared.row.ClockRow.{ClockRow}
use Rattle.clk_model.specs.Lists.{is_in, same_place}
use Rattle.clk_model.specs.State.{State, ChainStep, row_of, registered, link_in}
use Rattle.clk_model.specs.Holders.{prepared}
use Rattle.clk_model.specs.Round.{Wiring, wiring}
use Rattle.clk_model.specs.Chain.{clock_id, moves, outcome, place_of}
use Rattle.clk_model.specs.Walk.{top_of, kids_after, walk}
use Rattle.clk_model.specs.Notices.{is_veto}
use Rattle.clk_model.specs.Script.{unfeed, runs_for, visit_of, move, move_of, planned}
use Rattle.clk_base.specs.Flags.{runs_parent, runs_to_set}
use Rattle.clk_model.specs.Kinds.{has_setting}
use Rattle.clk_model.proofs.FeedLaws.{NoFeeding, none_fed}
use Rattle.clk_model.specs.Step.{behind_lets, is_end}
use Rattle.clk_model.specs.Wired.{IsWired, IsOrder}
use Rattle.clk_model.specs.Laws.Plans.{HasParent, LeadsFrom}
use Rattle.clk_model.specs.Laws.Flight.{pre_notices, abort_notices}
use Rattle.clk_model.proofs.Members.{test_same, same_from_test, both_left}
use Rattle.clk_model.proofs.StateLaws.{registered_lt}
use Rattle.clk_model.proofs.NoneLaws.{none_append, none_flat_map}
use Rattle.clk_model.proofs.OutcomeLaws.{differs_in}
use Rattle.clk_model.proofs.SettingLaws.{settings_fit}
use Rattle.clk_model.proofs.BeginLaws.{walked_at, walked}
use Rattle.clk_model.proofs.WalkLaws.{Planned_, links_after, kids_are, walks_list}
use Rattle.clk_model.proofs.WalkOrderLaws.{Descends, below_descends, behind_apart}
use Rattle.clk_model.proofs.AboveLaws.{Above}
use Rattle.clk_model.proofs.Scenes.{Scene, scene, holding, prepared_in, IsSound, EndsPrepare, GoesWell, ends}
use Rattle.clk_model.proofs.ArriveLaws.{IsFit}
use Rattle.clk_model.proofs.PlanRootLaws.{IsRooted, StepsRooted, rooted_linked}
use Rattle.clk_model.proofs.WalkGoLaws.{from_first_past, CutsAt, block, IsMover, Apart, AllApart, WalkOver, ToWalk, walked_goes}
use Rattle.clk_model.proofs.PlannedGoLaws.{leaves_scene, goes_past, leaves_notices, leaves_aborts, all_both, moves_here, OneStep, one_step}

-- ---- what a plan is made in

-- a fit state without holds, and a chain over it that leads upwards, of rooted clocks
pub record PlanOver (s : State) (c : ℕ) (ks : List ChainStep) : Type 0 where
  pub fit : IsFit None s
  pub prepares : s.prepare_holds ≡ []
  pub enables : s.enable_holds ≡ []
  pub order : IsOrder s.order s.clocks
  pub leads : LeadsFrom (wiring s) c ks
  pub steps : AllByRecursion (StepsRooted (wiring s)) ks

-- what both laws on chains say of a step
record OfStep (w : Wiring) (k : ChainStep) : Type 0 where
  parent : HasParent w k
  rooted : StepsRooted w k

steps_of : (s : State) (c : ℕ) (ks : List ChainStep) → PlanOver s c ks → AllByRecursion (OfStep (wiring s)) ks
steps_of s c ks over = all_both (HasParent (wiring s)) (StepsRooted (wiring s)) (OfStep (wiring s)) ks (λ k p q. record { parent = p; rooted = q }) over.leads.parents over.steps

not_moving : (clocks : List ClockRow) (k : ChainStep) → k.parent ≡ link_in clocks k.clock → moves clocks k ≡ true → ⊥
not_moving clocks k same moves_ = let no : false ≡ true = sym (ap (λ (o : Option ℕ). not (same_place o (link_in clocks k.clock))) same ∙ ap not (self (link_in clocks k.clock))) ∙ moves_ in cc where
  self : (o : Option ℕ) → same_place o o ≡ true
  self None = refl
  self (Some x) = test_same x

-- ---- the clocks that a plan moves

-- the steps of a move, by the link of its clock
move_is : (s : State) (c p o : ℕ) → link_in s.clocks c ≡ Some o → move s.defs s.clocks (prepared s) c p ≡ block s.defs (prepared s c) (runs_parent s.defs c) c p o
move_is s c p o link =
    ap (λ (u : Option ℕ). if prepared s c
    then micro.Raise (clock_id p) ∷ micro.HoldPrepare (clock_id p) ∷ micro.HoldEnable (clock_id p) ∷ micro.HoldEnable (clock_id c)
    ∷ micro.Relink (clock_id c) (clock_id p) ∷ micro.WriteMux (clock_id c) (place_of s.defs c p) ∷ micro.DropEnable (clock_id c)
    ∷ option_map_or unfeed u []
    else if runs_parent s.defs c
    then micro.Raise (clock_id c) ∷ micro.Raise (clock_id p) ∷ micro.HoldPrepare (clock_id c) ∷ micro.HoldEnable (clock_id c)
    ∷ micro.HoldPrepare (clock_id p) ∷ micro.HoldEnable (clock_id p)
    ∷ micro.Relink (clock_id c) (clock_id p) ∷ micro.WriteMux (clock_id c) (place_of s.defs c p)
    ∷ option_map_or unfeed u [] ++ unfeed c
    else micro.Relink (clock_id c) (clock_id p) ∷ micro.WriteMux (clock_id c) (place_of s.defs c p) ∷ []) link

-- a step that moves its clock has a rooted parent, and its clock a link
record Moves (s : State) (k : ChainStep) : Type 0 where
  parent : ℕ
  at : k.parent ≡ Some parent
  root : IsRooted s.defs s.clocks parent
  old : ℕ
  link : link_in s.clocks k.clock ≡ Some old

moves_of : (s : State) (k : ChainStep) → IsWired (length s.regs) (wiring s) → OfStep (wiring s) k → moves s.clocks k ≡ true → Moves s k
moves_of s k wired of moves_ = by_parent k.parent refl where
  by_parent : (o : Option ℕ) → k.parent ≡ o → Moves s k
  by_parent None at = absurd (not_moving s.clocks k (at ∙ sym (of.parent.none at)) moves_)
  by_parent (Some p) at =
      let old = rooted_linked (length s.regs) s.defs s.clocks k.clock p wired.valid of.rooted.own.root (of.rooted.possible p at) in
      elim (of.rooted.from p at) [
        | inl link ↦ absurd (not_moving s.clocks k (at ∙ sym link) moves_)
        | inr root ↦ record { parent = p; at = at; root = root; old = old.0; link = old.1 }
      ]

movers_of : (s : State) (d : ℕ) (ks : List ChainStep) → PlanOver s d ks → (c : ℕ)
    → (move_of s.defs s.clocks (prepared s) ks c ≡ []) ⊎ ((p : ℕ) × (o : ℕ) × IsMover s ks c p o × (move_of s.defs s.clocks (prepared s) ks c ≡ block s.defs (prepared s c) (runs_parent s.defs c) c p o))
movers_of s d ks over c = by_step (one_step (OfStep (wiring s)) s.clocks c ks over.leads.once (steps_of s d ks over)) where
  steps : ChainStep → List Micro
  steps k = option_map_or (move s.defs s.clocks (prepared s) c) k.parent []

  by_step : (filter (moves_here s.clocks c) ks ≡ []) ⊎ OneStep (OfStep (wiring s)) s.clocks c ks
      → (move_of s.defs s.clocks (prepared s) ks c ≡ []) ⊎ ((p : ℕ) × (o : ℕ) × IsMover s ks c p o × (move_of s.defs s.clocks (prepared s) ks c ≡ block s.defs (prepared s c) (runs_parent s.defs c) c p o))
  by_step (inl none) = inl (ap (λ (ls : List ChainStep). flat_map (λ k. option_map_or (move s.defs s.clocks (prepared s) c) k.parent []) ls) none)
  by_step (inr one) =
      let m = moves_of s one.step over.fit.wired one.has one.moves_ in
      let link : link_in s.clocks c ≡ Some m.old = ap (link_in s.clocks) (sym one.clock) ∙ m.link in
      inr (
        m.parent,
        m.old,
        record {
          chained = one.chained;
          possible = subst (λ (x : ℕ). is_in m.parent (parents_of s.defs x) ≡ true) one.clock (one.has.rooted.possible m.parent m.at);
          there = subst (λ (x : ℕ). registered s.clocks x ≡ true) one.clock one.has.rooted.own.there;
          parent_there = m.root.there;
          root = m.root.root;
          link = link;
        },
        ap (λ (ls : List ChainStep). flat_map (λ k. option_map_or (move s.defs s.clocks (prepared s) c) k.parent []) ls) one.alone
            ∙ ap (λ (o : Option ℕ). option_map_or (move s.defs s.clocks (prepared s) c) o [] ++ []) m.at
            ∙ ap (λ (ms : List Micro). ms ++ []) (move_is s c m.parent m.old link) ∙ nothing_more (prepared s c) (runs_parent s.defs c) m.parent m.old,
      ) where
        nothing_more : (b f : Bool) (p o : ℕ) → block s.defs b f c p o ++ [] ≡ block s.defs b f c p o
        nothing_more true f p o = refl
        nothing_more false true p o = refl
        nothing_more false false p o = refl

-- ---- the order of the walk

all_apart : (s : State) (ks : List ChainStep) (up : ℕ → Option ℕ) (cs : List ℕ) → Descends up cs
    → ((c d p o q r : ℕ) → IsMover s ks c p o → IsMover s ks d q r → (Above up c d → ⊥) → Apart s.defs c p d) → AllApart s ks cs
all_apart s ks up [] down apart = tt
all_apart s ks up (c ∷ cs) down apart = ((λ d p o q r m first second. apart c d p o q r first second (down.0 d m)), all_apart s ks up cs down.1 apart)

pub plan_of : (s : State) (c : ℕ) (ks : List ChainStep) → PlanOver s c ks → Planned_ (length s.regs) s.order (wiring s) ks (outcome ks (wiring s))
plan_of s c ks over = record {
  wired = over.fit.wired;
  ordered = over.order;
  parents = over.leads.parents;
  once = over.leads.once;
  differs = differs_in ks (wiring s) (settings_fit (length s.regs) s.defs over.fit.wired.valid) over.leads.parents over.leads.once;
}

-- the links of the chain after the plan
pub planned_links : (s : State) (c : ℕ) (ks : List ChainStep) → PlanOver s c ks → AllByRecursion (λ k. link_in (outcome ks (wiring s)).clocks k.clock ≡ k.parent) ks
planned_links s c ks over =
    all_both (λ k. k.clock < length s.clocks → row_of (outcome ks (wiring s)).clocks k.clock ≡ record (row_of s.clocks k.clock) { link = option_map clock_id k.parent }) (StepsRooted (wiring s))
    (λ k. link_in (outcome ks (wiring s)).clocks k.clock ≡ k.parent) ks
    (λ k row rooted. ap (λ (r : ClockRow). option_map (λ p. p.0) r.link) (row (registered_lt s.clocks k.clock rooted.own.there)) ∙ back k.parent) (plan_of s c ks over).differs.links over.steps where
      back : (o : Option ℕ) → option_map (λ p. p.0) (option_map clock_id o) ≡ o
      back None = refl
      back (Some p) = refl

walk_apart : (s : State) (c : ℕ) (ks : List ChainStep) → PlanOver s c ks → AllApart s ks (walk s.order (wiring s) ks)
unfolding walk
walk_apart s c ks over =
    let up : ℕ → Option ℕ = link_in (outcome ks (wiring s)).clocks in
    let plan = plan_of s c ks over in
    let lines = lines_end (length s.regs) s.defs over.fit.wired.valid in
    let is = links_after (length s.regs) s.order (wiring s) ks (outcome ks (wiring s)) plan in
    all_apart s ks up (walk s.order (wiring s) ks)
    (below_descends (parents_of s.defs) (kids_after s.order s.clocks ks) up depth depth (top_of ks) is lines (kids_are (length s.regs) s.order (wiring s) ks (outcome ks (wiring s)) plan))
    (λ d e p o q r first second off up' is'. behind_apart s.defs up' up ks d e p lines is' is over.leads.leads (planned_links s c ks over) first.chained second.chained off first.possible)

-- ---- whole scripts

-- the scene of a state without holds
pub free_scene : (s : State) → s.prepare_holds ≡ [] → s.enable_holds ≡ [] → scene None s ≡ holding (scene None s) [] [] None
free_scene s prepares enables =
    ap (λ (ps : List ℕ). let a : Scene = record (scene None s) { prepare_holds = ps } in a) prepares ∙ ap (λ (es : List ℕ). let a : Scene = record (scene None s) { prepare_holds = []; enable_holds = es } in a) enables

block_no_end : (defs : Description) (b f : Bool) (c p o : ℕ) → list_any is_end (block defs b f c p o) ≡ false
block_no_end defs true f c p o = refl
block_no_end defs false true c p o = refl
block_no_end defs false false c p o = refl

pub feeding_no_end : NoFeeding is_end
feeding_no_end micro.End e = absurd cc
feeding_no_end m e = refl

-- the clocks of a chain are registered
chain_there : (s : State) (ks : List ChainStep) → AllByRecursion (StepsRooted (wiring s)) ks → (c : ℕ) → list_any (λ k. k.clock == c) ks ≡ true → registered s.clocks c ≡ true
chain_there s [] steps c m = absurd cc
chain_there s (k ∷ ks) steps c m = by_test (k.clock == c) refl m (λ n. chain_there s ks steps.1 c n) where
  by_test : (t : Bool) → (k.clock == c) ≡ t → (t || list_any (λ l. l.clock == c) ks) ≡ true → (list_any (λ l. l.clock == c) ks ≡ true → registered s.clocks c ≡ true) → registered s.clocks c ≡ true
  by_test true e n later = subst (λ (y : ℕ). registered s.clocks y ≡ true) (same_from_test k.clock c e) steps.0.own.there
  by_test false e n later = later n

-- the clock that runs while another is set is registered
runs_there : (s : State) (d : ℕ) (ks : List ChainStep) → PlanOver s d ks → (c x : ℕ) → runs_for s.defs s.clocks ks c ≡ Some x → registered s.clocks x ≡ true
runs_there s d ks over c x at =
    by_chain (list_any (λ k. k.clock == c) ks && has_setting (kind_of s.defs c)) refl (runs_to_set s.defs c) (runs_parent s.defs c) at where
      own : registered s.clocks c ≡ true → Some c ≡ Some x → registered s.clocks x ≡ true
      own there e = let same : c ≡ x = cc in subst (λ (y : ℕ). registered s.clocks y ≡ true) same there

      by_chain : (t : Bool) → (list_any (λ k. k.clock == c) ks && has_setting (kind_of s.defs c)) ≡ t → (u v : Bool) → (if t then (if u then Some c else if v then link_in s.clocks c else None) else None) ≡ Some x → registered s.clocks x ≡ true
      by_chain false e u v f = absurd cc
      by_chain true e true v f = own (chain_there s ks over.steps c (both_left (list_any (λ k. k.clock == c) ks) (has_setting (kind_of s.defs c)) e)) f
      by_chain true e false true f = (over.fit.sound.tree.linked c x f).1
      by_chain true e false false f = absurd cc

moves_no_end : (s : State) (d : ℕ) (ks : List ChainStep) → PlanOver s d ks → (c : ℕ) → list_any is_end (move_of s.defs s.clocks (prepared s) ks c) ≡ false
moves_no_end s d ks over c =
    elim (movers_of s d ks over c) [
      | inl none ↦ ap (list_any is_end) none
      | inr mover ↦ ap (list_any is_end) mover.3 ∙ block_no_end s.defs (prepared s c) (runs_parent s.defs c) c mover.0 mover.1
    ]

walk_over : (s : State) (what : Sleeping) (c : ℕ) (ks : List ChainStep) (settles : List Micro) → PlanOver s c ks → CutsAt what
    → ((timed : Bool) (cover : List ℕ) (a : Scene) → EndsPrepare what timed cover a) → list_all leaves_scene settles ≡ true → list_any is_end settles ≡ false → behind_lets (settles ++ micro.End ∷ []) ≡ settles ++ micro.End ∷ []
    → WalkOver s what ks (settles ++ micro.End ∷ [])
walk_over s what c ks settles over cuts no_prepare leaves none stays = record {
  ends = lines_end (length s.regs) s.defs over.fit.wired.valid;
  fits = settings_fit (length s.regs) s.defs over.fit.wired.valid;
  cuts = cuts;
  no_prepare = no_prepare;
  tail_ends = from_first_past is_end settles (micro.End ∷ []) none;
  tail_stays = stays;
  runs_there = runs_there s c ks over;
  tail_goes = λ timed a sound.
      goes_past s.defs what timed (holding a [] [] None) settles (micro.End ∷ []) leaves sound (ends sound (record { prepares = refl; enables = refl; late = refl }) tt (no_prepare timed [] (holding a [] [] None)));
  no_end = λ cs. none_flat_map is_end (walked_at s ks) cs (λ d. none_append is_end (move_of s.defs s.clocks (prepared s) ks d) (visit_of s.defs s.clocks ks d) (moves_no_end s c ks over d) (none_fed is_end (runs_for s.defs s.clocks ks d) (micro.Visit (clock_id d)) feeding_no_end refl));
  movers = movers_of s c ks over;
}

to_walk : (s : State) (c : ℕ) (ks : List ChainStep) → PlanOver s c ks → ToWalk s ks (scene None s) (walk s.order (wiring s) ks)
to_walk s c ks over =
    let free = free_scene s over.prepares over.enables in
    record {
      sound = subst (λ (a : Scene). IsSound s.defs a) free over.fit.sound;
      there = λ x m. m;
      once = ((walks_list (length s.regs) s.order (wiring s) c ks over.fit.wired over.order over.leads).0).once;
      apart = walk_apart s c ks over;
      be = λ d p o m mover. (
        record {
          will = record { possible = mover.possible; there = mover.there; parent_there = mover.parent_there; from = inl mover.root };
          kept = ap (λ (a : Scene). prepared_in s.defs a d) (sym free);
        },
        mover.link,
      );
    }

-- the script of a planned chain goes well
pub planned_goes : (s : State) (what : Sleeping) (c : ℕ) (ks : List ChainStep) (settles : List Micro) → PlanOver s c ks → CutsAt what
    → ((timed : Bool) (cover : List ℕ) (a : Scene) → EndsPrepare what timed cover a) → list_all leaves_scene settles ≡ true → list_any is_end settles ≡ false → behind_lets (settles ++ micro.End ∷ []) ≡ settles ++ micro.End ∷ []
    → GoesWell s.defs what false [] (scene None s) (planned s ks settles).steps
unfolding planned
planned_goes s what c ks settles over cuts no_prepare leaves none stays =
    subst (λ (a : Scene). GoesWell s.defs what false [] a (planned s ks settles).steps) (sym free)
    (subst (λ (ms : List Micro). GoesWell s.defs what false [] b ms) (sym (append_assoc (pre_notices s ks) (middle (list_any is_veto (pre_notices s ks))) (micro.End ∷ [])))
    (goes_past s.defs what false b (pre_notices s ks) (middle (list_any is_veto (pre_notices s ks)) ++ micro.End ∷ []) (leaves_notices s ks) sound (by_veto (list_any is_veto (pre_notices s ks))))) where
      b : Scene
      b = holding (scene None s) [] [] None

      free : scene None s ≡ b
      free = free_scene s over.prepares over.enables

      sound : IsSound s.defs b
      sound = subst (λ (a : Scene). IsSound s.defs a) free over.fit.sound

      middle : Bool → List Micro
      middle v = if v then abort_notices s ks else walked s ks ++ settles

      by_veto : (v : Bool) → GoesWell s.defs what false [] b (middle v ++ micro.End ∷ [])
      by_veto true =
          goes_past s.defs what false b (abort_notices s ks) (micro.End ∷ []) (leaves_aborts s ks) sound (ends sound (record { prepares = refl; enables = refl; late = refl }) tt (no_prepare false [] b))
      by_veto false =
          subst (λ (ms : List Micro). GoesWell s.defs what false [] b ms) (sym (append_assoc (walked s ks) settles (micro.End ∷ [])))
          (walked_goes s what ks (settles ++ micro.End ∷ []) (walk s.order (wiring s) ks) false (scene None s) (walk_over s what c ks settles over cuts no_prepare leaves none stays) (to_walk s c ks over))
