-- Laws on registrations and sweeps: their scripts go well over a state at rest.
use Rattle.std.proofs.Common.{◌≡◌, ℕ, ◌≤◌, Bool, true, false, not, ◌&&◌, map, List, [], ◌∷◌, ◌++◌, Option, Some, None, refl, sym, ap, subst, ◌∙◌, ◌⊎◌, inl, inr, arith, length}
use Rattle.std.specs.Prelude.{filter, flat_map, if◌then◌else◌, is_none, option_map}
use Rattle.std.specs.Option.{option_map_or}
use Rattle.std.proofs.lemmas.List.{append_assoc}
use Rattle.clk_base.specs.declared.call.Micro.{Micro}
use Rattle.clk_base.specs.declared.call.Micro.TheVariants as micro
use Rattle.clk_base.specs.declared.call.Sleeping.TheVariants as call
use Rattle.clk_base.specs.declared.clock.ClockId.{ClockId}
use Rattle.clk_base.specs.Description.{Description, kind_of, parents_of}
use Rattle.clk_base.specs.Flags.{runs_parent, is_critical, ignores_unused}
use Rattle.clk_base.specs.Valid.{IsValid}
use Rattle.clk_base.proofs.Valid.{lines_end}
use Rattle.clk_model.specs.Lists.{is_in, none_twice}
use Rattle.clk_model.specs.Kinds.{is_fixed}
use Rattle.clk_model.specs.State.{State, registered, link_in}
use Rattle.clk_model.specs.Tree.{path_to_be, link_given, is_orphan, orphans}
use Rattle.clk_model.specs.Holders.{is_prepared, active, prepared}
use Rattle.clk_model.specs.Chain.{clock_id}
use Rattle.clk_model.specs.Script.{unfeed, fed_step, close_of, adoptable, adoption, adoption_order, probe_script, sweep_order, lets_through, runs, sweep_script}
use Rattle.clk_model.specs.Begin.{register}
use Rattle.clk_model.specs.Step.{behind_lets, is_end}
use Rattle.clk_model.proofs.FeedLaws.{close_left}
use Rattle.clk_model.proofs.BlockLaws.{fed_goes}
use Rattle.clk_base.proofs.Valid.{lines_end}
use Rattle.clk_model.specs.Laws.LinksKept.{KeepsLinks}
use Rattle.clk_model.proofs.Members.{is_in_head, is_in_tail, both_right}
use Rattle.clk_model.proofs.OnceLaws.{once_filter, is_in-filter, filter_passes}
use Rattle.clk_model.proofs.StateLaws.{in_clocks_of}
use Rattle.clk_model.proofs.OutcomeLaws.{SettingsFit}
use Rattle.clk_model.proofs.SettingLaws.{settings_fit}
use Rattle.clk_model.proofs.PllLaws.{selected_possible, link_given_possible}
use Rattle.clk_model.proofs.WalkLaws.{turned_off}
use Rattle.clk_model.proofs.LinkBegins.{keeps_register}
use Rattle.clk_model.proofs.Scenes.{Scene, scene, holding, prepared_in, given_in, to_be, IsSound, after, GoesWell, raises, uncovered, makes, ends}
use Rattle.clk_model.proofs.ArriveLaws.{IsFit, to_be_told}
use Rattle.clk_model.proofs.SceneStepLaws.{register_scene, parent_lt}
use Rattle.clk_model.proofs.WalkGoLaws.{from_first_past}
use Rattle.clk_model.proofs.PlanGoLaws.{free_scene}
use Rattle.clk_model.proofs.RegisterGoLaws.{CanRegister, given_is, register_sound, register_prepares, register_keeps}
use Rattle.clk_model.proofs.AdoptGoLaws.{adopts, ToAdopt, adoptions_no_end, adopted_goes, ordered_in, ordered_once, ordered_next}

-- a fit state between calls, whose order is kept
pub record Resting (s : State) : Type 0 where
  pub fit : IsFit None s
  pub prepares : s.prepare_holds ≡ []
  pub enables : s.enable_holds ≡ []
  pub keeps : KeepsLinks s

-- ---- the registration itself

pub can_register : (s : State) (c : ℕ) → Resting s → registered s.clocks c ≡ false → CanRegister s.defs (scene None s) c
can_register s c rest free = record {
  lines = lines_end (length s.regs) s.defs rest.fit.wired.valid;
  sound = subst (λ (a : Scene). IsSound s.defs a) (free_scene s rest.prepares rest.enables) rest.fit.sound;
  free = free;
  possible = λ p e. selected_possible s.defs s.regs c p e;
  used = λ h m.
      let found = in_clocks_of is_prepared s.handles h m in
      (rest.fit.sound.tree.rooted found.0 h (ap (option_map (λ r. r.clock.0)) found.2 ∙ ap (λ (x : ℕ). Some x) found.3)).0;
}

-- the scene behind it
pub registered_scene : (s : State) (c : ClockId) → Resting s → after s.defs (holding (scene None s) [] [] None) (micro.Register c) ≡ scene None (register s c.0)
registered_scene s c rest =
    ap (λ (a : Scene). after s.defs a (micro.Register c)) (sym (free_scene s rest.prepares rest.enables)) ∙ sym (register_scene s c None rest.fit.wired.rows)

-- it is sound
pub registered_sound : (s : State) (c : ClockId) → Resting s → registered s.clocks c.0 ≡ false → IsSound s.defs (scene None (register s c.0))
registered_sound s c rest free = subst (λ (a : Scene). IsSound s.defs a) (registered_scene s c rest) (register_sound s.defs (scene None s) c (can_register s c.0 rest free))

-- what it prepares was prepared, or is on the path that a critical clock was to have
pub registered_prepares : (s : State) (c : ClockId) (x : ℕ) → Resting s → registered s.clocks c.0 ≡ false → prepared_in s.defs (scene None (register s c.0)) x ≡ true
    → (prepared s x ≡ true) ⊎ ((is_critical s.defs c.0 ≡ true) × (is_in x (path_to_be s.defs s.regs s.clocks c.0) ≡ true))
registered_prepares s c x rest free prep =
    elim (register_prepares s.defs (scene None s) c x (can_register s c.0 rest free) (ap (λ (a : Scene). prepared_in s.defs a x) (registered_scene s c rest) ∙ prep)) [
      | inl was ↦ inl (ap (λ (a : Scene). prepared_in s.defs a x) (free_scene s rest.prepares rest.enables) ∙ was)
      | inr new ↦ inr (new.0, ap (is_in x) (to_be_told None s (scene None s) c.0 refl) ∙ new.1)
    ]

-- ---- what can be adopted

register_holds : (s : State) (c : ℕ) → ((register s c).prepare_holds ≡ s.prepare_holds) × ((register s c).enable_holds ≡ s.enable_holds) × ((register s c).defs ≡ s.defs)
unfolding register
register_holds s c = (refl, refl, refl)

none_linked : (o : Option ℕ) → is_none o ≡ true → o ≡ None
none_linked None e = refl
none_linked (Some x) e = absurd cc

-- an orphan that can be adopted has no link, and its parent is there
pub record CanAdopt (r : State) (d : ℕ) : Type 0 where
  pub unlinked : link_in r.clocks d ≡ None
  pub listed : is_in d r.order ≡ true

pub can_adopt : (r : State) (d : ℕ) → is_in d (adoptable r) ≡ true → CanAdopt r d
can_adopt r d m =
    let orphan = is_in-filter (λ a. option_map_or (λ p. true) (link_given r.defs r.regs r.clocks a) false) d (orphans r.defs r.order r.clocks) m in
    let is = filter_passes (is_orphan r.defs r.clocks) d r.order orphan in
    record {
      unlinked = none_linked (link_in r.clocks d) (both_right (not (is_fixed (kind_of r.defs d))) (is_none (link_in r.clocks d)) is);
      listed = is_in-filter (is_orphan r.defs r.clocks) d r.order orphan;
    }

given_of : (r : State) (d p : ℕ) → adopts r d p → given_in (scene None r) d ≡ Some p
unfolding link_given
given_of r d p at = at

to_adopt : (r : State) → IsSound r.defs (scene None r) → KeepsLinks r → r.prepare_holds ≡ [] → r.enable_holds ≡ [] → ToAdopt r (scene None r) (adoption_order (length (adoptable r)) r (adoptable r))
to_adopt r sound keeps prepares enables =
    let once : none_twice (adoptable r) ≡ true = once_filter (λ a. option_map_or (λ p. true) (link_given r.defs r.regs r.clocks a) false) (orphans r.defs r.order r.clocks) (once_filter (is_orphan r.defs r.clocks) r.order keeps.order.once) in
    let free = free_scene r prepares enables in
    record {
      sound = subst (λ (a : Scene). IsSound r.defs a) free sound;
      once = ordered_once (length (adoptable r)) r (adoptable r) once;
      next = ordered_next (length (adoptable r)) r (adoptable r) keeps.ends sound.tree.possible once (λ d m. (can_adopt r d m).unlinked);
      be = λ d p m at.
          let can = can_adopt r d (ordered_in (length (adoptable r)) r (adoptable r) d m) in
          let given = given_is (scene None r) d p (given_of r d p at) in
          let possible = link_given_possible r.defs r.regs r.clocks d p at in (
            record {
              will = record { possible = possible; there = there d p possible (sound.tree.listed d can.listed); parent_there = given.1; from = inr can.unlinked };
              kept = ap (λ (a : Scene). prepared_in r.defs a d) (sym free);
            },
            can.unlinked,
            given.0,
          );
    } where
      there : (d p : ℕ) → is_in p (parents_of r.defs d) ≡ true → (registered r.clocks d ≡ true) ⊎ (length r.defs ≤ d) → registered r.clocks d ≡ true
      there d p m (inl is) = is
      there d p m (inr beyond) = absurd (let inside = parent_lt r.defs d p m in omega arith)

-- ---- the script of a registration

-- it goes well
pub probe_goes : (s : State) (c : ClockId) → Resting s → registered s.clocks c.0 ≡ false → GoesWell s.defs (call.Probe c) false [] (scene None s) (probe_script (register s c.0) c.0)
unfolding probe_script
probe_goes s c rest free = by_critical (is_critical (register s c.0).defs c.0) (ap (λ (d : Description). is_critical d c.0) same_defs) where
  r : State
  r = register s c.0

  same_defs : r.defs ≡ s.defs
  same_defs = (register_holds s c.0).2

  adoptions : List Micro
  adoptions = flat_map (adoption r) (adoption_order (length (adoptable r)) r (adoptable r))

  a : Scene
  a = scene None s

  b : Scene
  b = after s.defs a (micro.Register c)

  sound_r : IsSound r.defs (scene None r)
  sound_r = subst (λ (d : Description). IsSound d (scene None r)) (sym same_defs) (registered_sound s c rest free)

  keeps_r : KeepsLinks r
  keeps_r = keeps_register s c.0 rest.keeps

  fits_r : SettingsFit r.defs
  fits_r = settings_fit (length s.regs) r.defs (subst (λ (d : Description). IsValid (length s.regs) d) (sym same_defs) rest.fit.wired.valid)

  -- the adoptions behind it
  rest_goes : (timed : Bool) → GoesWell s.defs (call.Probe c) timed [] b (adoptions ++ micro.End ∷ [])
  rest_goes timed =
      let prepares = (register_holds s c.0).0 ∙ rest.prepares in
      let enables = (register_holds s c.0).1 ∙ rest.enables in
      let goes =
      adopted_goes r c (adoption_order (length (adoptable r)) r (adoptable r)) timed (scene None r) keeps_r.ends fits_r (to_adopt r sound_r keeps_r prepares enables) in
      subst (λ (x : Scene). GoesWell s.defs (call.Probe c) timed [] x (adoptions ++ micro.End ∷ [])) (register_scene s c None rest.fit.wired.rows)
      (subst (λ (d : Description). GoesWell d (call.Probe c) timed [] (scene None r) (adoptions ++ micro.End ∷ [])) same_defs
      (subst (λ (x : Scene). GoesWell r.defs (call.Probe c) timed [] x (adoptions ++ micro.End ∷ [])) (sym (free_scene r prepares enables)) goes))

  grows : (x : ℕ) → prepared_in s.defs b x ≡ true → (prepared_in s.defs a x ≡ true) ⊎ ((is_critical s.defs c.0 ≡ true) × (is_in x (to_be a c.0) ≡ true))
  grows x prep =
      elim (registered_prepares s c x rest free (ap (λ (y : Scene). prepared_in s.defs y x) (register_scene s c None rest.fit.wired.rows) ∙ prep)) [
        | inl was ↦ inl was
        | inr new ↦ inr (new.0, ap (is_in x) (sym (to_be_told None s a c.0 refl)) ∙ new.1)
      ]

  stays : (x : ℕ) → (prepared_in s.defs a x ≡ true) ⊎ ((is_critical s.defs c.0 ≡ true) × (is_in x (to_be a c.0) ≡ true)) → prepared_in s.defs b x ≡ true
  stays x was =
      subst (λ (y : Scene). prepared_in s.defs (after s.defs y (micro.Register c)) x ≡ true) (sym (free_scene s rest.prepares rest.enables))
      (register_keeps s.defs a c x (can_register s c.0 rest free)
      (elim was [
        | inl prep ↦ inl (subst (λ (y : Scene). prepared_in s.defs y x ≡ true) (free_scene s rest.prepares rest.enables) prep)
        | inr new ↦ inr new
      ]))

  only_end : (timed : Bool) → GoesWell s.defs (call.Probe c) timed [] a (micro.End ∷ [])
  only_end timed = ends rest.fit.sound (record { prepares = rest.prepares; enables = rest.enables; late = refl }) tt (λ h e. absurd cc)

  by_critical : (t : Bool) → t ≡ is_critical s.defs c.0
      → GoesWell s.defs (call.Probe c) false [] a ((((if t then micro.Raise (clock_id c.0) ∷ [] else []) ++ micro.Register (clock_id c.0) ∷ []) ++ adoptions) ++ micro.End ∷ [])
  by_critical true is =
      raises (clock_id c.0) rest.fit.sound
      (makes {cover = c.0 ∷ []} (micro.Register (clock_id c.0)) refl rest.fit.sound (refl, refl) (λ x prep. elim (grows x prep) [ inl was ↦ inl was | inr new ↦ inr new.1 ]) (λ x was. inl (stays x (elim was [ inl prep ↦ inl prep | inr covered ↦ inr (sym is, covered) ]))) (rest_goes false))
      (subst (λ (ms : List Micro). GoesWell s.defs (call.Probe c) true [] a ms)
      (sym (from_first_past is_end adoptions (micro.End ∷ []) (adoptions_no_end r (adoption_order (length (adoptable r)) r (adoptable r))))) (only_end true))
  by_critical false is =
      makes {cover = []} (micro.Register (clock_id c.0)) refl rest.fit.sound tt
      (λ x prep. elim (grows x prep) [ inl was ↦ inl was | inr new ↦ absurd (let no : false ≡ true = is ∙ new.0 in cc) ]) (λ x was. inl (stays x (uncovered was))) (rest_goes false)

-- ---- the sweep

unpowers_go : (s : State) (timed : Bool) (cs : List ℕ) → Resting s → ((c : ℕ) → is_in c cs ≡ true → prepared s c ≡ false)
    → GoesWell s.defs call.Sweep timed [] (scene None s) (map (λ c. micro.Unpower (clock_id c)) cs ++ micro.End ∷ [])
unpowers_go s timed [] rest idle = ends rest.fit.sound (record { prepares = rest.prepares; enables = rest.enables; late = refl }) tt (λ h e. absurd cc)
unpowers_go s timed (c ∷ cs) rest idle =
    makes (micro.Unpower (clock_id c)) refl rest.fit.sound (idle c (is_in_head c cs)) (λ d prep. inl prep) (λ d was. uncovered was) (unpowers_go s timed cs rest (λ d m. idle d (is_in_tail d c cs m)))

-- what is left of a sweep doesn't begin with a step that lets go
unpowers_stay : (cs : List ℕ) → behind_lets (map (λ c. micro.Unpower (clock_id c)) cs ++ micro.End ∷ []) ≡ map (λ c. micro.Unpower (clock_id c)) cs ++ micro.End ∷ []
unpowers_stay [] = refl
unpowers_stay (c ∷ cs) = refl

closes_stay : (s : State) (cs : List ℕ) (ms : List Micro) → behind_lets ms ≡ ms → behind_lets (flat_map (close_of s.defs s.clocks) cs ++ ms) ≡ flat_map (close_of s.defs s.clocks) cs ++ ms
closes_stay s [] ms stays = stays
closes_stay s (c ∷ cs) ms stays = one (if runs_parent s.defs c then link_in s.clocks c else None) where
  one : (o : Option ℕ) → behind_lets ((fed_step o (micro.Close (clock_id c)) ++ flat_map (close_of s.defs s.clocks) cs) ++ ms) ≡ (fed_step o (micro.Close (clock_id c)) ++ flat_map (close_of s.defs s.clocks) cs) ++ ms
  one None = refl
  one (Some o) = refl

-- the gates are closed well, whichever a timeout leaves open
closes_go : (s : State) (timed : Bool) (cs : List ℕ) (ms : List Micro) → Resting s → behind_lets ms ≡ ms → ((timed' : Bool) → GoesWell s.defs call.Sweep timed' [] (holding (scene None s) [] [] None) ms)
    → GoesWell s.defs call.Sweep timed [] (holding (scene None s) [] [] None) (flat_map (close_of s.defs s.clocks) cs ++ ms)
closes_go s timed [] ms rest stays goes = goes timed
closes_go s timed (c ∷ cs) ms rest stays goes =
    subst (λ (ns : List Micro). GoesWell s.defs call.Sweep timed [] a ns) (sym (append_assoc (close_of s.defs s.clocks c) (flat_map (close_of s.defs s.clocks) cs) ms))
    (by_link (if runs_parent s.defs c then link_in s.clocks c else None) (λ o at. linked_there (runs_parent s.defs c) o at) (λ timed'. closes_go s timed' cs ms rest stays goes)) where
      a : Scene
      a = holding (scene None s) [] [] None

      left : List Micro
      left = flat_map (close_of s.defs s.clocks) cs ++ ms

      sound : IsSound s.defs a
      sound = subst (λ (b : Scene). IsSound s.defs b) (free_scene s rest.prepares rest.enables) rest.fit.sound

      linked_there : (t : Bool) (o : ℕ) → (if t then link_in s.clocks c else None) ≡ Some o → registered s.clocks o ≡ true
      linked_there true o at = (sound.tree.linked c o at).1
      linked_there false o at = absurd cc

      by_link : (o : Option ℕ) → ((p : ℕ) → o ≡ Some p → registered s.clocks p ≡ true) → ((timed' : Bool) → GoesWell s.defs call.Sweep timed' [] a left) → GoesWell s.defs call.Sweep timed [] a (fed_step o (micro.Close (clock_id c)) ++ left)
      by_link None there more = makes (micro.Close (clock_id c)) refl sound tt (λ d prep. inl prep) (λ d was. uncovered was) (more timed)
      by_link (Some p) there more =
          fed_goes s.defs call.Sweep timed (scene None s) p (micro.Close (clock_id c)) left (lines_end (length s.regs) s.defs rest.fit.wired.valid) sound (there p refl)
          (λ b ns sound' goes'. makes (micro.Close (clock_id c)) refl sound' tt (λ d prep. inl prep) (λ d was. uncovered was) goes')
          (subst (λ (ns : List Micro). GoesWell s.defs call.Sweep true [] a ns)
          (sym (close_left (micro.HoldPrepare (clock_id p) ∷ micro.HoldEnable (clock_id p) ∷ []) (unfeed p) left c refl refl (closes_stay s cs ms stays))) (more true))
          (more timed)

-- it goes well
pub sweep_goes : (s : State) → Resting s → GoesWell s.defs call.Sweep false [] (scene None s) (sweep_script s)
unfolding sweep_script
sweep_goes s rest =
    let closes : List ℕ = filter (λ c. not (ignores_unused s.defs c) && lets_through s.defs s.regs c && not (active s c)) (sweep_order s) in
    let unpowers : List ℕ = filter (λ c. not (ignores_unused s.defs c) && runs s.defs s.regs c && not (prepared s c)) (sweep_order s) in
    let free = free_scene s rest.prepares rest.enables in
    subst (λ (a : Scene). GoesWell s.defs call.Sweep false [] a (sweep_script s)) (sym free)
    (subst (λ (ms : List Micro). GoesWell s.defs call.Sweep false [] (holding (scene None s) [] [] None) ms)
    (sym (append_assoc (flat_map (close_of s.defs s.clocks) closes) (map (λ c. micro.Unpower (clock_id c)) unpowers) (micro.End ∷ [])))
    (closes_go s false closes (map (λ c. micro.Unpower (clock_id c)) unpowers ++ micro.End ∷ []) rest (unpowers_stay unpowers)
    (λ timed. subst (λ (a : Scene). GoesWell s.defs call.Sweep timed [] a (map (λ c. micro.Unpower (clock_id c)) unpowers ++ micro.End ∷ [])) free
    (unpowers_go s timed unpowers rest
    (λ c m.
    turned_off (prepared s c)
    (both_right (not (ignores_unused s.defs c) && runs s.defs s.regs c) (not (prepared s c)) (filter_passes (λ d. not (ignores_unused s.defs d) && runs s.defs s.regs d && not (prepared s d)) c (sweep_order s) m)))))))
