-- Laws on states between calls: what a changed, a new and a taken handle and new requests leave of a fit state.
use Rattle.std.proofs.Common.{◌≡◌, ℕ, zero, suc, ◌<◌, ◌||◌, Bool, true, false, cond, map, set, List, [], ◌∷◌, ◌++◌, Option, Some, None, refl, sym, ap, subst, ◌∙◌, ◌⊎◌, inl, inr, arith, length, nat_lt}
use Rattle.std.proofs.Math.Path.{fun_ext}
use Rattle.std.proofs.lemmas.Bool.Decides.{nat_tests}
use Rattle.std.specs.Prelude.{IfSome, filter, option_map}
use Rattle.clk_base.specs.Description.{Description, kind_of}
use Rattle.clk_base.specs.Fields.{gate_of, power_of}
use Rattle.reg_bank.specs.Registers.{Registers}
use Rattle.clk_model.specs.declared.row.HandleRow.{HandleRow}
use Rattle.clk_model.specs.Lists.{is_in, present}
use Rattle.clk_model.specs.Kinds.{is_open, is_powered}
use Rattle.clk_model.specs.State.{State, Change, NotifierRow, row_of, registered, link_in, handle_at, requested}
use Rattle.clk_model.specs.Holders.{clocks_of, is_prepared, critical_clocks, is_held, prepared}
use Rattle.clk_model.specs.Round.{wiring}
use Rattle.clk_model.specs.Begin.{put_handle}
use Rattle.clk_model.specs.Wired.{IsWired}
use Rattle.clk_model.specs.Laws.Supplied.{GatesOpen}
use Rattle.clk_model.proofs.HolderLaws.{is_under, held_by, held_by-append, held_by-set_none, held_by-set_more}
use Rattle.clk_model.proofs.StateLaws.{handle_at-set_same, set-back}
use Rattle.clk_model.proofs.HoldSteps.{link_set_same}
use Rattle.clk_model.proofs.SupplyLaws.{prepared_parts}
use Rattle.clk_model.proofs.AboveLaws.{HasRoot}
use Rattle.clk_model.proofs.Scenes.{Scene, scene, IsSound, EnablesPrepared, PowersOn}
use Rattle.clk_model.proofs.SceneStepLaws.{registered_set, regained}
use Rattle.clk_model.proofs.ArriveLaws.{IsFit, prepared_told}

-- ---- handles

-- a handle that passes as it did, on the same clock, leaves the clocks of those that pass
clocks_of-set : (test : HandleRow → Bool) (handles : List (Option HandleRow)) (n : ℕ) (old new : HandleRow) → handle_at handles n ≡ Some old → new.clock ≡ old.clock → test new ≡ test old
    → clocks_of test (set handles n (Some new)) ≡ clocks_of test handles
clocks_of-set test [] n old new at clock same = refl
clocks_of-set test (None ∷ handles) zero old new at clock same = absurd cc
clocks_of-set test (Some h ∷ handles) zero old new at clock same =
    let is : h ≡ old = cc in
    ap (λ (t : Bool). map (λ r. r.clock.0) (cond t (new ∷ filter test (present handles)) (filter test (present handles)))) (same ∙ ap test (sym is))
    ∙ by_test (test h) (clock ∙ ap (λ (r : HandleRow). r.clock) (sym is)) where
      by_test : (t : Bool) → new.clock ≡ h.clock
          → map (λ r. r.clock.0) (cond t (new ∷ filter test (present handles)) (filter test (present handles))) ≡ map (λ r. r.clock.0) (cond t (h ∷ filter test (present handles)) (filter test (present handles)))
      by_test true c = ap (λ (k : _). k.0 ∷ map (λ r. r.clock.0) (filter test (present handles))) c
      by_test false c = refl
clocks_of-set test (None ∷ handles) (suc n) old new at clock same = clocks_of-set test handles n old new at clock same
clocks_of-set test (Some h ∷ handles) (suc n) old new at clock same = by_test (test h) (clocks_of-set test handles n old new at clock same) where
  by_test : (t : Bool) → clocks_of test (set handles n (Some new)) ≡ clocks_of test handles
      → map (λ r. r.clock.0) (cond t (h ∷ filter test (present (set handles n (Some new)))) (filter test (present (set handles n (Some new)))))
      ≡ map (λ r. r.clock.0) (cond t (h ∷ filter test (present handles)) (filter test (present handles)))
  by_test true rest = ap (λ (cs : List ℕ). h.clock.0 ∷ cs) rest
  by_test false rest = rest

-- the clock of the handle of a number, if there is one
abbrev pub clock_of_handle : List (Option HandleRow) → ℕ → Option ℕ
clock_of_handle handles n = option_map (λ h. h.clock.0) (handle_at handles n)

-- it stays with such a handle
pub clock_at-set : (handles : List (Option HandleRow)) (n m : ℕ) (old new : HandleRow) → handle_at handles n ≡ Some old → new.clock ≡ old.clock
    → clock_of_handle (set handles n (Some new)) m ≡ clock_of_handle handles m
clock_at-set [] n m old new at clock = refl
clock_at-set (h ∷ handles) zero zero old new at clock = ap (λ (k : _). Some k.0) clock ∙ ap (option_map (λ r. r.clock.0)) (sym at)
clock_at-set (h ∷ handles) zero (suc m) old new at clock = refl
clock_at-set (h ∷ handles) (suc n) zero old new at clock = refl
clock_at-set (h ∷ handles) (suc n) (suc m) old new at clock = clock_at-set handles n m old new at clock

-- a handle that is set keeps the enabled ones prepared, if it is so itself
pub enables-set : (handles : List (Option HandleRow)) (n : ℕ) (new : HandleRow) → EnablesPrepared handles → (0 < new.enables → 0 < new.prepares) → EnablesPrepared (set handles n (Some new))
enables-set [] n new each own m h at on = each m h at on
enables-set (o ∷ handles) zero new each own zero h at on = let same : new ≡ h = cc in subst (λ (r : HandleRow). 0 < r.prepares) same (own (subst (λ (r : HandleRow). 0 < r.enables) (sym same) on))
enables-set (o ∷ handles) zero new each own (suc m) h at on = each (suc m) h at on
enables-set (o ∷ handles) (suc n) new each own zero h at on = each zero h at on
enables-set (o ∷ handles) (suc n) new each own (suc m) h at on = enables-set handles n new (λ i g at'. each (suc i) g at') own m h at on

pub enables-none : (handles : List (Option HandleRow)) (n : ℕ) → EnablesPrepared handles → EnablesPrepared (set handles n None)
enables-none [] n each m h at on = each m h at on
enables-none (o ∷ handles) zero each zero h at on = absurd cc
enables-none (o ∷ handles) zero each (suc m) h at on = each (suc m) h at on
enables-none (o ∷ handles) (suc n) each zero h at on = each zero h at on
enables-none (o ∷ handles) (suc n) each (suc m) h at on = enables-none handles n (λ i g at'. each (suc i) g at') m h at on

pub enables-more : (handles : List (Option HandleRow)) (new : HandleRow) → EnablesPrepared handles → (0 < new.enables → 0 < new.prepares) → EnablesPrepared (handles ++ Some new ∷ [])
enables-more [] new each own zero h at on = let same : new ≡ h = cc in subst (λ (r : HandleRow). 0 < r.prepares) same (own (subst (λ (r : HandleRow). 0 < r.enables) (sym same) on))
enables-more [] new each own (suc m) h at on = absurd cc
enables-more (o ∷ handles) new each own zero h at on = each zero h at on
enables-more (o ∷ handles) new each own (suc m) h at on = enables-more handles new (λ i g at'. each (suc i) g at') own m h at on

-- the clock of a handle is that of one that was there, or of the new one
pub clock_at-more : (handles : List (Option HandleRow)) (new : HandleRow) (m c : ℕ) → clock_of_handle (handles ++ Some new ∷ []) m ≡ Some c → (clock_of_handle handles m ≡ Some c) ⊎ (new.clock.0 ≡ c)
clock_at-more [] new zero c at = inr (let same : new.clock.0 ≡ c = cc in same)
clock_at-more [] new (suc m) c at = absurd cc
clock_at-more (o ∷ handles) new zero c at = inl at
clock_at-more (o ∷ handles) new (suc m) c at = clock_at-more handles new m c at

pub clock_at-none : (handles : List (Option HandleRow)) (n m c : ℕ) → clock_of_handle (set handles n None) m ≡ Some c → clock_of_handle handles m ≡ Some c
clock_at-none [] n m c at = at
clock_at-none (o ∷ handles) zero zero c at = absurd cc
clock_at-none (o ∷ handles) zero (suc m) c at = at
clock_at-none (o ∷ handles) (suc n) zero c at = at
clock_at-none (o ∷ handles) (suc n) (suc m) c at = clock_at-none handles n m c at

-- ---- states that are alike

-- two states have the same scene and registers, and enabled handles stay prepared
pub record Alike (s u : State) : Type 0 where
  pub defs : u.defs ≡ s.defs
  pub regs : u.regs ≡ s.regs
  pub scene_is : (late : Option ℕ) → scene late u ≡ scene late s
  pub enables : EnablesPrepared s.handles → EnablesPrepared u.handles

pub alike_self : (s : State) → Alike s s
alike_self s = record { defs = refl; regs = refl; scene_is = λ late. refl; enables = λ each. each }

pub alike_far : (s u v : State) → Alike s u → Alike u v → Alike s v
alike_far s u v first second = record {
  defs = second.defs ∙ first.defs;
  regs = second.regs ∙ first.regs;
  scene_is = λ late. second.scene_is late ∙ first.scene_is late;
  enables = λ each. second.enables (first.enables each);
}

-- a handle that changes in its exclusives or its range
pub alike_put : (s : State) (n : ℕ) (old new : HandleRow) → handle_at s.handles n ≡ Some old → new.clock ≡ old.clock → new.prepares ≡ old.prepares → new.enables ≡ old.enables
    → Alike s (put_handle s n (Some new))
alike_put s n old new at clock prepares enables = record {
  defs = refl;
  regs = refl;
  scene_is = λ late.
      ap (λ (ps : List ℕ). let a : Scene = record (scene late s) { prepares = ps; clock_at = clock_of_handle (set s.handles n (Some new)) } in a)
      (clocks_of-set is_prepared s.handles n old new at clock (ap (nat_lt 0) prepares))
      ∙ ap (λ (f : ℕ → Option ℕ). let a : Scene = record (scene late s) { clock_at = f } in a) (fun_ext (λ m. clock_at-set s.handles n m old new at clock));
  enables = λ each. enables-set s.handles n new each (λ on. let was = each n old at (omega arith) in omega arith);
}

-- a last request
pub alike_requested : (s : State) (c x : ℕ) → Alike s (record s { clocks = requested s.clocks c x })
alike_requested s c x = record {
  defs = refl;
  regs = refl;
  scene_is = λ late. regained (scene late s) (link_in (requested s.clocks c x)) (registered (requested s.clocks c x))
      (λ d. link_set_same s.clocks c (record (row_of s.clocks c) { last_request = x }) d refl) (λ d. registered_set s.clocks c (record (row_of s.clocks c) { last_request = x }) d refl);
  enables = λ each. each;
}

-- counters, the change and notifiers
pub alike_noted : (s : State) (change : Option Change) (notifiers : List NotifierRow) → Alike s (record s { change = change; notifiers = notifiers })
alike_noted s change notifiers = record { defs = refl; regs = refl; scene_is = λ late. refl; enables = λ each. each }

-- a state that is like a fit one is fit
pub fit_alike : (late : Option ℕ) (s u : State) → IsFit late s → Alike s u → IsWired (length u.regs) (wiring u) → IsFit late u
fit_alike late s u fit alike wired = record {
  wired = wired;
  sound = subst (λ (d : Description). IsSound d (scene late u)) (sym alike.defs) (subst (λ (a : Scene). IsSound s.defs a) (sym (alike.scene_is late)) fit.sound);
  enables = alike.enables fit.enables;
  powers = λ c prep.
      subst (λ (d : Description). IfSome (power_of (kind_of d c)) (λ power. is_powered u.regs power ≡ true)) (sym alike.defs)
      (subst (λ (regs : Registers). IfSome (power_of (kind_of s.defs c)) (λ power. is_powered regs power ≡ true)) (sym alike.regs)
      (fit.powers c (sym (prepared_told late late s u (scene late s) c alike.defs (alike.scene_is late)) ∙ prep)));
}

-- ---- states at rest

-- a sound scene without holds and a late mux, with other handles
sound_used : (defs : Description) (a : Scene) (ps : List ℕ) (clock_at : ℕ → Option ℕ) → IsSound defs a → a.enable_holds ≡ [] → a.late ≡ None
    → ((n c : ℕ) → clock_at n ≡ Some c → (a.there c ≡ true) × HasRoot defs a.up c) → IsSound defs (record a { prepares = ps; clock_at = clock_at })
sound_used defs a ps clock_at sound free on_time rooted = record {
  tree = record { possible = sound.tree.possible; linked = sound.tree.linked; rooted = rooted; listed = sound.tree.listed };
  fed = sound.fed;
  late_held = λ c p e. let none : None ≡ Some c = sym on_time ∙ e in absurd cc;
  holds = λ h m. let none : false ≡ true = sym (ap (is_in h) free) ∙ m in absurd cc;
}

-- a state with other handles is fit, where the clock of each has a root, and what they prepare is powered
fit_used : (s : State) (handles : List (Option HandleRow)) → IsFit None s → s.enable_holds ≡ []
    → ((n c : ℕ) → clock_of_handle handles n ≡ Some c → (registered s.clocks c ≡ true) × HasRoot s.defs (link_in s.clocks) c)
    → EnablesPrepared handles → PowersOn (record s { handles = handles }) → IsFit None (record s { handles = handles })
fit_used s handles fit free rooted enables powers = record {
  wired = record { valid = fit.wired.valid; rows = fit.wired.rows; links = fit.wired.links };
  sound = sound_used s.defs (scene None s) (clocks_of is_prepared handles) (clock_of_handle handles) fit.sound free refl rooted;
  enables = enables;
  powers = powers;
}

-- a new handle without prepares and enables, on a registered clock with a root
pub fit_given : (s : State) (new : HandleRow) → IsFit None s → s.enable_holds ≡ [] → registered s.clocks new.clock.0 ≡ true → HasRoot s.defs (link_in s.clocks) new.clock.0
    → new.prepares ≡ 0 → new.enables ≡ 0 → IsFit None (record s { handles = s.handles ++ Some new ∷ [] })
fit_given s new fit free there root none idle =
    fit_used s (s.handles ++ Some new ∷ []) fit free (λ n c at. rooted n c (clock_at-more s.handles new n c at)) (enables-more s.handles new fit.enables (λ on. absurd (omega arith)))
    (λ c prep. fit.powers c (sym (same c) ∙ prep)) where
      rooted : (n c : ℕ) → (clock_of_handle s.handles n ≡ Some c) ⊎ (new.clock.0 ≡ c) → (registered s.clocks c ≡ true) × HasRoot s.defs (link_in s.clocks) c
      rooted n c (inl at) = fit.sound.tree.rooted n c at
      rooted n c (inr same') = (subst (λ (x : ℕ). registered s.clocks x ≡ true) same' there, subst (λ (x : ℕ). HasRoot s.defs (link_in s.clocks) x) same' root)

      same : (c : ℕ) → prepared (record s { handles = s.handles ++ Some new ∷ [] }) c ≡ prepared s c
      same c =
          prepared_parts (record s { handles = s.handles ++ Some new ∷ [] }) c
          ∙ ap (λ (t : Bool). (t || is_held s.clocks (critical_clocks s) c) || is_held s.clocks s.prepare_holds c) (held_by-append s.clocks is_prepared s.handles new c (ap (nat_lt 0) none))
          ∙ sym (prepared_parts s c)

-- a handle without prepares is taken away
pub fit_taken : (s : State) (n : ℕ) (old : HandleRow) → IsFit None s → s.enable_holds ≡ [] → handle_at s.handles n ≡ Some old → old.prepares ≡ 0 → IsFit None (put_handle s n None)
fit_taken s n old fit free at none =
    fit_used s (set s.handles n None) fit free (λ m c at'. fit.sound.tree.rooted m c (clock_at-none s.handles n m c at')) (enables-none s.handles n fit.enables)
    (λ c prep. fit.powers c (sym (same c) ∙ prep)) where
      same : (c : ℕ) → prepared (put_handle s n None) c ≡ prepared s c
      same c =
          prepared_parts (put_handle s n None) c
          ∙ ap (λ (t : Bool). (t || is_held s.clocks (critical_clocks s) c) || is_held s.clocks s.prepare_holds c) (held_by-set_none s.clocks is_prepared s.handles n old c at (ap (nat_lt 0) none))
          ∙ sym (prepared_parts s c)

-- a handle gets another number of prepares
pub fit_counted : (s : State) (n : ℕ) (old new : HandleRow) → IsFit None s → s.enable_holds ≡ [] → handle_at s.handles n ≡ Some old → new.clock ≡ old.clock
    → (0 < new.enables → 0 < new.prepares) → PowersOn (put_handle s n (Some new)) → IsFit None (put_handle s n (Some new))
fit_counted s n old new fit free at clock own powers =
    fit_used s (set s.handles n (Some new)) fit free (λ m c at'. fit.sound.tree.rooted m c (sym (clock_at-set s.handles n m old new at clock) ∙ at')) (enables-set s.handles n new fit.enables own) powers

-- what one prepare more prepares was prepared, or is on the path of its clock
pub prepared_more : (s : State) (n : ℕ) (old new : HandleRow) (c : ℕ) → handle_at s.handles n ≡ Some old → new.clock ≡ old.clock → 0 < new.prepares → prepared (put_handle s n (Some new)) c ≡ true
    → (prepared s c ≡ true) ⊎ (is_under s.clocks old c ≡ true)
prepared_more s n old new c at clock some prep = by_parts (held_by s.clocks is_prepared s.handles c) (is_under s.clocks old c) (is_held s.clocks (critical_clocks s) c) (is_held s.clocks s.prepare_holds c) (prepared_parts s c)
    (sym (ap (λ (t : Bool). (t || is_held s.clocks (critical_clocks s) c) || is_held s.clocks s.prepare_holds c) (held_by-set_more s.clocks is_prepared s.handles n old new c at clock (grind (arith, nat_tests))))
    ∙ sym (prepared_parts (put_handle s n (Some new)) c) ∙ prep) where
      by_parts : (a u b h : Bool) → prepared s c ≡ ((a || b) || h) → (((a || u) || b) || h) ≡ true → (prepared s c ≡ true) ⊎ (u ≡ true)
      by_parts true u b h is e = inl is
      by_parts false true b h is e = inr refl
      by_parts false false b h is e = inl (is ∙ e)

-- what one prepare less prepares was prepared
pub prepared_less : (s : State) (n : ℕ) (old new : HandleRow) (c : ℕ) → handle_at s.handles n ≡ Some old → new.clock ≡ old.clock → 0 < old.prepares → prepared (put_handle s n (Some new)) c ≡ true
    → prepared s c ≡ true
prepared_less s n old new c at clock some prep =
    by_parts (held_by s.clocks is_prepared (set s.handles n (Some new)) c) (is_under s.clocks new c) (is_held s.clocks (critical_clocks s) c) (is_held s.clocks s.prepare_holds c) (held_by s.clocks is_prepared s.handles c)
    (ap (λ (hs : List (Option HandleRow)). held_by s.clocks is_prepared hs c) (sym (set-back s.handles n old new at))
    ∙ held_by-set_more s.clocks is_prepared (set s.handles n (Some new)) n new old c (handle_at-set_same s.handles n old new at) (sym clock) (grind (arith, nat_tests)))
    (prepared_parts s c) (sym (prepared_parts (put_handle s n (Some new)) c) ∙ prep) where
      by_parts : (a u b h w : Bool) → w ≡ (a || u) → prepared s c ≡ ((w || b) || h) → ((a || b) || h) ≡ true → prepared s c ≡ true
      by_parts true u b h w is parts e = parts ∙ ap (λ (t : Bool). (t || b) || h) is
      by_parts false u true h w is parts e = parts ∙ ap (λ (t : Bool). (t || true) || h) is ∙ both u where
        both : (v : Bool) → (((false || v) || true) || h) ≡ true
        both true = refl
        both false = refl
      by_parts false u false true w is parts e = parts ∙ ap (λ (t : Bool). (t || false) || true) is ∙ both u where
        both : (v : Bool) → (((false || v) || false) || true) ≡ true
        both true = refl
        both false = refl
      by_parts false u false false w is parts e = absurd cc

-- ---- the gates of what is active

-- they are open in a state with the same registers
pub gates_alike : (s u : State) → GatesOpen s s → u.defs ≡ s.defs → u.regs ≡ s.regs → GatesOpen s u
gates_alike s u gates defs regs c act =
    subst (λ (d : Description). IfSome (gate_of (kind_of d c)) (λ gate. is_open u.regs gate ≡ true)) (sym defs)
    (subst (λ (r : Registers). IfSome (gate_of (kind_of s.defs c)) (λ gate. is_open r gate ≡ true)) (sym regs) (gates c act))

-- a handle that changes in its enables, too
pub alike_counted : (s : State) (n : ℕ) (old new : HandleRow) → handle_at s.handles n ≡ Some old → new.clock ≡ old.clock → new.prepares ≡ old.prepares
    → ((0 < old.enables → 0 < old.prepares) → 0 < new.enables → 0 < new.prepares) → Alike s (put_handle s n (Some new))
alike_counted s n old new at clock prepares own = record {
  defs = refl;
  regs = refl;
  scene_is = λ late.
      ap (λ (ps : List ℕ). let a : Scene = record (scene late s) { prepares = ps; clock_at = clock_of_handle (set s.handles n (Some new)) } in a)
      (clocks_of-set is_prepared s.handles n old new at clock (ap (nat_lt 0) prepares))
      ∙ ap (λ (f : ℕ → Option ℕ). let a : Scene = record (scene late s) { clock_at = f } in a) (fun_ext (λ m. clock_at-set s.handles n m old new at clock));
  enables = λ each. enables-set s.handles n new each (own (each n old at));
}
