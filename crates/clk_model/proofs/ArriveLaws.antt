-- Laws on safe states: they are supplied, and where an event's effect leaves a sound scene the gates make it safe.
use Rattle.std.proofs.Common.{◌≡◌, ℕ, suc, ◌<◌, ◌||◌, ◌&&◌, Bool, true, false, not, cond, map, List, [], ◌∷◌, ◌++◌, Option, Some, None, refl, sym, ap, subst, ◌∙◌, ◌⊎◌, inl, inr, arith, length}
use Rattle.std.proofs.lemmas.Bool.Decides.{nat_tests}
use Rattle.std.specs.Prelude.{IfSome, filter, option_and_then}
use Rattle.std.specs.Option.{option_map_or}
use Rattle.clk_base.specs.declared.clock.Kind.{Kind}
use Rattle.clk_base.specs.declared.clock.Kind.TheVariants.{FixedRate, Factor, Gate, Mux, Divider, Pll}
use Rattle.clk_base.specs.Description.{Description, kind_of}
use Rattle.clk_base.specs.Fields.{PowerBit, gate_of, power_of}
use Rattle.clk_base.specs.Valid.{IsValid}
use Rattle.clk_base.proofs.Valid.{lines_end}
use Rattle.reg_bank.specs.Registers.{Registers}
use Rattle.clk_model.specs.declared.row.HandleRow.{HandleRow}
use Rattle.clk_model.specs.Lists.{is_in, count_from, present}
use Rattle.clk_model.specs.Kinds.{is_pll, is_open, is_powered, mux_field}
use Rattle.clk_model.specs.State.{State, Change, link_in}
use Rattle.clk_model.specs.Tree.{path_to_be, link_given, selected}
use Rattle.clk_model.specs.Holders.{clocks_of, is_enabled, is_prepared, critical_clocks, enable_holders, active, prepared}
use Rattle.clk_model.specs.Fed.{feeds}
use Rattle.clk_model.specs.Gates.{settled}
use Rattle.clk_model.specs.Round.{wiring}
use Rattle.clk_model.specs.Step.{to_raise}
use Rattle.clk_model.specs.Script.{unprepared_plls}
use Rattle.clk_model.specs.Wired.{IsWired}
use Rattle.clk_model.specs.Laws.Supplied.{GatesOpen, IsFeeder, IsReady, Supplies, IsSupplied}
use Rattle.clk_model.proofs.Members.{is_in_head, is_in_tail, is_in_cases}
use Rattle.clk_model.proofs.OnceLaws.{is_in-append, in_append}
use Rattle.clk_model.proofs.GateLaws.{length-gates_moved}
use Rattle.clk_model.proofs.SupplyLaws.{selected_same, settled_is_supplied, if_one}
use Rattle.clk_model.proofs.PowerLaws.{settled_muxes}
use Rattle.clk_model.proofs.OnceLaws.{filter_keeps}
use Rattle.std.proofs.lemmas.Bool.{and_from}
use Rattle.clk_model.proofs.AboveLaws.{holder_of, held_from, holder_above}
use Rattle.clk_model.proofs.Scenes.{Scene, scene, preparers, prepared_in, fed_by, to_be, IsSound, IsSafe, EnablesPrepared, PowersOn, RaisedWell}
use Rattle.clk_model.proofs.SceneStepLaws.{Lands, reselected}

-- ---- options

pub some_one : {X : Type 0} (P : X → Type 0) (o : Option X) (x : X) → IfSome o P → o ≡ Some x → P x
some_one P o x each e = subst (λ u. IfSome u P) e each

-- ---- safe states are supplied

-- a clock of an enabled handle is one of a prepared handle
enabled_prepared : (handles : List (Option HandleRow)) (c : ℕ) → EnablesPrepared handles → is_in c (clocks_of is_enabled handles) ≡ true → is_in c (clocks_of is_prepared handles) ≡ true
enabled_prepared [] c each m = m
enabled_prepared (None ∷ handles) c each m = enabled_prepared handles c (λ n h at. each (suc n) h at) m
enabled_prepared (Some h ∷ handles) c each m =
    by_tests (is_enabled h) (is_prepared h) (λ on. prep (each 0 h refl (enabled on))) (enabled_prepared handles c (λ n g at. each (suc n) g at)) m where
      enabled : is_enabled h ≡ true → 0 < h.enables
      enabled on = grind (arith, nat_tests)

      prep : 0 < h.prepares → is_prepared h ≡ true
      prep some = grind (arith, nat_tests)

      by_tests : (t u : Bool) → (t ≡ true → u ≡ true) → (is_in c (clocks_of is_enabled handles) ≡ true → is_in c (clocks_of is_prepared handles) ≡ true)
          → is_in c (map (λ r. r.clock.0) (cond t (h ∷ filter is_enabled (present handles)) (filter is_enabled (present handles)))) ≡ true
          → is_in c (map (λ r. r.clock.0) (cond u (h ∷ filter is_prepared (present handles)) (filter is_prepared (present handles)))) ≡ true
      by_tests true false weaker rest n = let no : false ≡ true = weaker refl in absurd cc
      by_tests true true weaker rest n =
          elim (is_in_cases c h.clock.0 (clocks_of is_enabled handles) n) [
            | inl same ↦ ap (λ (x : ℕ). is_in c (x ∷ clocks_of is_prepared handles)) same ∙ is_in_head c (clocks_of is_prepared handles)
            | inr later ↦ is_in_tail c h.clock.0 (clocks_of is_prepared handles) (rest later)
          ]
      by_tests false true weaker rest n = is_in_tail c h.clock.0 (clocks_of is_prepared handles) (rest n)
      by_tests false false weaker rest n = rest n

-- what a safe state must have before its gates follow
pub record IsFit (late : Option ℕ) (s : State) : Type 0 where
  pub wired : IsWired (length s.regs) (wiring s)
  pub sound : IsSound s.defs (scene late s)
  pub enables : EnablesPrepared s.handles
  pub powers : PowersOn s

-- each active clock is prepared
active_prepared : (late : Option ℕ) (s : State) (c : ℕ) → IsFit late s → active s c ≡ true → prepared s c ≡ true
active_prepared late s c fit act =
    let ends = lines_end (length s.regs) s.defs fit.wired.valid in
    let holder = holder_of (link_in s.clocks) (enable_holders s) c act in
    let kept : is_in holder.0 (clocks_of is_prepared s.handles ++ critical_clocks s) ≡ true → prepared s c ≡ true =
    (λ m. held_from s.defs (link_in s.clocks) (preparers s.defs (scene late s)) c ends fit.wired.links
    (holder.0, is_in-append holder.0 (clocks_of is_prepared s.handles ++ critical_clocks s) s.prepare_holds ∙ first (is_in holder.0 (clocks_of is_prepared s.handles ++ critical_clocks s)) (is_in holder.0 s.prepare_holds) m, holder.2)) in
    elim (in_append holder.0 (clocks_of is_enabled s.handles ++ critical_clocks s) s.enable_holds holder.1) [
      | inr held ↦
          held_from s.defs (link_in s.clocks) (preparers s.defs (scene late s)) c ends fit.wired.links
          (holder_above (link_in s.clocks) (preparers s.defs (scene late s)) holder.0 c (holder_of (link_in s.clocks) (preparers s.defs (scene late s)) holder.0 (fit.sound.holds holder.0 held)) holder.2)
      | inl keeps ↦ elim (in_append holder.0 (clocks_of is_enabled s.handles) (critical_clocks s) keeps) [
        | inl handle ↦
            kept (is_in-append holder.0 (clocks_of is_prepared s.handles) (critical_clocks s)
            ∙ first (is_in holder.0 (clocks_of is_prepared s.handles)) (is_in holder.0 (critical_clocks s)) (enabled_prepared s.handles holder.0 fit.enables handle))
        | inr critical ↦
            kept (is_in-append holder.0 (clocks_of is_prepared s.handles) (critical_clocks s)
            ∙ second (is_in holder.0 (clocks_of is_prepared s.handles)) (is_in holder.0 (critical_clocks s)) critical)
      ]
    ] where
      first : (a b : Bool) → a ≡ true → (a || b) ≡ true
      first true b e = refl
      first false b e = absurd cc

      second : (a b : Bool) → b ≡ true → (a || b) ≡ true
      second true b e = refl
      second false b e = e

-- each prepared clock is ready
ready_of : (late : Option ℕ) (s : State) (c : ℕ) → IsFit late s → prepared s c ≡ true → IsReady s c
ready_of late s c fit prep = record {
  powered = fit.powers c prep;
  feeding = λ p at. subst (λ (o : Option ℕ). IsFeeder s p o) (sym (fed p at)) (feeder p at (fit.sound.fed c p at));
} where
  fed : (p : ℕ) → link_in s.clocks c ≡ Some p → feeds s.defs s.regs s.clocks c ≡ fed_by s.defs (scene late s) c p
  fed p at = ap (λ (o : Option ℕ). option_and_then (λ q. option_map_or (λ f. selected s.defs s.regs c) (mux_field (kind_of s.defs c)) (Some q)) o) at

  feeder : (p : ℕ) → link_in s.clocks c ≡ Some p → (fed_by s.defs (scene late s) c p ≡ Some p) ⊎ (late ≡ Some c) → IsFeeder s p (fed_by s.defs (scene late s) c p)
  feeder p at (inl own) = subst (λ (o : Option ℕ). IsFeeder s p o) (sym own) (inl refl)
  feeder p at (inr is_late) =
      let held = fit.sound.late_held c p is_late at prep in
      subst (λ (o : Option ℕ). IsFeeder s p o) (sym held.1) (inr held.2)

pub supplies_of : (late : Option ℕ) (s : State) → IsFit late s → Supplies s
supplies_of late s fit = record {
  valid = fit.wired.valid;
  links = fit.wired.links;
  prepared_ = λ c act. active_prepared late s c fit act;
  ready = λ c prep. ready_of late s c fit prep;
}

pub fit_of : (late : Option ℕ) (s : State) → IsSafe late s → IsFit late s
fit_of late s safe = record { wired = safe.wired; sound = safe.sound; enables = safe.enables; powers = safe.powers }

pub safe_supplied : (late : Option ℕ) (s : State) → IsSafe late s → IsSupplied s
safe_supplied late s safe = record { supplies = supplies_of late s (fit_of late s safe); gates = safe.gates }

-- ---- the gates follow

-- gates that follow leave the scene
pub settled_scene : (late : Option ℕ) (s y : State) → IsValid (length y.regs) y.defs → scene late (settled s y) ≡ scene late y
unfolding settled
settled_scene late s y valid =
    reselected (scene late y) (selected y.defs (settled s y).regs) (λ d. selected_same y.defs y.regs (settled s y).regs d (settled_muxes s y (length y.regs) valid d))

-- behind the gates' rule a fit state is safe, where the gates of what was active are open
pub settled_safe : (late : Option ℕ) (s y : State) → IsFit late y → GatesOpen s y → IsSafe late (settled s y)
unfolding settled
settled_safe late s y fit gates =
    let supplied = settled_is_supplied s y (supplies_of late y fit) gates in
    record {
      wired = record { valid = supplied.supplies.valid; rows = fit.wired.rows; links = fit.wired.links };
      sound = subst (λ (b : Scene). IsSound y.defs b) (sym (settled_scene late s y fit.wired.valid)) fit.sound;
      enables = fit.enables;
      powers = λ c prep. (supplied.supplies.ready c prep).powered;
      gates = supplied.gates;
    }

-- a state that was wired behind the gates' rule was so before
pub wired_before : (s y : State) → IsWired (length (settled s y).regs) (wiring (settled s y)) → IsWired (length y.regs) (wiring y)
unfolding settled
wired_before s y wired = record {
  valid = subst (λ (n : ℕ). IsValid n y.defs) (length-gates_moved y.defs (active s) (active y) (count_from 0 (length y.defs)) y.regs) wired.valid;
  rows = wired.rows;
  links = wired.links;
}

-- counters and the change are nothing to a safe state
pub safe_recounted : (late : Option ℕ) (s : State) (change : Option Change) (spent steps : ℕ) → IsSafe late s → IsSafe late (record s { change = change; spent = spent; steps = steps })
safe_recounted late s change spent steps safe = record { wired = safe.wired; sound = safe.sound; enables = safe.enables; powers = safe.powers; gates = safe.gates }

-- ---- where a step arrives

-- a step arrives at a safe state with this scene
pub record Arrives (s : State) (late : Option ℕ) (t : State) (b : Scene) : Type 0 where
  pub defs : t.defs ≡ s.defs
  pub scene_is : scene late t ≡ b
  pub safe : IsSafe late t

-- whether a clock is prepared can be told from the scene
pub prepared_told : (late late' : Option ℕ) (s t : State) (b : Scene) (c : ℕ) → t.defs ≡ s.defs → scene late t ≡ b → prepared t c ≡ prepared_in s.defs b c
prepared_told late late' s t b c defs is = ap (λ (d : Description). prepared_in d (scene late t) c) defs ∙ ap (λ (x : Scene). prepared_in s.defs x c) is

-- and the path that is raised
pub to_be_told : (late : Option ℕ) (t : State) (b : Scene) (x : ℕ) → scene late t ≡ b → path_to_be t.defs t.regs t.clocks x ≡ to_be b x
unfolding link_given
to_be_told late t b x is = ap (λ (a : Scene). to_be a x) is

-- what a step must power of what it prepares
abbrev pub Powers : State → Scene → Registers → Type 0
Powers s b regs = (c : ℕ) → prepared_in s.defs b c ≡ true → (prepared s c ≡ true) ⊎ IfSome (power_of (kind_of s.defs c)) (λ power. is_powered regs power ≡ true)

-- where a step lands it is fit
fit_landed : (late late' : Option ℕ) (s y : State) (b : Scene) → IsSafe late s → Lands s late' y b → IsSound s.defs b → Powers s b y.regs → IsWired (length y.regs) (wiring y) → IsFit late' y
fit_landed late late' s y b safe lands sound grows wired = record {
  wired = wired;
  sound = subst (λ (d : Description). IsSound d (scene late' y)) (sym lands.defs) (subst (λ (x : Scene). IsSound s.defs x) (sym lands.scene_is) sound);
  enables = subst (λ (hs : List (Option HandleRow)). EnablesPrepared hs) (sym lands.handles) safe.enables;
  powers = λ c prep.
      subst (λ (d : Description). IfSome (power_of (kind_of d c)) (λ power. is_powered y.regs power ≡ true)) (sym lands.defs)
      (by_growth c (grows c (sym (prepared_told late' late' s y b c lands.defs lands.scene_is) ∙ prep)));
} where
  by_growth : (c : ℕ) → (prepared s c ≡ true) ⊎ IfSome (power_of (kind_of s.defs c)) (λ power. is_powered y.regs power ≡ true)
      → IfSome (power_of (kind_of s.defs c)) (λ power. is_powered y.regs power ≡ true)
  by_growth c (inr on) = on
  by_growth c (inl was) =
      if_one (λ power. is_powered y.regs power ≡ true) (power_of (kind_of s.defs c))
      (λ power at. lands.keeps.powers c power at was (some_one (λ p. is_powered s.regs p ≡ true) (power_of (kind_of s.defs c)) power (safe.powers c was) at))

gates_landed : (late late' : Option ℕ) (s y : State) (b : Scene) → IsSafe late s → Lands s late' y b → GatesOpen s y
gates_landed late late' s y b safe lands c act =
    subst (λ (d : Description). IfSome (gate_of (kind_of d c)) (λ gate. is_open y.regs gate ≡ true)) (sym lands.defs)
    (if_one (λ gate. is_open y.regs gate ≡ true) (gate_of (kind_of s.defs c))
    (λ gate at. lands.keeps.gates c gate at act (some_one (λ g. is_open s.regs g ≡ true) (gate_of (kind_of s.defs c)) gate (safe.gates c act) at)))

-- a step that lands on a sound scene, and has powered what it prepares, arrives
pub arrive : (late late' : Option ℕ) (s y t : State) (b : Scene) (change : Option Change) (spent steps : ℕ) → IsSafe late s → Lands s late' y b → IsSound s.defs b → Powers s b y.regs
    → record (settled s y) { change = change; spent = spent; steps = steps } ≡ t → IsWired (length t.regs) (wiring t) → Arrives s late' t b
unfolding settled
arrive late late' s y t b change spent steps safe lands sound grows is wired =
    let u : State = record (settled s y) { change = change; spent = spent; steps = steps } in
    let wired_y = wired_before s y (subst (λ (v : State). IsWired (length v.regs) (wiring v)) (sym is) wired) in
    let fit = fit_landed late late' s y b safe lands sound grows wired_y in
    let safe_u = safe_recounted late' (settled s y) change spent steps (settled_safe late' s y fit (gates_landed late late' s y b safe lands)) in
    record {
      defs = sym (ap (λ (v : State). v.defs) is) ∙ lands.defs;
      scene_is = sym (ap (λ (v : State). scene late' v) is) ∙ settled_scene late' s y wired_y.valid ∙ lands.scene_is;
      safe = subst (λ (v : State). IsSafe late' v) is safe_u;
    }

-- ---- what was raised is powered

pub power_is_pll : (kind : Kind) (power : PowerBit) → power_of kind ≡ Some power → is_pll kind ≡ true
power_is_pll (Pll word shift width power_word power_bit least most m) power at = refl
power_is_pll (FixedRate rate) power at = absurd cc
power_is_pll (Factor mult div) power at = absurd cc
power_is_pll (Gate word bit set_to_disable) power at = absurd cc
power_is_pll (Mux word shift width read_only) power at = absurd cc
power_is_pll (Divider word shift width one_based power_of_two) power at = absurd cc

empty_has_none : (x : ℕ) (xs : List ℕ) → xs ≡ [] → is_in x xs ≡ true → ⊥
empty_has_none x xs none m = let no : true ≡ false = sym m ∙ ap (is_in x) none in cc

-- where none is left to be raised, the PLLs of the path are powered
pub covered_powered : (s : State) (k : Change) (xs : List ℕ) (x c : ℕ) → PowersOn s → RaisedWell s k xs → to_raise s k x ≡ [] → is_in c (path_to_be s.defs s.regs s.clocks x) ≡ true
    → IfSome (power_of (kind_of s.defs c)) (λ power. is_powered s.regs power ≡ true)
covered_powered s k xs x c powers raised none m =
    if_one (λ power. is_powered s.regs power ≡ true) (power_of (kind_of s.defs c))
    (λ power at. some_one (λ p. is_powered s.regs p ≡ true) (power_of (kind_of s.defs c)) power (by_prepared (prepared s c) refl (is_in c k.raised) refl power at) at)
  where
    missing : (power : PowerBit) → power_of (kind_of s.defs c) ≡ Some power → prepared s c ≡ false → is_in c k.raised ≡ false → ⊥
    missing power at idle out =
        empty_has_none c (to_raise s k x) none
        (filter_keeps (λ y. not (is_in y k.raised)) c (unprepared_plls s (path_to_be s.defs s.regs s.clocks x)) (ap not out)
        (filter_keeps (λ y. is_pll (kind_of s.defs y) && not (prepared s y)) c (path_to_be s.defs s.regs s.clocks x)
        (and_from (is_pll (kind_of s.defs c)) (not (prepared s c)) (power_is_pll (kind_of s.defs c) power at) (ap not idle)) m))

    by_prepared : (t : Bool) → prepared s c ≡ t → (u : Bool) → is_in c k.raised ≡ u → (power : PowerBit) → power_of (kind_of s.defs c) ≡ Some power
        → IfSome (power_of (kind_of s.defs c)) (λ p. is_powered s.regs p ≡ true)
    by_prepared true prep u is power at = powers c prep
    by_prepared false idle true is power at = raised.powered c is
    by_prepared false idle false out power at = absurd (missing power at idle out)
