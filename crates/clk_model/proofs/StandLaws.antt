-- Laws on a change in flight: each of its steps that isn't the end leaves it safe, and its change stands somewhere.
use Rattle.std.proofs.Common.{◌≡◌, ℕ, ◌+◌, ◌&&◌, Bool, true, false, cond, map, List, [], ◌∷◌, ◌++◌, Option, Some, None, refl, sym, ap, subst, ◌∙◌, inl, length}
use Rattle.std.specs.Prelude.{slice_get, nat_le}
use Rattle.std.specs.List.{list_all, list_any}
use Rattle.std.proofs.Math.Path.{fun_ext}
use Rattle.std.specs.Option.{option_map_or}
use Rattle.clk_base.specs.declared.call.Micro.{Micro}
use Rattle.clk_base.specs.declared.call.Micro.TheVariants as micro
use Rattle.clk_base.specs.declared.call.Sleeping.{Sleeping}
use Rattle.clk_base.specs.Description.{Description}
use Rattle.clk_model.specs.Lists.{is_in, without_one}
use Rattle.clk_model.specs.State.{State, Change}
use Rattle.clk_model.specs.Holders.{prepared}
use Rattle.clk_model.specs.Gates.{settled}
use Rattle.clk_model.specs.Round.{wiring}
use Rattle.clk_model.specs.Chain.{clock_id}
use Rattle.clk_model.specs.Step.{on, powered, fall, to_lower, lower_one, lower}
use Rattle.clk_model.specs.Wired.{IsWired}
use Rattle.clk_model.proofs.Members.{is_in_head, is_in_tail, test_same}
use Rattle.clk_model.proofs.PowerLaws.{powered_muxes}
use Rattle.clk_model.proofs.Scenes.{Scene, scene, prepared_in, IsSound, GoesWell, IsSafe, is_calm, is_over, calm, InCall}
use Rattle.clk_model.proofs.KeepLaws.{keeps_lowered}
use Rattle.clk_model.proofs.SceneStepLaws.{Lands, lands_on, lands_same, lands_lowered}
use Rattle.clk_model.proofs.ArriveLaws.{Arrives, Powers, prepared_told, to_be_told, arrive}

-- ---- where a change goes

-- a state has a change that is safe in it
pub record Goes (t : State) : Type 0 where
  pub change : Change
  pub at : t.change ≡ Some change
  pub in_call : InCall t change

pub goes_told : (s t : State) (what : Sleeping) (timed : Bool) (cover : List ℕ) (late : Option ℕ) (b : Scene) (ms : List Micro) → t.defs ≡ s.defs → scene late t ≡ b
    → GoesWell s.defs what timed cover b ms → GoesWell t.defs what timed cover (scene late t) ms
goes_told s t what timed cover late b ms defs is goes =
    subst (λ (d : Description). GoesWell d what timed cover (scene late t) ms) (sym defs) (subst (λ (x : Scene). GoesWell s.defs what timed cover x ms) (sym is) goes)

-- the clocks on the paths of others can be told from the scene
pub over_told : (s t : State) (late : Option ℕ) (xs : List ℕ) (y : ℕ) → scene late t ≡ scene late s → is_over t xs y ≡ is_over s xs y
over_told s t late xs y is =
    ap (λ (on_path : ℕ → List ℕ). list_any (λ x. is_in y (on_path x)) xs) (fun_ext (λ x. to_be_told late t (scene late s) x is ∙ sym (to_be_told late s (scene late s) x refl)))

-- a change that stands between its raises
pub stands_calm : (s t : State) (k : Change) (late : Option ℕ) (b : Scene) (rest : List Micro) → Arrives s late t b → t.change ≡ Some k
    → k.front ≡ map (λ y. micro.Fall (clock_id y)) k.raised ++ rest → list_all is_calm rest ≡ true → ((y : ℕ) → is_in y k.raised ≡ true → prepared_in s.defs b y ≡ false)
    → GoesWell s.defs k.call k.timed_out [] b k.left → Goes t
stands_calm s t k late b rest arrives at front still idle goes = record {
  change = k;
  at = at;
  in_call = record {
    late = late;
    safe = arrives.safe;
    stands = calm rest front still (λ y m. prepared_told late late s t b y arrives.defs arrives.scene_is ∙ idle y m)
        (goes_told s t k.call k.timed_out [] late b k.left arrives.defs arrives.scene_is goes);
  };
}

-- ---- steps that leave the scene

-- the event of a step: what it leaves, and that this is wired
pub record IsEvent (s u t : State) : Type 0 where
  pub state : record (settled s u) { steps = s.steps + 1 } ≡ t
  pub wired : IsWired (length t.regs) (wiring t)

pub arrive_at : (late late' : Option ℕ) (s u t : State) (b : Scene) → IsSafe late s → Lands s late' u b → IsSound s.defs b → Powers s b u.regs → IsEvent s u t → Arrives s late' t b
arrive_at late late' s u t b safe lands sound grows event =
    arrive late late' s u t b (settled s u).change (settled s u).spent (s.steps + 1) safe lands sound grows event.state event.wired

pub arrive_same : (late : Option ℕ) (s u t : State) → IsSafe late s → Lands s late u (scene late s) → IsEvent s u t → Arrives s late t (scene late s)
arrive_same late s u t safe lands event = arrive_at late late s u t (scene late s) safe lands safe.sound (λ c prep. inl prep) event

pub change_after : (s u t : State) (k : Change) → IsEvent s u t → u.change ≡ Some k → t.change ≡ Some k
unfolding settled
change_after s u t k event at = sym (ap (λ (v : State). v.change) event.state) ∙ at

-- ---- falls, notices and lowers in front

pub fall_goes : (s t : State) (k l : Change) (late : Option ℕ) (y : ℕ) (ys : List ℕ) (rest : List Micro) → IsSafe late s → k.raised ≡ y ∷ ys → k.front ≡ map (λ z. micro.Fall (clock_id z)) ys ++ rest
    → list_all is_calm rest ≡ true → ((z : ℕ) → is_in z (y ∷ ys) ≡ true → prepared s z ≡ false)
    → GoesWell s.defs k.call k.timed_out [] (scene late s) k.left → IsEvent s (fall s k y) t → Goes t
fall_goes s t k l late y ys rest safe list front still idle goes event =
    let less : without_one y k.raised ≡ ys = ap (without_one y) list ∙ ap (λ (b : Bool). cond b ys (y ∷ without_one y ys)) (test_same y) in
    let arrives = arrive_same late s (fall s k y) t safe
    (lands_on s late (powered s y false).regs (record k { raised = without_one y k.raised }) (powered_muxes s (length s.regs) y false safe.wired.valid) (keeps_lowered s y safe.wired.valid (idle y (is_in_head y ys)))) event in
    stands_calm s t (record k { raised = without_one y k.raised }) late (scene late s) rest arrives (change_after s (fall s k y) t _ event refl)
    (front ∙ ap (λ (zs : List ℕ). map (λ z. micro.Fall (clock_id z)) zs ++ rest) (sym less)) still
    (λ z m. idle z (is_in_tail z y ys (sym (ap (is_in z) less) ∙ m))) goes

pub told_goes : (s t : State) (k : Change) (late : Option ℕ) → IsSafe late s → k.raised ≡ [] → list_all is_calm k.front ≡ true
    → GoesWell s.defs k.call k.timed_out [] (scene late s) k.left → IsEvent s (on s k) t → Goes t
told_goes s t k late safe list still goes event =
    stands_calm s t k late (scene late s) k.front (arrive_same late s (on s k) t safe (lands_same s late k) event) (change_after s (on s k) t k event refl)
    (ap (λ (zs : List ℕ). map (λ z. micro.Fall (clock_id z)) zs ++ k.front) (sym list)) still
    (λ y m. let no : false ≡ true = sym (ap (is_in y) list) ∙ m in absurd cc) goes

calm_before : (b : Bool) (m : Micro) (front : List Micro) → is_calm m ≡ true → list_all is_calm front ≡ true → list_all is_calm (cond b (m ∷ []) [] ++ front) ≡ true
calm_before true m front own still = ap (λ (t : Bool). t && list_all is_calm front) own ∙ still
calm_before false m front own still = still

-- the change behind a lower
pub lowered_change : (s : State) (k : Change) (x : ℕ) → list_all is_calm k.front ≡ true
    → (j : Change) × ((lower s k x).change ≡ Some j) × (j.call ≡ k.call) × (j.timed_out ≡ k.timed_out) × (j.left ≡ k.left) × (j.raised ≡ k.raised) × (list_all is_calm j.front ≡ true)
lowered_change s k x still = one (slice_get (to_lower s x) 0) where
  one : (o : Option ℕ) → (j : Change) × ((option_map_or (lower_one s k x) o (on s (record k { again = 0 }))).change ≡ Some j) × (j.call ≡ k.call) × (j.timed_out ≡ k.timed_out) × (j.left ≡ k.left)
      × (j.raised ≡ k.raised) × (list_all is_calm j.front ≡ true)
  one None = (record k { again = 0 }, refl, refl, refl, refl, refl, still)
  one (Some y) = (_, refl, refl, refl, refl, refl, calm_before (nat_le 2 (length (to_lower s x))) (micro.Lower (clock_id x)) k.front refl still)

pub lower_goes : (s t : State) (k : Change) (late : Option ℕ) (x : ℕ) → IsSafe late s → k.raised ≡ [] → list_all is_calm k.front ≡ true
    → GoesWell s.defs k.call k.timed_out [] (scene late s) k.left → IsEvent s (lower s k x) t → Goes t
lower_goes s t k late x safe list still goes event =
    let j = lowered_change s k x still in
    stands_calm s t j.0 late (scene late s) (j.0).front (arrive_same late s (lower s k x) t safe (lands_lowered s late k x safe.wired.valid) event) (change_after s (lower s k x) t j.0 event j.1)
    (ap (λ (zs : List ℕ). map (λ z. micro.Fall (clock_id z)) zs ++ (j.0).front) (sym (j.5 ∙ list))) j.6
    (λ y m. let no : false ≡ true = sym (ap (is_in y) (j.5 ∙ list)) ∙ m in absurd cc)
    (subst (λ (ms : List Micro). GoesWell s.defs (j.0).call (j.0).timed_out [] (scene late s) ms) (sym j.4)
    (subst (λ (b : Bool). GoesWell s.defs (j.0).call b [] (scene late s) k.left) (sym j.3)
    (subst (λ (w : Sleeping). GoesWell s.defs w k.timed_out [] (scene late s) k.left) (sym j.2) goes)))
