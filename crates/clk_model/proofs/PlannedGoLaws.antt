-- Laws on the scripts of plans: they go well.
use Rattle.std.proofs.Common.{◌≡◌, ℕ, Bool, true, false, ◌&&◌, ◌||◌, cond, map, List, [], ◌∷◌, ◌++◌, refl, sym, ap, ◌∙◌, ◌⊎◌, inl, inr, nat_eq}
use Rattle.std.specs.Prelude.{◌==◌, filter, flat_map, slice_index, if◌then◌else◌}
use Rattle.std.specs.List.{list_all, AllByRecursion}
use Rattle.std.proofs.lemmas.Bool.{and_from}
use Rattle.std.proofs.lemmas.List.Folds.{list_all-append}
use Rattle.clk_base.specs.declared.call.Micro.{Micro}
use Rattle.clk_base.specs.declared.call.Micro.TheVariants as micro
use Rattle.clk_base.specs.declared.call.Notice.TheVariants as notice
use Rattle.clk_base.specs.declared.call.Sleeping.{Sleeping}
use Rattle.clk_base.specs.Description.{Description}
use Rattle.clk_model.specs.declared.row.ClockRow.{ClockRow}
use Rattle.clk_model.specs.Lists.{is_in, none_twice}
use Rattle.clk_model.specs.State.{State, ChainStep, NotifierRow}
use Rattle.clk_model.specs.Round.{wiring}
use Rattle.clk_model.specs.Chain.{clock_id, moves}
use Rattle.clk_model.specs.Walk.{changing}
use Rattle.clk_model.specs.Notices.{Rates, notifiers_of, until_veto}
use Rattle.clk_model.specs.Laws.Plans.{clocks_in}
use Rattle.clk_model.specs.Laws.Flight.{plan_rates, pre_notices, abort_notices}
use Rattle.clk_model.proofs.Members.{is_in_head, is_in_tail, both_left, both_right, same_from_test}
use Rattle.clk_model.proofs.OnceLaws.{once_head}
use Rattle.clk_model.proofs.Scenes.{Scene, IsSound, GoesWell, uncovered, makes}

-- ---- steps that leave the scene

-- whether a step leaves the scene, whatever it is
abbrev pub leaves_scene : Micro → Bool
leaves_scene (micro.Notify kind c id old new) = true
leaves_scene (micro.Lower x) = true
leaves_scene (micro.Visit c) = true
leaves_scene (micro.Settle c) = true
leaves_scene (micro.Close c) = true
leaves_scene _ = false

one_past : (defs : Description) (what : Sleeping) (timed : Bool) (a : Scene) (m : Micro) (ms : List Micro) → leaves_scene m ≡ true → IsSound defs a → GoesWell defs what timed [] a ms
    → GoesWell defs what timed [] a (m ∷ ms)
one_past defs what timed a (micro.Notify kind c id old new) ms leaves sound goes = makes (micro.Notify kind c id old new) refl sound tt (λ d prep. inl prep) (λ d was. uncovered was) goes
one_past defs what timed a (micro.Lower x) ms leaves sound goes = makes (micro.Lower x) refl sound tt (λ d prep. inl prep) (λ d was. uncovered was) goes
one_past defs what timed a (micro.Visit c) ms leaves sound goes = makes (micro.Visit c) refl sound tt (λ d prep. inl prep) (λ d was. uncovered was) goes
one_past defs what timed a (micro.Settle c) ms leaves sound goes = makes (micro.Settle c) refl sound tt (λ d prep. inl prep) (λ d was. uncovered was) goes
one_past defs what timed a (micro.Close c) ms leaves sound goes = makes (micro.Close c) refl sound tt (λ d prep. inl prep) (λ d was. uncovered was) goes
one_past defs what timed a (micro.Raise x) ms leaves sound goes = absurd cc
one_past defs what timed a (micro.Poll x) ms leaves sound goes = absurd cc
one_past defs what timed a (micro.Fall x) ms leaves sound goes = absurd cc
one_past defs what timed a (micro.HoldPrepare x) ms leaves sound goes = absurd cc
one_past defs what timed a (micro.HoldEnable x) ms leaves sound goes = absurd cc
one_past defs what timed a (micro.Relink c p) ms leaves sound goes = absurd cc
one_past defs what timed a (micro.WriteMux c place) ms leaves sound goes = absurd cc
one_past defs what timed a (micro.DropEnable x) ms leaves sound goes = absurd cc
one_past defs what timed a (micro.DropPrepare x) ms leaves sound goes = absurd cc
one_past defs what timed a (micro.Register c) ms leaves sound goes = absurd cc
one_past defs what timed a (micro.Unpower c) ms leaves sound goes = absurd cc
one_past defs what timed a micro.End ms leaves sound goes = absurd cc

-- the rest of a script goes well behind steps that leave the scene
pub goes_past : (defs : Description) (what : Sleeping) (timed : Bool) (a : Scene) (xs ms : List Micro) → list_all leaves_scene xs ≡ true → IsSound defs a → GoesWell defs what timed [] a ms
    → GoesWell defs what timed [] a (xs ++ ms)
goes_past defs what timed a [] ms leaves sound goes = goes
goes_past defs what timed a (x ∷ xs) ms leaves sound goes =
    one_past defs what timed a x (xs ++ ms) (both_left (leaves_scene x) (list_all leaves_scene xs) leaves) sound
    (goes_past defs what timed a xs ms (both_right (leaves_scene x) (list_all leaves_scene xs) leaves) sound goes)

leaves_append : (xs ys : List Micro) → list_all leaves_scene xs ≡ true → list_all leaves_scene ys ≡ true → list_all leaves_scene (xs ++ ys) ≡ true
leaves_append xs ys first second = list_all-append leaves_scene xs ys ∙ and_from (list_all leaves_scene xs) (list_all leaves_scene ys) first second

leaves_flat_map : (f : ℕ → List Micro) (cs : List ℕ) → ((c : ℕ) → list_all leaves_scene (f c) ≡ true) → list_all leaves_scene (flat_map f cs) ≡ true
leaves_flat_map f [] each = refl
leaves_flat_map f (c ∷ cs) each = leaves_append (f c) (flat_map f cs) (each c) (leaves_flat_map f cs each)

pub leaves_map : {X : Type 0} (f : X → Micro) (xs : List X) → ((x : X) → leaves_scene (f x) ≡ true) → list_all leaves_scene (map f xs) ≡ true
leaves_map f [] each = refl
leaves_map f (x ∷ xs) each = and_from (leaves_scene (f x)) (list_all leaves_scene (map f xs)) (each x) (leaves_map f xs each)

leaves_until : (rates : Rates) (c : ℕ) (ns : List NotifierRow) → list_all leaves_scene (until_veto rates c ns) ≡ true
leaves_until rates c [] = refl
leaves_until rates c (n ∷ ns) = either _ (leaves_until rates c ns) where
  either : (b : Bool) → list_all leaves_scene (until_veto rates c ns) ≡ true → list_all leaves_scene (if b then [] else until_veto rates c ns) ≡ true
  either true rest = refl
  either false rest = rest

-- notices leave the scene
pub leaves_notices : (s : State) (ks : List ChainStep) → list_all leaves_scene (pre_notices s ks) ≡ true
leaves_notices s ks =
    leaves_flat_map (λ c. until_veto (plan_rates s ks) c (notifiers_of s.notifiers c)) (changing s.order (wiring s) ks) (λ c. leaves_until (plan_rates s ks) c (notifiers_of s.notifiers c))

pub leaves_aborts : (s : State) (ks : List ChainStep) → list_all leaves_scene (abort_notices s ks) ≡ true
leaves_aborts s ks =
    leaves_flat_map (λ c. aborts_at c) (changing s.order (wiring s) ks) (λ c. leaves_map (one_abort c) (notifiers_of s.notifiers c) (λ n. refl)) where
      one_abort : ℕ → NotifierRow → Micro
      one_abort c n = micro.Notify notice.Abort (clock_id c) n.id (slice_index (plan_rates s ks).before c) (slice_index (plan_rates s ks).outcome c)

      aborts_at : ℕ → List Micro
      aborts_at c = map (one_abort c) (notifiers_of s.notifiers c)

-- ---- chains

pub all_both : (P Q R : ChainStep → Type 0) (ks : List ChainStep) → ((k : ChainStep) → P k → Q k → R k) → AllByRecursion P ks → AllByRecursion Q ks → AllByRecursion R ks
all_both P Q R [] join first second = tt
all_both P Q R (k ∷ ks) join first second = (join k first.0 second.0, all_both P Q R ks join first.1 second.1)

-- whether a step of a chain moves this clock
abbrev pub moves_here : List ClockRow → ℕ → ChainStep → Bool
moves_here clocks c k = (k.clock == c) && moves clocks k

pub filter_off : (clocks : List ClockRow) (c : ℕ) (ks : List ChainStep) → is_in c (clocks_in ks) ≡ false → filter (moves_here clocks c) ks ≡ []
filter_off clocks c [] out = refl
filter_off clocks c (k ∷ ks) out = by_test (nat_eq k.clock c) out (λ rest. filter_off clocks c ks rest) where
  by_test : (t : Bool) → (t || is_in c (clocks_in ks)) ≡ false → (is_in c (clocks_in ks) ≡ false → filter (moves_here clocks c) ks ≡ [])
      → cond (t && moves clocks k) (k ∷ filter (moves_here clocks c) ks) (filter (moves_here clocks c) ks) ≡ []
  by_test true f rest = absurd cc
  by_test false f rest = rest f

-- a step of a chain that moves a clock, and no other does
pub record OneStep (P : ChainStep → Type 0) (clocks : List ClockRow) (c : ℕ) (ks : List ChainStep) : Type 0 where
  pub step : ChainStep
  pub clock : step.clock ≡ c
  pub moves_ : moves clocks step ≡ true
  pub alone : filter (moves_here clocks c) ks ≡ step ∷ []
  pub chained : is_in c (clocks_in ks) ≡ true
  pub has : P step

pub one_step : (P : ChainStep → Type 0) (clocks : List ClockRow) (c : ℕ) (ks : List ChainStep) → none_twice (clocks_in ks) ≡ true → AllByRecursion P ks → (filter (moves_here clocks c) ks ≡ []) ⊎ OneStep P clocks c ks
one_step P clocks c [] once all = inl refl
one_step P clocks c (k ∷ ks) once all = by_test (nat_eq k.clock c) (moves clocks k) refl refl (one_step P clocks c ks (once_head k.clock (clocks_in ks) once).1 all.1) where
  by_test : (t u : Bool) → nat_eq k.clock c ≡ t → moves clocks k ≡ u → (filter (moves_here clocks c) ks ≡ []) ⊎ OneStep P clocks c ks
      → (cond (nat_eq k.clock c && moves clocks k) (k ∷ filter (moves_here clocks c) ks) (filter (moves_here clocks c) ks) ≡ []) ⊎ OneStep P clocks c (k ∷ ks)
  by_test true true e f rest =
      let same : k.clock ≡ c = same_from_test k.clock c e in
      let out : is_in c (clocks_in ks) ≡ false = ap (λ (x : ℕ). is_in x (clocks_in ks)) (sym same) ∙ (once_head k.clock (clocks_in ks) once).0 in
      inr (record {
        step = k;
        clock = same;
        moves_ = f;
        alone = ap (λ (t : Bool). cond t (k ∷ filter (moves_here clocks c) ks) (filter (moves_here clocks c) ks)) (and_from (nat_eq k.clock c) (moves clocks k) e f) ∙ ap (λ (ls : List ChainStep). k ∷ ls) (filter_off clocks c ks out);
        chained = ap (λ (x : ℕ). is_in c (x ∷ clocks_in ks)) same ∙ is_in_head c (clocks_in ks);
        has = all.0;
      })
  by_test true false e f rest =
      let same : k.clock ≡ c = same_from_test k.clock c e in
      let out : is_in c (clocks_in ks) ≡ false = ap (λ (x : ℕ). is_in x (clocks_in ks)) (sym same) ∙ (once_head k.clock (clocks_in ks) once).0 in
      inl (off (nat_eq k.clock c) (moves clocks k) f ∙ filter_off clocks c ks out) where
        off : (t u : Bool) → u ≡ false → cond (t && u) (k ∷ filter (moves_here clocks c) ks) (filter (moves_here clocks c) ks) ≡ filter (moves_here clocks c) ks
        off true u g = ap (λ (v : Bool). cond v (k ∷ filter (moves_here clocks c) ks) (filter (moves_here clocks c) ks)) g
        off false u g = refl
  by_test false u e f (inl none) = inl (ap (λ (t : Bool). cond (t && moves clocks k) (k ∷ filter (moves_here clocks c) ks) (filter (moves_here clocks c) ks)) e ∙ none)
  by_test false u e f (inr one) = inr (record {
    step = one.step;
    clock = one.clock;
    moves_ = one.moves_;
    alone = ap (λ (t : Bool). cond (t && moves clocks k) (k ∷ filter (moves_here clocks c) ks) (filter (moves_here clocks c) ks)) e ∙ one.alone;
    chained = is_in_tail c k.clock (clocks_in ks) one.chained;
    has = one.has;
  })
