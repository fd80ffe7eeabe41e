-- Laws on the steps of a call and the PLLs that it raised: each step that isn't the end leaves each accounted for, and the end leaves it
-- powered exactly where it is prepared.
use Rattle.std.proofs.Common.{◌≡◌, ℕ, ◌-◌, ◌||◌, Bool, true, false, map, List, [], ◌∷◌, ◌++◌, Option, Some, None, refl, sym, ap, subst, ◌∙◌, ◌⊎◌, inl, inr, length}
use Rattle.std.specs.Prelude.{nat_le, reverse, slice_get}
use Rattle.std.specs.List.{list_all, list_any}
use Rattle.clk_base.specs.declared.call.Micro.{Micro}
use Rattle.clk_base.specs.declared.call.Micro.TheVariants as micro
use Rattle.clk_base.specs.declared.clock.ClockId.{ClockId}
use Rattle.clk_base.specs.declared.event.Turn.TheVariants as turn
use Rattle.clk_base.specs.Valid.{IsValid}
use Rattle.clk_model.specs.Lists.{is_in}
use Rattle.clk_model.specs.State.{State, Change}
use Rattle.clk_model.specs.Tree.{path, path_to_be}
use Rattle.clk_model.specs.Holders.{prepared}
use Rattle.clk_model.specs.Round.{wiring}
use Rattle.clk_model.specs.Chain.{clock_id}
use Rattle.clk_model.specs.Script.{runs}
use Rattle.clk_model.specs.Step.{todo, rest_of, taken, sets_parent, aborts_of, on, timed_out, to_raise, raise_one, poll, is_yes, stepped}
use Rattle.clk_model.specs.Machine.{comes_next}
use Rattle.clk_model.specs.Wired.{IsWired}
use Rattle.clk_model.proofs.Members.{is_in_head, both_left, both_right}
use Rattle.clk_model.proofs.NoneLaws.{none_append, none_map, none_if, none_rest}
use Rattle.clk_model.proofs.MicroLaws.{comes_first}
use Rattle.clk_model.proofs.Cases.{by_option, by_test}
use Rattle.clk_model.proofs.StepLaws.{raises, IsAfter, step_after}
use Rattle.clk_model.proofs.FlightLaws.{IsStep}
use Rattle.clk_model.proofs.Scenes.{scene, prepared_in, after, uncovers, is_over, covered, is_plain, Serves, Stays, IsCovered, GoesWell, RaisedWell, RaisingFront, asks, asks_first, comes_again, is_calm, Stands, calm, raising, InCall}
use Rattle.clk_model.proofs.ArriveLaws.{to_be_told, prepared_told}
use Rattle.clk_model.proofs.Members.{or_cases}
use Rattle.clk_model.proofs.SceneStepLaws.{Lands, step_lands}
use Rattle.clk_model.proofs.FlightSafeLaws.{HoldsOn, CoveredBehind, covered_behind, uncovers_none, raised_none, FirstGoes, first_raises, first_makes, first_ends, first_goes, front_step, script_step}
use Rattle.clk_model.proofs.ScriptLaws.{none_aborts}
use Rattle.clk_model.proofs.RaisedLaws.{IsLowering, Accounted, stopped_, kept, raised_, lowering, AccountedIn, lower_accounts, raise_accounts, fall_accounts, plain_running, plain_accounts}

-- ---- polls

-- a PLL whose poll stands in front is on the raised list
pub record PolledRaised (k : Change) : Type 0 where
  pub polled : (z : ClockId) (rest : List Micro) → k.front ≡ micro.Poll z ∷ rest → is_in z.0 k.raised ≡ true

abbrev pub PolledIn : Option Change → Type 0
PolledIn None = ⊥
PolledIn (Some k) = PolledRaised k

-- where nothing that raises stands in front, no poll does
pub none_polled : (k : Change) → list_any raises k.front ≡ false → PolledRaised k
none_polled k none = record { polled = λ z rest at. let no : true ≡ false = sym (ap (list_any raises) at) ∙ none in absurd cc }

calm_none : (ms : List Micro) → list_all is_calm ms ≡ true → list_any raises ms ≡ false
calm_none [] still = refl
calm_none (m ∷ ms) still = ap (λ (t : Bool). t || list_any raises ms) (one m (both_left (is_calm m) (list_all is_calm ms) still)) ∙ calm_none ms (both_right (is_calm m) (list_all is_calm ms) still) where
  one : (n : Micro) → is_calm n ≡ true → raises n ≡ false
  one (micro.Raise x) e = absurd cc
  one (micro.Poll x) e = absurd cc
  one n e = refl

plain_none : (m : Micro) → is_plain m ≡ true → raises m ≡ false
plain_none (micro.Raise x) e = absurd cc
plain_none (micro.Poll x) e = absurd cc
plain_none m e = refl

pub taken_none : (ms : List Micro) → list_any raises ms ≡ false → list_any raises (rest_of ms) ≡ false
taken_none [] none = refl
taken_none (m ∷ ms) none = none_rest raises m ms none

-- behind a step that doesn't raise
polled_behind : (s : State) (k : Change) (answer : Option Bool) (m : Micro) → (stepped s k answer m).1 ≡ turn.Going → raises m ≡ false → list_any raises k.front ≡ false
    → PolledIn (stepped s k answer m).0.change
polled_behind s k answer m going gentle none =
    let after = step_after s k answer m going in
    let is : IsAfter m k after.0 = after.2 in
    subst (λ (o : Option Change). PolledIn o) (sym after.1) (none_polled after.0 (is.calm gentle none))

-- ---- a step, before the gates follow

-- the change behind a step: a polled PLL is on the raised list, and this one is accounted for
pub record Tells (u : State) (y : ℕ) : Type 0 where
  pub polled : PolledIn u.change
  pub accounted : AccountedIn u u.change y

abbrev pub StepTells : State → Change → Option Bool → Micro → ℕ → Type 0
StepTells s k answer m y = Tells (stepped s k answer m).0 y

-- where it was, before a step that isn't a lower
abbrev Was : State → List ℕ → ℕ → Type 0
Was s ys y = (prepared s y ≡ true) ⊎ (is_in y ys ≡ true) ⊎ (runs s.defs s.regs y ≡ false)

pub lowering_first : (s : State) (k : Change) (m : Micro) (y : ℕ) → (l : IsLowering s k y) → comes_next m (todo k) ≡ true → m ≡ micro.Lower l.clock
lowering_first s k m y l first =
    let at = comes_first m (todo k) first in
    let both : m ∷ at.0 ≡ micro.Lower l.clock ∷ l.rest = sym at.1 ∙ l.next in
    cc

was_of : (s : State) (k : Change) (m : Micro) (y : ℕ) → comes_next m (todo k) ≡ true → ((x : ClockId) → m ≡ micro.Lower x → ⊥) → Accounted s k y → Was s k.raised y
was_of s k m y first other (stopped_ e) = inr (inr e)
was_of s k m y first other (kept prep) = inl prep
was_of s k m y first other (raised_ n) = inr (inl n)
was_of s k m y first other (lowering l) = absurd (other l.clock (lowering_first s k m y l first))

fall_tells : (s : State) (k : Change) (answer : Option Bool) (z y : ℕ) → IsValid (length s.regs) s.defs → list_any raises k.front ≡ false → Was s k.raised y → StepTells s k answer (micro.Fall (clock_id z)) y
unfolding stepped
fall_tells s k answer z y valid none was = record { polled = none_polled _ none; accounted = fall_accounts s k z y valid was }

raise_tells : (s : State) (k : Change) (answer : Option Bool) (x : ClockId) (y : ℕ) → IsValid (length s.regs) s.defs → k.front ≡ [] → Was s k.raised y → StepTells s k answer (micro.Raise x) y
unfolding stepped
raise_tells s k answer x y valid empty was = record {
  polled =
      by_option (λ u. PolledIn u.change) (slice_get (reverse (to_raise s k x.0)) 0) (raise_one s k x.0) (on s (record k { again = 0 })) (none_polled _ (ap (list_any raises) empty))
      (λ z. record { polled = λ w rest at. let same : clock_id z ≡ w = cc in ap (λ (v : ClockId). is_in v.0 (z ∷ k.raised)) (sym same) ∙ is_in_head z k.raised });
  accounted = raise_accounts s k x.0 y valid was;
}

poll_tells : (s : State) (k : Change) (answer : Option Bool) (z : ClockId) (y : ℕ) → is_in z.0 k.raised ≡ true → ((w : ClockId) (rest : List Micro) → k.front ≡ micro.Poll w ∷ rest → ⊥) → Was s k.raised y
    → StepTells s k answer (micro.Poll z) y
unfolding stepped
poll_tells s k answer z y on_list open_ was = by_yes (is_yes answer) where
  in_front : (u : State) (j : Change) → u.change ≡ Some j → runs u.defs u.regs y ≡ runs s.defs s.regs y → prepared u y ≡ prepared s y → j.raised ≡ k.raised → AccountedIn u u.change y
  in_front u j at same prep list = subst (λ (o : Option Change). AccountedIn u o y) (sym at) (one was) where
    one : Was s k.raised y → Accounted u j y
    one (inl e) = kept (prep ∙ e)
    one (inr (inl n)) = raised_ (ap (is_in y) list ∙ n)
    one (inr (inr e)) = stopped_ (same ∙ e)

  by_yes : (b : Bool) → Tells (poll s k z.0 b) y
  by_yes true = record {
    polled = record { polled = λ w rest at. absurd (open_ w rest at) };
    accounted = in_front (on s (record k { polls = 0 })) (record k { polls = 0 }) refl refl refl refl;
  }
  by_yes false =
      by_test (λ u. Tells u y) (nat_le k.polls 1) (timed_out s (record k { polls = 0 })) (on s (record k { polls = k.polls - 1; front = micro.Poll (clock_id z.0) ∷ k.front }))
      (record {
        polled = none_polled _
            (none_append raises (map (λ v. micro.Fall (clock_id v)) k.raised) (aborts_of s (record k { polls = 0 })) (none_map raises (λ v. micro.Fall (clock_id v)) k.raised (λ v. refl))
            (none_if raises (sets_parent k.call) _ [] (none_aborts raises (record { before = k.before; outcome = k.outcome }) s.notifiers k.changing (λ kind c id old new. refl)) refl));
        accounted = in_front (timed_out s (record k { polls = 0 })) _ refl refl refl refl;
      })
      (record {
        polled = record { polled = λ w rest at. let same : clock_id z.0 ≡ w = cc in ap (λ (v : ClockId). is_in v.0 k.raised) (sym same) ∙ on_list };
        accounted = in_front (on s (record k { polls = k.polls - 1; front = micro.Poll (clock_id z.0) ∷ k.front })) _ refl refl refl refl;
      })

-- a lower, wherever it stands
lower_tells : (s : State) (k : Change) (answer : Option Bool) (x : ClockId) (y : ℕ) → IsValid (length s.regs) s.defs → (stepped s (taken k) answer (micro.Lower x)).1 ≡ turn.Going
    → comes_next (micro.Lower x) (todo k) ≡ true → list_any raises (taken k).front ≡ false → k.raised ≡ [] → Accounted s k y → StepTells s (taken k) answer (micro.Lower x) y
unfolding stepped
lower_tells s k answer x y valid going first none empty was = record {
  polled = polled_behind s (taken k) answer (micro.Lower x) going refl none;
  accounted = lower_accounts s (taken k) x.0 y valid (one was);
} where
  one : Accounted s k y → (prepared s y ≡ true) ⊎ (is_in y (path s.clocks x.0) ≡ true) ⊎ (runs s.defs s.regs y ≡ false)
  one (stopped_ e) = inr (inr e)
  one (kept prep) = inl prep
  one (raised_ n) = let no : false ≡ true = sym (ap (is_in y) empty) ∙ n in absurd cc
  one (lowering l) =
      let is : micro.Lower x ≡ micro.Lower l.clock = lowering_first s k (micro.Lower x) y l first in
      let same : x ≡ l.clock = cc in
      inr (inl (ap (λ (v : ClockId). is_in y (path s.clocks v.0)) same ∙ l.on_path))

notice_tells : (s : State) (k : Change) (answer : Option Bool) (m : Micro) (y : ℕ) → is_calm m ≡ true → ((x : ClockId) → m ≡ micro.Lower x → ⊥) → list_any raises k.front ≡ false → Was s k.raised y
    → StepTells s k answer m y
unfolding stepped
notice_tells s k answer (micro.Notify kind c id old new) y still other none was = record { polled = none_polled k none; accounted = one was } where
  one : Was s k.raised y → Accounted (on s k) k y
  one (inl e) = kept e
  one (inr (inl n)) = raised_ n
  one (inr (inr e)) = stopped_ e
notice_tells s k answer (micro.Lower x) y still other none was = absurd (other x refl)
notice_tells s k answer _ y still other none was = absurd cc

lower_or : (m : Micro) → ((x : ClockId) × (m ≡ micro.Lower x)) ⊎ ((x : ClockId) → m ≡ micro.Lower x → ⊥)
lower_or (micro.Lower x) = inl (x, refl)
lower_or m = inr (λ x e. cc)

-- a plain step of the script that isn't a lower
plain_tells : (s : State) (k : Change) (answer : Option Bool) (m : Micro) (cover : List ℕ) (late : Option ℕ) (y : ℕ) → uncovers m cover ≡ [] → IsWired (length s.regs) (wiring s) → is_plain m ≡ true → k.front ≡ [] → (stepped s k answer m).1 ≡ turn.Going
    → Serves s.defs cover (scene late s) m → Stays s.defs cover (scene late s) m k.left → ((x : ClockId) → m ≡ micro.Lower x → ⊥)
    → (prepared s y ≡ true) ⊎ IsCovered cover (scene late s) y ⊎ (runs s.defs s.regs y ≡ false) → StepTells s k answer m y
plain_tells s k answer m cover late y uncovered_ wired plain empty going serves stays other was =
    let after = step_after s k answer m going in
    record {
      polled = polled_behind s k answer m going (plain_none m plain) (ap (list_any raises) empty);
      accounted = subst (λ (o : Option Change). AccountedIn (stepped s k answer m).0 o y) (sym after.1) (plain_accounts s k answer m cover late y wired plain empty uncovered_ serves stays other was after.0 after.1);
    }

-- a clock on one of these paths is covered
over_covered : (s : State) (late : Option ℕ) (xs : List ℕ) (y : ℕ) → is_over s xs y ≡ true → IsCovered xs (scene late s) y
over_covered s late [] y m = absurd cc
over_covered s late (x ∷ []) y m = ap (is_in y) (sym (to_be_told late s (scene late s) x refl)) ∙ alone (is_in y (path_to_be s.defs s.regs s.clocks x)) m where
  alone : (p : Bool) → (p || false) ≡ true → p ≡ true
  alone true e = refl
  alone false e = e
over_covered s late (x ∷ z ∷ zs) y m = elim (or_cases (is_in y (path_to_be s.defs s.regs s.clocks x)) (is_over s (z ∷ zs) y) m) [
  | inl own ↦ inl (ap (is_in y) (sym (to_be_told late s (scene late s) x refl)) ∙ own)
  | inr later ↦ inr (over_covered s late (z ∷ zs) y later)
]

-- a step of the script after raises that isn't one itself
covered_tells : (s : State) (k : Change) (answer : Option Bool) (m : Micro) (x : ℕ) (xs : List ℕ) (late : Option ℕ) (y : ℕ) → IsWired (length s.regs) (wiring s) → is_plain m ≡ true → k.front ≡ [] → (stepped s k answer m).1 ≡ turn.Going
    → Serves s.defs (x ∷ xs) (scene late s) m → Stays s.defs (x ∷ xs) (scene late s) m k.left → RaisedWell s k (x ∷ xs) → ((z : ClockId) → m ≡ micro.Lower z → ⊥) → Was s k.raised y → StepTells s k answer m y
covered_tells s k answer m x xs late y wired plain empty going serves stays well other was = by_holds behind.holds where
  behind : CoveredBehind s k answer m late (x ∷ xs)
  behind = covered_behind s k answer m late x xs serves empty well plain

  u : State
  u = (stepped s k answer m).0

  lands : Lands s (after s.defs (scene late s) m).late u (after s.defs (scene late s) m)
  lands = step_lands s k answer m (x ∷ xs) late wired plain serves

  prep_is : prepared u y ≡ prepared_in s.defs (after s.defs (scene late s) m) y
  prep_is = prepared_told (after s.defs (scene late s) m).late (after s.defs (scene late s) m).late s u (after s.defs (scene late s) m) y lands.defs lands.scene_is

  one : Was s k.raised y → (prepared s y ≡ true) ⊎ IsCovered (x ∷ xs) (scene late s) y ⊎ (runs s.defs s.regs y ≡ false)
  one (inl e) = inl e
  one (inr (inl n)) = inr (inl (over_covered s late (x ∷ xs) y (well.within y n)))
  one (inr (inr e)) = inr (inr e)

  by_holds : ((behind.change.raised ≡ []) × (uncovers m (x ∷ xs) ≡ [])) ⊎ HoldsOn s k behind.change late (after s.defs (scene late s) m) (x ∷ xs) (uncovers m (x ∷ xs)) → StepTells s k answer m y
  by_holds (inl none) = plain_tells s k answer m (x ∷ xs) late y none.1 wired plain empty going serves stays other (one was)
  by_holds (inr on_) = record {
    polled = polled_behind s k answer m going (plain_none m plain) (ap (list_any raises) empty);
    accounted = subst (λ (o : Option Change). AccountedIn u o y) (sym behind.at) (by_prep (prepared_in s.defs (after s.defs (scene late s) m) y) refl was);
  } where
    by_prep : (t : Bool) → prepared_in s.defs (after s.defs (scene late s) m) y ≡ t → Was s k.raised y → Accounted u behind.change y
    by_prep true e w = kept (prep_is ∙ e)
    by_prep false e (inl prep) = let no : true ≡ false = sym prep ∙ on_.grows y e in absurd cc
    by_prep false e (inr (inl n)) = raised_ (on_.raised_still y e n)
    by_prep false e (inr (inr off)) = stopped_ (plain_running s k answer m (x ∷ xs) late y wired.valid plain serves other off)

end_stops : (s : State) (k : Change) (answer : Option Bool) (m : Micro) → m ≡ micro.End → (stepped s k answer m).1 ≡ turn.Going → ⊥
unfolding stepped
end_stops s k answer m is going = let e : (stepped s k answer micro.End).1 ≡ turn.Going = ap (λ (n : Micro). (stepped s k answer n).1) (sym is) ∙ going in cc

-- ---- each step

-- each step but the end leaves a polled PLL on the raised list, and each that is accounted for so
pub step_tells : (s t : State) (d : ℕ) (m : Micro) (answer : Option Bool) (k : Change) (y : ℕ) → IsStep s t d m answer turn.Going k → InCall s k → PolledRaised k → Accounted s k y → StepTells s (taken k) answer m y
step_tells s t d m answer k y step in_call polled_ was = by_stand in_call.stands where
  late : Option ℕ
  late = in_call.late

  valid : IsValid (length s.regs) s.defs
  valid = in_call.safe.wired.valid

  to : (n : Micro) → m ≡ n → StepTells s (taken k) answer n y → StepTells s (taken k) answer m y
  to n is tells = subst (λ (v : Micro). StepTells s (taken k) answer v y) (sym is) tells

  apart : (n : Micro) → m ≡ n → ((x : ClockId) → n ≡ micro.Lower x → ⊥) → (x : ClockId) → m ≡ micro.Lower x → ⊥
  apart n is other x e = other x (sym is ∙ e)

  -- a plain step with nothing raised before
  by_first : k.front ≡ [] → k.raised ≡ [] → FirstGoes s.defs k.call k.timed_out [] (scene late s) m (taken k).left → (taken k).front ≡ [] → StepTells s (taken k) answer m y
  by_first front list (first_raises x is goes cut) empty =
      to (micro.Raise x) is (raise_tells s (taken k) answer x y valid empty (was_of s k m y step.first (apart (micro.Raise x) is (λ z e. cc)) was))
  by_first front list (first_ends is free alone prep) empty = absurd (end_stops s (taken k) answer m is step.answered)
  by_first front list (first_makes plain serves grows stays goes) empty = by_lower (lower_or m) where
    by_lower : ((x : ClockId) × (m ≡ micro.Lower x)) ⊎ ((x : ClockId) → m ≡ micro.Lower x → ⊥) → StepTells s (taken k) answer m y
    by_lower (inl low) =
        to (micro.Lower low.0) low.1
        (lower_tells s k answer low.0 y valid (ap (λ (n : Micro). (stepped s (taken k) answer n).1) (sym low.1) ∙ step.answered) (ap (λ (n : Micro). comes_next n (todo k)) (sym low.1) ∙ step.first)
        (ap (list_any raises) empty) list was)
    by_lower (inr other) = plain_tells s (taken k) answer m [] late y (uncovers_none m) in_call.safe.wired plain empty step.answered serves stays other (one (was_of s k m y step.first other was)) where
      one : Was s k.raised y → (prepared s y ≡ true) ⊎ ⊥ ⊎ (runs s.defs s.regs y ≡ false)
      one (inl e) = inl e
      one (inr (inl n)) = let no : false ≡ true = sym (ap (is_in y) list) ∙ n in absurd cc
      one (inr (inr e)) = inr (inr e)

  by_calm : (ys : List ℕ) (rest : List Micro) → k.raised ≡ ys → k.front ≡ map (λ z. micro.Fall (clock_id z)) ys ++ rest → list_all is_calm rest ≡ true → GoesWell s.defs k.call k.timed_out [] (scene late s) k.left
      → StepTells s (taken k) answer m y
  by_calm (z ∷ ys) rest list front still goes =
      let here = front_step k m (micro.Fall (clock_id z)) (map (λ v. micro.Fall (clock_id v)) ys ++ rest) front step.first in
      to (micro.Fall (clock_id z)) here.0
      (fall_tells s (taken k) answer z y valid
      (ap (list_any raises) here.1 ∙ none_append raises (map (λ v. micro.Fall (clock_id v)) ys) rest (none_map raises (λ v. micro.Fall (clock_id v)) ys (λ v. refl)) (calm_none rest still))
      (was_of s k m y step.first (apart (micro.Fall (clock_id z)) here.0 (λ x e. cc)) was))
  by_calm [] (r ∷ rest) list front still goes = by_lower (lower_or m) where
    here : (m ≡ r) × ((taken k).front ≡ rest) × ((taken k).left ≡ k.left)
    here = front_step k m r rest front step.first

    none : list_any raises (taken k).front ≡ false
    none = ap (list_any raises) here.1 ∙ calm_none rest (both_right (is_calm r) (list_all is_calm rest) still)

    by_lower : ((x : ClockId) × (m ≡ micro.Lower x)) ⊎ ((x : ClockId) → m ≡ micro.Lower x → ⊥) → StepTells s (taken k) answer m y
    by_lower (inl low) =
        to (micro.Lower low.0) low.1
        (lower_tells s k answer low.0 y valid (ap (λ (n : Micro). (stepped s (taken k) answer n).1) (sym low.1) ∙ step.answered) (ap (λ (n : Micro). comes_next n (todo k)) (sym low.1) ∙ step.first) none list was)
    by_lower (inr other) = notice_tells s (taken k) answer m y (ap is_calm here.0 ∙ both_left (is_calm r) (list_all is_calm rest) still) other none (was_of s k m y step.first other was)
  by_calm [] [] list front still goes =
      let here = script_step k m front step.first in
      by_first front list (first_goes s.defs k.call m (taken k).left goes here.0) here.1

  taken_well : (xs : List ℕ) → RaisedWell s k xs → RaisedWell s (taken k) xs
  taken_well xs well = record { within = well.within; powered = well.powered; unprepared = well.unprepared }

  by_covered : (xs : List ℕ) → k.front ≡ [] → RaisedWell s k xs → GoesWell s.defs k.call k.timed_out xs (scene late s) k.left → StepTells s (taken k) answer m y
  by_covered [] empty well goes = by_calm [] [] (raised_none s k well) empty refl goes
  by_covered (x ∷ xs) empty well goes = by_cover (first_goes s.defs k.call m (taken k).left goes here.0) where
    here : (k.left ≡ m ∷ (taken k).left) × ((taken k).front ≡ [])
    here = script_step k m empty step.first

    not_lower : Serves s.defs (x ∷ xs) (scene late s) m → (z : ClockId) → m ≡ micro.Lower z → ⊥
    not_lower serves z e = subst (λ (n : Micro). Serves s.defs (x ∷ xs) (scene late s) n) e serves

    by_cover : FirstGoes s.defs k.call k.timed_out (x ∷ xs) (scene late s) m (taken k).left → StepTells s (taken k) answer m y
    by_cover (first_raises z is goes' cut) = to (micro.Raise z) is (raise_tells s (taken k) answer z y valid here.1 (was_of s k m y step.first (apart (micro.Raise z) is (λ v e. cc)) was))
    by_cover (first_ends is free alone prep) = absurd (end_stops s (taken k) answer m is step.answered)
    by_cover (first_makes plain serves grows stays goes') =
        covered_tells s (taken k) answer m x xs late y in_call.safe.wired plain here.1 step.answered serves stays (taken_well (x ∷ xs) well) (not_lower serves) (was_of s k m y step.first (not_lower serves) was)

  by_front : (x : ℕ) → RaisingFront s k x → StepTells s (taken k) answer m y
  by_front x (asks z front all) =
      let here = front_step k m (micro.Poll z) [] front step.first in
      to (micro.Poll z) here.0
      (poll_tells s (taken k) answer z y (polled_.polled z [] front) (λ w rest at. let no : [] ≡ micro.Poll w ∷ rest = sym here.1 ∙ at in absurd cc)
      (was_of s k m y step.first (apart (micro.Poll z) here.0 (λ v e. cc)) was))
  by_front x (asks_first z front) =
      let here = front_step k m (micro.Poll z) (micro.Raise (clock_id x) ∷ []) front step.first in
      to (micro.Poll z) here.0
      (poll_tells s (taken k) answer z y (polled_.polled z (micro.Raise (clock_id x) ∷ []) front) (λ w rest at. let no : micro.Raise (clock_id x) ∷ [] ≡ micro.Poll w ∷ rest = sym here.1 ∙ at in absurd cc)
      (was_of s k m y step.first (apart (micro.Poll z) here.0 (λ v e. cc)) was))
  by_front x (comes_again front) =
      let here = front_step k m (micro.Raise (clock_id x)) [] front step.first in
      to (micro.Raise (clock_id x)) here.0
      (raise_tells s (taken k) answer (clock_id x) y valid here.1 (was_of s k m y step.first (apart (micro.Raise (clock_id x)) here.0 (λ z e. cc)) was))

  by_stand : Stands s k late → StepTells s (taken k) answer m y
  by_stand (calm rest front still idle goes) = by_calm k.raised rest refl front still goes
  by_stand (covered xs empty well all goes) = by_covered xs empty well goes
  by_stand (raising done x well all front goes cut) = by_front x front
