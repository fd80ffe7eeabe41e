-- Laws on the raises of a change in flight: raises and polls leave it safe and raising, or timed out.
use Rattle.std.proofs.Common.{◌≡◌, ℕ, ◌+◌, ◌-◌, ◌≤◌, Bool, true, false, not, ◌||◌, ◌⊎◌, cond, map, List, [], ◌∷◌, ◌++◌, Option, Some, None, refl, sym, ap, subst, ◌∙◌, inl, inr, arith, length}
use Rattle.std.proofs.lemmas.Bool.Decides.{nat_tests}
use Rattle.std.proofs.lemmas.List.Folds.{list_all-append}
use Rattle.std.specs.Prelude.{IfSome, slice_get, slice_index, reverse, nat_le, filter, ◌==◌, if◌then◌else◌}
use Rattle.std.specs.List.{list_all}
use Rattle.std.specs.Option.{option_map_or}
use Rattle.clk_base.specs.declared.call.Micro.{Micro}
use Rattle.clk_base.specs.declared.call.Micro.TheVariants as micro
use Rattle.clk_base.specs.declared.call.Notice.TheVariants as notice
use Rattle.clk_base.specs.Description.{Description, kind_of}
use Rattle.clk_base.specs.Fields.{PowerBit, power_of}
use Rattle.clk_base.specs.Valid.{IsValid}
use Rattle.reg_bank.specs.Registers.{Registers}
use Rattle.clk_model.specs.Lists.{is_in}
use Rattle.clk_model.specs.Kinds.{is_powered}
use Rattle.clk_model.specs.State.{State, Change}
use Rattle.clk_model.specs.Tree.{path_to_be}
use Rattle.clk_model.specs.Holders.{prepared}
use Rattle.clk_model.specs.Gates.{settled}
use Rattle.clk_model.specs.Chain.{clock_id}
use Rattle.clk_model.specs.Notices.{Rates, notifiers_of, abort_list}
use Rattle.clk_model.specs.Script.{unprepared_plls}
use Rattle.clk_model.specs.Step.{on, powered, cut_short, sets_parent, aborts_of, missed_by, timed_out, to_raise, raise_one, raise, poll}
use Rattle.clk_model.proofs.Members.{is_in_head, is_in_cases, is_in-reverse, or_left, or_right}
use Rattle.clk_model.proofs.OnceLaws.{in_append}
use Rattle.clk_model.proofs.OnceLaws.{is_in-filter}
use Rattle.std.proofs.lemmas.Bool.{and_from}
use Rattle.clk_model.proofs.PllLaws.{at_place, length-filter-weaker}
use Rattle.clk_model.proofs.PowerLaws.{to_raise_over, settled_raise, settled_power, raised_fewer, powered_muxes}
use Rattle.clk_model.proofs.Scenes.{Scene, scene, GoesWell, IsSafe, is_over, RaisedWell, AllRaised, RaisingFront, asks, asks_first, comes_again, is_calm, covered, raising}
use Rattle.clk_model.proofs.KeepLaws.{keeps_raised, raised_powers}
use Rattle.clk_model.proofs.SceneStepLaws.{lands_on, lands_same, unprepared_idle}
use Rattle.clk_model.proofs.ArriveLaws.{Arrives, prepared_told, some_one}
use Rattle.clk_model.proofs.SupplyLaws.{if_one}
use Rattle.clk_model.proofs.StandLaws.{Goes, goes_told, over_told, stands_calm, IsEvent, arrive_same, change_after}

-- ---- what is raised after an event

-- what a step leaves of the PLLs that were raised
record StillRaised (s u : State) (k : Change) (xs : List ℕ) : Type 0 where
  within : (y : ℕ) → is_in y k.raised ≡ true → is_over s xs y ≡ true
  powered : (y : ℕ) (power : PowerBit) → is_in y k.raised ≡ true → power_of (kind_of s.defs y) ≡ Some power → is_powered u.regs power ≡ true
  unprepared : (y : ℕ) → is_in y k.raised ≡ true → prepared s y ≡ false

raised_after : (s u t : State) (k : Change) (late : Option ℕ) (xs : List ℕ) → Arrives s late t (scene late s) → IsEvent s u t → u.defs ≡ s.defs → IsValid (length s.regs) s.defs → StillRaised s u k xs → RaisedWell t k xs
unfolding settled
raised_after s u t k late xs arrives event same valid still = record {
  within = λ y m. over_told s t late xs y arrives.scene_is ∙ still.within y m;
  powered = λ y m.
      subst (λ (d : Description). IfSome (power_of (kind_of d y)) (λ power. is_powered t.regs power ≡ true)) (sym arrives.defs)
      (if_one (λ power. is_powered t.regs power ≡ true) (power_of (kind_of s.defs y))
      (λ power at.
      ap (λ (regs : Registers). is_powered regs power) (sym (ap (λ (v : State). v.regs) event.state))
      ∙ settled_power s u (length s.regs) y power (subst (λ (d : Description). IsValid (length s.regs) d) (sym same) valid) (ap (λ (d : Description). power_of (kind_of d y)) same ∙ at)
      ∙ still.powered y power m at));
  unprepared = λ y m. prepared_told late late s t (scene late s) y arrives.defs arrives.scene_is ∙ still.unprepared y m;
}

-- a change that goes on raising
stands_raising : (s t : State) (k : Change) (late : Option ℕ) (done : List ℕ) (x : ℕ) → Arrives s late t (scene late s) → t.change ≡ Some k → RaisedWell t k (done ++ x ∷ []) → AllRaised t k done → RaisingFront t k x
    → GoesWell s.defs k.call k.timed_out (done ++ x ∷ []) (scene late s) k.left → GoesWell s.defs k.call true [] (scene late s) (cut_short k.call k.left) → Goes t
stands_raising s t k late done x arrives at well all front goes cut = record {
  change = k;
  at = at;
  in_call = record {
    late = late;
    safe = arrives.safe;
    stands = raising done x well all front (goes_told s t k.call k.timed_out (done ++ x ∷ []) late (scene late s) k.left arrives.defs arrives.scene_is goes)
        (goes_told s t k.call true [] late (scene late s) (cut_short k.call k.left) arrives.defs arrives.scene_is cut);
  };
}

-- a change after its raises
pub stands_covered : (s t : State) (k : Change) (late : Option ℕ) (b : Scene) (xs : List ℕ) → Arrives s late t b → t.change ≡ Some k → k.front ≡ [] → RaisedWell t k xs → AllRaised t k xs
    → GoesWell s.defs k.call k.timed_out xs b k.left → Goes t
stands_covered s t k late b xs arrives at empty well all goes = record {
  change = k;
  at = at;
  in_call = record {
    late = late;
    safe = arrives.safe;
    stands = covered xs empty well all (goes_told s t k.call k.timed_out xs late b k.left arrives.defs arrives.scene_is goes);
  };
}

-- what is left to be raised over a state is so behind an event that leaves the muxes
to_raise_after : (s u t : State) (k : Change) (x : ℕ) → IsEvent s u t → IsValid (length s.regs) u.defs → to_raise u k x ≡ [] → to_raise t k x ≡ []
to_raise_after s u t k x event valid none =
    ap (λ (v : State). to_raise v k x) (sym event.state) ∙ settled_raise s u (length s.regs) (s.steps + 1) k x valid ∙ none

pub all_after : (s u t : State) (k : Change) (xs : List ℕ) → IsEvent s u t → IsValid (length s.regs) u.defs → AllRaised u k xs → AllRaised t k xs
all_after s u t k xs event valid all x m = to_raise_after s u t k x event valid (all x m)

-- a clock on the path of the last of these
over_last : (s : State) (done : List ℕ) (x y : ℕ) → is_in y (path_to_be s.defs s.regs s.clocks x) ≡ true → is_over s (done ++ x ∷ []) y ≡ true
over_last s [] x y m = or_left (is_in y (path_to_be s.defs s.regs s.clocks x)) false m
over_last s (d ∷ done) x y m = or_right (is_in y (path_to_be s.defs s.regs s.clocks d)) (is_over s (done ++ x ∷ []) y) (over_last s done x y m)

-- one of these is an earlier one or the last
last_cases : (z x : ℕ) (done : List ℕ) → is_in z (done ++ x ∷ []) ≡ true → (is_in z done ≡ true) ⊎ (x ≡ z)
last_cases z x done m = elim (in_append z done (x ∷ []) m) [
  | inl earlier ↦ inl earlier
  | inr last ↦ elim (is_in_cases z x [] last) [ inl same ↦ inr same | inr never ↦ absurd cc ]
]

-- ---- raises

first_none : (xs : List ℕ) → slice_get (reverse xs) 0 ≡ None → xs ≡ []
first_none [] at = refl
first_none (x ∷ xs) at = absurd (nothing (reverse (x ∷ xs)) at (is_in-reverse x (x ∷ xs) ∙ is_in_head x xs)) where
  nothing : (ys : List ℕ) → slice_get ys 0 ≡ None → is_in x ys ≡ true → ⊥
  nothing [] e m = cc
  nothing (y ∷ ys) e m = cc

none_long : (xs : List ℕ) → length xs + 1 ≤ 1 → xs ≡ []
none_long [] few = refl
none_long (x ∷ xs) few = absurd (omega arith)

same_raised : (s : State) (k j : Change) (xs : List ℕ) → RaisedWell s k xs → j.raised ≡ k.raised → StillRaised s (on s j) j xs
same_raised s k j xs well same = record {
  within = λ y m. well.within y (sym (ap (is_in y) same) ∙ m);
  powered = λ y power m at. some_one (λ p. is_powered s.regs p ≡ true) (power_of (kind_of s.defs y)) power (well.powered y (sym (ap (is_in y) same) ∙ m)) at;
  unprepared = λ y m. well.unprepared y (sym (ap (is_in y) same) ∙ m);
}

-- if none is left to be raised, none is with one more that is raised
none_more : (s : State) (k l : Change) (z y : ℕ) → IsValid (length s.regs) s.defs → l.raised ≡ y ∷ k.raised → to_raise s k z ≡ [] → to_raise (on (powered s y true) l) l z ≡ []
none_more s k l z y valid more none =
    to_raise_over s (powered s y true).regs l z (powered_muxes s (length s.regs) y true valid)
    ∙ ap (λ (ys : List ℕ). filter (λ w. not (is_in w ys)) (unprepared_plls s (path_to_be s.defs s.regs s.clocks z))) more
    ∙ fewer_none (unprepared_plls s (path_to_be s.defs s.regs s.clocks z)) none where
      weaker : (a b : Bool) → not (a || b) ≡ true → not b ≡ true
      weaker true b e = absurd cc
      weaker false b e = e

      fewer_none : (us : List ℕ) → filter (λ w. not (is_in w k.raised)) us ≡ [] → filter (λ w. not (is_in w (y ∷ k.raised))) us ≡ []
      fewer_none us e =
          let few = length-filter-weaker (λ w. not (is_in w (y ∷ k.raised))) (λ w. not (is_in w k.raised)) us (λ w f. weaker (y == w) (is_in w k.raised) f) in
          let zero_ = ap (λ (vs : List ℕ). length vs) e in
          none_long (filter (λ w. not (is_in w (y ∷ k.raised))) us) (omega (arith, few, zero_))

-- a raise leaves a change raising, or after its raises
pub raise_goes : (s t : State) (k : Change) (late : Option ℕ) (done : List ℕ) (x : ℕ) → IsSafe late s → RaisedWell s k (done ++ x ∷ []) → AllRaised s k done → k.front ≡ []
    → GoesWell s.defs k.call k.timed_out (done ++ x ∷ []) (scene late s) k.left → GoesWell s.defs k.call true [] (scene late s) (cut_short k.call k.left) → IsEvent s (raise s k x) t → Goes t
raise_goes s t k late done x safe well all empty goes cut event = one (slice_get (reverse (to_raise s k x)) 0) refl event where
  all_raised_ : slice_get (reverse (to_raise s k x)) 0 ≡ None → IsEvent s (on s (record k { again = 0 })) t → Goes t
  all_raised_ at ev =
      let j : Change = record k { again = 0 } in
      let arrives = arrive_same late s (on s j) t safe (lands_same s late j) ev in
      stands_covered s t j late (scene late s) (done ++ x ∷ []) arrives (change_after s (on s j) t j ev refl) empty
      (raised_after s (on s j) t j late (done ++ x ∷ []) arrives ev refl safe.wired.valid (same_raised s k j (done ++ x ∷ []) well refl))
      (all_after s (on s j) t j (done ++ x ∷ []) ev safe.wired.valid (λ z m. elim (last_cases z x done m) [
        | inl earlier ↦ all z earlier
        | inr same ↦ subst (λ (w : ℕ). to_raise s k w ≡ []) same (first_none (to_raise s k x) at)
      ])) goes

  -- one more PLL
  one_more : (y : ℕ) → slice_get (reverse (to_raise s k x)) 0 ≡ Some y → IsEvent s (raise_one s k x y) t → Goes t
  one_more y at ev =
      let more : Bool = nat_le 2 (length (to_raise s k x)) in
      let j : Change = record k {
        raised = y ∷ k.raised;
        polls = 32;
        again = cond more (k.again + 1) 0;
        front = micro.Poll (clock_id y) ∷ (cond more (micro.Raise (clock_id x) ∷ []) []) ++ k.front;
      } in
      let u : State = on (powered s y true) j in
      let there : is_in y (unprepared_plls s (path_to_be s.defs s.regs s.clocks x)) ≡ true =
      is_in-filter (λ z. not (is_in z k.raised)) y (unprepared_plls s (path_to_be s.defs s.regs s.clocks x)) (sym (is_in-reverse y (to_raise s k x)) ∙ at_place (reverse (to_raise s k x)) 0 y at) in
      let arrives = arrive_same late s u t safe (lands_on s late (powered s y true).regs j (powered_muxes s (length s.regs) y true safe.wired.valid) (keeps_raised s y safe.wired.valid)) ev in
      stands_raising s t j late done x arrives (change_after s u t j ev refl)
      (raised_after s u t j late (done ++ x ∷ []) arrives ev refl safe.wired.valid (still y there j refl))
      (all_after s u t j done ev safe.wired.valid (λ z m. none_more s k j z y safe.wired.valid refl (all z m)))
      (by_more more refl y at j refl refl ev)
      goes cut where
        still : (z : ℕ) → is_in z (unprepared_plls s (path_to_be s.defs s.regs s.clocks x)) ≡ true → (l : Change) → l.raised ≡ z ∷ k.raised → StillRaised s (on (powered s z true) l) l (done ++ x ∷ [])
        still z m l is = record {
          within = λ w n. elim (is_in_cases w z k.raised (sym (ap (is_in w) is) ∙ n)) [
            | inl same ↦ subst (λ (v : ℕ). is_over s (done ++ x ∷ []) v ≡ true) same (over_last s done x z (is_in-filter _ z (path_to_be s.defs s.regs s.clocks x) m))
            | inr later ↦ well.within w later
          ];
          powered = λ w power n own. elim (is_in_cases w z k.raised (sym (ap (is_in w) is) ∙ n)) [
            | inl same ↦ raised_powers s z w power safe.wired.valid own (inl same)
            | inr later ↦ raised_powers s z w power safe.wired.valid own (inr (some_one (λ p. is_powered s.regs p ≡ true) (power_of (kind_of s.defs w)) power (well.powered w later) own))
          ];
          unprepared = λ w n. elim (is_in_cases w z k.raised (sym (ap (is_in w) is) ∙ n)) [
            | inl same ↦ subst (λ (v : ℕ). prepared s v ≡ false) same (unprepared_idle s (path_to_be s.defs s.regs s.clocks x) z m)
            | inr later ↦ well.unprepared w later
          ];
        }

        by_more : (b : Bool) → nat_le 2 (length (to_raise s k x)) ≡ b → (z : ℕ) → slice_get (reverse (to_raise s k x)) 0 ≡ Some z → (l : Change) → l.raised ≡ z ∷ k.raised
            → l.front ≡ micro.Poll (clock_id z) ∷ (cond (nat_le 2 (length (to_raise s k x))) (micro.Raise (clock_id x) ∷ []) []) ++ k.front → IsEvent s (on (powered s z true) l) t → RaisingFront t l x
        by_more true e z first l is front ev' =
            asks_first (clock_id z) (front ∙ ap (λ (c : Bool). micro.Poll (clock_id z) ∷ (cond c (micro.Raise (clock_id x) ∷ []) []) ++ k.front) e ∙ ap (λ (ms : List Micro). micro.Poll (clock_id z) ∷ micro.Raise (clock_id x) ∷ ms) empty)
        by_more false e z first l is front ev' =
            let fewer = raised_fewer s (length s.regs) k l x z (s.steps + 1) safe.wired.valid first is in
            let few : length (to_raise s k x) ≤ 1 = grind (arith, nat_tests) in
            let none = none_long (to_raise (record (settled s (on (powered s z true) l)) { steps = s.steps + 1 }) l x) (omega arith) in
            asks (clock_id z) (front ∙ ap (λ (c : Bool). micro.Poll (clock_id z) ∷ (cond c (micro.Raise (clock_id x) ∷ []) []) ++ k.front) e ∙ ap (λ (ms : List Micro). micro.Poll (clock_id z) ∷ ms) empty)
            (ap (λ (v : State). to_raise v l x) (sym ev'.state) ∙ none)

  one : (o : Option ℕ) → slice_get (reverse (to_raise s k x)) 0 ≡ o → IsEvent s (option_map_or (raise_one s k x) o (on s (record k { again = 0 }))) t → Goes t
  one None at ev = all_raised_ at ev
  one (Some y) at ev = one_more y at ev

-- ---- polls

pub calm_append : (ms ns : List Micro) → list_all is_calm ms ≡ true → list_all is_calm ns ≡ true → list_all is_calm (ms ++ ns) ≡ true
calm_append ms ns first second = list_all-append is_calm ms ns ∙ and_from (list_all is_calm ms) (list_all is_calm ns) first second

pub calm_map : {X : Type 0} (f : X → Micro) (xs : List X) → ((x : X) → is_calm (f x) ≡ true) → list_all is_calm (map f xs) ≡ true
calm_map f [] each = refl
calm_map f (x ∷ xs) each = and_from (is_calm (f x)) (list_all is_calm (map f xs)) (each x) (calm_map f xs each)

calm_aborts : (s : State) (k : Change) → list_all is_calm (aborts_of s k) ≡ true
calm_aborts s k = by_call (sets_parent k.call) where
  rates : Rates
  rates = record { before = k.before; outcome = k.outcome }

  each : (cs : List ℕ) → list_all is_calm (abort_list rates s.notifiers cs) ≡ true
  each [] = refl
  each (c ∷ cs) =
      calm_append (map (λ n. micro.Notify notice.Abort (clock_id c) n.id (slice_index k.before c) (slice_index k.outcome c)) (notifiers_of s.notifiers c)) (abort_list rates s.notifiers cs)
      (calm_map (λ n. micro.Notify notice.Abort (clock_id c) n.id (slice_index k.before c) (slice_index k.outcome c)) (notifiers_of s.notifiers c) (λ n. refl)) (each cs)

  by_call : (b : Bool) → list_all is_calm (if b then abort_list rates s.notifiers k.changing else []) ≡ true
  by_call true = each k.changing
  by_call false = refl

-- a poll that times out leaves a change between its raises, with what was raised to fall
timed_out_goes : (s t : State) (k : Change) (late : Option ℕ) (xs : List ℕ) → IsSafe late s → RaisedWell s k xs → GoesWell s.defs k.call true [] (scene late s) (cut_short k.call k.left)
    → IsEvent s (timed_out s (record k { polls = 0 })) t → Goes t
timed_out_goes s t k late xs safe well cut event =
    let j : Change = record k {
      polls = 0;
      timed_out = true;
      again = 0;
      extra = 0;
      front = map (λ y. micro.Fall (clock_id y)) k.raised ++ aborts_of s k;
      left = cut_short k.call k.left;
      missed = missed_by k.call k.left;
    } in
    stands_calm s t j late (scene late s) (aborts_of s k) (arrive_same late s (on s j) t safe (lands_same s late j) event) (change_after s (on s j) t j event refl) refl (calm_aborts s k)
    (λ y m. well.unprepared y m) cut

-- what stands in front of a poll's script behind it: nothing, with all raised, or the raise that comes again
pub data BehindPoll (s : State) (k : Change) (x : ℕ) : Type 0 where
  all_raised : k.front ≡ [] → to_raise s k x ≡ [] → BehindPoll s k x
  to_go_on : k.front ≡ micro.Raise (clock_id x) ∷ [] → BehindPoll s k x

-- a poll leaves a change raising, after its raises, or timed out
pub poll_goes : (s t : State) (k : Change) (late : Option ℕ) (done : List ℕ) (x y : ℕ) (b : Bool) → IsSafe late s → RaisedWell s k (done ++ x ∷ []) → AllRaised s k done → BehindPoll s k x
    → GoesWell s.defs k.call k.timed_out (done ++ x ∷ []) (scene late s) k.left → GoesWell s.defs k.call true [] (scene late s) (cut_short k.call k.left) → IsEvent s (poll s k y b) t → Goes t
poll_goes s t k late done x y true safe well all front goes cut event = by_front front where
  j : Change
  j = record k { polls = 0 }

  arrives : Arrives s late t (scene late s)
  arrives = arrive_same late s (on s j) t safe (lands_same s late j) event

  well_t : RaisedWell t j (done ++ x ∷ [])
  well_t = raised_after s (on s j) t j late (done ++ x ∷ []) arrives event refl safe.wired.valid (same_raised s k j (done ++ x ∷ []) well refl)

  by_front : BehindPoll s k x → Goes t
  by_front (all_raised empty none) =
      stands_covered s t j late (scene late s) (done ++ x ∷ []) arrives (change_after s (on s j) t j event refl) empty well_t
      (all_after s (on s j) t j (done ++ x ∷ []) event safe.wired.valid (λ z m. elim (last_cases z x done m) [
        | inl earlier ↦ all z earlier
        | inr same ↦ subst (λ (w : ℕ). to_raise s k w ≡ []) same none
      ])) goes
  by_front (to_go_on more) =
      stands_raising s t j late done x arrives (change_after s (on s j) t j event refl) well_t (all_after s (on s j) t j done event safe.wired.valid all) (comes_again more) goes cut
poll_goes s t k late done x y false safe well all front goes cut event = by_polls (nat_le k.polls 1) event where
  j : Change
  j = record k { polls = k.polls - 1; front = micro.Poll (clock_id y) ∷ k.front }

  now : BehindPoll s k x → IsEvent s (on s j) t → RaisingFront t j x
  now (all_raised empty none) ev = asks (clock_id y) (ap (λ (ms : List Micro). micro.Poll (clock_id y) ∷ ms) empty) (to_raise_after s (on s j) t j x ev safe.wired.valid none)
  now (to_go_on more) ev = asks_first (clock_id y) (ap (λ (ms : List Micro). micro.Poll (clock_id y) ∷ ms) more)

  by_polls : (c : Bool) → IsEvent s (if c then timed_out s (record k { polls = 0 }) else on s j) t → Goes t
  by_polls true ev = timed_out_goes s t k late (done ++ x ∷ []) safe well cut ev
  by_polls false ev =
      let arrives = arrive_same late s (on s j) t safe (lands_same s late j) ev in
      stands_raising s t j late done x arrives (change_after s (on s j) t j ev refl) (raised_after s (on s j) t j late (done ++ x ∷ []) arrives ev refl safe.wired.valid (same_raised s k j (done ++ x ∷ []) well refl))
      (all_after s (on s j) t j done ev safe.wired.valid all) (now front ev) goes cut
