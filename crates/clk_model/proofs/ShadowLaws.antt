-- Laws on shadows: a state that follows a sweep of another by its steps alone keeps its part of the prepare tier, but for a PLL that is polled next.
use Rattle.std.proofs.Common.{◌≡◌, ℕ, ◌+◌, ◌-◌, ◌||◌, Bool, true, false, cond, List, [], ◌∷◌, ◌++◌, Option, Some, None, refl, sym, ap, subst, ◌∙◌, inl, inr, arith, length, nat_eq, nat_le, map}
use Rattle.std.specs.Prelude.{slice_get, reverse}
use Rattle.std.specs.List.{list_any}
use Rattle.std.specs.Option.{option_map_or}
use Rattle.std.proofs.lemmas.Bool.{cases_lt}
use Rattle.clk_base.specs.declared.clock.ClockId.{ClockId}
use Rattle.clk_base.specs.declared.call.Micro.{Micro}
use Rattle.clk_base.specs.declared.call.Micro.TheVariants as micro
use Rattle.clk_base.specs.declared.call.Sleeping.{Sleeping}
use Rattle.clk_base.specs.declared.call.Sleeping.TheVariants as call
use Rattle.clk_base.specs.declared.event.Event.{Event}
use Rattle.clk_base.specs.declared.event.Turn.{Turn}
use Rattle.clk_base.specs.declared.event.Turn.TheVariants as turn
use Rattle.clk_base.specs.Description.{kind_of}
use Rattle.clk_base.specs.Fields.{PowerBit, power_of}
use Rattle.clk_base.specs.Valid.{IsValid}
use Rattle.reg_bank.specs.Registers.{Registers, is_set, put_bit}
use Rattle.reg_bank.proofs.BitLaws.{length-put_bit, is_set-put_bit_same, is_set-put_bit_other, is_set_past}
use Rattle.clk_model.specs.declared.row.ClockRow.{ClockRow}
use Rattle.clk_model.specs.Lists.{without_one}
use Rattle.clk_model.specs.State.{State, Change}
use Rattle.clk_model.specs.Chain.{clock_id}
use Rattle.clk_model.specs.Gates.{settled}
use Rattle.clk_model.specs.Script.{sweep_script}
use Rattle.clk_model.specs.Begin.{change_of, begun}
use Rattle.clk_model.specs.Step.{todo, taken, left_behind, on, powered, is_end, cut_short, aborts_of, timed_out, to_raise, raise_one, raise, poll, to_lower, lower_one, lower, close, is_yes, unranged, ended_well, range_back, stepped}
use Rattle.clk_model.specs.Machine.{is_poll, comes_next, next}
use Rattle.clk_model.specs.Journal.{opening, replay}
use Rattle.clk_model.specs.Prep.{masked, is_sweep, prep}
use Rattle.clk_model.specs.Tier.{is_enable_tier}
use Rattle.clk_model.specs.Laws.PrepSteps.{is_of_sweep}
use Rattle.clk_model.specs.Laws.Twins.{IsTwin}
use Rattle.clk_model.specs.Laws.Shadows.{sweeps, without_change, polled_by, polled_first, polled_next, powered_too, sweep_does, lowers_there, IsShadow, GoesBy, as_twin, as_shadow, ShadowsStay, ShadowsBegin, ShadowsStep}
use Rattle.clk_model.proofs.AlikeLaws.{Alike, alike_prep, is_beside, looks_alike, same_changes}
use Rattle.clk_model.proofs.AlikeLaws as alike
use Rattle.clk_model.proofs.BareHandleLaws.{bare}
use Rattle.clk_model.proofs.BeginLaws.{sweep_has_no}
use Rattle.clk_model.proofs.FeedLaws.{NoFeeding}
use Rattle.clk_model.proofs.FlightLaws.{begin_is}
use Rattle.clk_model.proofs.LinkLaws.{runs_are_wired}
use Rattle.clk_model.proofs.Members.{test_other, same_from_test}
use Rattle.clk_model.proofs.MicroLaws.{comes_first}
use Rattle.clk_model.proofs.NoneLaws.{none_append, none_map, none_front, none_rest}
use Rattle.clk_model.proofs.PrepEndLaws.{prep_stepped}
use Rattle.clk_model.proofs.PrepEventLaws.{prep_paid}
use Rattle.clk_model.proofs.PrepLaws.{masked_same}
use Rattle.clk_model.proofs.PrepStepLaws.{shut, power_masks, lower_same}
use Rattle.clk_model.proofs.RunsFedLaws.{runs_leave_no_hold}
use Rattle.clk_model.proofs.ScriptLaws.{none_cut}
use Rattle.clk_model.proofs.ShapeLaws.{IsCounted, begun_paid, enable_paid, taken_step}
use Rattle.clk_model.proofs.SweptLaws.{SweptStep, swept_step, runs_are_swept}
use Rattle.clk_model.proofs.TierLaws.{enable_tier_leaves_prep, beside_change}
use Rattle.clk_model.proofs.PrepRunLaws.{sweep_state}
use Rattle.clk_model.proofs.TwinLaws.{twins_stay}

-- ---- powered PLLs

-- a bit that is written twice is as if it were written once
twice : (regs : Registers) (word bit : ℕ) (value : Bool) (other at : ℕ) → is_set (put_bit (put_bit regs word bit value) word bit value) other at ≡ is_set (put_bit regs word bit value) other at
twice regs word bit value other at = by (nat_eq other word) (nat_eq at bit) refl refl where
  new : Registers
  new = put_bit regs word bit value

  here : is_set (put_bit new word bit value) word bit ≡ is_set new word bit
  here = elim (cases_lt word (length regs)) [
    | inl within ↦ is_set-put_bit_same new word bit value (rw (length-put_bit regs word bit value) within) ∙ sym (is_set-put_bit_same regs word bit value within)
    | inr past ↦
        is_set_past (put_bit new word bit value) word bit (rw (length-put_bit new word bit value) (rw (length-put_bit regs word bit value) past))
        ∙ sym (is_set_past new word bit (rw (length-put_bit regs word bit value) past))
  ]

  by : (a b : Bool) → nat_eq other word ≡ a → nat_eq at bit ≡ b → is_set (put_bit new word bit value) other at ≡ is_set new other at
  by false b e f = is_set-put_bit_other new word bit value other at (inl (λ same. test_other other word e same))
  by true false e f = is_set-put_bit_other new word bit value other at (inr (λ same. test_other at bit f same))
  by true true e f =
      subst (λ (v : ℕ). is_set (put_bit new word bit value) v at ≡ is_set new v at) (sym (same_from_test other word e))
      (subst (λ (v : ℕ). is_set (put_bit new word bit value) word v ≡ is_set new word v) (sym (same_from_test at bit f)) here)

twice_masked : (t : State) (y : ℕ) (up : Bool) → masked t.defs (powered (powered t y up) y up).regs ≡ masked t.defs (powered t y up).regs
twice_masked t y up = by (power_of (kind_of t.defs y)) where
  by : (o : Option PowerBit)
      → masked t.defs (option_map_or (λ p. put_bit (option_map_or (λ q. put_bit t.regs q.word q.bit up) o t.regs) p.word p.bit up) o (option_map_or (λ q. put_bit t.regs q.word q.bit up) o t.regs))
      ≡ masked t.defs (option_map_or (λ q. put_bit t.regs q.word q.bit up) o t.regs)
  by None = refl
  by (Some p) =
      masked_same t.defs (put_bit (put_bit t.regs p.word p.bit up) p.word p.bit up) (put_bit t.regs p.word p.bit up) (length-put_bit (put_bit t.regs p.word p.bit up) p.word p.bit up)
      (λ word bit none. twice t.regs p.word p.bit up word bit)

powered_twice : (t : State) (y : ℕ) (up : Bool) → prep (without_change (powered (powered t y up) y up)) ≡ prep (without_change (powered t y up))
powered_twice t y up = alike_prep _ _ (record {
  defs = refl;
  regs = twice_masked t y up;
  clocks = refl;
  order = refl;
  handles = refl;
  notifiers = refl;
  prepare_holds = refl;
  change = refl;
  credits = refl;
  ignore_unused = refl;
})

-- states with the same part have the same part with a PLL powered, or without its power
powered_same : (words : ℕ) (s t : State) (y : ℕ) (up : Bool) → IsValid words s.defs → prep t ≡ prep s → prep (powered t y up) ≡ prep (powered s y up)
powered_same words s t y up valid same =
    let look = looks_alike words s t valid same in
    alike_prep (powered t y up) (powered s y up)
    (subst (λ (v : State). Alike (powered v y up) (powered s y up)) (sym (is_beside s t same)) (record {
      defs = refl;
      regs = power_masks words s t.regs t.handles (alike.rest_of t) look y up;
      clocks = refl;
      order = refl;
      handles = look.handles;
      notifiers = refl;
      prepare_holds = refl;
      change = same_changes s t same;
      credits = refl;
      ignore_unused = refl;
    }))

-- and the same PLLs to be lowered
lowered_same : (words : ℕ) (s t : State) (x : ℕ) → IsValid words s.defs → prep t ≡ prep s → to_lower t x ≡ to_lower s x
lowered_same words s t x valid same =
    ap (λ (v : State). to_lower v x) (is_beside s t same) ∙ lower_same words s t.regs t.handles (alike.rest_of t) (looks_alike words s t valid same) x

-- a change in flight that holds nothing doesn't matter for them
aside : (s : State) (x : ℕ) → s.prepare_holds ≡ [] → to_lower s x ≡ to_lower (without_change s) x
aside s x none = ap (λ (holds : List ℕ). let u : State = record s { prepare_holds = holds } in to_lower u x) none

-- ---- the part without the change

part_aside : (s : State) → prep (without_change s) ≡ without_change (prep s)
unfolding prep
part_aside s = refl

-- it is the same if the part is
same_aside : (s t : State) → prep t ≡ prep s → prep (without_change t) ≡ prep (without_change s)
same_aside s t same = part_aside t ∙ ap without_change same ∙ sym (part_aside s)

-- ---- the PLL that is polled next

none_polled : (ms : List Micro) → list_any is_poll ms ≡ false → polled_first ms ≡ None
none_polled [] none = refl
none_polled (m ∷ ms) none = by m (none_front is_poll m ms none) where
  by : (n : Micro) → is_poll n ≡ false → polled_by n ≡ None
  by (micro.Poll y) e = absurd cc
  by _ e = refl

-- it is that of the step which comes next
next_polled : (s : State) (k : Change) (m : Micro) → s.change ≡ Some k → comes_next m (todo k) ≡ true → polled_next s ≡ polled_by m
next_polled s k m at first =
    ap (λ (o : Option Change). option_map_or (λ k. polled_first (todo k)) o None) at ∙ ap polled_first (comes_first m (todo k) first).1

-- ---- a step

-- with a PLL powered too that isn't polled next
told : (v u : State) → polled_next v ≡ None → prep (without_change u) ≡ prep (without_change v) → prep (without_change (powered_too (polled_next v) u)) ≡ prep (without_change v)
told v u none same = ap (λ (o : Option ℕ). prep (without_change (powered_too o u))) none ∙ same

module _ (words : ℕ) (s t : State) (k : Change) (valid : IsValid words s.defs) (empty : t.prepare_holds ≡ []) (is : k.call ≡ call.Sweep) (first : list_any is_poll k.front ≡ false) (left : list_any is_poll k.left ≡ false) where
  calm : polled_first (k.front ++ k.left) ≡ None
  calm = none_polled (k.front ++ k.left) (none_append is_poll k.front k.left first left)

  powers : (y : ℕ) (up : Bool) → prep (without_change t) ≡ prep (without_change s) → prep (without_change (powered t y up)) ≡ prep (without_change (powered s y up))
  powers y up same = powered_same words (without_change s) (without_change t) y up valid same

  raise_follows : (x : ℕ) → prep (without_change t) ≡ prep (without_change s) → prep (without_change (powered_too (polled_next (raise s k x)) t)) ≡ prep (without_change (raise s k x))
  raise_follows x same = by (slice_get (reverse (to_raise s k x)) 0) where
    by : (o : Option ℕ) → prep (without_change (powered_too (polled_next (option_map_or (raise_one s k x) o (on s (record k { again = 0 })))) t))
        ≡ prep (without_change (option_map_or (raise_one s k x) o (on s (record k { again = 0 }))))
    by None = told (on s (record k { again = 0 })) t calm same
    by (Some y) = powers y true same

  lower_follows : (x : ℕ) → s.prepare_holds ≡ [] → prep (without_change t) ≡ prep (without_change s)
      → prep (without_change (powered_too (polled_next (lower s k x)) (option_map_or (λ y. powered t y false) (slice_get (to_lower t x) 0) t))) ≡ prep (without_change (lower s k x))
  lower_follows x none same =
      subst (λ (ys : List ℕ). prep (without_change (powered_too (polled_next (lower s k x)) (option_map_or (λ y. powered t y false) (slice_get ys 0) t))) ≡ prep (without_change (lower s k x)))
      (sym (aside t x empty ∙ lowered_same words (without_change s) (without_change t) x valid same ∙ sym (aside s x none))) (by (slice_get (to_lower s x) 0)) where
        lowered : ℕ → Bool → State
        lowered y more = on (powered s y false) (record k { again = cond more (k.again + 1) 0; front = cond more (micro.Lower (clock_id x) ∷ []) [] ++ k.front })

        one : (y : ℕ) (more : Bool) → prep (without_change (powered_too (polled_next (lowered y more)) (powered t y false))) ≡ prep (without_change (lowered y more))
        one y true = powers y false same
        one y false = told (lowered y false) (powered t y false) calm (powers y false same)

        by : (o : Option ℕ) → prep (without_change (powered_too (polled_next (option_map_or (lower_one s k x) o (on s (record k { again = 0 })))) (option_map_or (λ y. powered t y false) o t)))
            ≡ prep (without_change (option_map_or (lower_one s k x) o (on s (record k { again = 0 }))))
        by None = told (on s (record k { again = 0 })) t calm same
        by (Some y) = one y (nat_le 2 (length (to_lower s x)))

  poll_follows : (y : ℕ) (locked : Bool) → prep (without_change (powered t y true)) ≡ prep (without_change s)
      → prep (without_change (powered_too (polled_next (poll s k y locked)) (powered t y true))) ≡ prep (without_change (poll s k y locked))
  poll_follows y locked same = by locked where
    j : Change
    j = record k { polls = 0 }

    again : State
    again = on s (record k { polls = k.polls - 1; front = micro.Poll (clock_id y) ∷ k.front })

    no_aborts : aborts_of s j ≡ []
    no_aborts = ap (λ (w : Sleeping). aborts_of s (record j { call = w })) is

    fallen : list_any is_poll (map (λ z. micro.Fall (clock_id z)) k.raised ++ aborts_of s j) ≡ false
    fallen =
        none_append is_poll (map (λ z. micro.Fall (clock_id z)) k.raised) (aborts_of s j) (none_map is_poll (λ z. micro.Fall (clock_id z)) k.raised (λ z. refl)) (ap (list_any is_poll) no_aborts)

    late : (b : Bool) → prep (without_change (powered_too (polled_next (cond b (timed_out s j) again)) (powered t y true))) ≡ prep (without_change (cond b (timed_out s j) again))
    late true =
        told (timed_out s j) (powered t y true)
        (none_polled ((map (λ z. micro.Fall (clock_id z)) k.raised ++ aborts_of s j) ++ cut_short k.call k.left)
        (none_append is_poll (map (λ z. micro.Fall (clock_id z)) k.raised ++ aborts_of s j) (cut_short k.call k.left) fallen (none_cut is_poll k.call k.left left))) same
    late false = powered_twice t y true ∙ same

    by : (b : Bool) → prep (without_change (powered_too (polled_next (poll s k y b)) (powered t y true))) ≡ prep (without_change (poll s k y b))
    by true = told (on s j) (powered t y true) calm same
    by false = late (nat_le k.polls 1)

  close_follows : (c : ℕ) → prep (without_change t) ≡ prep (without_change s) → prep (without_change t) ≡ prep (without_change (close s k c))
  close_follows c same = same ∙ sym (alike_prep (without_change (close s k c)) (without_change s) (record {
    defs = refl;
    regs = shut s c;
    clocks = refl;
    order = refl;
    handles = refl;
    notifiers = refl;
    prepare_holds = refl;
    change = refl;
    credits = refl;
    ignore_unused = refl;
  }))

  -- an enable hold is no part of it
  enables_aside : (es : List ℕ) → prep (without_change (record s { enable_holds = es })) ≡ prep (without_change s)
  unfolding prep
  enables_aside es = refl

  step_follows : (answer : Option Bool) (m : Micro) → is_of_sweep m ≡ true → is_end m ≡ false → ((x : ClockId) → m ≡ micro.Lower x → s.prepare_holds ≡ [])
      → prep (without_change (powered_too (polled_by m) t)) ≡ prep (without_change s)
      → prep (without_change (powered_too (polled_next (stepped s k answer m).0) (sweep_does t m))) ≡ prep (without_change (stepped s k answer m).0)
  unfolding stepped
  step_follows answer (micro.Raise x) own going lowers same = raise_follows x.0 same
  step_follows answer (micro.Poll y) own going lowers same = poll_follows y.0 (is_yes answer) same
  step_follows answer (micro.Fall y) own going lowers same = told (stepped s k answer (micro.Fall y)).0 (powered t y.0 false) calm (powers y.0 false same)
  step_follows answer (micro.HoldPrepare x) own going lowers same = told (stepped s k answer (micro.HoldPrepare x)).0 t calm same
  step_follows answer (micro.HoldEnable x) own going lowers same = told (stepped s k answer (micro.HoldEnable x)).0 t calm (same ∙ sym (enables_aside (x.0 ∷ s.enable_holds)))
  step_follows answer (micro.DropEnable x) own going lowers same = told (stepped s k answer (micro.DropEnable x)).0 t calm (same ∙ sym (enables_aside (without_one x.0 s.enable_holds)))
  step_follows answer (micro.DropPrepare x) own going lowers same = told (stepped s k answer (micro.DropPrepare x)).0 t calm same
  step_follows answer (micro.Lower x) own going lowers same = lower_follows x.0 (lowers x refl) same
  step_follows answer (micro.Close c) own going lowers same = told (stepped s k answer (micro.Close c)).0 t calm (close_follows c.0 same)
  step_follows answer (micro.Unpower c) own going lowers same = told (stepped s k answer (micro.Unpower c)).0 (powered t c.0 false) calm (powers c.0 false same)
  step_follows answer micro.End own going lowers same = absurd cc
  step_follows answer _ own going lowers same = absurd cc

-- ---- what it leaves of the rest

-- registers alone change
does_regs : (t : State) (m : Micro) → sweep_does t m ≡ record t { regs = (sweep_does t m).regs }
does_regs t (micro.Lower x) = by (slice_get (to_lower t x.0) 0) where
  by : (o : Option ℕ) → (let u : State = option_map_or (λ y. powered t y false) o t in u) ≡ record t { regs = (option_map_or (λ y. powered t y false) o t).regs }
  by None = refl
  by (Some y) = refl
does_regs t _ = refl

-- a step that isn't the end goes on
goes_on : (s : State) (k : Change) (answer : Option Bool) (m : Micro) → is_end m ≡ false → (stepped s k answer m).1 ≡ turn.Going
unfolding stepped
goes_on s k answer micro.End going = absurd cc
goes_on s k answer _ going = refl

-- the end of a sweep ends it, and does nothing else
ends_bare : (s : State) (k : Change) (answer : Option Bool) (m : Micro) → is_end m ≡ true → k.call ≡ call.Sweep → (stepped s k answer m).0 ≡ record s { change = None }
unfolding stepped
ends_bare s k answer micro.End last is = by (k.vetoed || k.timed_out) where
  by : (b : Bool) → (let u : State = record (cond b (unranged s k) (ended_well s k.driver k.call)) { change = None } in u) ≡ record s { change = None }
  by true = ap (λ (w : Sleeping). let u : State = record s { handles = range_back w k.range s.handles; change = None } in u) is
  by false = ap (λ (w : Sleeping). let u : State = record (ended_well s k.driver w) { change = None } in u) is
ends_bare s k answer _ last is = absurd cc

-- ---- the laws

pub shadows_stay : ShadowsStay
shadows_stay s t u d e x shadow tier step =
    let paid = enable_paid s u d e x tier step in
    let change = beside_change s u d e x tier step in
    let part = enable_tier_leaves_prep s u d e x tier step in
    let least = shadow.spent in
    let few = shadow.steps in
    let spent = paid.spent in
    let steps = paid.steps in
    record {
      follows = shadow.follows;
      sweeps_ = ap (λ (o : Option Change). option_map_or (λ k. is_sweep k.call) o false) change ∙ shadow.sweeps_;
      bare = shadow.bare;
      prepares = shadow.prepares;
      enables = shadow.enables;
      spent = omega arith;
      steps = omega arith;
      same = ap (λ (o : Option Change). prep (without_change (powered_too (option_map_or (λ k. polled_first (todo k)) o None) t))) change ∙ shadow.same ∙ sym (same_aside s u part);
    }

-- so a state goes by another still
pub goes_by_stays : (s t u : State) (d : ℕ) (e : Event) (x : Turn) → GoesBy t s → is_enable_tier e ≡ true → next s d e ≡ Some (u, x) → GoesBy t u
goes_by_stays s t u d e x (as_twin none twin) tier step = as_twin none (twins_stay s t u d e x twin tier step)
goes_by_stays s t u d e x (as_shadow shadow) tier step = as_shadow (shadows_stay s t u d e x shadow tier step)

-- it is a twin, if no sweep is in flight in it, or none in the other
pub twin_unswept : (s t : State) → GoesBy t s → sweeps t ≡ false → IsTwin t s
twin_unswept s t (as_twin none twin) unswept = twin
twin_unswept s t (as_shadow shadow) unswept = let no : true ≡ false = sym shadow.follows ∙ unswept in absurd cc

pub twin_beside : (s t : State) → GoesBy t s → sweeps s ≡ false → IsTwin t s
twin_beside s t (as_twin none twin) unswept = twin
twin_beside s t (as_shadow shadow) unswept = let no : true ≡ false = sym shadow.sweeps_ ∙ unswept in absurd cc

-- and a shadow, if one is
pub shadow_swept : (s t : State) → GoesBy t s → sweeps t ≡ true → IsShadow t s
shadow_swept s t (as_twin none twin) swept = let no : false ≡ true = sym none ∙ swept in absurd cc
shadow_swept s t (as_shadow shadow) swept = shadow

-- no step of a script polls
poll_is_no_feeding : NoFeeding is_poll
poll_is_no_feeding (micro.Poll y) e = absurd cc
poll_is_no_feeding _ e = refl

same_holds : (q v : State) → prep v ≡ prep q → v.prepare_holds ≡ q.prepare_holds
unfolding prep
same_holds q v same = ap (λ (w : State). w.prepare_holds) same

same_clocks : (q v : State) → prep (without_change v) ≡ prep (without_change q) → v.clocks ≡ q.clocks
unfolding prep
same_clocks q v same = ap (λ (w : State). w.clocks) same

spent_aside : (v : State) (j : Change) → prep (without_change (record v { change = Some j; spent = v.spent + 1 })) ≡ prep (without_change v)
unfolding prep
spent_aside v j = refl

change_aside : (v : State) (j : Change) → prep (without_change v) ≡ prep (without_change (record v { change = Some j }))
change_aside v j = refl

pub shadows_begin : ShadowsBegin
unfolding settled
shadows_begin defs regs ignore_unused credits journal t u l d valid twin is step =
    let s : State = replay (opening defs regs ignore_unused credits) journal in
    let start = begin_is s u d call.Sweep turn.Going step in
    let paid = (begun_paid s u d call.Sweep turn.Going step).0 in
    let holds = runs_leave_no_hold defs regs ignore_unused credits journal valid start.0 in
    let begun_ : (begun s d call.Sweep).0 ≡ record s { change = Some (change_of s d call.Sweep (sweep_script s)) } = sweep_state s d start.2 in
    let change : u.change ≡ Some (change_of s d call.Sweep (sweep_script s)) = sym (ap (λ (v : State). v.change) start.1) ∙ ap (λ (v : State). v.change) begun_ in
    let part : prep u ≡ prep (record s { change = Some (change_of s d call.Sweep (sweep_script s)) }) = ap prep (sym start.1) ∙ prep_paid s (begun s d call.Sweep) ∙ ap prep begun_ in
    let spent = paid.spent in
    let steps = paid.steps in
    let least = twin.spent in
    let few = twin.steps in
    record {
      follows = is;
      sweeps_ = ap (λ (o : Option Change). option_map_or (λ k. is_sweep k.call) o false) change;
      bare = twin.bare;
      prepares = same_holds s t twin.same ∙ holds.prepares;
      enables = twin.holds ∙ holds.enables;
      spent = omega arith;
      steps = omega arith;
      same = told u (record t { change = Some l; spent = t.spent + 1 })
          (ap (λ (o : Option Change). option_map_or (λ k. polled_first (todo k)) o None) change
          ∙ none_polled (sweep_script s) (sweep_has_no is_poll s poll_is_no_feeding (λ c. refl) (λ c. refl) refl))
          (spent_aside t l ∙ same_aside s t twin.same ∙ change_aside s (change_of s d call.Sweep (sweep_script s)) ∙ sym (same_aside (record s { change = Some (change_of s d call.Sweep (sweep_script s)) }) u part));
    }

pub shadows_step : ShadowsStep
unfolding settled
shadows_step defs regs ignore_unused credits journal t u d m answer x valid shadow step = record {
  goes_on = λ going. sym now.is.answered ∙ goes_on s k answer m going;
  stays = stays;
  ends = ends;
  there = ap (λ (rows : List ClockRow). lowers_there rows m) clocks ∙ now.there;
} where
  s : State
  s = replay (opening defs regs ignore_unused credits) journal

  now : SweptStep s u d m answer x
  now = swept_step s u d m answer x (runs_are_swept defs regs ignore_unused credits journal valid shadow.sweeps_) step

  k : Change
  k = taken now.now

  valid_s : IsValid (length regs) s.defs
  valid_s = (runs_are_wired defs regs ignore_unused credits journal valid).wired.valid

  before : prep (without_change (powered_too (polled_by m) t)) ≡ prep (without_change s)
  before = ap (λ (o : Option ℕ). prep (without_change (powered_too o t))) (sym (next_polled s now.now m now.is.at now.is.first)) ∙ shadow.same

  clocks : t.clocks ≡ s.clocks
  clocks = by (polled_by m) before where
    by : (o : Option ℕ) → prep (without_change (powered_too o t)) ≡ prep (without_change s) → t.clocks ≡ s.clocks
    by None same = same_clocks s t same
    by (Some y) same = same_clocks s (powered t y true) same

  first_none : (front left : List Micro) → list_any is_poll left ≡ false → list_any is_poll (left_behind front left) ≡ false
  first_none [] [] none = refl
  first_none [] (n ∷ ns) none = none_rest is_poll n ns none
  first_none (n ∷ ns) left none = none

  after : State
  after = (stepped s k answer m).0

  part : prep u ≡ prep after
  part = prep_stepped s u d m answer x now.now now.is

  one : IsCounted s u
  one = taken_step s u now.now d m answer x now.is.at step

  stays : is_end m ≡ false → IsShadow (sweep_does t m) u
  stays going =
      let swept = now.left going in
      let change : u.change ≡ after.change = sym (ap (λ (v : State). v.change) now.is.state) in
      let spent = one.spent in
      let steps = one.steps in
      let least = shadow.spent in
      let few = shadow.steps in
      let rest = does_regs t m in
      let handles : (sweep_does t m).handles ≡ t.handles = ap (λ (v : State). v.handles) rest in
      let same_spent : (sweep_does t m).spent ≡ t.spent = ap (λ (v : State). v.spent) rest in
      let same_steps : (sweep_does t m).steps ≡ t.steps = ap (λ (v : State). v.steps) rest in
      record {
        follows = ap sweeps rest ∙ shadow.follows;
        sweeps_ = ap (λ (o : Option Change). option_map_or (λ j. is_sweep j.call) o false) swept.at ∙ ap is_sweep swept.call_;
        bare = handles ∙ shadow.bare ∙ ap bare (sym handles);
        prepares = ap (λ (v : State). v.prepare_holds) rest ∙ shadow.prepares;
        enables = ap (λ (v : State). v.enable_holds) rest ∙ shadow.enables;
        spent = omega arith;
        steps = omega arith;
        same = ap (λ (o : Option Change). prep (without_change (powered_too (option_map_or (λ j. polled_first (todo j)) o None) (sweep_does t m)))) change
            ∙ step_follows (length regs) s t k valid_s shadow.prepares now.call_ now.asks.first (first_none now.now.front now.now.left now.asks.left) answer m now.own going now.lowers before
            ∙ sym (same_aside after u part);
      }

  end_asks_none : (i : Micro) → is_end i ≡ true → polled_by i ≡ None
  end_asks_none micro.End last = refl
  end_asks_none _ last = absurd cc

  ends : is_end m ≡ true → IsTwin (record t { change = None }) u
  ends last =
      let frees = now.frees last in
      let bare_ = ends_bare s k answer m last now.call_ in
      let spent = one.spent in
      let steps = one.steps in
      let least = shadow.spent in
      let few = shadow.steps in
      record {
        bare = shadow.bare;
        holds = shadow.enables ∙ sym (sym (ap (λ (v : State). v.enable_holds) now.is.state) ∙ ap (λ (v : State). v.enable_holds) bare_ ∙ frees.1);
        spent = omega arith;
        steps = omega arith;
        same = ap (λ (holds : List ℕ). prep (record t { prepare_holds = holds; change = None })) shadow.prepares
            ∙ ap (λ (o : Option ℕ). prep (without_change (powered_too o t))) (sym (end_asks_none m last)) ∙ before
            ∙ ap (λ (holds : List ℕ). prep (record s { prepare_holds = holds; change = None })) (sym frees.0)
            ∙ ap prep (sym bare_) ∙ sym part;
      }
