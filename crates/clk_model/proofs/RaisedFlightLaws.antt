-- Laws on calls in flight and the PLLs that they raised: each is powered at the end exactly where it is prepared.
use Rattle.std.proofs.Common.{◌≡◌, ℕ, ◌+◌, ◌||◌, Bool, true, false, List, [], ◌∷◌, ◌++◌, Option, Some, None, refl, sym, ap, subst, ◌∙◌, ◌⊎◌, inl, inr, arith, length}
use Rattle.std.proofs.lemmas.List.{get_or_past}
use Rattle.std.proofs.lemmas.List.Folds.{list_any-append}
use Rattle.std.proofs.lemmas.Option.{same_Some}
use Rattle.std.specs.List.{list_any}
use Rattle.std.specs.Option.{option_map_or}
use Rattle.clk_base.specs.declared.call.Micro.{Micro}
use Rattle.clk_base.specs.declared.call.Micro.TheVariants as micro
use Rattle.clk_base.specs.declared.call.Sleeping.{Sleeping}
use Rattle.clk_base.specs.declared.call.Sleeping.TheVariants as call
use Rattle.clk_base.specs.declared.clock.ClockDef.{ClockDef}
use Rattle.clk_base.specs.declared.event.Event.{Event}
use Rattle.clk_base.specs.declared.event.Event.TheVariants as event
use Rattle.clk_base.specs.declared.event.Turn.{Turn}
use Rattle.clk_base.specs.declared.event.Turn.TheVariants as turn
use Rattle.clk_base.specs.declared.handle.Handle.{Handle}
use Rattle.clk_base.specs.Description.{Description, nobody, kind_of}
use Rattle.clk_base.specs.Fields.{PowerBit, power_of}
use Rattle.clk_base.specs.Levels.{depth}
use Rattle.clk_base.specs.Valid.{IsValid}
use Rattle.reg_bank.specs.Registers.{Registers}
use Rattle.clk_model.specs.Lists.{is_in}
use Rattle.clk_model.specs.Kinds.{is_powered}
use Rattle.clk_model.specs.State.{State, Change}
use Rattle.clk_model.specs.Tree.{path_within, path}
use Rattle.clk_model.specs.Holders.{prepared}
use Rattle.clk_model.specs.Gates.{settled}
use Rattle.clk_model.specs.Round.{wiring}
use Rattle.clk_model.specs.Script.{runs}
use Rattle.clk_model.specs.Step.{todo, taken, stepped}
use Rattle.clk_model.specs.Machine.{comes_next, next}
use Rattle.clk_model.specs.Journal.{replay, opening}
use Rattle.clk_model.specs.Notices.{is_veto}
use Rattle.clk_model.specs.Tier.{is_enable_tier}
use Rattle.clk_model.specs.Wired.{IsWired}
use Rattle.clk_model.specs.Laws.Flight.{Flight, begins, goes_on, beside, script}
use Rattle.clk_model.specs.Laws.NothingLeft.{polls, RaisedEndAsPrepared}
use Rattle.clk_model.proofs.Members.{or_cases, same_from_test}
use Rattle.clk_model.proofs.PowerLaws.{runs_same}
use Rattle.clk_model.proofs.TierLaws.{beside_change}
use Rattle.clk_model.proofs.StepLaws.{raises}
use Rattle.clk_model.proofs.BeginLaws.{plans, HasScript, raised_alone, lowered_alone, by_rate, by_parent, by_registration, by_sweep, IsBegun, feeding_is_no_veto, sweep_has_no, begun_going}
use Rattle.clk_model.proofs.FlightLaws.{IsStep, begin_is, course_of}
use Rattle.clk_model.proofs.VetoLaws.{of_change}
use Rattle.clk_model.proofs.InFlightLaws.{end_quiet}
use Rattle.clk_model.proofs.Scenes.{Scene, InCall}
use Rattle.clk_model.proofs.ArriveLaws.{wired_before, some_one}
use Rattle.clk_model.proofs.BesideSafeLaws.{TierEvent, tier_event}
use Rattle.clk_model.proofs.SafeRunLaws.{IsRunning, quietly, in_flight, IsRun, run_goes_on}
use Rattle.clk_model.proofs.RunsFedLaws.{run_of}
use Rattle.clk_model.proofs.RaisedLaws.{Accounted, stopped_, kept, raised_, lowering, AccountedIn}
use Rattle.clk_model.proofs.RaisedStepLaws.{PolledRaised, none_polled, PolledIn, Tells, step_tells}
use Rattle.clk_model.proofs.RaisedEndLaws.{accounted_settled, prepared_alike, end_accounts, poll_in_front}

-- ---- a flight

-- a call in flight: it is safe, and each PLL that it has polled is accounted for
record IsRaising (y : ℕ) (s : State) (made : List Micro) : Type 0 where
  run : IsRun s
  now : Change
  at : s.change ≡ Some now
  polled : PolledRaised now
  accounted : list_any (polls y) made ≡ true → Accounted s now y

in_call_of : (s : State) (k : Change) → IsRun s → s.change ≡ Some k → InCall s k
in_call_of s k run at = by_running run.running_ where
  by_running : IsRunning s → InCall s k
  by_running (quietly quiet rest) = let no : None ≡ Some k = sym quiet ∙ at in absurd cc
  by_running (in_flight goes) = subst (λ (j : Change). InCall s j) (same_Some goes.change k (sym goes.at ∙ at)) goes.in_call

-- before a step of a polled PLL
accounted_before : (y : ℕ) (s : State) (made : List Micro) (m : Micro) → (is : IsRaising y s made) → comes_next m (todo is.now) ≡ true → list_any (polls y) (made ++ m ∷ []) ≡ true → Accounted s is.now y
accounted_before y s made m is first any = by_case (or_cases (list_any (polls y) made) (polls y m || false) (sym (list_any-append (polls y) made (m ∷ [])) ∙ any)) where
  by_step : (n : Micro) → m ≡ n → polls y n ≡ true → Accounted s is.now y
  by_step (micro.Poll z) same own =
      let front = poll_in_front s is.now z (in_call_of s is.now is.run is.at) (ap (λ (v : Micro). comes_next v (todo is.now)) (sym same) ∙ first) in
      raised_ (ap (λ (v : ℕ). is_in v is.now.raised) (sym (same_from_test z.0 y own)) ∙ is.polled.polled z front.0 front.1)
  by_step n same own = absurd cc

  by_case : (list_any (polls y) made ≡ true) ⊎ ((polls y m || false) ≡ true) → Accounted s is.now y
  by_case (inl before) = is.accounted before
  by_case (inr own) = by_step m refl (alone (polls y m) own) where
    alone : (b : Bool) → (b || false) ≡ true → b ≡ true
    alone true e = refl
    alone false e = e

-- no PLL runs beyond the description
beyond : (s : State) → runs s.defs s.regs (length s.defs) ≡ false
beyond s = ap (λ (d : ClockDef). option_map_or (is_powered s.regs) (power_of d.kind) false) (get_or_past s.defs (length s.defs) nobody (omega arith))

raising_begins : (y : ℕ) (q s : State) (d : ℕ) (what : Sleeping) → IsRun q → next q d (event.Begin what) ≡ Some (s, turn.Going) → IsRaising y s []
unfolding settled
raising_begins y q s d what run step =
    let start = begin_is q s d what turn.Going step in
    let going = (begun_going q d what).from start.2 in
    let h : IsBegun q d what going.0 going.1 = going.3 in
    record {
      run = run_goes_on q s d (event.Begin what) turn.Going run step;
      now = going.1;
      at = sym (ap (λ (u : State). u.change) start.1) ∙ ap (λ (u : State). u.change) going.2;
      polled = none_polled going.1 (ap (list_any raises) h.front);
      accounted = λ none. absurd cc;
    }

raising_steps : (y : ℕ) (s t : State) (d : ℕ) (made : List Micro) (m : Micro) (answer : Option Bool) → (is : IsRaising y s made) → next s d (event.Step m answer) ≡ Some (t, turn.Going) → IsRaising y t (made ++ m ∷ [])
unfolding settled
raising_steps y s t d made m answer is step = by_change u.change refl where
  k : Change
  k = is.now

  of : IsStep s t d m answer turn.Going k
  of = of_change s t d m answer turn.Going k is.at step

  run_t : IsRun t
  run_t = run_goes_on s t d (event.Step m answer) turn.Going is.run step

  u : State
  u = (stepped s (taken k) answer m).0

  valid_u : IsValid (length u.regs) u.defs
  valid_u = (wired_before s u (subst (λ (v : State). IsWired (length v.regs) (wiring v)) (sym of.state) run_t.wired)).valid

  tells : (z : ℕ) → Accounted s k z → Tells u z
  tells z was = step_tells s t d m answer k z of (in_call_of s k is.run is.at) is.polled was

  -- what stands in front, told by a clock that is accounted for, since it is beyond the description
  some : Tells u (length s.defs)
  some = tells (length s.defs) (stopped_ (beyond s))

  by_change : (o : Option Change) → u.change ≡ o → IsRaising y t (made ++ m ∷ [])
  by_change None at = absurd (subst (λ (p : Option Change). PolledIn p) at some.polled)
  by_change (Some j) at = record {
    run = run_t;
    now = j;
    at = sym (ap (λ (v : State). v.change) of.state) ∙ at;
    polled = subst (λ (p : Option Change). PolledIn p) at some.polled;
    accounted = λ any.
        let told = tells y (accounted_before y s made m is of.first any) in
        let own : Accounted u j y = subst (λ (p : Option Change). AccountedIn u p y) at told.accounted in
        subst (λ (v : State). Accounted v j y) of.state (accounted_settled s u (s.steps + 1) j y valid_u own);
  }

-- events of the enable tier leave it
accounted_beside : (s t : State) (k : Change) (y : ℕ) → IsRun t → TierEvent s t → Accounted s k y → Accounted t k y
unfolding settled
accounted_beside s t k y run tier was =
    subst (λ (v : State). Accounted v k y) tier.state (one was) where
      u : State
      u = tier.left.0

      valid_u : IsValid (length u.regs) u.defs
      valid_u = (wired_before s u (subst (λ (v : State). IsWired (length v.regs) (wiring v)) (sym tier.state) run.wired)).valid

      clocks : (c : ℕ) → path u.clocks c ≡ path s.clocks c
      clocks c = ap (λ (a : Scene). path_within a.up depth c) (tier.leaves.alike.scene_is None)

      one : Accounted s k y → Accounted (record (settled s u) { spent = s.spent + 1 }) k y
      one (stopped_ e) =
          stopped_ (runs_same s u (length u.regs) y valid_u ∙ ap (λ (ds : Description). runs ds u.regs y) tier.leaves.alike.defs ∙ ap (λ (regs : Registers). runs s.defs regs y) tier.leaves.alike.regs ∙ e)
      one (kept prep) = kept (prepared_alike s u y tier.leaves.alike ∙ prep)
      one (raised_ n) = raised_ n
      one (lowering l) = lowering (record { clock = l.clock; rest = l.rest; next = l.next; on_path = ap (is_in y) (clocks l.clock.0) ∙ l.on_path })

raising_beside : (y : ℕ) (s t : State) (other : ℕ) (made : List Micro) (e : Event) (x : Turn) → is_enable_tier e ≡ true → IsRaising y s made → next s other e ≡ Some (t, x) → IsRaising y t made
raising_beside y s t other made e x tier is step =
    let run_t = run_goes_on s t other e x is.run step in
    record {
      run = run_t;
      now = is.now;
      at = beside_change s t other e x tier step ∙ is.at;
      polled = is.polled;
      accounted = λ any. accounted_beside s t is.now y run_t (tier_event s t other e x tier step) (is.accounted any);
    }

raising_of : (y : ℕ) (q : State) (d : ℕ) (what : Sleeping) → IsRun q → {s : State} {made : List Micro} → Flight q d what s made → IsRaising y s made
raising_of y q d what run {s = s} (begins step) = raising_begins y q s d what run step
raising_of y q d what run {s = t} (goes_on {s = s} {made = made} m answer flight step) = raising_steps y s t d made m answer (raising_of y q d what run flight) step
raising_of y q d what run {s = t} {made = made} (beside {s = s} {x = x} other e tier flight step) = raising_beside y s t other made e x tier (raising_of y q d what run flight) step

-- ---- prepares aren't called off

-- the script of a prepare has no veto
prepare_unvetoed : (q n : State) (k : Change) (h : Handle) → k.call ≡ call.Prepare h → HasScript q n k → list_any is_veto k.left ≡ false
prepare_unvetoed q n k h is (raised_alone x left) = ap (list_any is_veto) left
prepare_unvetoed q n k h is (lowered_alone x left) = ap (list_any is_veto) left
prepare_unvetoed q n k h is (by_rate plans_ left order same) = let no : false ≡ true = ap plans (sym is) ∙ plans_ in absurd cc
prepare_unvetoed q n k h is (by_parent plans_ c left order same) = let no : false ≡ true = ap plans (sym is) ∙ plans_ in absurd cc
prepare_unvetoed q n k h is (by_registration c call_ left) = let no : call.Prepare h ≡ call.Probe c = sym is ∙ call_ in absurd cc
prepare_unvetoed q n k h is (by_sweep left) = ap (list_any is_veto) left ∙ sweep_has_no is_veto q feeding_is_no_veto (λ c. refl) (λ c. refl) refl

script_unvetoed : (q : State) (d : ℕ) (h : Handle) {s : State} {made : List Micro} → Flight q d (call.Prepare h) s made → list_any is_veto (script q d (call.Prepare h)) ≡ false
script_unvetoed q d h {s = s} (begins step) =
    let start = begin_is q s d (call.Prepare h) turn.Going step in
    let going = (begun_going q d (call.Prepare h)).from start.2 in
    let b : IsBegun q d (call.Prepare h) going.0 going.1 = going.3 in
    ap (λ (o : Option Change). list_any is_veto (option_map_or (λ k. k.left) o [])) (ap (λ (u : State). u.change) going.2) ∙ prepare_unvetoed q going.0 going.1 h b.call b.has
script_unvetoed q d h (goes_on m answer flight step) = script_unvetoed q d h flight
script_unvetoed q d h (beside other e tier flight step) = script_unvetoed q d h flight

-- ---- the law

pub raised_end_as_prepared : RaisedEndAsPrepared
raised_end_as_prepared defs regs ignore_unused credits before s t d what made m answer r valid flight step y power any at =
    both (is_powered t.regs power) (prepared t y) on_ off where
      q : State
      q = replay (opening defs regs ignore_unused credits) before

      is : IsRaising y s made
      is = raising_of y q d what (run_of defs regs ignore_unused credits before valid) flight

      of : IsStep s t d m answer (turn.Done r) is.now
      of = of_change s t d m answer (turn.Done r) is.now is.at step

      run_t : IsRun t
      run_t = run_goes_on s t d (event.Step m answer) (turn.Done r) is.run step

      calm_ : (h : Handle) → is.now.call ≡ call.Prepare h → is.now.vetoed ≡ false
      calm_ h e =
          let course = course_of q d what flight in
          let same : course.now ≡ is.now = same_Some course.now is.now (sym course.at ∙ is.at) in
          let what_is : what ≡ call.Prepare h = sym course.call ∙ ap (λ (k : Change). k.call) same ∙ e in
          ap (λ (k : Change). k.vetoed) (sym same) ∙ course.vetoed
          ∙ ap (λ (w : Sleeping). list_any is_veto (script q d w)) what_is ∙ script_unvetoed q d h (subst (λ (w : Sleeping). Flight q d w s made) what_is flight)

      on_ : is_powered t.regs power ≡ true → prepared t y ≡ true
      on_ e =
          end_accounts s t d m answer r is.now y of (in_call_of s is.now is.run is.at) run_t.wired calm_ (is.accounted any)
          (ap (λ (o : Option PowerBit). option_map_or (is_powered t.regs) o false) at ∙ e)

      off : prepared t y ≡ true → is_powered t.regs power ≡ true
      off prep = by_running run_t.running_ where
        by_running : IsRunning t → is_powered t.regs power ≡ true
        by_running (quietly quiet rest) = some_one (λ p. is_powered t.regs p ≡ true) (power_of (kind_of t.defs y)) power (rest.safe.powers y prep) at
        by_running (in_flight goes) = let no : None ≡ Some goes.change = sym (end_quiet s t d m answer r is.now of) ∙ goes.at in absurd cc

      both : (a b : Bool) → (a ≡ true → b ≡ true) → (b ≡ true → a ≡ true) → a ≡ b
      both true true f g = refl
      both false false f g = refl
      both true false f g = sym (f refl)
      both false true f g = g refl
