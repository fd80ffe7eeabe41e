-- A clock that is held prepared for a change, and one that is so no more: what each makes of the parts of a core.
use Rattle.std.proofs.Common.{◌≡◌, ℕ, ◌+◌, ◌-◌, ◌<◌, ◌&&◌, not, Bool, true, false, cond, List, [], ◌∷◌, Some, None, refl, sym, ap, subst, ◌∙◌, arith, length, set}
use Rattle.std.specs.Prelude.{slice_index}
use Rattle.std.specs.List.{list_all}
use Rattle.clk_base.specs.declared.call.Micro.{Micro}
use Rattle.clk_base.specs.declared.call.Micro.TheVariants as micro
use Rattle.clk_base.specs.declared.clock.ClockId.{ClockId}
use Rattle.clk_base.specs.declared.event.Event.TheVariants as event
use Rattle.clk_base.specs.declared.event.Turn.TheVariants as turn
use Rattle.clk_base.specs.Levels.{depth}
use Rattle.clk_model.specs.declared.row.ClockRow.{ClockRow}
use Rattle.clk_model.specs.Lists.{is_in, without, without_one}
use Rattle.clk_model.specs.State.{State, Change, registered, link_in}
use Rattle.clk_model.specs.Step.{rest_of, taken}
use Rattle.clk_model.specs.Tree.{path, path_within}
use Rattle.clk_model.proofs.Members.{both_left, both_right}
use Rattle.clk_flight.specs.Flights.{FlightState, IsChange, own_step}
use Rattle.clk_flight.specs.Fronts.{front_steps}
use Rattle.counts_core.specs.Counted.{CountState, AreCounts}
use Rattle.core_parts.specs.Holds.{TellsHolds, AreHeld}
use Rattle.core_parts.specs.InFlight.{is_near}
use Rattle.core_parts.specs.Letting.{LetsGoAll}
use Rattle.core_parts.specs.Listed.{rows_from}
use Rattle.clk_machine.specs.Parts.{Parts, bare, IsWhole}
use Rattle.clk_machine.specs.Stands.{Enters}
use Rattle.core_parts.proofs.HeldCounts.{listed_tells, held_on, held_more, held_less}
use Rattle.clk_machine.proofs.LinkSteps.{Stepped, goes_taken}
use Rattle.clk_machine.proofs.Relinking.{relinks, Relinked, with_relinked, own_step_of, falls_of, relinked_enters}
use Rattle.clk_machine.proofs.Room.{prepare_owned}
use Rattle.clk_machine.proofs.Stepping.{prepares_one, unprepares_one}
use Rattle.clk_machine.proofs.HoldsMaking.{places, both_more, both_less, tells_more, tells_less, held_there, stands_held, HasPlaces}

-- ---- a clock is held prepared

pub record HoldsPrepared (old : Parts) (x : ClockId) (counts' : CountState) (prepares' : List ℕ) (gone flight' : FlightState) : Type 0 where
  pub counts : counts' ≡ record old.counts { prepares = set old.counts.prepares x.0 (slice_index old.counts.prepares x.0 + 1) }
  pub keeps : AreCounts counts'
  pub holds : prepares' ≡ set old.prepare_holds x.0 (slice_index old.prepare_holds x.0 + 1)
  pub lets : LetsGoAll (path_within (link_in old.tree.clocks) depth x.0) gone flight'

-- what is still raised was raised
still_raised : (there : ℕ → Bool) (ys raised : List ℕ) → list_all there raised ≡ true → list_all there (without ys raised) ≡ true
still_raised there ys [] all = refl
still_raised there ys (x ∷ xs) all = by (not (is_in x ys)) (still_raised there ys xs (both_right (there x) (list_all there xs) all)) where
  by : (t : Bool) → list_all there (without ys xs) ≡ true → list_all there (cond {A = List ℕ} t (x ∷ without ys xs) (without ys xs)) ≡ true
  by true rest = ap (λ (b : Bool). b && list_all there (without ys xs)) (both_left (there x) (list_all there xs) all) ∙ rest
  by false rest = rest

-- nothing stands in front of the change behind a step of the script
none_in_front : (old : Parts) (m : Micro) (s : State) (k : Change) → IsWhole old → old.flight.going ≡ true → relinks m ≡ true → own_step old.flight ≡ Some m → IsChange s.notifiers old.flight k → (taken k).front ≡ []
none_in_front old m s k whole going is own change =
    let at = own_step_of old m whole going is own in
    ap (λ (ms : List Micro). rest_of ms) (change.front ∙ ap (front_steps s.notifiers old.flight.script old.flight.raised) at.front)

module _ (old : Parts) (x : ClockId) (counts' : CountState) (prepares' : List ℕ) (gone flight' : FlightState) (now : Stepped old (micro.HoldPrepare x) gone) (to : HoldsPrepared old x counts' prepares' gone flight') where
  prepared_there : registered old.tree.clocks x.0 ≡ true
  prepared_there = held_there old (micro.HoldPrepare x) x.0 now.whole now.going refl now.own refl

  at_prepared : HasPlaces old x.0
  at_prepared = places old x.0 now.whole prepared_there

  prepared_more : (c : ℕ) → slice_index counts'.prepares c + slice_index old.prepare_holds c ≡ slice_index old.counts.prepares c + slice_index prepares' c
  prepared_more c =
      let one = ap (λ (k : CountState). slice_index k.prepares c) to.counts in
      let two = ap (λ (xs : List ℕ). slice_index xs c) to.holds in
      let both = both_more old.counts.prepares old.prepare_holds x.0 c at_prepared.prepares at_prepared.prepare_holds in
      omega arith

  prepared_same : (c : ℕ) → slice_index counts'.enables c + slice_index old.enable_holds c ≡ slice_index old.counts.enables c + slice_index old.enable_holds c
  prepared_same c = ap (λ (k : CountState). slice_index k.enables c + slice_index old.enable_holds c) to.counts

  pub prepared_of : Relinked old (micro.HoldPrepare x) old.window old.tree counts' prepares' old.enable_holds flight'
  prepared_of = record {
    whole = now.whole;
    going = now.going;
    is = refl;
    own = now.own;
    first = now.first;
    size = refl;
    told = refl;
    behind = refl;
    locks = refl;
    tied = now.whole.tied;
    there = λ c. refl;
    linked = λ c has. has;
    keeps = to.keeps;
    prepares = subst (λ (xs : List ℕ). AreHeld (registered old.tree.clocks) (length old.desc.defs) (old.steps + 1) xs) (sym to.holds)
        (held_more (registered old.tree.clocks) (length old.desc.defs) old.steps old.prepare_holds x.0 now.whole.prepares_held at_prepared.desc prepared_there);
    enables = held_on (registered old.tree.clocks) (length old.desc.defs) old.steps old.enable_holds now.whole.enables_held;
    stands = stands_held old counts' prepares' old.enable_holds (bare old) (bare (record old { prepare_holds = prepares' })) now.whole.counted.stands (ap (λ (k : CountState). k.gated) to.counts)
        (ap (λ (k : CountState). k.links) to.counts) (ap (λ (k : CountState). k.exclusives) to.counts) refl refl refl prepared_same prepared_more (listed_tells old.enable_holds) (listed_tells old.enable_holds)
        (listed_tells old.prepare_holds) (listed_tells prepares');
    raised = without (path_within (link_in old.tree.clocks) depth x.0) old.flight.raised;
    raised_there = still_raised (is_near old.flight.call (registered old.tree.clocks)) (path_within (link_in old.tree.clocks) depth x.0) old.flight.raised (now.whole.flown now.going).way.raised;
    flight = to.lets.flight ∙ ap (λ (f : FlightState). let g : FlightState = record f { raised = without (path_within (link_in old.tree.clocks) depth x.0) f.raised } in g) now.flight;
    less =
        let one = falls_of old (micro.HoldPrepare x) gone now.whole now.going refl now.own now.less in
        let two = to.lets.less (rows_from 0 old.chains) in
        omega arith;
  }

  pub prepare_enters : Enters old old.flight.driver (event.Step (micro.HoldPrepare x) None) turn.Going (with_relinked old old.window old.tree counts' prepares' old.enable_holds flight')
  prepare_enters = relinked_enters old (micro.HoldPrepare x) old.window old.tree counts' prepares' old.enable_holds flight' prepared_of (λ s k stands sound next is.
      let same : path_within (link_in old.tree.clocks) depth x.0 ≡ path s.clocks x.0 = ap (λ (rs : List ClockRow). path rs x.0) (sym stands.clocks) in
      let gone_is = now.change s.notifiers k (micro.HoldPrepare x) is next.first refl in
      record {
        regs = s.regs;
        clocks = s.clocks;
        order = s.order;
        prepare_holds = x.0 ∷ s.prepare_holds;
        enable_holds = s.enable_holds;
        change = record (taken k) { raised = without (path s.clocks x.0) k.raised };
        next_ = prepares_one s old.flight.driver k x next;
        words = stands.regs;
        rows = stands.clocks;
        order_ = stands.order;
        prepares = subst (λ (xs : List ℕ). TellsHolds xs (x.0 ∷ s.prepare_holds)) (sym to.holds) (tells_more old.prepare_holds s.prepare_holds x.0 stands.prepare_holds at_prepared.prepare_holds);
        enables = stands.enable_holds;
        flies = subst (λ (ys : List ℕ). IsChange s.notifiers flight' (record (taken k) { raised = without ys k.raised })) same
            (to.lets.change s.notifiers (taken k) gone_is (none_in_front old (micro.HoldPrepare x) s k now.whole now.going refl now.own is));
        along = λ along_ changes. let goes = along_ changes in record { chain = goes.chain; rates = goes.rates };
      })

-- ---- it is so no more

pub record DropsPrepared (old : Parts) (x : ClockId) (counts' : CountState) (prepares' : List ℕ) : Type 0 where
  pub some : 0 < slice_index old.prepare_holds x.0
  pub counts : counts' ≡ record old.counts { prepares = set old.counts.prepares x.0 (slice_index old.counts.prepares x.0 - 1) }
  pub keeps : AreCounts counts'
  pub holds : prepares' ≡ set old.prepare_holds x.0 (slice_index old.prepare_holds x.0 - 1)

module _ (old : Parts) (x : ClockId) (counts' : CountState) (prepares' : List ℕ) (flight' : FlightState) (now : Stepped old (micro.DropPrepare x) flight') (to : DropsPrepared old x counts' prepares') where
  freed_there : registered old.tree.clocks x.0 ≡ true
  freed_there = held_there old (micro.DropPrepare x) x.0 now.whole now.going refl now.own refl

  at_freed : HasPlaces old x.0
  at_freed = places old x.0 now.whole freed_there

  freed_less : (c : ℕ) → slice_index counts'.prepares c + slice_index old.prepare_holds c ≡ slice_index old.counts.prepares c + slice_index prepares' c
  freed_less c =
      let one = ap (λ (k : CountState). slice_index k.prepares c) to.counts in
      let two = ap (λ (xs : List ℕ). slice_index xs c) to.holds in
      let some = to.some in
      let owned = prepare_owned old x.0 now.whole in
      let both = both_less old.counts.prepares old.prepare_holds x.0 c at_freed.prepares at_freed.prepare_holds (omega arith) some in
      omega arith

  freed_same : (c : ℕ) → slice_index counts'.enables c + slice_index old.enable_holds c ≡ slice_index old.counts.enables c + slice_index old.enable_holds c
  freed_same c = ap (λ (k : CountState). slice_index k.enables c + slice_index old.enable_holds c) to.counts

  pub freed_of : Relinked old (micro.DropPrepare x) old.window old.tree counts' prepares' old.enable_holds flight'
  freed_of = record {
    whole = now.whole;
    going = now.going;
    is = refl;
    own = now.own;
    first = now.first;
    size = refl;
    told = refl;
    behind = refl;
    locks = refl;
    tied = now.whole.tied;
    there = λ c. refl;
    linked = λ c has. has;
    keeps = to.keeps;
    prepares = subst (λ (xs : List ℕ). AreHeld (registered old.tree.clocks) (length old.desc.defs) (old.steps + 1) xs) (sym to.holds)
        (held_less (registered old.tree.clocks) (length old.desc.defs) old.steps old.prepare_holds x.0 now.whole.prepares_held at_freed.desc freed_there to.some);
    enables = held_on (registered old.tree.clocks) (length old.desc.defs) old.steps old.enable_holds now.whole.enables_held;
    stands = stands_held old counts' prepares' old.enable_holds (bare old) (bare (record old { prepare_holds = prepares' })) now.whole.counted.stands (ap (λ (k : CountState). k.gated) to.counts)
        (ap (λ (k : CountState). k.links) to.counts) (ap (λ (k : CountState). k.exclusives) to.counts) refl refl refl freed_same freed_less (listed_tells old.enable_holds) (listed_tells old.enable_holds)
        (listed_tells old.prepare_holds) (listed_tells prepares');
    raised = old.flight.raised;
    raised_there = (now.whole.flown now.going).way.raised;
    flight = now.flight;
    less = falls_of old (micro.DropPrepare x) flight' now.whole now.going refl now.own now.less;
  }

  pub free_enters : Enters old old.flight.driver (event.Step (micro.DropPrepare x) None) turn.Going (with_relinked old old.window old.tree counts' prepares' old.enable_holds flight')
  free_enters = relinked_enters old (micro.DropPrepare x) old.window old.tree counts' prepares' old.enable_holds flight' freed_of (λ s k stands sound next is. record {
    regs = s.regs;
    clocks = s.clocks;
    order = s.order;
    prepare_holds = without_one x.0 s.prepare_holds;
    enable_holds = s.enable_holds;
    change = taken k;
    next_ = unprepares_one s old.flight.driver k x next;
    words = stands.regs;
    rows = stands.clocks;
    order_ = stands.order;
    prepares = subst (λ (xs : List ℕ). TellsHolds xs (without_one x.0 s.prepare_holds)) (sym to.holds) (tells_less old.prepare_holds s.prepare_holds x.0 stands.prepare_holds at_freed.prepare_holds to.some);
    enables = stands.enable_holds;
    flies = now.change s.notifiers k (micro.DropPrepare x) is next.first refl;
    along = goes_taken old.course k;
  })
