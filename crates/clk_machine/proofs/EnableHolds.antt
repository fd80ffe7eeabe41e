-- A clock that is held enabled for a change, and one that is so no more: what each makes of the parts of a core.
use Rattle.std.proofs.Common.{◌≡◌, ℕ, ◌+◌, ◌-◌, ◌<◌, ◌&&◌, not, true, false, List, ◌∷◌, Option, Some, None, refl, sym, ap, subst, ◌∙◌, arith, length, set, reverse}
use Rattle.std.specs.Prelude.{is_some, slice_index}
use Rattle.std.specs.Option.{option_map}
use Rattle.clk_base.specs.declared.call.Micro.TheVariants as micro
use Rattle.clk_base.specs.declared.clock.ClockId.{ClockId}
use Rattle.clk_base.specs.declared.event.Event.TheVariants as event
use Rattle.clk_base.specs.declared.event.Turn.{Turn}
use Rattle.clk_base.specs.declared.event.Turn.TheVariants as turn
use Rattle.clk_base.specs.Description.{Description}
use Rattle.reg_bank.specs.Registers.{Registers}
use Rattle.clk_model.specs.Gates.{gates_moved, settled}
use Rattle.clk_model.specs.Holders.{active}
use Rattle.clk_model.specs.Lists.{is_in, count_from, without_one}
use Rattle.clk_model.specs.State.{State, registered, link_in}
use Rattle.clk_model.specs.Step.{taken, hold_enable, drop_enable}
use Rattle.clk_model.specs.Tree.{path_within}
use Rattle.clk_model.proofs.Members.{is_in_tail, is_in-reverse}
use Rattle.clk_model.proofs.AdoptGoLaws.{left_was}
use Rattle.clk_flight.specs.Flights.{FlightState}
use Rattle.counts_core.specs.Counted.{CountState, AreCounts, is_active}
use Rattle.counts_core.specs.Sums.{up_in}
use Rattle.counts_core.proofs.Standing.{tells_holds}
use Rattle.core_parts.specs.Holds.{TellsHolds, AreHeld}
use Rattle.clk_machine.specs.Parts.{Parts, bare}
use Rattle.clk_machine.specs.Stands.{Enters}
use Rattle.core_parts.specs.Window.{Shown}
use Rattle.core_parts.proofs.HeldCounts.{listed_tells, held_on, held_more, held_less}
use Rattle.clk_machine.proofs.Following.{opens_all, closes_all, told_mapped, regs_told, regs_lie, links_are, lists_alike}
use Rattle.clk_machine.proofs.LinkSteps.{Stepped, goes_taken}
use Rattle.core_parts.proofs.Moving.{path_within_desc, tied-moved}
use Rattle.clk_machine.proofs.Relinking.{Relinked, with_relinked, falls_of, relinked_enters}
use Rattle.clk_machine.proofs.Room.{enable_owned}
use Rattle.clk_machine.proofs.Stepping.{enables_one, disables_one}
use Rattle.clk_machine.proofs.Writing.{counts_stand}
use Rattle.clk_machine.proofs.HoldsMaking.{places, both_more, both_less, tells_more, tells_less, active_grows, held_there, stands_held, HasPlaces}

-- ---- a clock is held enabled

pub record HoldsEnabled (old : Parts) (x : ClockId) (levels : ℕ) (window' : Shown) (counts' : CountState) (enables' : List ℕ) : Type 0 where
  pub size : window'.size ≡ old.window.size
  pub behind : window'.behind ≡ old.window.behind
  pub locks : window'.locks ≡ old.window.locks
  pub words : window'.words ≡ option_map (gates_moved old.desc.defs (λ _. false) (λ _. true) (path_within (link_in old.tree.clocks) levels x.0)) old.window.words
  pub counts : counts' ≡ record old.counts { enables = set old.counts.enables x.0 (slice_index old.counts.enables x.0 + 1) }
  pub begun : (d : ℕ) → is_in d (path_within (up_in old.counts.links) levels x.0) ≡ (is_active counts' d && not (is_active old.counts d))
  pub keeps : AreCounts counts'
  pub holds : enables' ≡ set old.enable_holds x.0 (slice_index old.enable_holds x.0 + 1)

module _ (old : Parts) (x : ClockId) (levels : ℕ) (window' : Shown) (counts' : CountState) (enables' : List ℕ) (flight' : FlightState) (now : Stepped old (micro.HoldEnable x) flight')
    (to : HoldsEnabled old x levels window' counts' enables') where
  enabled_there : registered old.tree.clocks x.0 ≡ true
  enabled_there = held_there old (micro.HoldEnable x) x.0 now.whole now.going refl now.own refl

  at_enabled : HasPlaces old x.0
  at_enabled = places old x.0 now.whole enabled_there

  enabled_more : (c : ℕ) → slice_index counts'.enables c + slice_index old.enable_holds c ≡ slice_index old.counts.enables c + slice_index enables' c
  enabled_more c =
      let one = ap (λ (k : CountState). slice_index k.enables c) to.counts in
      let two = ap (λ (xs : List ℕ). slice_index xs c) to.holds in
      let both = both_more old.counts.enables old.enable_holds x.0 c at_enabled.enables at_enabled.enable_holds in
      omega arith

  enabled_less : (c : ℕ) → slice_index counts'.prepares c + slice_index old.prepare_holds c ≡ slice_index old.counts.prepares c + slice_index old.prepare_holds c
  enabled_less c = ap (λ (k : CountState). slice_index k.prepares c + slice_index old.prepare_holds c) to.counts

  pub enabled_of : Relinked old (micro.HoldEnable x) window' old.tree counts' old.prepare_holds enables' flight'
  enabled_of = record {
    whole = now.whole;
    going = now.going;
    is = refl;
    own = now.own;
    first = now.first;
    size = to.size;
    told = ap (λ (o : Option (List ℕ)). is_some o) to.words ∙ told_mapped _ old.window.words;
    behind = to.behind;
    locks = to.locks;
    tied = tied-moved old.desc old.window window' old.tree (λ _. false) (λ _. true) (path_within (link_in old.tree.clocks) levels x.0) now.whole.tied
        (path_within_desc old.desc old.window old.tree levels x.0 now.whole.tied enabled_there) to.size to.words;
    there = λ c. refl;
    linked = λ c has. has;
    keeps = to.keeps;
    prepares = held_on (registered old.tree.clocks) (length old.desc.defs) old.steps old.prepare_holds now.whole.prepares_held;
    enables = subst (λ (xs : List ℕ). AreHeld (registered old.tree.clocks) (length old.desc.defs) (old.steps + 1) xs) (sym to.holds)
        (held_more (registered old.tree.clocks) (length old.desc.defs) old.steps old.enable_holds x.0 now.whole.enables_held at_enabled.desc enabled_there);
    stands = stands_held old counts' old.prepare_holds enables' (bare old) (bare (record old { enable_holds = enables' })) now.whole.counted.stands (ap (λ (k : CountState). k.gated) to.counts)
        (ap (λ (k : CountState). k.links) to.counts) (ap (λ (k : CountState). k.exclusives) to.counts) refl refl refl enabled_more enabled_less (listed_tells old.enable_holds) (listed_tells enables')
        (listed_tells old.prepare_holds) (listed_tells old.prepare_holds);
    raised = old.flight.raised;
    raised_there = (now.whole.flown now.going).way.raised;
    flight = now.flight;
    less = falls_of old (micro.HoldEnable x) flight' now.whole now.going refl now.own now.less;
  }

  pub enable_enters : Enters old old.flight.driver (event.Step (micro.HoldEnable x) None) turn.Going (with_relinked old window' old.tree counts' old.prepare_holds enables' flight')
  unfolding settled
  enable_enters = relinked_enters old (micro.HoldEnable x) window' old.tree counts' old.prepare_holds enables' flight' enabled_of (λ s k stands sound next is.
      let cs : List ℕ = path_within (link_in old.tree.clocks) levels x.0 in
      let tells : TellsHolds enables' (x.0 ∷ s.enable_holds) = subst (λ (xs : List ℕ). TellsHolds xs (x.0 ∷ s.enable_holds)) (sym to.holds) (tells_more old.enable_holds s.enable_holds x.0 stands.enable_holds at_enabled.enable_holds) in
      let counted = counts_stand old s now.whole stands in
      let then_ = stands_held old counts' old.prepare_holds enables' s (hold_enable s (taken k) x.0) counted (ap (λ (k : CountState). k.gated) to.counts) (ap (λ (k : CountState). k.links) to.counts)
      (ap (λ (k : CountState). k.exclusives) to.counts) refl refl refl enabled_more enabled_less stands.enable_holds tells stands.prepare_holds stands.prepare_holds in
      let same : path_within (up_in old.counts.links) levels x.0 ≡ cs = ap (λ (up : ℕ → Option ℕ). path_within up levels x.0) (sym (links_are old now.whole)) in
      let opened : gates_moved s.defs (active s) (active (hold_enable s (taken k) x.0)) (count_from 0 (length s.defs)) s.regs ≡ gates_moved s.defs (λ _. false) (λ _. true) cs s.regs =
      opens_all s.defs (active s) (active (hold_enable s (taken k) x.0)) cs s.regs (regs_told old s now.whole stands).0 (regs_lie old s now.whole stands)
      (λ c m. subst (λ (d : Description). c < length d) (sym stands.defs) (path_within_desc old.desc old.window old.tree levels x.0 now.whole.tied enabled_there c m))
      (λ d. ap (is_in d) (sym same) ∙ to.begun d ∙ lists_alike _ _ _ _ (tells_holds counts' (hold_enable s (taken k) x.0) to.keeps then_ d).active (tells_holds old.counts s now.whole.counted.keeps counted d).active)
      (λ d was. active_grows s (x.0 ∷ s.enable_holds) d (λ h m. is_in_tail h x.0 s.enable_holds m) was) in
      record {
        regs = gates_moved s.defs (λ _. false) (λ _. true) cs s.regs;
        clocks = s.clocks;
        order = s.order;
        prepare_holds = s.prepare_holds;
        enable_holds = x.0 ∷ s.enable_holds;
        change = taken k;
        next_ = enables_one s old.flight.driver k x next
            ∙ ap (λ (regs : Registers). let r : Option (State × Turn) = Some (record (hold_enable s (taken k) x.0) { regs = regs; steps = s.steps + 1 }, turn.Going) in r) opened;
        words = to.words ∙ ap (option_map (gates_moved old.desc.defs (λ _. false) (λ _. true) cs)) stands.regs
            ∙ ap (λ (d : Description). Some (gates_moved d (λ _. false) (λ _. true) cs s.regs)) (sym stands.defs);
        rows = stands.clocks;
        order_ = stands.order;
        prepares = stands.prepare_holds;
        enables = tells;
        flies = now.change s.notifiers k (micro.HoldEnable x) is next.first refl;
        along = goes_taken old.course k;
      })

-- ---- it is so no more

pub record DropsEnabled (old : Parts) (x : ClockId) (levels : ℕ) (window' : Shown) (counts' : CountState) (enables' : List ℕ) : Type 0 where
  pub some : 0 < slice_index old.enable_holds x.0
  pub size : window'.size ≡ old.window.size
  pub behind : window'.behind ≡ old.window.behind
  pub locks : window'.locks ≡ old.window.locks
  pub words : window'.words ≡ option_map (gates_moved old.desc.defs (λ _. true) (λ _. false) (reverse (path_within (link_in old.tree.clocks) levels x.0))) old.window.words
  pub counts : counts' ≡ record old.counts { enables = set old.counts.enables x.0 (slice_index old.counts.enables x.0 - 1) }
  pub stopped : (d : ℕ) → is_in d (path_within (up_in old.counts.links) levels x.0) ≡ (is_active old.counts d && not (is_active counts' d))
  pub keeps : AreCounts counts'
  pub holds : enables' ≡ set old.enable_holds x.0 (slice_index old.enable_holds x.0 - 1)

module _ (old : Parts) (x : ClockId) (levels : ℕ) (window' : Shown) (counts' : CountState) (enables' : List ℕ) (flight' : FlightState) (now : Stepped old (micro.DropEnable x) flight')
    (to : DropsEnabled old x levels window' counts' enables') where
  dropped_there : registered old.tree.clocks x.0 ≡ true
  dropped_there = held_there old (micro.DropEnable x) x.0 now.whole now.going refl now.own refl

  at_dropped : HasPlaces old x.0
  at_dropped = places old x.0 now.whole dropped_there

  dropped_less : (c : ℕ) → slice_index counts'.enables c + slice_index old.enable_holds c ≡ slice_index old.counts.enables c + slice_index enables' c
  dropped_less c =
      let one = ap (λ (k : CountState). slice_index k.enables c) to.counts in
      let two = ap (λ (xs : List ℕ). slice_index xs c) to.holds in
      let some = to.some in
      let owned = enable_owned old x.0 now.whole in
      let both = both_less old.counts.enables old.enable_holds x.0 c at_dropped.enables at_dropped.enable_holds (omega arith) some in
      omega arith

  dropped_same : (c : ℕ) → slice_index counts'.prepares c + slice_index old.prepare_holds c ≡ slice_index old.counts.prepares c + slice_index old.prepare_holds c
  dropped_same c = ap (λ (k : CountState). slice_index k.prepares c + slice_index old.prepare_holds c) to.counts

  dropped_within : (c : ℕ) → is_in c (reverse (path_within (link_in old.tree.clocks) levels x.0)) ≡ true → c < length old.desc.defs
  dropped_within c m =
      path_within_desc old.desc old.window old.tree levels x.0 now.whole.tied dropped_there c (sym (is_in-reverse c (path_within (link_in old.tree.clocks) levels x.0)) ∙ m)

  pub dropped_of : Relinked old (micro.DropEnable x) window' old.tree counts' old.prepare_holds enables' flight'
  dropped_of = record {
    whole = now.whole;
    going = now.going;
    is = refl;
    own = now.own;
    first = now.first;
    size = to.size;
    told = ap (λ (o : Option (List ℕ)). is_some o) to.words ∙ told_mapped _ old.window.words;
    behind = to.behind;
    locks = to.locks;
    tied = tied-moved old.desc old.window window' old.tree (λ _. true) (λ _. false) (reverse (path_within (link_in old.tree.clocks) levels x.0)) now.whole.tied dropped_within to.size to.words;
    there = λ c. refl;
    linked = λ c has. has;
    keeps = to.keeps;
    prepares = held_on (registered old.tree.clocks) (length old.desc.defs) old.steps old.prepare_holds now.whole.prepares_held;
    enables = subst (λ (xs : List ℕ). AreHeld (registered old.tree.clocks) (length old.desc.defs) (old.steps + 1) xs) (sym to.holds)
        (held_less (registered old.tree.clocks) (length old.desc.defs) old.steps old.enable_holds x.0 now.whole.enables_held at_dropped.desc dropped_there to.some);
    stands = stands_held old counts' old.prepare_holds enables' (bare old) (bare (record old { enable_holds = enables' })) now.whole.counted.stands (ap (λ (k : CountState). k.gated) to.counts)
        (ap (λ (k : CountState). k.links) to.counts) (ap (λ (k : CountState). k.exclusives) to.counts) refl refl refl dropped_less dropped_same (listed_tells old.enable_holds) (listed_tells enables')
        (listed_tells old.prepare_holds) (listed_tells old.prepare_holds);
    raised = old.flight.raised;
    raised_there = (now.whole.flown now.going).way.raised;
    flight = now.flight;
    less = falls_of old (micro.DropEnable x) flight' now.whole now.going refl now.own now.less;
  }

  pub drop_enters : Enters old old.flight.driver (event.Step (micro.DropEnable x) None) turn.Going (with_relinked old window' old.tree counts' old.prepare_holds enables' flight')
  unfolding settled
  drop_enters = relinked_enters old (micro.DropEnable x) window' old.tree counts' old.prepare_holds enables' flight' dropped_of (λ s k stands sound next is.
      let cs : List ℕ = path_within (link_in old.tree.clocks) levels x.0 in
      let left : List ℕ = without_one x.0 s.enable_holds in
      let tells : TellsHolds enables' left = subst (λ (xs : List ℕ). TellsHolds xs left) (sym to.holds) (tells_less old.enable_holds s.enable_holds x.0 stands.enable_holds at_dropped.enable_holds to.some) in
      let counted = counts_stand old s now.whole stands in
      let then_ = stands_held old counts' old.prepare_holds enables' s (drop_enable s (taken k) x.0) counted (ap (λ (k : CountState). k.gated) to.counts) (ap (λ (k : CountState). k.links) to.counts)
      (ap (λ (k : CountState). k.exclusives) to.counts) refl refl refl dropped_less dropped_same stands.enable_holds tells stands.prepare_holds stands.prepare_holds in
      let same : path_within (up_in old.counts.links) levels x.0 ≡ cs = ap (λ (up : ℕ → Option ℕ). path_within up levels x.0) (sym (links_are old now.whole)) in
      let closed : gates_moved s.defs (active s) (active (drop_enable s (taken k) x.0)) (count_from 0 (length s.defs)) s.regs ≡ gates_moved s.defs (λ _. true) (λ _. false) (reverse cs) s.regs =
      closes_all s.defs (active s) (active (drop_enable s (taken k) x.0)) cs s.regs (regs_told old s now.whole stands).0 (regs_lie old s now.whole stands)
      (λ c m. subst (λ (d : Description). c < length d) (sym stands.defs) (path_within_desc old.desc old.window old.tree levels x.0 now.whole.tied dropped_there c m))
      (λ d. ap (is_in d) (sym same) ∙ to.stopped d ∙ lists_alike _ _ _ _ (tells_holds old.counts s now.whole.counted.keeps counted d).active (tells_holds counts' (drop_enable s (taken k) x.0) to.keeps then_ d).active)
      (λ d is_. active_grows (drop_enable s (taken k) x.0) s.enable_holds d (λ h m. left_was x.0 h s.enable_holds m) is_) in
      record {
        regs = gates_moved s.defs (λ _. true) (λ _. false) (reverse cs) s.regs;
        clocks = s.clocks;
        order = s.order;
        prepare_holds = s.prepare_holds;
        enable_holds = left;
        change = taken k;
        next_ = disables_one s old.flight.driver k x next
            ∙ ap (λ (regs : Registers). let r : Option (State × Turn) = Some (record (drop_enable s (taken k) x.0) { regs = regs; steps = s.steps + 1 }, turn.Going) in r) closed;
        words = to.words ∙ ap (option_map (gates_moved old.desc.defs (λ _. true) (λ _. false) (reverse cs))) stands.regs
            ∙ ap (λ (d : Description). Some (gates_moved d (λ _. true) (λ _. false) (reverse cs) s.regs)) (sym stands.defs);
        rows = stands.clocks;
        order_ = stands.order;
        prepares = stands.prepare_holds;
        enables = tells;
        flies = now.change s.notifiers k (micro.DropEnable x) is next.first refl;
        along = goes_taken old.course k;
      })
