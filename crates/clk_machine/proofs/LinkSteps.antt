-- A new link: it takes the parts of a core on.
use Rattle.std.proofs.Common.{◌≡◌, ℕ, ◌+◌, ◌<◌, ◌&&◌, ◌⊎◌, inl, inr, true, List, Option, Some, None, refl, sym, ap, subst, ◌∙◌, length, set, arith}
use Rattle.std.proofs.lemmas.List.{length-set}
use Rattle.std.specs.Prelude.{is_some, slice_index}
use Rattle.clk_base.specs.declared.call.Micro.{Micro}
use Rattle.clk_base.specs.declared.call.Micro.TheVariants as micro
use Rattle.clk_base.specs.declared.clock.ClockId.{ClockId}
use Rattle.clk_base.specs.declared.event.Event.TheVariants as event
use Rattle.clk_base.specs.declared.event.Turn.TheVariants as turn
use Rattle.clk_base.specs.Description.{parents_of}
use Rattle.clk_model.specs.declared.row.ClockRow.{ClockRow}
use Rattle.clk_model.specs.Chain.{linked}
use Rattle.clk_model.specs.Lists.{is_in, to_front}
use Rattle.clk_model.specs.State.{Change, registered, link_in}
use Rattle.clk_model.specs.Step.{taken, passed_over}
use Rattle.clk_model.proofs.Members.{both_left, both_right}
use Rattle.clk_model.proofs.WholePathLaws.{same_or_not, linked_same, linked_other}
use Rattle.clk_flight.specs.Flights.{FlightState, own_step}
use Rattle.clk_flight.specs.Moves.{gone_on}
use Rattle.clk_flight.specs.Steps.{GoesOn, LeavesLessAt, is_taken}
use Rattle.clk_tree.specs.TreeState.{TreeState, IsTree}
use Rattle.counts_core.specs.Counted.{CountState, AreCounts, HasLinks}
use Rattle.counts_core.specs.Standing.{StandsFor}
use Rattle.core_parts.specs.Course.{CourseState, IsAlong}
use Rattle.core_parts.specs.InFlight.{links_clocks}
use Rattle.core_parts.specs.Holds.{TellsHolds, AreHeld, Passes, Ends, passed_times}
use Rattle.clk_machine.specs.Making.{ComesFirst}
use Rattle.core_parts.specs.Tied.{AreKept}
use Rattle.clk_machine.specs.Parts.{Parts, bare, IsWhole}
use Rattle.clk_machine.specs.Stands.{Enters}
use Rattle.core_parts.proofs.HeldCounts.{held_passed, listed_tells, tells_passed}
use Rattle.core_parts.proofs.HoldsEnding.{tells_ended, held_ended}
use Rattle.core_parts.proofs.Holdings.{StandsFor-linked, StandsFor-moved}
use Rattle.clk_machine.proofs.Relinked.{linked_there}
use Rattle.clk_machine.proofs.Relinking.{relinks, Relinked, with_relinked, own_step_of, can_now, made_now, falls_of, relinked_enters}
use Rattle.clk_machine.proofs.Stepping.{relinks_one}
use Rattle.clk_machine.proofs.Unmoved.{relink_still}
use Rattle.clk_machine.proofs.Landings.{clock_among}

-- what is known of the flight where a step comes next and was made
pub record Stepped (old : Parts) (m : Micro) (flight' : FlightState) : Type 0 where
  pub whole : IsWhole old
  pub going : old.flight.going ≡ true
  pub is : relinks m ≡ true
  pub own : own_step old.flight ≡ Some m
  pub first : ComesFirst old m
  pub flight : flight' ≡ gone_on old.flight
  pub change : GoesOn old.flight flight'
  pub less : LeavesLessAt is_taken old.flight flight'

pub some_of : (o : Option ℕ) → is_some o ≡ true → (q : ℕ) × (o ≡ Some q)
some_of None e = absurd cc
some_of (Some q) e = (q, refl)

-- ---- a new link

-- what such a step may
pub record MayLink (old : Parts) (c p : ClockId) : Type 0 where
  pub there : registered old.tree.clocks c.0 ≡ true
  pub parent : registered old.tree.clocks p.0 ≡ true
  pub possible : is_in p.0 (parents_of old.desc.defs c.0) ≡ true

pub may_link : (old : Parts) (c p : ClockId) → IsWhole old → old.flight.going ≡ true → own_step old.flight ≡ Some (micro.Relink c p) → MayLink old c p
may_link old c p whole going own =
    let both : (registered old.tree.clocks c.0 && registered old.tree.clocks p.0) ≡ true = both_right (links_clocks old.flight.call) _ (made_now old (micro.Relink c p) whole going refl own) in
    record { there = both_left _ _ both; parent = both_right _ _ both; possible = can_now old (micro.Relink c p) whole going refl own }

-- what a new link makes of tree and counts
pub record LinksTo (old : Parts) (c p : ClockId) (tree' : TreeState) (counts' : CountState) : Type 0 where
  pub clocks : tree'.clocks ≡ linked old.tree.clocks c.0 p.0
  pub order : tree'.order ≡ to_front c.0 old.tree.order
  pub defs : tree'.defs ≡ old.tree.defs
  pub kept : AreKept old.desc.defs old.window.words tree'.clocks tree'.rates
  pub stands : IsTree tree'.defs tree'.clocks tree'.order tree'.rates
  pub link : Option ClockId
  pub counts : counts' ≡ record old.counts { links = set old.counts.links c.0 link }
  pub links : HasLinks tree'.clocks counts'.links
  pub keeps : AreCounts counts'

-- what becomes of holds on the new parent: they are holds on the link that the clock had, and end where it had none
pub record HoldsGo (old : Parts) (c p : ClockId) (moved counts' : CountState) (prepares' enables' : List ℕ) : Type 0 where
  pub gated : counts'.gated ≡ moved.gated
  pub links : counts'.links ≡ moved.links
  pub exclusives : counts'.exclusives ≡ moved.exclusives
  pub keeps : AreCounts counts'
  pub prepares : (d : ℕ) → slice_index counts'.prepares d + slice_index old.prepare_holds d ≡ slice_index moved.prepares d + slice_index prepares' d
  pub prepares_held : AreHeld (registered old.tree.clocks) (length old.desc.defs) (old.steps + 1) prepares'
  pub prepares_are : (d : ℕ) → slice_index prepares' d ≡ passed_times p.0 (link_in old.tree.clocks c.0) (slice_index old.prepare_holds) d
  pub enables : (d : ℕ) → slice_index counts'.enables d + slice_index old.enable_holds d ≡ slice_index moved.enables d + slice_index enables' d
  pub enables_held : AreHeld (registered old.tree.clocks) (length old.desc.defs) (old.steps + 1) enables'
  pub enables_are : (d : ℕ) → slice_index enables' d ≡ passed_times p.0 (link_in old.tree.clocks c.0) (slice_index old.enable_holds) d

-- where the clock had this link, holds go over to it, prepares and then enables
pub record HoldsPass (old : Parts) (c p : ClockId) (moved mid counts' : CountState) (o : ℕ) (prepares' enables' : List ℕ) : Type 0 where
  pub link : link_in old.tree.clocks c.0 ≡ Some o
  pub mid_ : mid ≡ record moved { prepares = mid.prepares }
  pub counts : counts' ≡ record mid { enables = counts'.enables }
  pub keeps : AreCounts counts'
  pub prepares : Passes p.0 o moved.prepares mid.prepares old.prepare_holds prepares'
  pub prepares_are : (d : ℕ) → slice_index prepares' d ≡ passed_times p.0 (Some o) (slice_index old.prepare_holds) d
  pub enables : Passes p.0 o mid.enables counts'.enables old.enable_holds enables'
  pub enables_are : (d : ℕ) → slice_index enables' d ≡ passed_times p.0 (Some o) (slice_index old.enable_holds) d

-- where it had none, they end
pub record HoldsEnd (old : Parts) (c p : ClockId) (moved mid counts' : CountState) (prepares' enables' : List ℕ) : Type 0 where
  pub link : link_in old.tree.clocks c.0 ≡ None
  pub mid_ : mid ≡ record moved { prepares = mid.prepares }
  pub counts : counts' ≡ record mid { enables = counts'.enables }
  pub keeps : AreCounts counts'
  pub prepares : Ends p.0 moved.prepares mid.prepares old.prepare_holds prepares'
  pub prepares_are : (d : ℕ) → slice_index prepares' d ≡ passed_times p.0 None (slice_index old.prepare_holds) d
  pub enables : Ends p.0 mid.enables counts'.enables old.enable_holds enables'
  pub enables_are : (d : ℕ) → slice_index enables' d ≡ passed_times p.0 None (slice_index old.enable_holds) d

-- so they go
pub holds_passed : (old : Parts) (c p : ClockId) (moved mid counts' : CountState) (o : ℕ) (prepares' enables' : List ℕ) → IsWhole old → HoldsPass old c p moved mid counts' o prepares' enables' → HoldsGo old c p moved counts' prepares' enables'
holds_passed old c p moved mid counts' o prepares' enables' whole pass = record {
  gated = ap (λ (k : CountState). k.gated) pass.counts ∙ ap (λ (k : CountState). k.gated) pass.mid_;
  links = ap (λ (k : CountState). k.links) pass.counts ∙ ap (λ (k : CountState). k.links) pass.mid_;
  exclusives = ap (λ (k : CountState). k.exclusives) pass.counts ∙ ap (λ (k : CountState). k.exclusives) pass.mid_;
  keeps = pass.keeps;
  prepares = λ d. let coupled = pass.prepares.coupled d in let same = ap (λ (k : CountState). slice_index k.prepares d) pass.counts in omega arith;
  prepares_held = held_passed (registered old.tree.clocks) (length old.desc.defs) old.steps p.0 o moved.prepares mid.prepares old.prepare_holds prepares' there whole.prepares_held pass.prepares pass.prepares_are;
  prepares_are = λ d. pass.prepares_are d ∙ ap (λ (u : Option ℕ). passed_times p.0 u (slice_index old.prepare_holds) d) (sym pass.link);
  enables = λ d. let coupled = pass.enables.coupled d in let same = ap (λ (k : CountState). slice_index k.enables d) pass.mid_ in omega arith;
  enables_held = held_passed (registered old.tree.clocks) (length old.desc.defs) old.steps p.0 o mid.enables counts'.enables old.enable_holds enables' there whole.enables_held pass.enables pass.enables_are;
  enables_are = λ d. pass.enables_are d ∙ ap (λ (u : Option ℕ). passed_times p.0 u (slice_index old.enable_holds) d) (sym pass.link);
} where
  there : registered old.tree.clocks o ≡ true
  there = whole.tied.stands.links c.0 o pass.link

pub holds_ended : (old : Parts) (c p : ClockId) (moved mid counts' : CountState) (prepares' enables' : List ℕ) → IsWhole old → HoldsEnd old c p moved mid counts' prepares' enables' → HoldsGo old c p moved counts' prepares' enables'
holds_ended old c p moved mid counts' prepares' enables' whole end_ = record {
  gated = ap (λ (k : CountState). k.gated) end_.counts ∙ ap (λ (k : CountState). k.gated) end_.mid_;
  links = ap (λ (k : CountState). k.links) end_.counts ∙ ap (λ (k : CountState). k.links) end_.mid_;
  exclusives = ap (λ (k : CountState). k.exclusives) end_.counts ∙ ap (λ (k : CountState). k.exclusives) end_.mid_;
  keeps = end_.keeps;
  prepares = λ d. let coupled = end_.prepares.coupled d in let same = ap (λ (k : CountState). slice_index k.prepares d) end_.counts in omega arith;
  prepares_held = held_ended (registered old.tree.clocks) (length old.desc.defs) old.steps p.0 moved.prepares mid.prepares old.prepare_holds prepares' whole.prepares_held end_.prepares end_.prepares_are;
  prepares_are = λ d. end_.prepares_are d ∙ ap (λ (u : Option ℕ). passed_times p.0 u (slice_index old.prepare_holds) d) (sym end_.link);
  enables = λ d. let coupled = end_.enables.coupled d in let same = ap (λ (k : CountState). slice_index k.enables d) end_.mid_ in omega arith;
  enables_held = held_ended (registered old.tree.clocks) (length old.desc.defs) old.steps p.0 mid.enables counts'.enables old.enable_holds enables' whole.enables_held end_.enables end_.enables_are;
  enables_are = λ d. end_.enables_are d ∙ ap (λ (u : Option ℕ). passed_times p.0 u (slice_index old.enable_holds) d) (sym end_.link);
}

-- and are told behind it
tells_gone : (p : ℕ) (o : Option ℕ) (counts counts' holds : List ℕ) → TellsHolds counts holds → ((d : ℕ) → slice_index counts' d ≡ passed_times p o (slice_index counts) d) → TellsHolds counts' (passed_over p o holds)
tells_gone p None counts counts' holds tells go = tells_ended p counts counts' holds tells go
tells_gone p (Some o) counts counts' holds tells go = tells_passed p o counts counts' holds tells go

-- the counts with the link stand for the tree with it
pub stands_linked : (old : Parts) (c p : ClockId) (tree' : TreeState) (moved : CountState) → IsWhole old → LinksTo old c p tree' moved → StandsFor moved (bare (record old { tree = tree' }))
stands_linked old c p tree' moved whole to =
    StandsFor-linked old.counts moved (bare old) (bare (record old { tree = tree' })) whole.counted.stands (ap (λ (k : CountState). k.gated) to.counts)
    (ap (λ (k : CountState). length k.links) to.counts ∙ length-set old.counts.links c.0 to.link) (ap (λ (k : CountState). k.enables) to.counts)
    (ap (λ (k : CountState). k.prepares) to.counts) (ap (λ (k : CountState). k.exclusives) to.counts) to.links refl (λ d. ap (λ (rs : List ClockRow). registered rs d) to.clocks ∙ linked_there old.tree.clocks c.0 p.0 d) refl refl refl

pub relinked_of : (old : Parts) (c p : ClockId) (tree' : TreeState) (moved counts' : CountState) (prepares' enables' : List ℕ) (flight' : FlightState) → Stepped old (micro.Relink c p) flight' → LinksTo old c p tree' moved
    → HoldsGo old c p moved counts' prepares' enables' → Relinked old (micro.Relink c p) old.window tree' counts' prepares' enables' flight'
relinked_of old c p tree' moved counts' prepares' enables' flight' now to go = record {
  whole = whole;
  going = now.going;
  is = refl;
  own = now.own;
  first = now.first;
  size = refl;
  told = refl;
  behind = refl;
  locks = refl;
  tied = record {
    valid = whole.tied.valid;
    words = whole.tied.words;
    told = whole.tied.told;
    defs = to.defs ∙ whole.tied.defs;
    stands = to.stands;
    kept = to.kept;
  };
  there = there;
  linked = λ d has. ap (λ (rs : List ClockRow). is_some (link_in rs d)) to.clocks ∙ by d has (same_or_not c.0 d);
  keeps = go.keeps;
  prepares = go.prepares_held;
  enables = go.enables_held;
  stands = StandsFor-moved moved counts' (bare (record old { tree = tree' })) (bare (record old { tree = tree'; prepare_holds = prepares'; enable_holds = enables' })) (stands_linked old c p tree' moved whole to)
      go.gated go.links go.exclusives refl refl refl
      (λ d.
      let coupled = go.enables d in
      let was = (listed_tells old.enable_holds).each d in
      let is = (listed_tells enables').each d in
      omega arith)
      (λ d.
      let coupled = go.prepares d in
      let was = (listed_tells old.prepare_holds).each d in
      let is = (listed_tells prepares').each d in
      omega arith);
  raised = old.flight.raised;
  raised_there = (whole.flown now.going).way.raised;
  flight = now.flight;
  less = falls_of old (micro.Relink c p) flight' whole now.going refl now.own now.less;
} where
  whole : IsWhole old
  whole = now.whole

  may : MayLink old c p
  may = may_link old c p whole now.going now.own

  there : (d : ℕ) → registered tree'.clocks d ≡ registered old.tree.clocks d
  there d = ap (λ (rs : List ClockRow). registered rs d) to.clocks ∙ linked_there old.tree.clocks c.0 p.0 d

  by : (d : ℕ) → is_some (link_in old.tree.clocks d) ≡ true → (c.0 ≡ d) ⊎ (c.0 ≡ d → ⊥) → is_some (link_in (linked old.tree.clocks c.0 p.0) d) ≡ true
  by d has (inl same) =
      ap (λ (x : ℕ). is_some (link_in (linked old.tree.clocks c.0 p.0) x)) (sym same)
      ∙ ap (λ (o : Option ℕ). is_some o) (linked_same old.tree.clocks c.0 p.0 (clock_among old c.0 whole may.there))
  by d has (inr other) = ap (λ (o : Option ℕ). is_some o) (linked_other old.tree.clocks c.0 p.0 d other) ∙ has

-- a change that a step leaves as it is goes along its course
pub goes_taken : (course : CourseState) (k : Change) → IsAlong course (Some k) → IsAlong course (Some (taken k))
goes_taken course k along = λ changes. let goes = along changes in record { chain = goes.chain; rates = goes.rates }

pub relink_enters : (old : Parts) (c p : ClockId) (tree' : TreeState) (moved counts' : CountState) (prepares' enables' : List ℕ) (flight' : FlightState) → Stepped old (micro.Relink c p) flight' → LinksTo old c p tree' moved
    → HoldsGo old c p moved counts' prepares' enables' → Enters old old.flight.driver (event.Step (micro.Relink c p) None) turn.Going (with_relinked old old.window tree' counts' prepares' enables' flight')
relink_enters old c p tree' moved counts' prepares' enables' flight' now to go =
    relinked_enters old (micro.Relink c p) old.window tree' counts' prepares' enables' flight' (relinked_of old c p tree' moved counts' prepares' enables' flight' now to go) (λ s k stands sound next is.
    let may = may_link old c p now.whole now.going now.own in
    let own = own_step_of old (micro.Relink c p) now.whole now.going refl now.own in
    let within : c.0 < length s.clocks = subst (λ (rs : List ClockRow). c.0 < length rs) (sym stands.clocks) (clock_among old c.0 now.whole may.there) in
    let link : link_in s.clocks c.0 ≡ link_in old.tree.clocks c.0 = ap (λ (rs : List ClockRow). link_in rs c.0) stands.clocks in
    record {
      regs = s.regs;
      clocks = linked s.clocks c.0 p.0;
      order = to_front c.0 s.order;
      prepare_holds = passed_over p.0 (link_in s.clocks c.0) s.prepare_holds;
      enable_holds = passed_over p.0 (link_in s.clocks c.0) s.enable_holds;
      change = taken k;
      next_ = relinks_one s old.flight.driver k c p next (relink_still old.window.size s k c p own.rest sound.like next.change (is.left ∙ own.left) within);
      words = stands.regs;
      rows = ap (λ (rs : List ClockRow). linked rs c.0 p.0) stands.clocks ∙ sym to.clocks;
      order_ = ap (to_front c.0) stands.order ∙ sym to.order;
      prepares = subst (λ (u : Option ℕ). TellsHolds prepares' (passed_over p.0 u s.prepare_holds)) (sym link) (tells_gone p.0 (link_in old.tree.clocks c.0) old.prepare_holds prepares' s.prepare_holds stands.prepare_holds go.prepares_are);
      enables = subst (λ (u : Option ℕ). TellsHolds enables' (passed_over p.0 u s.enable_holds)) (sym link) (tells_gone p.0 (link_in old.tree.clocks c.0) old.enable_holds enables' s.enable_holds stands.enable_holds go.enables_are);
      flies = now.change s.notifiers k (micro.Relink c p) is next.first refl;
      along = goes_taken old.course k;
    })
