-- What a notice of a change of rate makes of the parts of a core.
use Rattle.std.proofs.Common.{◌≡◌, ℕ, zero, suc, ◌+◌, ◌<◌, ◌≤◌, Bool, true, false, List, [], ◌∷◌, Option, Some, None, refl, sym, ap, subst, ◌∙◌, arith, length}
use Rattle.std.specs.Prelude.{slice_get, if◌then◌else◌}
use Rattle.std.specs.Option.{option_map}
use Rattle.clk_base.specs.declared.call.Micro.{Micro}
use Rattle.clk_base.specs.declared.call.Micro.TheVariants as micro
use Rattle.clk_base.specs.declared.clock.ClockId.{ClockId}
use Rattle.clk_base.specs.declared.event.Event.TheVariants as event
use Rattle.clk_base.specs.declared.event.Turn.TheVariants as turn
use Rattle.clk_model.specs.State.{NotifierRow, registered}
use Rattle.clk_model.specs.Notices.{notifiers_of}
use Rattle.clk_model.specs.Step.{taken}
use Rattle.clk_model.specs.Laws.Paced.{is_notice}
use Rattle.clk_flight.specs.declared.front.Front.{Front}
use Rattle.clk_flight.specs.declared.front.Front.TheVariants.{Empty, Poll, Raise, Lower, Falls, Posts}
use Rattle.clk_flight.specs.Flights.{FlightState, first_step, comes_next}
use Rattle.clk_flight.specs.Fronts.{post_to}
use Rattle.clk_flight.specs.Moves.{gone_on}
use Rattle.clk_flight.specs.Steps.{GoesOn, LeavesLessAt, is_taken}
use Rattle.clk_flight.proofs.KeptLaws.{going_step}
use Rattle.core_parts.specs.InFlight.{changes_rate, is_front, can_link}
use Rattle.core_parts.specs.Course.{notifiers_at, PostsFit}
use Rattle.clk_machine.specs.Making.{ComesFirst, TellsNext}
use Rattle.core_parts.specs.Listed.{rows_from}
use Rattle.clk_machine.specs.Parts.{Parts, IsFlown, IsWhole}
use Rattle.clk_machine.specs.Stands.{Enters}
use Rattle.core_parts.proofs.HeldCounts.{held_on}
use Rattle.core_parts.proofs.Coming.{some_at}
use Rattle.clk_machine.proofs.Making.{with_step, enters_step, change_of, next_of}
use Rattle.clk_machine.proofs.Stepping.{tells_one}
use Rattle.core_parts.proofs.Noticed.{notice_taken, under_way-told, tells-told, links-told}
use Rattle.core_parts.proofs.NotifierRows.{count_told, rows_count}

-- ---- which notice comes next

-- a notice comes next, whoever its notifier is
pub tells_next : (p : Parts) (m : Micro) (whole : IsWhole p) → p.flight.going ≡ true → comes_next whole.listed.rows p.flight ≡ Some m → is_notice m ≡ true → TellsNext p
tells_next p m whole going comes notice = by p.flight.front refl where
  rows : List NotifierRow
  rows = whole.listed.rows

  first : first_step rows p.flight p.flight.front ≡ Some m
  first = going_step p.flight.going (first_step rows p.flight p.flight.front) m comes

  as_told : (o : Option Micro) (n : Micro) → first_step (rows_from 0 p.chains) p.flight p.flight.front ≡ o → o ≡ Some n → comes_next (rows_from 0 p.chains) p.flight ≡ Some n
  as_told o n is at = ap (λ (t : Bool). if t then first_step (rows_from 0 p.chains) p.flight p.flight.front else None) going ∙ is ∙ at

  post : (c : ClockId) (old new : ℕ) (o : Option NotifierRow) → (o ≡ None → ⊥) → first_step (rows_from 0 p.chains) p.flight p.flight.front ≡ option_map (post_to c old new) o → TellsNext p
  post c old new None some is = absurd (some refl)
  post c old new (Some n) some is = record { notice = post_to c old new n; next_ = as_told _ (post_to c old new n) is refl; is = refl }

  by : (front : Front) → p.flight.front ≡ front → TellsNext p
  by Empty at = record { notice = m; next_ = as_told _ m (ap (first_step (rows_from 0 p.chains) p.flight) at) (sym (ap (first_step rows p.flight) at) ∙ first); is = notice }
  by (Falls told left) at = record { notice = m; next_ = as_told _ m (ap (first_step (rows_from 0 p.chains) p.flight) at) (sym (ap (first_step rows p.flight) at) ∙ first); is = notice }
  by (Posts c told left old new) at =
      let way = (whole.flown going).way in
      let changes : changes_rate p.flight.call ≡ true = sym (ap (is_front p.flight.call (registered p.tree.clocks)) at) ∙ way.front in
      let fits : told + left ≤ notifiers_at p.chains c.0 = subst (λ (front : Front). PostsFit (notifiers_at p.chains) front) at ((whole.flown going).tells changes).front in
      let many = count_told p.chains rows c.0 whole.listed.tells in
      let few = rows_count p.chains c.0 in
      let there = told_there (slice_get (notifiers_of rows c.0) told) (sym (ap (first_step rows p.flight) at) ∙ first) in
      post c old new (slice_get (notifiers_of (rows_from 0 p.chains) c.0) told)
      (some_at (notifiers_of (rows_from 0 p.chains) c.0) told (let lt = below (notifiers_of rows c.0) told there in omega arith)) (ap (first_step (rows_from 0 p.chains) p.flight) at) where
        told_there : (o : Option NotifierRow) → option_map (post_to c old new) o ≡ Some m → (o ≡ None → ⊥)
        told_there None e none = absurd cc
        told_there (Some n) e none = absurd cc

        below : (xs : List NotifierRow) (i : ℕ) → (slice_get xs i ≡ None → ⊥) → i < length xs
        below [] i some = absurd (some refl)
        below (x ∷ xs) zero some = omega arith
        below (x ∷ xs) (suc i) some = let less = below xs i some in omega arith
  by (Poll y polls again) at =
      let same : m ≡ micro.Poll y = inside (sym first ∙ ap (first_step rows p.flight) at) in
      let no : true ≡ false = sym notice ∙ ap is_notice same in absurd cc where
        inside : {x y : Micro} → Some x ≡ Some y → x ≡ y
        inside e = cc
  by (Raise x) at =
      let same : m ≡ micro.Raise x = inside (sym first ∙ ap (first_step rows p.flight) at) in
      let no : true ≡ false = sym notice ∙ ap is_notice same in absurd cc where
        inside : {x y : Micro} → Some x ≡ Some y → x ≡ y
        inside e = cc
  by (Lower x) at =
      let same : m ≡ micro.Lower x = inside (sym first ∙ ap (first_step rows p.flight) at) in
      let no : true ≡ false = sym notice ∙ ap is_notice same in absurd cc where
        inside : {x y : Micro} → Some x ≡ Some y → x ≡ y
        inside e = cc

-- ---- the parts

-- the parts stay whole
pub whole_told : (old : Parts) (flight' : FlightState) → IsWhole old → old.flight.going ≡ true → TellsNext old → flight' ≡ gone_on old.flight → LeavesLessAt is_taken old.flight flight'
    → IsWhole (with_step old old.window flight')
whole_told old flight' whole going next is less =
    let flown = whole.flown going in
    let falls = less (rows_from 0 old.chains) next.notice next.next_ (notice_taken next.notice next.is).0 in
    record {
      tied = whole.tied;
      paid = whole.paid;
      counted = record { keeps = whole.counted.keeps; stands = whole.counted.stands };
      clocks = whole.clocks;
      handled = whole.handled;
      notified = whole.notified;
      listed = whole.listed;
      flown = λ still. subst (λ (f : FlightState). IsFlown old.desc.defs old.tree.clocks old.table.handles old.chains old.course.notified old.spent f) (sym is) (record {
        plls_ = flown.plls_;
        way = under_way-told old.flight (registered old.tree.clocks) (rows_from 0 old.chains) next.notice next.next_ next.is flown.way;
        own = flown.own;
        paid = flown.paid;
        tells = λ changes. tells-told old.flight (notifiers_at old.chains) old.course.notified (rows_from 0 old.chains) next.notice next.next_ next.is (flown.tells changes);
        links = λ changes. links-told old.flight (can_link old.desc.defs old.tree.clocks) (rows_from 0 old.chains) old.flight.front next.notice (going_step old.flight.going (first_step (rows_from 0 old.chains) old.flight old.flight.front) next.notice next.next_) (flown.links changes);
        placed = flown.placed;
      });
      room = let room = whole.room in omega arith;
      prepares_held = held_on _ _ _ _ whole.prepares_held;
      enables_held = held_on _ _ _ _ whole.enables_held;
    }

-- and stand for the machine's next state
pub tell_enters : (old : Parts) (m : Micro) (flight' : FlightState) → old.flight.going ≡ true → is_notice m ≡ true → TellsNext old → ComesFirst old m → flight' ≡ gone_on old.flight → GoesOn old.flight flight'
    → LeavesLessAt is_taken old.flight flight' → Enters old old.flight.driver (event.Step m None) turn.Going (with_step old old.window flight')
tell_enters old m flight' going notice next comes is change less =
    enters_step old old.window flight' m None (notice_taken m notice).3 refl refl refl (λ still. refl) (ap (λ (f : FlightState). f.going) is ∙ going) (ap (λ (f : FlightState). f.driver) is)
    (less (rows_from 0 old.chains) next.notice next.next_ (notice_taken next.notice next.is).0)
    (λ s stands sound.
    let has = change_of old s stands going in
    let first = comes s.notifiers has.k stands.notifiers has.is in
    record {
      to = record s { change = Some (taken has.k); steps = s.steps + 1 };
      next_ = tells_one s old.flight.driver has.k m notice (next_of old s m has first);
      stands = record {
        defs = stands.defs;
        regs = stands.regs;
        clocks = stands.clocks;
        order = stands.order;
        handles = stands.handles;
        notifiers = stands.notifiers;
        prepare_holds = stands.prepare_holds;
        enable_holds = stands.enable_holds;
        change = change s.notifiers has.k m has.is first (notice_taken m notice).0;
        along = λ changes. let goes = has.along changes in record { chain = goes.chain; rates = goes.rates };
        credits = stands.credits;
        spent = stands.spent;
        steps = ap (λ (n : ℕ). n + 1) stands.steps;
        ignore_unused = stands.ignore_unused;
      };
    })
