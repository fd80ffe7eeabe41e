-- The locks of PLLs follow the steps, so the polls of a journal are answered by their delays.
use Rattle.std.proofs.Common.{◌≡◌, ℕ, ◌+◌, ◌-◌, ◌≤◌, ◌^◌, ◌&&◌, not, Bool, true, false, cond, List, [], ◌∷◌, ◌++◌, Option, Some, None, refl, sym, ap, subst, ◌∙◌, ◌⊎◌, inl, inr, arith, nat_eq, nat_le, nat_lt, min, map, count_by, true≢false}
use Rattle.std.specs.Prelude.{IfSome, slice_index_or, if◌then◌else◌}
use Rattle.std.specs.List.{list_any}
use Rattle.std.specs.Option.{option_map, option_map_or}
use Rattle.std.proofs.lemmas.Bool.Decides.{nat_tests}
use Rattle.std.proofs.lemmas.List.Sums.{sum_by-cons}
use Rattle.std.proofs.lemmas.Option.{same_Some}
use Rattle.clk_base.specs.declared.call.Micro.{Micro}
use Rattle.clk_base.specs.declared.call.Micro.TheVariants as micro
use Rattle.clk_base.specs.declared.call.Sleeping.{Sleeping}
use Rattle.clk_base.specs.declared.clock.ClockId.{ClockId}
use Rattle.clk_base.specs.declared.event.Entry.{Entry}
use Rattle.clk_base.specs.declared.event.Event.{Event}
use Rattle.clk_base.specs.declared.event.Event.TheVariants as event
use Rattle.clk_base.specs.declared.event.Turn.{Turn}
use Rattle.clk_base.specs.declared.event.Turn.TheVariants as turn
use Rattle.reg_bank.specs.Locks.{started, polled, is_locked}
use Rattle.reg_bank.specs.declared.pll_lock.PllLock.{PllLock}
use Rattle.clk_model.specs.Chain.{clock_id}
use Rattle.clk_model.specs.Gates.{settled}
use Rattle.clk_model.specs.Journal.{AnswersByDelay, Legal, PolledFrom, asked_after, is_going, replay, slotless}
use Rattle.clk_model.specs.Laws.Flight.{is_no_abort, is_no_post, IsFront, nothing, polling, polling_first, raise_again, lower_again, falling, telling}
use Rattle.clk_model.specs.Machine.{comes_next, next}
use Rattle.clk_model.specs.State.{State, Change, NotifierRow}
use Rattle.clk_model.specs.Tier.{is_enable_tier}
use Rattle.clk_model.specs.Step.{todo, taken, rest_of, most_polls}
use Rattle.clk_model.proofs.BeginLaws.{IsBegun, begun_going}
use Rattle.clk_model.proofs.FlightLaws.{IsStep, step_is, begin_is, course_of, next_is}
use Rattle.clk_model.proofs.InFlightLaws.{quiet_or_in_flight}
use Rattle.clk_model.proofs.Members.{test_same}
use Rattle.clk_model.proofs.NoneLaws.{none_append, none_map}
use Rattle.clk_model.proofs.RaisedStepLaws.{taken_none}
use Rattle.clk_model.proofs.StepLaws.{raises, step_after}
use Rattle.clk_model.proofs.PolledLaws.{none_where, abort_calm, post_calm}
use Rattle.clk_flight.specs.declared.front.Front.{Front}
use Rattle.clk_flight.specs.declared.front.Front.TheVariants.{Empty, Poll, Raise, Lower, Falls, Posts}
use Rattle.clk_flight.specs.Flights.{FlightState, IsChange, Flies}
use Rattle.clk_flight.specs.Fronts.{front_behind, front_steps, script_behind, falls}
use Rattle.clk_flight.specs.Moves.{found_none, raised_once, raised_in, is_last_no, front_polled, polled_in, timed_out_in}
use Rattle.clk_machine.specs.Parts.{Parts}
use Rattle.clk_machine.specs.Polls.{IfPoll, IsPoll, IsAsked, asked_by, StartsLock, PollsLock, FollowsLocks}
use Rattle.core_parts.specs.Window.{lock_in, HasDelays}
use Rattle.core_parts.proofs.LockLaws.{delay_of, delay_in}

-- ---- what stands in front

none_falls : (P : ClockId → ℕ → Type 0) (raised : List ℕ) (told left : ℕ) → IfPoll (falls raised told left) P
none_falls P [] told left = by (nat_eq left 0) where
  by : (t : Bool) → IfPoll (cond (true && t) Empty (Falls told left)) P
  by true = tt
  by false = tt
none_falls P (y ∷ ys) told left = tt

-- behind the first of what stands in front no poll stands there
none_behind : (P : ClockId → ℕ → Type 0) (raised : List ℕ) (front : Front) → IfPoll (front_behind raised front) P
none_behind P raised Empty = tt
none_behind P raised (Poll y polls None) = tt
none_behind P raised (Poll y polls (Some x)) = tt
none_behind P raised (Raise x) = tt
none_behind P raised (Lower x) = tt
none_behind P [] (Falls told left) = none_falls P [] (told + 1) (left - 1)
none_behind P (y ∷ ys) (Falls told left) = tt
none_behind P raised (Posts c told left old new) = by (nat_eq (left - 1) 0) where
  by : (t : Bool) → IfPoll (cond t Empty (Posts c (told + 1) (left - 1) old new)) P
  by true = tt
  by false = tt

-- ---- the steps of the machine

pub starts_none : (old new : Parts) → new.flight ≡ found_none old.flight → StartsLock old new
starts_none old new is = subst (λ (f : FlightState). IfPoll f.front (λ y polls. (polls ≡ most_polls) × (lock_in new.window.locks y.0 ≡ option_map started (lock_in old.window.locks y.0)))) (sym is)
    (none_behind (λ y polls. (polls ≡ most_polls) × (lock_in new.window.locks y.0 ≡ option_map started (lock_in old.window.locks y.0))) old.flight.raised old.flight.front)

pub starts_raised : (old new : Parts) (x y : ClockId) (more : Bool) → new.flight ≡ raised_in old.flight x y more → lock_in new.window.locks y.0 ≡ option_map started (lock_in old.window.locks y.0) → StartsLock old new
starts_raised old new x y more is lock = subst (λ (f : FlightState). IfPoll f.front P) (sym is) (by (nat_lt old.flight.again old.flight.plls)) where
  P : ClockId → ℕ → Type 0
  P z polls = (polls ≡ most_polls) × (lock_in new.window.locks z.0 ≡ option_map started (lock_in old.window.locks z.0))

  by : (t : Bool) → IfPoll (cond t (raised_once old.flight x y more) (found_none old.flight)).front P
  by true = (refl, lock)
  by false = none_behind P old.flight.raised old.flight.front

one_less : (polls : ℕ) → nat_le polls 1 ≡ false → polls - 1 + 1 ≡ polls
one_less polls more = grind (arith, nat_tests)

-- a PLL that is polled again has a poll less
pub polled_again : (f g : FlightState) (y : ClockId) (answer : Bool) (polls : ℕ) (again : Option ClockId) → f.front ≡ Poll y polls again → g ≡ polled_in f answer
    → IsPoll f.front (λ z n. (z ≡ y) × IfPoll g.front (λ w left. (w ≡ y) × (left + 1 ≡ n)))
polled_again f g y answer polls again front is =
    subst (λ (o : Front). IsPoll o (λ z n. (z ≡ y) × IfPoll g.front (λ w left. (w ≡ y) × (left + 1 ≡ n)))) (sym front)
    (refl, subst (λ (h : FlightState). IfPoll h.front P) (sym is) (by (is_last_no f.front answer) refl)) where
      P : ClockId → ℕ → Type 0
      P w left = (w ≡ y) × (left + 1 ≡ polls)

      behind : (b : Bool) → (not b && nat_le polls 1) ≡ false → IfPoll (front_polled (Poll y polls again) b) P
      behind true e = again_in again where
        again_in : (o : Option ClockId) → IfPoll (option_map_or Raise o Empty) P
        again_in None = tt
        again_in (Some x) = tt
      behind false e = (refl, one_less polls e)

      by : (t : Bool) → is_last_no f.front answer ≡ t → IfPoll (cond t (timed_out_in f) (record f { front = front_polled f.front answer; left = script_behind f.front f.left })).front P
      by true e = none_falls P f.raised 0 f.extra
      by false e =
          subst (λ (o : Front). IfPoll (front_polled o answer) P) (sym front) (behind answer (sym (ap (λ (o : Front). is_last_no o answer) front) ∙ e))

-- ---- the steps of the definitions

-- what comes first is what stands in front
first_is : (k : Change) (m n : Micro) (ms : List Micro) → comes_next m (todo k) ≡ true → k.front ≡ n ∷ ms → n ≡ m
first_is k m n ms first is = next_is m n (ms ++ k.left) (ap (λ (front : List Micro). comes_next m (front ++ k.left)) (sym is) ∙ first)

never_calm : (m n : Micro) → raises m ≡ false → raises n ≡ true → n ≡ m → ⊥
never_calm m n calm raise same = true≢false (sym raise ∙ ap raises same ∙ calm)

-- a step that raises and polls nothing leaves nothing of both in front
calm_before : (k : Change) (m : Micro) → IsFront k → comes_next m (todo k) ≡ true → raises m ≡ false → list_any raises (rest_of k.front) ≡ false
calm_before k m (nothing is) first calm = ap (λ (ms : List Micro). list_any raises (rest_of ms)) is
calm_before k m (polling y some is) first calm = absurd (never_calm m (micro.Poll y) calm refl (first_is k m (micro.Poll y) [] first is))
calm_before k m (polling_first y x some is) first calm = absurd (never_calm m (micro.Poll y) calm refl (first_is k m (micro.Poll y) (micro.Raise x ∷ []) first is))
calm_before k m (raise_again x is) first calm = absurd (never_calm m (micro.Raise x) calm refl (first_is k m (micro.Raise x) [] first is))
calm_before k m (lower_again x is) first calm = ap (λ (ms : List Micro). list_any raises (rest_of ms)) is
calm_before k m (falling aborts late only is) first calm =
    taken_none k.front (ap (λ (ms : List Micro). list_any raises ms) is
    ∙ none_append raises (map (λ z. micro.Fall (clock_id z)) k.raised) aborts (none_map raises (λ z. micro.Fall (clock_id z)) k.raised (λ z. refl)) (none_where is_no_abort raises aborts abort_calm only))
calm_before k m (telling only) first calm = taken_none k.front (none_where is_no_post raises k.front post_calm only)

-- a flight whose change has no poll in front polls nothing next
no_poll : (P : ClockId → ℕ → Type 0) (rows : List NotifierRow) (f : FlightState) (k : Change) → IsChange rows f k → list_any raises k.front ≡ false → IfPoll f.front P
no_poll P rows f k is none = by f.front (ap (λ (ms : List Micro). list_any raises ms) (sym is.front) ∙ none) where
  by : (front : Front) → list_any raises (front_steps rows f.script f.raised front) ≡ false → IfPoll front P
  by (Poll y polls again) e = absurd cc
  by Empty e = tt
  by (Raise x) e = tt
  by (Lower x) e = tt
  by (Falls told left) e = tt
  by (Posts c told left old new) e = tt

never_flies : (rows : List NotifierRow) (f : FlightState) (o : Option Change) → Flies rows f o → f.going ≡ true → (k : Change) × (o ≡ Some k) × IsChange rows f k
never_flies rows f None quiet going = absurd (true≢false (sym going ∙ quiet))
never_flies rows f (Some k) is going = (k, refl, is)

-- behind such a step none is polled next
pub calm_after : (P : ClockId → ℕ → Type 0) (s t : State) (d : ℕ) (m : Micro) (answer : Option Bool) (k : Change) (f : FlightState) → IsStep s t d m answer turn.Going k → IsFront k → raises m ≡ false
    → Flies t.notifiers f t.change → f.going ≡ true → IfPoll f.front P
unfolding settled
calm_after P s t d m answer k f is front calm flies going =
    let after = step_after s (taken k) answer m is.answered in
    let change : t.change ≡ Some after.0 = sym (ap (λ (u : State). u.change) is.state) ∙ after.1 in
    let now = never_flies t.notifiers f t.change flies going in
    let same : now.0 ≡ after.0 = same_Some now.0 after.0 (sym now.1 ∙ change) in
    no_poll P t.notifiers f now.0 now.2 (ap (λ (j : Change). list_any raises j.front) same ∙ after.2.calm calm (calm_before k m front is.first calm))

-- nor behind the beginning of a call
pub bare_begin : (P : ClockId → ℕ → Type 0) (q t : State) (d : ℕ) (what : Sleeping) (f : FlightState) → next q d (event.Begin what) ≡ Some (t, turn.Going)
    → Flies t.notifiers f t.change → f.going ≡ true → IfPoll f.front P
unfolding settled
bare_begin P q t d what f step flies going =
    let start = begin_is q t d what turn.Going step in
    let goes = (begun_going q d what).from start.2 in
    let h : IsBegun q d what goes.0 goes.1 = goes.3 in
    let change : t.change ≡ Some goes.1 = sym (ap (λ (u : State). u.change) start.1) ∙ ap (λ (u : State). u.change) goes.2 in
    let now = never_flies t.notifiers f t.change flies going in
    let same : now.0 ≡ goes.1 = same_Some now.0 goes.1 (sym now.1 ∙ change) in
    no_poll P t.notifiers f now.0 now.2 (ap (λ (j : Change). list_any raises j.front) same ∙ ap (λ (ms : List Micro). list_any raises ms) h.front)

-- ---- the polls of a journal

pub asked_append : (asked : List ℕ) (es : List Entry) (e : Entry) → asked_by asked (es ++ e ∷ []) ≡ asked_after (asked_by asked es) e.event
asked_append asked [] e = refl
asked_append asked (f ∷ es) e = asked_append (asked_after asked f.event) es e

pub polled_append : (delay : ℕ → ℕ) (asked : List ℕ) (es : List Entry) (e : Entry) → PolledFrom delay asked es → AnswersByDelay delay (asked_by asked es) e.event → PolledFrom delay asked (es ++ e ∷ [])
polled_append delay asked [] e so_far answers = (answers, tt)
polled_append delay asked (f ∷ es) e so_far answers = (so_far.0, polled_append delay (asked_after asked f.event) es e so_far.1 answers)

-- ---- a poll

count_more : (y : ℕ) (asked : List ℕ) → count_by (λ z. nat_eq z y) (y ∷ asked) ≡ 1 + count_by (λ z. nat_eq z y) asked
count_more y asked = sum_by-cons (λ z. cond (nat_eq z y) 1 0) y asked ∙ ap (λ (b : Bool). cond b 1 0 + count_by (λ z. nat_eq z y) asked) (test_same y)

-- a lock that was polled as often as it was asked before has been polled once more
polled_told : (asked : List ℕ) (y left : ℕ) (o : Option PllLock) → IfSome o (λ l. l.polls ≡ count_by (λ z. nat_eq z y) asked) → count_by (λ z. nat_eq z y) asked + left ≡ most_polls
    → IfSome (option_map polled o) (λ l. l.polls ≡ count_by (λ z. nat_eq z y) (y ∷ asked))
polled_told asked y left None told all = tt
polled_told asked y left (Some lock) told all = let more = count_more y asked in let few : count_by (λ z. nat_eq z y) asked ≤ 32 = omega arith in below (lock.polls + 1) (omega arith) ∙ (omega arith) where
  below : (n : ℕ) → n ≤ 33 → min n (2 ^ 32 - 1) ≡ n
  below n few = omega arith

-- the PLL that is polled again was asked once more
pub asked_again : (old new : Parts) (y : ClockId) (answer : Option Bool) (asked : List ℕ) → PollsLock y answer old new → IfPoll old.flight.front (IsAsked old.window.locks asked)
    → IfPoll new.flight.front (IsAsked new.window.locks (y.0 ∷ asked))
asked_again old new y answer asked polls before = by old.flight.front new.flight.front polls.next before where
  by : (o n : Front) → IsPoll o (λ z polls. (z ≡ y) × IfPoll n (λ w left. (w ≡ y) × (left + 1 ≡ polls))) → IfPoll o (IsAsked old.window.locks asked) → IfPoll n (IsAsked new.window.locks (y.0 ∷ asked))
  by (Poll z polls_left again) (Poll w left more) next_ asked_ =
      let same : z ≡ y = next_.0 in
      let again_ : w ≡ y = next_.1.0 in
      let less : left + 1 ≡ polls_left = next_.1.1 in
      let here : IsAsked old.window.locks asked y polls_left = subst (λ (v : ClockId). IsAsked old.window.locks asked v polls_left) same asked_ in
      let one = count_more y.0 asked in
      let all = here.left in
      subst (λ (v : ClockId). IsAsked new.window.locks (y.0 ∷ asked) v left) (sym again_) (record {
        told = subst (λ (l : Option PllLock). IfSome l (λ lock. lock.polls ≡ count_by (λ v. nat_eq v y.0) (y.0 ∷ asked))) (sym polls.lock)
            (polled_told asked y.0 polls_left (lock_in old.window.locks y.0) here.told here.left);
        left = omega arith;
      })
  by (Poll z polls_left again) Empty next_ asked_ = tt
  by (Poll z polls_left again) (Raise x) next_ asked_ = tt
  by (Poll z polls_left again) (Lower x) next_ asked_ = tt
  by (Poll z polls_left again) (Falls told left) next_ asked_ = tt
  by (Poll z polls_left again) (Posts c told left before_ after_) next_ asked_ = tt
  by Empty n next_ asked_ = absurd next_
  by (Raise x) n next_ asked_ = absurd next_
  by (Lower x) n next_ asked_ = absurd next_
  by (Falls told left) n next_ asked_ = absurd next_
  by (Posts c told left before_ after_) n next_ asked_ = absurd next_

-- a PLL that a raise has started was not asked since
pub started_asked : (old new : Parts) → StartsLock old new → IfPoll new.flight.front (IsAsked new.window.locks [])
started_asked old new starts = by new.flight.front starts where
  fresh : (o : Option PllLock) → IfSome (option_map started o) (λ l. l.polls ≡ 0)
  fresh None = tt
  fresh (Some lock) = refl

  by : (front : Front) → IfPoll front (λ y polls. (polls ≡ most_polls) × (lock_in new.window.locks y.0 ≡ option_map started (lock_in old.window.locks y.0))) → IfPoll front (IsAsked new.window.locks [])
  by (Poll y polls again) e = record { told = subst (λ (l : Option PllLock). IfSome l (λ lock. lock.polls ≡ 0)) (sym e.1) (fresh (lock_in old.window.locks y.0)); left = let all = e.0 in omega arith }
  by Empty e = tt
  by (Raise x) e = tt
  by (Lower x) e = tt
  by (Falls told left) e = tt
  by (Posts c told left before_ after_) e = tt

-- a poll is answered by the delay of its PLL
pub answers_by_delay : (old new : Parts) (y : ClockId) (answer : Option Bool) (asked : List ℕ) (delay : ℕ → ℕ) → PollsLock y answer old new → IfPoll old.flight.front (IsAsked old.window.locks asked)
    → HasDelays new.window.behind.delays delay → AnswersByDelay delay asked (event.Step (micro.Poll y) answer)
answers_by_delay old new y None asked delay polls before delays = tt
answers_by_delay old new y (Some given) asked delay polls before delays = by old.flight.front polls.next before where
  at : delay_of (lock_in new.window.locks y.0) ≡ Some (delay y.0)
  at = sym (delay_in new.window.locks y.0) ∙ ap (λ (ds : List (Option ℕ)). slice_index_or ds y.0 None) (sym polls.delays) ∙ delays y.0 polls.inside

  known : (left : ℕ) (lock : Option PllLock) → delay_of lock ≡ Some (delay y.0) → IfSome lock (λ now. given ≡ is_locked now) → IfSome lock (λ l. l.polls ≡ count_by (λ z. nat_eq z y.0) (y.0 ∷ asked))
      → given ≡ nat_le (delay y.0) (count_by (λ z. nat_eq z y.0) asked + 1)
  known left None e told count = absurd cc
  known left (Some lock) e told count =
      let same : lock.delay ≡ delay y.0 = same_Some lock.delay (delay y.0) e in
      let more = count_more y.0 asked in
      let times : lock.polls ≡ count_by (λ z. nat_eq z y.0) asked + 1 = omega arith in
      told ∙ ap (λ (n : ℕ). nat_le n lock.polls) same ∙ ap (nat_le (delay y.0)) times

  by : (o : Front) → IsPoll o (λ z n. (z ≡ y) × IfPoll new.flight.front (λ w left. (w ≡ y) × (left + 1 ≡ n))) → IfPoll o (IsAsked old.window.locks asked)
      → given ≡ nat_le (delay y.0) (count_by (λ z. nat_eq z y.0) asked + 1)
  by (Poll z left again) next_ asked_ =
      let here : IsAsked old.window.locks asked y left = subst (λ (v : ClockId). IsAsked old.window.locks asked v left) next_.0 asked_ in
      known left (lock_in new.window.locks y.0) at polls.told
      (subst (λ (l : Option PllLock). IfSome l (λ lock. lock.polls ≡ count_by (λ z. nat_eq z y.0) (y.0 ∷ asked))) (sym polls.lock) (polled_told asked y.0 left (lock_in old.window.locks y.0) here.told here.left))
  by Empty next_ asked_ = absurd next_
  by (Raise x) next_ asked_ = absurd next_
  by (Lower x) next_ asked_ = absurd next_
  by (Falls told left) next_ asked_ = absurd next_
  by (Posts c told left before_ after_) next_ asked_ = absurd next_

-- ---- an event

-- a step raises, polls, or does neither
abbrev Sorts : Micro → Type 0
Sorts m = (raises m ≡ false) ⊎ (((x : ClockId) × (m ≡ micro.Raise x)) ⊎ ((y : ClockId) × (m ≡ micro.Poll y)))

sorted : (m : Micro) → Sorts m
sorted (micro.Raise x) = inr (inl (x, refl))
sorted (micro.Poll y) = inr (inr (y, refl))
sorted _ = inl refl

calm_answers : (delay : ℕ → ℕ) (asked : List ℕ) (m : Micro) (answer : Option Bool) → raises m ≡ false → AnswersByDelay delay asked (event.Step m answer)
calm_answers delay asked (micro.Raise x) answer e = tt
calm_answers delay asked (micro.Poll y) answer e = absurd cc
calm_answers delay asked _ answer e = tt

goes_or_ends : (t : Turn) → is_going t ≡ true → slotless t ≡ turn.Going
goes_or_ends turn.Going e = refl
goes_or_ends (turn.Done r) e = absurd cc

-- an event that the parts of a core have taken, from a state that they stood for to the next one
pub record Takes (old new : Parts) (s u : State) (d : ℕ) (e : Event) (t : Turn) : Type 0 where
  pub step : next s d e ≡ Some (u, slotless t)
  pub before : Flies s.notifiers old.flight s.change
  pub after : Flies u.notifiers new.flight u.change
  pub front : (k : Change) → s.change ≡ Some k → IsFront k
  pub going : new.flight.going ≡ (if is_enable_tier e then old.flight.going else is_going t)
  pub beside : is_enable_tier e ≡ true → new.flight ≡ old.flight
  pub locks : FollowsLocks old e new

-- the call in flight goes on in a step
in_step : (old new : Parts) (s u : State) (d : ℕ) (m : Micro) (answer : Option Bool) (t : Turn) → Takes old new s u d (event.Step m answer) t → old.flight.going ≡ true
in_step old new s u d m answer t takes =
    let k = step_is s u d m answer (slotless t) takes.step in
    (subst (λ (o : Option Change). Flies s.notifiers old.flight o) k.1.at takes.before).going

same_asked : (old new : Parts) (asked : List ℕ) → new.window.locks ≡ old.window.locks → new.flight ≡ old.flight → IfPoll old.flight.front (IsAsked old.window.locks asked)
    → IfPoll new.flight.front (IsAsked new.window.locks asked)
same_asked old new asked locks flight before =
    subst (λ (ls : List (Option PllLock)). IfPoll new.flight.front (IsAsked ls asked)) (sym locks)
    (subst (λ (f : FlightState). IfPoll f.front (IsAsked old.window.locks asked)) (sym flight) before)

-- the PLL that is polled next was polled as often as it was asked, behind each event
pub polling_on : (old new : Parts) (s u : State) (d : ℕ) (e : Event) (t : Turn) (asked : List ℕ) → Takes old new s u d e t
    → (old.flight.going ≡ true → IfPoll old.flight.front (IsAsked old.window.locks asked)) → new.flight.going ≡ true → IfPoll new.flight.front (IsAsked new.window.locks (asked_after asked e))
polling_on old new s u d (event.Enable n) t asked takes before going = same_asked old new asked takes.locks (takes.beside refl) (before (sym takes.going ∙ going))
polling_on old new s u d (event.Disable n) t asked takes before going = same_asked old new asked takes.locks (takes.beside refl) (before (sym takes.going ∙ going))
polling_on old new s u d (event.Running n) t asked takes before going = same_asked old new asked takes.locks (takes.beside refl) (before (sym takes.going ∙ going))
polling_on old new s u d (event.Begin what) t asked takes before going =
    bare_begin (IsAsked new.window.locks asked) s u d what new.flight
    (takes.step ∙ ap (λ (x : Turn). let y : State × Turn = (u, x) in Some y) (goes_or_ends t (sym takes.going ∙ going))) takes.after going
polling_on old new s u d (event.Step m answer) t asked takes before going =
    elim (sorted m) [
      | inl calm ↦
          let step = takes.step ∙ ap (λ (x : Turn). let y : State × Turn = (u, x) in Some y) (goes_or_ends t (sym takes.going ∙ going)) in
          let is = step_is s u d m answer turn.Going step in
          calm_after (IsAsked new.window.locks (asked_after asked (event.Step m answer))) s u d m answer is.0 new.flight is.1 (takes.front is.0 is.1.at) calm takes.after going
      | inr (inl (x, same)) ↦
          subst (λ (n : Micro). IfPoll new.flight.front (IsAsked new.window.locks (asked_after asked (event.Step n answer)))) (sym same)
          (started_asked old new (subst (λ (n : Micro). FollowsLocks old (event.Step n answer) new) same takes.locks))
      | inr (inr (y, same)) ↦
          subst (λ (n : Micro). IfPoll new.flight.front (IsAsked new.window.locks (asked_after asked (event.Step n answer)))) (sym same)
          (asked_again old new y answer asked (subst (λ (n : Micro). FollowsLocks old (event.Step n answer) new) same takes.locks) (before (in_step old new s u d m answer t takes)))
    ]

-- and each event answers by the delays of the PLLs
pub answers_on : (old new : Parts) (s u : State) (d : ℕ) (e : Event) (t : Turn) (asked : List ℕ) (delay : ℕ → ℕ) → Takes old new s u d e t
    → (old.flight.going ≡ true → IfPoll old.flight.front (IsAsked old.window.locks asked)) → HasDelays new.window.behind.delays delay → AnswersByDelay delay asked e
answers_on old new s u d (event.Enable n) t asked delay takes before delays = tt
answers_on old new s u d (event.Disable n) t asked delay takes before delays = tt
answers_on old new s u d (event.Running n) t asked delay takes before delays = tt
answers_on old new s u d (event.Begin what) t asked delay takes before delays = tt
answers_on old new s u d (event.Step m answer) t asked delay takes before delays =
    elim (sorted m) [
      | inl calm ↦ calm_answers delay asked m answer calm
      | inr (inl (x, same)) ↦ subst (λ (n : Micro). AnswersByDelay delay asked (event.Step n answer)) (sym same) tt
      | inr (inr (y, same)) ↦
          subst (λ (n : Micro). AnswersByDelay delay asked (event.Step n answer)) (sym same)
          (answers_by_delay old new y answer asked delay (subst (λ (n : Micro). FollowsLocks old (event.Step n answer) new) same takes.locks) (before (in_step old new s u d m answer t takes)) delays)
    ]

-- ---- what stands in front in a state behind a journal

pub front_behind_journal : (start : State) (journal : List Entry) → start.change ≡ None → Legal start journal → (k : Change) → (replay start journal).change ≡ Some k → IsFront k
front_behind_journal start journal quiet legal k at =
    elim (quiet_or_in_flight start journal quiet legal) [
      | inl none ↦ let no : None ≡ Some k = sym none ∙ at in absurd cc
      | inr f ↦
          let course = course_of (replay start f.before) f.first.driver f.what f.flight in
          subst (λ (j : Change). IsFront j) (same_Some course.now k (sym course.at ∙ at)) course.front
    ]
