-- Each call that goes on ends for its cause.
use Rattle.std.proofs.Common.{◌≡◌, ◌↔◌, ℕ, ◌||◌, Bool, true, false, cond, List, [], ◌∷◌, ◌++◌, Option, Some, None, refl, sym, ap, subst, ◌∙◌, ◌⊎◌, inl, inr, append_assoc, append-nil, true≢false}
use Rattle.std.specs.List.{list_any, list_all}
use Rattle.std.specs.Option.{option_map_or}
use Rattle.std.proofs.lemmas.Option.{same_Some}
use Rattle.clk_base.specs.declared.call.Micro.{Micro}
use Rattle.clk_base.specs.declared.call.Micro.TheVariants as micro
use Rattle.clk_base.specs.declared.call.Sleeping.{Sleeping}
use Rattle.clk_base.specs.declared.event.Entry.{Entry}
use Rattle.clk_base.specs.declared.event.Errno.TheVariants as errno
use Rattle.clk_base.specs.declared.event.Event.{Event}
use Rattle.clk_base.specs.declared.event.Event.TheVariants as event
use Rattle.clk_base.specs.declared.event.Reply.{Reply}
use Rattle.clk_base.specs.declared.event.Reply.TheVariants as reply
use Rattle.clk_base.specs.declared.event.Turn.{Turn}
use Rattle.clk_base.specs.declared.event.Turn.TheVariants as turn
use Rattle.clk_model.specs.State.{State, Change}
use Rattle.clk_model.specs.Gates.{settled}
use Rattle.clk_model.specs.Begin.{begun}
use Rattle.clk_model.specs.Step.{taken, end_of, stepped}
use Rattle.clk_model.specs.Machine.{is_poll, next}
use Rattle.clk_model.specs.Journal.{slotless, replay, Legal}
use Rattle.clk_model.specs.Tier.{is_enable_tier}
use Rattle.clk_model.specs.Laws.Paced.{is_scripted}
use Rattle.clk_model.specs.Laws.Flight.{Flight, begins, goes_on, beside, script, plan, steps_of, step_of, pre_notices, abort_notices, IsFront}
use Rattle.clk_model.specs.Laws.CallCauses.{GoingLeavesChanges}
use Rattle.clk_model.specs.Laws.EndCauses.{noes_after, is_last_no, never_locks, TimesOut, IsVetoed, EndCauses, begins_call, EndsHaveCauses}
use Rattle.clk_model.proofs.BeginLaws.{begun_going}
use Rattle.clk_model.proofs.CallBeginLaws.{calls_begin_paced}
use Rattle.clk_model.proofs.FlightLaws.{IsStep, step_is, begin_is, course_of, left_is_part, none_part}
use Rattle.clk_model.proofs.InFlightLaws.{answered_quiet, busy_cannot_begin, end_quiet}
use Rattle.clk_model.proofs.Members.{or_cases, or_left, or_right, both_left, both_right, not_either}
use Rattle.clk_model.proofs.NoneLaws.{none_append, none_behind, none_front, none_rest}
use Rattle.clk_model.proofs.PolledLaws.{Counts, step_tells, no_polls}
use Rattle.clk_model.proofs.StepLaws.{step_after}
use Rattle.clk_model.proofs.TierLaws.{beside_change}
use Rattle.clk_model.proofs.VetoLaws.{is_other, pre_are_notices, abort_are_notices, vetoed_over, ends_it, busy_by_veto}

-- ---- scripts have no polls

scripted_polls : (m : Micro) → is_scripted m ≡ true → is_poll m ≡ false
scripted_polls (micro.Poll y) e = absurd cc
scripted_polls _ e = refl

all_scripted : (ms : List Micro) → list_all is_scripted ms ≡ true → list_any is_poll ms ≡ false
all_scripted [] all = refl
all_scripted (m ∷ ms) all =
    both (is_poll m) (scripted_polls m (both_left (is_scripted m) (list_all is_scripted ms) all)) (all_scripted ms (both_right (is_scripted m) (list_all is_scripted ms) all)) where
      both : (t : Bool) → t ≡ false → list_any is_poll ms ≡ false → (t || list_any is_poll ms) ≡ false
      both true e rest = absurd cc
      both false e rest = rest

script_polls : (q s : State) (d : ℕ) (what : Sleeping) → next q d (event.Begin what) ≡ Some (s, turn.Going) → list_any is_poll (script q d what) ≡ false
unfolding settled
script_polls q s d what step =
    let found = calls_begin_paced q s d what step in
    let start = begin_is q s d what turn.Going step in
    let change : (begun q d what).0.change ≡ Some found.0 = ap (λ (u : State). u.change) start.1 ∙ found.1.change in
    ap (λ (o : Option Change). list_any is_poll (option_map_or (λ k. k.left) o [])) change ∙ all_scripted found.0.left found.1.paced.script

-- ---- the flag over the entries of a call

-- where a call has come to
record Reached (q : State) (d : ℕ) (what : Sleeping) (s : State) (made : List Micro) (before : Change) (last : (y : ℕ) → Bool) : Type 0 where
  flight : Flight q d what s made
  now : Change
  at : s.change ≡ Some now
  flag : (now.timed_out ≡ true) ↔ ((before.timed_out ≡ true) ⊎ ((y : ℕ) × (last y ≡ true)))

flags_join : (q : State) (d : ℕ) (what : Sleeping) (s : State) (made : List Micro) (k k' : Change) (here later : ℕ → Bool)
    → (k'.timed_out ≡ true) ↔ ((k.timed_out ≡ true) ⊎ ((y : ℕ) × (here y ≡ true))) → Reached q d what s made k' later → Reached q d what s made k (λ y. here y || later y)
flags_join q d what s made k k' here later first rest = record {
  flight = rest.flight;
  now = rest.now;
  at = rest.at;
  flag = (λ is. onward (rest.flag.0 is), λ either. rest.flag.1 (back either));
} where
  onward : (k'.timed_out ≡ true) ⊎ ((y : ℕ) × (later y ≡ true)) → (k.timed_out ≡ true) ⊎ ((y : ℕ) × ((here y || later y) ≡ true))
  onward (inl is) = elim (first.0 is) [ inl was ↦ inl was | inr one ↦ inr (one.0, or_left (here one.0) (later one.0) one.1) ]
  onward (inr one) = inr (one.0, or_right (here one.0) (later one.0) one.1)

  back : (k.timed_out ≡ true) ⊎ ((y : ℕ) × ((here y || later y) ≡ true)) → (k'.timed_out ≡ true) ⊎ ((y : ℕ) × (later y ≡ true))
  back (inl was) = inl (first.1 (inl was))
  back (inr one) = elim (or_cases (here one.0) (later one.0) one.1) [ inl at ↦ inl (first.1 (inr (one.0, at))) | inr at ↦ inr (one.0, at) ]

-- where no change is in flight and no call begins, none comes to be in flight
stays_quiet : (s : State) (since : List Entry) → s.change ≡ None → Legal s since → list_any (λ e. begins_call e.event) since ≡ false → (replay s since).change ≡ None
stays_quiet s [] quiet legal none = quiet
stays_quiet s (e ∷ es) quiet legal none =
    ap (λ (o : Option (State × Turn)). (replay (option_map_or (λ x. x.0) o s) es).change) legal.1
    ∙ stays_quiet legal.0 es (one e.driver e.event (slotless e.turn) legal.1 (not_either (begins_call e.event) (list_any (λ f. begins_call f.event) es) none).0) legal.2
    (not_either (begins_call e.event) (list_any (λ f. begins_call f.event) es) none).1 where
      one : (driver : ℕ) (ev : Event) (x : Turn) → next s driver ev ≡ Some (legal.0, x) → begins_call ev ≡ false → legal.0.change ≡ None
      one driver (event.Begin what) x step never = absurd cc
      one driver (event.Step m answer) x step never = let is = step_is s legal.0 driver m answer x step in let no : None ≡ Some is.0 = sym quiet ∙ is.1.at in absurd cc
      one driver (event.Enable n) x step never = beside_change s legal.0 driver (event.Enable n) x refl step ∙ quiet
      one driver (event.Disable n) x step never = beside_change s legal.0 driver (event.Disable n) x refl step ∙ quiet
      one driver (event.Running n) x step never = beside_change s legal.0 driver (event.Running n) x refl step ∙ quiet

-- a call that comes to its end behind these entries
record ComesToEnd (s : State) (since : List Entry) (d : ℕ) (t : State) (r : Reply) (last : Micro) (answer : Option Bool) : Type 0 where
  legal : Legal s since
  one : list_any (λ e. begins_call e.event) since ≡ false
  ending : next (replay s since) d (event.Step last answer) ≡ Some (t, turn.Done r)

not_ended : (s : State) (since : List Entry) (d : ℕ) (t : State) (r : Reply) (last : Micro) (answer : Option Bool) → ComesToEnd s since d t r last answer → s.change ≡ None → ⊥
not_ended s since d t r last answer comes quiet =
    let is = step_is (replay s since) t d last answer (turn.Done r) comes.ending in
    let no : None ≡ Some is.0 = sym (stays_quiet s since quiet comes.legal comes.one) ∙ is.1.at in
    cc

-- a call under way, with what its polls have answered since the last raise
record Way (q : State) (d : ℕ) (what : Sleeping) (s : State) (made : List Micro) (k : Change) (noes : List ℕ) : Type 0 where
  flight : Flight q d what s made
  at : s.change ≡ Some k
  counts : Counts k noes

way_steps : (q s t : State) (d driver : ℕ) (what : Sleeping) (made : List Micro) (k : Change) (noes : List ℕ) (m : Micro) (answer : Option Bool) → list_any is_poll (script q d what) ≡ false
    → Way q d what s made k noes → next s driver (event.Step m answer) ≡ Some (t, turn.Going)
    → (k' : Change) × Way q d what t (made ++ m ∷ []) k' (noes_after noes (event.Step m answer)) × ((k'.timed_out ≡ true) ↔ ((k.timed_out ≡ true) ⊎ ((y : ℕ) × (is_last_no y noes (event.Step m answer) ≡ true))))
unfolding settled
way_steps q s t d driver what made k noes m answer polls way step =
    let found = step_is s t driver m answer turn.Going step in
    let same : found.0 ≡ k = same_Some found.0 k (sym found.1.at ∙ way.at) in
    let is : IsStep s t driver m answer turn.Going k = subst (λ (l : Change). IsStep s t driver m answer turn.Going l) same found.1 in
    let course = course_of q d what way.flight in
    let own : course.now ≡ k = same_Some course.now k (sym course.at ∙ way.at) in
    let mine : driver ≡ d = sym is.driver ∙ ap (λ (l : Change). l.driver) (sym own) ∙ course.driver in
    let left : list_any is_poll k.left ≡ false =
    ap (λ (l : Change). list_any is_poll l.left) (sym own) ∙ none_part is_poll (left_is_part what (script q d what) course.left) polls in
    let tells = step_tells s k noes m answer (subst (λ (l : Change). IsFront l) own course.front) left way.counts is.first is.answered in (
      tells.after,
      record {
        flight = goes_on m answer way.flight (subst (λ (n : ℕ). next s n (event.Step m answer) ≡ Some (t, turn.Going)) mine step);
        at = sym (ap (λ (u : State). u.change) is.state) ∙ tells.is;
        counts = tells.counts;
      },
      tells.flag,
    )

way_beside : (q s t : State) (d driver : ℕ) (what : Sleeping) (made : List Micro) (k : Change) (noes : List ℕ) (e : Event) (x : Turn) → is_enable_tier e ≡ true → Way q d what s made k noes
    → next s driver e ≡ Some (t, x) → Way q d what t made k noes
way_beside q s t d driver what made k noes e x tier way step = record {
  flight = beside driver e tier way.flight step;
  at = beside_change s t driver e x tier step ∙ way.at;
  counts = way.counts;
}

-- what is left to come to behind one entry more
abbrev Onward : State → ℕ → Sleeping → List Entry → ℕ → State → Reply → Micro → Option Bool → Type 0
Onward q d what es final t r last answer =
    (s : State) (made : List Micro) (k : Change) (noes : List ℕ) → Way q d what s made k noes → ComesToEnd s es final t r last answer
    → Reached q d what (replay s es) (made ++ steps_of es) k (λ y. never_locks y noes es)

-- one event of a call under way
one_event : (q s s' t : State) (d driver final : ℕ) (what : Sleeping) (made : List Micro) (k : Change) (noes : List ℕ) (ev : Event) (x : Turn) (es : List Entry) (r : Reply) (last : Micro) (answer : Option Bool)
    → list_any is_poll (script q d what) ≡ false → Onward q d what es final t r last answer → Way q d what s made k noes → next s driver ev ≡ Some (s', x) → begins_call ev ≡ false
    → ComesToEnd s' es final t r last answer
    → Reached q d what (replay s' es) (made ++ (step_of ev ++ steps_of es)) k (λ y. is_last_no y noes ev || never_locks y (noes_after noes ev) es)
one_event q s s' t d driver final what made k noes (event.Begin w) x es r last answer polls rest way step never comes = absurd cc
one_event q s s' t d driver final what made k noes (event.Enable n) x es r last answer polls rest way step never comes =
    rest s' made k noes (way_beside q s s' d driver what made k noes (event.Enable n) x refl way step) comes
one_event q s s' t d driver final what made k noes (event.Disable n) x es r last answer polls rest way step never comes =
    rest s' made k noes (way_beside q s s' d driver what made k noes (event.Disable n) x refl way step) comes
one_event q s s' t d driver final what made k noes (event.Running n) x es r last answer polls rest way step never comes =
    rest s' made k noes (way_beside q s s' d driver what made k noes (event.Running n) x refl way step) comes
one_event q s s' t d driver final what made k noes (event.Step m given) (turn.Done z) es r last answer polls rest way step never comes =
    let is = step_is s s' driver m given (turn.Done z) step in
    absurd (not_ended s' es final t r last answer comes (end_quiet s s' driver m given z is.0 is.1))
one_event q s s' t d driver final what made k noes (event.Step m given) turn.Going es r last answer polls rest way step never comes =
    let on = way_steps q s s' d driver what made k noes m given polls way step in
    subst (λ (ms : List Micro). Reached q d what (replay s' es) ms k (λ y. is_last_no y noes (event.Step m given) || never_locks y (noes_after noes (event.Step m given)) es))
    (append_assoc made (m ∷ []) (steps_of es))
    (flags_join q d what (replay s' es) ((made ++ m ∷ []) ++ steps_of es) k on.0 (λ y. is_last_no y noes (event.Step m given)) (λ y. never_locks y (noes_after noes (event.Step m given)) es) on.2
    (rest s' (made ++ m ∷ []) on.0 (noes_after noes (event.Step m given)) on.1 comes))

-- a call under way that comes to its end behind these entries has reached it
reaches : (q t : State) (d final : ℕ) (what : Sleeping) (r : Reply) (last : Micro) (answer : Option Bool) → list_any is_poll (script q d what) ≡ false → (es : List Entry) → Onward q d what es final t r last answer
reaches q t d final what r last answer polls [] s made k noes way comes =
    subst (λ (ms : List Micro). Reached q d what s ms k (λ y. false)) (sym (append-nil made))
    (record { flight = way.flight; now = k; at = way.at; flag = (λ is. inl is, λ either. was either) }) where
      was : (k.timed_out ≡ true) ⊎ ((y : ℕ) × (false ≡ true)) → k.timed_out ≡ true
      was (inl is) = is
      was (inr none) = absurd (true≢false (sym none.1))
reaches q t d final what r last answer polls (e ∷ es) s made k noes way comes =
    let s' : State = comes.legal.0 in
    let back : replay s' es ≡ replay s (e ∷ es) = ap (λ (o : Option (State × Turn)). replay (option_map_or (λ x. x.0) o s) es) (sym comes.legal.1) in
    let parts = not_either (begins_call e.event) (list_any (λ f. begins_call f.event) es) comes.one in
    subst (λ (u : State). Reached q d what u (made ++ steps_of (e ∷ es)) k (λ y. never_locks y noes (e ∷ es))) back
    (one_event q s s' t d e.driver final what made k noes e.event (slotless e.turn) es r last answer polls (reaches q t d final what r last answer polls es) way comes.legal.1 parts.0
    (record { legal = comes.legal.2; one = parts.1; ending = subst (λ (u : State). next u final (event.Step last answer) ≡ Some (t, turn.Done r)) (sym back) comes.ending }))

-- a call begins with no flag and nothing in front
pub begun_fresh : (q s : State) (d : ℕ) (what : Sleeping) → next q d (event.Begin what) ≡ Some (s, turn.Going) → (k : Change) → s.change ≡ Some k → (k.timed_out ≡ false) × (k.front ≡ []) × (k.missed ≡ None)
unfolding settled
begun_fresh q s d what step k at =
    let start = begin_is q s d what turn.Going step in
    let going = (begun_going q d what).from start.2 in
    let own : going.1 ≡ k = same_Some going.1 k (sym (ap (λ (u : State). u.change) going.2) ∙ ap (λ (u : State). u.change) start.1 ∙ at) in
    (ap (λ (l : Change). l.timed_out) (sym own) ∙ going.3.on_time, ap (λ (l : Change). l.front) (sym own) ∙ going.3.front, ap (λ (l : Change). l.missed) (sym own) ∙ going.3.planned)

-- ---- ends

-- the reply of an end
pub ends_so : (s t : State) (d : ℕ) (m : Micro) (answer : Option Bool) (r : Reply) (k : Change) → IsStep s t d m answer (turn.Done r) k
    → cond k.vetoed (reply.Refused errno.EBUSY) (cond k.timed_out (reply.Refused errno.ETIMEDOUT) reply.Fine) ≡ r
unfolding stepped
ends_so s t d m answer r k is =
    let last = ends_it s (taken k) answer m r is.answered in
    let same : (end_of s (taken k)).1 ≡ turn.Done r = sym (end_turn s (taken k) answer m last) ∙ is.answered in
    reply_in same where
      reply_in : {a b : Reply} → turn.Done a ≡ turn.Done b → a ≡ b
      reply_in e = cc

      end_turn : (u : State) (l : Change) (given : Option Bool) (n : Micro) → n ≡ micro.End → (stepped u l given n).1 ≡ (end_of u l).1
      end_turn u l given n e = ap (λ (o : Micro). (stepped u l given o).1) e

no_polls_lock : (y : ℕ) (noes : List ℕ) (since : List Entry) → list_any is_poll (steps_of since) ≡ false → never_locks y noes since ≡ false
no_polls_lock y noes [] none = refl
no_polls_lock y noes (e ∷ es) none =
    one e.event none (no_polls_lock y (noes_after noes e.event) es (none_behind is_poll (step_of e.event) (steps_of es) none)) where
      one : (ev : Event) → list_any is_poll (step_of ev ++ steps_of es) ≡ false → never_locks y (noes_after noes ev) es ≡ false → (is_last_no y noes ev || never_locks y (noes_after noes ev) es) ≡ false
      one (event.Step (micro.Poll z) answer) all rest = absurd (true≢false all)
      one (event.Step (micro.Notify kind c id old new) answer) all rest = rest
      one (event.Step (micro.Raise x) answer) all rest = rest
      one (event.Step (micro.Fall x) answer) all rest = rest
      one (event.Step (micro.HoldPrepare x) answer) all rest = rest
      one (event.Step (micro.HoldEnable x) answer) all rest = rest
      one (event.Step (micro.Relink c p) answer) all rest = rest
      one (event.Step (micro.WriteMux c place) answer) all rest = rest
      one (event.Step (micro.DropEnable x) answer) all rest = rest
      one (event.Step (micro.DropPrepare x) answer) all rest = rest
      one (event.Step (micro.Lower x) answer) all rest = rest
      one (event.Step (micro.Visit x) answer) all rest = rest
      one (event.Step (micro.Register x) answer) all rest = rest
      one (event.Step (micro.Settle x) answer) all rest = rest
      one (event.Step (micro.Close x) answer) all rest = rest
      one (event.Step (micro.Unpower x) answer) all rest = rest
      one (event.Step micro.End answer) all rest = rest
      one (event.Begin what) all rest = rest
      one (event.Enable n) all rest = rest
      one (event.Disable n) all rest = rest
      one (event.Running n) all rest = rest

notices_polls : (ms : List Micro) → list_any is_other ms ≡ false → list_any is_poll ms ≡ false
notices_polls [] none = refl
notices_polls (m ∷ ms) none = both (is_poll m) (one m (none_front is_other m ms none)) (notices_polls ms (none_rest is_other m ms none)) where
  one : (n : Micro) → is_other n ≡ false → is_poll n ≡ false
  one (micro.Poll y) e = absurd cc
  one _ e = refl

  both : (t : Bool) → t ≡ false → list_any is_poll ms ≡ false → (t || list_any is_poll ms) ≡ false
  both true e rest = absurd cc
  both false e rest = rest

-- the causes of an end, by the flags of its change
causes_by : (since : List Entry) (r : Reply) (veto late : Bool) → cond veto (reply.Refused errno.EBUSY) (cond late (reply.Refused errno.ETIMEDOUT) reply.Fine) ≡ r
    → (r ≡ reply.Refused errno.EBUSY → IsVetoed since) → (IsVetoed since → r ≡ reply.Refused errno.EBUSY) → (IsVetoed since → TimesOut since → ⊥)
    → (late ≡ true) ↔ TimesOut since → EndCauses since r
causes_by since r true late is busy veto apart flag =
    let gone : IsVetoed since = busy (sym is) in
    record {
      vetoed = (busy, veto);
      late = (λ e. let no : reply.Refused errno.EBUSY ≡ reply.Refused errno.ETIMEDOUT = is ∙ e in absurd cc, λ out. absurd (apart gone out));
      done = (λ e. let no : reply.Refused errno.EBUSY ≡ reply.Fine = is ∙ e in absurd cc, λ none. absurd (none.0 gone));
    }
causes_by since r false true is busy veto apart flag = record {
  vetoed = (busy, veto);
  late = (λ e. flag.0 refl, λ out. sym is);
  done = (λ e. let no : reply.Refused errno.ETIMEDOUT ≡ reply.Fine = is ∙ e in absurd cc, λ none. absurd (none.1 (flag.0 refl)));
}
causes_by since r false false is busy veto apart flag = record {
  vetoed = (busy, veto);
  late = (λ e. let no : reply.Fine ≡ reply.Refused errno.ETIMEDOUT = is ∙ e in absurd cc, λ out. absurd (true≢false (sym (flag.1 out))));
  done = (λ e. (λ v. let no : reply.Fine ≡ reply.Refused errno.EBUSY = is ∙ veto v in cc, λ out. true≢false (sym (flag.1 out))), λ none. sym is);
}

pub ends_have_causes : EndsHaveCauses
ends_have_causes q t d what since r call =
    let flight = begins call.beginning in
    let start = begin_is q call.begun d what turn.Going call.beginning in
    let course = course_of q d what flight in
    let polls = script_polls q call.begun d what call.beginning in
    let fresh = begun_fresh q call.begun d what call.beginning course.now course.at in
    let reached = reaches q t d d what r call.last call.answer polls since call.begun [] course.now []
    (record { flight = flight; at = course.at; counts = no_polls course.now [] (ap (λ (ms : List Micro). list_any is_poll ms) fresh.1) })
    (record { legal = call.legal; one = call.one; ending = call.ending }) in
    let found = step_is (replay call.begun since) t d call.last call.answer (turn.Done r) call.ending in
    let same : found.0 ≡ reached.now = same_Some found.0 reached.now (sym found.1.at ∙ reached.at) in
    let is : IsStep (replay call.begun since) t d call.last call.answer (turn.Done r) reached.now =
    subst (λ (l : Change). IsStep (replay call.begun since) t d call.last call.answer (turn.Done r) l) same found.1 in
    causes_by since r reached.now.vetoed reached.now.timed_out (ends_so (replay call.begun since) t d call.last call.answer r reached.now is)
    (λ e. busy_by_veto q (replay call.begun since) t d what (steps_of since) call.last call.answer reached.flight
    (subst (λ (z : Reply). next (replay call.begun since) d (event.Step call.last call.answer) ≡ Some (t, turn.Done z)) e call.ending))
    (λ v. (vetoed_over q (replay call.begun since) t d what (steps_of since) call.last call.answer r reached.flight v call.ending).refused)
    (λ v out.
    let off = vetoed_over q (replay call.begun since) t d what (steps_of since) call.last call.answer r reached.flight v call.ending in
    let none : list_any is_poll (steps_of since) ≡ false =
    ap (λ (ms : List Micro). list_any is_poll ms) off.notices
    ∙ none_append is_poll (pre_notices q (plan q d what)) (abort_notices q (plan q d what)) (notices_polls (pre_notices q (plan q d what)) (pre_are_notices q (plan q d what)))
    (notices_polls (abort_notices q (plan q d what)) (abort_are_notices q (plan q d what))) in
    true≢false (sym out.1 ∙ no_polls_lock out.0 [] since none))
    (λ e. elim (reached.flag.0 e) [ inl was ↦ absurd (true≢false (sym was ∙ fresh.0)) | inr out ↦ out ], λ out. reached.flag.1 (inr out))

-- ---- going on

-- a call goes on exactly where a change is left in flight
pub going_leaves_changes : GoingLeavesChanges
unfolding settled
going_leaves_changes s t d (event.Enable n) x step other = absurd (true≢false other)
going_leaves_changes s t d (event.Disable n) x step other = absurd (true≢false other)
going_leaves_changes s t d (event.Running n) x step other = absurd (true≢false other)
going_leaves_changes s t d (event.Begin what) turn.Going step other =
    let course = course_of s d what (begins step) in (λ _. (course.now, course.at), λ _. refl)
going_leaves_changes s t d (event.Begin what) (turn.Done r) step other =
    (λ no. absurd cc, λ left. absurd (busy_cannot_begin t.change left.0 left.1 (answered_quiet s t d what r step)))
going_leaves_changes s t d (event.Step m answer) turn.Going step other =
    let is = step_is s t d m answer turn.Going step in
    let after = step_after s (taken is.0) answer m is.1.answered in
    (λ _. (after.0, sym (ap (λ (u : State). u.change) is.1.state) ∙ after.1), λ _. refl)
going_leaves_changes s t d (event.Step m answer) (turn.Done r) step other =
    let is = step_is s t d m answer (turn.Done r) step in
    (λ no. absurd cc, λ left. absurd (busy_cannot_begin t.change left.0 left.1 (end_quiet s t d m answer r is.0 is.1)))
