-- Laws on legal journals: behind each of them no call is in flight, or one that began in it.
use Rattle.std.proofs.Common.{◌≡◌, ℕ, ◌-◌, ◌⊎◌, inl, inr, Bool, true, List, [], ◌∷◌, ◌++◌, Option, Some, None, refl, sym, ap, subst, ◌∙◌}
use Rattle.std.specs.Prelude.{IsSome}
use Rattle.std.proofs.lemmas.List.{append_assoc}
use Rattle.std.proofs.lemmas.List.Concat.{flat_map-append}
use Rattle.clk_base.specs.declared.call.Sleeping.{Sleeping}
use Rattle.clk_base.specs.declared.call.Sleeping.TheVariants as call
use Rattle.clk_base.specs.declared.call.Micro.{Micro}
use Rattle.clk_base.specs.declared.call.Micro.TheVariants as micro
use Rattle.clk_base.specs.declared.event.Entry.{Entry}
use Rattle.clk_base.specs.declared.event.Event.{Event}
use Rattle.clk_base.specs.declared.event.Event.TheVariants as event
use Rattle.clk_base.specs.declared.event.Errno.TheVariants as errno
use Rattle.clk_base.specs.declared.event.Reply.{Reply}
use Rattle.clk_base.specs.declared.event.Reply.TheVariants as reply
use Rattle.clk_base.specs.declared.event.Turn.{Turn}
use Rattle.clk_base.specs.declared.event.Turn.TheVariants as turn
use Rattle.clk_model.specs.declared.row.HandleRow.{HandleRow}
use Rattle.clk_model.specs.State.{State, Change}
use Rattle.clk_model.specs.Gates.{settled}
use Rattle.clk_model.specs.Round.{wiring, round_rate}
use Rattle.clk_model.specs.Chain.{chain}
use Rattle.clk_model.specs.Views.{view, lift}
use Rattle.clk_model.specs.Script.{probe_script, sweep_script}
use Rattle.clk_model.specs.Begin.{done, refused, starts, change_of, change_along, reparenting, put_handle, with_handle, given, got, prepared_once_more, request, held_once_more, request_between, register, begun}
use Rattle.clk_model.specs.Step.{taken}
use Rattle.clk_model.specs.Machine.{next}
use Rattle.clk_model.specs.Journal.{slotless, replay, Legal}
use Rattle.clk_model.specs.Tier.{is_enable_tier, is_step}
use Rattle.clk_model.specs.Laws.Flight.{Flight, begins, goes_on, beside, step_of, steps_of, IsInFlight, QuietOrInFlight}
use Rattle.clk_model.proofs.JournalLaws as journals
use Rattle.clk_model.proofs.TierLaws.{pick_either, with_handle_either, beside_change}
use Rattle.clk_model.proofs.FlightLaws.{IsStep, step_is, begin_is, course_of}
use Rattle.clk_model.proofs.VetoLaws.{ends_it, end_state, of_change, not_done}
use Rattle.clk_model.proofs.Cases.{by_plan, by_found}
use Rattle.std.proofs.lemmas.Option.{same_Some}
use Rattle.std.proofs.lemmas.List.{append-nil}

-- ---- a call that is answered at once

-- the change in flight, and what it holds
abbrev pub InFlight : Type 0
InFlight = Option Change × List ℕ × List ℕ

abbrev pub in_flight : State → InFlight
in_flight s = (s.change, s.prepare_holds, s.enable_holds)

-- the answer is that the call goes on, or the change in flight and what it holds are these
pub record GoesOrHas (c : InFlight) (y : State × Turn) : Type 0 where
  pub is : (y.1 ≡ turn.Going) ⊎ (in_flight y.0 ≡ c)

has : (y : State × Turn) → GoesOrHas (in_flight y.0) y
has y = record { is = inr refl }

starts_or : (old new : State) (k : Change) → GoesOrHas (in_flight old) (starts old new k)
starts_or old new k = pick_either (GoesOrHas (in_flight old)) _ _ _ (λ e. has (refused old errno.ENOSPC)) (λ e. record { is = inl refl })

request_or : (c : InFlight) (old new fine lifted : State) (d : ℕ) (what : Sleeping) (clock x : ℕ) (range : Option (ℕ × ℕ)) → in_flight old ≡ c → in_flight fine ≡ c
    → GoesOrHas c (request old new fine lifted d what clock x range)
request_or c old new fine lifted d what clock x range same same' =
    pick_either (GoesOrHas c) _ _ _ (λ e. record { is = inr same' })
    (λ e. pick_either (GoesOrHas c) _ _ _ (λ e. record { is = inr same })
    (λ e. by_plan (GoesOrHas c) (chain (wiring new) (view lifted) clock x) (λ ks. starts old new (change_along new d what ks [] range)) (refused old errno.EINVAL)
    (record { is = inr same }) (λ ks. subst (λ (o : InFlight). GoesOrHas o (starts old new (change_along new d what ks [] range))) same (starts_or old new (change_along new d what ks [] range)))))

on_handle : (s : State) (d : ℕ) (n : ℕ) (f : HandleRow → State × Turn) → ((row : HandleRow) → GoesOrHas (in_flight s) (f row)) → GoesOrHas (in_flight s) (with_handle s d n f)
on_handle s d n f each = with_handle_either (GoesOrHas (in_flight s)) s d n f (has (refused s errno.ENOENT)) (λ row own. each row)

got_or : (s : State) (d : ℕ) (found : Option ℕ) → GoesOrHas (in_flight s) (got s d found)
got_or s d None = has (refused s errno.ENOENT)
got_or s d (Some c) = pick_either (GoesOrHas (in_flight s)) _ _ _ (λ e. has (given s d c)) (λ e. has (refused s errno.EPROBE_DEFER))

registered_change : (s : State) (c : ℕ) → in_flight (register s c) ≡ in_flight s
unfolding register
registered_change s c = refl

-- a call goes on, or it leaves the change in flight and what it holds as they were
pub begun_or : (q : State) (d : ℕ) (what : Sleeping) → GoesOrHas (in_flight q) (begun q d what)
unfolding begun
begun_or q d (call.Get found) = got_or q d _
begun_or q d (call.Put h) = on_handle q d h.number _ (λ row. pick_either (GoesOrHas (in_flight q)) _ _ _ (λ e. has (refused q errno.EBUSY)) (λ e. has (done (put_handle q h.number None) reply.Fine)))
begun_or q d (call.Prepare h) = on_handle q d h.number _ (λ row. pick_either (GoesOrHas (in_flight q)) _ _ _ (λ e. has (done (prepared_once_more q h.number row) reply.Fine))
    (λ e. starts_or q q (change_of q d (call.Prepare h) (micro.Raise row.clock ∷ micro.End ∷ []))))
begun_or q d (call.Unprepare h) = on_handle q d h.number _ (λ row.
    let less : State = put_handle q h.number (Some (record row { prepares = row.prepares - 1 })) in
    pick_either (GoesOrHas (in_flight q)) _ _ _ (λ e. has (done q reply.Warn))
    (λ e. pick_either (GoesOrHas (in_flight q)) _ _ _ (λ e. record { is = inr refl }) (λ e. starts_or q less (change_of less d (call.Unprepare h) (micro.Lower row.clock ∷ micro.End ∷ [])))))
begun_or q d (call.GetRate h) = on_handle q d h.number _ (λ row. record { is = inr refl })
begun_or q d (call.RoundRate h x) = on_handle q d h.number _ (λ row.
    by_found (GoesOrHas (in_flight q)) (round_rate (wiring q) (view (lift q h.number)) row.clock.0 x) (λ r. done q (reply.Rate r)) (refused q errno.EINVAL) (record { is = inr refl }) (λ r. record { is = inr refl }))
begun_or q d (call.SetRate h x) = on_handle q d h.number _ (λ row. request_or (in_flight q) q q q (lift q h.number) d (call.SetRate h x) row.clock.0 x None refl refl)
begun_or q d (call.SetRateExclusive h x) = on_handle q d h.number _ (λ row. request_or (in_flight q) q q (held_once_more q h.number row) q d (call.SetRateExclusive h x) row.clock.0 x None refl refl)
begun_or q d (call.SetRange h least most) = on_handle q d h.number _ (λ row.
    let new : State = put_handle q h.number (Some (record row { min = least; max = most })) in
    pick_either (GoesOrHas (in_flight q)) _ _ _ (λ e. record { is = inr refl })
    (λ e. request_or (in_flight q) q new new (lift new h.number) d (call.SetRange h least most) row.clock.0 (request_between q.clocks row.clock.0 least most) (Some (row.min, row.max)) refl refl))
begun_or q d (call.SetParent h p) = on_handle q d h.number _ (λ row.
    pick_either (GoesOrHas (in_flight q)) _ _ _ (λ e. record { is = inr refl })
    (λ e. pick_either (GoesOrHas (in_flight q)) _ _ _ (λ e. record { is = inr refl })
    (λ e. pick_either (GoesOrHas (in_flight q)) _ _ _ (λ e. record { is = inr refl })
    (λ e. pick_either (GoesOrHas (in_flight q)) _ _ _ (λ e. starts_or q q (reparenting q d (call.SetParent h p) row.clock.0 p.0)) (λ e. record { is = inr refl })))))
begun_or q d (call.GetParent h) = on_handle q d h.number _ (λ row. record { is = inr refl })
begun_or q d (call.ExclusiveGet h) = on_handle q d h.number _ (λ row. record { is = inr refl })
begun_or q d (call.ExclusivePut h) = on_handle q d h.number _ (λ row. pick_either (GoesOrHas (in_flight q)) _ _ _ (λ e. record { is = inr refl }) (λ e. record { is = inr refl }))
begun_or q d (call.NotifierAdd h id priority policy) = on_handle q d h.number _ (λ row.
    pick_either (GoesOrHas (in_flight q)) _ _ _ (λ e. record { is = inr refl }) (λ e. pick_either (GoesOrHas (in_flight q)) _ _ _ (λ e. record { is = inr refl }) (λ e. record { is = inr refl })))
begun_or q d (call.NotifierRemove h id) = on_handle q d h.number _ (λ row. pick_either (GoesOrHas (in_flight q)) _ _ _ (λ e. record { is = inr refl }) (λ e. record { is = inr refl }))
begun_or q d (call.Probe c) =
    pick_either (GoesOrHas (in_flight q)) _ _ _ (λ e. record { is = inr refl })
    (λ e. pick_either (GoesOrHas (in_flight q)) _ _ _ (λ e. record { is = inr (registered_change q c.0) })
    (λ e. starts_or q q (change_of q d (call.Probe c) (probe_script (register q c.0) c.0))))
begun_or q d call.Sweep = pick_either (GoesOrHas (in_flight q)) _ _ _ (λ e. record { is = inr refl }) (λ e. starts_or q q (change_of q d call.Sweep (sweep_script q)))

-- a call that is answered at once leaves what is held
pub answered_leaves : (q s : State) (d : ℕ) (what : Sleeping) (r : Reply) → next q d (event.Begin what) ≡ Some (s, turn.Done r) → in_flight s ≡ in_flight q
unfolding settled
answered_leaves q s d what r step =
    let start = begin_is q s d what (turn.Done r) step in
    sym (ap (λ (u : State). in_flight u) start.1)
    ∙ elim (begun_or q d what).is [
      | inl going ↦ absurd (not_done r (sym start.2 ∙ going))
      | inr same ↦ same
    ]

-- and none in flight
pub answered_quiet : (q s : State) (d : ℕ) (what : Sleeping) (r : Reply) → next q d (event.Begin what) ≡ Some (s, turn.Done r) → s.change ≡ None
answered_quiet q s d what r step = ap (λ (f : InFlight). f.0) (answered_leaves q s d what r step) ∙ (begin_is q s d what (turn.Done r) step).0

-- the end of a call leaves none in flight
pub end_quiet : (s t : State) (d : ℕ) (m : Micro) (answer : Option Bool) (r : Reply) (k : Change) → IsStep s t d m answer (turn.Done r) k → t.change ≡ None
unfolding settled
end_quiet s t d m answer r k step =
    sym (ap (λ (u : State). u.change) step.state)
    ∙ ap (λ (u : State). u.change) (end_state s (taken k) answer m (ends_it s (taken k) answer m r step.answered))

-- ---- one entry more

steps_append : (es more : List Entry) → steps_of (es ++ more) ≡ steps_of es ++ steps_of more
steps_append es more = flat_map-append (λ e. step_of e.event) es more

no_step : (e : Event) → is_enable_tier e ≡ true → step_of e ≡ []
no_step (event.Enable n) tier = refl
no_step (event.Disable n) tier = refl
no_step (event.Running n) tier = refl
no_step (event.Begin what) tier = refl
no_step (event.Step m answer) tier = absurd cc

-- the flight goes on with these steps of an entry
one_more : (start : State) (journal : List Entry) (e : Entry) (t : State) → replay start (journal ++ e ∷ []) ≡ t → (f : IsInFlight start journal)
    → Flight (replay start f.before) f.first.driver f.what t (steps_of f.since ++ step_of e.event) → IsInFlight start (journal ++ e ∷ [])
one_more start journal e t at f flight = record {
  before = f.before;
  first = f.first;
  since = f.since ++ e ∷ [];
  parts = ap (λ (es : List Entry). es ++ e ∷ []) f.parts ∙ append_assoc f.before (f.first ∷ f.since) (e ∷ []);
  quiet = f.quiet;
  what = f.what;
  beginning = f.beginning;
  flight = subst (λ (u : State). Flight (replay start f.before) f.first.driver f.what u (steps_of (f.since ++ e ∷ []))) (sym at)
      (subst (λ (ms : List Micro). Flight (replay start f.before) f.first.driver f.what t ms)
      (sym (steps_append f.since (e ∷ []) ∙ ap (λ (ms : List Micro). steps_of f.since ++ ms) (append-nil (step_of e.event)))) flight);
}

-- a state with a change in flight isn't quiet
pub busy_cannot_begin : (o : Option Change) (k : Change) → o ≡ Some k → o ≡ None → ⊥
busy_cannot_begin o k e f = let no : Some k ≡ None = sym e ∙ f in absurd cc

-- an event where no call is in flight
from_quiet : (start t : State) (journal : List Entry) (e : Entry) (event_ : Event) (x : Turn) → e.event ≡ event_ → (replay start journal).change ≡ None
    → next (replay start journal) e.driver event_ ≡ Some (t, x) → replay start (journal ++ e ∷ []) ≡ t → QuietOrInFlight start (journal ++ e ∷ [])
from_quiet start t journal e (event.Enable n) x is quiet step at = inl (ap (λ (u : State). u.change) at ∙ beside_change (replay start journal) t e.driver (event.Enable n) x refl step ∙ quiet)
from_quiet start t journal e (event.Disable n) x is quiet step at = inl (ap (λ (u : State). u.change) at ∙ beside_change (replay start journal) t e.driver (event.Disable n) x refl step ∙ quiet)
from_quiet start t journal e (event.Running n) x is quiet step at = inl (ap (λ (u : State). u.change) at ∙ beside_change (replay start journal) t e.driver (event.Running n) x refl step ∙ quiet)
from_quiet start t journal e (event.Begin what) (turn.Done r) is quiet step at =
    inl (ap (λ (u : State). u.change) at ∙ answered_quiet (replay start journal) t e.driver what r step)
from_quiet start t journal e (event.Begin what) turn.Going is quiet step at = inr (record {
  before = journal;
  first = e;
  since = [];
  parts = refl;
  quiet = quiet;
  what = what;
  beginning = is;
  flight = begins (step ∙ ap (λ (u : State). let y : State × Turn = (u, turn.Going) in Some y) (sym at));
})
from_quiet start t journal e (event.Step m answer) x is quiet step at =
    let k = step_is (replay start journal) t e.driver m answer x step in
    absurd (busy_cannot_begin (replay start journal).change k.0 k.1.at quiet)

same_step : (e : Entry) (event_ : Event) → e.event ≡ event_ → step_of e.event ≡ step_of event_
same_step e event_ is = ap step_of is

-- an event of the enable tier while a call is in flight
beside_it : (start t : State) (journal : List Entry) (e : Entry) (event_ : Event) (x : Turn) → e.event ≡ event_ → is_enable_tier event_ ≡ true → (f : IsInFlight start journal)
    → next (replay start journal) e.driver event_ ≡ Some (t, x) → replay start (journal ++ e ∷ []) ≡ t → IsInFlight start (journal ++ e ∷ [])
beside_it start t journal e event_ x is tier f step at =
    one_more start journal e t at f
    (subst (λ (ms : List Micro). Flight (replay start f.before) f.first.driver f.what t ms)
    (sym (ap (λ (ms : List Micro). steps_of f.since ++ ms) (same_step e event_ is ∙ no_step event_ tier) ∙ append-nil (steps_of f.since)))
    (beside e.driver event_ tier f.flight step))

-- an event while a call is in flight
from_flight : (start t : State) (journal : List Entry) (e : Entry) (event_ : Event) (x : Turn) → e.event ≡ event_ → (f : IsInFlight start journal)
    → next (replay start journal) e.driver event_ ≡ Some (t, x) → replay start (journal ++ e ∷ []) ≡ t → QuietOrInFlight start (journal ++ e ∷ [])
from_flight start t journal e (event.Enable n) x is f step at = inr (beside_it start t journal e (event.Enable n) x is refl f step at)
from_flight start t journal e (event.Disable n) x is f step at = inr (beside_it start t journal e (event.Disable n) x is refl f step at)
from_flight start t journal e (event.Running n) x is f step at = inr (beside_it start t journal e (event.Running n) x is refl f step at)
from_flight start t journal e (event.Begin what) x is f step at =
    let course = course_of (replay start f.before) f.first.driver f.what f.flight in
    absurd (busy_cannot_begin (replay start journal).change course.now course.at (begin_is (replay start journal) t e.driver what x step).0)
from_flight start t journal e (event.Step m answer) (turn.Done r) is f step at =
    let k = step_is (replay start journal) t e.driver m answer (turn.Done r) step in
    inl (ap (λ (u : State). u.change) at ∙ end_quiet (replay start journal) t e.driver m answer r k.0 k.1)
from_flight start t journal e (event.Step m answer) turn.Going is f step at =
    let course = course_of (replay start f.before) f.first.driver f.what f.flight in
    let mine = of_change (replay start journal) t e.driver m answer turn.Going course.now course.at step in
    let driver : e.driver ≡ f.first.driver = sym mine.driver ∙ course.driver in
    inr (one_more start journal e t at f
    (subst (λ (ms : List Micro). Flight (replay start f.before) f.first.driver f.what t (steps_of f.since ++ ms)) (sym (same_step e (event.Step m answer) is))
    (goes_on m answer f.flight (ap (λ (d : ℕ). next (replay start journal) d (event.Step m answer)) (sym driver) ∙ step))))

one_entry : (start t : State) (journal : List Entry) (e : Entry) (x : Turn) → QuietOrInFlight start journal → next (replay start journal) e.driver e.event ≡ Some (t, x)
    → QuietOrInFlight start (journal ++ e ∷ [])
one_entry start t journal e x (inl quiet) step = from_quiet start t journal e e.event x refl quiet step (journals.replay-append start t x journal e step)
one_entry start t journal e x (inr f) step = from_flight start t journal e e.event x refl f step (journals.replay-append start t x journal e step)

-- ---- whole journals

more_entries : (start : State) (journal more : List Entry) → QuietOrInFlight start journal → Legal (replay start journal) more → QuietOrInFlight start (journal ++ more)
more_entries start journal [] so_far legal = subst (λ (es : List Entry). QuietOrInFlight start es) (sym (nothing_behind journal)) so_far where
  nothing_behind : (es : List Entry) → es ++ [] ≡ es
  nothing_behind [] = refl
  nothing_behind (e ∷ es) = ap (λ (fs : List Entry). e ∷ fs) (nothing_behind es)
more_entries start journal (e ∷ more) so_far legal =
    let t : State = legal.0 in
    let at : replay start (journal ++ e ∷ []) ≡ t = journals.replay-append start t (slotless e.turn) journal e legal.1 in
    subst (λ (es : List Entry). QuietOrInFlight start es) (append_assoc journal (e ∷ []) more)
    (more_entries start (journal ++ e ∷ []) more (one_entry start t journal e (slotless e.turn) so_far legal.1)
    (subst (λ (u : State). Legal u more) (sym at) legal.2))

-- behind a legal journal no call is in flight, or one that began in it
pub quiet_or_in_flight : (start : State) (journal : List Entry) → start.change ≡ None → Legal start journal → QuietOrInFlight start journal
quiet_or_in_flight start journal quiet legal = more_entries start [] journal (inl quiet) legal

-- ---- who waits

value_of : (o : Option (State × Turn)) → IsSome o → (x : State × Turn) × (o ≡ Some x)
value_of None some = absurd cc
value_of (Some x) some = (x, refl)

-- while a call is in flight each other driver has the enable tier alone, and its own driver besides the steps of the call
pub others_wait : (s : State) (k : Change) (d : ℕ) (e : Event) → s.change ≡ Some k → IsSome (next s d e) → (is_enable_tier e ≡ true) ⊎ ((is_step e ≡ true) × (d ≡ k.driver))
others_wait s k d (event.Enable n) at defined = inl refl
others_wait s k d (event.Disable n) at defined = inl refl
others_wait s k d (event.Running n) at defined = inl refl
others_wait s k d (event.Begin what) at defined =
    let x = value_of (next s d (event.Begin what)) defined in
    let no : Some k ≡ None = sym at ∙ (begin_is s x.0.0 d what x.0.1 x.1).0 in absurd cc
others_wait s k d (event.Step m answer) at defined =
    let x = value_of (next s d (event.Step m answer)) defined in
    let is = step_is s x.0.0 d m answer x.0.1 x.1 in
    inr (refl, sym is.1.driver ∙ ap (λ (j : Change). j.driver) (same_Some is.0 k (sym is.1.at ∙ at)))
