-- Each end in a legal journal is that of a call that has begun in it, and has its cause.
use Rattle.std.proofs.Common.{◌≡◌, ℕ, ◌||◌, Bool, true, false, cond, List, [], ◌∷◌, ◌++◌, Option, Some, None, refl, sym, ap, subst, ◌∙◌, ◌⊎◌, inl, inr, append_assoc, append-nil, true≢false}
use Rattle.std.specs.List.{list_any}
use Rattle.std.specs.Option.{option_map_or}
use Rattle.std.proofs.lemmas.List.Folds.{list_any-append}
use Rattle.std.proofs.lemmas.Option.{same_Some}
use Rattle.clk_base.specs.declared.call.Micro.{Micro}
use Rattle.clk_base.specs.declared.call.Sleeping.{Sleeping}
use Rattle.clk_base.specs.declared.event.Entry.{Entry}
use Rattle.clk_base.specs.declared.event.Errno.TheVariants as errno
use Rattle.clk_base.specs.declared.event.Event.{Event}
use Rattle.clk_base.specs.declared.event.Event.TheVariants as event
use Rattle.clk_base.specs.declared.event.Reply.{Reply}
use Rattle.clk_base.specs.declared.event.Reply.TheVariants as reply
use Rattle.clk_base.specs.declared.event.Turn.{Turn}
use Rattle.clk_base.specs.declared.event.Turn.TheVariants as turn
use Rattle.clk_base.specs.declared.handle.Handle.{Handle}
use Rattle.clk_model.specs.State.{State, Change}
use Rattle.clk_model.specs.Gates.{settled}
use Rattle.clk_model.specs.Step.{taken}
use Rattle.clk_model.specs.Machine.{next}
use Rattle.clk_model.specs.Journal.{slotless, replay, Legal}
use Rattle.clk_model.specs.Laws.Flight.{begins}
use Rattle.clk_model.specs.Laws.EndCauses.{begins_call, JournalsHaveCauses}
use Rattle.clk_model.proofs.EndCauseLaws.{ends_so, ends_have_causes}
use Rattle.clk_model.proofs.FlightLaws.{step_is, begin_is, course_of}
use Rattle.clk_model.proofs.InFlightLaws.{answered_quiet, busy_cannot_begin, end_quiet}
use Rattle.clk_model.proofs.JournalLaws as journals
use Rattle.clk_model.proofs.StepLaws.{step_after}
use Rattle.clk_model.proofs.TierLaws.{beside_change}

-- a call that has begun in a journal and isn't ended: the entries since then are legal from the state behind its beginning, and no other
-- call begins among them
record HasBegun (start : State) (journal : List Entry) : Type 0 where
  before : List Entry
  first : Entry
  since : List Entry
  what : Sleeping
  begun : State
  now : Change
  parts : journal ≡ before ++ first ∷ since
  quiet : (replay start before).change ≡ None
  beginning : first.event ≡ event.Begin what
  step : next (replay start before) first.driver (event.Begin what) ≡ Some (begun, turn.Going)
  legal : Legal begun since
  one : list_any (λ e. begins_call e.event) since ≡ false
  state : replay start journal ≡ replay begun since
  at : (replay start journal).change ≡ Some now
  driver : now.driver ≡ first.driver

-- behind a journal no call is in flight, or one that has begun in it
abbrev QuietOrBegun : State → List Entry → Type 0
QuietOrBegun start journal = ((replay start journal).change ≡ None) ⊎ HasBegun start journal

-- an entry more of the call, or beside it
goes_further : (start t : State) (journal : List Entry) (e : Entry) (b : HasBegun start journal) → next (replay start journal) e.driver e.event ≡ Some (t, slotless e.turn) → begins_call e.event ≡ false
    → (k : Change) → t.change ≡ Some k → k.driver ≡ b.first.driver → HasBegun start (journal ++ e ∷ [])
goes_further start t journal e b step never k at driver =
    let here : replay start (journal ++ e ∷ []) ≡ t = journals.replay-append start t (slotless e.turn) journal e step in
    let own : next (replay b.begun b.since) e.driver e.event ≡ Some (t, slotless e.turn) = ap (λ (u : State). next u e.driver e.event) (sym b.state) ∙ step in
    record {
      before = b.before;
      first = b.first;
      since = b.since ++ e ∷ [];
      what = b.what;
      begun = b.begun;
      now = k;
      parts = ap (λ (es : List Entry). es ++ e ∷ []) b.parts ∙ append_assoc b.before (b.first ∷ b.since) (e ∷ []);
      quiet = b.quiet;
      beginning = b.beginning;
      step = b.step;
      legal = journals.Legal-append b.begun t b.since e b.legal own;
      one = list_any-append (λ f. begins_call f.event) b.since (e ∷ []) ∙ both (list_any (λ f. begins_call f.event) b.since) (begins_call e.event) b.one never;
      state = here ∙ sym (journals.replay-append b.begun t (slotless e.turn) b.since e own);
      at = ap (λ (u : State). u.change) here ∙ at;
      driver = driver;
    } where
      both : (a c : Bool) → a ≡ false → c ≡ false → (a || (c || false)) ≡ false
      both true c e f = absurd (true≢false e)
      both false true e f = absurd (true≢false f)
      both false false e f = refl

-- an entry where no call is in flight
from_quiet : (start t : State) (journal : List Entry) (e : Entry) (ev : Event) (x : Turn) → e.event ≡ ev → (replay start journal).change ≡ None
    → next (replay start journal) e.driver ev ≡ Some (t, x) → replay start (journal ++ e ∷ []) ≡ t → QuietOrBegun start (journal ++ e ∷ [])
from_quiet start t journal e (event.Enable n) x is quiet step at = inl (ap (λ (u : State). u.change) at ∙ beside_change (replay start journal) t e.driver (event.Enable n) x refl step ∙ quiet)
from_quiet start t journal e (event.Disable n) x is quiet step at = inl (ap (λ (u : State). u.change) at ∙ beside_change (replay start journal) t e.driver (event.Disable n) x refl step ∙ quiet)
from_quiet start t journal e (event.Running n) x is quiet step at = inl (ap (λ (u : State). u.change) at ∙ beside_change (replay start journal) t e.driver (event.Running n) x refl step ∙ quiet)
from_quiet start t journal e (event.Step m answer) x is quiet step at =
    let k = step_is (replay start journal) t e.driver m answer x step in absurd (busy_cannot_begin (replay start journal).change k.0 k.1.at quiet)
from_quiet start t journal e (event.Begin what) (turn.Done r) is quiet step at = inl (ap (λ (u : State). u.change) at ∙ answered_quiet (replay start journal) t e.driver what r step)
from_quiet start t journal e (event.Begin what) turn.Going is quiet step at =
    let course = course_of (replay start journal) e.driver what (begins step) in
    inr (record {
      before = journal;
      first = e;
      since = [];
      what = what;
      begun = t;
      now = course.now;
      parts = refl;
      quiet = quiet;
      beginning = is;
      step = step;
      legal = tt;
      one = refl;
      state = at;
      at = ap (λ (u : State). u.change) at ∙ course.at;
      driver = course.driver;
    })

back : (start t : State) (journal : List Entry) (e : Entry) (ev : Event) (x : Turn) → e.event ≡ ev → slotless e.turn ≡ x → next (replay start journal) e.driver ev ≡ Some (t, x)
    → next (replay start journal) e.driver e.event ≡ Some (t, slotless e.turn)
back start t journal e ev x is turned step =
    ap (λ (v : Event). next (replay start journal) e.driver v) is ∙ step ∙ ap (λ (z : Turn). let y : State × Turn = (t, z) in Some y) (sym turned)

-- an entry while one is
from_call : (start t : State) (journal : List Entry) (e : Entry) (ev : Event) (x : Turn) → e.event ≡ ev → slotless e.turn ≡ x → HasBegun start journal
    → next (replay start journal) e.driver ev ≡ Some (t, x) → replay start (journal ++ e ∷ []) ≡ t → QuietOrBegun start (journal ++ e ∷ [])
unfolding settled
from_call start t journal e (event.Begin what) x is turned b step at = absurd (busy_cannot_begin (replay start journal).change b.now b.at (begin_is (replay start journal) t e.driver what x step).0)
from_call start t journal e (event.Enable n) x is turned b step at =
    inr (goes_further start t journal e b (back start t journal e (event.Enable n) x is turned step) (ap begins_call is) b.now (beside_change (replay start journal) t e.driver (event.Enable n) x refl step ∙ b.at) b.driver)
from_call start t journal e (event.Disable n) x is turned b step at =
    inr (goes_further start t journal e b (back start t journal e (event.Disable n) x is turned step) (ap begins_call is) b.now (beside_change (replay start journal) t e.driver (event.Disable n) x refl step ∙ b.at) b.driver)
from_call start t journal e (event.Running n) x is turned b step at =
    inr (goes_further start t journal e b (back start t journal e (event.Running n) x is turned step) (ap begins_call is) b.now (beside_change (replay start journal) t e.driver (event.Running n) x refl step ∙ b.at) b.driver)
from_call start t journal e (event.Step m answer) (turn.Done r) is turned b step at =
    let k = step_is (replay start journal) t e.driver m answer (turn.Done r) step in
    inl (ap (λ (u : State). u.change) at ∙ end_quiet (replay start journal) t e.driver m answer r k.0 k.1)
from_call start t journal e (event.Step m answer) turn.Going is turned b step at =
    let k = step_is (replay start journal) t e.driver m answer turn.Going step in
    let after = step_after (replay start journal) (taken k.0) answer m k.1.answered in
    let own : k.0 ≡ b.now = same_Some k.0 b.now (sym k.1.at ∙ b.at) in
    inr (goes_further start t journal e b (back start t journal e (event.Step m answer) turn.Going is turned step) (ap begins_call is) after.0
    (sym (ap (λ (u : State). u.change) k.1.state) ∙ after.1) (after.2.driver ∙ ap (λ (l : Change). l.driver) own ∙ b.driver))

more_entries : (start : State) (journal more : List Entry) → QuietOrBegun start journal → Legal (replay start journal) more → QuietOrBegun start (journal ++ more)
more_entries start journal [] so_far legal = subst (λ (es : List Entry). QuietOrBegun start es) (sym (append-nil journal)) so_far
more_entries start journal (e ∷ more) so_far legal =
    let t : State = legal.0 in
    let at : replay start (journal ++ e ∷ []) ≡ t = journals.replay-append start t (slotless e.turn) journal e legal.1 in
    subst (λ (es : List Entry). QuietOrBegun start es) (append_assoc journal (e ∷ []) more)
    (more_entries start (journal ++ e ∷ []) more
    (elim so_far [
      | inl quiet ↦ from_quiet start t journal e e.event (slotless e.turn) refl quiet legal.1 at
      | inr b ↦ from_call start t journal e e.event (slotless e.turn) refl refl b legal.1 at
    ])
    (subst (λ (u : State). Legal u more) (sym at) legal.2))

-- a legal journal with an entry more: what is in front of it is legal, and the entry answers the machine's turn
legal_parts : (s : State) (journal : List Entry) (last : Entry) → Legal s (journal ++ last ∷ []) → Legal s journal × ((t : State) × (next (replay s journal) last.driver last.event ≡ Some (t, slotless last.turn)))
legal_parts s [] last legal = (tt, (legal.0, legal.1))
legal_parts s (f ∷ journal) last legal =
    let after : option_map_or (λ x. x.0) (next s f.driver f.event) s ≡ legal.0 = ap (λ (o : Option (State × Turn)). option_map_or (λ x. x.0) o s) legal.1 in
    let rest = legal_parts legal.0 journal last legal.2 in
    ((legal.0, legal.1, rest.0), (rest.1.0, ap (λ (u : State). next (replay u journal) last.driver last.event) after ∙ rest.1.1))

-- no end gives a handle
no_handle : (veto late : Bool) (h : Handle) → cond veto (reply.Refused errno.EBUSY) (cond late (reply.Refused errno.ETIMEDOUT) reply.Fine) ≡ reply.Handle h → ⊥
no_handle true late h e = cc
no_handle false true h e = cc
no_handle false false h e = cc

end_turn : (s t : State) (d : ℕ) (m : Micro) (answer : Option Bool) (r : Reply) → next s d (event.Step m answer) ≡ Some (t, slotless (turn.Done r)) → next s d (event.Step m answer) ≡ Some (t, turn.Done r)
end_turn s t d m answer (reply.Handle h) step =
    let is = step_is s t d m answer (turn.Done (reply.Handle (record h { slot = 0 }))) step in
    absurd (no_handle is.0.vetoed is.0.timed_out (record h { slot = 0 }) (ends_so s t d m answer (reply.Handle (record h { slot = 0 })) is.0 is.1))
end_turn s t d m answer reply.Fine step = step
end_turn s t d m answer reply.Warn step = step
end_turn s t d m answer reply.Yes step = step
end_turn s t d m answer reply.No step = step
end_turn s t d m answer (reply.Rate x) step = step
end_turn s t d m answer (reply.Clock c) step = step
end_turn s t d m answer (reply.Refused x) step = step

pub journals_have_causes : JournalsHaveCauses
journals_have_causes start journal last m answer r quiet legal is turned =
    let parts = legal_parts start journal last legal in
    let t : State = parts.1.0 in
    let step : next (replay start journal) last.driver (event.Step m answer) ≡ Some (t, turn.Done r) =
    end_turn (replay start journal) t last.driver m answer r
    (ap (λ (v : Event). next (replay start journal) last.driver v) (sym is) ∙ parts.1.1 ∙ ap (λ (z : Turn). let y : State × Turn = (t, slotless z) in Some y) turned) in
    let k = step_is (replay start journal) t last.driver m answer (turn.Done r) step in
    elim (more_entries start [] journal (inl quiet) parts.0) [
      | inl none ↦ absurd (busy_cannot_begin (replay start journal).change k.0 k.1.at none)
      | inr b ↦ let own : last.driver ≡ b.first.driver = sym k.1.driver ∙ ap (λ (l : Change). l.driver) (same_Some k.0 b.now (sym k.1.at ∙ b.at)) ∙ b.driver in record {
        before = b.before;
        first = b.first;
        since = b.since;
        what = b.what;
        parts = b.parts;
        quiet = b.quiet;
        beginning = b.beginning;
        own = own;
        one = b.one;
        causes = ends_have_causes (replay start b.before) t b.first.driver b.what b.since r (record {
          begun = b.begun;
          beginning = b.step;
          legal = b.legal;
          one = b.one;
          last = m;
          answer = answer;
          ending = ap (λ (d : ℕ). next (replay b.begun b.since) d (event.Step m answer)) (sym own) ∙ ap (λ (u : State). next u last.driver (event.Step m answer)) (sym b.state) ∙ step;
        });
      }
    ]
