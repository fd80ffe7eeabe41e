-- That each journal of a core keeps the laws: each is a law of legal journals, cited at the places of one journal.
use Rattle.std.proofs.Common.{◌≡◌, ℕ, suc, Bool, true, List, [], ◌∷◌, ◌++◌, Option, Some, take, length, refl, sym, ap, subst, ◌∙◌, zero, inl, inr}
use Rattle.std.specs.Option.{option_map_or}
use Rattle.std.proofs.lemmas.Option.{same_Some}
use Rattle.reg_bank.specs.Registers.{Registers}
use Rattle.clk_base.specs.Description.{Description}
use Rattle.clk_base.specs.Valid.{IsValid}
use Rattle.clk_base.specs.declared.event.Entry.{Entry}
use Rattle.clk_base.specs.declared.event.Errno.TheVariants as errno
use Rattle.clk_base.specs.declared.event.Event.{Event}
use Rattle.clk_base.specs.declared.event.Event.TheVariants as event
use Rattle.clk_base.specs.declared.event.Reply.{Reply}
use Rattle.clk_base.specs.declared.event.Reply.TheVariants as reply
use Rattle.clk_base.specs.declared.event.Turn.{Turn}
use Rattle.clk_base.specs.declared.event.Turn.TheVariants as turn
use Rattle.clk_model.specs.State.{State, Change}
use Rattle.clk_model.specs.Machine.{next}
use Rattle.clk_model.specs.Journal.{slotless, replay, Legal, opening}
use Rattle.clk_model.proofs.AskedLaws.{changes_are_asked}
use Rattle.clk_model.proofs.ExclusiveLaws.{rates_stay_exclusive}
use Rattle.clk_model.proofs.FlightLaws.{step_is, course_of}
use Rattle.clk_model.proofs.InFlightLaws.{quiet_or_in_flight}
use Rattle.clk_model.proofs.JournalCauseLaws.{journals_have_causes}
use Rattle.clk_model.proofs.OutcomeWrittenLaws.{runs_write_outcomes}
use Rattle.clk_model.proofs.RaisedFlightLaws.{raised_end_as_prepared}
use Rattle.clk_model.proofs.LinkLaws.{runs_are_wired}
use Rattle.clk_model.proofs.RunsFedLaws.{run_of, runs_are_fed, quiet_runs_are_settled}
use Rattle.clk_model.proofs.TimeoutLaws.{timeouts_leave_nothing}
use Rattle.clk_model.proofs.ToldRunLaws.{changes_are_told}
use Rattle.clk_model.proofs.VetoLaws.{vetoed_over}
use Rattle.clk_machine.proofs.BesideCalls.{refused_beside}
use Rattle.clk_machine.proofs.Untouched.{late_mild, off_mild, off_other}
use Rattle.clk_machine.specs.Parts.{Parts}
use Rattle.clk_machine.specs.Stands.{is_told}
use Rattle.clk_machine.specs.Run.{Logged, start_of, IsRun}
use Rattle.clk_machine.specs.Lawful.{IsEnd, behind_call, steps_made, HoldsOfCall, KeepsLaws}

-- an entry of a legal journal: those in front of it are legal, so are they with it, and it answers the machine's turn
pub record IsEntry (s : State) (front : List Entry) (last : Entry) : Type 0 where
  pub before : Legal s front
  pub with_it : Legal s (front ++ last ∷ [])
  pub answers : next (replay s front) last.driver last.event ≡ Some (replay s (front ++ last ∷ []), slotless last.turn)

pub entry_at : (s : State) (front rest : List Entry) (last : Entry) → Legal s (front ++ last ∷ rest) → IsEntry s front last
entry_at s [] rest last legal =
    let after : option_map_or (λ x. x.0) (next s last.driver last.event) s ≡ legal.0 = ap (λ (o : Option (State × Turn)). option_map_or (λ x. x.0) o s) legal.1 in record {
      before = tt;
      with_it = (legal.0, legal.1, tt);
      answers = subst (λ (u : State). next s last.driver last.event ≡ Some (u, slotless last.turn)) (sym after) legal.1;
    }
entry_at s (f ∷ front) rest last legal =
    let after : option_map_or (λ x. x.0) (next s f.driver f.event) s ≡ legal.0 = ap (λ (o : Option (State × Turn)). option_map_or (λ x. x.0) o s) legal.1 in
    let is = entry_at legal.0 front rest last legal.2 in record {
      before = (legal.0, legal.1, is.before);
      with_it = (legal.0, legal.1, is.with_it);
      answers = subst (λ (u : State). next (replay u front) last.driver last.event ≡ Some (replay u (front ++ last ∷ []), slotless last.turn)) (sym after) is.answers;
    }

-- a front of a legal journal is legal
front_legal : (n : ℕ) (s : State) (journal : List Entry) → Legal s journal → Legal s (take n journal)
front_legal zero s journal legal = tt
front_legal (suc n) s [] legal = tt
front_legal (suc n) s (e ∷ es) legal = (legal.0, legal.1, front_legal n legal.0 es legal.2)

-- the entry that ends a call is a step of the driver whose call it is
ends_own : (start : State) (journal : List Entry) (is : IsEnd start journal) → IsEntry start is.front is.last → is.last.driver ≡ is.call.first.driver
ends_own start journal is entry =
    let course = course_of (replay start is.call.before) is.call.first.driver is.call.what is.call.flight in
    let k = step_is (replay start is.front) (behind_call is) is.last.driver is.made is.answer (slotless is.last.turn)
    (ap (λ (v : Event). next (replay start is.front) is.last.driver v) (sym is.step) ∙ entry.answers) in
    sym k.1.driver ∙ ap (λ (l : Change). l.driver) (same_Some k.0 course.now (sym k.1.at ∙ course.at)) ∙ course.driver

-- a call that has ended
holds_of_call : (defs : Description) (regs : Registers) (ignore_unused : Bool) (credits : ℕ) (journal : List Entry) → IsValid (length regs) defs
    → Legal (opening defs regs ignore_unused credits) journal → (is : IsEnd (opening defs regs ignore_unused credits) journal)
    → HoldsOfCall (opening defs regs ignore_unused credits) journal is
holds_of_call defs regs ignore_unused credits journal valid legal is =
    let start : State = opening defs regs ignore_unused credits in
    let entry = entry_at start is.front is.rest is.last (subst (λ (j : List Entry). Legal start j) is.parts legal) in
    let own = ends_own start journal is entry in
    let q : State = replay start is.call.before in
    let s : State = replay start is.front in
    let t : State = behind_call is in
    let d : ℕ = is.call.first.driver in
    let over = runs_are_wired defs regs ignore_unused credits is.call.before valid in
    let wired : IsValid (length q.regs) q.defs = subst (λ (n : ℕ). IsValid n q.defs) (sym over.size) over.wired.valid in
    let step : next s d (event.Step is.made is.answer) ≡ Some (t, turn.Done is.given) =
    ap (λ (x : ℕ). next s x (event.Step is.made is.answer)) (sym own) ∙ ap (λ (v : Event). next s is.last.driver v) (sym is.step) ∙ entry.answers
    ∙ ap (λ (z : Turn). let y : State × Turn = (t, z) in Some y) is.ends in
    let gave : (r : Reply) → is.given ≡ r → next s d (event.Step is.made is.answer) ≡ Some (t, turn.Done r) =
    λ r e. subst (λ (x : Reply). next s d (event.Step is.made is.answer) ≡ Some (t, turn.Done x)) e step in record {
      own = own;
      outcome_ = λ well. runs_write_outcomes defs regs ignore_unused credits is.front t is.made is.answer valid is.call well.1 (gave reply.Fine well.0);
      asked = λ well. changes_are_asked defs regs ignore_unused credits is.call.before q s t d is.call.what (steps_made is) is.made is.answer valid well.1 refl is.call.flight (gave reply.Fine well.0);
      told = λ well. changes_are_told defs regs ignore_unused credits is.call.before q s t d is.call.what (steps_made is) is.made is.answer valid well.1 refl is.call.flight (gave reply.Fine well.0);
      vetoed = λ veto. vetoed_over q s t d is.call.what (steps_made is) is.made is.answer is.given is.call.flight veto step;
      raised = raised_end_as_prepared defs regs ignore_unused credits is.call.before s t d is.call.what (steps_made is) is.made is.answer is.given valid is.call.flight step;
      timed_out = λ late whole. timeouts_leave_nothing defs regs ignore_unused credits is.call.before s t d is.call.what (steps_made is) is.made is.answer valid whole is.call.flight
          (gave (reply.Refused errno.ETIMEDOUT) late);
      beside = λ leaves. elim leaves [
        | inl veto ↦
            let off = vetoed_over q s t d is.call.what (steps_made is) is.made is.answer is.given is.call.flight veto step in
            refused_beside start t is.front is.call d is.made is.answer errno.EBUSY wired entry.before (off_other q s d is.call.what (steps_made is) is.call.flight veto)
            (off_mild q t d is.call.what (steps_made is) is.given off) (gave (reply.Refused errno.EBUSY) off.refused)
        | inr late ↦
            let late_step = gave (reply.Refused errno.ETIMEDOUT) late.0 in
            let mild = late_mild q s t d is.call.what (steps_made is) is.made is.answer (run_of defs regs ignore_unused credits is.call.before valid) is.call.flight late_step late.1 in
            refused_beside start t is.front is.call d is.made is.answer errno.ETIMEDOUT wired entry.before mild.1 mild.0 late_step
      ];
    }

-- each legal journal from an opening with a valid description
pub keeps_laws : (defs : Description) (regs : Registers) (ignore_unused : Bool) (credits : ℕ) (journal : List Entry) → IsValid (length regs) defs
    → Legal (opening defs regs ignore_unused credits) journal → KeepsLaws (opening defs regs ignore_unused credits) journal
keeps_laws defs regs ignore_unused credits journal valid legal =
    let start : State = opening defs regs ignore_unused credits in record {
      fed = λ n. runs_are_fed defs regs ignore_unused credits (take n journal) valid;
      settled = λ n. quiet_runs_are_settled defs regs ignore_unused credits (take n journal) valid;
      known = λ n. quiet_or_in_flight start (take n journal) refl (front_legal n start journal legal);
      exclusive = λ held. rates_stay_exclusive defs regs ignore_unused credits held.front held.since held.number valid held.quiet held.holds held.lifts_none;
      calls = holds_of_call defs regs ignore_unused credits journal valid legal;
      causes = λ front rest last m answer r parts is turned.
          journals_have_causes start front last m answer r refl (entry_at start front rest last (subst (λ (j : List Entry). Legal start j) parts legal)).with_it is turned;
    }

-- the journal of a core
pub lawful : (m : Parts) (words : List ℕ) (log : Logged) → IsRun m words log → is_told m ≡ true → KeepsLaws (start_of m words) log.entries
lawful m words log run told =
    keeps_laws m.desc.defs words m.ignore_unused m.credits log.entries (subst (λ (defs : Description). IsValid (length words) defs) (run.stands told).defs (run.narrow told).valid) (run.legal told)
