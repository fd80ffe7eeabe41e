-- The calls that a framework makes, as whole calls of their driver.
use Rattle.std.proofs.Common.{◌≡◌, ℕ, ◌&&◌, not, true, false, List, [], ◌∷◌, ◌++◌, Option, Some, None, Result, Ok, Err, IfOk, OnErr, nat_eq, refl, sym, ap, ◌∙◌}
use Rattle.std.proofs.lemmas.Bool.{and_from}
use Rattle.clk_base.specs.declared.call.Sleeping.{Sleeping}
use Rattle.clk_base.specs.declared.event.Entry.{Entry}
use Rattle.clk_base.specs.declared.event.Event.{Event}
use Rattle.clk_base.specs.declared.event.Event.TheVariants as event
use Rattle.clk_base.specs.declared.event.Reply.{Reply}
use Rattle.clk_base.specs.declared.event.Turn.{Turn}
use Rattle.clk_base.specs.declared.event.Turn.TheVariants as turn
use Rattle.clk_model.specs.Journal.{Answered, is_paid, is_going, reply_at, end_reply, call_at, calls_of}
use Rattle.clk_model.specs.Tier.{is_step}
use Rattle.clk_model.proofs.Members.{test_same}
use Rattle.clk_framework.specs.Calls.{DriverView, entry_of, Answers, AreSteps, AreCall, MakesNone, Calls}
use Rattle.clk_framework.proofs.Growing.{front_of_front}
use Rattle.driver_runs.specs.Scripts.{are_calls}
use Rattle.driver_runs.proofs.WholeCalls.{step_done, step_going, step_no_call, call_at-done, paid_no_step}
use Rattle.driver_threads.specs.Going.{IsSame, AnswersCall}
use Rattle.driver_threads.proofs.Going.{answers_same, none_same}

-- ---- the steps of a call, up to its end

steps_whole : (d : ℕ) (t : Turn) (es : List Entry) (r : Reply) → AreSteps d t es (turn.Done r) → are_calls d (is_going t) es ≡ true
steps_whole d t [] r ends = ap (λ (u : Turn). not (is_going u)) ends
steps_whole d t (e ∷ es) r steps =
    ap (λ (u : Turn). are_calls d (is_going u) (e ∷ es)) steps.0
    ∙ and_from (nat_eq e.driver d && is_step e.event) (are_calls d (is_going e.turn) es)
    (and_from (nat_eq e.driver d) (is_step e.event) (ap (λ (n : ℕ). nat_eq n d) steps.1 ∙ test_same d) steps.2) (steps_whole d e.turn es r steps.3)

-- behind an end there is no step
last_done : (d : ℕ) (t : Turn) (es : List Entry) (r s : Reply) → AreSteps d t es (turn.Done r) → t ≡ turn.Done s → s ≡ r
last_done d t [] r s ends is = let same : turn.Done s ≡ turn.Done r = sym is ∙ ends in cc
last_done d t (e ∷ es) r s steps is = let no : turn.Going ≡ turn.Done s = sym steps.0 ∙ is in absurd cc

steps_end : (d : ℕ) (t : Turn) (es : List Entry) (r : Reply) → AreSteps d t es (turn.Done r) → t ≡ turn.Going → end_reply es ≡ Some r
steps_end d t [] r ends going = let no : turn.Going ≡ turn.Done r = sym going ∙ ends in absurd cc
steps_end d t (e ∷ es) r steps going = by e.turn refl (λ at. steps_end d e.turn es r steps.3 at) where
  by : (u : Turn) → e.turn ≡ u → (e.turn ≡ turn.Going → end_reply es ≡ Some r) → reply_at e.event e.turn (end_reply es) ≡ Some r
  by turn.Going at rest = ap (λ (u : Turn). reply_at e.event u (end_reply es)) at ∙ step_going e.event (end_reply es) steps.2 ∙ rest at
  by (turn.Done s) at rest =
      ap (λ (u : Turn). reply_at e.event u (end_reply es)) at ∙ step_done e.event s (end_reply es) steps.2
      ∙ ap (λ (q : Reply). Some q) (last_done d e.turn es r s steps.3 at)

steps_no_calls : (d : ℕ) (t last : Turn) (es : List Entry) → AreSteps d t es last → calls_of es ≡ []
steps_no_calls d t last [] ends = refl
steps_no_calls d t last (e ∷ es) steps =
    ap (λ (ls : List Answered). ls ++ calls_of es) (step_no_call e.event e.turn (end_reply es) steps.2) ∙ steps_no_calls d e.turn last es steps.3

-- ---- a call that may sleep

call_whole : (d : ℕ) (what : Sleeping) (es : List Entry) (r : Reply) → AreCall d what es (turn.Done r) → are_calls d false es ≡ true
call_whole d what [] r call = absurd call
call_whole d what (e ∷ es) r call =
    and_from (nat_eq e.driver d && not (is_step e.event)) (are_calls d (is_going e.turn) es)
    (and_from (nat_eq e.driver d) (not (is_step e.event)) (ap (λ (n : ℕ). nat_eq n d) call.0 ∙ test_same d) (ap (λ (v : Event). not (is_step v)) call.1))
    (steps_whole d e.turn es r call.2)

call_alone : (d : ℕ) (what : Sleeping) (es : List Entry) (r : Reply) → AreCall d what es (turn.Done r) → calls_of es ≡ record { call = event.Begin what; reply = r } ∷ []
call_alone d what [] r call = absurd call
call_alone d what (e ∷ es) r call =
    ap (λ (ls : List Answered). call_at e.event e.turn (end_reply es) ++ ls) (steps_no_calls d e.turn (turn.Done r) es call.2)
    ∙ ap (λ (v : Event). call_at v e.turn (end_reply es) ++ []) call.1
    ∙ ap (λ (ls : List Answered). ls ++ []) (by e.turn refl) where
      one : Reply → List Answered
      one q = record { call = event.Begin what; reply = q } ∷ []

      by : (u : Turn) → e.turn ≡ u → call_at (event.Begin what) e.turn (end_reply es) ≡ record { call = event.Begin what; reply = r } ∷ []
      by turn.Going at =
          ap (λ (u : Turn). call_at (event.Begin what) u (end_reply es)) at
          ∙ ap (λ (o : Option Reply). call_at (event.Begin what) turn.Going o) (steps_end d e.turn es r call.2 at)
      by (turn.Done s) at = ap (λ (u : Turn). call_at (event.Begin what) u (end_reply es)) at ∙ ap one (last_done d e.turn es r s call.2 at)

-- a call that the framework made whole
pub answers_sleeping : (old new : DriverView) (what : Sleeping) (r : Reply) → Calls old what r new → AnswersCall old (event.Begin what) r new
answers_sleeping old new what r calls =
    let makes = calls.makes in
    record {
      entries = makes.entries;
      driver = makes.driver;
      continues = front_of_front old.seen makes.before new.seen makes.continues record { rest = makes.section; whole = makes.seen };
      own = call_whole old.number what makes.entries r makes.call_;
      calls = call_alone old.number what makes.entries r makes.call_;
      alone = λ zero one.
          makes.run.alone (ap (λ (d : DriverView). d.number) makes.driver ∙ zero) (ap (λ (d : DriverView). d.made) makes.driver ∙ one);
    }

-- whether it made it or not, it is the same driver
pub call_same : {E : Type 0} (old new : DriverView) (what : Sleeping) (made : Result Reply E) → IfOk made (λ reply. Calls old what reply new) → OnErr made (MakesNone old new) → IsSame old new
call_same old new what (Ok reply) calls none = answers_same old new (event.Begin what) reply (answers_sleeping old new what reply calls)
call_same old new what (Err fault) calls none = none_same old new none

-- ---- a call that is answered in one turn

pub answers_at_once : (old new : DriverView) (e : Event) (r : Reply) → is_paid e ≡ true → Answers old e (turn.Done r) new → AnswersCall old e r new
answers_at_once old new e r paid answers =
    let entry = entry_of old.number e (turn.Done r) in
    let no_step : not (is_step e) ≡ true = sym (paid_no_step e) ∙ paid in
    record {
      entries = entry ∷ [];
      driver = answers.driver;
      continues = front_of_front old.seen answers.before new.seen answers.continues record { rest = entry ∷ []; whole = answers.seen };
      own = and_from (nat_eq old.number old.number && not (is_step e)) true (and_from (nat_eq old.number old.number) (not (is_step e)) (test_same old.number) no_step) refl;
      calls = ap (λ (ls : List Answered). ls ++ []) (call_at-done e r None no_step);
      alone = λ zero one.
          answers.run.alone (ap (λ (d : DriverView). d.number) answers.driver ∙ zero) (ap (λ (d : DriverView). d.made) answers.driver ∙ one);
    }
