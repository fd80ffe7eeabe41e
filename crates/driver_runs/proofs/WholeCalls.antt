-- Whole calls of a driver: their entries, and how they come about by steps.
use Rattle.std.proofs.Common.{◌≡◌, ℕ, ◌+◌, ◌&&◌, not, Bool, true, false, cond, List, [], ◌∷◌, ◌++◌, Option, Some, None, refl, sym, ap, subst, ◌∙◌, arith, nat_eq, append_assoc}
use Rattle.std.specs.Prelude.{if◌then◌else◌}
use Rattle.std.proofs.lemmas.Bool.Decides.{nat_tests}
use Rattle.std.specs.List.{list_all}
use Rattle.std.proofs.lemmas.List.{append-nil}
use Rattle.std.proofs.lemmas.List.Sums.{sum_by-append}
use Rattle.std.proofs.lemmas.Bool.{and_from}
use Rattle.clk_base.specs.declared.call.Sleeping.{Sleeping}
use Rattle.clk_base.specs.declared.event.Entry.{Entry}
use Rattle.clk_base.specs.declared.event.Event.{Event}
use Rattle.clk_base.specs.declared.event.Event.TheVariants as event
use Rattle.clk_base.specs.declared.event.Reply.{Reply}
use Rattle.clk_base.specs.declared.event.Turn.{Turn}
use Rattle.clk_base.specs.declared.event.Turn.TheVariants as turn
use Rattle.clk_model.specs.Tier.{is_step, is_enable_tier}
use Rattle.clk_model.specs.Journal.{Answered, is_paid, is_going, reply_at, end_reply, call_at, calls_of, cost}
use Rattle.clk_model.proofs.Members.{both_left, both_right, test_same}
use Rattle.clk_machine.specs.Run.{Run, going_after, in_flight, driver_in_flight, Appends, StepsOn}
use Rattle.clk_machine.proofs.Entering.{going_append, driver_append}
use Rattle.driver_runs.specs.Scripts.{are_calls, Answers}
use Rattle.driver_runs.specs.Steps.{goes_on, MakesSteps, Finishes}

-- ---- entries

-- what is known of the first of these entries, and of those behind it
pub record IsNext (d : ℕ) (going : Bool) (e : Entry) (es : List Entry) : Type 0 where
  pub driver : e.driver ≡ d
  pub test : nat_eq e.driver d ≡ true
  pub kind : (if going then is_step e.event else not (is_step e.event)) ≡ true
  pub behind : are_calls d (is_going e.turn) es ≡ true

pub next_of : (d : ℕ) (going : Bool) (e : Entry) (es : List Entry) → are_calls d going (e ∷ es) ≡ true → IsNext d going e es
next_of d going e es h =
    let front = both_left (nat_eq e.driver d && (if going then is_step e.event else not (is_step e.event))) (are_calls d (is_going e.turn) es) h in
    let same = both_left (nat_eq e.driver d) (if going then is_step e.event else not (is_step e.event)) front in
    record {
      driver = grind (arith, nat_tests);
      test = same;
      kind = both_right (nat_eq e.driver d) (if going then is_step e.event else not (is_step e.event)) front;
      behind = both_right (nat_eq e.driver d && (if going then is_step e.event else not (is_step e.event))) (are_calls d (is_going e.turn) es) h;
    }

-- a step ends the call in flight with its reply, or leaves the one that is found behind it
pub step_done : (e : Event) (r : Reply) (behind : Option Reply) → is_step e ≡ true → reply_at e (turn.Done r) behind ≡ Some r
step_done (event.Step m answer) r behind h = refl
step_done (event.Enable n) r behind h = absurd cc
step_done (event.Disable n) r behind h = absurd cc
step_done (event.Running n) r behind h = absurd cc
step_done (event.Begin what) r behind h = absurd cc

pub step_going : (e : Event) (behind : Option Reply) → is_step e ≡ true → reply_at e turn.Going behind ≡ behind
step_going (event.Step m answer) behind h = refl
step_going (event.Enable n) behind h = absurd cc
step_going (event.Disable n) behind h = absurd cc
step_going (event.Running n) behind h = absurd cc
step_going (event.Begin what) behind h = absurd cc

-- a step begins no call
pub step_no_call : (e : Event) (t : Turn) (end : Option Reply) → is_step e ≡ true → call_at e t end ≡ []
step_no_call (event.Step m answer) t end h = refl
step_no_call (event.Enable n) t end h = absurd cc
step_no_call (event.Disable n) t end h = absurd cc
step_no_call (event.Running n) t end h = absurd cc
step_no_call (event.Begin what) t end h = absurd cc

-- what is no step is a call with its reply
pub call_at-done : (e : Event) (r : Reply) (end : Option Reply) → not (is_step e) ≡ true → call_at e (turn.Done r) end ≡ (record { call = e; reply = r }) ∷ []
call_at-done (event.Enable n) r end h = refl
call_at-done (event.Disable n) r end h = refl
call_at-done (event.Running n) r end h = refl
call_at-done (event.Begin what) r end h = refl
call_at-done (event.Step m answer) r end h = absurd cc

pub call_at-going : (e : Event) (r : Reply) (end : Option Reply) → end ≡ Some r → not (is_step e) ≡ true → call_at e turn.Going end ≡ (record { call = e; reply = r }) ∷ []
call_at-going e r end is h = ap (call_at e turn.Going) is ∙ by e h where
  by : (e : Event) → not (is_step e) ≡ true → call_at e turn.Going (Some r) ≡ (record { call = e; reply = r }) ∷ []
  by (event.Enable n) h = refl
  by (event.Disable n) h = refl
  by (event.Running n) h = refl
  by (event.Begin what) h = refl
  by (event.Step m answer) h = absurd cc

pub paid_no_step : (e : Event) → is_paid e ≡ not (is_step e)
paid_no_step (event.Enable n) = refl
paid_no_step (event.Disable n) = refl
paid_no_step (event.Running n) = refl
paid_no_step (event.Begin what) = refl
paid_no_step (event.Step m answer) = refl

-- the call in flight ends among its entries
pub record Ends (es : List Entry) : Type 0 where
  pub reply : Reply
  pub is : end_reply es ≡ Some reply

pub ends_inside : (d : ℕ) (es : List Entry) → are_calls d true es ≡ true → Ends es
ends_inside d [] h = absurd cc
ends_inside d (e ∷ es) h = by e.turn refl (λ more. ends_inside d es more) where
  is : IsNext d true e es
  is = next_of d true e es h

  by : (t : Turn) → e.turn ≡ t → (are_calls d true es ≡ true → Ends es) → Ends (e ∷ es)
  by turn.Going at rest =
      let later = rest (ap (λ (t : Turn). are_calls d (is_going t) es) (sym at) ∙ is.behind) in
      record { reply = later.reply; is = ap (λ (t : Turn). reply_at e.event t (end_reply es)) at ∙ step_going e.event (end_reply es) is.kind ∙ later.is }
  by (turn.Done r) at rest = record { reply = r; is = ap (λ (t : Turn). reply_at e.event t (end_reply es)) at ∙ step_done e.event r (end_reply es) is.kind }

-- whatever comes behind them
pub ends_alike : (d : ℕ) (es later : List Entry) → are_calls d true es ≡ true → end_reply (es ++ later) ≡ end_reply es
ends_alike d [] later h = absurd cc
ends_alike d (e ∷ es) later h = by e.turn refl (λ more. ends_alike d es later more) where
  is : IsNext d true e es
  is = next_of d true e es h

  by : (t : Turn) → e.turn ≡ t → (are_calls d true es ≡ true → end_reply (es ++ later) ≡ end_reply es)
      → reply_at e.event e.turn (end_reply (es ++ later)) ≡ reply_at e.event e.turn (end_reply es)
  by turn.Going at rest =
      ap (λ (o : Option Reply). reply_at e.event e.turn o) (rest (ap (λ (t : Turn). are_calls d (is_going t) es) (sym at) ∙ is.behind))
  by (turn.Done r) at rest =
      ap (λ (t : Turn). reply_at e.event t (end_reply (es ++ later))) at ∙ step_done e.event r (end_reply (es ++ later)) is.kind
      ∙ sym (ap (λ (t : Turn). reply_at e.event t (end_reply es)) at ∙ step_done e.event r (end_reply es) is.kind)

-- what comes behind it doesn't matter to an entry of whole calls
call_alike : (d : ℕ) (going : Bool) (e : Entry) (es later : List Entry) → IsNext d going e es → call_at e.event e.turn (end_reply (es ++ later)) ≡ call_at e.event e.turn (end_reply es)
call_alike d true e es later is = step_no_call e.event e.turn (end_reply (es ++ later)) is.kind ∙ sym (step_no_call e.event e.turn (end_reply es) is.kind)
call_alike d false e es later is = by e.turn refl where
  by : (t : Turn) → e.turn ≡ t → call_at e.event e.turn (end_reply (es ++ later)) ≡ call_at e.event e.turn (end_reply es)
  by turn.Going at = ap (λ (o : Option Reply). call_at e.event e.turn o) (ends_alike d es later (ap (λ (t : Turn). are_calls d (is_going t) es) (sym at) ∙ is.behind))
  by (turn.Done r) at =
      ap (λ (t : Turn). call_at e.event t (end_reply (es ++ later))) at ∙ call_at-done e.event r (end_reply (es ++ later)) is.kind
      ∙ sym (ap (λ (t : Turn). call_at e.event t (end_reply es)) at ∙ call_at-done e.event r (end_reply es) is.kind)

pub calls_of-append : (d : ℕ) (going : Bool) (xs ys : List Entry) → are_calls d going xs ≡ true → calls_of (xs ++ ys) ≡ calls_of xs ++ calls_of ys
calls_of-append d going [] ys own = refl
calls_of-append d going (x ∷ xs) ys own =
    let is = next_of d going x xs own in
    ap (λ (ls : List Answered). call_at x.event x.turn (end_reply (xs ++ ys)) ++ ls) (calls_of-append d (is_going x.turn) xs ys is.behind)
    ∙ ap (λ (ls : List Answered). ls ++ (calls_of xs ++ calls_of ys)) (call_alike d going x xs ys is)
    ∙ sym (append_assoc (call_at x.event x.turn (end_reply xs)) (calls_of xs) (calls_of ys))

-- calls behind calls
pub are_calls-append : (d : ℕ) (going : Bool) (xs ys : List Entry) → are_calls d going xs ≡ true → are_calls d false ys ≡ true → are_calls d going (xs ++ ys) ≡ true
are_calls-append d true [] ys h k = absurd cc
are_calls-append d false [] ys h k = k
are_calls-append d going (x ∷ xs) ys h k =
    and_from (nat_eq x.driver d && (if going then is_step x.event else not (is_step x.event))) (are_calls d (is_going x.turn) (xs ++ ys)) (both_left _ (are_calls d (is_going x.turn) xs) h)
    (are_calls-append d (is_going x.turn) xs ys (both_right _ (are_calls d (is_going x.turn) xs) h) k)

-- behind whole calls none is in flight
pub idle_behind : (d : ℕ) (going g : Bool) (es : List Entry) → (going ≡ false → g ≡ false) → are_calls d going es ≡ true → going_after g es ≡ false
idle_behind d true g [] less h = absurd cc
idle_behind d false g [] less h = less refl
idle_behind d going g (e ∷ es) less h = idle_behind d (is_going e.turn) (if is_enable_tier e.event then g else is_going e.turn) es (later going e.event less is.kind) is.behind where
  is : IsNext d going e es
  is = next_of d going e es h

  later : (going : Bool) (v : Event) → (going ≡ false → g ≡ false) → (if going then is_step v else not (is_step v)) ≡ true → is_going e.turn ≡ false
      → (if is_enable_tier v then g else is_going e.turn) ≡ false
  later false (event.Enable n) low kind done = low refl
  later false (event.Disable n) low kind done = low refl
  later false (event.Running n) low kind done = low refl
  later going (event.Begin what) low kind done = done
  later going (event.Step m answer) low kind done = done
  later true (event.Enable n) low kind done = absurd cc
  later true (event.Disable n) low kind done = absurd cc
  later true (event.Running n) low kind done = absurd cc

going_after-append : (g : Bool) (xs ys : List Entry) → going_after g (xs ++ ys) ≡ going_after (going_after g xs) ys
going_after-append g [] ys = refl
going_after-append g (x ∷ xs) ys = going_after-append (if is_enable_tier x.event then g else is_going x.turn) xs ys

-- a core stays idle between whole calls
pub stays_idle : (old new : Run) (d : ℕ) (entries : List Entry) → new.journal ≡ old.journal ++ entries → are_calls d false entries ≡ true → in_flight old.journal ≡ false
    → in_flight new.journal ≡ false
stays_idle old new d entries is own idle =
    ap in_flight is ∙ going_after-append false old.journal entries ∙ ap (λ (g : Bool). going_after g entries) idle ∙ idle_behind d false false entries (λ e. e) own

-- ---- a call that is answered at once

pub answers_at_once : (old new : Run) (d : ℕ) (e : Event) (r : Reply) → Appends old d e (turn.Done r) new → is_paid e ≡ true → Answers old d e r new
answers_at_once old new d e r appends paid =
    let entry : Entry = record { driver = d; event = e; turn = turn.Done r } in
    let no_step : not (is_step e) ≡ true = sym (paid_no_step e) ∙ paid in
    record {
      entries = entry ∷ [];
      start = appends.start;
      told = appends.told;
      behind = appends.behind;
      journal = appends.entry;
      own = and_from (nat_eq d d && not (is_step e)) true (and_from (nat_eq d d) (not (is_step e)) (test_same d) no_step) refl;
      paid = ap (λ (b : Bool). 0 + cond b 1 0) paid;
      calls = ap (λ (ls : List Answered). ls ++ []) (call_at-done e r None no_step);
      legal = λ told was. appends.legal told;
    }

-- ---- steps

-- steps behind which a call goes on, and then its end
pub steps_end : (d : ℕ) (xs : List Entry) (e : Entry) (r : Reply) → list_all (goes_on d) xs ≡ true → e.driver ≡ d → is_step e.event ≡ true → e.turn ≡ turn.Done r
    → (are_calls d true (xs ++ e ∷ []) ≡ true) × (end_reply (xs ++ e ∷ []) ≡ Some r) × (calls_of (xs ++ e ∷ []) ≡ []) × (cost (xs ++ e ∷ []) ≡ 0)
steps_end d [] e r all own step done = (
  and_from (nat_eq e.driver d && is_step e.event) (are_calls d (is_going e.turn) []) (and_from (nat_eq e.driver d) (is_step e.event) (ap (λ (n : ℕ). nat_eq n d) own ∙ test_same d) step)
      (ap (λ (t : Turn). not (is_going t)) done),
  ap (λ (t : Turn). reply_at e.event t None) done ∙ step_done e.event r None step,
  ap (λ (ls : List Answered). ls ++ []) (step_no_call e.event e.turn None step),
  ap (λ (b : Bool). 0 + cond b 1 0) (paid_no_step e.event ∙ ap not step),
)
steps_end d (x ∷ xs) e r all own step done =
    let mine = both_left (goes_on d x) (list_all (goes_on d) xs) all in
    let front = both_left (nat_eq x.driver d && is_step x.event) (is_going x.turn) mine in
    let goes = both_right (nat_eq x.driver d && is_step x.event) (is_going x.turn) mine in
    let steps = both_right (nat_eq x.driver d) (is_step x.event) front in
    let later = steps_end d xs e r (both_right (goes_on d x) (list_all (goes_on d) xs) all) own step done in
    let going : x.turn ≡ turn.Going = is_turn x.turn goes in (
      and_from (nat_eq x.driver d && is_step x.event) (are_calls d (is_going x.turn) (xs ++ e ∷ [])) front (ap (λ (b : Bool). are_calls d b (xs ++ e ∷ [])) goes ∙ later.0),
      ap (λ (t : Turn). reply_at x.event t (end_reply (xs ++ e ∷ []))) going ∙ step_going x.event (end_reply (xs ++ e ∷ [])) steps ∙ later.1,
      ap (λ (ls : List Answered). ls ++ calls_of (xs ++ e ∷ [])) (step_no_call x.event x.turn (end_reply (xs ++ e ∷ [])) steps) ∙ later.2,
      sum_by-append (λ f. cond (is_paid f.event) 1 0) (x ∷ []) (xs ++ e ∷ [])
          ∙ ap (λ (b : Bool). (0 + cond b 1 0) + cost (xs ++ e ∷ [])) (paid_no_step x.event ∙ ap not steps) ∙ none_more (cost (xs ++ e ∷ [])) ∙ later.3,
    ) where
      none_more : (n : ℕ) → 0 + 0 + n ≡ n
      none_more n = omega arith

      is_turn : (t : Turn) → is_going t ≡ true → t ≡ turn.Going
      is_turn turn.Going h = refl
      is_turn (turn.Done r) h = absurd cc

-- no step is made yet
pub makes_none : (old : Run) → in_flight old.journal ≡ true → MakesSteps old (driver_in_flight old.journal) old
makes_none old flies = record {
  entries = [];
  start = refl;
  told = refl;
  behind = refl;
  journal = sym (append-nil old.journal);
  own = refl;
  legal = λ told was. was;
  flies = flies;
  whose = refl;
}

-- a step more
pub makes_more : (old mid new : Run) (d : ℕ) → MakesSteps old d mid → StepsOn mid turn.Going new → MakesSteps old d new
makes_more old mid new d makes on =
    let entry : Entry = record { driver = driver_in_flight mid.journal; event = event.Step on.made on.answer; turn = turn.Going } in
    record {
      entries = makes.entries ++ entry ∷ [];
      start = on.entry.start ∙ makes.start;
      told = on.entry.told ∙ makes.told;
      behind = on.entry.behind ∙ makes.behind;
      journal = on.entry.entry ∙ ap (λ (j : List Entry). j ++ entry ∷ []) makes.journal ∙ append_assoc old.journal makes.entries (entry ∷ []);
      own = all_more (goes_on d) entry makes.entries makes.own (and_from (nat_eq (driver_in_flight mid.journal) d && true) true (and_from (nat_eq (driver_in_flight mid.journal) d) true (ap (λ (n : ℕ). nat_eq n d) makes.whose ∙ test_same d) refl) refl);
      legal = λ told was. on.entry.legal (makes.told ∙ told);
      flies = ap in_flight on.entry.entry ∙ going_append false mid.journal entry;
      whose = ap driver_in_flight on.entry.entry ∙ driver_append 0 mid.journal entry ∙ makes.whose;
    } where
      all_more : (p : Entry → Bool) (e : Entry) (xs : List Entry) → list_all p xs ≡ true → p e ≡ true → list_all p (xs ++ e ∷ []) ≡ true
      all_more p e [] all this = and_from (p e) true this refl
      all_more p e (x ∷ xs) all this = and_from (p x) (list_all p (xs ++ e ∷ [])) (both_left (p x) (list_all p xs) all) (all_more p e xs (both_right (p x) (list_all p xs) all) this)

-- the last step
pub finishes : (old mid new : Run) (d : ℕ) (r : Reply) → MakesSteps old d mid → StepsOn mid (turn.Done r) new → Finishes old d r new
finishes old mid new d r makes on =
    let entry : Entry = record { driver = driver_in_flight mid.journal; event = event.Step on.made on.answer; turn = turn.Done r } in
    let parts = steps_end d makes.entries entry r makes.own makes.whose refl refl in
    record {
      entries = makes.entries ++ entry ∷ [];
      start = on.entry.start ∙ makes.start;
      told = on.entry.told ∙ makes.told;
      behind = on.entry.behind ∙ makes.behind;
      journal = on.entry.entry ∙ ap (λ (j : List Entry). j ++ entry ∷ []) makes.journal ∙ append_assoc old.journal makes.entries (entry ∷ []);
      own = parts.0;
      ends = parts.1;
      calls = parts.2;
      free = parts.3;
      legal = λ told was. on.entry.legal (makes.told ∙ told);
    }

-- ---- a call that goes on

-- behind its beginning it is in flight, and its driver's
pub begun_flies : (old mid : Run) (d : ℕ) (what : Sleeping) → Appends old d (event.Begin what) turn.Going mid → (in_flight mid.journal ≡ true) × (driver_in_flight mid.journal ≡ d)
begun_flies old mid d what appends =
    let entry : Entry = record { driver = d; event = event.Begin what; turn = turn.Going } in
    (ap in_flight appends.entry ∙ going_append false old.journal entry, ap driver_in_flight appends.entry ∙ driver_append 0 old.journal entry)

pub answers_by_steps : (old mid new : Run) (d n : ℕ) (what : Sleeping) (r : Reply) → Appends old d (event.Begin what) turn.Going mid → n ≡ d → Finishes mid n r new → Answers old d (event.Begin what) r new
answers_by_steps old mid new d n what r appends same ends =
    let entry : Entry = record { driver = d; event = event.Begin what; turn = turn.Going } in
    record {
      entries = entry ∷ ends.entries;
      start = ends.start ∙ appends.start;
      told = ends.told ∙ appends.told;
      behind = ends.behind ∙ appends.behind;
      journal = ends.journal ∙ ap (λ (j : List Entry). j ++ ends.entries) appends.entry ∙ append_assoc old.journal (entry ∷ []) ends.entries;
      own = and_from (nat_eq d d && true) (are_calls d true ends.entries) (and_from (nat_eq d d) true (test_same d) refl) (subst (λ (k : ℕ). are_calls k true ends.entries ≡ true) same ends.own);
      paid = sum_by-append (λ f. cond (is_paid f.event) 1 0) (entry ∷ []) ends.entries ∙ ap (λ (k : ℕ). 1 + k) ends.free;
      calls =
          ap (λ (ls : List Answered). call_at (event.Begin what) turn.Going (end_reply ends.entries) ++ ls) ends.calls
          ∙ ap (λ (ls : List Answered). ls ++ []) (call_at-going (event.Begin what) r (end_reply ends.entries) ends.ends refl);
      legal = λ told was. ends.legal (appends.told ∙ told) (appends.legal told);
    }
