-- Each call that begins in a legal journal is among its driver's calls, if none is in flight at the end.
use Rattle.std.proofs.Common.{◌≡◌, ℕ, ◌+◌, ◌<◌, Bool, true, false, cond, List, [], ◌∷◌, ◌++◌, Option, Some, None, refl, sym, ap, subst, ◌∙◌, nat_lt, arith}
use Rattle.std.specs.Prelude.{◌==◌}
use Rattle.std.specs.List.{AllByRecursion}
use Rattle.std.specs.Option.{option_map_or}
use Rattle.std.proofs.lemmas.Bool.Decides.{nat_tests}
use Rattle.clk_base.specs.declared.call.Micro.{Micro}
use Rattle.clk_base.specs.declared.call.Sleeping.{Sleeping}
use Rattle.clk_base.specs.declared.event.Entry.{Entry}
use Rattle.clk_base.specs.declared.event.Event.{Event}
use Rattle.clk_base.specs.declared.event.Event.TheVariants as event
use Rattle.clk_base.specs.declared.event.Reply.{Reply}
use Rattle.clk_base.specs.declared.event.Turn.{Turn}
use Rattle.clk_base.specs.declared.event.Turn.TheVariants as turn
use Rattle.clk_base.specs.Description.{Description}
use Rattle.clk_model.specs.State.{State, Change}
use Rattle.clk_model.specs.Gates.{settled}
use Rattle.clk_model.specs.Step.{taken, stepped}
use Rattle.clk_model.specs.Machine.{next}
use Rattle.clk_model.specs.Journal.{slotless, replay, Legal, own, Answered, reply_at, end_reply, call_at, calls_of, calls}
use Rattle.clk_model.specs.Tier.{is_enable_tier}
use Rattle.clk_model.proofs.Members.{both_left, both_right}
use Rattle.clk_model.proofs.BeginLaws.{begun_going}
use Rattle.clk_model.proofs.FlightLaws.{IsStep, begin_is}
use Rattle.clk_model.proofs.InFlightLaws.{busy_cannot_begin}
use Rattle.clk_model.proofs.StepLaws.{step_after}
use Rattle.clk_model.proofs.TierLaws.{beside_change}
use Rattle.clk_model.proofs.VetoLaws.{of_change}
use Rattle.clk_journal.specs.Sized.{clocks_begun, AreThere, CallsNameClocks}
use Rattle.driver_runs.specs.Drivers.{are_among}

-- ---- the end of a call in flight

-- the state after the first of legal entries
first_leaves : (s t : State) (e : Entry) (es : List Entry) (x : Turn) → next s e.driver e.event ≡ Some (t, x) → (replay s (e ∷ es)).change ≡ None → (replay t es).change ≡ None
first_leaves s t e es x step quiet =
    ap (λ (u : State). (replay u es).change) (sym (ap (λ (o : Option (State × Turn)). option_map_or (λ (y : State × Turn). y.0) o s) step)) ∙ quiet

-- an entry that ends no call leaves the reply that comes
passed : (e : Entry) (es : List Entry) (d : ℕ) (r : Reply) → reply_at e.event e.turn (end_reply (own es d)) ≡ end_reply (own es d) → end_reply (own es d) ≡ Some r → end_reply (own (e ∷ es) d) ≡ Some r
passed e es d r same later = by (e.driver == d) where
  by : (b : Bool) → end_reply (cond b (e ∷ own es d) (own es d)) ≡ Some r
  by true = same ∙ later
  by false = later

-- an entry of the driver comes first
own_first : (e : Entry) (es : List Entry) (d : ℕ) → e.driver ≡ d → own (e ∷ es) d ≡ e ∷ own es d
own_first e es d is = let mine : (e.driver == d) ≡ true = grind (arith, nat_tests, is) in ap (λ (b : Bool). cond b (e ∷ own es d) (own es d)) mine

-- what a step that goes on leaves in flight
step_change : (s u t : State) (n : ℕ) → record (settled s u) { steps = n } ≡ t → t.change ≡ u.change
unfolding settled
step_change s u t n same = sym (ap (λ (v : State). v.change) same)

-- a change in flight comes to its end, if none is in flight at the end
record Ends (es : List Entry) (d : ℕ) : Type 0 where
  reply : Reply
  is : end_reply (own es d) ≡ Some reply

passed_on : (e : Entry) (es : List Entry) (d : ℕ) → reply_at e.event e.turn (end_reply (own es d)) ≡ end_reply (own es d) → Ends es d → Ends (e ∷ es) d
passed_on e es d same ends = record { reply = ends.reply; is = passed e es d ends.reply same ends.is }

ended : (s : State) (k : Change) (journal : List Entry) → s.change ≡ Some k → Legal s journal → (replay s journal).change ≡ None → Ends journal k.driver
ended s k [] at legal quiet = absurd (busy_cannot_begin s.change k at quiet)
ended s k (e ∷ es) at legal quiet = by e.event e.turn refl refl (λ t l at' rest quiet'. ended t l es at' rest quiet') where
  t : State
  t = legal.0

  still : (replay t es).change ≡ None
  still = first_leaves s t e es (slotless e.turn) legal.1 quiet

  Later : Type 0
  Later = (u : State) (l : Change) → u.change ≡ Some l → Legal u es → (replay u es).change ≡ None → Ends es l.driver

  beside : is_enable_tier e.event ≡ true → reply_at e.event e.turn (end_reply (own es k.driver)) ≡ end_reply (own es k.driver) → Later → Ends (e ∷ es) k.driver
  beside tier same later = passed_on e es k.driver same (later t k (beside_change s t e.driver e.event (slotless e.turn) tier legal.1 ∙ at) legal.2 still)

  stepped_on : (m : Micro) (answer : Option Bool) → e.event ≡ event.Step m answer → e.turn ≡ turn.Going → Later → Ends (e ∷ es) k.driver
  stepped_on m answer is going later =
      let step : next s e.driver (event.Step m answer) ≡ Some (t, turn.Going) = subst (λ (v : Event). next s e.driver v ≡ Some (t, turn.Going)) is (legal.1 ∙ ap (λ (x : Turn). Some (t, slotless x)) going) in
      let made : IsStep s t e.driver m answer turn.Going k = of_change s t e.driver m answer turn.Going k at step in
      let after = step_after s (taken k) answer m made.answered in
      let l : Change = after.0 in
      let there : t.change ≡ Some l = step_change s (stepped s (taken k) answer m).0 t (s.steps + 1) made.state ∙ after.1 in
      passed_on e es k.driver (ap (λ (v : Event). reply_at v e.turn (end_reply (own es k.driver))) is ∙ ap (λ (x : Turn). reply_at (event.Step m answer) x (end_reply (own es k.driver))) going)
      (subst (Ends es) after.2.driver (later t l there legal.2 still))

  stepped_off : (m : Micro) (answer : Option Bool) (r : Reply) → e.event ≡ event.Step m answer → e.turn ≡ turn.Done r → Ends (e ∷ es) k.driver
  stepped_off m answer r is done =
      let step : next s e.driver (event.Step m answer) ≡ Some (t, slotless e.turn) = subst (λ (v : Event). next s e.driver v ≡ Some (t, slotless e.turn)) is legal.1 in
      let made : IsStep s t e.driver m answer (slotless e.turn) k = of_change s t e.driver m answer (slotless e.turn) k at step in
      record {
        reply = r;
        is = ap end_reply (own_first e es k.driver (sym made.driver)) ∙ ap (λ (v : Event). reply_at v e.turn (end_reply (own es k.driver))) is
            ∙ ap (λ (x : Turn). reply_at (event.Step m answer) x (end_reply (own es k.driver))) done;
      }

  by : (v : Event) (x : Turn) → e.event ≡ v → e.turn ≡ x → Later → Ends (e ∷ es) k.driver
  by (event.Enable number) x is turns later = beside (ap is_enable_tier is) (ap (λ (v : Event). reply_at v e.turn (end_reply (own es k.driver))) is) later
  by (event.Disable number) x is turns later = beside (ap is_enable_tier is) (ap (λ (v : Event). reply_at v e.turn (end_reply (own es k.driver))) is) later
  by (event.Running number) x is turns later = beside (ap is_enable_tier is) (ap (λ (v : Event). reply_at v e.turn (end_reply (own es k.driver))) is) later
  by (event.Begin what) x is turns later =
      absurd (busy_cannot_begin s.change k at (begin_is s t e.driver what (slotless e.turn) (subst (λ (v : Event). next s e.driver v ≡ Some (t, slotless e.turn)) is legal.1)).0)
  by (event.Step m answer) turn.Going is turns later = stepped_on m answer is turns later
  by (event.Step m answer) (turn.Done r) is turns later = stepped_off m answer r is turns

-- ---- calls

-- the calls of a driver name clocks of the description
abbrev pub ArePlacedCalls : Description → List Answered → Type 0
ArePlacedCalls defs ls = AllByRecursion (λ (l : Answered). AreThere defs (clocks_begun l.call)) ls

rest_all : (defs : Description) (xs ys : List Answered) → ArePlacedCalls defs (xs ++ ys) → ArePlacedCalls defs ys
rest_all defs [] ys all = all
rest_all defs (x ∷ xs) ys all = rest_all defs xs ys all.1

-- the calls of later entries
later_calls : (defs : Description) (e : Entry) (es : List Entry) (d : ℕ) → ArePlacedCalls defs (calls (e ∷ es) d) → ArePlacedCalls defs (calls es d)
later_calls defs e es d all = by (e.driver == d) all where
  by : (b : Bool) → ArePlacedCalls defs (calls_of (cond b (e ∷ own es d) (own es d))) → ArePlacedCalls defs (calls es d)
  by true h = rest_all defs (call_at e.event e.turn (end_reply (own es d))) (calls es d) h
  by false h = h

-- the call of the first entry
first_call : (defs : Description) (e : Entry) (es : List Entry) → ArePlacedCalls defs (calls (e ∷ es) e.driver) → ArePlacedCalls defs (call_at e.event e.turn (end_reply (own es e.driver)) ++ calls es e.driver)
first_call defs e es all = subst (λ (ds : List Entry). ArePlacedCalls defs (calls_of ds)) (own_first e es e.driver refl) all

-- a call that goes on leaves a change of its driver in flight
goes_on : (s t : State) (d : ℕ) (what : Sleeping) → next s d (event.Begin what) ≡ Some (t, turn.Going) → (k : Change) × (t.change ≡ Some k) × (k.driver ≡ d)
unfolding settled
goes_on s t d what step =
    let start = begin_is s t d what turn.Going step in
    let going = (begun_going s d what).from start.2 in
    (going.1, sym (ap (λ (u : State). u.change) start.1) ∙ ap (λ (u : State). u.change) going.2, going.3.driver)

-- what a call names that begins is what it names among the calls
call_names : (defs : Description) (v : Event) (x : Turn) (end_ : Option Reply) (more : List Answered) → ((what : Sleeping) → v ≡ event.Begin what → x ≡ turn.Going → (r : Reply) × (end_ ≡ Some r))
    → ArePlacedCalls defs (call_at v x end_ ++ more) → AreThere defs (clocks_begun v)
call_names defs (event.Begin what) (turn.Done r) end_ more ends all = all.0
call_names defs (event.Begin what) turn.Going (Some r) more ends all = all.0
call_names defs (event.Begin what) turn.Going None more ends all = let found = ends what refl refl in absurd (let no : None ≡ Some found.0 = found.1 in cc)
call_names defs v x end_ more ends all = tt

first_names : (defs : Description) (s : State) (e : Entry) (es : List Entry) → Legal s (e ∷ es) → (replay s (e ∷ es)).change ≡ None → ArePlacedCalls defs (calls (e ∷ es) e.driver)
    → AreThere defs (clocks_begun e.event)
first_names defs s e es legal quiet all =
    call_names defs e.event e.turn (end_reply (own es e.driver)) (calls es e.driver) (λ what is going.
    let t : State = legal.0 in
    let step : next s e.driver (event.Begin what) ≡ Some (t, turn.Going) = subst (λ (v : Event). next s e.driver v ≡ Some (t, turn.Going)) is (legal.1 ∙ ap (λ (x : Turn). Some (t, slotless x)) going) in
    let flight = goes_on s t e.driver what step in
    let ends : Ends es e.driver = subst (Ends es) flight.2 (ended t flight.0 es flight.1 legal.2 (first_leaves s t e es (slotless e.turn) legal.1 quiet)) in
    (ends.reply, ends.is)) (first_call defs e es all)

-- so each call of a legal journal at whose end none is in flight names clocks of the description, if those of its drivers do
pub begun_placed : (defs : Description) (drivers : ℕ) (s : State) (journal : List Entry) → Legal s journal → (replay s journal).change ≡ None → are_among drivers journal ≡ true
    → ((d : ℕ) → d < drivers → ArePlacedCalls defs (calls journal d)) → CallsNameClocks defs journal
begun_placed defs drivers s [] legal quiet among each = tt
begun_placed defs drivers s (e ∷ es) legal quiet among each =
    let low : nat_lt e.driver drivers ≡ true = both_left (nat_lt e.driver drivers) (are_among drivers es) among in (
      first_names defs s e es legal quiet (each e.driver (grind (arith, nat_tests, low))),
      begun_placed defs drivers legal.0 es legal.2 (first_leaves s legal.0 e es (slotless e.turn) legal.1 quiet) (both_right (nat_lt e.driver drivers) (are_among drivers es) among)
          (λ d below. later_calls defs e es d (each d below)),
    )
