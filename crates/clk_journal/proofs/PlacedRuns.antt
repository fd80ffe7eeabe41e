-- Each event of a run names clocks of the description where its calls do.
use Rattle.std.proofs.Common.{◌≡◌, ℕ, ◌+◌, ◌<◌, ◌&&◌, Bool, true, false, cond, List, [], ◌∷◌, Option, Some, None, refl, sym, ap, subst, ◌∙◌, inl, inr, length, arith}
use Rattle.std.specs.Prelude.{◌==◌, nat_lt, if◌then◌else◌, option_and_then}
use Rattle.std.specs.List.{AllByRecursion, list_all}
use Rattle.std.specs.Option.{option_map}
use Rattle.std.proofs.lemmas.Bool.Decides.{nat_tests}
use Rattle.clk_base.specs.declared.call.Micro.{Micro}
use Rattle.clk_base.specs.declared.call.Micro.TheVariants as micro
use Rattle.clk_base.specs.declared.event.Entry.{Entry}
use Rattle.clk_base.specs.declared.event.Event.{Event}
use Rattle.clk_base.specs.declared.event.Event.TheVariants as event
use Rattle.clk_base.specs.declared.event.Reply.TheVariants as reply
use Rattle.clk_base.specs.declared.event.Turn.{Turn}
use Rattle.clk_base.specs.declared.event.Turn.TheVariants as turn
use Rattle.clk_base.specs.Description.{Description, parents_of}
use Rattle.clk_base.specs.Valid.{IsValid}
use Rattle.reg_bank.specs.Registers.{Registers}
use Rattle.clk_model.specs.declared.row.HandleRow.{HandleRow}
use Rattle.clk_model.specs.Lists.{is_in}
use Rattle.clk_model.specs.State.{State, Change, registered, handle_at}
use Rattle.clk_model.specs.Round.{wiring}
use Rattle.clk_model.specs.Holders.{active}
use Rattle.clk_model.specs.Gates.{settled}
use Rattle.clk_model.specs.Begin.{with_handle, begun}
use Rattle.clk_model.specs.Step.{todo, taken, stepped}
use Rattle.clk_model.specs.Machine.{enabled, disabled, running, comes_next, may_step, paid, counted, next}
use Rattle.clk_model.specs.Journal.{opening, Legal, slotless}
use Rattle.clk_model.specs.Wired.{IsWired}
use Rattle.clk_model.proofs.Members.{is_in_cases, both_left, both_right}
use Rattle.clk_model.proofs.FlightLaws.{step_is, begin_is}
use Rattle.clk_model.proofs.MicroLaws.{comes_first}
use Rattle.clk_model.proofs.ShapeLaws.{events_keep_shape}
use Rattle.clk_model.proofs.StateLaws.{registered_lt}
use Rattle.clk_model.proofs.TierLaws.{pick_either, with_handle_either, paid_is}
use Rattle.clk_model.proofs.WalkLaws.{parented_lt}
use Rattle.clk_model.proofs.BeginsLaws.{begins_so}
use Rattle.clk_model.proofs.SafeRunLaws.{IsRunning, quietly, in_flight, IsRun, run_goes_on}
use Rattle.clk_model.proofs.RunsFedLaws.{run_of}
use Rattle.clk_journal.specs.Told.{IsPolled}
use Rattle.clk_journal.specs.Sized.{clocks_in_step, clocks_in_event, clocks_in_turn, clocks_begun, IsAnswered, NamesClocks, CallsNameClocks}
use Rattle.clk_journal.proofs.PlacedClocks.{ArePlaced, AreNamed, StepsName, none_placed, both_name}
use Rattle.clk_journal.proofs.PlacedScripts.{IsTree}
use Rattle.clk_journal.proofs.PlacedSteps.{IsPlacedChange, IsPlacedFlight, IsPlacedState, taken_placed, step_placed, step_answers}
use Rattle.clk_journal.proofs.PlacedBegins.{call_placed, flight_placed}

-- ---- a state of a run

-- what is in a list of lower numbers is lower
all_below : (n p : ℕ) (xs : List ℕ) → list_all (λ x. nat_lt x n) xs ≡ true → is_in p xs ≡ true → p < n
all_below n p [] all m = absurd cc
all_below n p (x ∷ xs) all m =
    elim (is_in_cases p x xs m) [
      | inl same ↦ grind (arith, nat_tests, same, both_left (nat_lt x n) (list_all (λ y. nat_lt y n) xs) all)
      | inr later ↦ all_below n p xs (both_right (nat_lt x n) (list_all (λ y. nat_lt y n) xs) all) later
    ]

-- a possible parent is a clock of the description
parent_placed : (words : ℕ) (s : State) (c p : ℕ) → IsWired words (wiring s) → is_in p (parents_of s.defs c) ≡ true → p < length s.defs
parent_placed words s c p wired m =
    let rows : length s.clocks ≡ length s.defs = wired.rows in
    let low : c < length s.clocks = parented_lt words (wiring s) c p wired m in
    all_below (length s.defs) p (parents_of s.defs c) (both_right _ _ (wired.valid.parents c (omega (arith, low, rows)))) m

tree_of : (n : ℕ) (s : State) → n ≡ length s.defs → IsRun s → ArePlaced n s.order → IsTree n s
tree_of n s size run order = record {
  links = λ c p at. subst (λ (k : ℕ). p < k) (sym size) (parent_placed (length s.regs) s c p run.wired (run.wired.links c p at));
  parents = λ c p m. subst (λ (k : ℕ). p < k) (sym size) (parent_placed (length s.regs) s c p run.wired m);
  order = order;
}

-- the clock of a handle is registered
handled : (n : ℕ) (s : State) → n ≡ length s.defs → IsRun s → (i : ℕ) (h : HandleRow) → handle_at s.handles i ≡ Some h → h.clock.0 < n
handled n s size run i h at = by run.running_ where
  there : registered s.clocks h.clock.0 ≡ true → h.clock.0 < n
  there is = let low = registered_lt s.clocks h.clock.0 is in let rows : length s.clocks ≡ length s.defs = run.wired.rows in omega (arith, low, rows, size)

  by : IsRunning s → h.clock.0 < n
  by (quietly quiet rest) = there (rest.safe.sound.tree.rooted i h.clock.0 (ap (option_map (λ (r : HandleRow). r.clock.0)) at)).0
  by (in_flight goes) = there (goes.in_call.safe.sound.tree.rooted i h.clock.0 (ap (option_map (λ (r : HandleRow). r.clock.0)) at)).0

-- ---- each event

-- what an event leaves and tells
record Tells (n : ℕ) (t : State) (e : Event) (x : Turn) : Type 0 where
  state : IsPlacedState n t
  event_ : AreNamed n (clocks_in_event e)
  turn_ : AreNamed n (clocks_in_turn x)
  answered : IsAnswered e

-- a state with the gates that follow and a count
paid_state : (n : ℕ) (s u t : State) (spent : ℕ) → record (settled s u) { spent = spent } ≡ t → IsPlacedState n u → IsPlacedState n t
unfolding settled
paid_state n s u t spent same is = subst (IsPlacedState n) same (record { order = is.order; flight = is.flight })

counted_state : (n : ℕ) (s u t : State) (steps : ℕ) → record (settled s u) { steps = steps } ≡ t → IsPlacedState n u → IsPlacedState n t
unfolding settled
counted_state n s u t steps same is = subst (IsPlacedState n) same (record { order = is.order; flight = is.flight })

-- what is paid for
paid_tells : (n : ℕ) (s t : State) (e : Event) (y : State × Turn) (x : Turn) → AreNamed n (clocks_in_event e) → IsAnswered e → IsPlacedState n y.0 → AreNamed n (clocks_in_turn y.1)
    → record (settled s y.0) { spent = s.spent + 1 } ≡ t → y.1 ≡ x → Tells n t e x
paid_tells n s t e y x named answered is told same same' = record {
  state = paid_state n s y.0 t (s.spent + 1) same is;
  event_ = named;
  turn_ = subst (λ (z : Turn). AreNamed n (clocks_in_turn z)) same' told;
  answered = answered;
}

-- the enable tier leaves the order and the change, and names no clock
abbrev IsCalm : ℕ → State × Turn → Type 0
IsCalm n x = IsPlacedState n x.0 × AreNamed n (clocks_in_turn x.1)

tier_tells : (n : ℕ) (s t : State) (e : Event) (y : State × Turn) (x : Turn) → AreNamed n (clocks_in_event e) → IsAnswered e → IsCalm n y → paid s y ≡ Some (t, x) → Tells n t e x
tier_tells n s t e y x named answered calm step = let at = paid_is s t y x step in paid_tells n s t e y x named answered calm.0 calm.1 at.0 at.1

-- a poll that may come next has its answer
polled : (d : ℕ) (k : Change) (m : Micro) (answer : Option Bool) → may_step d m answer k ≡ true → IsPolled m answer
polled d k (micro.Poll y) None may = let no : false ≡ true = both_right ((k.driver == d) && comes_next (micro.Poll y) (todo k)) false may in absurd cc
polled d k (micro.Poll y) (Some b) may = tt
polled d k m answer may = tt

-- and a step that is defined may come next
step_polled : (s t : State) (d : ℕ) (m : Micro) (answer : Option Bool) (x : Turn) (k : Change) → s.change ≡ Some k → next s d (event.Step m answer) ≡ Some (t, x) → IsPolled m answer
unfolding next
step_polled s t d m answer x k at step =
    by (may_step d m answer k) refl
    (ap (λ (o : Option Change). option_and_then (λ l. if may_step d m answer l then Some (counted s (stepped s (taken l) answer m)) else None) o) (sym at) ∙ step) where
      by : (b : Bool) → may_step d m answer k ≡ b → cond {A = Option (State × Turn)} b (Some (counted s (stepped s (taken k) answer m))) None ≡ Some (t, x) → IsPolled m answer
      by false may f = absurd cc
      by true may f = polled d k m answer may

yes_or_no : (n : ℕ) (b : Bool) → AreNamed n (clocks_in_turn (turn.Done (cond b reply.Yes reply.No)))
yes_or_no n true = tt
yes_or_no n false = tt

step_tells : (n : ℕ) (s t : State) (d : ℕ) (m : Micro) (answer : Option Bool) (x : Turn) → IsTree n s → IsPlacedState n s → next s d (event.Step m answer) ≡ Some (t, x) → Tells n t (event.Step m answer) x
step_tells n s t d m answer x tree is step =
    let at = step_is s t d m answer x step in
    let k : Change = at.0 in
    let placed : IsPlacedChange n k = subst (IsPlacedFlight n) at.1.at is.flight in
    let first = comes_first m (todo k) at.1.first in
    let named : AreNamed n (clocks_in_step m) = (subst (StepsName n) first.1 (both_name n k.front k.left placed.front placed.left)).0 in
    record {
      state = counted_state n s (stepped s (taken k) answer m).0 t (s.steps + 1) at.1.state (step_placed n s tree (taken k) answer m (taken_placed n k placed) named);
      event_ = named;
      turn_ = subst (λ (z : Turn). AreNamed n (clocks_in_turn z)) at.1.answered (step_answers n s tree (taken k) answer m);
      answered = step_polled s t d m answer x k at.1.at step;
    }

event_tells : (n : ℕ) (s t : State) (d : ℕ) (e : Event) (x : Turn) → n ≡ length s.defs → IsRun s → IsPlacedState n s → AreNamed n (clocks_begun e) → next s d e ≡ Some (t, x) → Tells n t e x
unfolding next
event_tells n s t d (event.Enable number) x size run is named step =
    tier_tells n s t (event.Enable number) (with_handle s d number (enabled s number)) x tt tt
    (with_handle_either (IsCalm n) s d number (enabled s number) (is, tt) (λ h own. pick_either (IsCalm n) (h.prepares == 0) _ _ (λ e. (is, tt)) (λ e. (record { order = is.order; flight = is.flight }, tt)))) step
event_tells n s t d (event.Disable number) x size run is named step =
    tier_tells n s t (event.Disable number) (with_handle s d number (disabled s number)) x tt tt
    (with_handle_either (IsCalm n) s d number (disabled s number) (is, tt) (λ h own. pick_either (IsCalm n) (h.enables == 0) _ _ (λ e. (is, tt)) (λ e. (record { order = is.order; flight = is.flight }, tt)))) step
event_tells n s t d (event.Running number) x size run is named step =
    tier_tells n s t (event.Running number) (with_handle s d number (running s)) x tt tt
    (with_handle_either (IsCalm n) s d number (running s) (is, tt) (λ h own. (is, yes_or_no n (active s h.clock.0)))) step
event_tells n s t d (event.Begin what) x size run is named step =
    let start = begin_is s t d what x step in
    let tree = tree_of n s size run is.order in
    let placed = call_placed n s tree d what named in
    paid_tells n s t (event.Begin what) (begun s d what) x named tt
    (record { order = placed.0; flight = flight_placed n s d what run.keeps tree (handled n s size run) (begun s d what) start.0 named (begins_so s d what) }) placed.1 start.1 start.2
event_tells n s t d (event.Step m answer) x size run is named step = step_tells n s t d m answer x (tree_of n s size run is.order) is step

-- ---- journals

-- a handle's slot is no clock
slot_aside : (n : ℕ) (x : Turn) → AreNamed n (clocks_in_turn (slotless x)) → AreNamed n (clocks_in_turn x)
slot_aside n turn.Going named = tt
slot_aside n (turn.Done (reply.Handle h)) named = tt
slot_aside n (turn.Done r) named = named

-- each entry of a legal journal names clocks of the description, where its calls do
legal_names : (defs : Description) (s : State) (journal : List Entry) → length defs ≡ length s.defs → IsRun s → IsPlacedState (length defs) s → Legal s journal → CallsNameClocks defs journal
    → AllByRecursion (NamesClocks defs) journal
legal_names defs s [] size run is legal calls = tt
legal_names defs s (e ∷ es) size run is legal calls =
    let t : State = legal.0 in
    let step : next s e.driver e.event ≡ Some (t, slotless e.turn) = legal.1 in
    let told = event_tells (length defs) s t e.driver e.event (slotless e.turn) size run is calls.0 step in
    let shape = events_keep_shape s t e.driver e.event (slotless e.turn) step in (
      record { event_ = told.event_; turn_ = slot_aside (length defs) e.turn told.turn_; answered = told.answered },
      legal_names defs t es (size ∙ sym (ap (λ (ds : Description). length ds) shape.defs)) (run_goes_on s t e.driver e.event (slotless e.turn) run step) told.state legal.2 calls.1,
    )

pub runs_name : (defs : Description) (words : Registers) (ignore_unused : Bool) (credits : ℕ) (journal : List Entry) → IsValid (length words) defs → Legal (opening defs words ignore_unused credits) journal
    → CallsNameClocks defs journal → AllByRecursion (NamesClocks defs) journal
runs_name defs words ignore_unused credits journal valid legal calls =
    legal_names defs (opening defs words ignore_unused credits) journal refl (run_of defs words ignore_unused credits [] valid) (record { order = none_placed (length defs); flight = tt }) legal calls
