-- How a call goes on, and what a prepare that goes on comes to, in states and in the parts of a core.
use Rattle.std.proofs.Common.{◌≡◌, ℕ, ◌+◌, ◌*◌, ◌<◌, ◌≤◌, ◌||◌, ◌&&◌, not, Bool, true, false, List, [], ◌∷◌, Option, Some, None, refl, sym, ap, subst, ◌∙◌, arith, length, nat_lt, nat_le, take, map}
use Rattle.std.specs.Prelude.{if◌then◌else◌, is_none, is_some, slice_get, sum_by}
use Rattle.std.specs.List.{list_any, list_all}
use Rattle.std.proofs.Math.Bool.{or-false}
use Rattle.std.proofs.lemmas.Bool.Decides.{nat_tests}
use Rattle.std.proofs.lemmas.List.Sums.{sum_by-cons}
use Rattle.clk_base.specs.declared.call.Micro.{Micro}
use Rattle.clk_base.specs.declared.call.Micro.TheVariants as micro
use Rattle.clk_base.specs.declared.call.Sleeping.{Sleeping}
use Rattle.clk_base.specs.declared.call.Sleeping.TheVariants as call
use Rattle.clk_base.specs.declared.clock.ClockId.{ClockId}
use Rattle.clk_base.specs.declared.event.Errno.TheVariants as errno
use Rattle.clk_base.specs.declared.event.Event.TheVariants as event
use Rattle.clk_base.specs.declared.event.Turn.TheVariants as turn
use Rattle.clk_base.specs.declared.handle.Handle.{Handle}
use Rattle.clk_model.specs.declared.row.HandleRow.{HandleRow}
use Rattle.clk_model.specs.State.{State, Change, NotifierRow, registered}
use Rattle.clk_model.specs.Tree.{path}
use Rattle.clk_model.specs.Script.{plls, weight, unprepared_plls}
use Rattle.clk_model.specs.Begin.{most_credits, weight_of, change_of, own_handle, prepare, refused, begun}
use Rattle.clk_model.specs.Machine.{paid, next}
use Rattle.clk_model.proofs.EventLaws.{pick-true, pick-false, begin_quiet, with-some}
use Rattle.clk_model.proofs.StateLaws.{paid-still}
use Rattle.clk_model.specs.Laws.Paced.{is_notice}
use Rattle.clk_model.specs.Notices.{abort_list}
use Rattle.clk_model.specs.Step.{sets_parent}
use Rattle.clk_model.specs.State.{handle_at}
use Rattle.clk_flight.specs.declared.front.Front.{Front}
use Rattle.clk_flight.specs.declared.front.Front.TheVariants.{Empty}
use Rattle.clk_flight.specs.Flights.{FlightState, IsChange}
use Rattle.clk_flight.specs.Begun as flights
use Rattle.clk_flight.specs.LeftOver.{step_weight, front_weight, left_over}
use Rattle.clk_flight.specs.Fronts.{called_off}
use Rattle.clk_flight.specs.declared.start.Start.{Start}
use Rattle.clk_machine.specs.Holding.{stays}
use Rattle.core_parts.specs.Course.{IsAlong}
use Rattle.core_parts.specs.Listed.{rows_from}
use Rattle.clk_machine.specs.Parts.{Parts, bare, own_in, IsOwnCall, IsFlown, IsWhole}
use Rattle.core_parts.specs.InFlight.{may_go_on, changes_rate, cuts_front, is_near, is_script, is_front, IsUnderWay, links_clocks, probes}
use Rattle.core_parts.specs.Plls.{is_loose}
use Rattle.clk_machine.specs.Stands.{Stands, Enters}
use Rattle.clk_machine.specs.Starting.{StartsCall}
use Rattle.clk_machine.proofs.Flying.{quiet_stands}
use Rattle.core_parts.proofs.Holdings.{StandsFor-same}
use Rattle.clk_machine.proofs.Writing.{whole_spent}
use Rattle.clk_machine.proofs.Making.{unprepared_stand}
use Rattle.core_parts.proofs.Seeking.{none_or_any}
use Rattle.core_parts.proofs.Deciding.{not_less}

-- ---- in states

abbrev pub raise_script : ClockId → List Micro
raise_script c = micro.Raise c ∷ micro.End ∷ []

-- what it weighs
pub raise_weighs : (s : State) (d : ℕ) (what : Sleeping) (c : ClockId) → weight_of s (change_of s d what (raise_script c)) ≡ 34 * plls s.defs + 2
raise_weighs s d what c =
    let one = sum_by-cons (weight s) (micro.Raise c) (micro.End ∷ []) in
    let two = sum_by-cons (weight s) micro.End [] in
    omega arith

-- a prepare goes on where something is to be raised and there is room
pub prepare_going : (s : State) (d : ℕ) (h : Handle) (row : HandleRow) → s.change ≡ None → own_handle s d h.number ≡ Some row
    → is_none (slice_get (unprepared_plls s (path s.clocks row.clock.0)) 0) ≡ false → s.spent < s.credits → s.credits + s.steps + (34 * plls s.defs + 2) ≤ most_credits
    → next s d (event.Begin (call.Prepare h)) ≡ Some (record s { change = Some (change_of s d (call.Prepare h) (raise_script row.clock)); spent = s.spent + 1 }, turn.Going)
unfolding begun
prepare_going s d h row quiet own some left room =
    let k : Change = change_of s d (call.Prepare h) (raise_script row.clock) in
    let weighs = raise_weighs s d (call.Prepare h) row.clock in
    let fits : nat_lt most_credits (s.credits + s.steps + weight_of s k) ≡ false = not_less (s.credits + s.steps + weight_of s k) most_credits (omega arith) in
    begin_quiet s d (call.Prepare h) quiet
    ∙ ap (paid s) (with-some s d h.number (prepare s d (call.Prepare h) h.number) row own
    ∙ pick-false (is_none (slice_get (unprepared_plls s (path s.clocks row.clock.0)) 0)) _ _ some
    ∙ pick-false (nat_lt most_credits (s.credits + s.steps + weight_of s k)) _ _ fits)
    ∙ paid-still s (record s { change = Some k }) turn.Going left (λ c. refl)

-- and is refused where there is none
pub prepare_full : (s : State) (d : ℕ) (h : Handle) (row : HandleRow) → s.change ≡ None → own_handle s d h.number ≡ Some row
    → is_none (slice_get (unprepared_plls s (path s.clocks row.clock.0)) 0) ≡ false → most_credits < s.credits + s.steps + (34 * plls s.defs + 2)
    → next s d (event.Begin (call.Prepare h)) ≡ paid s (refused s errno.ENOSPC)
unfolding begun
prepare_full s d h row quiet own some full =
    let k : Change = change_of s d (call.Prepare h) (raise_script row.clock) in
    let weighs = raise_weighs s d (call.Prepare h) row.clock in
    let more : nat_lt most_credits (s.credits + s.steps + weight_of s k) ≡ true = less_is most_credits (s.credits + s.steps + weight_of s k) (omega arith) in
    begin_quiet s d (call.Prepare h) quiet
    ∙ ap (paid s) (with-some s d h.number (prepare s d (call.Prepare h) h.number) row own
    ∙ pick-false (is_none (slice_get (unprepared_plls s (path s.clocks row.clock.0)) 0)) _ _ some
    ∙ pick-true (nat_lt most_credits (s.credits + s.steps + weight_of s k)) _ _ more) where
      less_is : (a b : ℕ) → a < b → nat_lt a b ≡ true
      less_is a b lt = grind (arith, nat_tests)

-- ---- in the parts

-- whether something is to be raised, as the parts tell it
pub unprepared_told : (m : Parts) (s : State) (x : ℕ) (t : Bool) → IsWhole m → Stands m s → t ≡ list_any (is_loose m.desc.defs m.counts) (path m.tree.clocks x)
    → is_none (slice_get (unprepared_plls s (path s.clocks x)) 0) ≡ not t
unprepared_told m s x t whole stands is =
    ap (λ (ys : List ℕ). is_none (slice_get ys 0)) (unprepared_stand m s x whole stands)
    ∙ none_or_any (is_loose m.desc.defs m.counts) (path m.tree.clocks x) ∙ ap not (sym is)

-- nothing is unprepared where none is
pub none_unprepared : (m : Parts) (s : State) (x : ℕ) → IsWhole m → Stands m s → false ≡ list_any (is_loose m.desc.defs m.counts) (path m.tree.clocks x)
    → unprepared_plls s (path s.clocks x) ≡ []
none_unprepared m s x whole stands is = empty (unprepared_plls s (path s.clocks x)) (unprepared_told m s x false whole stands is) where
  empty : (ys : List ℕ) → is_none (slice_get ys 0) ≡ true → ys ≡ []
  empty [] e = refl
  empty (y ∷ ys) e = absurd cc

-- the change begins as the flight does
pub starts_as : (s : State) (ns : List NotifierRow) (d : ℕ) (what : Sleeping) (steps : List Micro) (start : Start) → sets_parent what ≡ false → start.driver ≡ d → start.call ≡ what
    → start.script.items ≡ steps → start.range ≡ None → start.extra ≡ 0 → start.vetoed ≡ false → flights.StartsAs ns start (change_of s d what steps)
starts_as s ns d what steps start stays_ driver is script range extra vetoed =
    let k : Change = change_of s d what steps in
    record {
      driver = sym driver;
      call = sym is;
      front = refl;
      left = sym script;
      polls = refl;
      again = refl;
      raised = refl;
      range = sym range;
      extra = sym extra;
      fits = omega arith;
      calls_off = ap (λ (n : ℕ). list_all is_notice (map called_off (take n start.script.items))) extra;
      vetoed = sym vetoed;
      timed_out = refl;
      missed = refl;
      aborts = λ may.
          ap (λ (t : Bool). if t then abort_list (record { before = k.before; outcome = k.outcome }) ns k.changing else []) stays_
          ∙ sym (ap (λ (n : ℕ). map called_off (take n start.script.items)) extra);
    }

-- what is left to come of it
pub raise_left : (rows : List NotifierRow) (plls_ : ℕ) (c : ClockId) → sum_by (step_weight rows plls_) (raise_script c) ≡ 34 * plls_ + 2
raise_left rows p c =
    let one = sum_by-cons (step_weight rows p) (micro.Raise c) (micro.End ∷ []) in
    let two = sum_by-cons (step_weight rows p) micro.End [] in
    omega arith

-- a prepare that goes on takes the parts on
pub enters_prepare : (old new : Parts) (d : ℕ) (h : Handle) (row : HandleRow) → IsWhole old → old.flight.going ≡ false → old.spent < old.credits
    → ((s : State) → Stands old s → own_handle s d h.number ≡ Some row) → true ≡ list_any (is_loose old.desc.defs old.counts) (path old.tree.clocks row.clock.0)
    → old.credits + old.steps + (34 * plls old.desc.defs + 2) ≤ most_credits → StartsCall old d (call.Prepare h) (raise_script row.clock) stays new
    → Enters old d (event.Begin (call.Prepare h)) turn.Going new
enters_prepare old new d h row whole quiet left own some room starts_ = record {
  remains = starts_.remains;
  pays = starts_.spent;
  rows = λ c. starts_.rows c ∙ sym (or-false (registered old.tree.clocks c));
  going = starts_.going;
  driver_ = λ still. starts_.driver_;
  fewer = λ free. absurd cc;
  begun = λ paid goes. let steps = starts_.left in let few = raise_left (rows_from 0 old.chains) (plls old.desc.defs) row.clock in omega arith;
  no_more = λ paid done. absurd cc;
  locks = λ still. starts_.locks;
  beside = λ tier. absurd cc;
  step = λ s stands sound.
      let spends : s.spent < s.credits = let one = stands.spent in let two = stands.credits in omega arith in
      let most : plls s.defs ≡ plls old.desc.defs = ap plls stands.defs in
      let fits : s.credits + s.steps + (34 * plls s.defs + 2) ≤ most_credits = let one = stands.credits in let two = stands.steps in omega arith in
      record {
        to = record s { change = Some (change_of s d (call.Prepare h) (raise_script row.clock)); spent = s.spent + 1 };
        next_ = prepare_going s d h row (quiet_stands old s stands quiet) (own s stands) (unprepared_told old s row.clock.0 true whole stands some) spends fits;
        stands = starts_.stands s stands;
      };
}

-- what is known of a flight that has begun so
pub record Started (old : Parts) (d : ℕ) (what : Sleeping) (steps : List Micro) (flight' : FlightState) : Type 0 where
  pub going : flight'.going ≡ true
  pub call_ : flight'.call ≡ what
  pub driver : flight'.driver ≡ d
  pub left : flight'.left ≡ steps
  pub front : flight'.front ≡ Empty
  pub raised : flight'.raised ≡ []
  pub extra : flight'.extra ≡ 0
  pub vetoed : flight'.vetoed ≡ false
  pub plls_ : flight'.plls ≡ plls old.desc.defs

-- a flight that begins so
pub begun_started : (old : Parts) (d : ℕ) (what : Sleeping) (steps : List Micro) (flight' : FlightState) (start : Start) (n : ℕ) → flight' ≡ flights.begun start n → n ≡ plls old.desc.defs
    → start.driver ≡ d → start.call ≡ what → start.script.items ≡ steps → start.extra ≡ 0 → start.vetoed ≡ false → Started old d what steps flight'
begun_started old d what steps flight' start n is few driver same script extra vetoed = record {
  going = ap (λ (f : FlightState). f.going) is;
  call_ = ap (λ (f : FlightState). f.call) is ∙ same;
  driver = ap (λ (f : FlightState). f.driver) is ∙ driver;
  left = ap (λ (f : FlightState). f.left) is ∙ script;
  front = ap (λ (f : FlightState). f.front) is;
  raised = ap (λ (f : FlightState). f.raised) is;
  extra = ap (λ (f : FlightState). f.extra) is ∙ extra;
  vetoed = ap (λ (f : FlightState). f.vetoed) is ∙ vetoed;
  plls_ = ap (λ (f : FlightState). f.plls) is ∙ few;
}

-- what is left to come of it
pub started_left : (old : Parts) (d : ℕ) (what : Sleeping) (steps : List Micro) (flight' : FlightState) → Started old d what steps flight'
    → left_over (rows_from 0 old.chains) flight' ≡ sum_by (step_weight (rows_from 0 old.chains) (plls old.desc.defs)) steps
started_left old d what steps flight' now = by flight'.going now.going where
  parts : front_weight flight'.plls flight'.again flight'.front + sum_by (step_weight (rows_from 0 old.chains) flight'.plls) flight'.left + flight'.extra + length flight'.raised
      ≡ sum_by (step_weight (rows_from 0 old.chains) (plls old.desc.defs)) steps
  parts =
      let one = ap (λ (f : Front). front_weight flight'.plls flight'.again f) now.front in
      let two : sum_by (step_weight (rows_from 0 old.chains) flight'.plls) flight'.left ≡ sum_by (step_weight (rows_from 0 old.chains) (plls old.desc.defs)) steps =
      ap (λ (ms : List Micro). sum_by (step_weight (rows_from 0 old.chains) flight'.plls) ms) now.left ∙ ap (λ (n : ℕ). sum_by (step_weight (rows_from 0 old.chains) n) steps) now.plls_ in
      let three = now.extra in
      let four = ap (λ (ys : List ℕ). length ys) now.raised in
      omega arith

  by : (t : Bool) → t ≡ true
      → (if t then front_weight flight'.plls flight'.again flight'.front + sum_by (step_weight (rows_from 0 old.chains) flight'.plls) flight'.left + flight'.extra + length flight'.raised else 0)
      ≡ sum_by (step_weight (rows_from 0 old.chains) (plls old.desc.defs)) steps
  by true e = parts
  by false e = absurd cc

-- what is left to do of it is of registered clocks
pub started_way : (old : Parts) (d : ℕ) (what : Sleeping) (steps : List Micro) (flight' : FlightState) (there : ℕ → Bool) → Started old d what steps flight' → may_go_on what ≡ true
    → is_script what there steps ≡ true → IsUnderWay there flight'
started_way old d what steps flight' there now goes script = record {
  call_ = ap may_go_on now.call_ ∙ goes;
  script = ap (λ (c : Sleeping). is_script c there flight'.left) now.call_ ∙ ap (λ (ms : List Micro). is_script what there ms) now.left ∙ script;
  front = ap (is_front flight'.call there) now.front;
  cut = ap (cuts_front flight'.call flight'.left) now.front;
  raised = ap (λ (ys : List ℕ). list_all (is_near flight'.call there) ys) now.raised;
  extra = λ other. now.extra;
  vetoed = λ is. let no : true ≡ false = sym is ∙ now.vetoed in absurd cc;
}

-- parts with this flight
abbrev pub flying : Parts → FlightState → Parts
flying p flight' = record p { flight = flight' }

-- parts stay whole where the flight of a call begins, for whose steps there is room
pub whole_flying : (p : Parts) (flight' : FlightState) → IsWhole p → IsFlown p.desc.defs p.tree.clocks p.table.handles p.chains p.course.notified p.spent flight'
    → p.credits + p.steps + left_over (rows_from 0 p.chains) flight' ≤ most_credits → IsWhole (flying p flight')
whole_flying p flight' whole flown room = record {
  tied = whole.tied;
  paid = whole.paid;
  counted = record { keeps = whole.counted.keeps; stands = StandsFor-same p.counts (bare p) (bare (flying p flight')) whole.counted.stands refl refl refl refl refl };
  clocks = whole.clocks;
  handled = whole.handled;
  notified = whole.notified;
  listed = whole.listed;
  flown = λ going. flown;
  room = room;
  prepares_held = whole.prepares_held;
  enables_held = whole.enables_held;
}

-- they stand for the state with this change
pub stands_flying : (p : Parts) (flight' : FlightState) (s : State) (k : Change) → Stands p s → IsChange s.notifiers flight' k → IsAlong p.course (Some k) → Stands (flying p flight') (record s { change = Some k })
stands_flying p flight' s k stands is along = record {
  defs = stands.defs;
  regs = stands.regs;
  clocks = stands.clocks;
  order = stands.order;
  handles = stands.handles;
  notifiers = stands.notifiers;
  prepare_holds = stands.prepare_holds;
  enable_holds = stands.enable_holds;
  change = is;
  along = along;
  credits = stands.credits;
  spent = stands.spent;
  steps = stands.steps;
  ignore_unused = stands.ignore_unused;
}

-- ---- a prepare's flight

-- the parts with a credit spent
abbrev pub with_spent : Parts → Parts
with_spent old = record old { spent = old.spent + 1 }

-- the parts stay whole
pub whole_started : (old : Parts) (d : ℕ) (h : Handle) (row : HandleRow) (flight' : FlightState) → IsWhole old → old.spent < old.credits → handle_at old.table.handles h.number ≡ Some row
    → own_in old.table.handles d h.number ≡ Some row → old.credits + old.steps + (34 * plls old.desc.defs + 2) ≤ most_credits
    → Started old d (call.Prepare h) (raise_script row.clock) flight' → IsWhole (flying (with_spent old) flight')
whole_started old d h row flight' whole left live own room now =
    whole_flying (with_spent old) flight' (whole_spent old whole left) (record {
      plls_ = now.plls_;
      tells = λ changes. let no : true ≡ false = sym changes ∙ ap changes_rate now.call_ in absurd cc;
      links = λ changes. let no : true ≡ false = sym changes ∙ ap links_clocks now.call_ in absurd cc;
      placed = λ c here. let no : true ≡ false = sym here ∙ ap (λ (what : Sleeping). probes what c) now.call_ in absurd cc;
      way = started_way old d (call.Prepare h) (raise_script row.clock) flight' (registered old.tree.clocks) now refl (ap (λ (b : Bool). (b || false) && true) (whole.handled h.number row live));
      own = subst (λ (what : Sleeping). IsOwnCall old.table.handles flight'.driver what) (sym now.call_)
          (ap (λ (e : ℕ). is_some (own_in old.table.handles e h.number)) now.driver ∙ ap (λ (o : Option HandleRow). is_some o) own);
      paid = let few = whole.paid.few_holds in omega arith;
    }) (let steps = started_left old d (call.Prepare h) (raise_script row.clock) flight' now in let few = raise_left (rows_from 0 old.chains) (plls old.desc.defs) row.clock in omega arith)

-- the parts stand for the state with a credit spent
pub stands_spent : (old : Parts) (s : State) → Stands old s → Stands (with_spent old) (record s { spent = s.spent + 1 })
stands_spent old s stands = record {
  defs = stands.defs;
  regs = stands.regs;
  clocks = stands.clocks;
  order = stands.order;
  handles = stands.handles;
  notifiers = stands.notifiers;
  prepare_holds = stands.prepare_holds;
  enable_holds = stands.enable_holds;
  change = stands.change;
  along = stands.along;
  credits = stands.credits;
  spent = ap (λ (n : ℕ). n + 1) stands.spent;
  steps = stands.steps;
  ignore_unused = stands.ignore_unused;
}

-- and the call goes on
pub starts_call : (old : Parts) (d : ℕ) (h : Handle) (row : HandleRow) (flight' : FlightState) → Started old d (call.Prepare h) (raise_script row.clock) flight'
    → ((s : State) → IsChange s.notifiers flight' (change_of s d (call.Prepare h) (raise_script row.clock)))
    → StartsCall old d (call.Prepare h) (raise_script row.clock) stays (flying (with_spent old) flight')
starts_call old d h row flight' now change = record {
  remains = record { desc = refl; told = refl; size = refl; behind = refl; credits = refl; ignore_unused = refl };
  spent = refl;
  locks = refl;
  rows = λ c. refl;
  going = now.going;
  driver_ = now.driver;
  left = started_left old d (call.Prepare h) (raise_script row.clock) flight' now;
  stands = λ s stands. stands_flying (with_spent old) flight' (record s { spent = s.spent + 1 }) (change_of s d (call.Prepare h) (raise_script row.clock)) (stands_spent old s stands) (change s) (λ changes. absurd cc);
}

-- there is no room in the state where there is none in the parts
pub full_stands : (m : Parts) (s : State) → Stands m s → nat_le (m.credits + m.steps + (34 * plls m.desc.defs + 2)) most_credits ≡ false → most_credits < s.credits + s.steps + (34 * plls s.defs + 2)
full_stands m s stands full =
    let over : most_credits < m.credits + m.steps + (34 * plls m.desc.defs + 2) = more most_credits (m.credits + m.steps + (34 * plls m.desc.defs + 2)) full in
    let one = stands.credits in
    let two = stands.steps in
    let most : plls s.defs ≡ plls m.desc.defs = ap plls stands.defs in
    omega arith where
      more : (a b : ℕ) → nat_le b a ≡ false → a < b
      more a b e = grind (arith, nat_tests)

-- there is room where there is
pub room_told : (n : ℕ) → true ≡ nat_le n most_credits → n ≤ most_credits
room_told n e = grind (arith, nat_tests)
