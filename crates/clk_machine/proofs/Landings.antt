-- What each end of a call that went on does to a state and to the parts of a core.
use Rattle.std.proofs.Common.{◌≡◌, ℕ, ◌+◌, ◌<◌, ◌||◌, ◌&&◌, not, Bool, true, false, List, Option, Some, None, refl, sym, ap, subst, ◌∙◌, arith, length, set}
use Rattle.std.specs.Prelude.{if◌then◌else◌, is_some, IsSome, IfSome}
use Rattle.std.specs.Option.{option_map, option_map_or}
use Rattle.clk_base.specs.Description.{Description}
use Rattle.clk_base.specs.declared.call.Micro.TheVariants as micro
use Rattle.clk_base.specs.declared.call.Sleeping.{Sleeping}
use Rattle.clk_base.specs.declared.call.Sleeping.TheVariants as call
use Rattle.clk_base.specs.declared.clock.ClockId.{ClockId}
use Rattle.clk_base.specs.declared.handle.Handle.{Handle}
use Rattle.clk_model.specs.declared.row.ClockRow.{ClockRow}
use Rattle.clk_model.specs.declared.row.HandleRow.{HandleRow}
use Rattle.clk_model.specs.State.{State, Change, registered, handle_at, requested}
use Rattle.clk_model.specs.Begin.{put_handle, prepared_once_more, held_once_more}
use Rattle.clk_model.specs.Prep.{is_sweep}
use Rattle.clk_model.specs.Step.{taken, ended_well, with_range, range_back, sets_parent}
use Rattle.clk_tree.specs.TreeState.{TreeState}
use Rattle.clk_tree.proofs.Rows.{registered-requested}
use Rattle.clk_flight.specs.Flights.{FlightState, IsChange}
use Rattle.clk_flight.specs.Moves.{landed}
use Rattle.counts_core.specs.Counted.{CountState, is_active}
use Rattle.rate_requests.specs.Handles.{HandleTable, with_range_at}
use Rattle.clk_machine.specs.Holding.{prepared_more, exclusive_more}
use Rattle.core_parts.specs.InFlight.{may_go_on, is_probe, is_unprepare, is_ranged, is_called_off, ends_bare}
use Rattle.clk_machine.specs.Landing.{Requests, PutsBack}
use Rattle.clk_machine.specs.Making.{ComesFirst}
use Rattle.clk_machine.specs.Parts.{Parts, IsWhole}
use Rattle.clk_machine.specs.Stands.{Stands}
use Rattle.clk_machine.proofs.Ending.{IsRequested, Ends, with_ended, whole_landed, whole_ended, whole_requested}
use Rattle.core_parts.proofs.Holdings.{moves_none}
use Rattle.clk_machine.proofs.Making.{with_step}
use Rattle.core_parts.proofs.Moving.{clock_within}
use Rattle.clk_machine.proofs.Stepping.{left_as, end_off, end_well, end_bare}
use Rattle.clk_machine.proofs.Writing.{Written, live_in}

-- ---- what the parts say

-- a registered clock has a row
pub clock_among : (m : Parts) (c : ℕ) → IsWhole m → registered m.tree.clocks c ≡ true → c < length m.tree.clocks
clock_among m c whole there =
    let place = clock_within m.desc m.window m.tree c whole.tied there in
    subst (λ (n : ℕ). c < n) (sym (whole.tied.stands.rows ∙ ap (λ (d : Description). length d) whole.tied.defs)) place

pub row_among : (m : Parts) (n : ℕ) (row : HandleRow) → IsWhole m → handle_at m.table.handles n ≡ Some row → row.clock.0 < length m.tree.clocks
row_among m n row whole live = clock_among m row.clock.0 whole (whole.handled n row live)

pub is_live : (handles : List (Option HandleRow)) (n : ℕ) (row : HandleRow) → handle_at handles n ≡ Some row → IsSome (handle_at handles n)
is_live handles n row live = ap (λ (o : Option HandleRow). is_some o) live

-- the clock of a driver's own handle is registered
pub own_there : (m : Parts) (n : ℕ) (o : Option HandleRow) → IsWhole m → IfSome o (λ row. handle_at m.table.handles n ≡ Some row) → IfSome o (λ row. registered m.tree.clocks row.clock.0 ≡ true)
own_there m n None whole live = tt
own_there m n (Some row) whole live = whole.handled n row live

-- whether a change is called off is so of its flight
off_of : (m : Parts) (s : State) (k : Change) → IsChange s.notifiers m.flight k → (k.vetoed || k.timed_out) ≡ is_called_off m.flight
off_of m s k is = ap (λ (v : Bool). v || k.timed_out) is.vetoed ∙ ap (λ (t : Bool). m.flight.vetoed || t) is.timed_out

-- the parts stand for a state with these rows and these handles, in which no call is in flight
stands_ended : (old : Parts) (tree' : TreeState) (table' : HandleTable) (counts' : CountState) (flight' : FlightState) (s : State) (clocks' : List ClockRow) (handles' : List (Option HandleRow)) → Stands old s
    → flight'.going ≡ false → clocks' ≡ tree'.clocks → tree'.order ≡ old.tree.order → handles' ≡ table'.handles
    → Stands (record old { tree = tree'; table = table'; counts = counts'; flight = flight'; steps = old.steps + 1 }) (record s { clocks = clocks'; handles = handles'; change = None; steps = s.steps + 1 })
stands_ended old tree' table' counts' flight' s clocks' handles' stands quiet clocks order handles = record {
  defs = stands.defs;
  regs = stands.regs;
  clocks = clocks;
  order = stands.order ∙ sym order;
  handles = handles;
  notifiers = stands.notifiers;
  prepare_holds = stands.prepare_holds;
  enable_holds = stands.enable_holds;
  change = quiet;
  along = tt;
  credits = stands.credits;
  spent = stands.spent;
  steps = ap (λ (n : ℕ). n + 1) stands.steps;
  ignore_unused = stands.ignore_unused;
}

-- ---- nothing is written

pub bare_ends : (old : Parts) (flight' : FlightState) → IsWhole old → old.flight.going ≡ true → ComesFirst old micro.End → ends_bare old.flight ≡ true → flight' ≡ landed old.flight
    → Ends old (with_step old old.window flight') (λ s. s)
bare_ends old flight' whole going first nothing is = record {
  whole = whole;
  whole' = whole_landed old flight' whole going is;
  going = going;
  first = first;
  flight = is;
  desc = refl;
  window = refl;
  credits = refl;
  ignore_unused = refl;
  spent = refl;
  rows = λ c. refl;
  active_ = λ c. refl;
  ends = λ s k stands same.
      end_bare s (taken k) (ap may_go_on same.call ∙ (whole.flown going).way.call_)
      (ap (λ (t : Bool). if t then not (is_ranged k.call && is_some k.range) else (is_unprepare k.call || sets_parent k.call || is_sweep k.call || is_probe k.call)) (off_of old s k same)
      ∙ ap (λ (what : Sleeping). if is_called_off old.flight then not (is_ranged what && is_some k.range) else (is_unprepare what || sets_parent what || is_sweep what || is_probe what)) same.call
      ∙ ap (λ (r : Option (ℕ × ℕ)). if is_called_off old.flight then not (is_ranged old.flight.call && is_some r) else (is_unprepare old.flight.call || sets_parent old.flight.call || is_sweep old.flight.call || is_probe old.flight.call)) same.range ∙ nothing);
  stands = λ s stands. stands_ended old old.tree old.table old.counts flight' s s.clocks s.handles stands (ap (λ (f : FlightState). f.going) is) stands.clocks refl stands.handles;
}

-- ---- a handle is written

-- a prepare
pub prepared_ends : (old : Parts) (h : Handle) (row : HandleRow) (table' : HandleTable) (counts' : CountState) (flight' : FlightState) → IsWhole old → old.flight.going ≡ true → flight' ≡ landed old.flight
    → Written old h.number row (prepared_more row) table' counts' → ComesFirst old micro.End → old.flight.call ≡ call.Prepare h → is_called_off old.flight ≡ false → ((c : ℕ) → is_active counts' c ≡ is_active old.counts c)
    → Ends old (with_ended old table' counts' flight') (λ s. prepared_once_more s h.number row)
prepared_ends old h row table' counts' flight' whole going is written first prepares timely active_ = record {
  whole = whole;
  whole' = whole_ended old h.number row (prepared_more row) table' counts' flight' whole going is written;
  going = going;
  first = first;
  flight = is;
  desc = refl;
  window = refl;
  credits = refl;
  ignore_unused = refl;
  spent = refl;
  rows = λ c. refl;
  active_ = active_;
  ends = λ s k stands same.
      end_well s (taken k) (off_of old s k same ∙ timely)
      ∙ ap (λ (what : Sleeping). left_as s k (ended_well s k.driver what)) (same.call ∙ prepares)
      ∙ ap (λ (o : Option HandleRow). left_as s k (option_map_or (prepared_once_more s h.number) o s)) (live_in old s h.number row stands written.live);
  stands = λ s stands. stands_ended old old.tree table' counts' flight' s s.clocks (set s.handles h.number (Some (prepared_more row))) stands (ap (λ (f : FlightState). f.going) is) stands.clocks refl
      (ap (λ (hs : List (Option HandleRow)). set hs h.number (Some (prepared_more row))) stands.handles ∙ sym written.handles);
}

-- a range that is put back
pub back_written : (old : Parts) (h : Handle) (row : HandleRow) (least most : ℕ) (table' : HandleTable) → IsWhole old → PutsBack old h row least most → table'.handles ≡ with_range_at old.table.handles h.number least most
    → table'.clocks ≡ old.table.clocks → Written old h.number row (with_range (least, most) row) table' old.counts
back_written old h row least most table' whole back handles clocks = record {
  live = back.live;
  clock = refl;
  driver = refl;
  handles = handles ∙ ap (λ (o : Option HandleRow). set old.table.handles h.number (option_map (λ (h : HandleRow). let r : HandleRow = record h { min = least; max = most } in r) o)) back.live;
  clocks = clocks;
  keeps = whole.counted.keeps;
  gated = refl;
  links = refl;
  enables = moves_none (λ h. h.enables) old.counts.enables row (with_range (least, most) row) refl refl;
  prepares = moves_none (λ h. h.prepares) old.counts.prepares row (with_range (least, most) row) refl refl;
  exclusives = moves_none (λ h. h.exclusives) old.counts.exclusives row (with_range (least, most) row) refl refl;
  more = omega arith;
}

pub back_ends : (old : Parts) (h : Handle) (row : HandleRow) (least most : ℕ) (table' : HandleTable) (flight' : FlightState) → IsWhole old → old.flight.going ≡ true → flight' ≡ landed old.flight
    → Written old h.number row (with_range (least, most) row) table' old.counts → ComesFirst old micro.End → PutsBack old h row least most
    → Ends old (with_ended old table' old.counts flight') (λ s. put_handle s h.number (Some (with_range (least, most) row)))
back_ends old h row least most table' flight' whole going is written first back = record {
  whole = whole;
  whole' = whole_ended old h.number row (with_range (least, most) row) table' old.counts flight' whole going is written;
  going = going;
  first = first;
  flight = is;
  desc = refl;
  window = refl;
  credits = refl;
  ignore_unused = refl;
  spent = refl;
  rows = λ c. refl;
  active_ = λ c. refl;
  ends = λ s k stands same.
      end_off s (taken k) (off_of old s k same ∙ back.off)
      ∙ ap (λ (what : Sleeping). left_as s k (record s { handles = range_back what k.range s.handles })) (same.call ∙ back.call_)
      ∙ ap (λ (r : Option (ℕ × ℕ)). left_as s k (record s { handles = range_back (call.SetRange h back.to_least back.to_most) r s.handles })) (same.range ∙ back.range)
      ∙ ap (λ (o : Option HandleRow). left_as s k (record s { handles = set s.handles h.number (option_map (with_range (least, most)) o) })) (live_in old s h.number row stands written.live);
  stands = λ s stands. stands_ended old old.tree table' old.counts flight' s s.clocks (set s.handles h.number (Some (with_range (least, most) row))) stands (ap (λ (f : FlightState). f.going) is) stands.clocks refl
      (ap (λ (hs : List (Option HandleRow)). set hs h.number (Some (with_range (least, most) row))) stands.handles ∙ sym written.handles);
}

-- ---- a last request is written

pub requested_ends : (old : Parts) (c : ClockId) (x : ℕ) (flight' : FlightState) (tree' : TreeState) → IsWhole old → old.flight.going ≡ true → flight' ≡ landed old.flight → IsRequested old.tree tree' c.0 x
    → ComesFirst old micro.End → Requests old c x → Ends old (record (with_step old old.window flight') { tree = tree' }) (λ s. record s { clocks = requested s.clocks c.0 x })
requested_ends old c x flight' tree' whole going is now first requests = record {
  whole = whole;
  whole' = whole_requested (with_step old old.window flight') tree' c.0 x (whole_landed old flight' whole going is) (ap (λ (f : FlightState). f.going) is) now;
  going = going;
  first = first;
  flight = is;
  desc = refl;
  window = refl;
  credits = refl;
  ignore_unused = refl;
  spent = refl;
  rows = λ k. ap (λ (rs : List ClockRow). registered rs k) now.clocks ∙ registered-requested old.tree.clocks c.0 x k now.place;
  active_ = λ c. refl;
  ends = λ s k stands same.
      end_well s (taken k) (off_of old s k same ∙ requests.timely)
      ∙ ap (λ (d : ℕ). left_as s k (ended_well s d k.call)) same.driver
      ∙ ap (λ (what : Sleeping). left_as s k (ended_well s old.flight.driver what)) same.call
      ∙ ap (left_as s k) (requests.requests s stands);
  stands = λ s stands. stands_ended old tree' old.table old.counts flight' s (requested s.clocks c.0 x) s.handles stands (ap (λ (f : FlightState). f.going) is)
      (ap (λ (rs : List ClockRow). requested rs c.0 x) stands.clocks ∙ sym now.clocks) now.order stands.handles;
}

-- and a handle that holds its rate
pub held_ends : (old : Parts) (h : Handle) (row : HandleRow) (x : ℕ) (table' : HandleTable) (counts' : CountState) (flight' : FlightState) (tree' : TreeState) → IsWhole old → old.flight.going ≡ true
    → flight' ≡ landed old.flight → Written old h.number row (exclusive_more row) table' counts' → IsRequested old.tree tree' row.clock.0 x → ComesFirst old micro.End → old.flight.call ≡ call.SetRateExclusive h x
    → is_called_off old.flight ≡ false → ((c : ℕ) → is_active counts' c ≡ is_active old.counts c)
    → Ends old (record (with_ended old table' counts' flight') { tree = tree' }) (λ s. record (held_once_more s h.number row) { clocks = requested s.clocks row.clock.0 x })
held_ends old h row x table' counts' flight' tree' whole going is written now first holds timely active_ = record {
  whole = whole;
  whole' = whole_requested (with_ended old table' counts' flight') tree' row.clock.0 x (whole_ended old h.number row (exclusive_more row) table' counts' flight' whole going is written) (ap (λ (f : FlightState). f.going) is) now;
  going = going;
  first = first;
  flight = is;
  desc = refl;
  window = refl;
  credits = refl;
  ignore_unused = refl;
  spent = refl;
  rows = λ k. ap (λ (rs : List ClockRow). registered rs k) now.clocks ∙ registered-requested old.tree.clocks row.clock.0 x k now.place;
  active_ = active_;
  ends = λ s k stands same.
      end_well s (taken k) (off_of old s k same ∙ timely)
      ∙ ap (λ (what : Sleeping). left_as s k (ended_well s k.driver what)) (same.call ∙ holds)
      ∙ ap (λ (o : Option HandleRow). left_as s k (option_map_or (λ row. record (held_once_more s h.number row) { clocks = requested s.clocks row.clock.0 x }) o s)) (live_in old s h.number row stands written.live);
  stands = λ s stands. stands_ended old tree' table' counts' flight' s (requested s.clocks row.clock.0 x) (set s.handles h.number (Some (exclusive_more row))) stands (ap (λ (f : FlightState). f.going) is)
      (ap (λ (rs : List ClockRow). requested rs row.clock.0 x) stands.clocks ∙ sym now.clocks) now.order
      (ap (λ (hs : List (Option HandleRow)). set hs h.number (Some (exclusive_more row))) stands.handles ∙ sym written.handles);
}
