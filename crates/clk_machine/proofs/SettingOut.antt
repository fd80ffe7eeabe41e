-- That a call can go on with a flight that was made before, or goes on in no state.
use Rattle.std.proofs.Common.{◌≡◌, ℕ, ◌+◌, ◌*◌, ◌<◌, ◌≤◌, true, false, List, Option, Some, refl, sym, ap, subst, ◌∙◌, arith, length, set, nat_le, [], ◌∷◌}
use Rattle.std.proofs.lemmas.Bool.Decides.{nat_tests}
use Rattle.std.specs.Prelude.{is_none, slice_get, sum_by}
use Rattle.std.specs.List.{list_any}
use Rattle.std.specs.Option.{option_map_or}
use Rattle.clk_base.specs.declared.call.Micro.{Micro}
use Rattle.clk_base.specs.declared.call.Micro.TheVariants as micro
use Rattle.clk_base.specs.declared.call.Sleeping.{Sleeping}
use Rattle.clk_base.specs.declared.call.Sleeping.TheVariants as call
use Rattle.clk_base.specs.declared.clock.ClockId.{ClockId}
use Rattle.clk_base.specs.declared.event.Event.{Event}
use Rattle.clk_base.specs.declared.event.Event.TheVariants as event
use Rattle.clk_base.specs.declared.event.Reply.{Reply}
use Rattle.clk_base.specs.declared.event.Turn.{Turn}
use Rattle.clk_base.specs.declared.event.Turn.TheVariants as turn
use Rattle.clk_base.specs.declared.handle.Handle.{Handle}
use Rattle.clk_flight.specs.Flights.{FlightState}
use Rattle.clk_model.specs.declared.row.HandleRow.{HandleRow}
use Rattle.clk_model.specs.Begin.{most_credits, change_of, keeps_prepare, register}
use Rattle.clk_model.specs.Journal.{slotless}
use Rattle.clk_model.specs.Machine.{paid, next}
use Rattle.clk_model.specs.Script.{plls}
use Rattle.clk_model.specs.State.{State, registered, handle_at}
use Rattle.clk_model.specs.Tree.{path}
use Rattle.clk_model.proofs.ShapeLaws.{begun_paid}
use Rattle.clk_model.proofs.TierLaws.{paid_is}
use Rattle.clk_flight.specs.LeftOver.{step_weight}
use Rattle.core_parts.specs.Listed.{rows_from}
use Rattle.core_parts.specs.Plls.{is_loose}
use Rattle.rate_requests.specs.Handles.{HandleTable}
use Rattle.counts_core.specs.Counted.{CountState}
use Rattle.clk_machine.specs.Adopting.{adopted, AreProbeSteps}
use Rattle.clk_machine.specs.Holding.{prepared_less}
use Rattle.clk_machine.specs.Probing.{goes_on}
use Rattle.clk_machine.specs.Sound.{IsSound}
use Rattle.clk_machine.specs.Along.{GoesAlong}
use Rattle.clk_machine.specs.Parts.{Parts, own_in, IsWhole}
use Rattle.clk_machine.specs.SettingOut.{SetsOut, CanSetOut, CanLower, CanSweep, NeverGoes, set_out, set_lower}
use Rattle.clk_machine.specs.Stands.{Stands, Enters}
use Rattle.clk_machine.specs.Starting.{released}
use Rattle.clk_machine.proofs.Entered.{own_stands}
use Rattle.clk_machine.proofs.Lowering.{lower_script, freed, Releases, written_less, whole_lowering, starts_lowering, enters_unprepare}
use Rattle.clk_machine.proofs.Probing.{probe_script_is, probe_links, whole_probing, starts_probe, enters_probe}
use Rattle.clk_machine.proofs.Ranging.{table_is}
use Rattle.clk_machine.proofs.Sweeping.{whole_sweeping, starts_sweep}
use Rattle.clk_machine.proofs.Starting.{raise_script, Started, begun_started, whole_started, starts_call, starts_as, enters_prepare}

-- ---- events

inside_state : (s t : State) (x : Turn) → (let y : State × Turn = (s, x) in Some y) ≡ (let y : State × Turn = (t, x) in Some y) → s ≡ t
inside_state s t x e = ap (λ (o : Option (State × Turn)). option_map_or (λ y. y.0) o s) e

-- what takes the parts on goes along
pub along_enters : (old new : Parts) (d : ℕ) (e : Event) (x : Turn) → Enters old d e x new → GoesAlong old d e x new
along_enters old new d e x enters s t stands sound step =
    let leads = enters.step s stands sound in
    subst (λ (u : State). Stands new u) (inside_state leads.to t (slotless x) (sym leads.next_ ∙ step)) leads.stands

-- a call that is answered at once doesn't go on
pub never_paid : (s t y : State) (d : ℕ) (what : Sleeping) (r : Reply) → next s d (event.Begin what) ≡ paid s (y, turn.Done r) → next s d (event.Begin what) ≡ Some (t, turn.Going) → ⊥
never_paid s t y d what r known step = let is = (paid_is s t (y, turn.Done r) turn.Going (sym known ∙ step)).1 in cc

-- nor does any, if no credit is left
pub never_poor : (m : Parts) (d : ℕ) (what : Sleeping) → m.credits ≤ m.spent → NeverGoes m d what
never_poor m d what poor s t stands sound step =
    let left = (begun_paid s t d what turn.Going step).0.left in
    let credits = stands.credits in
    let spent = stands.spent in
    absurd (omega arith)

-- ---- a prepare

pub set_started : (m : Parts) (d : ℕ) (what : Sleeping) (steps : List Micro) (f : FlightState) → SetsOut m d what steps f → Started m d what steps f
set_started m d what steps f sets =
    begun_started m d what steps f sets.start (plls m.desc.defs) sets.flight refl sets.driver sets.call_ sets.script sets.extra sets.vetoed

pub can_prepare : (m : Parts) (d : ℕ) (h : Handle) (row : HandleRow) (f : FlightState) → IsWhole m → m.flight.going ≡ false → m.spent < m.credits → own_in m.table.handles d h.number ≡ Some row
    → handle_at m.table.handles h.number ≡ Some row → true ≡ list_any (is_loose m.desc.defs m.counts) (path m.tree.clocks row.clock.0) → m.credits + m.steps + (34 * plls m.desc.defs + 2) ≤ most_credits
    → SetsOut m d (call.Prepare h) (raise_script row.clock) f → CanSetOut m d (call.Prepare h) f
can_prepare m d h row f whole quiet left own live some room sets =
    let now = set_started m d (call.Prepare h) (raise_script row.clock) f sets in
    record {
      whole = whole_started m d h row f whole left live own room now;
      along = along_enters m (set_out m f) d (event.Begin (call.Prepare h)) turn.Going
          (enters_prepare m (set_out m f) d h row whole quiet left (λ s stands. own_stands m s d h.number (Some row) stands own) some room
          (starts_call m d h row f now
          (λ s. sets.change s.notifiers (change_of s d (call.Prepare h) (raise_script row.clock))
          (starts_as s s.notifiers d (call.Prepare h) (raise_script row.clock) sets.start refl sets.driver sets.call_ sets.script sets.range sets.extra sets.vetoed))));
    }

-- ---- a registration

pub can_probe : (m : Parts) (d : ℕ) (c : ClockId) (orphans : List ℕ) (steps : List Micro) (f : FlightState) → IsWhole m → m.flight.going ≡ false → m.spent < m.credits → c.0 < length m.desc.defs
    → registered m.tree.clocks c.0 ≡ false → ((s : State) → Stands m s → orphans ≡ adopted (register s c.0)) → ((s : State) → Stands m s → IsSound m.window.size s → goes_on s c.0 ≡ true)
    → AreProbeSteps m c orphans steps → m.credits + m.steps + sum_by (step_weight (rows_from 0 m.chains) (plls m.desc.defs)) steps ≤ most_credits → SetsOut m d (call.Probe c) steps f
    → CanSetOut m d (call.Probe c) f
can_probe m d c orphans steps f whole quiet left place free adopts goes made room sets =
    let now = set_started m d (call.Probe c) steps f sets in
    record {
      whole = whole_probing m d c steps f whole left place (probe_script_is m c orphans steps made) (probe_links m c orphans steps made place free) room now;
      along = along_enters m (set_out m f) d (event.Begin (call.Probe c)) turn.Going
          (enters_probe m (set_out m f) d c orphans steps quiet left free adopts goes made room
          (starts_probe m d c steps f now
          (λ s. sets.change s.notifiers (change_of s d (call.Probe c) steps) (starts_as s s.notifiers d (call.Probe c) steps sets.start refl sets.driver sets.call_ sets.script sets.range sets.extra sets.vetoed))));
    }

-- ---- an unprepare

pub can_lower : (m : Parts) (d : ℕ) (h : Handle) (row : HandleRow) (f : FlightState) → m.flight.going ≡ false → Releases m h.number row → own_in m.table.handles d h.number ≡ Some row
    → keeps_prepare row ≡ false → ((s : State) → Stands m s → is_none (slice_get (freed s h.number row) 0) ≡ false) → m.credits + m.steps + (plls m.desc.defs + 2) ≤ most_credits
    → SetsOut m d (call.Unprepare h) (lower_script row.clock) f → CanLower m d h f
can_lower m d h row f quiet is own free freed_ room sets =
    let now = set_started m d (call.Unprepare h) (lower_script row.clock) f sets in
    let table' : HandleTable = record m.table { handles = set m.table.handles h.number (Some (prepared_less row)) } in
    let written = written_less m h.number row table' is refl refl in
    record {
      row = row;
      own = own;
      live = is.live;
      some = is.some;
      keeps = is.keeps;
      whole = whole_lowering m d h row table' f is written room now;
      along = along_enters m (set_lower m h.number row f) d (event.Begin (call.Unprepare h)) turn.Going
          (enters_unprepare m (set_lower m h.number row f) d h row quiet is.left (λ s stands. own_stands m s d h.number (Some row) stands own) free freed_ room
          (starts_lowering m d h row table' f written now
          (λ s. sets.change s.notifiers (change_of s d (call.Unprepare h) (lower_script row.clock))
          (starts_as s s.notifiers d (call.Unprepare h) (lower_script row.clock) sets.start refl sets.driver sets.call_ sets.script sets.range sets.extra sets.vetoed))));
    }

-- the parts behind it
pub lower_parts : (m : Parts) (n : ℕ) (row : HandleRow) (f f' : FlightState) (table' : HandleTable) (counts' : CountState) → f' ≡ f → table'.clocks ≡ m.table.clocks → table'.place ≡ m.table.place
    → table'.handles ≡ set m.table.handles n (Some (prepared_less row)) → counts' ≡ released m.counts row.clock.0
    → record m { flight = f'; spent = m.spent + 1; table = table'; counts = counts' } ≡ set_lower m n row f
lower_parts m n row f f' table' counts' flight clocks place handles counts =
    ap (λ (g : FlightState). let p : Parts = record m { flight = g; spent = m.spent + 1; table = table'; counts = counts' } in p) flight
    ∙ ap (λ (t : HandleTable). let p : Parts = record m { flight = f; spent = m.spent + 1; table = t; counts = counts' } in p)
    (table_is m.table table' (set m.table.handles n (Some (prepared_less row))) clocks place handles)
    ∙ ap (λ (k : CountState). let p : Parts = record m { flight = f; spent = m.spent + 1; table = record m.table { handles = set m.table.handles n (Some (prepared_less row)) }; counts = k } in p) counts

-- ---- a sweep

pub can_sweep : (m : Parts) (d : ℕ) (f : FlightState) → IsWhole m → m.spent < m.credits → m.credits + m.steps + 1 ≤ most_credits → SetsOut m d call.Sweep (micro.End ∷ []) f → CanSweep m d f
can_sweep m d f whole left room sets =
    let now = set_started m d call.Sweep (micro.End ∷ []) f sets in
    record {
      whole = whole_sweeping m d (micro.End ∷ []) f whole left refl room now;
      stands = (starts_sweep m d (micro.End ∷ []) f now
          (λ s. sets.change s.notifiers (change_of s d call.Sweep (micro.End ∷ []))
          (starts_as s s.notifiers d call.Sweep (micro.End ∷ []) sets.start refl sets.driver sets.call_ sets.script sets.range sets.extra sets.vetoed))).stands;
    }

pub no_room : (used : ℕ) → nat_le (used + 1) most_credits ≡ false → most_credits < used + 1
no_room used full = grind (arith, nat_tests)
