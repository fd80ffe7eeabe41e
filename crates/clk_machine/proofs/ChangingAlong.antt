-- That a change of rate or parent can go on with what was made before.
use Rattle.std.proofs.Common.{◌≡◌, ℕ, ◌+◌, ◌<◌, true, false, List, Option, Some, None, refl, sym, ap, subst, ◌∙◌, arith}
use Rattle.std.specs.Prelude.{sum_by, is_some}
use Rattle.std.specs.List.{list_all}
use Rattle.std.specs.Option.{option_map}
use Rattle.clk_base.specs.declared.call.Micro.{Micro}
use Rattle.clk_base.specs.declared.call.Sleeping.{Sleeping}
use Rattle.clk_base.specs.declared.call.Sleeping.TheVariants as call
use Rattle.clk_base.specs.declared.event.Errno.{Errno}
use Rattle.clk_base.specs.declared.event.Event.TheVariants as event
use Rattle.clk_base.specs.declared.event.Reply.TheVariants as reply
use Rattle.clk_base.specs.declared.event.Turn.{Turn}
use Rattle.clk_base.specs.declared.event.Turn.TheVariants as turn
use Rattle.clk_base.specs.declared.handle.Handle.{Handle}
use Rattle.clk_flight.specs.Begun.{begun}
use Rattle.clk_flight.specs.Flights.{FlightState}
use Rattle.clk_flight.specs.LeftOver.{left_over, step_weight}
use Rattle.clk_flight.specs.declared.start.Start.{Start}
use Rattle.clk_model.specs.declared.row.HandleRow.{HandleRow}
use Rattle.clk_model.specs.Script.{plls}
use Rattle.clk_model.specs.State.{State, NotifierRow, registered, handle_at}
use Rattle.clk_model.proofs.EventLaws.{own_is_live}
use Rattle.clk_model.proofs.FlightLaws.{begin_is}
use Rattle.clk_model.specs.Step.{sets_parent}
use Rattle.core_parts.specs.Course.{CourseState, notifiers_at, tells_all}
use Rattle.core_parts.specs.InFlight.{can_link, changes_rate, is_ranged, is_script, may_go_on, probes}
use Rattle.core_parts.specs.Listed.{rows_from}
use Rattle.clk_machine.specs.ChangingAlong.{SetsAlong, CanChange, CanRange, Changes, range_of, set_along}
use Rattle.clk_machine.specs.Parts.{Parts, bare, own_in, with_range, IsOwnCall, IsWhole}
use Rattle.clk_machine.specs.Readied.{Scripted}
use Rattle.clk_machine.specs.Readied as readied
use Rattle.clk_machine.specs.Readying.{CanGoAlong, IsReady, StartsAlong}
use Rattle.clk_machine.specs.SettingOut.{NeverGoes}
use Rattle.clk_machine.proofs.Readying.{room_to_start, proceeds_along, leads_along, proceeds_within, leads_within, enters_readied}
use Rattle.clk_machine.proofs.SettingOut.{along_enters, never_paid}
use Rattle.clk_machine.proofs.Starting.{with_spent, whole_flying}
use Rattle.clk_machine.proofs.Writing.{whole_spent}

-- ---- the parts stay whole

-- along another course, while no change is in flight
whole_course : (m : Parts) (course : CourseState) → IsWhole m → m.flight.going ≡ false → IsWhole (record m { course = course })
whole_course m course whole quiet = record {
  tied = whole.tied;
  paid = whole.paid;
  counted = record { keeps = whole.counted.keeps; stands = whole.counted.stands };
  clocks = whole.clocks;
  handled = whole.handled;
  notified = whole.notified;
  listed = whole.listed;
  flown = λ going. let so : true ≡ false = sym going ∙ quiet in absurd cc;
  room = whole.room;
  prepares_held = whole.prepares_held;
  enables_held = whole.enables_held;
}

-- what such a call is
record IsChanging (what : Sleeping) : Type 0 where
  goes : may_go_on what ≡ true
  none : (c : ℕ) → probes what c ≡ false

is_changing : (what : Sleeping) → changes_rate what ≡ true → IsChanging what
is_changing (call.SetRate h x) changes = record { goes = refl; none = λ c. refl }
is_changing (call.SetRateExclusive h x) changes = record { goes = refl; none = λ c. refl }
is_changing (call.SetRange h least most) changes = record { goes = refl; none = λ c. refl }
is_changing (call.SetParent h p) changes = record { goes = refl; none = λ c. refl }
is_changing _ changes = absurd cc

begun_left : (rows : List NotifierRow) (start : Start) (n : ℕ) → left_over rows (begun start n) ≡ sum_by (step_weight rows n) start.script.items + start.extra
begun_left rows start n = omega arith

whole_begun : (m : Parts) (d : ℕ) (what : Sleeping) (scripted : Scripted) (start : Start) → IsWhole m → m.flight.going ≡ false → m.spent < m.credits → changes_rate what ≡ true → CanGoAlong m d what scripted
    → start.driver ≡ d → start.call ≡ what → start.script.items ≡ scripted.steps → start.extra ≡ scripted.extra → IsWhole (set_along m (begun start (plls m.desc.defs)) scripted.course)
whole_begun m d what scripted start whole quiet left changes can driver same steps extra =
    let n : ℕ = plls m.desc.defs in
    let f : FlightState = begun start n in
    let p : Parts = record (with_spent m) { course = scripted.course } in
    let kind = is_changing what changes in
    whole_flying p f (whole_course (with_spent m) scripted.course (whole_spent m whole left) quiet) (record {
      plls_ = refl;
      way = record {
        call_ = ap may_go_on same ∙ kind.goes;
        script = ap (λ (w : Sleeping). is_script w (registered m.tree.clocks) start.script.items) same ∙ ap (λ (ms : List Micro). is_script what (registered m.tree.clocks) ms) steps ∙ can.script;
        front = refl;
        raised = refl;
        cut = refl;
        extra = λ other. extra ∙ can.lone (ap sets_parent (sym same) ∙ other);
        vetoed = λ is. ap changes_rate same ∙ changes;
      };
      own = subst (λ (w : Sleeping). IsOwnCall m.table.handles start.driver w) (sym same) (subst (λ (e : ℕ). IsOwnCall m.table.handles e what) (sym driver) can.own);
      paid = let few = whole.paid.few_holds in omega arith;
      tells = λ is. record { front = tt; visits = ap (λ (ms : List Micro). tells_all (notifiers_at m.chains) ms scripted.course.notified) steps ∙ can.tells };
      links = λ is. ap (λ (ms : List Micro). list_all (can_link m.desc.defs m.tree.clocks) ms) steps ∙ can.links;
      placed = λ c here. let so : true ≡ false = sym here ∙ ap (λ (w : Sleeping). probes w c) same ∙ kind.none c in absurd cc;
    }) (let room = room_to_start m d what scripted start.script.items start.extra can steps extra in let weighs = begun_left (rows_from 0 m.chains) start n in omega arith)

pub whole_along : (m : Parts) (d : ℕ) (what : Sleeping) (scripted : Scripted) (f : FlightState) → IsWhole m → m.flight.going ≡ false → m.spent < m.credits → changes_rate what ≡ true → CanGoAlong m d what scripted
    → SetsAlong m d what scripted f → IsWhole (set_along m f scripted.course)
whole_along m d what scripted f whole quiet left changes can sets =
    subst (λ (g : FlightState). IsWhole (set_along m g scripted.course)) (sym sets.flight)
    (whole_begun m d what scripted sets.start whole quiet left changes can sets.is.driver_ sets.is.call sets.is.script sets.is.extra)

-- ---- the change goes on

pub starts_along : (m : Parts) (d : ℕ) (what : Sleeping) (scripted : Scripted) (range : Option (ℕ × ℕ)) (f : FlightState) → range_of m d what ≡ range → SetsAlong m d what scripted f
    → StartsAlong m d what range scripted (set_along m f scripted.course)
starts_along m d what scripted range f ranged sets = record {
  start = sets.start;
  is = record { driver_ = sets.is.driver_; call = sets.is.call; script = sets.is.script; range_ = sets.is.range_ ∙ ranged; extra = sets.is.extra; vetoed = sets.is.vetoed };
  starts = record {
    remains = record { desc = refl; told = refl; size = refl; behind = refl; credits = refl; ignore_unused = refl };
    spent = refl;
    locks = refl;
    rows = λ c. refl;
    table = refl;
    going = ap (λ (g : FlightState). g.going) sets.flight;
    driver_ = ap (λ (g : FlightState). g.driver) sets.flight;
    left = ap (left_over (rows_from 0 m.chains)) sets.flight ∙ begun_left (rows_from 0 m.chains) sets.start (plls m.desc.defs);
    stands = λ s k stands begins. record {
      defs = stands.defs;
      regs = stands.regs;
      clocks = stands.clocks;
      order = stands.order;
      handles = stands.handles;
      notifiers = stands.notifiers;
      prepare_holds = stands.prepare_holds;
      enable_holds = stands.enable_holds;
      change = sets.change s.notifiers k begins.starts;
      along = λ changes. record { chain = begins.chain; rates = begins.rates };
      credits = stands.credits;
      spent = ap (λ (n : ℕ). n + 1) stands.spent;
      steps = stands.steps;
      ignore_unused = stands.ignore_unused;
    };
  };
}

plain_range : (m : Parts) (d : ℕ) (what : Sleeping) → is_ranged what ≡ false → range_of m d what ≡ None
plain_range m d (call.SetRange h least most) plain = absurd cc
plain_range m d _ plain = refl

can_change : (m : Parts) (d : ℕ) (what : Sleeping) (scripted : Scripted) (f : FlightState) → IsWhole m → m.flight.going ≡ false → m.spent < m.credits → changes_rate what ≡ true → is_ranged what ≡ false
    → CanGoAlong m d what scripted → IsReady m d what (readied.Change scripted) → SetsAlong m d what scripted f → CanChange m d what f scripted.course
can_change m d what scripted f whole quiet left changes plain can ready sets = record {
  whole = whole_along m d what scripted f whole quiet left changes can sets;
  along = along_enters m (set_along m f scripted.course) d (event.Begin what) turn.Going
      (enters_readied m (set_along m f scripted.course) d what (readied.Change scripted) turn.Going ready
      (proceeds_along m (set_along m f scripted.course) d what scripted changes can (starts_along m d what scripted None f (plain_range m d what plain) sets))
      (leads_along m (set_along m f scripted.course) d what scripted left plain (starts_along m d what scripted None f (plain_range m d what plain) sets)));
}

-- the row of the handle that it is on
own_row : (m : Parts) (d : ℕ) (h : Handle) → is_some (own_in m.table.handles d h.number) ≡ true → (row : HandleRow) × (own_in m.table.handles d h.number ≡ Some row)
own_row m d h own = by (own_in m.table.handles d h.number) refl own where
  by : (o : Option HandleRow) → own_in m.table.handles d h.number ≡ o → is_some o ≡ true → (row : HandleRow) × (own_in m.table.handles d h.number ≡ Some row)
  by None at is = absurd cc
  by (Some row) at is = (row, at)

can_range : (m : Parts) (d : ℕ) (h : Handle) (least most : ℕ) (scripted : Scripted) (f : FlightState) → IsWhole m → m.flight.going ≡ false → m.spent < m.credits
    → CanGoAlong m d (call.SetRange h least most) scripted → IsReady m d (call.SetRange h least most) (readied.Change scripted) → SetsAlong m d (call.SetRange h least most) scripted f
    → CanRange m d h least most f scripted.course
can_range m d h least most scripted f whole quiet left can ready sets =
    let found = own_row m d h can.own in
    let live : handle_at m.table.handles h.number ≡ Some found.0 = own_is_live (bare m) d h.number found.0 found.1 in
    let what : Sleeping = call.SetRange h least most in
    let between : Parts = set_along m f scripted.course in
    let new : Parts = with_range between h.number least most in
    let starts : StartsAlong m d what (Some (found.0.min, found.0.max)) scripted between =
    starts_along m d what scripted (Some (found.0.min, found.0.max)) f (ap (λ (o : Option HandleRow). option_map (λ r. (r.min, r.max)) o) found.1) sets in
    record {
      row = found.0;
      own = found.1;
      live = live;
      whole = whole_along m d what scripted f whole quiet left refl can sets;
      along = along_enters m (with_range (set_along m f scripted.course) h.number least most) d (event.Begin what) turn.Going
          (enters_readied m new d what (readied.Change scripted) turn.Going ready (proceeds_within m between new d h least most found.0 scripted can starts refl)
          (leads_within m between new d h least most found.0 scripted left found.1 live starts refl));
    }

pub can_go : (m : Parts) (d : ℕ) (what : Sleeping) (scripted : Scripted) (f : FlightState) → IsWhole m → m.flight.going ≡ false → m.spent < m.credits → changes_rate what ≡ true
    → CanGoAlong m d what scripted → IsReady m d what (readied.Change scripted) → SetsAlong m d what scripted f → Changes m d what f scripted.course
can_go m d (call.SetRate h x) scripted f whole quiet left changes can ready sets = can_change m d (call.SetRate h x) scripted f whole quiet left changes refl can ready sets
can_go m d (call.SetRateExclusive h x) scripted f whole quiet left changes can ready sets = can_change m d (call.SetRateExclusive h x) scripted f whole quiet left changes refl can ready sets
can_go m d (call.SetRange h least most) scripted f whole quiet left changes can ready sets = can_range m d h least most scripted f whole quiet left can ready sets
can_go m d (call.SetParent h p) scripted f whole quiet left changes can ready sets = can_change m d (call.SetParent h p) scripted f whole quiet left changes refl can ready sets
can_go m d _ scripted f whole quiet left changes can ready sets = absurd cc

-- ---- a change that doesn't go on

pub never_refused : (m : Parts) (d : ℕ) (what : Sleeping) (e : Errno) → IsReady m d what (readied.Refused e) → NeverGoes m d what
never_refused m d what e ready s t stands sound step = never_paid s t s d what (reply.Refused e) (ready s stands sound) step

pub never_at_once : (m : Parts) (d : ℕ) (what : Sleeping) → IsReady m d what readied.AtOnce → NeverGoes m d what
never_at_once m d what ready s t stands sound step =
    let ends = ready s stands sound in
    let so : turn.Done reply.Fine ≡ turn.Going = sym (ap (λ (y : State × Turn). y.1) ends.begins) ∙ (begin_is s t d what turn.Going step).2 in
    cc
