-- The parts of a core where a step of the change in flight is made.
use Rattle.std.proofs.Common.{◌≡◌, ℕ, ◌+◌, ◌<◌, ◌&&◌, ◌||◌, inl, inr, not, Bool, true, false, cond, List, [], ◌∷◌, Option, Some, None, refl, sym, ap, subst, ◌∙◌, arith, length, filter, reverse}
use Rattle.std.specs.Prelude.{is_some, slice_get, IfSome}
use Rattle.std.specs.Option.{option_map, option_map_or}
use Rattle.std.proofs.Math.Bool.{or-false}
use Rattle.clk_base.specs.declared.call.Micro.{Micro}
use Rattle.clk_base.specs.declared.call.Micro.TheVariants as micro
use Rattle.clk_base.specs.declared.call.Sleeping.{Sleeping}
use Rattle.clk_base.specs.declared.clock.ClockId.{ClockId}
use Rattle.clk_base.specs.declared.event.Event.TheVariants as event
use Rattle.clk_base.specs.declared.event.Turn.TheVariants as turn
use Rattle.clk_base.specs.Description.{Description, kind_of}
use Rattle.clk_model.specs.declared.row.ClockRow.{ClockRow}
use Rattle.clk_model.specs.Lists.{is_in}
use Rattle.clk_model.specs.State.{State, Change, registered, link_in}
use Rattle.clk_model.specs.Kinds.{is_pll}
use Rattle.clk_model.specs.Tree.{path, path_to_be, link_given}
use Rattle.clk_model.specs.Holders.{prepared}
use Rattle.clk_model.specs.Script.{unprepared_plls, runs}
use Rattle.clk_model.specs.Step.{todo, taken, to_raise, to_lower, is_register}
use Rattle.clk_model.proofs.Members.{is_in-reverse, is_in_cases, or_cases, or_left}
use Rattle.clk_model.proofs.PllLaws.{at_place}
use Rattle.clk_model.proofs.PowerLaws.{filter-agree}
use Rattle.clk_model.proofs.OnceLaws.{is_in-filter}
use Rattle.clk_model.proofs.PathLaws.{path_all}
use Rattle.clk_flight.specs.Flights.{FlightState, IsChange, Flies}
use Rattle.clk_flight.specs.LeftOver.{left_over}
use Rattle.core_parts.specs.Window.{Shown}
use Rattle.core_parts.specs.InFlight.{can_link, changes_rate, IsUnderWay, links_clocks, probes, is_near}
use Rattle.core_parts.specs.Course.{IsAlong, notifiers_at}
use Rattle.core_parts.specs.Listed.{rows_from}
use Rattle.core_parts.specs.Tied.{AreTied}
use Rattle.clk_machine.specs.Parts.{Parts, IsOwnCall, IsWhole}
use Rattle.core_parts.specs.declared.plls.Sought.{Sought}
use Rattle.core_parts.specs.Plls.{is_loose, raisable, lowerable, Finds}
use Rattle.clk_machine.specs.Sound.{IsSound}
use Rattle.clk_machine.specs.Stands.{Stands, Leads, Enters, step_registers, starts_or_polls}
use Rattle.core_parts.proofs.HeldCounts.{held_on}
use Rattle.core_parts.proofs.Moving.{clock_within, path_within_desc}
use Rattle.clk_machine.proofs.Rows.{holds_stand}
use Rattle.clk_machine.proofs.Stepping.{IsNext}
use Rattle.core_parts.proofs.SameCall.{SameCall, KeepsAlong}

-- the parts with these words and this flight, and a step counted
abbrev pub with_step : Parts → Shown → FlightState → Parts
with_step old window' flight' = record old { window = window'; flight = flight'; steps = old.steps + 1 }

-- the parts stay whole
pub whole_stepped : (old : Parts) (window' : Shown) (flight' : FlightState) → IsWhole old → AreTied old.desc window' old.tree → old.flight.going ≡ true → KeepsAlong old.flight flight' → SameCall old.flight flight'
    → IsUnderWay (registered old.tree.clocks) flight' → left_over (rows_from 0 old.chains) flight' < left_over (rows_from 0 old.chains) old.flight → IsWhole (with_step old window' flight')
whole_stepped old window' flight' whole tied going along same way less =
    let flown = whole.flown going in
    record {
      tied = tied;
      paid = whole.paid;
      counted = record { keeps = whole.counted.keeps; stands = whole.counted.stands };
      clocks = whole.clocks;
      handled = whole.handled;
      notified = whole.notified;
      listed = whole.listed;
      flown = λ still. record {
        plls_ = same.plls ∙ flown.plls_;
        way = way;
        own = subst (λ (d : ℕ). IsOwnCall old.table.handles d flight'.call) (sym same.driver)
            (subst (λ (what : Sleeping). IsOwnCall old.table.handles old.flight.driver what) (sym same.call) flown.own);
        paid = flown.paid;
        tells = λ changes. along.tells (notifiers_at old.chains) old.course.notified (flown.tells (sym (ap changes_rate along.call) ∙ changes));
        links = λ changes. along.links (can_link old.desc.defs old.tree.clocks) (flown.links (sym (ap links_clocks along.call) ∙ changes));
        placed = λ c here. flown.placed c (sym (ap (λ (what : Sleeping). probes what c) along.call) ∙ here);
      };
      room = let room = whole.room in omega arith;
      prepares_held = held_on _ _ _ _ whole.prepares_held;
      enables_held = held_on _ _ _ _ whole.enables_held;
    }

-- they stand for the state with these words and this change
pub stands_stepped : (old : Parts) (window' : Shown) (flight' : FlightState) (s : State) (regs' : List ℕ) (change' : Option Change) → Stands old s → window'.words ≡ Some regs'
    → IsAlong old.course change' → Flies s.notifiers flight' change' → Stands (with_step old window' flight') (record s { regs = regs'; change = change'; steps = s.steps + 1 })
stands_stepped old window' flight' s regs' change' stands words along flies = record {
  defs = stands.defs;
  regs = words;
  clocks = stands.clocks;
  order = stands.order;
  handles = stands.handles;
  notifiers = stands.notifiers;
  prepare_holds = stands.prepare_holds;
  enable_holds = stands.enable_holds;
  change = flies;
  along = along;
  credits = stands.credits;
  spent = stands.spent;
  steps = ap (λ (n : ℕ). n + 1) stands.steps;
  ignore_unused = stands.ignore_unused;
}

-- a step that is no registration registers no clock
pub no_registers : (m : Micro) (c : ℕ) → is_register m ≡ false → step_registers m c ≡ false
no_registers (micro.Register k) c e = absurd cc
no_registers _ c e = refl

-- a step after which the call goes on, and that registers no clock, takes the parts on
pub enters_step : (old : Parts) (window' : Shown) (flight' : FlightState) (m : Micro) (answer : Option Bool) → is_register m ≡ false → is_some window'.words ≡ is_some old.window.words → window'.size ≡ old.window.size
    → window'.behind ≡ old.window.behind → (starts_or_polls (event.Step m answer) ≡ false → window'.locks ≡ old.window.locks) → flight'.going ≡ true → flight'.driver ≡ old.flight.driver → left_over (rows_from 0 old.chains) flight' < left_over (rows_from 0 old.chains) old.flight
    → ((s : State) → Stands old s → IsSound old.window.size s → Leads s old.flight.driver (event.Step m answer) turn.Going (with_step old window' flight'))
    → Enters old old.flight.driver (event.Step m answer) turn.Going (with_step old window' flight')
enters_step old window' flight' m answer plain told size behind locks going same less leads = record {
  remains = record { desc = refl; told = told; size = size; behind = behind; credits = refl; ignore_unused = refl };
  pays = let same : old.spent ≡ old.spent + 0 = omega arith in same;
  rows = λ c. sym (or-false (registered old.tree.clocks c)) ∙ ap (λ (t : Bool). registered old.tree.clocks c || t) (sym (no_registers m c plain));
  going = going;
  driver_ = λ still. same;
  fewer = λ free. less;
  begun = λ paid. absurd cc;
  no_more = λ paid. absurd cc;
  locks = locks;
  beside = λ tier. absurd cc;
  step = leads;
}

-- ---- the change of the state

-- the flight of parts in flight is the change of each state that they stand for
pub record HasChange (m : Parts) (s : State) : Type 0 where
  pub k : Change
  pub change : s.change ≡ Some k
  pub is : IsChange s.notifiers m.flight k
  pub along : IsAlong m.course (Some k)

pub change_of : (m : Parts) (s : State) → Stands m s → m.flight.going ≡ true → HasChange m s
change_of m s stands going = by s.change refl stands.change stands.along where
  by : (o : Option Change) → s.change ≡ o → Flies s.notifiers m.flight o → IsAlong m.course o → HasChange m s
  by None at flies along = let no : true ≡ false = sym going ∙ flies in absurd cc
  by (Some k) at flies along = record { k = k; change = at; is = flies; along = along }

-- the step that comes first is the next one of that change
pub next_of : (m : Parts) (s : State) (step : Micro) (has : HasChange m s) → slice_get (todo has.k) 0 ≡ Some step → IsNext s m.flight.driver has.k step
next_of m s step has first = record { change = has.change; driver = has.is.driver; first = first }

-- ---- the PLLs of a path

loose_stands : (m : Parts) (s : State) (c : ℕ) → IsWhole m → Stands m s → (is_pll (kind_of s.defs c) && not (prepared s c)) ≡ is_loose m.desc.defs m.counts c
loose_stands m s c whole stands =
    ap (λ (d : Description). is_pll (kind_of d c) && not (prepared s c)) stands.defs
    ∙ ap (λ (b : Bool). is_pll (kind_of m.desc.defs c) && not b) (sym (holds_stand m s c whole stands).prepared)

-- those of these clocks
pub loose_among : (m : Parts) (s : State) (xs : List ℕ) → IsWhole m → Stands m s → unprepared_plls s xs ≡ filter (is_loose m.desc.defs m.counts) xs
loose_among m s xs whole stands = filter-agree (λ c. is_pll (kind_of s.defs c) && not (prepared s c)) (is_loose m.desc.defs m.counts) xs (λ c. loose_stands m s c whole stands)

pub unprepared_stand : (m : Parts) (s : State) (x : ℕ) → IsWhole m → Stands m s → unprepared_plls s (path s.clocks x) ≡ filter (is_loose m.desc.defs m.counts) (path m.tree.clocks x)
unprepared_stand m s x whole stands = loose_among m s (path s.clocks x) whole stands ∙ ap (λ (rs : List ClockRow). filter (is_loose m.desc.defs m.counts) (path rs x)) stands.clocks

-- the path that a clock has, or is to get
pub path_stands : (m : Parts) (s : State) (x : ℕ) → Stands m s → path_to_be s.defs s.regs s.clocks x ≡ path_to_be m.desc.defs s.regs m.tree.clocks x
path_stands m s x stands =
    ap (λ (ds : Description). path_to_be ds s.regs s.clocks x) stands.defs ∙ ap (λ (rs : List ClockRow). path_to_be m.desc.defs s.regs rs x) stands.clocks

-- of a clock that isn't registered, where its registration gives it this parent
pub path_under : (defs : Description) (regs : List ℕ) (clocks : List ClockRow) (c : ℕ) (parent : Option ClockId) → registered clocks c ≡ false → option_map (λ p. p.0) parent ≡ link_given defs regs clocks c
    → c ∷ option_map_or (λ p. path clocks p.0) parent [] ≡ path_to_be defs regs clocks c
path_under defs regs clocks c parent free given =
    ap (λ (ys : List ℕ). c ∷ ys) (up parent) ∙ ap (λ (o : Option ℕ). c ∷ option_map_or (path clocks) o []) given
    ∙ sym (ap (λ (t : Bool). cond t (path clocks c) (c ∷ option_map_or (path clocks) (link_given defs regs clocks c) [])) free) where
      up : (o : Option ClockId) → option_map_or (λ p. path clocks p.0) o [] ≡ option_map_or (path clocks) (option_map (λ p. p.0) o) []
      up None = refl
      up (Some p) = refl

-- what a raise is to power
pub to_raise_stands : (m : Parts) (s : State) (k : Change) (x : ℕ) → IsWhole m → Stands m s → IsChange s.notifiers m.flight k
    → to_raise s (taken k) x ≡ raisable m.desc.defs m.counts m.flight.raised (path_to_be m.desc.defs s.regs m.tree.clocks x)
to_raise_stands m s k x whole stands is =
    ap (λ (ys : List ℕ). filter (λ y. not (is_in y ys)) (unprepared_plls s (path_to_be s.defs s.regs s.clocks x))) is.raised
    ∙ ap (λ (xs : List ℕ). filter (λ y. not (is_in y m.flight.raised)) (unprepared_plls s xs)) (path_stands m s x stands)
    ∙ ap (filter (λ y. not (is_in y m.flight.raised))) (loose_among m s (path_to_be m.desc.defs s.regs m.tree.clocks x) whole stands)

-- what a lower is to switch off
pub to_lower_stands : (m : Parts) (s : State) (x : ℕ) → IsWhole m → Stands m s → to_lower s x ≡ lowerable m.desc.defs m.counts s.regs (path m.tree.clocks x)
to_lower_stands m s x whole stands =
    ap (λ (d : Description). filter (runs d s.regs) (unprepared_plls s (path s.clocks x))) stands.defs
    ∙ ap (filter (runs m.desc.defs s.regs)) (unprepared_stand m s x whole stands)

-- each of them is a registered clock of the path
pub on_path : (m : Parts) (x y : ℕ) → IsWhole m → registered m.tree.clocks x ≡ true → is_in y (path m.tree.clocks x) ≡ true → (registered m.tree.clocks y ≡ true) × (y < length m.desc.defs)
on_path m x y whole here inside = (
  path_all (λ b. registered m.tree.clocks b ≡ true) (link_in m.tree.clocks) _ x y (λ d p _ e. whole.tied.stands.links d p e) here inside,
  path_within_desc m.desc m.window m.tree _ x whole.tied here y inside,
)

-- a clock that is registered, or that the call in flight registers, is one of the description
pub near_within : (m : Parts) (y : ℕ) → IsWhole m → m.flight.going ≡ true → is_near m.flight.call (registered m.tree.clocks) y ≡ true → y < length m.desc.defs
near_within m y whole going near = elim (or_cases (registered m.tree.clocks y) (probes m.flight.call y) near) [
  | inl there ↦ clock_within m.desc m.window m.tree y whole.tied there
  | inr own ↦ (whole.flown going).placed y own
]

-- ---- what a raise finds

-- each clock of a list passes near, so what is found among its PLLs does
found_near : (m : Parts) (found : Sought) (xs : List ℕ) → Finds found (reverse (raisable m.desc.defs m.counts m.flight.raised xs)) → ((y : ℕ) → is_in y xs ≡ true → is_near m.flight.call (registered m.tree.clocks) y ≡ true)
    → IfSome found.pll (λ pll. is_near m.flight.call (registered m.tree.clocks) pll.0 ≡ true)
found_near m found xs finds each = by found.pll finds.first where
  ys : List ℕ
  ys = raisable m.desc.defs m.counts m.flight.raised xs

  by : (o : Option ClockId) → option_map (λ c. c.0) o ≡ slice_get (reverse ys) 0 → IfSome o (λ pll. is_near m.flight.call (registered m.tree.clocks) pll.0 ≡ true)
  by None at = tt
  by (Some y) at =
      each y.0
      (is_in-filter (is_loose m.desc.defs m.counts) y.0 xs
      (is_in-filter (λ c. not (is_in c m.flight.raised)) y.0 (filter (is_loose m.desc.defs m.counts) xs) (sym (is_in-reverse y.0 ys) ∙ at_place (reverse ys) 0 y.0 (sym at))))

-- and it is found on the path that the clock has, or is to get
found_told : (m : Parts) (x : ℕ) (found : Sought) (xs : List ℕ) (words : Option (List ℕ)) → IfSome words (λ regs. xs ≡ path_to_be m.desc.defs regs m.tree.clocks x) → Finds found (reverse (raisable m.desc.defs m.counts m.flight.raised xs))
    → IfSome words (λ regs. Finds found (reverse (raisable m.desc.defs m.counts m.flight.raised (path_to_be m.desc.defs regs m.tree.clocks x))))
found_told m x found xs None same finds = tt
found_told m x found xs (Some regs) same finds = subst (λ (ys : List ℕ). Finds found (reverse (raisable m.desc.defs m.counts m.flight.raised ys))) same finds

pub found_on_path : (m : Parts) (x : ℕ) (found : Sought) → registered m.tree.clocks x ≡ true → Finds found (reverse (raisable m.desc.defs m.counts m.flight.raised (path m.tree.clocks x)))
    → IfSome m.window.words (λ regs. Finds found (reverse (raisable m.desc.defs m.counts m.flight.raised (path_to_be m.desc.defs regs m.tree.clocks x))))
found_on_path m x found here finds = found_told m x found (path m.tree.clocks x) m.window.words (same m.window.words) finds where
  same : (words : Option (List ℕ)) → IfSome words (λ regs. path m.tree.clocks x ≡ path_to_be m.desc.defs regs m.tree.clocks x)
  same None = tt
  same (Some regs) = sym (ap (λ (t : Bool). cond t (path m.tree.clocks x) (x ∷ option_map_or (path m.tree.clocks) (link_given m.desc.defs regs m.tree.clocks x) [])) here)

pub near_on_path : (m : Parts) (x : ℕ) (found : Sought) → IsWhole m → registered m.tree.clocks x ≡ true → Finds found (reverse (raisable m.desc.defs m.counts m.flight.raised (path m.tree.clocks x)))
    → IfSome found.pll (λ pll. is_near m.flight.call (registered m.tree.clocks) pll.0 ≡ true)
near_on_path m x found whole here finds = found_near m found (path m.tree.clocks x) finds (λ y inside. or_left (registered m.tree.clocks y) (probes m.flight.call y) (on_path m x y whole here inside).0)

pub found_under : (m : Parts) (x : ℕ) (parent : Option ClockId) (found : Sought) → registered m.tree.clocks x ≡ false → IfSome m.window.words (λ regs. option_map (λ p. p.0) parent ≡ link_given m.desc.defs regs m.tree.clocks x)
    → Finds found (reverse (raisable m.desc.defs m.counts m.flight.raised (x ∷ option_map_or (λ p. path m.tree.clocks p.0) parent [])))
    → IfSome m.window.words (λ regs. Finds found (reverse (raisable m.desc.defs m.counts m.flight.raised (path_to_be m.desc.defs regs m.tree.clocks x))))
found_under m x parent found free given finds = found_told m x found (x ∷ option_map_or (λ p. path m.tree.clocks p.0) parent []) m.window.words (same m.window.words given) finds where
  same : (words : Option (List ℕ)) → IfSome words (λ regs. option_map (λ p. p.0) parent ≡ link_given m.desc.defs regs m.tree.clocks x)
      → IfSome words (λ regs. x ∷ option_map_or (λ p. path m.tree.clocks p.0) parent [] ≡ path_to_be m.desc.defs regs m.tree.clocks x)
  same None is = tt
  same (Some regs) is = path_under m.desc.defs regs m.tree.clocks x parent free is

pub near_under : (m : Parts) (x : ℕ) (parent : Option ClockId) (found : Sought) → IsWhole m → is_near m.flight.call (registered m.tree.clocks) x ≡ true → IfSome parent (λ p. registered m.tree.clocks p.0 ≡ true)
    → Finds found (reverse (raisable m.desc.defs m.counts m.flight.raised (x ∷ option_map_or (λ p. path m.tree.clocks p.0) parent [])))
    → IfSome found.pll (λ pll. is_near m.flight.call (registered m.tree.clocks) pll.0 ≡ true)
near_under m x parent found whole near there finds =
    found_near m found (x ∷ option_map_or (λ p. path m.tree.clocks p.0) parent []) finds (λ y inside. elim (is_in_cases y x (option_map_or (λ p. path m.tree.clocks p.0) parent []) inside) [
      | inl same ↦ ap (λ (z : ℕ). is_near m.flight.call (registered m.tree.clocks) z) (sym same) ∙ near
      | inr above ↦ by y parent there above
    ]) where
      by : (y : ℕ) (o : Option ClockId) → IfSome o (λ p. registered m.tree.clocks p.0 ≡ true) → is_in y (option_map_or (λ p. path m.tree.clocks p.0) o []) ≡ true → is_near m.flight.call (registered m.tree.clocks) y ≡ true
      by y None here inside = absurd cc
      by y (Some p) here inside = or_left (registered m.tree.clocks y) (probes m.flight.call y) (on_path m p.0 y whole here inside).0
