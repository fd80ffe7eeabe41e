-- What a visit makes of the parts of a core.
use Rattle.std.proofs.Common.{◌≡◌, ℕ, ◌+◌, ◌<◌, ◌≤◌, ◌&&◌, ◌||◌, Bool, true, false, List, [], ◌∷◌, Option, Some, None, refl, sym, ap, subst, ◌∙◌, arith, length, nat_eq}
use Rattle.std.specs.Prelude.{is_some, IfSome, slice_get, slice_index, if◌then◌else◌}
use Rattle.std.specs.List.{AllByRecursion, list_all}
use Rattle.std.proofs.Math.Bool.{or-false}
use Rattle.clk_base.specs.Description.{Description}
use Rattle.clk_base.specs.declared.call.Micro.{Micro}
use Rattle.clk_base.specs.declared.call.Micro.TheVariants as micro
use Rattle.clk_base.specs.declared.clock.ClockId.{ClockId}
use Rattle.clk_base.specs.declared.event.Event.TheVariants as event
use Rattle.clk_base.specs.declared.event.Turn.TheVariants as turn
use Rattle.reg_bank.specs.Registers.{Registers}
use Rattle.clk_model.specs.declared.row.ClockRow.{ClockRow}
use Rattle.clk_model.specs.State.{State, Change, ChainStep, NotifierRow, registered}
use Rattle.clk_model.specs.Rate.{rate}
use Rattle.clk_model.specs.Notices.{notifiers_of}
use Rattle.clk_model.specs.Step.{taken, visit, set_in_chain, rest_of}
use Rattle.clk_model.proofs.Members.{both_left, both_right, same_from_test}
use Rattle.clk_flight.specs.declared.front.Front.{Front}
use Rattle.clk_flight.specs.declared.front.Front.TheVariants.{Empty, Poll, Raise, Lower, Falls, Posts}
use Rattle.clk_flight.specs.Flights.{FlightState, Flies, own_first, own_step}
use Rattle.clk_flight.specs.Fronts.{front_behind, script_behind}
use Rattle.clk_flight.specs.LeftOver.{left_over}
use Rattle.clk_flight.specs.Moves.{gone_on, visited}
use Rattle.clk_flight.specs.Steps.{told_by_visit}
use Rattle.clk_flight.proofs.DropLaws.{visited-change}
use Rattle.clk_flight.proofs.LeftLaws.{visited-less}
use Rattle.clk_flight.proofs.KeptLaws.{going_step}
use Rattle.clk_tree.specs.TreeState.{TreeState, IsTree}
use Rattle.rate_planner.specs.Kept.{wired}
use Rattle.core_parts.specs.Window.{Shown, AreTold}
use Rattle.change_walk.specs.declared.changes.Changed.{Changed}
use Rattle.core_parts.specs.declared.posting.Posting.{Posting}
use Rattle.core_parts.specs.InFlight.{changes_rate, is_front, IsUnderWay, can_link, cuts_front}
use Rattle.core_parts.specs.Course.{CourseState, set_along, notifiers_at, begins_with, behind_first, behind_visit, tells_all, PostsFit, TellsAlong, GoesAlong}
use Rattle.clk_machine.specs.Making.{ComesFirst}
use Rattle.clk_machine.specs.Posted.{IsPosted}
use Rattle.core_parts.specs.Listed.{rows_from}
use Rattle.core_parts.specs.Tied.{AreKept}
use Rattle.clk_machine.specs.Parts.{Parts, bare, IsFlown, IsWhole}
use Rattle.clk_machine.specs.Sound.{IsSound}
use Rattle.clk_machine.specs.Stands.{Stands, Leads, Enters}
use Rattle.core_parts.proofs.HeldCounts.{held_on, held_still}
use Rattle.core_parts.proofs.Holdings.{StandsFor-same}
use Rattle.core_parts.proofs.InFlight.{first_seeks, script_rest}
use Rattle.clk_machine.proofs.Making.{change_of, next_of}
use Rattle.clk_machine.proofs.Stepping.{visits_one}
use Rattle.core_parts.proofs.NotifierRows.{count_told, rows_count}

-- a clock is visited: its setting is written, the kept rates follow, and so many of its notifiers are told next
pub record Visited (old : Parts) (c : ClockId) (window' : Shown) (tree' : TreeState) (posts' : Posting) (flight' : FlightState) (course' : CourseState) : Type 0 where
  pub whole : IsWhole old
  pub going : old.flight.going ≡ true
  pub own : own_step old.flight ≡ Some (micro.Visit c)
  pub first : ComesFirst old (micro.Visit c)
  pub size : window'.size ≡ old.window.size
  pub words : IfSome old.window.words (λ regs. window'.words ≡ Some (set_along old.flight.missed old.course.chain (wired old.desc.defs regs old.tree) c.0))
  pub told : is_some window'.words ≡ is_some old.window.words
  pub are : AreTold window'.size window'.words
  pub behind : window'.behind ≡ old.window.behind
  pub locks : window'.locks ≡ old.window.locks
  pub kept : AreKept old.desc.defs window'.words tree'.clocks tree'.rates
  pub rows : tree'.clocks ≡ old.tree.clocks
  pub order : tree'.order ≡ old.tree.order
  pub defs : tree'.defs ≡ old.tree.defs
  pub stands : IsTree tree'.defs tree'.clocks tree'.order tree'.rates
  pub none_ : notifiers_at old.chains c.0 ≡ 0 → posts' ≡ record { count = 0; before = 0; after = 0 }
  pub some_ : nat_eq (notifiers_at old.chains c.0) 0 ≡ false → (n : Changed) → slice_get old.course.notified 0 ≡ Some n
      → posts' ≡ record { count = if nat_eq (slice_index tree'.rates c.0) n.before then 0 else notifiers_at old.chains c.0; before = n.before; after = n.after }
  pub few : posts'.count ≤ notifiers_at old.chains c.0
  pub flight : flight' ≡ visited old.flight c posts'.count posts'.before posts'.after
  pub less : posts'.count ≤ length (notifiers_of (rows_from 0 old.chains) c.0) → left_over (rows_from 0 old.chains) flight' < left_over (rows_from 0 old.chains) old.flight
  pub chain : course'.chain ≡ old.course.chain
  pub notified : course'.notified ≡ behind_visit (notifiers_at old.chains c.0) old.course.notified

-- the parts behind it
abbrev pub with_visit : Parts → Shown → TreeState → FlightState → CourseState → Parts
with_visit old window' tree' flight' course' = record old { window = window'; tree = tree'; flight = flight'; course = course'; steps = old.steps + 1 }

-- ---- the script

-- the visit is the script's own
record OwnVisit (f : FlightState) (there : ℕ → Bool) (c : ClockId) : Type 0 where
  front : f.front ≡ Empty
  rest : List Micro
  left : f.left ≡ micro.Visit c ∷ rest
  changes : changes_rate f.call ≡ true
  there_ : there c.0 ≡ true

own_visit : (f : FlightState) (there : ℕ → Bool) (c : ClockId) → own_step f ≡ Some (micro.Visit c) → IsUnderWay there f → OwnVisit f there c
own_visit f there c own is = by f.front refl where
  first : own_first f f.front ≡ Some (micro.Visit c)
  first = going_step f.going (own_first f f.front) (micro.Visit c) own

  from : (left : List Micro) → f.left ≡ left → slice_get left 0 ≡ Some (micro.Visit c) → (rest : List Micro) × (f.left ≡ micro.Visit c ∷ rest)
  from [] at e = absurd cc
  from (m ∷ ms) at e = let same : m ≡ micro.Visit c = cc in (ms, at ∙ ap (λ (n : Micro). n ∷ ms) same)

  by : (front : Front) → f.front ≡ front → OwnVisit f there c
  by Empty at =
      let here : slice_get f.left 0 ≡ Some (micro.Visit c) = sym (ap (own_first f) at) ∙ first in
      let may : (changes_rate f.call && there c.0) ≡ true = first_seeks f there (micro.Visit c) here refl is.script in
      let left = from f.left refl here in
      record { front = at; rest = left.0; left = left.1; changes = both_left _ _ may; there_ = both_right _ _ may }
  by (Poll y polls again) at = let no = sym (ap (own_first f) at) ∙ first in absurd cc
  by (Raise x) at = let no = sym (ap (own_first f) at) ∙ first in absurd cc
  by (Lower x) at = let no = sym (ap (own_first f) at) ∙ first in absurd cc
  by (Falls told left) at = let no = sym (ap (own_first f) at) ∙ first in absurd cc
  by (Posts d told left old new) at = let no = sym (ap (own_first f) at) ∙ first in absurd cc

-- nothing stands in front of it
visit_alone : (f : FlightState) (c : ClockId) → own_step f ≡ Some (micro.Visit c) → f.front ≡ Empty
visit_alone f c own = by f.front refl where
  by : (front : Front) → f.front ≡ front → f.front ≡ Empty
  by Empty at = at
  by (Poll y polls again) at = let no = sym (ap (own_first f) at) ∙ going_step f.going (own_first f f.front) (micro.Visit c) own in absurd cc
  by (Raise x) at = let no = sym (ap (own_first f) at) ∙ going_step f.going (own_first f f.front) (micro.Visit c) own in absurd cc
  by (Lower x) at = let no = sym (ap (own_first f) at) ∙ going_step f.going (own_first f f.front) (micro.Visit c) own in absurd cc
  by (Falls told left) at = let no = sym (ap (own_first f) at) ∙ going_step f.going (own_first f f.front) (micro.Visit c) own in absurd cc
  by (Posts d told left old new) at = let no = sym (ap (own_first f) at) ∙ going_step f.going (own_first f f.front) (micro.Visit c) own in absurd cc

-- so a flight that only goes on has visited it and tells none
pub visited_none : (f : FlightState) (c : ClockId) → own_step f ≡ Some (micro.Visit c) → gone_on f ≡ visited f c 0 0 0
visited_none f c own = ap (λ (front : Front). let g : FlightState = record (gone_on f) { front = front_behind f.raised front } in g) (visit_alone f c own)

-- as a clock without notifiers is visited
pub posted_none : (course : CourseState) (c : ClockId) (count rate_ : ℕ) (f g : FlightState) → count ≡ 0 → own_step f ≡ Some (micro.Visit c) → g ≡ gone_on f → IsPosted course c count rate_ f g
posted_none course c count rate_ f g none own is = record {
  posts = record { count = 0; before = 0; after = 0 };
  none_ = λ zero_. refl;
  some_ = λ some n at. let no : true ≡ false = sym (ap (λ (k : ℕ). nat_eq k 0) none) ∙ some in absurd cc;
  few = omega arith;
  flight = is ∙ visited_none f c own;
}

-- less is left over
pub posted_less : (course : CourseState) (c : ClockId) (count rate_ : ℕ) (f g : FlightState) (rows : List NotifierRow) → own_step f ≡ Some (micro.Visit c) → (is : IsPosted course c count rate_ f g)
    → is.posts.count ≤ length (notifiers_of rows c.0) → left_over rows g < left_over rows f
posted_less course c count rate_ f g rows own is few =
    subst (λ (h : FlightState). left_over rows h < left_over rows f) (sym is.flight) (visited-less f c is.posts.count is.posts.before is.posts.after rows own few)

-- the visited clock is a registered one
pub visit_there : (f : FlightState) (there : ℕ → Bool) (c : ClockId) → own_step f ≡ Some (micro.Visit c) → IsUnderWay there f → there c.0 ≡ true
visit_there f there c own is = (own_visit f there c own is).there_

under_way-visited : (f : FlightState) (there : ℕ → Bool) (c : ClockId) (count before after : ℕ) → own_step f ≡ Some (micro.Visit c) → IsUnderWay there f → IsUnderWay there (visited f c count before after)
under_way-visited f there c count before after own is = record {
  call_ = is.call_;
  script = script_rest f there f.front (micro.Visit c) (going_step f.going (own_first f f.front) (micro.Visit c) own) refl refl is.script;
  front = by (nat_eq count 0);
  cut = still (nat_eq count 0);
  raised = is.raised;
  extra = is.extra;
  vetoed = is.vetoed;
} where
  by : (t : Bool) → is_front f.call there (if t then Empty else Posts c 0 count before after) ≡ true
  by true = refl
  by false = (own_visit f there c own is).changes

  still : (t : Bool) → cuts_front f.call (script_behind f.front f.left) (if t then Empty else Posts c 0 count before after) ≡ true
  still true = refl
  still false = refl

tells-visited : (f : FlightState) (there : ℕ → Bool) (counts : ℕ → ℕ) (ns : List Changed) (c : ClockId) (count before after : ℕ) → own_step f ≡ Some (micro.Visit c) → IsUnderWay there f → count ≤ counts c.0
    → TellsAlong counts ns f → TellsAlong counts (behind_visit (counts c.0) ns) (visited f c count before after)
tells-visited f there counts ns c count before after own is few tells = record {
  front = by (nat_eq count 0);
  visits =
      ap (λ (front : Front). tells_all counts (script_behind front f.left) (behind_visit (counts c.0) ns)) at.front
      ∙ ap (λ (ms : List Micro). tells_all counts (rest_of ms) (behind_visit (counts c.0) ns)) at.left
      ∙ both_right (nat_eq (counts c.0) 0 || begins_with c.0 ns) (tells_all counts at.rest (behind_visit (counts c.0) ns))
      (sym (ap (λ (ms : List Micro). tells_all counts ms ns) at.left) ∙ tells.visits);
} where
  at : OwnVisit f there c
  at = own_visit f there c own is

  by : (t : Bool) → PostsFit counts (if t then Empty else Posts c 0 count before after)
  by true = tt
  by false = omega arith

-- the next clock to be told is the visited one, where it has notifiers
record IsTold (ns : List Changed) (c : ℕ) : Type 0 where
  next : Changed
  rest : List Changed
  is : ns ≡ next ∷ rest
  clock : next.clock.0 ≡ c

is_told : (f : FlightState) (there : ℕ → Bool) (counts : ℕ → ℕ) (ns : List Changed) (c : ClockId) → own_step f ≡ Some (micro.Visit c) → IsUnderWay there f → TellsAlong counts ns f → nat_eq (counts c.0) 0 ≡ false → IsTold ns c.0
is_told f there counts ns c own is tells some = from ns refl begins where
  at : OwnVisit f there c
  at = own_visit f there c own is

  begins : begins_with c.0 ns ≡ true
  begins =
      sym (ap (λ (t : Bool). t || begins_with c.0 ns) some)
      ∙ both_left (nat_eq (counts c.0) 0 || begins_with c.0 ns) (tells_all counts at.rest (behind_visit (counts c.0) ns)) (sym (ap (λ (ms : List Micro). tells_all counts ms ns) at.left) ∙ tells.visits)

  from : (xs : List Changed) → ns ≡ xs → begins_with c.0 xs ≡ true → IsTold ns c.0
  from [] same e = absurd cc
  from (x ∷ xs) same e = record { next = x; rest = xs; is = same; clock = same_from_test x.clock.0 c.0 e }

-- ---- the parts

few_told : (old : Parts) (c : ℕ) (count : ℕ) → count ≤ notifiers_at old.chains c → count ≤ length (notifiers_of (rows_from 0 old.chains) c)
few_told old c count few = let same = rows_count old.chains c in omega arith

-- they stay whole
pub whole_visited : (old : Parts) (c : ClockId) (window' : Shown) (tree' : TreeState) (posts' : Posting) (flight' : FlightState) (course' : CourseState) → Visited old c window' tree' posts' flight' course'
    → IsWhole (with_visit old window' tree' flight' course')
whole_visited old c window' tree' posts' flight' course' now =
    let whole = now.whole in
    let flown = whole.flown now.going in
    let own = own_visit old.flight (registered old.tree.clocks) c now.own flown.way in
    let falls = now.less (few_told old c.0 posts'.count now.few) in
    record {
      tied = record {
        valid = whole.tied.valid;
        words = now.size ∙ whole.tied.words;
        told = now.are;
        defs = now.defs ∙ whole.tied.defs;
        stands = now.stands;
        kept = now.kept;
      };
      paid = whole.paid;
      counted = record { keeps = whole.counted.keeps; stands = StandsFor-same old.counts (bare old) (bare (with_visit old window' tree' flight' course')) whole.counted.stands refl now.rows refl refl refl };
      clocks = whole.clocks;
      handled = λ n h e. ap (λ (rs : List ClockRow). registered rs h.clock.0) now.rows ∙ whole.handled n h e;
      notified = whole.notified;
      listed = whole.listed;
      flown = λ still. subst (λ (rs : List ClockRow). IsFlown old.desc.defs rs old.table.handles old.chains course'.notified old.spent flight') (sym now.rows)
          (subst (λ (ns : List Changed). IsFlown old.desc.defs old.tree.clocks old.table.handles old.chains ns old.spent flight') (sym now.notified)
          (subst (λ (f : FlightState). IsFlown old.desc.defs old.tree.clocks old.table.handles old.chains (behind_visit (notifiers_at old.chains c.0) old.course.notified) old.spent f) (sym now.flight) (record {
            plls_ = flown.plls_;
            way = under_way-visited old.flight (registered old.tree.clocks) c posts'.count posts'.before posts'.after now.own flown.way;
            own = flown.own;
            paid = flown.paid;
            links = λ changes.
                ap (λ (ms : List Micro). list_all (can_link old.desc.defs old.tree.clocks) ms)
                (ap (λ (front : Front). script_behind front old.flight.left) own.front ∙ ap (λ (ms : List Micro). rest_of ms) own.left)
                ∙ both_right (can_link old.desc.defs old.tree.clocks (micro.Visit c)) (list_all (can_link old.desc.defs old.tree.clocks) own.rest)
                (sym (ap (λ (ms : List Micro). list_all (can_link old.desc.defs old.tree.clocks) ms) own.left) ∙ flown.links changes);
            placed = flown.placed;
            tells = λ changes. tells-visited old.flight (registered old.tree.clocks) (notifiers_at old.chains) old.course.notified c posts'.count posts'.before posts'.after now.own flown.way now.few (flown.tells changes);
          })));
      room = let room = whole.room in omega arith;
      prepares_held = held_still (registered old.tree.clocks) (registered tree'.clocks) (length old.desc.defs) (old.steps + 1) old.prepare_holds (λ k there. ap (λ (rs : List ClockRow). registered rs k) now.rows ∙ there)
          (held_on (registered old.tree.clocks) (length old.desc.defs) old.steps old.prepare_holds whole.prepares_held);
      enables_held = held_still (registered old.tree.clocks) (registered tree'.clocks) (length old.desc.defs) (old.steps + 1) old.enable_holds (λ k there. ap (λ (rs : List ClockRow). registered rs k) now.rows ∙ there)
          (held_on (registered old.tree.clocks) (length old.desc.defs) old.steps old.enable_holds whole.enables_held);
    }

-- what a visit tells in a state
record TellsIn (s : State) (k : Change) (c count before after : ℕ) : Type 0 where
  count_ : count ≡ told_by_visit s k c
  before_ : before ≡ slice_index k.before c
  after_ : after ≡ slice_index k.outcome c

-- the flight is the change of the machine's next state
visit_flies : (old : Parts) (c : ClockId) (window' : Shown) (tree' : TreeState) (posts' : Posting) (flight' : FlightState) (course' : CourseState) → Visited old c window' tree' posts' flight' course'
    → (s : State) (k : Change) → Stands old s → s.change ≡ Some k → GoesAlong old.course k → (is : Flies s.notifiers old.flight (Some k)) → slice_index tree'.rates c.0 ≡ rate s.defs (set_in_chain s k c.0) s.clocks c.0
    → Flies s.notifiers flight' (visit s (taken k) c.0).change
visit_flies old c window' tree' posts' flight' course' now s k stands at goes is fresh = by (nat_eq (notifiers_at old.chains c.0) 0) refl where
  flown : IsFlown old.desc.defs old.tree.clocks old.table.handles old.chains old.course.notified old.spent old.flight
  flown = now.whole.flown now.going

  many : length (notifiers_of s.notifiers c.0) ≡ notifiers_at old.chains c.0
  many = count_told old.chains s.notifiers c.0 stands.notifiers

  own : OwnVisit old.flight (registered old.tree.clocks) c
  own = own_visit old.flight (registered old.tree.clocks) c now.own flown.way

  told : (count before after : ℕ) → count ≡ told_by_visit s k c.0 → before ≡ slice_index k.before c.0 → after ≡ slice_index k.outcome c.0
      → Flies s.notifiers (visited old.flight c count before after) (visit s (taken k) c.0).change
  told count before after counts was will = visited-change old.flight c count before after now.own s k is (now.first s.notifiers k stands.notifiers is) counts was will

  either : (t : Bool) → ◌≡◌ {A = ℕ} 0 (if t then 0 else 0)
  either true = refl
  either false = refl

  by : (t : Bool) → nat_eq (notifiers_at old.chains c.0) 0 ≡ t → Flies s.notifiers flight' (visit s (taken k) c.0).change
  by true none =
      let zero_ : notifiers_at old.chains c.0 ≡ 0 = same_from_test (notifiers_at old.chains c.0) 0 none in
      let none_ : flight' ≡ visited old.flight c 0 (slice_index k.before c.0) (slice_index k.outcome c.0) = now.flight ∙ ap (λ (p : Posting). visited old.flight c p.count p.before p.after) (now.none_ zero_) in
      subst (λ (f : FlightState). Flies s.notifiers f (visit s (taken k) c.0).change) (sym none_)
      (told 0 (slice_index k.before c.0) (slice_index k.outcome c.0)
      (either (nat_eq (rate s.defs (set_in_chain s k c.0) s.clocks c.0) (slice_index k.before c.0))
      ∙ ap (λ (n : ℕ). if nat_eq (rate s.defs (set_in_chain s k c.0) s.clocks c.0) (slice_index k.before c.0) then 0 else n) (sym (many ∙ zero_))) refl refl)
  by false some =
      let next = is_told old.flight (registered old.tree.clocks) (notifiers_at old.chains) old.course.notified c now.own flown.way (flown.tells own.changes) some in
      let rates = subst (λ (ns : List Changed). AllByRecursion (λ n. (n.before ≡ slice_index k.before n.clock.0) × (n.after ≡ slice_index k.outcome n.clock.0)) ns) next.is goes.rates in
      let was : next.next.before ≡ slice_index k.before c.0 = rates.0.0 ∙ ap (slice_index k.before) next.clock in
      let will : next.next.after ≡ slice_index k.outcome c.0 = rates.0.1 ∙ ap (slice_index k.outcome) next.clock in
      let count : ℕ = if nat_eq (slice_index tree'.rates c.0) next.next.before then 0 else notifiers_at old.chains c.0 in
      let is_ : flight' ≡ visited old.flight c count next.next.before next.next.after =
      now.flight ∙ ap (λ (p : Posting). visited old.flight c p.count p.before p.after) (now.some_ some next.next (ap (λ (ns : List Changed). slice_get ns 0) next.is)) in
      subst (λ (f : FlightState). Flies s.notifiers f (visit s (taken k) c.0).change) (sym is_)
      (told count next.next.before next.next.after
      (ap (λ (x : ℕ). if nat_eq x next.next.before then 0 else notifiers_at old.chains c.0) fresh
      ∙ ap (λ (x : ℕ). if nat_eq (rate s.defs (set_in_chain s k c.0) s.clocks c.0) x then 0 else notifiers_at old.chains c.0) was
      ∙ ap (λ (n : ℕ). if nat_eq (rate s.defs (set_in_chain s k c.0) s.clocks c.0) (slice_index k.before c.0) then 0 else n) (sym many)) was will)

visit_leads : (old : Parts) (c : ClockId) (window' : Shown) (tree' : TreeState) (posts' : Posting) (flight' : FlightState) (course' : CourseState) → Visited old c window' tree' posts' flight' course'
    → (s : State) → Stands old s → IsSound old.window.size s → Leads s old.flight.driver (event.Step (micro.Visit c) None) turn.Going (with_visit old window' tree' flight' course')
visit_leads old c window' tree' posts' flight' course' now s stands sound =
    let has = change_of old s stands now.going in
    let k = has.k in
    let first = now.first s.notifiers k stands.notifiers has.is in
    let flown = now.whole.flown now.going in
    let own = own_visit old.flight (registered old.tree.clocks) c now.own flown.way in
    let goes : GoesAlong old.course k = has.along (ap changes_rate has.is.call ∙ own.changes) in
    let regs' : Registers = set_in_chain s k c.0 in
    let same : set_along old.flight.missed old.course.chain (wired old.desc.defs s.regs old.tree) c.0 ≡ regs' =
    ap (λ (o : Option ℕ). set_along o old.course.chain (wired old.desc.defs s.regs old.tree) c.0) (sym has.is.missed)
    ∙ ap (λ (ks : List ChainStep). set_along k.missed ks (wired old.desc.defs s.regs old.tree) c.0) (sym goes.chain)
    ∙ ap (λ (ds : Description). set_along k.missed k.chain (record { defs = ds; regs = s.regs; clocks = old.tree.clocks }) c.0) (sym stands.defs)
    ∙ ap (λ (rs : List ClockRow). set_along k.missed k.chain (record { defs = s.defs; regs = s.regs; clocks = rs }) c.0) (sym stands.clocks) in
    let words : window'.words ≡ Some regs' =
    subst (λ (o : Option (List ℕ)). IfSome o (λ regs. window'.words ≡ Some (set_along old.flight.missed old.course.chain (wired old.desc.defs regs old.tree) c.0))) stands.regs now.words
    ∙ ap (λ (ws : Registers). Some ws) same in
    let there : registered tree'.clocks c.0 ≡ true = ap (λ (rs : List ClockRow). registered rs c.0) now.rows ∙ own.there_ in
    let fresh : slice_index tree'.rates c.0 ≡ rate s.defs regs' s.clocks c.0 =
    subst (λ (o : Option (List ℕ)). AreKept old.desc.defs o tree'.clocks tree'.rates) words now.kept c.0 there
    ∙ ap (λ (ds : Description). rate ds regs' tree'.clocks c.0) (sym stands.defs)
    ∙ ap (λ (rs : List ClockRow). rate s.defs regs' rs c.0) (now.rows ∙ sym stands.clocks) in
    record {
      to = record (visit s (taken k) c.0) { steps = s.steps + 1 };
      next_ = visits_one s old.flight.driver k c (next_of old s (micro.Visit c) has first);
      stands = record {
        defs = stands.defs;
        regs = words;
        clocks = stands.clocks ∙ sym now.rows;
        order = stands.order ∙ sym now.order;
        handles = stands.handles;
        notifiers = stands.notifiers;
        prepare_holds = stands.prepare_holds;
        enable_holds = stands.enable_holds;
        change = visit_flies old c window' tree' posts' flight' course' now s k stands has.change goes has.is fresh;
        along = λ changes. record {
          chain = goes.chain ∙ sym now.chain;
          rates = subst (λ (ns : List Changed). AllByRecursion (λ n. (n.before ≡ slice_index k.before n.clock.0) × (n.after ≡ slice_index k.outcome n.clock.0)) ns) (sym now.notified)
              (rest_rates k (nat_eq (notifiers_at old.chains c.0) 0) old.course.notified goes.rates);
        };
        credits = stands.credits;
        spent = stands.spent;
        steps = ap (λ (n : ℕ). n + 1) stands.steps;
        ignore_unused = stands.ignore_unused;
      };
    } where
      rest_rates : (k : Change) (t : Bool) (ns : List Changed) → AllByRecursion (λ n. (n.before ≡ slice_index k.before n.clock.0) × (n.after ≡ slice_index k.outcome n.clock.0)) ns
          → AllByRecursion (λ n. (n.before ≡ slice_index k.before n.clock.0) × (n.after ≡ slice_index k.outcome n.clock.0)) (if t then ns else behind_first ns)
      rest_rates k true ns all = all
      rest_rates k false [] all = tt
      rest_rates k false (n ∷ ns) all = all.1

-- a visit takes the parts on
pub visit_enters : (old : Parts) (c : ClockId) (window' : Shown) (tree' : TreeState) (posts' : Posting) (flight' : FlightState) (course' : CourseState) → Visited old c window' tree' posts' flight' course'
    → Enters old old.flight.driver (event.Step (micro.Visit c) None) turn.Going (with_visit old window' tree' flight' course')
visit_enters old c window' tree' posts' flight' course' now = record {
  remains = record { desc = refl; told = now.told; size = now.size; behind = now.behind; credits = refl; ignore_unused = refl };
  pays = let same : old.spent ≡ old.spent + 0 = omega arith in same;
  rows = λ d. ap (λ (rs : List ClockRow). registered rs d) now.rows ∙ sym (or-false (registered old.tree.clocks d));
  going = ap (λ (f : FlightState). f.going) now.flight ∙ now.going;
  driver_ = λ still. ap (λ (f : FlightState). f.driver) now.flight;
  fewer = λ free. now.less (few_told old c.0 posts'.count now.few);
  begun = λ paid. absurd cc;
  no_more = λ paid. absurd cc;
  locks = λ still. now.locks;
  beside = λ tier. absurd cc;
  step = visit_leads old c window' tree' posts' flight' course' now;
}
