-- A clock that is registered by a step of its call, and what that makes of the parts of a core.
use Rattle.std.proofs.Common.{◌≡◌, ◌≢◌, ℕ, ◌+◌, ◌<◌, ◌&&◌, ◌||◌, not, Bool, true, false, List, [], ◌∷◌, Option, Some, None, refl, sym, ap, subst, ◌∙◌, arith, length, nat_eq, nat_lt, cond}
use Rattle.std.specs.Prelude.{if◌then◌else◌, is_some, slice_get, IfSome}
use Rattle.std.specs.List.{list_all, list_any}
use Rattle.std.specs.Option.{option_map, option_map_or}
use Rattle.std.proofs.Math.Path.{fun_ext}
use Rattle.std.proofs.lemmas.Bool.Decides.{nat_tests}
use Rattle.clk_base.specs.declared.call.Micro.{Micro}
use Rattle.clk_base.specs.declared.call.Micro.TheVariants as micro
use Rattle.clk_base.specs.declared.call.Sleeping.{Sleeping}
use Rattle.clk_base.specs.declared.call.Sleeping.TheVariants as call
use Rattle.clk_base.specs.declared.clock.ClockId.{ClockId}
use Rattle.clk_base.specs.declared.event.Event.TheVariants as event
use Rattle.clk_base.specs.declared.event.Turn.TheVariants as turn
use Rattle.clk_base.specs.Description.{Description, kind_of, parents_of}
use Rattle.clk_model.specs.declared.row.ClockRow.{ClockRow}
use Rattle.clk_model.specs.Begin.{register}
use Rattle.clk_base.specs.Flags.{is_critical}
use Rattle.clk_model.specs.Gates.{gates_moved, settled}
use Rattle.clk_model.specs.Holders.{active}
use Rattle.clk_model.specs.Kinds.{mux_field}
use Rattle.clk_model.specs.Lists.{is_in, to_front, without}
use Rattle.clk_model.specs.State.{State, Change, registered, link_in}
use Rattle.clk_model.specs.Step.{is_register, register_in, rest_of, taken}
use Rattle.clk_model.specs.Tree.{path, path_to_be, path_within, link_given}
use Rattle.clk_model.proofs.Members.{both_left, both_right, not_either}
use Rattle.clk_model.proofs.StateLaws.{settled-still}
use Rattle.clk_model.proofs.WalkLaws.{turned_off}
use Rattle.clk_flight.specs.declared.front.Front.{Front}
use Rattle.clk_flight.specs.declared.front.Front.TheVariants.{Empty, Poll, Raise, Lower, Falls, Posts}
use Rattle.clk_flight.specs.Flights.{FlightState, IsChange, first_step, own_first, own_step}
use Rattle.clk_flight.specs.Fronts.{front_behind, front_steps, script_behind}
use Rattle.clk_flight.specs.LeftOver.{left_over}
use Rattle.clk_flight.specs.Moves.{gone_on}
use Rattle.clk_flight.specs.Steps.{GoesOn, LeavesLessAt, is_taken}
use Rattle.clk_flight.proofs.KeptLaws.{going_step}
use Rattle.clk_tree.specs.TreeState.{TreeState}
use Rattle.counts_core.specs.Counted.{CountState, AreCounts, is_active}
use Rattle.counts_core.specs.Standing.{StandsFor}
use Rattle.counts_core.specs.Sums.{up_in}
use Rattle.counts_core.proofs.Standing.{tells_holds}
use Rattle.core_parts.specs.Course.{IsAlong}
use Rattle.core_parts.specs.InFlight.{IsUnderWay, can_link, is_near, is_script, links_clocks, probes}
use Rattle.core_parts.specs.Letting.{LetsGoAll}
use Rattle.clk_machine.specs.Making.{ComesFirst}
use Rattle.core_parts.specs.Listed.{rows_from}
use Rattle.core_parts.specs.Tied.{AreTied}
use Rattle.clk_machine.specs.Parts.{Parts, bare, IsFlown, IsWhole}
use Rattle.clk_machine.specs.Sound.{links_well}
use Rattle.clk_machine.specs.Stands.{Stands, Enters}
use Rattle.core_parts.specs.Window.{Shown}
use Rattle.clk_machine.proofs.Attached.{IsAttached}
use Rattle.clk_machine.proofs.Critical.{IsHeld, critical_regs, critical_words, held_stands, in_desc}
use Rattle.clk_machine.proofs.Following.{told_mapped}
use Rattle.core_parts.proofs.HeldCounts.{held_on, held_still}
use Rattle.core_parts.proofs.InFlight.{behind_seek}
use Rattle.core_parts.proofs.StepsInFlight.{changes_plain, no_probes}
use Rattle.clk_machine.proofs.Making.{change_of, next_of, path_stands, path_under}
use Rattle.core_parts.proofs.Moving.{tied-moved}
use Rattle.clk_machine.proofs.Registering.{Registered, active_linked, plain_stands, rows_stand, state_attached, tied_registered}
use Rattle.clk_machine.proofs.Stepping.{registers_one}
use Rattle.clk_machine.proofs.Writing.{counts_stand}
use Rattle.clk_machine.proofs.Adopting.{register_regs}

-- ---- a registration that comes next

-- it is the script's own, and of the call's clock
pub record OwnRegister (f : FlightState) (there : ℕ → Bool) (c : ClockId) : Type 0 where
  pub front : f.front ≡ Empty
  pub rest : List Micro
  pub left : f.left ≡ micro.Register c ∷ rest
  pub probes_ : probes f.call c.0 ≡ true
  pub script : is_script f.call (λ k. there k || nat_eq c.0 k) rest ≡ true
  pub none : list_any is_register rest ≡ false

pub own_register : (f : FlightState) (there : ℕ → Bool) (c : ClockId) → own_step f ≡ Some (micro.Register c) → IsUnderWay there f → OwnRegister f there c
own_register f there c own way = by f.front refl where
  first : own_first f f.front ≡ Some (micro.Register c)
  first = going_step f.going (own_first f f.front) (micro.Register c) own

  from : (left : List Micro) → f.left ≡ left → slice_get left 0 ≡ Some (micro.Register c) → (rest : List Micro) × (f.left ≡ micro.Register c ∷ rest)
  from [] at e = absurd cc
  from (n ∷ ms) at e = let same : n ≡ micro.Register c = cc in (ms, at ∙ ap (λ (x : Micro). x ∷ ms) same)

  by : (front : Front) → f.front ≡ front → OwnRegister f there c
  by Empty at =
      let here : slice_get f.left 0 ≡ Some (micro.Register c) = sym (ap (own_first f) at) ∙ first in
      let left = from f.left refl here in
      let made = behind_seek f.call there (micro.Register c) left.0 refl (sym (ap (is_script f.call there) left.1) ∙ way.script) in
      record { front = at; rest = left.0; left = left.1; probes_ = made.0; script = made.1; none = turned_off (list_any is_register left.0) made.2 }
  by (Poll y polls again) at = let no : Some (micro.Poll y) ≡ Some (micro.Register c) = sym (ap (own_first f) at) ∙ first in absurd cc
  by (Raise x) at = let no : Some (micro.Raise x) ≡ Some (micro.Register c) = sym (ap (own_first f) at) ∙ first in absurd cc
  by (Lower x) at = let no : Some (micro.Lower x) ≡ Some (micro.Register c) = sym (ap (own_first f) at) ∙ first in absurd cc
  by (Falls told left) at = let no : None ≡ Some (micro.Register c) = sym (ap (own_first f) at) ∙ first in absurd cc
  by (Posts d told left old new) at = let no : None ≡ Some (micro.Register c) = sym (ap (own_first f) at) ∙ first in absurd cc

-- what such a step may
pub record MayJoin (old : Parts) (c : ClockId) : Type 0 where
  pub own : OwnRegister old.flight (registered old.tree.clocks) c
  pub well : links_well old.desc.defs old.tree.clocks (micro.Register c) ≡ true
  pub place : c.0 < length old.desc.defs
  pub free : registered old.tree.clocks c.0 ≡ false
  pub rest : list_all (can_link old.desc.defs old.tree.clocks) own.rest ≡ true

probe_links : (what : Sleeping) (c : ℕ) → probes what c ≡ true → links_clocks what ≡ true
probe_links (call.Probe k) c e = refl
probe_links _ c e = absurd cc

pub may_join : (old : Parts) (c : ClockId) → IsWhole old → old.flight.going ≡ true → own_step old.flight ≡ Some (micro.Register c) → MayJoin old c
may_join old c whole going own_ =
    let flown = whole.flown going in
    let own = own_register old.flight (registered old.tree.clocks) c own_ flown.way in
    let all : (can_link old.desc.defs old.tree.clocks (micro.Register c) && list_all (can_link old.desc.defs old.tree.clocks) own.rest) ≡ true =
    sym (ap (λ (ms : List Micro). list_all (can_link old.desc.defs old.tree.clocks) ms) own.left) ∙ flown.links (probe_links old.flight.call c.0 own.probes_) in
    let can = both_left (can_link old.desc.defs old.tree.clocks (micro.Register c)) _ all in
    let inside : nat_lt c.0 (length old.desc.defs) ≡ true = both_left (nat_lt c.0 (length old.desc.defs)) _ can in
    record {
      own = own;
      well = can;
      place = grind (arith, nat_tests);
      free = turned_off (registered old.tree.clocks c.0) (both_right (nat_lt c.0 (length old.desc.defs)) _ can);
      rest = both_right (can_link old.desc.defs old.tree.clocks (micro.Register c)) _ all;
    }

-- ---- what can be made over the tree with the clock

more_both : (a a' b b' : Bool) → (a ≡ true → a' ≡ true) → (b ≡ true → b' ≡ true) → (a && b) ≡ true → (a' && b') ≡ true
more_both true a' true b' f g e = ap (λ (t : Bool). t && b') (f refl) ∙ g refl
more_both true a' false b' f g e = absurd cc
more_both false a' b b' f g e = absurd cc

kept : (a : Bool) → a ≡ true → a ≡ true
kept a e = e

can_more : (defs : Description) (old new : List ClockRow) → ((d : ℕ) → is_some (link_in old d) ≡ true → is_some (link_in new d) ≡ true)
    → (m : Micro) → is_register m ≡ false → can_link defs old m ≡ true → can_link defs new m ≡ true
can_more defs old new linked (micro.WriteMux c place) plain can =
    more_both (is_some (mux_field (kind_of defs c.0)) && is_some (link_in old c.0)) (is_some (mux_field (kind_of defs c.0)) && is_some (link_in new c.0)) _ _
    (more_both _ _ (is_some (link_in old c.0)) (is_some (link_in new c.0)) (kept (is_some (mux_field (kind_of defs c.0)))) (linked c.0)) (kept (nat_lt place (length (parents_of defs c.0)))) can
can_more defs old new linked (micro.Register c) plain can = absurd cc
can_more defs old new linked _ plain can = can

can_rest : (defs : Description) (old new : List ClockRow) → ((d : ℕ) → is_some (link_in old d) ≡ true → is_some (link_in new d) ≡ true)
    → (ms : List Micro) → list_any is_register ms ≡ false → list_all (can_link defs old) ms ≡ true → list_all (can_link defs new) ms ≡ true
can_rest defs old new linked [] none all = refl
can_rest defs old new linked (m ∷ ms) none all =
    more_both (can_link defs old m) (can_link defs new m) (list_all (can_link defs old) ms) (list_all (can_link defs new) ms)
    (can_more defs old new linked m (not_either (is_register m) (list_any is_register ms) none).0)
    (can_rest defs old new linked ms (not_either (is_register m) (list_any is_register ms) none).1) all

-- ---- the parts behind it

abbrev pub with_joined : Parts → Shown → TreeState → CountState → FlightState → Parts
with_joined old window' tree' counts' flight' = record old { window = window'; tree = tree'; counts = counts'; flight = flight'; steps = old.steps + 1 }

-- a registration came next, and the PLLs of the path that its clock was to get count as raised no more
pub record ComesOff (old : Parts) (c : ClockId) (gone flight' : FlightState) : Type 0 where
  pub whole : IsWhole old
  pub going : old.flight.going ≡ true
  pub own : own_step old.flight ≡ Some (micro.Register c)
  pub first : ComesFirst old (micro.Register c)
  pub gone_ : gone ≡ gone_on old.flight
  pub change : GoesOn old.flight gone
  pub less : LeavesLessAt is_taken old.flight gone
  pub parent : Option ClockId
  pub given : IfSome old.window.words (λ regs. option_map (λ p. p.0) parent ≡ link_given old.desc.defs regs old.tree.clocks c.0)
  pub lets : LetsGoAll (c.0 ∷ option_map_or (λ p. path old.tree.clocks p.0) parent []) gone flight'

-- nothing stands in front behind it
pub front_joining : (old : Parts) (c : ClockId) (gone : FlightState) → IsWhole old → old.flight.going ≡ true → own_step old.flight ≡ Some (micro.Register c) → gone ≡ gone_on old.flight → gone.front ≡ Empty
front_joining old c gone whole going own is =
    ap (λ (f : FlightState). f.front) is ∙ ap (front_behind old.flight.raised) (own_register old.flight (registered old.tree.clocks) c own (whole.flown going).way).front

-- and the clock was registered
pub record Joined (old : Parts) (c : ClockId) (window' : Shown) (tree' : TreeState) (counts' held : CountState) (gone flight' : FlightState) : Type 0 where
  pub off : ComesOff old c gone flight'
  pub now : Registered old c.0 tree' counts'
  pub beside : (d : ℕ) → d ≢ c.0 → link_in tree'.clocks d ≡ link_in old.tree.clocks d
  pub size : window'.size ≡ old.window.size
  pub told : is_some window'.words ≡ is_some old.window.words
  pub behind : window'.behind ≡ old.window.behind
  pub locks : window'.locks ≡ old.window.locks
  pub tied : AreTied old.desc window' tree'
  pub keeps : AreCounts held
  pub stands : StandsFor held (bare (with_joined old window' tree' held flight'))

either_true : (b : Bool) → (b || true) ≡ true
either_true true = refl
either_true false = refl

-- what is near stays so, and what is still raised was
near_more : (what : Sleeping) (there there' : ℕ → Bool) (ys raised : List ℕ) → ((k : ℕ) → there k ≡ true → there' k ≡ true) → list_all (is_near what there) raised ≡ true → list_all (is_near what there') (without ys raised) ≡ true
near_more what there there' ys [] more all = refl
near_more what there there' ys (x ∷ xs) more all = by (not (is_in x ys)) (near_more what there there' ys xs more (both_right (is_near what there x) _ all)) where
  near : is_near what there' x ≡ true
  near = or_more (there x) (there' x) (probes what x) (more x) (both_left (is_near what there x) _ all) where
    or_more : (a a' b : Bool) → (a ≡ true → a' ≡ true) → (a || b) ≡ true → (a' || b) ≡ true
    or_more true a' b f e = ap (λ (t : Bool). t || b) (f refl)
    or_more false true b f e = refl
    or_more false false b f e = e

  by : (t : Bool) → list_all (is_near what there') (without ys xs) ≡ true → list_all (is_near what there') (cond {A = List ℕ} t (x ∷ without ys xs) (without ys xs)) ≡ true
  by true rest = ap (λ (b : Bool). b && list_all (is_near what there') (without ys xs)) near ∙ rest
  by false rest = rest

module _ (old : Parts) (c : ClockId) (window' : Shown) (tree' : TreeState) (counts' held : CountState) (gone flight' : FlightState) (to : Joined old c window' tree' counts' held gone flight') where
  abbrev ys : List ℕ
  ys = c.0 ∷ option_map_or (λ p. path old.tree.clocks p.0) to.off.parent []

  may : MayJoin old c
  may = may_join old c to.off.whole to.off.going to.off.own

  grows : (k : ℕ) → registered old.tree.clocks k ≡ true → registered tree'.clocks k ≡ true
  grows k there = to.now.rows k ∙ ap (λ (b : Bool). b || nat_eq c.0 k) there

  links_stay : (d : ℕ) → is_some (link_in old.tree.clocks d) ≡ true → is_some (link_in tree'.clocks d) ≡ true
  links_stay d some = ap (λ (o : Option ℕ). is_some o) (to.beside d other) ∙ some where
    linked : (o : Option ℕ) → link_in old.tree.clocks d ≡ o → is_some o ≡ true → registered old.tree.clocks d ≡ true
    linked None at e = absurd cc
    linked (Some p) at e = to.off.whole.tied.stands.linked d p at

    other : d ≢ c.0
    other same = let no : true ≡ false = sym (linked (link_in old.tree.clocks d) refl some) ∙ ap (registered old.tree.clocks) same ∙ may.free in absurd cc

  -- the flight behind it
  abbrev joined_flight : FlightState
  joined_flight = record old.flight { front = Empty; left = may.own.rest; raised = without ys old.flight.raised }

  flight_is : flight' ≡ joined_flight
  flight_is =
      to.off.lets.flight ∙ ap (λ (f : FlightState). let g : FlightState = record f { raised = without ys f.raised } in g) to.off.gone_
      ∙ ap (λ (front : Front). let g : FlightState = record old.flight { front = front_behind old.flight.raised front; left = script_behind front old.flight.left; raised = without ys old.flight.raised } in g) may.own.front
      ∙ ap (λ (ms : List Micro). let g : FlightState = record old.flight { front = Empty; left = rest_of ms; raised = without ys old.flight.raised } in g) may.own.left

  joined_way : IsUnderWay (registered tree'.clocks) joined_flight
  joined_way =
      let way = (to.off.whole.flown to.off.going).way in
      record {
        call_ = way.call_;
        script = ap (λ (test : ℕ → Bool). is_script old.flight.call test may.own.rest) (fun_ext to.now.rows) ∙ may.own.script;
        front = refl;
        cut = refl;
        raised = near_more old.flight.call (registered old.tree.clocks) (registered tree'.clocks) ys old.flight.raised grows way.raised;
        extra = way.extra;
        vetoed = way.vetoed;
      }

  joined_less : left_over (rows_from 0 old.chains) flight' < left_over (rows_from 0 old.chains) old.flight
  joined_less =
      let one = to.off.less (rows_from 0 old.chains) (micro.Register c)
      (ap (λ (t : Bool). if t then first_step (rows_from 0 old.chains) old.flight old.flight.front else None) to.off.going
      ∙ ap (first_step (rows_from 0 old.chains) old.flight) may.own.front ∙ ap (λ (ms : List Micro). slice_get ms 0) may.own.left) refl in
      let two = to.off.lets.less (rows_from 0 old.chains) in
      omega arith

  -- the parts stay whole
  pub whole_joined : IsWhole (with_joined old window' tree' held flight')
  whole_joined =
      let whole = to.off.whole in
      let flown = whole.flown to.off.going in
      record {
        tied = to.tied;
        paid = whole.paid;
        counted = record { keeps = to.keeps; stands = to.stands };
        clocks = whole.clocks;
        handled = λ n h e. grows h.clock.0 (whole.handled n h e);
        notified = whole.notified;
        listed = whole.listed;
        flown = λ still. subst (λ (f : FlightState). IsFlown old.desc.defs tree'.clocks old.table.handles old.chains old.course.notified old.spent f) (sym flight_is) (record {
          plls_ = flown.plls_;
          way = joined_way;
          own = flown.own;
          paid = flown.paid;
          tells = λ changes. let no : true ≡ false = sym may.own.probes_ ∙ no_probes old.flight.call c.0 (changes_plain old.flight.call changes) in absurd cc;
          links = λ changes. can_rest old.desc.defs old.tree.clocks tree'.clocks links_stay may.own.rest may.own.none may.rest;
          placed = flown.placed;
        });
        room = let room = whole.room in let less = joined_less in omega arith;
        prepares_held = held_on (registered tree'.clocks) (length old.desc.defs) old.steps old.prepare_holds
            (held_still (registered old.tree.clocks) (registered tree'.clocks) (length old.desc.defs) old.steps old.prepare_holds fewer whole.prepares_held);
        enables_held = held_on (registered tree'.clocks) (length old.desc.defs) old.steps old.enable_holds
            (held_still (registered old.tree.clocks) (registered tree'.clocks) (length old.desc.defs) old.steps old.enable_holds fewer whole.enables_held);
      } where
        fewer : (k : ℕ) → registered old.tree.clocks k ≡ true → registered tree'.clocks k ≡ true
        fewer k there = grows k there

  -- they stand for the state with the clock, where the words are those that its gates leave
  joined_stands : (s : State) (k : Change) (regs' : List ℕ) → Stands old s → IsChange s.notifiers flight' (record (taken k) { raised = without (path_to_be s.defs s.regs s.clocks c.0) k.raised }) → IsAlong old.course (Some k)
      → window'.words ≡ Some regs' → Stands (with_joined old window' tree' held flight') (record (register_in s (taken k) c.0) { regs = regs'; steps = s.steps + 1 })
  unfolding register
  joined_stands s k regs' stands flies along words = record {
    defs = stands.defs;
    regs = words;
    clocks = rows_stand old c.0 tree' counts' s to.now stands;
    order = ap (to_front c.0) stands.order ∙ sym to.now.order;
    handles = stands.handles;
    notifiers = stands.notifiers;
    prepare_holds = stands.prepare_holds;
    enable_holds = stands.enable_holds;
    change = flies;
    along = λ changes. let goes = along changes in record { chain = goes.chain; rates = goes.rates };
    credits = stands.credits;
    spent = stands.spent;
    steps = ap (λ (n : ℕ). n + 1) stands.steps;
    ignore_unused = stands.ignore_unused;
  }

  -- nothing stands in front of the change behind it
  none_behind : (s : State) (k : Change) → IsChange s.notifiers old.flight k → (taken k).front ≡ []
  none_behind s k change = ap (λ (ms : List Micro). rest_of ms) (change.front ∙ ap (front_steps s.notifiers old.flight.script old.flight.raised) may.own.front)

  -- the PLLs of its path are those of the path that it was to get
  path_is : (s : State) → Stands old s → ys ≡ path_to_be s.defs s.regs s.clocks c.0
  path_is s stands =
      let given : option_map (λ p. p.0) to.off.parent ≡ link_given old.desc.defs s.regs old.tree.clocks c.0 =
      subst (λ (o : Option (List ℕ)). IfSome o (λ regs. option_map (λ p. p.0) to.off.parent ≡ link_given old.desc.defs regs old.tree.clocks c.0)) stands.regs to.off.given in
      path_under old.desc.defs s.regs old.tree.clocks c.0 to.off.parent may.free given ∙ sym (path_stands old s c.0 stands)

  -- and it takes the parts on
  pub joined_enters : ((s : State) → Stands old s → (regs' : List ℕ) × (window'.words ≡ Some regs') × ((k : Change) → (settled s (register_in s (taken k) c.0)).regs ≡ regs'))
      → Enters old old.flight.driver (event.Step (micro.Register c) None) turn.Going (with_joined old window' tree' held flight')
  unfolding settled
  joined_enters does = record {
    remains = record { desc = refl; told = to.told; size = to.size; behind = to.behind; credits = refl; ignore_unused = refl };
    pays = let same : old.spent ≡ old.spent + 0 = omega arith in same;
    rows = to.now.rows;
    going = ap (λ (f : FlightState). f.going) flight_is ∙ to.off.going;
    driver_ = λ still. ap (λ (f : FlightState). f.driver) flight_is;
    fewer = λ free. joined_less;
    begun = λ paid. absurd cc;
    no_more = λ paid. absurd cc;
    locks = λ still. to.locks;
    beside = λ tier. absurd cc;
    step = λ s stands sound.
        let has = change_of old s stands to.off.going in
        let k : Change = has.k in
        let first = to.off.first s.notifiers k stands.notifiers has.is in
        let done = does s stands in
        let flies : IsChange s.notifiers flight' (record (taken k) { raised = without (path_to_be s.defs s.regs s.clocks c.0) k.raised }) =
        subst (λ (zs : List ℕ). IsChange s.notifiers flight' (record (taken k) { raised = without zs k.raised })) (path_is s stands)
        (to.off.lets.change s.notifiers (taken k) (to.off.change s.notifiers k (micro.Register c) has.is first refl) (none_behind s k has.is)) in
        record {
          to = record (settled s (register_in s (taken k) c.0)) { steps = s.steps + 1 };
          next_ = registers_one s old.flight.driver k c (next_of old s (micro.Register c) has first);
          stands = subst (λ (ws : List ℕ). Stands (with_joined old window' tree' held flight') (record (register_in s (taken k) c.0) { regs = ws; steps = s.steps + 1 })) (sym (done.2 k))
              (joined_stands s k done.0 stands flies has.along done.1);
        };
  }

-- ---- a clock that isn't critical

attached_in : (old : Parts) (c : ℕ) (window' : Shown) (tree' : TreeState) (counts' held : CountState) (flight' : FlightState) → Registered old c tree' counts' → IsAttached (bare old) (bare (with_joined old window' tree' held flight')) c
attached_in old c window' tree' counts' held flight' now = record { free = now.free; rows = now.rows; defs = refl; handles = refl; prepare_holds = refl; enable_holds = refl }

module _ (old : Parts) (c : ClockId) (tree' : TreeState) (counts' : CountState) (gone flight' : FlightState) (off : ComesOff old c gone flight') (now : Registered old c.0 tree' counts')
    (beside : (d : ℕ) → d ≢ c.0 → link_in tree'.clocks d ≡ link_in old.tree.clocks d) (plain : is_critical old.desc.defs c.0 ≡ false) where
  joined_plain : Joined old c old.window tree' counts' counts' gone flight'
  joined_plain = record {
    off = off;
    now = now;
    beside = beside;
    size = refl;
    told = refl;
    behind = refl;
    locks = refl;
    tied = tied_registered old c.0 tree' counts' off.whole now;
    keeps = now.keeps;
    stands = plain_stands old c.0 tree' counts' (bare old) (bare (with_joined old old.window tree' counts' flight')) now plain off.whole.counted.stands (attached_in old c.0 old.window tree' counts' counts' flight' now) refl;
  }

  pub whole_plain : IsWhole (with_joined old old.window tree' counts' flight')
  whole_plain = whole_joined old c old.window tree' counts' counts' gone flight' joined_plain

  -- no gate moves
  plain_still : (s : State) → Stands old s → (d : ℕ) → active s d ≡ active (register s c.0) d
  plain_still s stands d =
      let plain_s : is_critical s.defs c.0 ≡ false = ap (λ (ds : Description). is_critical ds c.0) stands.defs ∙ plain in
      let after = plain_stands old c.0 tree' counts' s (register s c.0) now plain_s (counts_stand old s off.whole stands) (state_attached old c.0 tree' counts' s now stands) (rows_stand old c.0 tree' counts' s now stands) in
      sym (active_linked old c.0 tree' counts' s d off.whole now stands) ∙ (tells_holds counts' (register s c.0) now.keeps after d).active

  pub plain_enters : Enters old old.flight.driver (event.Step (micro.Register c) None) turn.Going (with_joined old old.window tree' counts' flight')
  plain_enters = joined_enters old c old.window tree' counts' counts' gone flight' joined_plain
      (λ s stands. (s.regs, stands.regs, λ k. ap (λ (t : State). t.regs) (settled-still s (register_in s (taken k) c.0) (plain_still s stands)) ∙ register_regs s c.0))

-- ---- a critical clock

module _ (old : Parts) (c : ClockId) (tree' : TreeState) (counts' held : CountState) (window' : Shown) (levels : ℕ) (gone flight' : FlightState) (off : ComesOff old c gone flight') (now : Registered old c.0 tree' counts')
    (beside : (d : ℕ) → d ≢ c.0 → link_in tree'.clocks d ≡ link_in old.tree.clocks d) (holds : IsHeld counts' held c.0) (critical : is_critical old.desc.defs c.0 ≡ true)
    (size : window'.size ≡ old.window.size) (behind : window'.behind ≡ old.window.behind) (locks : window'.locks ≡ old.window.locks)
    (words : window'.words ≡ option_map (gates_moved old.desc.defs (λ _. false) (λ _. true) (path_within (link_in tree'.clocks) levels c.0)) old.window.words) where
  joined_held : Joined old c window' tree' counts' held gone flight'
  joined_held = record {
    off = off;
    now = now;
    beside = beside;
    size = size;
    told = ap (λ (o : Option (List ℕ)). is_some o) words ∙ told_mapped _ old.window.words;
    behind = behind;
    locks = locks;
    tied = tied-moved old.desc old.window window' tree' (λ _. false) (λ _. true) (path_within (link_in tree'.clocks) levels c.0) (tied_registered old c.0 tree' counts' off.whole now)
        (in_desc old c.0 tree' counts' held window' levels off.whole now holds critical) size words;
    keeps = holds.keeps;
    stands = held_stands old c.0 tree' counts' held window' levels off.whole now holds critical (bare old) (bare (with_joined old window' tree' held flight')) critical off.whole.counted.stands
        (attached_in old c.0 window' tree' counts' held flight' now) refl;
  }

  pub whole_held : IsWhole (with_joined old window' tree' held flight')
  whole_held = whole_joined old c window' tree' counts' held gone flight' joined_held

  pub held_enters : ((d : ℕ) → is_in d (path_within (up_in counts'.links) levels c.0) ≡ (is_active held d && not (is_active counts' d)))
      → Enters old old.flight.driver (event.Step (micro.Register c) None) turn.Going (with_joined old window' tree' held flight')
  unfolding settled
  held_enters began = joined_enters old c window' tree' counts' held gone flight' joined_held (λ s stands. (
    gates_moved s.defs (λ _. false) (λ _. true) (path_within (link_in tree'.clocks) levels c.0) s.regs,
    critical_words old c.0 tree' counts' held window' levels off.whole now holds critical s stands words,
    λ k. critical_regs old c.0 tree' counts' held window' levels off.whole now holds critical s stands began,
  ))
