-- What the steps that give a clock another parent make of the parts of a core.
use Rattle.std.proofs.Common.{◌≡◌, ℕ, ◌+◌, ◌<◌, ◌&&◌, not, Bool, ◌||◌, true, false, nat_eq, nat_lt, List, [], ◌∷◌, Option, Some, None, refl, sym, ap, subst, ◌∙◌, length, arith}
use Rattle.std.specs.Prelude.{is_some, slice_get, if◌then◌else◌}
use Rattle.std.specs.List.{list_all}
use Rattle.std.specs.Option.{option_map_or}
use Rattle.std.proofs.Math.Path.{fun_ext}
use Rattle.std.proofs.Math.Bool.{or-false}
use Rattle.std.proofs.lemmas.Bool.{and_from}
use Rattle.clk_base.specs.declared.call.Micro.{Micro}
use Rattle.clk_base.specs.declared.call.Micro.TheVariants as micro
use Rattle.clk_base.specs.declared.call.Sleeping.{Sleeping}
use Rattle.clk_base.specs.declared.clock.ClockId.{ClockId}
use Rattle.clk_base.specs.declared.event.Event.TheVariants as event
use Rattle.clk_base.specs.declared.event.Turn.TheVariants as turn
use Rattle.clk_base.specs.Description.{Description, kind_of, parents_of}
use Rattle.reg_bank.specs.Registers.{Registers}
use Rattle.clk_model.specs.declared.row.ClockRow.{ClockRow}
use Rattle.clk_model.specs.State.{State, Change, registered, link_in}
use Rattle.clk_model.specs.Kinds.{mux_field}
use Rattle.clk_model.specs.Machine.{next}
use Rattle.clk_model.specs.Step.{rest_of, is_end, is_register}
use Rattle.clk_model.proofs.Members.{both_left, both_right}
use Rattle.clk_flight.specs.declared.front.Front.{Front}
use Rattle.clk_flight.specs.declared.front.Front.TheVariants.{Empty, Poll, Raise, Lower, Falls, Posts}
use Rattle.clk_flight.specs.Flights.{FlightState, IsChange, own_step, own_first, first_step}
use Rattle.clk_flight.specs.Fronts.{front_behind, script_behind}
use Rattle.clk_flight.specs.LeftOver.{left_over}
use Rattle.clk_flight.specs.Moves.{gone_on}
use Rattle.clk_flight.specs.Steps.{LeavesLessAt, is_taken}
use Rattle.clk_flight.proofs.KeptLaws.{going_step}
use Rattle.clk_tree.specs.TreeState.{TreeState}
use Rattle.counts_core.specs.Counted.{CountState, AreCounts}
use Rattle.counts_core.specs.Standing.{StandsFor}
use Rattle.change_walk.specs.declared.changes.Changed.{Changed}
use Rattle.core_parts.specs.Holds.{TellsHolds, AreHeld}
use Rattle.core_parts.specs.Course.{IsAlong, TellsAlong, tells_all, begins_with, behind_visit, visited_by, notifiers_at}
use Rattle.core_parts.specs.InFlight.{IsUnderWay, links_clocks, can_link, may_make, is_front, is_near}
use Rattle.clk_machine.specs.Making.{ComesFirst}
use Rattle.core_parts.specs.Listed.{rows_from}
use Rattle.core_parts.specs.Tied.{AreTied}
use Rattle.clk_machine.specs.Parts.{Parts, bare, IsWhole, IsFlown}
use Rattle.clk_machine.specs.Sound.{IsSound}
use Rattle.clk_machine.specs.Stands.{Stands, Enters}
use Rattle.core_parts.specs.Window.{Shown}
use Rattle.core_parts.proofs.HeldCounts.{held_still}
use Rattle.core_parts.proofs.Holdings.{StandsFor-same}
use Rattle.core_parts.proofs.InFlight.{script_rest, first_seeks, cut_behind}
use Rattle.core_parts.proofs.StepsInFlight.{changes_links}
use Rattle.clk_machine.proofs.Making.{change_of, next_of, no_registers}
use Rattle.clk_machine.proofs.Stepping.{IsNext}

-- whether a step gives a clock another parent, comes behind such a step, or holds clocks for it
abbrev pub relinks : Micro → Bool
relinks (micro.HoldPrepare x) = true
relinks (micro.HoldEnable x) = true
relinks (micro.DropEnable x) = true
relinks (micro.DropPrepare x) = true
relinks (micro.Relink c p) = true
relinks (micro.WriteMux c place) = true
relinks (micro.Settle c) = true
relinks _ = false

-- whether such a step holds a clock or lets it go, and so gives no link
abbrev pub only_holds : Micro → Bool
only_holds (micro.HoldPrepare x) = true
only_holds (micro.HoldEnable x) = true
only_holds (micro.DropEnable x) = true
only_holds (micro.DropPrepare x) = true
only_holds _ = false

-- such a step is the script's own
pub record OwnStep (f : FlightState) (m : Micro) : Type 0 where
  pub front : f.front ≡ Empty
  pub rest : List Micro
  pub left : f.left ≡ m ∷ rest
  pub changes : only_holds m ≡ false → links_clocks f.call ≡ true

-- what such a step is
pub record IsKind (m : Micro) : Type 0 where
  pub no_end : is_end m ≡ false
  pub plain : is_register m ≡ false
  pub taken_ : is_taken m ≡ true
  pub unseen : visited_by m ≡ None
  pub may : (what : Sleeping) (there : ℕ → Bool) → may_make what there m ≡ true → only_holds m ≡ false → links_clocks what ≡ true

pub kind_is : (m : Micro) → relinks m ≡ true → IsKind m
kind_is (micro.HoldPrepare x) e = record { no_end = refl; plain = refl; taken_ = refl; unseen = refl; may = λ what there made links. absurd cc }
kind_is (micro.HoldEnable x) e = record { no_end = refl; plain = refl; taken_ = refl; unseen = refl; may = λ what there made links. absurd cc }
kind_is (micro.DropEnable x) e = record { no_end = refl; plain = refl; taken_ = refl; unseen = refl; may = λ what there made links. absurd cc }
kind_is (micro.DropPrepare x) e = record { no_end = refl; plain = refl; taken_ = refl; unseen = refl; may = λ what there made links. absurd cc }
kind_is (micro.Relink c p) e = record { no_end = refl; plain = refl; taken_ = refl; unseen = refl; may = λ what there made links. both_left (links_clocks what) (there c.0 && there p.0) made }
kind_is (micro.WriteMux c place) e = record { no_end = refl; plain = refl; taken_ = refl; unseen = refl; may = λ what there made links. changes_links what made }
kind_is (micro.Settle c) e = record { no_end = refl; plain = refl; taken_ = refl; unseen = refl; may = λ what there made links. both_left (links_clocks what) (there c.0) made }
kind_is _ e = absurd cc

pub own_of : (f : FlightState) (there : ℕ → Bool) (m : Micro) → relinks m ≡ true → own_step f ≡ Some m → IsUnderWay there f → OwnStep f m
own_of f there m is own way = by f.front refl where
  first : own_first f f.front ≡ Some m
  first = going_step f.going (own_first f f.front) m own

  from : (left : List Micro) → f.left ≡ left → slice_get left 0 ≡ Some m → (rest : List Micro) × (f.left ≡ m ∷ rest)
  from [] at e = absurd cc
  from (n ∷ ms) at e = let same : n ≡ m = cc in (ms, at ∙ ap (λ (x : Micro). x ∷ ms) same)

  no_poll : (y : ClockId) → micro.Poll y ≡ m → ⊥
  no_poll y e = let no : false ≡ true = ap relinks e ∙ is in absurd cc

  no_raise : (y : ClockId) → micro.Raise y ≡ m → ⊥
  no_raise y e = let no : false ≡ true = ap relinks e ∙ is in absurd cc

  no_lower : (y : ClockId) → micro.Lower y ≡ m → ⊥
  no_lower y e = let no : false ≡ true = ap relinks e ∙ is in absurd cc

  inside : {x y : Micro} → Some x ≡ Some y → x ≡ y
  inside e = cc

  by : (front : Front) → f.front ≡ front → OwnStep f m
  by Empty at =
      let here : slice_get f.left 0 ≡ Some m = sym (ap (own_first f) at) ∙ first in
      let kind = kind_is m is in
      let left = from f.left refl here in
      record { front = at; rest = left.0; left = left.1; changes = kind.may f.call there (first_seeks f there m here kind.no_end way.script) }
  by (Poll y polls again) at = absurd (no_poll y (inside (sym (ap (own_first f) at) ∙ first)))
  by (Raise x) at = absurd (no_raise x (inside (sym (ap (own_first f) at) ∙ first)))
  by (Lower x) at = absurd (no_lower x (inside (sym (ap (own_first f) at) ∙ first)))
  by (Falls told left) at = let no : None ≡ Some m = sym (ap (own_first f) at) ∙ first in absurd cc
  by (Posts d told left old new) at = let no : None ≡ Some m = sym (ap (own_first f) at) ∙ first in absurd cc

-- ---- the flight behind it

-- the flight behind a step of the script itself
pub own_behind : (f : FlightState) (m : Micro) → (own : OwnStep f m) → gone_on f ≡ record f { front = Empty; left = own.rest }
own_behind f m own =
    ap (λ (front : Front). let g : FlightState = record f { front = front_behind f.raised front; left = script_behind front f.left } in g) own.front
    ∙ ap (λ (ms : List Micro). let g : FlightState = record f { front = Empty; left = rest_of ms } in g) own.left

-- and with other PLLs that count as raised
abbrev pub raised_then : FlightState → List ℕ → FlightState
raised_then f ys = record (gone_on f) { raised = ys }

-- nothing stands in front behind it
pub front_gone : (old : Parts) (m : Micro) (flight' : FlightState) → IsWhole old → old.flight.going ≡ true → relinks m ≡ true → own_step old.flight ≡ Some m → flight' ≡ gone_on old.flight → flight'.front ≡ Empty
front_gone old m flight' whole going is own gone =
    ap (λ (f : FlightState). f.front) (gone ∙ own_behind old.flight m (own_of old.flight (registered old.tree.clocks) m is own (whole.flown going).way))

under_way-own : (f : FlightState) (there : ℕ → Bool) (m : Micro) (ys : List ℕ) → relinks m ≡ true → own_step f ≡ Some m → list_all (is_near f.call there) ys ≡ true → IsUnderWay there f → IsUnderWay there (raised_then f ys)
under_way-own f there m ys is own all way = record {
  call_ = way.call_;
  script = script_rest f there f.front m (going_step f.going (own_first f f.front) m own) (kind_is m is).no_end (kind_is m is).plain way.script;
  front = ap (λ (front : Front). is_front f.call there (front_behind f.raised front)) (own_of f there m is own way).front;
  cut = cut_behind f.call f.raised f.left f.front way.cut;
  raised = all;
  extra = way.extra;
  vetoed = way.vetoed;
}

tells-own : (f : FlightState) (counts : ℕ → ℕ) (ns : List Changed) (m : Micro) → relinks m ≡ true → OwnStep f m → TellsAlong counts ns f → TellsAlong counts ns (gone_on f)
tells-own f counts ns m is own tells =
    subst (λ (g : FlightState). TellsAlong counts ns g) (sym (own_behind f m own)) (record {
      front = tt;
      visits =
          sym (ap (λ (o : Option ℕ). option_map_or (λ c. (nat_eq (counts c) 0 || begins_with c ns) && tells_all counts own.rest (behind_visit (counts c) ns)) o (tells_all counts own.rest ns)) (kind_is m is).unseen)
          ∙ sym (ap (λ (ms : List Micro). tells_all counts ms ns) own.left) ∙ tells.visits;
    })

links-own : (f : FlightState) (defs : Description) (clocks : List ClockRow) (m : Micro) → OwnStep f m → list_all (can_link defs clocks) f.left ≡ true
    → (can_link defs clocks m ≡ true) × (list_all (can_link defs clocks) (gone_on f).left ≡ true)
links-own f defs clocks m own all =
    let both : (can_link defs clocks m && list_all (can_link defs clocks) own.rest) ≡ true = sym (ap (λ (ms : List Micro). list_all (can_link defs clocks) ms) own.left) ∙ all in
    (both_left _ _ both, ap (λ (g : FlightState). list_all (can_link defs clocks) g.left) (own_behind f m own) ∙ both_right _ _ both)

-- ---- the parts

-- such a step was made: the words, the tree, the counts and what is held go on together, and nobody has lost a link
pub record Relinked (old : Parts) (m : Micro) (window' : Shown) (tree' : TreeState) (counts' : CountState) (prepares' enables' : List ℕ) (flight' : FlightState) : Type 0 where
  pub whole : IsWhole old
  pub going : old.flight.going ≡ true
  pub is : relinks m ≡ true
  pub own : own_step old.flight ≡ Some m
  pub first : ComesFirst old m
  pub size : window'.size ≡ old.window.size
  pub told : is_some window'.words ≡ is_some old.window.words
  pub behind : window'.behind ≡ old.window.behind
  pub locks : window'.locks ≡ old.window.locks
  pub tied : AreTied old.desc window' tree'
  pub there : (c : ℕ) → registered tree'.clocks c ≡ registered old.tree.clocks c
  pub linked : (c : ℕ) → is_some (link_in old.tree.clocks c) ≡ true → is_some (link_in tree'.clocks c) ≡ true
  pub keeps : AreCounts counts'
  pub prepares : AreHeld (registered old.tree.clocks) (length old.desc.defs) (old.steps + 1) prepares'
  pub enables : AreHeld (registered old.tree.clocks) (length old.desc.defs) (old.steps + 1) enables'
  pub stands : StandsFor counts' (bare (record old { tree = tree'; prepare_holds = prepares'; enable_holds = enables' }))
  -- these PLLs count as raised then
  pub raised : List ℕ
  pub raised_there : list_all (is_near old.flight.call (registered old.tree.clocks)) raised ≡ true
  pub flight : flight' ≡ raised_then old.flight raised
  pub less : left_over (rows_from 0 old.chains) flight' < left_over (rows_from 0 old.chains) old.flight

-- the parts behind it
abbrev pub with_relinked : Parts → Shown → TreeState → CountState → List ℕ → List ℕ → FlightState → Parts
with_relinked old window' tree' counts' prepares' enables' flight' =
    record old { window = window'; tree = tree'; counts = counts'; prepare_holds = prepares'; enable_holds = enables'; flight = flight'; steps = old.steps + 1 }

-- what can be made over the tree stays so
can_more : (defs : Description) (old new : List ClockRow) → ((c : ℕ) → registered new c ≡ registered old c) → ((c : ℕ) → is_some (link_in old c) ≡ true → is_some (link_in new c) ≡ true) → (m : Micro) → can_link defs old m ≡ true
    → can_link defs new m ≡ true
can_more defs old new there linked (micro.WriteMux c place) can =
    ap (λ (t : Bool). is_some (mux_field (kind_of defs c.0)) && t && nat_lt place (length (parents_of defs c.0)))
    (linked c.0 (both_right _ _ (both_left _ _ can)) ∙ sym (both_right _ _ (both_left _ _ can))) ∙ can
can_more defs old new there linked (micro.Register c) can = ap (λ (t : Bool). nat_lt c.0 (length defs) && not t) (there c.0) ∙ can
can_more defs old new there linked _ can = can

-- where each step that passes one test passes another, so do lists of them
pub all_more : (before after : Micro → Bool) (ms : List Micro) → ((m : Micro) → before m ≡ true → after m ≡ true) → list_all before ms ≡ true → list_all after ms ≡ true
all_more before after [] each all = refl
all_more before after (m ∷ ms) each all = and_from _ _ (each m (both_left _ _ all)) (all_more before after ms each (both_right _ _ all))

pub own_step_of : (old : Parts) (m : Micro) → IsWhole old → old.flight.going ≡ true → relinks m ≡ true → own_step old.flight ≡ Some m → OwnStep old.flight m
own_step_of old m whole going is own = own_of old.flight (registered old.tree.clocks) m is own (whole.flown going).way

-- it is one that its call may make
pub made_now : (old : Parts) (m : Micro) → IsWhole old → old.flight.going ≡ true → relinks m ≡ true → own_step old.flight ≡ Some m → may_make old.flight.call (registered old.tree.clocks) m ≡ true
made_now old m whole going is own =
    let at = own_step_of old m whole going is own in
    first_seeks old.flight (registered old.tree.clocks) m (ap (λ (ms : List Micro). slice_get ms 0) at.left) (kind_is m is).no_end (whole.flown going).way.script

-- the step can be made
pub can_now : (old : Parts) (m : Micro) → IsWhole old → old.flight.going ≡ true → relinks m ≡ true → own_step old.flight ≡ Some m → can_link old.desc.defs old.tree.clocks m ≡ true
can_now old m whole going is own = by (only_holds m) refl where
  free : (n : Micro) → only_holds n ≡ true → can_link old.desc.defs old.tree.clocks n ≡ true
  free (micro.HoldPrepare x) e = refl
  free (micro.HoldEnable x) e = refl
  free (micro.DropEnable x) e = refl
  free (micro.DropPrepare x) e = refl
  free _ e = absurd cc

  at : OwnStep old.flight m
  at = own_step_of old m whole going is own

  by : (t : Bool) → only_holds m ≡ t → can_link old.desc.defs old.tree.clocks m ≡ true
  by true holds = free m holds
  by false links = (links-own old.flight old.desc.defs old.tree.clocks m at ((whole.flown going).links (at.changes links))).0

-- fewer steps are to come
pub falls_of : (old : Parts) (m : Micro) (flight' : FlightState) → IsWhole old → old.flight.going ≡ true → relinks m ≡ true → own_step old.flight ≡ Some m → LeavesLessAt is_taken old.flight flight'
    → left_over (rows_from 0 old.chains) flight' < left_over (rows_from 0 old.chains) old.flight
falls_of old m flight' whole going is own less =
    let at = own_step_of old m whole going is own in
    less (rows_from 0 old.chains) m
    (ap (λ (t : Bool). if t then first_step (rows_from 0 old.chains) old.flight old.flight.front else None) going
    ∙ ap (first_step (rows_from 0 old.chains) old.flight) at.front ∙ ap (λ (ms : List Micro). slice_get ms 0) at.left)
    (kind_is m is).taken_

-- they stay whole
pub whole_relinked : (old : Parts) (m : Micro) (window' : Shown) (tree' : TreeState) (counts' : CountState) (prepares' enables' : List ℕ) (flight' : FlightState) → Relinked old m window' tree' counts' prepares' enables' flight'
    → IsWhole (with_relinked old window' tree' counts' prepares' enables' flight')
whole_relinked old m window' tree' counts' prepares' enables' flight' now =
    let whole = now.whole in
    let flown = whole.flown now.going in
    let at = own_step_of old m whole now.going now.is now.own in
    let falls = now.less in
    record {
      tied = now.tied;
      paid = whole.paid;
      counted = record {
        keeps = now.keeps;
        stands =
            StandsFor-same counts' (bare (record old { tree = tree'; prepare_holds = prepares'; enable_holds = enables' })) (bare (with_relinked old window' tree' counts' prepares' enables' flight')) now.stands refl refl refl refl refl;
      };
      clocks = whole.clocks;
      handled = λ n h e. now.there h.clock.0 ∙ whole.handled n h e;
      notified = whole.notified;
      listed = whole.listed;
      flown = λ still. subst (λ (f : FlightState). IsFlown old.desc.defs tree'.clocks old.table.handles old.chains old.course.notified old.spent f) (sym now.flight) (record {
        plls_ = flown.plls_;
        way = subst (λ (there : ℕ → Bool). IsUnderWay there (raised_then old.flight now.raised)) (sym (fun_ext now.there))
            (under_way-own old.flight (registered old.tree.clocks) m now.raised now.is now.own now.raised_there flown.way);
        own = flown.own;
        paid = flown.paid;
        tells = λ changes. let tells = tells-own old.flight (notifiers_at old.chains) old.course.notified m now.is at (flown.tells changes) in record { front = tells.front; visits = tells.visits };
        links = λ changes.
            all_more (can_link old.desc.defs old.tree.clocks) (can_link old.desc.defs tree'.clocks) (gone_on old.flight).left (can_more old.desc.defs old.tree.clocks tree'.clocks now.there now.linked)
            (links-own old.flight old.desc.defs old.tree.clocks m at (flown.links changes)).1;
        placed = flown.placed;
      });
      room = let room = whole.room in omega arith;
      prepares_held = held_still (registered old.tree.clocks) (registered tree'.clocks) (length old.desc.defs) (old.steps + 1) prepares' (λ k there. now.there k ∙ there) now.prepares;
      enables_held = held_still (registered old.tree.clocks) (registered tree'.clocks) (length old.desc.defs) (old.steps + 1) enables' (λ k there. now.there k ∙ there) now.enables;
    }

-- what the step does to a state
pub record DoesTo (old : Parts) (m : Micro) (window' : Shown) (tree' : TreeState) (prepares' enables' : List ℕ) (flight' : FlightState) (s : State) (k : Change) : Type 0 where
  pub regs : Registers
  pub clocks : List ClockRow
  pub order : List ℕ
  pub prepare_holds : List ℕ
  pub enable_holds : List ℕ
  pub change : Change
  pub next_ : next s old.flight.driver (event.Step m None)
      ≡ Some (record s { regs = regs; clocks = clocks; order = order; prepare_holds = prepare_holds; enable_holds = enable_holds; change = Some change; steps = s.steps + 1 }, turn.Going)
  pub words : window'.words ≡ Some regs
  pub rows : clocks ≡ tree'.clocks
  pub order_ : order ≡ tree'.order
  pub prepares : TellsHolds prepares' prepare_holds
  pub enables : TellsHolds enables' enable_holds
  pub flies : IsChange s.notifiers flight' change
  pub along : IsAlong old.course (Some k) → IsAlong old.course (Some change)

-- and it takes the parts on
pub relinked_enters : (old : Parts) (m : Micro) (window' : Shown) (tree' : TreeState) (counts' : CountState) (prepares' enables' : List ℕ) (flight' : FlightState) → Relinked old m window' tree' counts' prepares' enables' flight'
    → ((s : State) (k : Change) → Stands old s → IsSound old.window.size s → IsNext s old.flight.driver k m → IsChange s.notifiers old.flight k → DoesTo old m window' tree' prepares' enables' flight' s k)
    → Enters old old.flight.driver (event.Step m None) turn.Going (with_relinked old window' tree' counts' prepares' enables' flight')
relinked_enters old m window' tree' counts' prepares' enables' flight' now does = record {
  remains = record { desc = refl; told = now.told; size = now.size; behind = now.behind; credits = refl; ignore_unused = refl };
  pays = let same : old.spent ≡ old.spent + 0 = omega arith in same;
  rows = λ d. now.there d ∙ sym (or-false (registered old.tree.clocks d)) ∙ ap (λ (t : Bool). registered old.tree.clocks d || t) (sym (no_registers m d (kind_is m now.is).plain));
  going = ap (λ (f : FlightState). f.going) now.flight ∙ now.going;
  driver_ = λ still. ap (λ (f : FlightState). f.driver) now.flight;
  fewer = λ free. now.less;
  begun = λ paid. absurd cc;
  no_more = λ paid. absurd cc;
  locks = λ still. now.locks;
  beside = λ tier. absurd cc;
  step = λ s stands sound.
      let has = change_of old s stands now.going in
      let first = now.first s.notifiers has.k stands.notifiers has.is in
      let done = does s has.k stands sound (next_of old s m has first) has.is in
      record {
        to = record s {
          regs = done.regs;
          clocks = done.clocks;
          order = done.order;
          prepare_holds = done.prepare_holds;
          enable_holds = done.enable_holds;
          change = Some done.change;
          steps = s.steps + 1;
        };
        next_ = done.next_;
        stands = record {
          defs = stands.defs;
          regs = done.words;
          clocks = done.rows;
          order = done.order_;
          handles = stands.handles;
          notifiers = stands.notifiers;
          prepare_holds = done.prepares;
          enable_holds = done.enables;
          change = done.flies;
          along = done.along has.along;
          credits = stands.credits;
          spent = stands.spent;
          steps = ap (λ (n : ℕ). n + 1) stands.steps;
          ignore_unused = stands.ignore_unused;
        };
      };
}
