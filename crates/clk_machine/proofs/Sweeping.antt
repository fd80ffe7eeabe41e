-- The unused sweep: how it begins, and what its steps make of the parts of a core.
use Rattle.std.proofs.Common.{◌≡◌, ℕ, ◌+◌, ◌-◌, ◌^◌, ◌<◌, ◌≤◌, ◌&&◌, ◌||◌, min, inl, inr, not, Bool, true, false, List, [], ◌∷◌, Option, Some, None, refl, sym, ap, subst, ◌∙◌, arith, length, nat_eq, nat_lt, nat_le, true≢false}
use Rattle.std.specs.Prelude.{if◌then◌else◌, is_some, slice_get, sum_by, IfSome}
use Rattle.std.specs.List.{list_all, list_any}
use Rattle.std.specs.Option.{option_map, option_map_or}
use Rattle.std.proofs.Math.Bool.{or-false}
use Rattle.std.proofs.lemmas.Bool.Decides.{nat_tests}
use Rattle.clk_base.specs.declared.call.Micro.{Micro}
use Rattle.clk_base.specs.declared.call.Micro.TheVariants as micro
use Rattle.clk_base.specs.declared.call.Sleeping.{Sleeping}
use Rattle.clk_base.specs.declared.call.Sleeping.TheVariants as call
use Rattle.clk_base.specs.declared.clock.ClockId.{ClockId}
use Rattle.clk_base.specs.declared.clock.Kind.{Kind}
use Rattle.clk_base.specs.declared.event.Errno.TheVariants as errno
use Rattle.clk_base.specs.declared.event.Event.TheVariants as event
use Rattle.clk_base.specs.declared.event.Reply.TheVariants as reply
use Rattle.clk_base.specs.declared.event.Turn.{Turn}
use Rattle.clk_base.specs.declared.event.Turn.TheVariants as turn
use Rattle.clk_base.specs.Description.{Description, kind_of}
use Rattle.clk_base.specs.Fields.{gate_of, power_of}
use Rattle.reg_bank.specs.Registers.{Registers}
use Rattle.clk_model.specs.Begin.{most_credits, weight_of, change_of, begun, done, refused}
use Rattle.clk_model.specs.Gates.{follow, gates_moved}
use Rattle.clk_model.specs.Holders.{active}
use Rattle.clk_model.specs.Lists.{is_in}
use Rattle.clk_model.specs.Machine.{paid, next}
use Rattle.clk_model.specs.Prep.{is_sweep}
use Rattle.clk_model.specs.Script.{plls, sweep_script, weight}
use Rattle.clk_model.specs.State.{State, Change, registered}
use Rattle.clk_model.specs.Step.{is_end, is_visit, powered, close, rest_of, taken, todo, is_register}
use Rattle.clk_model.proofs.EventLaws.{pick-true, pick-false, begin_quiet}
use Rattle.clk_model.proofs.Members.{both_right, is_in_cases}
use Rattle.clk_model.proofs.StateLaws.{paid-still}
use Rattle.clk_flight.specs.declared.front.Front.{Front}
use Rattle.clk_flight.specs.declared.front.Front.TheVariants.{Empty, Poll, Raise, Lower, Falls, Posts}
use Rattle.clk_flight.specs.Flights.{FlightState, IsChange, first_step, own_first, own_step}
use Rattle.clk_flight.specs.Fronts.{front_behind, script_behind}
use Rattle.clk_flight.specs.LeftOver.{step_weight, left_over}
use Rattle.clk_flight.specs.Moves.{gone_on}
use Rattle.clk_flight.specs.Steps.{GoesOn, LeavesLessAt, is_taken}
use Rattle.clk_flight.proofs.KeptLaws.{going_step}
use Rattle.core_parts.specs.Window.{Shown}
use Rattle.core_parts.specs.Course.{TellsAlong, begins_with, behind_visit, tells_all, visited_by}
use Rattle.clk_machine.specs.Holding.{stays}
use Rattle.core_parts.specs.InFlight.{changes_rate, may_make, is_script, is_front, IsUnderWay, links_clocks, probes}
use Rattle.clk_machine.specs.Making.{ComesFirst}
use Rattle.core_parts.specs.Listed.{rows_from}
use Rattle.core_parts.specs.Tied.{AreTied}
use Rattle.clk_machine.specs.Parts.{Parts, IsOwnCall, IsWhole}
use Rattle.clk_machine.specs.Stands.{Stands, Enters}
use Rattle.clk_machine.specs.Starting.{StartsCall}
use Rattle.core_parts.proofs.Closing.{closed_regs}
use Rattle.clk_machine.proofs.Flying.{quiet_stands}
use Rattle.core_parts.proofs.InFlight.{cut_behind, first_seeks, script_rest}
use Rattle.core_parts.proofs.SameCall.{SameCall, KeepsAlong}
use Rattle.clk_machine.proofs.Making.{with_step, enters_step, stands_stepped, whole_stepped, change_of as now_of}
use Rattle.core_parts.proofs.Moving.{clock_within, tied-moved}
use Rattle.core_parts.proofs.Opening.{gate_fits}
use Rattle.clk_machine.proofs.Raising.{power_lies}
use Rattle.core_parts.proofs.Powering.{powered_words, power_put}
use Rattle.core_parts.proofs.Deciding.{not_less}
use Rattle.clk_machine.proofs.Starting.{Started, started_left, started_way, whole_flying, flying, with_spent, stands_flying, stands_spent}
use Rattle.clk_machine.proofs.Stepping.{closes_one, unpowers_one}
use Rattle.clk_machine.proofs.Writing.{whole_spent}
use Rattle.clk_machine.proofs.Probing.{plain_sum}
use Rattle.clk_machine.proofs.SweepScript.{swept_unvisited}

-- ---- the beginning, in states

pub sweep_off : (s : State) (d : ℕ) → s.change ≡ None → s.ignore_unused ≡ true → next s d (event.Begin call.Sweep) ≡ paid s (done s reply.Fine)
unfolding begun
sweep_off s d quiet off = begin_quiet s d call.Sweep quiet ∙ ap (paid s) (pick-true s.ignore_unused _ _ off)

pub sweep_full : (s : State) (d : ℕ) → s.change ≡ None → s.ignore_unused ≡ false → most_credits < s.credits + s.steps + sum_by (weight s) (sweep_script s)
    → next s d (event.Begin call.Sweep) ≡ paid s (refused s errno.ENOSPC)
unfolding begun
sweep_full s d quiet on_ full =
    let k : Change = change_of s d call.Sweep (sweep_script s) in
    let more : nat_lt most_credits (s.credits + s.steps + weight_of s k) ≡ true = less_is most_credits (s.credits + s.steps + weight_of s k) (omega arith) in
    begin_quiet s d call.Sweep quiet ∙ ap (paid s) (pick-false s.ignore_unused _ _ on_ ∙ pick-true (nat_lt most_credits (s.credits + s.steps + weight_of s k)) _ _ more) where
      less_is : (a b : ℕ) → a < b → nat_lt a b ≡ true
      less_is a b lt = grind (arith, nat_tests)

-- what the script weighs in a state that the parts stand for
sweep_weighs : (m : Parts) (s : State) (steps : List Micro) → Stands m s → steps ≡ sweep_script s
    → sum_by (weight s) (sweep_script s) ≡ sum_by (step_weight (rows_from 0 m.chains) (plls m.desc.defs)) steps
sweep_weighs m s steps stands is =
    ap (λ (ms : List Micro). sum_by (weight s) ms) (sym is)
    ∙ plain_sum s (rows_from 0 m.chains) (plls m.desc.defs) steps (ap (λ (ms : List Micro). list_any is_visit ms) is ∙ swept_unvisited s) (ap plls (sym stands.defs))

-- if the parts have no room, the state hasn't either
pub sweep_refused : (m : Parts) (s : State) (d : ℕ) (steps : List Micro) (used weight_ : ℕ) → Stands m s → s.change ≡ None → m.ignore_unused ≡ false → steps ≡ sweep_script s
    → used ≡ m.credits + m.steps → weight_ ≡ min (sum_by (step_weight (rows_from 0 m.chains) (plls m.desc.defs)) steps) (2 ^ 64 - 1) → nat_le (used + weight_) most_credits ≡ false
    → next s d (event.Begin call.Sweep) ≡ paid s (refused s errno.ENOSPC)
sweep_refused m s d steps used weight_ stands quiet on_ told is weighs full =
    let over : most_credits < used + weight_ = more most_credits (used + weight_) full in
    let one = stands.credits in
    let two = stands.steps in
    let sum = sweep_weighs m s steps stands told in
    sweep_full s d quiet (stands.ignore_unused ∙ on_) (omega arith) where
      more : (a b : ℕ) → nat_le b a ≡ false → a < b
      more a b e = grind (arith, nat_tests)

sweep_going : (s : State) (d : ℕ) → s.change ≡ None → s.ignore_unused ≡ false → s.spent < s.credits → s.credits + s.steps + sum_by (weight s) (sweep_script s) ≤ most_credits
    → next s d (event.Begin call.Sweep) ≡ Some (record s { change = Some (change_of s d call.Sweep (sweep_script s)); spent = s.spent + 1 }, turn.Going)
unfolding begun
sweep_going s d quiet on_ left room =
    let k : Change = change_of s d call.Sweep (sweep_script s) in
    let fits : nat_lt most_credits (s.credits + s.steps + weight_of s k) ≡ false = not_less (s.credits + s.steps + weight_of s k) most_credits (omega arith) in
    begin_quiet s d call.Sweep quiet
    ∙ ap (paid s) (pick-false s.ignore_unused _ _ on_ ∙ pick-false (nat_lt most_credits (s.credits + s.steps + weight_of s k)) _ _ fits)
    ∙ paid-still s (record s { change = Some k }) turn.Going left (λ c. refl)

-- ---- and in the parts

-- the parts stay whole if the sweep's flight begins
pub whole_sweeping : (old : Parts) (d : ℕ) (steps : List Micro) (flight' : FlightState) → IsWhole old → old.spent < old.credits → is_script call.Sweep (registered old.tree.clocks) steps ≡ true
    → old.credits + old.steps + sum_by (step_weight (rows_from 0 old.chains) (plls old.desc.defs)) steps ≤ most_credits → Started old d call.Sweep steps flight' → IsWhole (flying (with_spent old) flight')
whole_sweeping old d steps flight' whole left script room now =
    whole_flying (with_spent old) flight' (whole_spent old whole left) (record {
      plls_ = now.plls_;
      tells = λ changes. let no : true ≡ false = sym changes ∙ ap changes_rate now.call_ in absurd cc;
      links = λ changes. let no : true ≡ false = sym changes ∙ ap links_clocks now.call_ in absurd cc;
      placed = λ c here. let no : true ≡ false = sym here ∙ ap (λ (what : Sleeping). probes what c) now.call_ in absurd cc;
      way = started_way old d call.Sweep steps flight' (registered old.tree.clocks) now refl script;
      own = subst (λ (what : Sleeping). IsOwnCall old.table.handles flight'.driver what) (sym now.call_) tt;
      paid = let few = whole.paid.few_holds in omega arith;
    }) (let few = started_left old d call.Sweep steps flight' now in omega arith)

pub starts_sweep : (old : Parts) (d : ℕ) (steps : List Micro) (flight' : FlightState) → Started old d call.Sweep steps flight' → ((s : State) → IsChange s.notifiers flight' (change_of s d call.Sweep steps))
    → StartsCall old d call.Sweep steps stays (flying (with_spent old) flight')
starts_sweep old d steps flight' now change = record {
  remains = record { desc = refl; told = refl; size = refl; behind = refl; credits = refl; ignore_unused = refl };
  spent = refl;
  locks = refl;
  rows = λ c. refl;
  going = now.going;
  driver_ = now.driver;
  left = started_left old d call.Sweep steps flight' now;
  stands = λ s stands. stands_flying (with_spent old) flight' (record s { spent = s.spent + 1 }) (change_of s d call.Sweep steps) (stands_spent old s stands) (change s) (λ changes. absurd cc);
}

-- how many steps are to come
pub sweep_left : (old new : Parts) (d : ℕ) (steps : List Micro) → StartsCall old d call.Sweep steps stays new
    → left_over (rows_from 0 new.chains) new.flight ≡ sum_by (step_weight (rows_from 0 old.chains) (plls old.desc.defs)) steps
sweep_left old new d steps starts_ = starts_.left

pub enters_sweep : (old new : Parts) (d : ℕ) (steps : List Micro) → old.flight.going ≡ false → old.ignore_unused ≡ false → old.spent < old.credits → ((s : State) → Stands old s → steps ≡ sweep_script s)
    → old.credits + old.steps + sum_by (step_weight (rows_from 0 old.chains) (plls old.desc.defs)) steps ≤ most_credits → StartsCall old d call.Sweep steps stays new
    → Enters old d (event.Begin call.Sweep) turn.Going new
enters_sweep old new d steps quiet on_ left told room starts_ = record {
  remains = starts_.remains;
  pays = starts_.spent;
  rows = λ c. starts_.rows c ∙ sym (or-false (registered old.tree.clocks c));
  going = starts_.going;
  driver_ = λ still. starts_.driver_;
  fewer = λ free. absurd cc;
  begun = λ paid goes. let few = sweep_left old new d steps starts_ in omega arith;
  no_more = λ paid done. absurd cc;
  locks = λ still. starts_.locks;
  beside = λ tier. absurd cc;
  step = λ s stands sound.
      let is = told s stands in
      let sum = sweep_weighs old s steps stands is in
      let spends : s.spent < s.credits = let one = stands.spent in let two = stands.credits in omega arith in
      let fits : s.credits + s.steps + sum_by (weight s) (sweep_script s) ≤ most_credits = let one = stands.credits in let two = stands.steps in omega arith in
      record {
        to = record s { change = Some (change_of s d call.Sweep steps); spent = s.spent + 1 };
        next_ = sweep_going s d (quiet_stands old s stands quiet) (stands.ignore_unused ∙ on_) spends fits
            ∙ ap (λ (ms : List Micro). let x : State × Turn = (record s { change = Some (change_of s d call.Sweep ms); spent = s.spent + 1 }, turn.Going) in Some x) (sym is);
        stands = starts_.stands s stands;
      };
}

-- ---- the steps

-- whether a step switches something off
abbrev pub sweeps : Micro → Bool
sweeps (micro.Close c) = true
sweeps (micro.Unpower c) = true
sweeps _ = false

pub record IsSwitch (m : Micro) : Type 0 where
  pub no_end : is_end m ≡ false
  pub plain : is_register m ≡ false
  pub taken_ : is_taken m ≡ true
  pub unseen : visited_by m ≡ None

switch_is : (m : Micro) → sweeps m ≡ true → IsSwitch m
switch_is (micro.Close c) e = record { no_end = refl; plain = refl; taken_ = refl; unseen = refl }
switch_is (micro.Unpower c) e = record { no_end = refl; plain = refl; taken_ = refl; unseen = refl }
switch_is _ e = absurd cc

-- such a step is the script's own
pub record OwnSwitch (f : FlightState) (there : ℕ → Bool) (m : Micro) : Type 0 where
  pub front : f.front ≡ Empty
  pub first : slice_get f.left 0 ≡ Some m
  pub may : may_make f.call there m ≡ true

pub own_switch : (f : FlightState) (there : ℕ → Bool) (m : Micro) → sweeps m ≡ true → own_step f ≡ Some m → IsUnderWay there f → OwnSwitch f there m
own_switch f there m is own way = by f.front refl where
  first : own_first f f.front ≡ Some m
  first = going_step f.going (own_first f f.front) m own

  inside : {x y : Micro} → Some x ≡ Some y → x ≡ y
  inside e = cc

  never : (n : Micro) → sweeps n ≡ false → n ≡ m → ⊥
  never n isnt e = let bad : false ≡ true = sym isnt ∙ ap sweeps e ∙ is in absurd cc

  by : (front : Front) → f.front ≡ front → OwnSwitch f there m
  by Empty at =
      let here : slice_get f.left 0 ≡ Some m = sym (ap (own_first f) at) ∙ first in
      record { front = at; first = here; may = first_seeks f there m here (switch_is m is).no_end way.script }
  by (Poll y polls again) at = absurd (never (micro.Poll y) refl (inside (sym (ap (own_first f) at) ∙ first)))
  by (Raise x) at = absurd (never (micro.Raise x) refl (inside (sym (ap (own_first f) at) ∙ first)))
  by (Lower x) at = absurd (never (micro.Lower x) refl (inside (sym (ap (own_first f) at) ∙ first)))
  by (Falls told left) at = let no : None ≡ Some m = sym (ap (own_first f) at) ∙ first in absurd cc
  by (Posts d told left old new) at = let no : None ≡ Some m = sym (ap (own_first f) at) ∙ first in absurd cc

-- what is told and linked of a change fits as before
keeps_along : (f : FlightState) (m : Micro) → f.front ≡ Empty → slice_get f.left 0 ≡ Some m → visited_by m ≡ None → KeepsAlong f (gone_on f)
keeps_along f m front first unseen = from f.left refl first where
  from : (left : List Micro) → f.left ≡ left → slice_get left 0 ≡ Some m → KeepsAlong f (gone_on f)
  from [] at e = absurd cc
  from (n ∷ ms) at e =
      let same : n ≡ m = cc in
      let none : visited_by n ≡ None = ap visited_by same ∙ unseen in
      let gone : gone_on f ≡ record f { front = Empty; left = ms } =
      ap (λ (o : Front). let g : FlightState = record f { front = front_behind f.raised o; left = script_behind o f.left } in g) front
      ∙ ap (λ (ns : List Micro). let g : FlightState = record f { front = Empty; left = rest_of ns } in g) at in
      record {
        call = refl;
        tells = λ count ns tells.
            subst (λ (g : FlightState). TellsAlong count ns g) (sym gone) (record {
              front = tt;
              visits =
                  sym (ap (λ (o : Option ℕ). option_map_or (λ c. (nat_eq (count c) 0 || begins_with c ns) && tells_all count ms (behind_visit (count c) ns)) o (tells_all count ms ns)) none)
                  ∙ sym (ap (λ (ks : List Micro). tells_all count ks ns) at) ∙ tells.visits;
            });
        links = λ can all. ap (λ (g : FlightState). list_all can g.left) gone ∙ both_right (can n) (list_all can ms) (sym (ap (λ (ks : List Micro). list_all can ks) at) ∙ all);
      }

-- such a step was made: the words go on with the tree
pub record Switched (old : Parts) (m : Micro) (window' : Shown) (flight' : FlightState) : Type 0 where
  pub whole : IsWhole old
  pub going : old.flight.going ≡ true
  pub is : sweeps m ≡ true
  pub own : own_step old.flight ≡ Some m
  pub first : ComesFirst old m
  pub size : window'.size ≡ old.window.size
  pub told : is_some window'.words ≡ is_some old.window.words
  pub behind : window'.behind ≡ old.window.behind
  pub locks : window'.locks ≡ old.window.locks
  pub tied : AreTied old.desc window' old.tree
  pub flight : flight' ≡ gone_on old.flight
  pub change : GoesOn old.flight flight'
  pub less : LeavesLessAt is_taken old.flight flight'

module _ (old : Parts) (m : Micro) (window' : Shown) (flight' : FlightState) (now : Switched old m window' flight') where
  here : OwnSwitch old.flight (registered old.tree.clocks) m
  here = own_switch old.flight (registered old.tree.clocks) m now.is now.own (now.whole.flown now.going).way

  fewer_left : left_over (rows_from 0 old.chains) flight' < left_over (rows_from 0 old.chains) old.flight
  fewer_left =
      now.less (rows_from 0 old.chains) m
      (ap (λ (t : Bool). if t then first_step (rows_from 0 old.chains) old.flight old.flight.front else None) now.going ∙ ap (first_step (rows_from 0 old.chains) old.flight) here.front ∙ here.first)
      (switch_is m now.is).taken_

  way_on : IsUnderWay (registered old.tree.clocks) (gone_on old.flight)
  way_on = let way = (now.whole.flown now.going).way in record {
    call_ = way.call_;
    script = script_rest old.flight (registered old.tree.clocks) old.flight.front m (going_step old.flight.going (own_first old.flight old.flight.front) m now.own) (switch_is m now.is).no_end (switch_is m now.is).plain way.script;
    front = ap (λ (front : Front). is_front old.flight.call (registered old.tree.clocks) (front_behind old.flight.raised front)) here.front;
    raised = way.raised;
    cut = cut_behind old.flight.call old.flight.raised old.flight.left old.flight.front way.cut;
    extra = way.extra;
    vetoed = way.vetoed;
  }

  pub whole_switched : IsWhole (with_step old window' flight')
  whole_switched =
      whole_stepped old window' flight' now.whole now.tied now.going
      (subst (λ (f : FlightState). KeepsAlong old.flight f) (sym now.flight) (keeps_along old.flight m here.front here.first (switch_is m now.is).unseen)) (subst (λ (f : FlightState). SameCall old.flight f) (sym now.flight) (record { plls = refl; driver = refl; call = refl; going = refl }))
      (subst (λ (f : FlightState). IsUnderWay (registered old.tree.clocks) f) (sym now.flight) way_on) fewer_left

  pub switch_enters : ((s : State) (k : Change) → Stands old s → s.change ≡ Some k → k.driver ≡ old.flight.driver → slice_get (todo k) 0 ≡ Some m
      → (regs : Registers) × (window'.words ≡ Some regs) × (next s old.flight.driver (event.Step m None) ≡ Some (record s { regs = regs; change = Some (taken k); steps = s.steps + 1 }, turn.Going)))
      → Enters old old.flight.driver (event.Step m None) turn.Going (with_step old window' flight')
  switch_enters does =
      enters_step old window' flight' m None (switch_is m now.is).plain now.told now.size now.behind (λ still. now.locks) (ap (λ (f : FlightState). f.going) now.flight ∙ now.going) (ap (λ (f : FlightState). f.driver) now.flight) fewer_left
      (λ s stands sound.
      let has = now_of old s stands now.going in
      let first = now.first s.notifiers has.k stands.notifiers has.is in
      let done_ = does s has.k stands has.change has.is.driver first in
      record {
        to = record s { regs = done_.0; change = Some (taken has.k); steps = s.steps + 1 };
        next_ = done_.2;
        stands = stands_stepped old window' flight' s done_.0 (Some (taken has.k)) stands done_.1 (λ changes. let goes = has.along changes in record { chain = goes.chain; rates = goes.rates })
            (now.change s.notifiers has.k m has.is first (switch_is m now.is).taken_);
      })

-- the clock of such a step is registered
pub clock_switched : (old : Parts) (m : Micro) (c : ℕ) → ((what : Sleeping) (there : ℕ → Bool) → may_make what there m ≡ (is_sweep what && there c)) → sweeps m ≡ true → IsWhole old → old.flight.going ≡ true
    → own_step old.flight ≡ Some m → registered old.tree.clocks c ≡ true
clock_switched old m c may is whole going own =
    let here = own_switch old.flight (registered old.tree.clocks) m is own (whole.flown going).way in
    both_right (is_sweep old.flight.call) (registered old.tree.clocks c) (sym (may old.flight.call (registered old.tree.clocks)) ∙ here.may)

-- the bits of a registered clock lie in the words
pub gate_there : (m : Parts) (kind : Kind) (c : ℕ) → IsWhole m → registered m.tree.clocks c ≡ true → kind ≡ kind_of m.desc.defs c → IfSome (gate_of kind) (λ gate. (gate.word < m.window.size) × (gate.bit < 32))
gate_there m kind c whole there is =
    subst (λ (n : ℕ). IfSome (gate_of kind) (λ gate. (gate.word < n) × (gate.bit < 32))) (sym whole.tied.words)
    (subst (λ (k : Kind). IfSome (gate_of k) (λ gate. (gate.word < m.desc.words) × (gate.bit < 32))) (sym is) (gate_fits m.desc.words m.desc.defs c whole.tied.valid (clock_within m.desc m.window m.tree c whole.tied there)))

pub power_there : (m : Parts) (kind : Kind) (c : ℕ) → IsWhole m → registered m.tree.clocks c ≡ true → kind ≡ kind_of m.desc.defs c → IfSome (power_of kind) (λ power. (power.word < m.window.size) × (power.bit < 32))
power_there m kind c whole there is = power_lies m kind c whole (clock_within m.desc m.window m.tree c whole.tied there) is

pub three_tests : (a b c a' b' c' : Bool) → a ≡ a' → b ≡ b' → c ≡ c' → (not a && b && not c) ≡ (not a' && b' && not c')
three_tests a b c a' b' c' e f h =
    ap (λ (t : Bool). not t && b && not c) e ∙ ap (λ (t : Bool). not a' && t && not c) f ∙ ap (λ (t : Bool). not a' && b' && not t) h

-- ---- a gate that closes

-- the words behind it are those where the gate alone has followed
gate_alone : (defs : Description) (c : ℕ) (t : Bool) (words : Option (List ℕ)) → option_map (λ regs. option_map_or (follow regs true t) (gate_of (kind_of defs c)) regs) words ≡ option_map (gates_moved defs (λ _. true) (λ _. t) (c ∷ [])) words
gate_alone defs c t None = refl
gate_alone defs c t (Some regs) = refl

pub tied_gate : (old : Parts) (c : ℕ) (t : Bool) (kind : Kind) (window' : Shown) → IsWhole old → c < length old.desc.defs → kind ≡ kind_of old.desc.defs c → window'.size ≡ old.window.size
    → window'.words ≡ option_map (λ regs. option_map_or (follow regs true t) (gate_of kind) regs) old.window.words → AreTied old.desc window' old.tree
tied_gate old c t kind window' whole within is size words =
    tied-moved old.desc old.window window' old.tree (λ _. true) (λ _. t) (c ∷ []) whole.tied (λ d m. only d m) size
    (words ∙ ap (λ (k : Kind). option_map (λ regs. option_map_or (follow regs true t) (gate_of k) regs) old.window.words) is ∙ gate_alone old.desc.defs c t old.window.words) where
      only : (d : ℕ) → is_in d (c ∷ []) ≡ true → d < length old.desc.defs
      only d m = elim (is_in_cases d c [] m) [
        | inl same ↦ subst (λ (x : ℕ). x < length old.desc.defs) same within
        | inr none ↦ absurd (true≢false (sym none))
      ]

pub told_gate : (kind : Kind) (t : Bool) (words words' : Option (List ℕ)) → words' ≡ option_map (λ regs. option_map_or (follow regs true t) (gate_of kind) regs) words → is_some words' ≡ is_some words
told_gate kind t None words' is = ap (λ (o : Option (List ℕ)). is_some o) is
told_gate kind t (Some regs) words' is = ap (λ (o : Option (List ℕ)). is_some o) is

pub closes_gate : (old : Parts) (c : ClockId) (t : Bool) (kind : Kind) (window' : Shown) → ((s : State) → Stands old s → t ≡ active s c.0) → kind ≡ kind_of old.desc.defs c.0
    → window'.words ≡ option_map (λ regs. option_map_or (follow regs true t) (gate_of kind) regs) old.window.words
    → (s : State) (k : Change) → Stands old s → s.change ≡ Some k → k.driver ≡ old.flight.driver → slice_get (todo k) 0 ≡ Some (micro.Close c)
    → (regs : Registers) × (window'.words ≡ Some regs) × (next s old.flight.driver (event.Step (micro.Close c) None) ≡ Some (record s { regs = regs; change = Some (taken k); steps = s.steps + 1 }, turn.Going))
closes_gate old c t kind window' tells is words s k stands at driver first = (
  (close s k c.0).regs,
  words ∙ ap (option_map (λ regs. option_map_or (follow regs true t) (gate_of kind) regs)) stands.regs
      ∙ ap (λ (kd : Kind). Some (option_map_or (follow s.regs true t) (gate_of kd) s.regs)) (is ∙ ap (λ (ds : Description). kind_of ds c.0) (sym stands.defs))
      ∙ ap (λ (rs : List ℕ). Some rs) (closed_regs s c.0 t (tells s stands)),
  closes_one s old.flight.driver k c (record { change = at; driver = driver; first = first }),
)

-- ---- a PLL that is switched off

pub unpowers_pll : (old : Parts) (c : ClockId) (window' : Shown) → window'.words ≡ option_map (power_put old.desc.defs c.0 false) old.window.words
    → (s : State) (k : Change) → Stands old s → s.change ≡ Some k → k.driver ≡ old.flight.driver → slice_get (todo k) 0 ≡ Some (micro.Unpower c)
    → (regs : Registers) × (window'.words ≡ Some regs) × (next s old.flight.driver (event.Step (micro.Unpower c) None) ≡ Some (record s { regs = regs; change = Some (taken k); steps = s.steps + 1 }, turn.Going))
unpowers_pll old c window' words s k stands at driver first = (
  (powered s c.0 false).regs,
  powered_words old.desc.defs c.0 false old.window.words window'.words s stands.defs stands.regs words,
  unpowers_one s old.flight.driver k c (record { change = at; driver = driver; first = first }),
)
