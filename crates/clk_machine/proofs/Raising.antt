-- What the steps of raises, lowers, polls and falls make of the parts of a core.
use Rattle.std.proofs.Common.{arith, ◌≡◌, ℕ, ◌+◌, ◌-◌, ◌<◌, Bool, true, false, List, [], ◌∷◌, Option, Some, None, refl, sym, ap, subst, ◌∙◌, length, reverse, nat_le}
use Rattle.std.specs.Prelude.{slice_get, is_some, IfSome, if◌then◌else◌}
use Rattle.std.specs.Option.{option_map, option_map_or}
use Rattle.std.proofs.lemmas.List.{length-reverse}
use Rattle.clk_base.specs.declared.call.Micro.{Micro}
use Rattle.clk_base.specs.declared.call.Micro.TheVariants as micro
use Rattle.clk_base.specs.declared.call.Sleeping.{Sleeping}
use Rattle.clk_base.specs.declared.clock.ClockId.{ClockId}
use Rattle.clk_base.specs.declared.event.Event.TheVariants as event
use Rattle.clk_base.specs.declared.event.Turn.TheVariants as turn
use Rattle.clk_base.specs.declared.clock.Kind.{Kind}
use Rattle.clk_base.specs.Description.{Description, kind_of}
use Rattle.clk_base.specs.Fields.{power_of}
use Rattle.clk_base.proofs.Valid.{length-valid}
use Rattle.reg_bank.specs.Locks.{most_plls}
use Rattle.clk_model.specs.Kinds.{with_power}
use Rattle.clk_base.specs.Valid.{IsValid}
use Rattle.clk_model.specs.Chain.{clock_id}
use Rattle.clk_model.specs.State.{State, Change, registered}
use Rattle.clk_model.specs.Tree.{path, path_to_be}
use Rattle.clk_model.specs.Wired.{LinksArePossible}
use Rattle.clk_model.specs.Script.{plls}
use Rattle.clk_model.specs.Step.{taken, on, timed_out, powered, to_raise, raise_one, raise, to_lower, lower_one, lower, poll, fall}
use Rattle.clk_model.specs.Laws.Paced.{IsPaced}
use Rattle.clk_flight.specs.Flights.{FlightState, Flies, own_step, seeks_plls, comes_next}
use Rattle.clk_flight.specs.Moves.{raised_in, lowered_once, found_none, polled_in, fallen}
use Rattle.clk_flight.specs.Steps.{Raises, LowersOne, FindsNone, Polls, Drops, LeavesLess, LeavesLessAt, is_fall}
use Rattle.clk_flight.proofs.SeekLaws.{paced_seek_few}
use Rattle.core_parts.specs.Window.{Shown}
use Rattle.clk_flight.specs.LeftOver.{left_over}
use Rattle.core_parts.specs.Course.{CourseState, IsAlong}
use Rattle.core_parts.specs.InFlight.{may_seek}
use Rattle.clk_machine.specs.Making.{ComesFirst, FindsNothing}
use Rattle.core_parts.specs.Listed.{rows_from}
use Rattle.clk_machine.specs.Parts.{Parts, IsWhole}
use Rattle.core_parts.specs.Plls.{raisable, lowerable, Finds}
use Rattle.clk_machine.specs.Sound.{IsSound}
use Rattle.clk_machine.specs.Stands.{Stands, Leads, Enters}
use Rattle.core_parts.proofs.StepsInFlight.{fall_in_front, fall_told, poll_there, seeks_plain}
use Rattle.core_parts.proofs.SameCall.{same_raised, same_polled}
use Rattle.clk_machine.proofs.Making.{with_step, stands_stepped, enters_step, change_of, next_of, to_raise_stands, to_lower_stands, near_within}
use Rattle.core_parts.proofs.Opening.{power_fits}
use Rattle.core_parts.proofs.Powering.{power_put, powered_words, told_put}
use Rattle.clk_machine.proofs.Likeness.{wired_like, links_like, room_like}
use Rattle.clk_machine.proofs.Stepping.{raises_one, lowers_one, polls_one, falls_one}

-- ---- what is known of the change

-- a change of a sound state is paced, over a valid description with possible links
pub record IsSteady (s : State) (k : Change) : Type 0 where
  pub valid : IsValid (length s.regs) s.defs
  pub links : LinksArePossible s.defs s.clocks
  pub paced : IsPaced s k

pub steady : (words : ℕ) (s : State) (k : Change) → IsSound words s → s.change ≡ Some k → IsSteady s k
steady words s k sound at = record {
  valid = subst (λ (n : ℕ). IsValid n s.defs) (sym (wired_like words s sound.like).size) sound.narrow.valid;
  links = (links_like words s sound.like).links;
  paced = ((room_like words s sound.like).change k at).paced;
}

-- ---- a raise

-- a PLL that is raised
pub record Raised (old : Parts) (x pll : ClockId) (more : Bool) (window' : Shown) (flight' : FlightState) : Type 0 where
  pub whole : IsWhole old
  pub going : old.flight.going ≡ true
  pub own : own_step old.flight ≡ Some (micro.Raise x)
  pub first : ComesFirst old (micro.Raise x)
  pub found : IfSome old.window.words (λ regs. Finds (record { pll = Some pll; more = more }) (reverse (raisable old.desc.defs old.counts old.flight.raised (path_to_be old.desc.defs regs old.tree.clocks x.0))))
  pub size : window'.size ≡ old.window.size
  pub words : window'.words ≡ option_map (power_put old.desc.defs pll.0 true) old.window.words
  pub behind : window'.behind ≡ old.window.behind
  pub flight : flight' ≡ raised_in old.flight x pll more
  pub change : Raises x pll more old.flight flight'
  pub less : LeavesLess old.flight flight'

raise_leads : (old : Parts) (x pll : ClockId) (more : Bool) (window' : Shown) (flight' : FlightState) → Raised old x pll more window' flight'
    → (s : State) → Stands old s → IsSound old.window.size s → Leads s old.flight.driver (event.Step (micro.Raise x) None) turn.Going (with_step old window' flight')
raise_leads old x pll more window' flight' now s stands sound =
    let has = change_of old s stands now.going in
    let k = has.k in
    let first = now.first s.notifiers k stands.notifiers has.is in
    let sure = steady old.window.size s k sound has.change in
    let xs : List ℕ = raisable old.desc.defs old.counts old.flight.raised (path_to_be old.desc.defs s.regs old.tree.clocks x.0) in
    let found : Finds (record { pll = Some pll; more = more }) (reverse xs) =
    subst (λ (o : Option (List ℕ)). IfSome o (λ regs. Finds (record { pll = Some pll; more = more }) (reverse (raisable old.desc.defs old.counts old.flight.raised (path_to_be old.desc.defs regs old.tree.clocks x.0))))) stands.regs now.found in
    let seeks : to_raise s (taken k) x.0 ≡ xs = to_raise_stands old s k x.0 now.whole stands has.is in
    let at : slice_get (reverse (to_raise s (taken k) x.0)) 0 ≡ Some pll.0 = ap (λ (ys : List ℕ). slice_get (reverse ys) 0) seeks ∙ sym found.first in
    let many : more ≡ nat_le 2 (length (to_raise s (taken k) x.0)) =
    found.more ∙ ap (nat_le 2) (length-reverse xs) ∙ sym (ap (λ (ys : List ℕ). nat_le 2 (length ys)) seeks) in
    let few : old.flight.plls ≡ plls s.defs = (now.whole.flown now.going).plls_ ∙ ap plls (sym stands.defs) in
    let flies : Flies s.notifiers flight' (raise s (taken k) x.0).change =
    now.change s k has.is few first ((paced_seek_few s k x sure.valid sure.links sure.paced).0 first) at many in
    record {
      to = record (raise_one s (taken k) x.0 pll.0) { steps = s.steps + 1 };
      next_ = raises_one s old.flight.driver k x pll.0 (next_of old s (micro.Raise x) has first) at;
      stands =
          stands_stepped old window' flight' s (powered s pll.0 true).regs (raise_one s (taken k) x.0 pll.0).change stands
          (powered_words old.desc.defs pll.0 true old.window.words window'.words s stands.defs stands.regs now.words)
          (λ changes. let goes = has.along changes in record { chain = goes.chain; rates = goes.rates })
          (subst (λ (o : Option ℕ). Flies s.notifiers flight' (option_map_or (raise_one s (taken k) x.0) o (on s (record (taken k) { again = 0 }))).change) at flies);
    }

pub raise_enters : (old : Parts) (x pll : ClockId) (more : Bool) (window' : Shown) (flight' : FlightState) → Raised old x pll more window' flight'
    → Enters old old.flight.driver (event.Step (micro.Raise x) None) turn.Going (with_step old window' flight')
raise_enters old x pll more window' flight' now =
    enters_step old window' flight' (micro.Raise x) None refl (told_put old.desc.defs pll.0 true old.window.words window'.words now.words) now.size now.behind (λ still. absurd cc)
    (ap (λ (f : FlightState). f.going) now.flight ∙ (same_raised old.flight x pll more).going ∙ now.going)
    (ap (λ (f : FlightState). f.driver) now.flight ∙ (same_raised old.flight x pll more).driver) (now.less (rows_from 0 old.chains)) (raise_leads old x pll more window' flight' now)

-- ---- nothing found

pub seeks_of : (what : Sleeping) (there : ℕ → Bool) (m : Micro) → may_seek what there m ≡ true → seeks_plls (Some m) ≡ true
seeks_of what there (micro.Raise x) e = refl
seeks_of what there (micro.Lower x) e = refl
seeks_of what there _ e = absurd cc

pub none_enters : (old : Parts) (step : Micro) (flight' : FlightState) → old.flight.going ≡ true → FindsNothing old step → flight' ≡ found_none old.flight → FindsNone old.flight flight'
    → LeavesLess old.flight flight' → Enters old old.flight.driver (event.Step step None) turn.Going (with_step old old.window flight')
none_enters old step flight' going nothing is change less =
    enters_step old old.window flight' step None (seeks_plain old.flight.call (registered old.tree.clocks) step nothing.seeks) refl refl refl (λ still. refl) (ap (λ (f : FlightState). f.going) is ∙ going) (ap (λ (f : FlightState). f.driver) is) (less (rows_from 0 old.chains))
    (λ s stands sound.
    let has = change_of old s stands going in
    let first = nothing.first s.notifiers has.k stands.notifiers has.is in
    record {
      to = record s { change = Some (record (taken has.k) { again = 0 }); steps = s.steps + 1 };
      next_ = nothing.taken_ s has.k stands has.change has.is;
      stands = stands_stepped old old.window flight' s s.regs (Some (record (taken has.k) { again = 0 })) stands stands.regs
          (λ changes. let goes = has.along changes in record { chain = goes.chain; rates = goes.rates })
          (change s.notifiers has.k step has.is first (seeks_of old.flight.call (registered old.tree.clocks) step nothing.seeks));
    })

-- ---- a lower

pub record Lowered (old : Parts) (x pll : ClockId) (more : Bool) (window' : Shown) (flight' : FlightState) : Type 0 where
  pub whole : IsWhole old
  pub going : old.flight.going ≡ true
  pub first : ComesFirst old (micro.Lower x)
  pub found : IfSome old.window.words (λ regs. Finds (record { pll = Some pll; more = more }) (lowerable old.desc.defs old.counts regs (path old.tree.clocks x.0)))
  pub size : window'.size ≡ old.window.size
  pub words : window'.words ≡ option_map (power_put old.desc.defs pll.0 false) old.window.words
  pub behind : window'.behind ≡ old.window.behind
  pub locks : window'.locks ≡ old.window.locks
  pub flight : flight' ≡ lowered_once old.flight x more
  pub change : LowersOne x more old.flight flight'
  pub less : LeavesLess old.flight flight'

lower_leads : (old : Parts) (x pll : ClockId) (more : Bool) (window' : Shown) (flight' : FlightState) → Lowered old x pll more window' flight'
    → (s : State) → Stands old s → IsSound old.window.size s → Leads s old.flight.driver (event.Step (micro.Lower x) None) turn.Going (with_step old window' flight')
lower_leads old x pll more window' flight' now s stands sound =
    let has = change_of old s stands now.going in
    let k = has.k in
    let first = now.first s.notifiers k stands.notifiers has.is in
    let sure = steady old.window.size s k sound has.change in
    let found : Finds (record { pll = Some pll; more = more }) (lowerable old.desc.defs old.counts s.regs (path old.tree.clocks x.0)) =
    subst (λ (o : Option (List ℕ)). IfSome o (λ regs. Finds (record { pll = Some pll; more = more }) (lowerable old.desc.defs old.counts regs (path old.tree.clocks x.0)))) stands.regs now.found in
    let seeks : to_lower s x.0 ≡ lowerable old.desc.defs old.counts s.regs (path old.tree.clocks x.0) = to_lower_stands old s x.0 now.whole stands in
    let at : slice_get (to_lower s x.0) 0 ≡ Some pll.0 = ap (λ (ys : List ℕ). slice_get ys 0) seeks ∙ sym found.first in
    let many : more ≡ nat_le 2 (length (to_lower s x.0)) = found.more ∙ sym (ap (λ (ys : List ℕ). nat_le 2 (length ys)) seeks) in
    let few : old.flight.plls ≡ plls s.defs = (now.whole.flown now.going).plls_ ∙ ap plls (sym stands.defs) in
    let flies : Flies s.notifiers flight' (lower s (taken k) x.0).change =
    now.change s k pll.0 has.is few first ((paced_seek_few s k x sure.valid sure.links sure.paced).1 first) at many in
    record {
      to = record (lower_one s (taken k) x.0 pll.0) { steps = s.steps + 1 };
      next_ = lowers_one s old.flight.driver k x pll.0 (next_of old s (micro.Lower x) has first) at;
      stands =
          stands_stepped old window' flight' s (powered s pll.0 false).regs (lower_one s (taken k) x.0 pll.0).change stands
          (powered_words old.desc.defs pll.0 false old.window.words window'.words s stands.defs stands.regs now.words)
          (λ changes. let goes = has.along changes in record { chain = goes.chain; rates = goes.rates })
          (subst (λ (o : Option ℕ). Flies s.notifiers flight' (option_map_or (lower_one s (taken k) x.0) o (on s (record (taken k) { again = 0 }))).change) at flies);
    }

pub lower_enters : (old : Parts) (x pll : ClockId) (more : Bool) (window' : Shown) (flight' : FlightState) → Lowered old x pll more window' flight'
    → Enters old old.flight.driver (event.Step (micro.Lower x) None) turn.Going (with_step old window' flight')
lower_enters old x pll more window' flight' now =
    enters_step old window' flight' (micro.Lower x) None refl (told_put old.desc.defs pll.0 false old.window.words window'.words now.words) now.size now.behind (λ still. now.locks)
    (ap (λ (f : FlightState). f.going) now.flight ∙ now.going) (ap (λ (f : FlightState). f.driver) now.flight) (now.less (rows_from 0 old.chains)) (lower_leads old x pll more window' flight' now)

-- ---- a poll

-- a poll leaves a change along its course
polled_along : (course : CourseState) (s : State) (k : Change) (y : ℕ) (answer : Bool) → IsAlong course (Some k) → IsAlong course (poll s (taken k) y answer).change
polled_along course s k y true along = λ changes. let goes = along changes in record { chain = goes.chain; rates = goes.rates }
polled_along course s k y false along = by (nat_le k.polls 1) where
  by : (t : Bool) → IsAlong course (if t then timed_out s (record (taken k) { polls = 0 }) else on s (record (taken k) { polls = k.polls - 1; front = micro.Poll (clock_id y) ∷ (taken k).front })).change
  by true = λ changes. let goes = along changes in record { chain = goes.chain; rates = goes.rates }
  by false = λ changes. let goes = along changes in record { chain = goes.chain; rates = goes.rates }

pub poll_enters : (old : Parts) (pll : ClockId) (answer : Bool) (window' : Shown) (flight' : FlightState) → old.flight.going ≡ true → own_step old.flight ≡ Some (micro.Poll pll)
    → ComesFirst old (micro.Poll pll) → window'.size ≡ old.window.size → window'.words ≡ old.window.words → window'.behind ≡ old.window.behind
    → flight' ≡ polled_in old.flight answer → Polls answer old.flight flight' → LeavesLess old.flight flight'
    → Enters old old.flight.driver (event.Step (micro.Poll pll) (Some answer)) turn.Going (with_step old window' flight')
poll_enters old pll answer window' flight' going own comes size words behind is change less =
    enters_step old window' flight' (micro.Poll pll) (Some answer) refl (ap (λ (o : Option (List ℕ)). is_some o) words) size behind (λ still. absurd cc)
    (ap (λ (f : FlightState). f.going) is ∙ (same_polled old.flight answer).going ∙ going) (ap (λ (f : FlightState). f.driver) is ∙ (same_polled old.flight answer).driver) (less (rows_from 0 old.chains))
    (λ s stands sound.
    let has = change_of old s stands going in
    let k = has.k in
    let first = comes s.notifiers k stands.notifiers has.is in
    let sure = steady old.window.size s k sound has.change in
    record {
      to = record s { change = (poll s (taken k) pll.0 answer).change; steps = s.steps + 1 };
      next_ = polls_one s old.flight.driver k pll answer (next_of old s (micro.Poll pll) has first);
      stands = stands_stepped old window' flight' s s.regs (poll s (taken k) pll.0 answer).change stands (words ∙ stands.regs)
          (polled_along old.course s k pll.0 answer has.along) (change s k pll has.is own first sure.paced);
    })

-- ---- a fall

-- a fall leaves less over, whoever the notifiers are
pub fall_less : (old : Parts) (pll : ClockId) (flight' : FlightState) → comes_next [] old.flight ≡ Some (micro.Fall pll) → LeavesLessAt is_fall old.flight flight'
    → left_over (rows_from 0 old.chains) flight' < left_over (rows_from 0 old.chains) old.flight
fall_less old pll flight' next less = less (rows_from 0 old.chains) (micro.Fall pll) (fall_told (rows_from 0 old.chains) old.flight pll next) refl

pub fall_enters : (old : Parts) (pll : ClockId) (window' : Shown) (flight' : FlightState) → old.flight.going ≡ true → comes_next [] old.flight ≡ Some (micro.Fall pll)
    → ComesFirst old (micro.Fall pll) → window'.size ≡ old.window.size → window'.words ≡ option_map (power_put old.desc.defs pll.0 false) old.window.words → window'.behind ≡ old.window.behind → window'.locks ≡ old.window.locks
    → flight' ≡ fallen old.flight → Drops old.flight flight' → LeavesLessAt is_fall old.flight flight'
    → Enters old old.flight.driver (event.Step (micro.Fall pll) None) turn.Going (with_step old window' flight')
fall_enters old pll window' flight' going next comes size words behind locks is change less =
    enters_step old window' flight' (micro.Fall pll) None refl (told_put old.desc.defs pll.0 false old.window.words window'.words words) size behind (λ still. locks)
    (ap (λ (f : FlightState). f.going) is ∙ going) (ap (λ (f : FlightState). f.driver) is) (fall_less old pll flight' next less)
    (λ s stands sound.
    let has = change_of old s stands going in
    let k = has.k in
    let first = comes s.notifiers k stands.notifiers has.is in
    let sure = steady old.window.size s k sound has.change in
    record {
      to = record (fall s (taken k) pll.0) { steps = s.steps + 1 };
      next_ = falls_one s old.flight.driver k pll (next_of old s (micro.Fall pll) has first);
      stands =
          stands_stepped old window' flight' s (powered s pll.0 false).regs (fall s (taken k) pll.0).change stands
          (powered_words old.desc.defs pll.0 false old.window.words window'.words s stands.defs stands.regs words)
          (λ changes. let goes = has.along changes in record { chain = goes.chain; rates = goes.rates }) (change s k pll has.is first sure.paced);
    })

-- ---- what the steps need

-- the PLL that is polled next, or falls, is a clock of the description
pub polled_place : (m : Parts) (y : ClockId) → IsWhole m → m.flight.going ≡ true → own_step m.flight ≡ Some (micro.Poll y) → y.0 < length m.desc.defs
polled_place m y whole going own =
    let way = (whole.flown going).way in
    near_within m y.0 whole going (poll_there m.flight (registered m.tree.clocks) y own way)

pub fallen_place : (m : Parts) (y : ClockId) → IsWhole m → m.flight.going ≡ true → comes_next [] m.flight ≡ Some (micro.Fall y) → y.0 < length m.desc.defs
fallen_place m y whole going next =
    let way = (whole.flown going).way in
    near_within m y.0 whole going (fall_in_front m.flight (registered m.tree.clocks) y next way).1

-- a PLL of the description is one that a bank knows
pub known_pll : (m : Parts) (y : ℕ) → IsWhole m → y < length m.desc.defs → y < most_plls
known_pll m y whole within = let few = length-valid m.desc.words m.desc.defs whole.tied.valid in omega arith

-- its power lies in the words
pub power_lies : (m : Parts) (kind : Kind) (y : ℕ) → IsWhole m → y < length m.desc.defs → kind ≡ kind_of m.desc.defs y
    → IfSome (power_of kind) (λ power. (power.word < m.window.size) × (power.bit < 32))
power_lies m kind y whole within is =
    subst (λ (n : ℕ). IfSome (power_of kind) (λ power. (power.word < n) × (power.bit < 32))) (sym whole.tied.words)
    (subst (λ (k : Kind). IfSome (power_of k) (λ power. (power.word < m.desc.words) × (power.bit < 32))) (sym is) (power_fits m.desc.words m.desc.defs y whole.tied.valid within))

-- and what is made of it is the clock's power
pub power_made : (defs : Description) (kind : Kind) (y : ℕ) (up : Bool) (told new : Option (List ℕ)) → kind ≡ kind_of defs y
    → new ≡ option_map (λ regs. option_map_or (λ power. with_power regs power up) (power_of kind) regs) told → new ≡ option_map (power_put defs y up) told
power_made defs kind y up told new is puts =
    puts ∙ ap (λ (k : Kind). option_map (λ regs. option_map_or (λ power. with_power regs power up) (power_of k) regs) told) is
