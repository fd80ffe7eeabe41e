-- What a notice leaves of a change in flight.
use Rattle.std.specs.List.{list_all}
use Rattle.std.proofs.Common.{◌≡◌, ℕ, ◌+◌, ◌-◌, ◌&&◌, ◌||◌, Bool, true, false, List, [], ◌∷◌, Option, Some, None, refl, sym, ap, ◌∙◌, arith, nat_eq}
use Rattle.std.specs.Prelude.{slice_get, if◌then◌else◌}
use Rattle.std.specs.Option.{option_map_or}
use Rattle.clk_base.specs.declared.call.Micro.{Micro}
use Rattle.clk_base.specs.declared.call.Micro.TheVariants as micro
use Rattle.clk_model.specs.State.{NotifierRow}
use Rattle.clk_model.specs.Step.{is_end, rest_of, is_register, sets_parent}
use Rattle.clk_model.specs.Laws.Paced.{is_notice}
use Rattle.clk_model.proofs.Members.{both_right, or_right, same_from_test}
use Rattle.clk_flight.specs.declared.front.Front.{Front}
use Rattle.clk_flight.specs.declared.front.Front.TheVariants.{Empty, Poll, Raise, Lower, Falls, Posts}
use Rattle.clk_flight.specs.Flights.{FlightState, first_step, comes_next}
use Rattle.clk_flight.specs.Fronts.{aborts_behind, front_behind, script_behind}
use Rattle.clk_flight.specs.Moves.{gone_on}
use Rattle.clk_flight.specs.Steps.{is_taken}
use Rattle.clk_flight.proofs.KeptLaws.{going_step}
use Rattle.change_walk.specs.declared.changes.Changed.{Changed}
use Rattle.core_parts.specs.InFlight.{may_raise, is_script, is_front, IsUnderWay, is_near}
use Rattle.core_parts.specs.Course.{visited_by, behind_visit, begins_with, tells_all, PostsFit, TellsAlong}
use Rattle.core_parts.proofs.InFlight.{script_rest, cut_behind}

pub notice_taken : (m : Micro) → is_notice m ≡ true → (is_taken m ≡ true) × (is_end m ≡ false) × (visited_by m ≡ None) × (is_register m ≡ false)
notice_taken (micro.Notify kind c id old new) e = (refl, refl, refl, refl)
notice_taken _ e = absurd cc

-- what stands in front behind a notice
behind_front : (f : FlightState) (there : ℕ → Bool) (front : Front) → is_front f.call there front ≡ true → is_front f.call there (front_behind f.raised front) ≡ true
behind_front f there Empty is = refl
behind_front f there (Raise x) is = refl
behind_front f there (Lower x) is = refl
behind_front f there (Poll y polls None) is = refl
behind_front f there (Poll y polls (Some x)) is = again_there (may_raise f.call) (is_near f.call there y.0) (is_near f.call there x.0) is where
  again_there : (a b c : Bool) → (a && b && c) ≡ true → (a && c) ≡ true
  again_there true true true e = refl
  again_there true true false e = absurd cc
  again_there true false c e = absurd cc
  again_there false b c e = absurd cc
behind_front f there (Falls told left) is = by f.raised where
  -- a notice fewer is left
  fewer : (a t : Bool) (n : ℕ) → (a && (nat_eq n 0 || t)) ≡ true → (a && (nat_eq (n - 1) 0 || t)) ≡ true
  fewer true true n e = or_right (nat_eq (n - 1) 0) true refl
  fewer true false n e = still n (either (nat_eq n 0) e) where
    either : (b : Bool) → (b || false) ≡ true → b ≡ true
    either true e = refl
    either false e = absurd cc

    still : (k : ℕ) → nat_eq k 0 ≡ true → (nat_eq (k - 1) 0 || false) ≡ true
    still k e = ap (λ (x : ℕ). nat_eq (x - 1) 0 || false) (same_from_test k 0 e)
  fewer false t n e = absurd cc

  after : (t : Bool) → is_front f.call there (if t then Empty else Falls (told + 1) (left - 1)) ≡ true
  after true = refl
  after false = fewer (may_raise f.call) (sets_parent f.call) left is

  by : (raised : List ℕ) → is_front f.call there (aborts_behind raised told left) ≡ true
  by [] = after (nat_eq (left - 1) 0)
  by (y ∷ ys) = is
behind_front f there (Posts c told left old new) is = by (nat_eq (left - 1) 0) where
  by : (t : Bool) → is_front f.call there (if t then Empty else Posts c (told + 1) (left - 1) old new) ≡ true
  by true = refl
  by false = is

-- what is left of a script behind a notice
behind_script : (f : FlightState) (there : ℕ → Bool) (rows : List NotifierRow) (front : Front) (m : Micro) → first_step rows f front ≡ Some m → is_notice m ≡ true → is_script f.call there f.left ≡ true
    → is_script f.call there (script_behind front f.left) ≡ true
behind_script f there rows Empty m first notice is = script_rest f there Empty m first (notice_taken m notice).1 (notice_taken m notice).3 is
behind_script f there rows (Poll y polls again) m first notice is = is
behind_script f there rows (Raise x) m first notice is = is
behind_script f there rows (Lower x) m first notice is = is
behind_script f there rows (Falls told left) m first notice is = is
behind_script f there rows (Posts c told left old new) m first notice is = is

pub under_way-told : (f : FlightState) (there : ℕ → Bool) (rows : List NotifierRow) (m : Micro) → comes_next rows f ≡ Some m → is_notice m ≡ true → IsUnderWay there f → IsUnderWay there (gone_on f)
under_way-told f there rows m comes notice is = record {
  call_ = is.call_;
  script = behind_script f there rows f.front m (going_step f.going (first_step rows f f.front) m comes) notice is.script;
  front = behind_front f there f.front is.front;
  cut = cut_behind f.call f.raised f.left f.front is.cut;
  raised = is.raised;
  extra = is.extra;
  vetoed = is.vetoed;
}

pub behind_fits : (count : ℕ → ℕ) (raised : List ℕ) (front : Front) → PostsFit count front → PostsFit count (front_behind raised front)
behind_fits count raised Empty fits = tt
behind_fits count raised (Raise x) fits = tt
behind_fits count raised (Lower x) fits = tt
behind_fits count raised (Poll y polls None) fits = tt
behind_fits count raised (Poll y polls (Some x)) fits = tt
behind_fits count [] (Falls told left) fits = by (nat_eq (left - 1) 0) where
  by : (t : Bool) → PostsFit count (if t then Empty else Falls (told + 1) (left - 1))
  by true = tt
  by false = tt
behind_fits count (y ∷ ys) (Falls told left) fits = tt
behind_fits count raised (Posts c told left old new) fits = by (nat_eq (left - 1) 0) refl where
  by : (t : Bool) → nat_eq (left - 1) 0 ≡ t → PostsFit count (if t then Empty else Posts c (told + 1) (left - 1) old new)
  by true e = tt
  by false e = let some : (left - 1 ≡ 0 → ⊥) = apart (left - 1) e in omega arith where
    apart : (n : ℕ) → nat_eq n 0 ≡ false → n ≡ 0 → ⊥
    apart n e same = let no : true ≡ false = sym (ap (λ (k : ℕ). nat_eq k 0) same) ∙ e in absurd cc

behind_visits : (f : FlightState) (count : ℕ → ℕ) (ns : List Changed) (rows : List NotifierRow) (front : Front) (m : Micro) → first_step rows f front ≡ Some m → is_notice m ≡ true
    → tells_all count f.left ns ≡ true → tells_all count (script_behind front f.left) ns ≡ true
behind_visits f count ns rows Empty m first notice is = from f.left first is where
  from : (left : List Micro) → slice_get left 0 ≡ Some m → tells_all count left ns ≡ true → tells_all count (rest_of left) ns ≡ true
  from [] e all = absurd cc
  from (n ∷ ms) e all =
      let same : n ≡ m = cc in
      sym (ap (λ (o : Option ℕ). option_map_or (λ c. (nat_eq (count c) 0 || begins_with c ns) && tells_all count ms (behind_visit (count c) ns)) o (tells_all count ms ns)) (ap visited_by same ∙ (notice_taken m notice).2)) ∙ all
behind_visits f count ns rows (Poll y polls again) m first notice is = is
behind_visits f count ns rows (Raise x) m first notice is = is
behind_visits f count ns rows (Lower x) m first notice is = is
behind_visits f count ns rows (Falls told left) m first notice is = is
behind_visits f count ns rows (Posts c told left old new) m first notice is = is

pub tells-told : (f : FlightState) (count : ℕ → ℕ) (ns : List Changed) (rows : List NotifierRow) (m : Micro) → comes_next rows f ≡ Some m → is_notice m ≡ true → TellsAlong count ns f → TellsAlong count ns (gone_on f)
tells-told f count ns rows m comes notice is = record {
  front = behind_fits count f.raised f.front is.front;
  visits = behind_visits f count ns rows f.front m (going_step f.going (first_step rows f f.front) m comes) notice is.visits;
}

-- what is left can be linked as before
pub links-told : (f : FlightState) (can : Micro → Bool) (rows : List NotifierRow) (front : Front) (m : Micro) → first_step rows f front ≡ Some m → list_all can f.left ≡ true → list_all can (script_behind front f.left) ≡ true
links-told f can rows Empty m first all = from f.left all where
  from : (left : List Micro) → list_all can left ≡ true → list_all can (rest_of left) ≡ true
  from [] e = refl
  from (n ∷ ns) e = both_right (can n) (list_all can ns) e
links-told f can rows (Poll y polls again) m first all = all
links-told f can rows (Raise x) m first all = all
links-told f can rows (Lower x) m first all = all
links-told f can rows (Falls told left) m first all = all
links-told f can rows (Posts c told left old new) m first all = all
