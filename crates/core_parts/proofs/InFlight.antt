-- What stays of a change in flight while its steps are made.
use Rattle.std.proofs.Common.{◌≡◌, ℕ, ◌+◌, ◌-◌, ◌&&◌, ◌||◌, nat_eq, Bool, true, false, List, [], ◌∷◌, Option, Some, None, refl, sym, ap, ◌∙◌}
use Rattle.std.specs.Prelude.{is_none, slice_get, if◌then◌else◌}
use Rattle.clk_base.specs.declared.call.Micro.{Micro}
use Rattle.clk_base.specs.declared.call.Micro.TheVariants as micro
use Rattle.clk_base.specs.declared.call.Sleeping.{Sleeping}
use Rattle.clk_base.specs.declared.clock.ClockId.{ClockId}
use Rattle.clk_model.specs.Step.{is_end, is_register, rest_of}
use Rattle.clk_model.proofs.Members.{both_left, both_right}
use Rattle.clk_flight.specs.declared.front.Front.{Front}
use Rattle.clk_flight.specs.declared.front.Front.TheVariants.{Empty, Poll, Raise, Lower, Falls, Posts}
use Rattle.clk_flight.specs.Fronts.{falls, front_behind, script_behind}
use Rattle.clk_flight.specs.Flights.{FlightState, own_first, own_step}
use Rattle.clk_flight.proofs.KeptLaws.{going_step}
use Rattle.core_parts.specs.InFlight.{is_near, may_raise, may_lower, may_make, can_cut, cuts_behind, cuts_front, there_behind, is_script, is_front, IsUnderWay}

-- whoever passes the test does so behind a step that registers no clock
pub there_still : (there : ℕ → Bool) (m : Micro) → is_register m ≡ false → there_behind there m ≡ there
there_still there (micro.Register c) lacks = absurd cc
there_still there _ lacks = refl

-- the script behind a step of it
pub behind_seek : (what : Sleeping) (there : ℕ → Bool) (m : Micro) (ms : List Micro) → is_end m ≡ false → is_script what there (m ∷ ms) ≡ true
    → (may_make what there m ≡ true) × (is_script what (there_behind there m) ms ≡ true) × (cuts_behind what m ms ≡ true)
behind_seek what there m ms no_end is =
    let rest : (cuts_behind what m ms && (may_make what there m && is_script what (there_behind there m) ms)) ≡ true =
    sym (ap (λ (b : Bool). (b && is_none (slice_get ms 0)) || (cuts_behind what m ms && (may_make what there m && is_script what (there_behind there m) ms))) no_end) ∙ is in
    let two = both_right _ _ rest in
    (both_left _ _ two, both_right _ _ two, both_left _ _ rest)

pub script_rest : (f : FlightState) (there : ℕ → Bool) (front : Front) (m : Micro) → own_first f front ≡ Some m → is_end m ≡ false → is_register m ≡ false → is_script f.call there f.left ≡ true
    → is_script f.call there (script_behind front f.left) ≡ true
script_rest f there Empty m own no_end plain is = from f.left own is where
  from : (left : List Micro) → slice_get left 0 ≡ Some m → is_script f.call there left ≡ true → is_script f.call there (rest_of left) ≡ true
  from [] e h = absurd cc
  from (n ∷ ns) e h =
      let same : n ≡ m = cc in
      sym (ap (λ (test : ℕ → Bool). is_script f.call test ns) (there_still there n (ap is_register same ∙ plain))) ∙ (behind_seek f.call there n ns (ap is_end same ∙ no_end) h).1
script_rest f there (Poll y polls again) m own no_end plain is = is
script_rest f there (Raise x) m own no_end plain is = is
script_rest f there (Lower x) m own no_end plain is = is
script_rest f there (Falls told left) m own no_end plain is = is
script_rest f there (Posts c told left old new) m own no_end plain is = is

pub first_seeks : (f : FlightState) (there : ℕ → Bool) (m : Micro) → slice_get f.left 0 ≡ Some m → is_end m ≡ false → is_script f.call there f.left ≡ true → may_make f.call there m ≡ true
first_seeks f there m own no_end is = from f.left own is where
  from : (left : List Micro) → slice_get left 0 ≡ Some m → is_script f.call there left ≡ true → may_make f.call there m ≡ true
  from [] e h = absurd cc
  from (n ∷ ns) e h =
      let same : n ≡ m = cc in
      ap (may_make f.call there) (sym same) ∙ (behind_seek f.call there n ns (ap is_end same ∙ no_end) h).0

-- a timeout behind the first step leaves steps
first_cuts : (f : FlightState) (there : ℕ → Bool) (m : Micro) → slice_get f.left 0 ≡ Some m → is_end m ≡ false → is_script f.call there f.left ≡ true → cuts_behind f.call m (rest_of f.left) ≡ true
first_cuts f there m own no_end is = from f.left own is where
  from : (left : List Micro) → slice_get left 0 ≡ Some m → is_script f.call there left ≡ true → cuts_behind f.call m (rest_of left) ≡ true
  from [] e h = absurd cc
  from (n ∷ ns) e h =
      let same : n ≡ m = cc in
      ap (λ (x : Micro). cuts_behind f.call x ns) (sym same) ∙ (behind_seek f.call there n ns (ap is_end same ∙ no_end) h).2

-- ---- the clock of the step that comes next

pub raise_there : (f : FlightState) (there : ℕ → Bool) (x : ClockId) → own_step f ≡ Some (micro.Raise x) → IsUnderWay there f → (may_raise f.call && is_near f.call there x.0) ≡ true
raise_there f there x own is = from f.front refl where
  from : (front : Front) → f.front ≡ front → (may_raise f.call && is_near f.call there x.0) ≡ true
  from front at = by front (ap (own_first f) (sym at) ∙ going_step f.going (own_first f f.front) (micro.Raise x) own) (ap (is_front f.call there) (sym at) ∙ is.front) where
    by : (front : Front) → own_first f front ≡ Some (micro.Raise x) → is_front f.call there front ≡ true → (may_raise f.call && is_near f.call there x.0) ≡ true
    by Empty e h = first_seeks f there (micro.Raise x) e refl is.script
    by (Poll y polls again) e h = absurd cc
    by (Raise z) e h = let same : z ≡ x = cc in ap (λ (z : ClockId). may_raise f.call && is_near f.call there z.0) (sym same) ∙ h
    by (Lower z) e h = absurd cc
    by (Falls told left) e h = absurd cc
    by (Posts c told left old new) e h = absurd cc

pub lower_there : (f : FlightState) (there : ℕ → Bool) (x : ClockId) → own_step f ≡ Some (micro.Lower x) → IsUnderWay there f → (may_lower f.call && there x.0) ≡ true
lower_there f there x own is = from f.front refl where
  from : (front : Front) → f.front ≡ front → (may_lower f.call && there x.0) ≡ true
  from front at = by front (ap (own_first f) (sym at) ∙ going_step f.going (own_first f f.front) (micro.Lower x) own) (ap (is_front f.call there) (sym at) ∙ is.front) where
    by : (front : Front) → own_first f front ≡ Some (micro.Lower x) → is_front f.call there front ≡ true → (may_lower f.call && there x.0) ≡ true
    by Empty e h = first_seeks f there (micro.Lower x) e refl is.script
    by (Poll y polls again) e h = absurd cc
    by (Raise z) e h = absurd cc
    by (Lower z) e h = let same : z ≡ x = cc in ap (λ (z : ClockId). may_lower f.call && there z.0) (sym same) ∙ h
    by (Falls told left) e h = absurd cc
    by (Posts c told left old new) e h = absurd cc

-- the poll in front
pub record PollsInFront (f : FlightState) (y : ClockId) : Type 0 where
  pub polls : ℕ
  pub again : Option ClockId
  pub front : f.front ≡ Poll y polls again

pub poll_in_front : (f : FlightState) (there : ℕ → Bool) (y : ClockId) → own_step f ≡ Some (micro.Poll y) → IsUnderWay there f → PollsInFront f y
poll_in_front f there y own is = from f.front refl where
  from : (front : Front) → f.front ≡ front → PollsInFront f y
  from front at = by front at (ap (own_first f) (sym at) ∙ going_step f.going (own_first f f.front) (micro.Poll y) own) where
    by : (front : Front) → f.front ≡ front → own_first f front ≡ Some (micro.Poll y) → PollsInFront f y
    by Empty at e = let never = first_seeks f there (micro.Poll y) e refl is.script in absurd cc
    by (Poll z polls again) at e = let same : z ≡ y = cc in record { polls = polls; again = again; front = at ∙ ap (λ (z : ClockId). let p : Front = Poll z polls again in p) same }
    by (Raise z) at e = absurd cc
    by (Lower z) at e = absurd cc
    by (Falls told left) at e = absurd cc
    by (Posts c told left old new) at e = absurd cc

-- ---- where a timeout leaves steps

-- a poll or a raise in front goes on before the same script
pub cut_behind : (what : Sleeping) (raised : List ℕ) (left : List Micro) (front : Front) → cuts_front what left front ≡ true → cuts_front what (script_behind front left) (front_behind raised front) ≡ true
cut_behind what raised left Empty is = refl
cut_behind what raised left (Poll y polls None) is = refl
cut_behind what raised left (Poll y polls (Some x)) is = is
cut_behind what raised left (Raise x) is = refl
cut_behind what raised left (Lower x) is = refl
cut_behind what (y ∷ ys) left (Falls told many) is = refl
cut_behind what [] left (Falls told many) is = by (nat_eq (many - 1) 0) where
  by : (t : Bool) → cuts_front what left (if t then Empty else Falls (told + 1) (many - 1)) ≡ true
  by true = refl
  by false = refl
cut_behind what raised left (Posts c told many old new) is = by (nat_eq (many - 1) 0) where
  by : (t : Bool) → cuts_front what left (if t then Empty else Posts c (told + 1) (many - 1) old new) ≡ true
  by true = refl
  by false = refl

pub cut_falls : (what : Sleeping) (left : List Micro) (raised : List ℕ) (told many : ℕ) → cuts_front what left (falls raised told many) ≡ true
cut_falls what left (y ∷ ys) told many = refl
cut_falls what left [] told many = by (nat_eq many 0) where
  by : (t : Bool) → cuts_front what left (if t then Empty else Falls told many) ≡ true
  by true = refl
  by false = refl

-- behind a raise that comes next
pub raise_cuts : (f : FlightState) (there : ℕ → Bool) (front : Front) (x : ClockId) → own_first f front ≡ Some (micro.Raise x) → is_script f.call there f.left ≡ true → cuts_front f.call f.left front ≡ true
    → can_cut f.call (script_behind front f.left) ≡ true
raise_cuts f there Empty x own is cut = first_cuts f there (micro.Raise x) own refl is
raise_cuts f there (Poll y polls again) x own is cut = absurd cc
raise_cuts f there (Raise z) x own is cut = cut
raise_cuts f there (Lower z) x own is cut = absurd cc
raise_cuts f there (Falls told left) x own is cut = absurd cc
raise_cuts f there (Posts c told left old new) x own is cut = absurd cc
