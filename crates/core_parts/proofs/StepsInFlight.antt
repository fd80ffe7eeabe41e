-- Each step of a change in flight leaves it so, and which step comes next.
use Rattle.std.proofs.Common.{◌≡◌, not, ℕ, inl, inr, ◌&&◌, ◌||◌, nat_eq, Bool, true, false, List, [], ◌∷◌, Option, Some, None, refl, sym, ap, ◌∙◌}
use Rattle.std.specs.Prelude.{is_none, slice_get, if◌then◌else◌, option_and_then, nat_lt}
use Rattle.std.specs.List.{list_any, list_all}
use Rattle.std.specs.Option.{option_map, option_map_or}
use Rattle.clk_base.specs.declared.call.Micro.{Micro}
use Rattle.clk_base.specs.declared.call.Micro.TheVariants as micro
use Rattle.clk_base.specs.declared.call.Sleeping.{Sleeping}
use Rattle.clk_base.specs.declared.call.Sleeping.TheVariants as call
use Rattle.clk_base.specs.declared.clock.ClockId.{ClockId}
use Rattle.clk_model.specs.State.{NotifierRow}
use Rattle.clk_model.specs.Notices.{notifiers_of}
use Rattle.clk_model.specs.Step.{is_end, is_visit, is_close, is_register, is_settle, lets_go, from_first, behind_first, behind_lets, first_alone, cut_short, rest_of, sets_parent}
use Rattle.clk_model.proofs.Members.{or_cases, or_right, not_either, both_left, both_right}
use Rattle.std.proofs.lemmas.Bool.{and_from}
use Rattle.clk_model.proofs.DelayLaws.{three_true}
use Rattle.clk_flight.specs.declared.front.Front.{Front}
use Rattle.clk_flight.specs.declared.front.Front.TheVariants.{Empty, Poll, Raise, Lower, Falls, Posts}
use Rattle.clk_flight.specs.Fronts.{abort_of, post_to, falls, front_behind, script_behind}
use Rattle.clk_flight.specs.Flights.{FlightState, own_first, own_step, first_step, comes_next, fall_or_abort}
use Rattle.clk_flight.specs.Moves.{others, found_none, comes_again, raised_once, raised_in, lowered_once, is_last_no, timed_out_in, polled_in, front_polled, fallen, front_fallen}
use Rattle.clk_flight.proofs.KeptLaws.{going_step}
use Rattle.core_parts.specs.InFlight.{asks_rate, is_probe, probes, is_near, may_raise, may_lower, may_seek, may_make, can_cut, cuts_behind, cuts_front, there_behind, is_script, is_front, IsUnderWay, changes_rate, links_clocks}
use Rattle.core_parts.proofs.InFlight.{there_still, behind_seek, script_rest, raise_there, lower_there, PollsInFront, poll_in_front, cut_behind, cut_falls, raise_cuts, first_seeks}

-- ---- each step leaves it so

seek_front : (f : FlightState) (there : ℕ → Bool) (front : Front) (m : Micro) → own_first f front ≡ Some m → may_seek f.call there m ≡ true → is_front f.call there (front_behind f.raised front) ≡ true
seek_front f there Empty m own seeks = refl
seek_front f there (Poll y polls again) m own seeks = let same : m ≡ micro.Poll y = cc in let never : may_seek f.call there (micro.Poll y) ≡ true = ap (may_seek f.call there) (sym same) ∙ seeks in absurd cc
seek_front f there (Raise x) m own seeks = refl
seek_front f there (Lower x) m own seeks = refl
seek_front f there (Falls told left) m own seeks = absurd cc
seek_front f there (Posts c told left old new) m own seeks = absurd cc

no_end : (what : Sleeping) (there : ℕ → Bool) (m : Micro) → may_seek what there m ≡ true → is_end m ≡ false
no_end what there micro.End e = absurd cc
no_end what there (micro.Raise x) e = refl
no_end what there (micro.Lower x) e = refl
no_end what there (micro.Notify kind c id old new) e = refl
no_end what there (micro.Poll x) e = refl
no_end what there (micro.Fall x) e = refl
no_end what there (micro.HoldPrepare x) e = refl
no_end what there (micro.HoldEnable x) e = refl
no_end what there (micro.Relink c p) e = refl
no_end what there (micro.WriteMux c place) e = refl
no_end what there (micro.DropEnable x) e = refl
no_end what there (micro.DropPrepare x) e = refl
no_end what there (micro.Visit c) e = refl
no_end what there (micro.Register c) e = refl
no_end what there (micro.Settle c) e = refl
no_end what there (micro.Close c) e = refl
no_end what there (micro.Unpower c) e = refl

pub seeks_plain : (what : Sleeping) (there : ℕ → Bool) (m : Micro) → may_seek what there m ≡ true → is_register m ≡ false
seeks_plain what there (micro.Raise x) e = refl
seeks_plain what there (micro.Lower x) e = refl
seeks_plain what there _ e = absurd cc

pub under_way-none : (f : FlightState) (there : ℕ → Bool) (m : Micro) → own_step f ≡ Some m → may_seek f.call there m ≡ true → IsUnderWay there f → IsUnderWay there (found_none f)
under_way-none f there m own seeks is =
    let first = going_step f.going (own_first f f.front) m own in
    record {
      call_ = is.call_;
      script = script_rest f there f.front m first (no_end f.call there m seeks) (seeks_plain f.call there m seeks) is.script;
      front = seek_front f there f.front m first seeks;
      cut = cut_behind f.call f.raised f.left f.front is.cut;
      raised = is.raised;
      extra = is.extra;
      vetoed = is.vetoed;
    }

again_there : (may b y : Bool) (c : ClockId) (there : ℕ → Bool) → may ≡ true → y ≡ true → there c.0 ≡ true → (may && y && option_map_or (λ x. there x.0) (if b then Some c else None) true) ≡ true
again_there true true true c there e f g = g
again_there true false true c there e f g = refl
again_there true b false c there e f g = absurd cc
again_there false b y c there e f g = absurd cc

pub under_way-raised : (f : FlightState) (there : ℕ → Bool) (x y : ClockId) (more : Bool) → own_step f ≡ Some (micro.Raise x) → is_near f.call there y.0 ≡ true → IsUnderWay there f → IsUnderWay there (raised_in f x y more)
under_way-raised f there x y more own at is = by (nat_lt f.again f.plls) where
  may : (may_raise f.call && is_near f.call there x.0) ≡ true
  may = raise_there f there x own is

  first : own_first f f.front ≡ Some (micro.Raise x)
  first = going_step f.going (own_first f f.front) (micro.Raise x) own

  by : (t : Bool) → IsUnderWay there (if t then raised_once f x y more else found_none f)
  by true = record {
    call_ = is.call_;
    script = script_rest f there f.front (micro.Raise x) first refl refl is.script;
    front = again_there (may_raise f.call) (comes_again f more) (is_near f.call there y.0) x (is_near f.call there) (both_left _ _ may) at (both_right _ _ may);
    cut = raise_cuts f there f.front x first is.script is.cut;
    raised = ap (λ (b : Bool). b && list_all (is_near f.call there) f.raised) at ∙ is.raised;
    extra = is.extra;
    vetoed = is.vetoed;
  }
  by false = under_way-none f there (micro.Raise x) own may is

pub under_way-lowered : (f : FlightState) (there : ℕ → Bool) (x : ClockId) (more : Bool) → own_step f ≡ Some (micro.Lower x) → IsUnderWay there f → IsUnderWay there (lowered_once f x more)
under_way-lowered f there x more own is = record {
  call_ = is.call_;
  script = script_rest f there f.front (micro.Lower x) first refl refl is.script;
  front = either (comes_again f more);
  cut = still (comes_again f more);
  raised = is.raised;
  extra = is.extra;
  vetoed = is.vetoed;
} where
  at : (may_lower f.call && there x.0) ≡ true
  at = lower_there f there x own is

  first : own_first f f.front ≡ Some (micro.Lower x)
  first = going_step f.going (own_first f f.front) (micro.Lower x) own

  either : (t : Bool) → is_front f.call there (if t then Lower x else front_behind f.raised f.front) ≡ true
  either true = at
  either false = seek_front f there f.front (micro.Lower x) first at

  still : (t : Bool) → cuts_front f.call (script_behind f.front f.left) (if t then Lower x else front_behind f.raised f.front) ≡ true
  still true = refl
  still false = cut_behind f.call f.raised f.left f.front is.cut

-- what a timeout leaves of the script of a call that may raise
-- where only the end is left
only_end : (what : Sleeping) (there : ℕ → Bool) (ms : List Micro) → (ms ≡ micro.End ∷ []) → is_script what there ms ≡ true
only_end what there ms e = ap (is_script what there) e

pub end_alone : (what : Sleeping) (there : ℕ → Bool) (m : Micro) (ms : List Micro) → is_end m ≡ true → is_script what there (m ∷ ms) ≡ true → m ∷ ms ≡ micro.End ∷ []
end_alone what there micro.End [] e is = refl
end_alone what there micro.End (n ∷ ns) e is = absurd (never (cuts_behind what micro.End (n ∷ ns)) is) where
  never : (b : Bool) → (b && false) ≡ true → ⊥
  never true e = absurd cc
  never false e = absurd cc
end_alone what there _ ms e is = absurd cc

cut_one : (what : Sleeping) (there : ℕ → Bool) (m : Micro) (ms : List Micro) (t : Bool) → is_end m ≡ t → is_script what there (m ∷ ms) ≡ true
    → (is_script what (there_behind there m) ms ≡ true → from_first is_end ms ≡ micro.End ∷ []) → (if t then m ∷ ms else from_first is_end ms) ≡ micro.End ∷ []
cut_one what there m ms true at e more = end_alone what there m ms at e
cut_one what there m ms false at e more = more (behind_seek what there m ms at e).1

pub cut_is : (what : Sleeping) (there : ℕ → Bool) (ms : List Micro) → is_script what there ms ≡ true → from_first is_end ms ≡ micro.End ∷ []
cut_is what there [] e = absurd cc
cut_is what there (m ∷ ms) e = cut_one what there m ms (is_end m) refl e (λ h. cut_is what (there_behind there m) ms h)

cut_end : (what : Sleeping) (there : ℕ → Bool) (ms : List Micro) → is_script what there ms ≡ true → is_script what there (from_first is_end ms) ≡ true
cut_end what there ms e = only_end what there (from_first is_end ms) (cut_is what there ms e)

-- a call that registers no clock has no step that does
pub no_probes : (what : Sleeping) (c : ℕ) → is_probe what ≡ false → probes what c ≡ false
no_probes (call.Probe k) c lacks = absurd cc
no_probes _ c lacks = refl

pub changes_plain : (what : Sleeping) → changes_rate what ≡ true → is_probe what ≡ false
changes_plain (call.Probe c) e = absurd cc
changes_plain _ e = refl

pub changes_links : (what : Sleeping) → changes_rate what ≡ true → links_clocks what ≡ true
changes_links what e = ap (λ (b : Bool). b || is_probe what) e

-- what a timeout leaves of the script of such a call
pub cut_plain : (what : Sleeping) (ms : List Micro) → changes_rate what ≡ true → can_cut what ms ≡ (list_any is_visit ms || not (asks_rate what))
cut_plain (call.Probe c) ms changes = absurd cc
cut_plain call.Sweep ms changes = absurd cc
cut_plain _ ms changes = refl

pub makes_plain : (what : Sleeping) (there : ℕ → Bool) (m : Micro) → is_probe what ≡ false → may_make what there m ≡ true → is_register m ≡ false
makes_plain what there (micro.Register c) lacks may = let never : false ≡ true = sym (no_probes what c.0 lacks) ∙ may in absurd cc
makes_plain what there _ lacks may = refl

visit_one : (what : Sleeping) (there : ℕ → Bool) (m : Micro) (ms : List Micro) (t : Bool) → is_probe what ≡ false → is_visit m ≡ t → list_any is_visit (m ∷ ms) ≡ true → is_script what there (m ∷ ms) ≡ true
    → (is_script what there ms ≡ true → list_any is_visit ms ≡ true → is_script what there (from_first is_visit ms) ≡ true) → is_script what there (if t then m ∷ ms else from_first is_visit ms) ≡ true
visit_one what there m ms true lacks at some e more = e
visit_one what there m ms false lacks at some e more = elim (or_cases (is_end m && is_none (slice_get ms 0)) (cuts_behind what m ms && (may_make what there m && is_script what (there_behind there m) ms)) e) [
  | inl last ↦ absurd (none ms (both_right _ _ last) behind)
  | inr rest ↦ let made = both_right (cuts_behind what m ms) _ rest in
      more
      (sym (ap (λ (test : ℕ → Bool). is_script what test ms) (there_still there m (makes_plain what there m lacks (both_left (may_make what there m) _ made)))) ∙ both_right (may_make what there m) _ made)
      behind
] where
  behind : list_any is_visit ms ≡ true
  behind = sym (ap (λ (t : Bool). t || list_any is_visit ms) at) ∙ some

  none : (ns : List Micro) → is_none (slice_get ns 0) ≡ true → list_any is_visit ns ≡ true → ⊥
  none [] is e = absurd cc
  none (n ∷ ns) is e = absurd cc

cut_visit : (what : Sleeping) (there : ℕ → Bool) (ms : List Micro) → is_probe what ≡ false → list_any is_visit ms ≡ true → is_script what there ms ≡ true → is_script what there (from_first is_visit ms) ≡ true
cut_visit what there [] lacks some e = absurd cc
cut_visit what there (m ∷ ms) lacks some e = visit_one what there m ms (is_visit m) lacks refl some e (λ h more. cut_visit what there ms lacks more h)

-- after its first step of a kind other than the end, if no clock is registered before
first_one : (test : Micro → Bool) (goes_on : (n : Micro) → test n ≡ true → is_end n ≡ false) (what : Sleeping) (there : ℕ → Bool) (m : Micro) (ms : List Micro) (t : Bool) → test m ≡ t
    → list_any is_register (m ∷ ms) ≡ false → list_any test (m ∷ ms) ≡ true → is_script what there (m ∷ ms) ≡ true
    → (list_any is_register ms ≡ false → list_any test ms ≡ true → is_script what there ms ≡ true → is_script what there (behind_first test ms) ≡ true)
    → is_script what there (if t then ms else behind_first test ms) ≡ true
first_one test goes_on what there m ms t at lacks some e more = by t at where
  plain : is_register m ≡ false
  plain = (not_either (is_register m) (list_any is_register ms) lacks).0

  later : list_any is_register ms ≡ false
  later = (not_either (is_register m) (list_any is_register ms) lacks).1

  rest : is_end m ≡ false → is_script what there ms ≡ true
  rest goes = sym (ap (λ (test : ℕ → Bool). is_script what test ms) (there_still there m plain)) ∙ (behind_seek what there m ms goes e).1

  by_end : (u : Bool) → is_end m ≡ u → list_any test ms ≡ true → is_script what there (behind_first test ms) ≡ true
  by_end true ends settles =
      let none : ms ≡ [] = ap rest_of (end_alone what there m ms ends e) in
      let never : false ≡ true = sym (ap (λ (ns : List Micro). list_any test ns) none) ∙ settles in
      absurd cc
  by_end false goes settles = more later settles (rest goes)

  by : (u : Bool) → test m ≡ u → is_script what there (if u then ms else behind_first test ms) ≡ true
  by true here = rest (goes_on m here)
  by false here = by_end (is_end m) refl (sym (ap (λ (b : Bool). b || list_any test ms) here) ∙ some)

cut_first : (test : Micro → Bool) → ((n : Micro) → test n ≡ true → is_end n ≡ false) → (what : Sleeping) (there : ℕ → Bool) (ms : List Micro) → list_any is_register ms ≡ false
    → list_any test ms ≡ true → is_script what there ms ≡ true → is_script what there (behind_first test ms) ≡ true
cut_first test goes_on what there [] lacks some e = absurd cc
cut_first test goes_on what there (m ∷ ms) lacks some e = first_one test goes_on what there m ms (test m) refl lacks some e (λ later more is. cut_first test goes_on what there ms later more is)

settle_goes : (n : Micro) → is_settle n ≡ true → is_end n ≡ false
settle_goes (micro.Settle c) is = refl
settle_goes _ is = absurd cc

close_goes : (n : Micro) → is_close n ≡ true → is_end n ≡ false
close_goes (micro.Close c) is = refl
close_goes _ is = absurd cc

-- without the steps before it that let go
cut_lets : (what : Sleeping) (there : ℕ → Bool) (ms : List Micro) → is_script what there ms ≡ true → is_script what there (behind_lets ms) ≡ true
cut_lets what there [] e = e
cut_lets what there (m ∷ ms) e = by (lets_go m) refl (λ h. cut_lets what there ms h) where
  goes : (n : Micro) → lets_go n ≡ true → (is_end n ≡ false) × (is_register n ≡ false)
  goes (micro.DropEnable x) is = (refl, refl)
  goes (micro.DropPrepare x) is = (refl, refl)
  goes (micro.Lower x) is = (refl, refl)
  goes _ is = absurd cc

  by : (t : Bool) → lets_go m ≡ t → (is_script what there ms ≡ true → is_script what there (behind_lets ms) ≡ true) → is_script what there (if t then behind_lets ms else m ∷ ms) ≡ true
  by true is more = more (sym (ap (λ (test : ℕ → Bool). is_script what test ms) (there_still there m (goes m is).1)) ∙ (behind_seek what there m ms (goes m is).0 e).1)
  by false is more = e

-- a visit without the steps after it that let go
visit_alone : (what : Sleeping) (there : ℕ → Bool) (ms : List Micro) → is_script what there (from_first is_visit ms) ≡ true → is_script what there (first_alone (from_first is_visit ms)) ≡ true
visit_alone what there [] e = e
visit_alone what there (m ∷ ms) e = by (is_visit m) refl e (λ h. visit_alone what there ms h) where
  own : (n : Micro) → is_visit n ≡ true → is_script what there (n ∷ ms) ≡ true → is_script what there (n ∷ behind_lets ms) ≡ true
  own (micro.Visit c) is h =
      let made : (changes_rate what && there c.0 && is_script what there ms) ≡ true = h in
      and_from (changes_rate what && there c.0) (is_script what there (behind_lets ms)) (both_left _ _ made) (cut_lets what there ms (both_right _ _ made))
  own _ is h = absurd cc

  by : (t : Bool) → is_visit m ≡ t → is_script what there (if t then m ∷ ms else from_first is_visit ms) ≡ true
      → (is_script what there (from_first is_visit ms) ≡ true → is_script what there (first_alone (from_first is_visit ms)) ≡ true)
      → is_script what there (first_alone (if t then m ∷ ms else from_first is_visit ms)) ≡ true
  by true is h more = own m is h
  by false is h more = more h

-- a sweep registers no clock
sweep_registers : (there : ℕ → Bool) (ms : List Micro) → is_script call.Sweep there ms ≡ true → list_any is_register ms ≡ false
sweep_registers there [] e = refl
sweep_registers there (m ∷ ms) e = by (is_end m) refl (λ h. sweep_registers there ms h) where
  by : (t : Bool) → is_end m ≡ t → (is_script call.Sweep there ms ≡ true → list_any is_register ms ≡ false) → list_any is_register (m ∷ ms) ≡ false
  by true ends more =
      let none : ms ≡ [] = ap rest_of (end_alone call.Sweep there m ms ends e) in
      ap (λ (ns : List Micro). is_register m || list_any is_register ns) none ∙ ends_plain m ends where
        ends_plain : (n : Micro) → is_end n ≡ true → (is_register n || false) ≡ false
        ends_plain micro.End is = refl
        ends_plain _ is = absurd cc
  by false goes more =
      let made = behind_seek call.Sweep there m ms goes e in
      let plain = makes_plain call.Sweep there m refl made.0 in
      ap (λ (b : Bool). b || list_any is_register ms) plain ∙ more (sym (ap (λ (test : ℕ → Bool). is_script call.Sweep test ms) (there_still there m plain)) ∙ made.1)

-- of a registration that isn't made the end is left, and of an adoption what stands behind it
cut_probe : (c : ClockId) (there : ℕ → Bool) (ms : List Micro) → can_cut (call.Probe c) ms ≡ true → is_script (call.Probe c) there ms ≡ true → is_script (call.Probe c) there (cut_short (call.Probe c) ms) ≡ true
cut_probe c there ms cut e = by (list_any is_register ms) refl where
  by : (t : Bool) → list_any is_register ms ≡ t → is_script (call.Probe c) there (if t then from_first is_end ms else behind_first is_settle ms) ≡ true
  by true some = cut_end (call.Probe c) there ms e
  by false none = cut_first is_settle settle_goes (call.Probe c) there ms none (sym (ap (λ (b : Bool). b || list_any is_settle ms) none) ∙ cut) e

-- a visit is left of a request for a rate
asks_visit : (ms : List Micro) → (list_any is_visit ms || false) ≡ true → list_any is_visit ms ≡ true
asks_visit ms e = elim (or_cases (list_any is_visit ms) false e) [
  | inl some ↦ some
  | inr never ↦ absurd cc
]

cut_script : (what : Sleeping) (there : ℕ → Bool) (ms : List Micro) → may_raise what ≡ true → can_cut what ms ≡ true → is_script what there ms ≡ true → is_script what there (cut_short what ms) ≡ true
cut_script (call.Prepare h) there ms may cut e = cut_end (call.Prepare h) there ms e
cut_script (call.SetRate h x) there ms may cut e = visit_alone (call.SetRate h x) there ms (cut_visit (call.SetRate h x) there ms refl (asks_visit ms cut) e)
cut_script (call.SetRateExclusive h x) there ms may cut e =
    visit_alone (call.SetRateExclusive h x) there ms (cut_visit (call.SetRateExclusive h x) there ms refl (asks_visit ms cut) e)
cut_script (call.SetRange h least most) there ms may cut e =
    visit_alone (call.SetRange h least most) there ms (cut_visit (call.SetRange h least most) there ms refl (asks_visit ms cut) e)
cut_script (call.SetParent h p) there ms may cut e = cut_end (call.SetParent h p) there ms e
cut_script (call.Probe c) there ms may cut e = cut_probe c there ms cut e
cut_script call.Sweep there ms may cut e =
    cut_lets call.Sweep there (behind_first is_close ms) (cut_first is_close close_goes call.Sweep there ms (sweep_registers there ms e) cut e)
cut_script _ there ms may cut e = absurd cc

-- falls, and of a change of parent notices that it is called off
falls_may : (what : Sleeping) (left : ℕ) → may_raise what ≡ true → (sets_parent what ≡ false → left ≡ 0) → (may_raise what && (nat_eq left 0 || sets_parent what)) ≡ true
falls_may what left may lone = ap (λ (b : Bool). b && (nat_eq left 0 || sets_parent what)) may ∙ by (sets_parent what) lone where
  by : (t : Bool) → (t ≡ false → left ≡ 0) → (nat_eq left 0 || t) ≡ true
  by true h = or_right (nat_eq left 0) true refl
  by false h = ap (λ (n : ℕ). nat_eq n 0 || false) (h refl)

falls_front : (what : Sleeping) (there : ℕ → Bool) (raised : List ℕ) (told left : ℕ) → (may_raise what && (nat_eq left 0 || sets_parent what)) ≡ true → is_front what there (falls raised told left) ≡ true
falls_front what there (y ∷ ys) told left may = may
falls_front what there [] told left may = by (nat_eq left 0) where
  by : (t : Bool) → is_front what there (if t then Empty else Falls told left) ≡ true
  by true = refl
  by false = may

pub under_way-polled : (f : FlightState) (there : ℕ → Bool) (y : ClockId) (answer : Bool) → own_step f ≡ Some (micro.Poll y) → IsUnderWay there f → IsUnderWay there (polled_in f answer)
under_way-polled f there y answer own is = by (is_last_no f.front answer) where
  in_front : PollsInFront f y
  in_front = poll_in_front f there y own is

  parts : (may_raise f.call ≡ true) × (is_near f.call there y.0 ≡ true) × (option_map_or (λ x. is_near f.call there x.0) in_front.again true ≡ true)
  parts = three_true _ _ _ (ap (is_front f.call there) (sym in_front.front) ∙ is.front)

  behind : (b : Bool) → is_front f.call there (front_polled (Poll y in_front.polls in_front.again) b) ≡ true
  behind true = again_in in_front.again parts.2 where
    again_in : (o : Option ClockId) → option_map_or (λ x. is_near f.call there x.0) o true ≡ true → is_front f.call there (option_map_or Raise o Empty) ≡ true
    again_in None e = refl
    again_in (Some x) e = ap (λ (b : Bool). b && is_near f.call there x.0) parts.0 ∙ e
  behind false = sym (ap (is_front f.call there) in_front.front) ∙ is.front

  cuts : can_cut f.call f.left ≡ true
  cuts = sym (ap (cuts_front f.call f.left) in_front.front) ∙ is.cut

  still : (b : Bool) → cuts_front f.call f.left (front_polled (Poll y in_front.polls in_front.again) b) ≡ true
  still true = again_cut in_front.again where
    again_cut : (o : Option ClockId) → cuts_front f.call f.left (option_map_or Raise o Empty) ≡ true
    again_cut None = refl
    again_cut (Some x) = cuts
  still false = cuts

  by : (t : Bool) → IsUnderWay there (if t then timed_out_in f else record f { front = front_polled f.front answer; left = script_behind f.front f.left })
  by true = record {
    call_ = is.call_;
    script = cut_script f.call there f.left parts.0 cuts is.script;
    front = falls_front f.call there f.raised 0 f.extra (falls_may f.call f.extra parts.0 is.extra);
    cut = cut_falls f.call (cut_short f.call f.left) f.raised 0 f.extra;
    raised = is.raised;
    extra = λ other. refl;
    vetoed = is.vetoed;
  }
  by false = record {
    call_ = is.call_;
    script = script_rest f there f.front (micro.Poll y) (going_step f.going (own_first f f.front) (micro.Poll y) own) refl refl is.script;
    front = ap (λ (front : Front). is_front f.call there (front_polled front answer)) in_front.front ∙ behind answer;
    cut = ap (λ (front : Front). cuts_front f.call (script_behind front f.left) (front_polled front answer)) in_front.front ∙ still answer;
    raised = is.raised;
    extra = is.extra;
    vetoed = is.vetoed;
  }

pub poll_there : (f : FlightState) (there : ℕ → Bool) (y : ClockId) → own_step f ≡ Some (micro.Poll y) → IsUnderWay there f → is_near f.call there y.0 ≡ true
poll_there f there y own is =
    let in_front = poll_in_front f there y own is in
    (three_true _ _ _ (ap (is_front f.call there) (sym in_front.front) ∙ is.front)).1

-- falls in front
pub record FallsInFront (f : FlightState) : Type 0 where
  pub told : ℕ
  pub left : ℕ
  pub front : f.front ≡ Falls told left

others_all : (there : ℕ → Bool) (ys : List ℕ) → list_all there ys ≡ true → list_all there (others ys) ≡ true
others_all there [] e = refl
others_all there (y ∷ ys) e = both_right (there y) (list_all there ys) e

pub under_way-fallen : (f : FlightState) (there : ℕ → Bool) → FallsInFront f → IsUnderWay there f → IsUnderWay there (fallen f)
under_way-fallen f there in_front is = record {
  call_ = is.call_;
  script = ap (λ (front : Front). is_script f.call there (script_behind front f.left)) in_front.front ∙ is.script;
  front = ap (λ (front : Front). is_front f.call there (front_fallen (others f.raised) front)) in_front.front ∙ falls_front f.call there (others f.raised) in_front.told in_front.left may;
  cut = ap (λ (front : Front). cuts_front f.call (script_behind front f.left) (front_fallen (others f.raised) front)) in_front.front ∙ cut_falls f.call f.left (others f.raised) in_front.told in_front.left;
  raised = others_all (is_near f.call there) f.raised is.raised;
  extra = is.extra;
  vetoed = is.vetoed;
} where
  may : (may_raise f.call && (nat_eq in_front.left 0 || sets_parent f.call)) ≡ true
  may = sym (ap (is_front f.call there) in_front.front) ∙ is.front

-- ---- which step comes next

abort_no_fall : (o : Option Micro) (y : ClockId) → option_and_then abort_of o ≡ Some (micro.Fall y) → ⊥
abort_no_fall None y e = absurd cc
abort_no_fall (Some (micro.Notify kind c id old new)) y e = absurd cc
abort_no_fall (Some _) y e = absurd cc

post_no_fall : (c : ClockId) (old new : ℕ) (o : Option NotifierRow) (y : ClockId) → option_map (post_to c old new) o ≡ Some (micro.Fall y) → ⊥
post_no_fall c old new None y e = absurd cc
post_no_fall c old new (Some n) y e = absurd cc

-- whoever the notifiers are
pub fall_untold : (rows : List NotifierRow) (f : FlightState) (y : ClockId) → comes_next rows f ≡ Some (micro.Fall y) → comes_next [] f ≡ Some (micro.Fall y)
fall_untold rows f y e = ap (λ (o : Option Micro). if f.going then o else None) (by f.front refl) ∙ e where
  first : first_step rows f f.front ≡ Some (micro.Fall y)
  first = going_step f.going (first_step rows f f.front) (micro.Fall y) e

  by : (front : Front) → f.front ≡ front → first_step [] f f.front ≡ first_step rows f f.front
  by Empty at = ap (first_step [] f) at ∙ sym (ap (first_step rows f) at)
  by (Poll z polls again) at = ap (first_step [] f) at ∙ sym (ap (first_step rows f) at)
  by (Raise z) at = ap (first_step [] f) at ∙ sym (ap (first_step rows f) at)
  by (Lower z) at = ap (first_step [] f) at ∙ sym (ap (first_step rows f) at)
  by (Falls told left) at = ap (first_step [] f) at ∙ sym (ap (first_step rows f) at)
  by (Posts c told left old new) at = absurd (post_no_fall c old new (slice_get (notifiers_of rows c.0) told) y (sym (ap (first_step rows f) at) ∙ first))

pub fall_told : (rows : List NotifierRow) (f : FlightState) (y : ClockId) → comes_next [] f ≡ Some (micro.Fall y) → comes_next rows f ≡ Some (micro.Fall y)
fall_told rows f y e = ap (λ (o : Option Micro). if f.going then o else None) (by f.front refl) ∙ e where
  first : first_step [] f f.front ≡ Some (micro.Fall y)
  first = going_step f.going (first_step [] f f.front) (micro.Fall y) e

  by : (front : Front) → f.front ≡ front → first_step rows f f.front ≡ first_step [] f f.front
  by Empty at = ap (first_step rows f) at ∙ sym (ap (first_step [] f) at)
  by (Poll z polls again) at = ap (first_step rows f) at ∙ sym (ap (first_step [] f) at)
  by (Raise z) at = ap (first_step rows f) at ∙ sym (ap (first_step [] f) at)
  by (Lower z) at = ap (first_step rows f) at ∙ sym (ap (first_step [] f) at)
  by (Falls told left) at = ap (first_step rows f) at ∙ sym (ap (first_step [] f) at)
  by (Posts c told left old new) at = absurd (post_no_fall c old new (slice_get (notifiers_of [] c.0) told) y (sym (ap (first_step [] f) at) ∙ first))

-- a fall that comes next stands in front, and is that of a clock that passes the test
pub fall_in_front : (f : FlightState) (there : ℕ → Bool) (y : ClockId) → comes_next [] f ≡ Some (micro.Fall y) → IsUnderWay there f → FallsInFront f × (is_near f.call there y.0 ≡ true)
fall_in_front f there y comes is = by f.front refl (going_step f.going (first_step [] f f.front) (micro.Fall y) comes) is.front where
  drop : (told left : ℕ) (raised : List ℕ) → list_all (is_near f.call there) raised ≡ true → f.front ≡ Falls told left → fall_or_abort f.script told raised ≡ Some (micro.Fall y)
      → FallsInFront f × (is_near f.call there y.0 ≡ true)
  drop told left [] all at e = absurd (abort_no_fall (slice_get f.script told) y e)
  drop told left (z ∷ zs) all at e =
      let same : z ≡ y.0 = cc in
      (record { told = told; left = left; front = at }, ap (is_near f.call there) (sym same) ∙ both_left (is_near f.call there z) (list_all (is_near f.call there) zs) all)

  by : (front : Front) → f.front ≡ front → first_step [] f f.front ≡ Some (micro.Fall y) → is_front f.call there f.front ≡ true → FallsInFront f × (is_near f.call there y.0 ≡ true)
  by Empty at e h = let never = first_seeks f there (micro.Fall y) (sym (ap (first_step [] f) at) ∙ e) refl is.script in absurd cc
  by (Poll z polls again) at e h = let first = sym (ap (first_step [] f) at) ∙ e in absurd cc
  by (Raise z) at e h = let first = sym (ap (first_step [] f) at) ∙ e in absurd cc
  by (Lower z) at e h = let first = sym (ap (first_step [] f) at) ∙ e in absurd cc
  by (Falls told left) at e h = drop told left f.raised is.raised at (sym (ap (first_step [] f) at) ∙ e)
  by (Posts c told left old new) at e h = absurd (post_no_fall c old new (slice_get (notifiers_of [] c.0) told) y (sym (ap (first_step [] f) at) ∙ e))
