-- What the steps of raises, lowers, polls and falls leave of what a change of rate tells and links.
use Rattle.std.proofs.Common.{◌≡◌, ℕ, ◌&&◌, ◌||◌, ◌==◌, nat_eq, nat_lt, Bool, true, false, List, [], ◌∷◌, Option, Some, None, refl, sym, ap, subst, ◌∙◌, inl, inr}
use Rattle.std.specs.Prelude.{is_none, slice_get, if◌then◌else◌}
use Rattle.std.specs.List.{list_all, list_any}
use Rattle.std.specs.Option.{option_map_or}
use Rattle.clk_base.specs.declared.call.Micro.{Micro}
use Rattle.clk_base.specs.declared.call.Micro.TheVariants as micro
use Rattle.clk_base.specs.declared.call.Sleeping.{Sleeping}
use Rattle.clk_base.specs.declared.call.Sleeping.TheVariants as call
use Rattle.clk_base.specs.declared.clock.ClockId.{ClockId}
use Rattle.clk_model.specs.Step.{is_end, is_visit, is_register, is_close, is_settle, lets_go, from_first, behind_first, behind_lets, first_alone, cut_short, rest_of}
use Rattle.clk_model.proofs.Members.{or_cases, both_left, both_right}
use Rattle.std.proofs.lemmas.Bool.{and_from}
use Rattle.clk_flight.specs.declared.front.Front.{Front}
use Rattle.clk_flight.specs.declared.front.Front.TheVariants.{Empty, Poll, Raise, Lower, Falls, Posts}
use Rattle.clk_flight.specs.Fronts.{falls, front_behind, script_behind}
use Rattle.clk_flight.specs.Flights.{FlightState, own_first, own_step}
use Rattle.clk_flight.specs.Moves.{others, found_none, comes_again, raised_once, raised_in, lowered_once, is_last_no, timed_out_in, polled_in, front_polled, fallen, front_fallen}
use Rattle.clk_flight.proofs.KeptLaws.{going_step}
use Rattle.change_walk.specs.declared.changes.Changed.{Changed}
use Rattle.core_parts.specs.Course.{PostsFit, tells_all, begins_with, behind_visit, visited_by}
use Rattle.core_parts.specs.InFlight.{changes_rate, may_raise, may_seek, may_make, there_behind, is_front, is_script, IsUnderWay}
use Rattle.core_parts.proofs.InFlight.{behind_seek, raise_there, poll_in_front, PollsInFront}
use Rattle.core_parts.proofs.StepsInFlight.{end_alone, FallsInFront}
use Rattle.core_parts.proofs.SameCall.{KeepsAlong}
use Rattle.core_parts.proofs.Noticed.{behind_fits}

-- ---- the rest of a script

-- what a step tells that visits no clock is told behind it
tells_unseen : (count : ℕ → ℕ) (ns : List Changed) (m : Micro) (ms : List Micro) → visited_by m ≡ None → tells_all count (m ∷ ms) ns ≡ tells_all count ms ns
tells_unseen count ns m ms unseen =
    ap (λ (o : Option ℕ). option_map_or (λ c. (nat_eq (count c) 0 || begins_with c ns) && tells_all count ms (behind_visit (count c) ns)) o (tells_all count ms ns)) unseen

tells_behind : (f : FlightState) (count : ℕ → ℕ) (ns : List Changed) (front : Front) (m : Micro) → own_first f front ≡ Some m → visited_by m ≡ None → tells_all count f.left ns ≡ true
    → tells_all count (script_behind front f.left) ns ≡ true
tells_behind f count ns Empty m first unseen all = from f.left first all where
  from : (left : List Micro) → slice_get left 0 ≡ Some m → tells_all count left ns ≡ true → tells_all count (rest_of left) ns ≡ true
  from [] e told = told
  from (n ∷ ms) e told = let same : n ≡ m = cc in sym (tells_unseen count ns n ms (ap visited_by same ∙ unseen)) ∙ told
tells_behind f count ns (Poll y polls again) m first unseen all = all
tells_behind f count ns (Raise x) m first unseen all = all
tells_behind f count ns (Lower x) m first unseen all = all
tells_behind f count ns (Falls told left) m first unseen all = all
tells_behind f count ns (Posts c told left old new) m first unseen all = all

links_behind : (can : Micro → Bool) (left : List Micro) (front : Front) → list_all can left ≡ true → list_all can (script_behind front left) ≡ true
links_behind can [] Empty all = all
links_behind can (m ∷ ms) Empty all = both_right (can m) (list_all can ms) all
links_behind can left (Poll y polls again) all = all
links_behind can left (Raise x) all = all
links_behind can left (Lower x) all = all
links_behind can left (Falls told many) all = all
links_behind can left (Posts c told many old new) all = all

-- ---- a script that is cut short

links_cut : (can test : Micro → Bool) (ms : List Micro) → list_all can ms ≡ true → list_all can (from_first test ms) ≡ true
links_cut can test [] all = refl
links_cut can test (m ∷ ms) all = by (test m) (links_cut can test ms (both_right (can m) (list_all can ms) all)) where
  by : (t : Bool) → list_all can (from_first test ms) ≡ true → list_all can (if t then m ∷ ms else from_first test ms) ≡ true
  by true rest = all
  by false rest = rest

no_visit : (m : Micro) → is_visit m ≡ false → visited_by m ≡ None
no_visit (micro.Visit c) e = absurd cc
no_visit _ e = refl

-- up to its first visit
tells_visit : (count : ℕ → ℕ) (ns : List Changed) (ms : List Micro) → tells_all count ms ns ≡ true → tells_all count (from_first is_visit ms) ns ≡ true
tells_visit count ns [] all = refl
tells_visit count ns (m ∷ ms) all = by (is_visit m) refl (λ rest. tells_visit count ns ms rest) where
  by : (t : Bool) → is_visit m ≡ t → (tells_all count ms ns ≡ true → tells_all count (from_first is_visit ms) ns ≡ true) → tells_all count (if t then m ∷ ms else from_first is_visit ms) ns ≡ true
  by true at more = all
  by false at more = more (sym (tells_unseen count ns m ms (no_visit m at)) ∙ all)

-- without the steps before it that let go
tells_lets : (count : ℕ → ℕ) (ns : List Changed) (ms : List Micro) → tells_all count ms ns ≡ true → tells_all count (behind_lets ms) ns ≡ true
tells_lets count ns [] all = refl
tells_lets count ns (m ∷ ms) all = by (lets_go m) refl (λ rest. tells_lets count ns ms rest) where
  unseen : (n : Micro) → lets_go n ≡ true → visited_by n ≡ None
  unseen (micro.Visit c) e = absurd cc
  unseen _ e = refl

  by : (t : Bool) → lets_go m ≡ t → (tells_all count ms ns ≡ true → tells_all count (behind_lets ms) ns ≡ true) → tells_all count (if t then behind_lets ms else m ∷ ms) ns ≡ true
  by true lets more = more (sym (tells_unseen count ns m ms (unseen m lets)) ∙ all)
  by false lets more = all

-- and without those after its first
tells_alone : (count : ℕ → ℕ) (ns : List Changed) (ms : List Micro) → tells_all count ms ns ≡ true → tells_all count (first_alone ms) ns ≡ true
tells_alone count ns [] all = refl
tells_alone count ns (m ∷ ms) all = by (visited_by m) all where
  by : (o : Option ℕ) → option_map_or (λ c. (count c == 0 || begins_with c ns) && tells_all count ms (behind_visit (count c) ns)) o (tells_all count ms ns) ≡ true
      → option_map_or (λ c. (count c == 0 || begins_with c ns) && tells_all count (behind_lets ms) (behind_visit (count c) ns)) o (tells_all count (behind_lets ms) ns) ≡ true
  by None h = tells_lets count ns ms h
  by (Some c) h =
      and_from (count c == 0 || begins_with c ns) _ (both_left (count c == 0 || begins_with c ns) _ h)
      (tells_lets count (behind_visit (count c) ns) ms (both_right (count c == 0 || begins_with c ns) _ h))

-- up to its end
tells_end : (count : ℕ → ℕ) (ns : List Changed) (what : Sleeping) (there : ℕ → Bool) (ms : List Micro) → is_script what there ms ≡ true → tells_all count (from_first is_end ms) ns ≡ true
tells_end count ns what there [] is = refl
tells_end count ns what there (m ∷ ms) is = by (is_end m) refl (λ rest. tells_end count ns what (there_behind there m) ms rest) where
  last : (ns' : List Micro) → is_none (slice_get ns' 0) ≡ true → tells_all count ns' ns ≡ true
  last [] e = refl
  last (n ∷ rest) e = absurd cc

  ended : (n : Micro) → is_end n ≡ true → is_script what there (n ∷ ms) ≡ true → tells_all count (n ∷ ms) ns ≡ true
  ended micro.End e all = last ms (either (is_none (slice_get ms 0)) all) where
    either : (t : Bool) → (t || false) ≡ true → t ≡ true
    either true e = refl
    either false e = absurd cc
  ended _ e all = absurd cc

  by : (t : Bool) → is_end m ≡ t → (is_script what (there_behind there m) ms ≡ true → tells_all count (from_first is_end ms) ns ≡ true) → tells_all count (if t then m ∷ ms else from_first is_end ms) ns ≡ true
  by true at more = ended m at is
  by false at more = elim (or_cases (is_end m && is_none (slice_get ms 0)) _ is) [
    | inl end ↦ let no : true ≡ false = sym (both_left (is_end m) _ end) ∙ at in absurd cc
    | inr rest ↦ more (both_right _ _ (both_right _ _ rest))
  ]

-- a registration visits no clock, and no more does the sweep
abbrev unvisited : Micro → Bool
unvisited m = is_none (visited_by m)

tells_unvisited : (count : ℕ → ℕ) (ns : List Changed) (ms : List Micro) → list_all unvisited ms ≡ true → tells_all count ms ns ≡ true
tells_unvisited count ns [] all = refl
tells_unvisited count ns (m ∷ ms) all = tells_unseen count ns m ms (nothing (visited_by m) (both_left (unvisited m) _ all)) ∙ tells_unvisited count ns ms (both_right (unvisited m) _ all) where
  nothing : (o : Option ℕ) → is_none o ≡ true → o ≡ None
  nothing None e = refl
  nothing (Some c) e = absurd cc

made_unvisited : (what : Sleeping) (there : ℕ → Bool) (m : Micro) → changes_rate what ≡ false → may_make what there m ≡ true → unvisited m ≡ true
made_unvisited what there (micro.Visit x) lacks e = let never : false ≡ true = sym lacks ∙ both_left (changes_rate what) (there x.0) e in absurd cc
made_unvisited what there _ lacks e = refl

script_unvisited : (what : Sleeping) (there : ℕ → Bool) (ms : List Micro) → changes_rate what ≡ false → is_script what there ms ≡ true → list_all unvisited ms ≡ true
script_unvisited what there [] lacks is = refl
script_unvisited what there (m ∷ ms) lacks is = by (is_end m) refl (λ rest. script_unvisited what (there_behind there m) ms lacks rest) where
  by : (t : Bool) → is_end m ≡ t → (is_script what (there_behind there m) ms ≡ true → list_all unvisited ms ≡ true) → list_all unvisited (m ∷ ms) ≡ true
  by true ends more = ap (λ (ks : List Micro). list_all unvisited ks) (end_alone what there m ms ends is)
  by false goes more =
      let made = behind_seek what there m ms goes is in
      ap (λ (b : Bool). b && list_all unvisited ms) (made_unvisited what there m lacks made.0) ∙ more made.1

links_behind_first : (can test : Micro → Bool) (ms : List Micro) → list_all can ms ≡ true → list_all can (behind_first test ms) ≡ true
links_behind_first can test [] all = refl
links_behind_first can test (m ∷ ms) all = by (test m) (links_behind_first can test ms (both_right (can m) (list_all can ms) all)) where
  by : (t : Bool) → list_all can (behind_first test ms) ≡ true → list_all can (if t then ms else behind_first test ms) ≡ true
  by true rest = both_right (can m) (list_all can ms) all
  by false rest = rest

links_lets : (can : Micro → Bool) (ms : List Micro) → list_all can ms ≡ true → list_all can (behind_lets ms) ≡ true
links_lets can [] all = refl
links_lets can (m ∷ ms) all = by (lets_go m) (links_lets can ms (both_right (can m) (list_all can ms) all)) where
  by : (t : Bool) → list_all can (behind_lets ms) ≡ true → list_all can (if t then behind_lets ms else m ∷ ms) ≡ true
  by true rest = rest
  by false rest = all

links_alone : (can : Micro → Bool) (ms : List Micro) → list_all can ms ≡ true → list_all can (first_alone ms) ≡ true
links_alone can [] all = refl
links_alone can (m ∷ ms) all = and_from (can m) (list_all can (behind_lets ms)) (both_left (can m) (list_all can ms) all) (links_lets can ms (both_right (can m) (list_all can ms) all))

links_probe : (can : Micro → Bool) (c : ClockId) (ms : List Micro) → list_all can ms ≡ true → list_all can (cut_short (call.Probe c) ms) ≡ true
links_probe can c ms all = by (list_any is_register ms) where
  by : (t : Bool) → list_all can (if t then from_first is_end ms else behind_first is_settle ms) ≡ true
  by true = links_cut can is_end ms all
  by false = links_behind_first can is_settle ms all

-- what a timeout leaves of the script of a call that may raise
tells_cut : (count : ℕ → ℕ) (ns : List Changed) (what : Sleeping) (there : ℕ → Bool) (ms : List Micro) → may_raise what ≡ true → is_script what there ms ≡ true → tells_all count ms ns ≡ true
    → tells_all count (cut_short what ms) ns ≡ true
tells_cut count ns (call.Prepare h) there ms may is all = tells_end count ns (call.Prepare h) there ms is
tells_cut count ns (call.SetRate h x) there ms may is all = tells_alone count ns (from_first is_visit ms) (tells_visit count ns ms all)
tells_cut count ns (call.SetRateExclusive h x) there ms may is all = tells_alone count ns (from_first is_visit ms) (tells_visit count ns ms all)
tells_cut count ns (call.SetRange h least most) there ms may is all = tells_alone count ns (from_first is_visit ms) (tells_visit count ns ms all)
tells_cut count ns (call.Probe c) there ms may is all = tells_unvisited count ns (cut_short (call.Probe c) ms) (links_probe unvisited c ms (script_unvisited (call.Probe c) there ms refl is))
tells_cut count ns (call.SetParent h p) there ms may is all = tells_end count ns (call.SetParent h p) there ms is
tells_cut count ns call.Sweep there ms may is all =
    tells_unvisited count ns (cut_short call.Sweep ms) (links_lets unvisited (behind_first is_close ms) (links_behind_first unvisited is_close ms (script_unvisited call.Sweep there ms refl is)))
tells_cut count ns _ there ms may is all = absurd cc

links_cut_short : (can : Micro → Bool) (what : Sleeping) (ms : List Micro) → may_raise what ≡ true → list_all can ms ≡ true → list_all can (cut_short what ms) ≡ true
links_cut_short can (call.Prepare h) ms may all = links_cut can is_end ms all
links_cut_short can (call.SetRate h x) ms may all = links_alone can (from_first is_visit ms) (links_cut can is_visit ms all)
links_cut_short can (call.SetRateExclusive h x) ms may all = links_alone can (from_first is_visit ms) (links_cut can is_visit ms all)
links_cut_short can (call.SetRange h least most) ms may all = links_alone can (from_first is_visit ms) (links_cut can is_visit ms all)
links_cut_short can (call.Probe c) ms may all = links_probe can c ms all
links_cut_short can (call.SetParent h p) ms may all = links_cut can is_end ms all
links_cut_short can call.Sweep ms may all = links_lets can (behind_first is_close ms) (links_behind_first can is_close ms all)
links_cut_short can _ ms may all = absurd cc

-- ---- each step

seek_unseen : (what : Sleeping) (there : ℕ → Bool) (m : Micro) → may_seek what there m ≡ true → visited_by m ≡ None
seek_unseen what there (micro.Raise x) e = refl
seek_unseen what there (micro.Lower x) e = refl
seek_unseen what there _ e = absurd cc

pub along-none : (f : FlightState) (there : ℕ → Bool) (m : Micro) → own_step f ≡ Some m → may_seek f.call there m ≡ true → KeepsAlong f (found_none f)
along-none f there m own seeks = record {
  call = refl;
  tells = λ count ns tells. record {
    front = behind_fits count f.raised f.front tells.front;
    visits = tells_behind f count ns f.front m (going_step f.going (own_first f f.front) m own) (seek_unseen f.call there m seeks) tells.visits;
  };
  links = λ can all. links_behind can f.left f.front all;
}

pub along-raised : (f : FlightState) (there : ℕ → Bool) (x y : ClockId) (more : Bool) → own_step f ≡ Some (micro.Raise x) → IsUnderWay there f → KeepsAlong f (raised_in f x y more)
along-raised f there x y more own is = by (nat_lt f.again f.plls) where
  by : (t : Bool) → KeepsAlong f (if t then raised_once f x y more else found_none f)
  by true = record {
    call = refl;
    tells = λ count ns tells. record {
      front = tt;
      visits = tells_behind f count ns f.front (micro.Raise x) (going_step f.going (own_first f f.front) (micro.Raise x) own) refl tells.visits;
    };
    links = λ can all. links_behind can f.left f.front all;
  }
  by false = along-none f there (micro.Raise x) own (raise_there f there x own is)

pub along-lowered : (f : FlightState) (x : ClockId) (more : Bool) → own_step f ≡ Some (micro.Lower x) → KeepsAlong f (lowered_once f x more)
along-lowered f x more own = record {
  call = refl;
  tells = λ count ns tells. record {
    front = either count (behind_fits count f.raised f.front tells.front) (comes_again f more);
    visits = tells_behind f count ns f.front (micro.Lower x) (going_step f.going (own_first f f.front) (micro.Lower x) own) refl tells.visits;
  };
  links = λ can all. links_behind can f.left f.front all;
} where
  either : (count : ℕ → ℕ) → PostsFit count (front_behind f.raised f.front) → (t : Bool) → PostsFit count (if t then Lower x else front_behind f.raised f.front)
  either count fits true = tt
  either count fits false = fits

falls_fit : (count : ℕ → ℕ) (raised : List ℕ) (told left : ℕ) → PostsFit count (falls raised told left)
falls_fit count (y ∷ ys) told left = tt
falls_fit count [] told left = by (nat_eq left 0) where
  by : (t : Bool) → PostsFit count (if t then Empty else Falls told left)
  by true = tt
  by false = tt

pub along-polled : (f : FlightState) (there : ℕ → Bool) (y : ClockId) (answer : Bool) → own_step f ≡ Some (micro.Poll y) → IsUnderWay there f → KeepsAlong f (polled_in f answer)
along-polled f there y answer own is = by (is_last_no f.front answer) where
  in_front : PollsInFront f y
  in_front = poll_in_front f there y own is

  may : may_raise f.call ≡ true
  may = both_left _ _ (both_left _ _ (sym (ap (λ (front : Front). is_front f.call there front) in_front.front) ∙ is.front))

  polled_fits : (count : ℕ → ℕ) (b : Bool) → PostsFit count (front_polled (Poll y in_front.polls in_front.again) b)
  polled_fits count true = again_fits in_front.again where
    again_fits : (o : Option ClockId) → PostsFit count (option_map_or Raise o Empty)
    again_fits None = tt
    again_fits (Some x) = tt
  polled_fits count false = tt

  by : (t : Bool) → KeepsAlong f (if t then timed_out_in f else record f { front = front_polled f.front answer; left = script_behind f.front f.left })
  by true = record {
    call = refl;
    tells = λ count ns tells. record { front = falls_fit count f.raised 0 f.extra; visits = tells_cut count ns f.call there f.left may is.script tells.visits };
    links = λ can all. links_cut_short can f.call f.left may all;
  }
  by false = record {
    call = refl;
    tells = λ count ns tells. record {
      front = subst (λ (front : Front). PostsFit count (front_polled front answer)) (sym in_front.front) (polled_fits count answer);
      visits = tells_behind f count ns f.front (micro.Poll y) (going_step f.going (own_first f f.front) (micro.Poll y) own) refl tells.visits;
    };
    links = λ can all. links_behind can f.left f.front all;
  }

pub along-fallen : (f : FlightState) → FallsInFront f → KeepsAlong f (fallen f)
along-fallen f in_front = record {
  call = refl;
  tells = λ count ns tells. record {
    front = subst (λ (front : Front). PostsFit count (front_fallen (others f.raised) front)) (sym in_front.front) (falls_fit count (others f.raised) in_front.told in_front.left);
    visits = ap (λ (front : Front). tells_all count (script_behind front f.left) ns) in_front.front ∙ tells.visits;
  };
  links = λ can all. links_behind can f.left f.front all;
}
