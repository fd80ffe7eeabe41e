-- Laws on moves: no call moves a clock twice, and after a move that has timed out its clock is on its old parent.
use Rattle.std.proofs.Common.{◌≡◌, ℕ, ◌-◌, ◌≤◌, ◌||◌, Bool, true, false, cond, inl, inr, List, [], ◌∷◌, ◌++◌, Option, Some, refl, sym, ap, subst, ◌∙◌, arith}
use Rattle.std.specs.Prelude.{nat_le, length}
use Rattle.std.specs.List.{list_any}
use Rattle.std.specs.Option.{option_map_or}
use Rattle.std.proofs.lemmas.Bool.Decides.{nat_tests}
use Rattle.std.proofs.lemmas.Option.{same_Some}
use Rattle.clk_base.specs.Description.{Description}
use Rattle.clk_base.specs.Valid.{IsValid}
use Rattle.clk_base.specs.declared.call.Micro.{Micro}
use Rattle.clk_base.specs.declared.call.Micro.TheVariants as micro
use Rattle.clk_base.specs.declared.call.Sleeping.{Sleeping}
use Rattle.clk_base.specs.declared.call.Sleeping.TheVariants as call
use Rattle.clk_base.specs.declared.clock.ClockId.{ClockId}
use Rattle.clk_base.specs.declared.event.Entry.{Entry}
use Rattle.clk_base.specs.declared.event.Turn.TheVariants as turn
use Rattle.reg_bank.specs.Registers.{Registers}
use Rattle.clk_model.specs.State.{State, Change}
use Rattle.clk_model.specs.Gates.{settled}
use Rattle.clk_model.specs.Chain.{clock_id}
use Rattle.clk_model.specs.Step.{todo, rest_of, left_behind, taken, is_end, is_visit, is_register, is_settle, from_first, behind_first, cut_short, on, timed_out, stepped}
use Rattle.clk_model.specs.Machine.{comes_next}
use Rattle.clk_model.specs.Journal.{replay, opening}
use Rattle.clk_model.specs.Laws.Flight.{Flight, goes_on, beside, script, may_be_put, IsLeftOf, all_left, own_made, put_made, cut}
use Rattle.clk_model.specs.Laws.NothingLeft.{gives_link, MovesOnce, TimesOut, move_left, StaysInFlight, here, goes_on as goes_further, beside as beside_it, TimedOutMovesStay}
use Rattle.clk_model.proofs.Members.{or_cases, or_left, or_right}
use Rattle.clk_model.proofs.NoneLaws.{none_append, none_if, none_front, none_rest}
use Rattle.clk_model.proofs.MicroLaws.{comes_first}
use Rattle.clk_model.proofs.TierLaws.{beside_change}
use Rattle.clk_model.proofs.StepLaws.{raises, step_after}
use Rattle.clk_model.proofs.BeginLaws.{may_raise}
use Rattle.clk_model.proofs.FlightLaws.{IsStep, IsCourse, course_of, left_is_part, first_put, front_put, next_is}
use Rattle.clk_model.proofs.VetoLaws.{of_change}
use Rattle.clk_model.proofs.HoldSteps.{relinks}
use Rattle.clk_model.proofs.BalancedScripts.{relinks_once, once_part, some_part}
use Rattle.clk_model.proofs.ScriptLaws.{none_cut}
use Rattle.clk_model.proofs.HoldLaws.{put_relinks_none}
use Rattle.clk_model.proofs.BalanceLaws.{began}
use Rattle.clk_model.proofs.HoldsLeftLaws.{script_once}
use Rattle.clk_model.specs.Step.{is_close}
use Rattle.clk_model.proofs.FeedLaws.{none_alone, none_lets}
use Rattle.clk_model.proofs.SafeRunLaws.{IsRun}
use Rattle.clk_model.proofs.RunsFedLaws.{run_of}
use Rattle.clk_model.proofs.UnmovedLaws.{unmoved_stay}

-- ---- the two tests are one

gives_is : (c : ℕ) (m : Micro) → gives_link c m ≡ relinks c m
gives_is c (micro.Relink d p) = refl
gives_is c (micro.Register d) = refl
gives_is c m = refl

give_is : (c : ℕ) (ms : List Micro) → list_any (gives_link c) ms ≡ list_any (relinks c) ms
give_is c [] = refl
give_is c (m ∷ ms) = ap (λ (b : Bool). b || list_any (gives_link c) ms) (gives_is c m) ∙ ap (λ (b : Bool). relinks c m || b) (give_is c ms)

-- ---- steps made and steps left

left_once : (what : Sleeping) (whole : List Micro) {made : List Micro} {late : Bool} {left : List Micro} → IsLeftOf what whole made late left → relinks_once whole → relinks_once left
left_once what whole {left = left} f once = once_part (left_is_part what whole f) once

-- what is left of a script that relinks no clock twice relinks none that the steps made have relinked
made_apart : (what : Sleeping) (whole : List Micro) (c : ℕ) {made : List Micro} {late : Bool} {left : List Micro} → IsLeftOf what whole made late left → relinks_once whole
    → list_any (relinks c) left ≡ true → list_any (relinks c) made ≡ false
made_apart what whole c all_left once some = refl
made_apart what whole c (own_made {made = made} {left = left} m f) once some =
    none_append (relinks c) made (m ∷ []) (made_apart what whole c f once (or_right (relinks c m) (list_any (relinks c) left) some))
    (ap (λ (b : Bool). b || false) (by_test (relinks c m) refl)) where
      by_test : (b : Bool) → relinks c m ≡ b → relinks c m ≡ false
      by_test false e = e
      by_test true e = let no : true ≡ false = sym some ∙ (left_once what whole f once).0 c e in absurd cc
made_apart what whole c (put_made {made = made} m put f) once some =
    none_append (relinks c) made (m ∷ []) (made_apart what whole c f once some) (ap (λ (b : Bool). b || false) (put_relinks_none m c put))
made_apart what whole c {left = rest} (cut {left = left} f short) once some =
    made_apart what whole c f once (some_part (relinks c) (left_is_part what left (cut all_left short)) some)

-- a step that comes next and gives a clock a link is taken from the script
next_relinks : (front left : List Micro) (m : Micro) (c : ℕ) → comes_next m (front ++ left) ≡ true → first_put front ≡ true → relinks c m ≡ true → list_any (relinks c) left ≡ true
next_relinks [] left m c e put is =
    let at = comes_first m left e in ap (λ (ms : List Micro). list_any (relinks c) ms) at.1 ∙ or_left (relinks c m) (list_any (relinks c) at.0) is
next_relinks (n ∷ ns) left m c e put is =
    let no : true ≡ false = sym is ∙ put_relinks_none m c (ap may_be_put (sym (next_is m n (ns ++ left) e)) ∙ put) in absurd cc

next_none : (front left : List Micro) (m : Micro) (c : ℕ) → comes_next m (front ++ left) ≡ true → first_put front ≡ true → list_any (relinks c) left ≡ false → relinks c m ≡ false
next_none front left m c e put none = by_test (relinks c m) refl where
  by_test : (b : Bool) → relinks c m ≡ b → relinks c m ≡ false
  by_test false f = f
  by_test true f = let no : true ≡ false = sym (next_relinks front left m c e put f) ∙ none in absurd cc

behind_none : (p : Micro → Bool) (front left : List Micro) → list_any p left ≡ false → list_any p (left_behind front left) ≡ false
behind_none p [] [] none = refl
behind_none p [] (m ∷ ms) none = none_rest p m ms none
behind_none p (n ∷ ns) left none = none

flight_once : (defs : Description) (regs : Registers) (ignore_unused : Bool) (credits : ℕ) (before : List Entry) (d : ℕ) (what : Sleeping) {s : State} {made : List Micro}
    → IsValid (length regs) defs → Flight (replay (opening defs regs ignore_unused credits) before) d what s made
    → relinks_once (script (replay (opening defs regs ignore_unused credits) before) d what)
flight_once defs regs ignore_unused credits before d what valid flight =
    let q : State = replay (opening defs regs ignore_unused credits) before in
    let run : IsRun q = run_of defs regs ignore_unused credits before valid in
    let first = began q d what flight in
    script_once (length q.regs) q first.0 d what run.wired run.keeps first.1

pub moves_once : MovesOnce
moves_once defs regs ignore_unused credits before s t d what made m answer x valid flight step c gives =
    let q : State = replay (opening defs regs ignore_unused credits) before in
    let course : IsCourse q d what s made = course_of q d what flight in
    let k : Change = course.now in
    let is : IsStep s t d m answer x k = of_change s t d m answer x k course.at step in
    give_is c made
    ∙ made_apart what (script q d what) c course.left (flight_once defs regs ignore_unused credits before d what valid flight)
    (next_relinks k.front k.left m c is.first (front_put k course.front) (sym (gives_is c m) ∙ gives))

-- ---- what a timeout drops

abbrev stops : Micro → Bool
stops m = is_visit m || is_settle m || is_close m || is_end m

from_none : (p test : Micro → Bool) (ms : List Micro) → list_any p ms ≡ false → list_any p (from_first test ms) ≡ false
from_none p test [] none = refl
from_none p test (m ∷ ms) none = none_if p (test m) (m ∷ ms) (from_first test ms) none (from_none p test ms (none_rest p m ms none))

-- from a step on where a move stops, a script that relinks no clock twice relinks none of the move before
from_drops : (test : Micro → Bool) (c : ℕ) → ((m : Micro) → test m ≡ true → stops m ≡ true) → (ms : List Micro) → relinks_once ms → list_any (relinks c) (move_left ms) ≡ true
    → list_any (relinks c) (from_first test ms) ≡ false
from_drops test c stop [] once some = absurd cc
from_drops test c stop (m ∷ ms) once some = by_stop (stops m) (test m) refl refl some (λ later. from_drops test c stop ms once.1 later) where
  by_stop : (b t : Bool) → stops m ≡ b → test m ≡ t → list_any (relinks c) (cond b [] (m ∷ move_left ms)) ≡ true
      → (list_any (relinks c) (move_left ms) ≡ true → list_any (relinks c) (from_first test ms) ≡ false) → list_any (relinks c) (cond t (m ∷ ms) (from_first test ms)) ≡ false
  by_stop true t e f there rest = absurd cc
  by_stop false true e f there rest = let no : true ≡ false = sym (stop m f) ∙ e in absurd cc
  by_stop false false e f there rest = elim (or_cases (relinks c m) (list_any (relinks c) (move_left ms)) there) [
    | inl is ↦ from_none (relinks c) test ms (once.0 c is)
    | inr later ↦ rest later
  ]

behind_first_none : (p test : Micro → Bool) (ms : List Micro) → list_any p ms ≡ false → list_any p (behind_first test ms) ≡ false
behind_first_none p test [] none = refl
behind_first_none p test (m ∷ ms) none = none_if p (test m) ms (behind_first test ms) (none_rest p m ms none) (behind_first_none p test ms (none_rest p m ms none))

-- and so behind such a step
behind_drops : (test : Micro → Bool) (c : ℕ) → ((m : Micro) → test m ≡ true → stops m ≡ true) → (ms : List Micro) → relinks_once ms → list_any (relinks c) (move_left ms) ≡ true
    → list_any (relinks c) (behind_first test ms) ≡ false
behind_drops test c stop [] once some = absurd cc
behind_drops test c stop (m ∷ ms) once some = by_stop (stops m) (test m) refl refl some (λ later. behind_drops test c stop ms once.1 later) where
  by_stop : (b t : Bool) → stops m ≡ b → test m ≡ t → list_any (relinks c) (cond b [] (m ∷ move_left ms)) ≡ true
      → (list_any (relinks c) (move_left ms) ≡ true → list_any (relinks c) (behind_first test ms) ≡ false) → list_any (relinks c) (cond t ms (behind_first test ms)) ≡ false
  by_stop true t e f there rest = absurd cc
  by_stop false true e f there rest = let no : true ≡ false = sym (stop m f) ∙ e in absurd cc
  by_stop false false e f there rest = elim (or_cases (relinks c m) (list_any (relinks c) (move_left ms)) there) [
    | inl is ↦ behind_first_none (relinks c) test ms (once.0 c is)
    | inr later ↦ rest later
  ]

end_stops : (m : Micro) → is_end m ≡ true → stops m ≡ true
end_stops micro.End e = refl
end_stops m e = absurd cc

visit_stops : (m : Micro) → is_visit m ≡ true → stops m ≡ true
visit_stops (micro.Visit c) e = refl
visit_stops m e = absurd cc

settle_stops : (m : Micro) → is_settle m ≡ true → stops m ≡ true
settle_stops (micro.Settle c) e = refl
settle_stops m e = absurd cc

close_stops : (m : Micro) → is_close m ≡ true → stops m ≡ true
close_stops (micro.Close c) e = refl
close_stops m e = absurd cc

cut_drops : (what : Sleeping) (c : ℕ) (ms : List Micro) → may_raise what ≡ true → relinks_once ms → list_any (relinks c) (move_left ms) ≡ true
    → list_any (relinks c) (cut_short what ms) ≡ false
cut_drops (call.Prepare h) c ms raising once some = from_drops is_end c end_stops ms once some
cut_drops (call.SetParent h p) c ms raising once some = from_drops is_end c end_stops ms once some
cut_drops (call.SetRate h x) c ms raising once some = none_alone (relinks c) (from_first is_visit ms) (from_drops is_visit c visit_stops ms once some)
cut_drops (call.SetRateExclusive h x) c ms raising once some = none_alone (relinks c) (from_first is_visit ms) (from_drops is_visit c visit_stops ms once some)
cut_drops (call.SetRange h least most) c ms raising once some = none_alone (relinks c) (from_first is_visit ms) (from_drops is_visit c visit_stops ms once some)
cut_drops (call.Probe d) c ms raising once some =
    none_if (relinks c) (list_any is_register ms) (from_first is_end ms) (behind_first is_settle ms) (from_drops is_end c end_stops ms once some) (behind_drops is_settle c settle_stops ms once some)
cut_drops call.Sweep c ms raising once some = none_lets (relinks c) (behind_first is_close ms) (behind_drops is_close c close_stops ms once some)
cut_drops _ c ms raising once some = absurd cc

-- a move is what the script begins with
in_left : (p : Micro → Bool) (ms : List Micro) → list_any p (move_left ms) ≡ true → list_any p ms ≡ true
in_left p [] some = some
in_left p (m ∷ ms) some = by_stop (stops m) some (λ later. in_left p ms later) where
  by_stop : (b : Bool) → list_any p (cond b [] (m ∷ move_left ms)) ≡ true → (list_any p (move_left ms) ≡ true → list_any p ms ≡ true) → list_any p (m ∷ ms) ≡ true
  by_stop true there rest = absurd cc
  by_stop false there rest = elim (or_cases (p m) (list_any p (move_left ms)) there) [
    | inl is ↦ or_left (p m) (list_any p ms) is
    | inr later ↦ or_right (p m) (list_any p ms) (rest later)
  ]

-- a poll leaves the move as it was
poll_behind : (front left : List Micro) (y : ClockId) (c : ℕ) → comes_next (micro.Poll y) (front ++ left) ≡ true → list_any (relinks c) (move_left left) ≡ true
    → list_any (relinks c) (move_left (left_behind front left)) ≡ true
poll_behind [] left y c e some =
    let at = comes_first (micro.Poll y) left e in
    ap (λ (ms : List Micro). list_any (relinks c) (move_left (rest_of ms))) at.1 ∙ sym (ap (λ (ms : List Micro). list_any (relinks c) (move_left ms)) at.1) ∙ some
poll_behind (n ∷ ns) left y c e some = some

at_last : (n : ℕ) → n ≤ 1 → nat_le n 1 ≡ true
at_last n least = grind (arith, nat_tests)

-- what is left of a change behind a poll that times out
late_left : (s u : State) (d : ℕ) (k : Change) → TimesOut s d k u → option_map_or (λ j. j.left) u.change [] ≡ cut_short k.call (left_behind k.front k.left)
unfolding stepped settled
late_left s u d k late =
    let is = of_change s u d (micro.Poll late.polled) (Some false) turn.Going k late.at late.step in
    ap (λ (v : State). option_map_or (λ j. j.left) v.change []) (sym is.state)
    ∙ ap (λ (b : Bool). option_map_or (λ j. j.left) (cond b (timed_out s (record (taken k) { polls = 0 }))
    (on s (record (taken k) { polls = k.polls - 1; front = micro.Poll (clock_id late.polled.0) ∷ rest_of k.front }))).change []) (at_last k.polls late.last)

-- ---- the law

-- nothing that is left gives a clock a link
abbrev LeavesIt : ℕ → State → Type 0
LeavesIt c s = (k : Change) → s.change ≡ Some k → list_any (relinks c) k.left ≡ false

step_leaves_it : (q s t : State) (d : ℕ) (what : Sleeping) (made : List Micro) (m : Micro) (answer : Option Bool) (c : ℕ) (course : IsCourse q d what s made)
    → IsStep s t d m answer turn.Going course.now → list_any (relinks c) course.now.left ≡ false → LeavesIt c t
unfolding settled
step_leaves_it q s t d what made m answer c course is none j at =
    let k : Change = course.now in
    let after = step_after s (taken k) answer m is.answered in
    let same : j ≡ after.0 = same_Some j after.0 (sym at ∙ sym (ap (λ (u : State). u.change) is.state) ∙ after.1) in
    let rest : list_any (relinks c) (left_behind k.front k.left) ≡ false = behind_none (relinks c) k.front k.left none in
    ap (λ (l : Change). list_any (relinks c) l.left) same
    ∙ elim after.2.left [
      | inl same_left ↦ ap (λ (ms : List Micro). list_any (relinks c) ms) same_left.0 ∙ rest
      | inr late ↦ ap (λ (ms : List Micro). list_any (relinks c) ms) late.1 ∙ none_cut (relinks c) k.call (left_behind k.front k.left) rest
    ]

-- a call that was to give a clock no more link doesn't
still_left : (q u : State) (d : ℕ) (what : Sleeping) (made : List Micro) (c : ℕ) → Flight q d what u made → list_any (relinks c) made ≡ false → LeavesIt c u
    → {t : State} → StaysInFlight d u t → (more : List Micro) × Flight q d what t more × (list_any (relinks c) more ≡ false) × LeavesIt c t
still_left q u d what made c flight none left here = (made, flight, none, left)
still_left q u d what made c flight none left {t = t} (goes_further {s = s} m answer later step) =
    let at = still_left q u d what made c flight none left later in
    let course : IsCourse q d what s at.0 = course_of q d what at.1 in
    let k : Change = course.now in
    let is : IsStep s t d m answer turn.Going k = of_change s t d m answer turn.Going k course.at step in
    let other : relinks c m ≡ false = next_none k.front k.left m c is.first (front_put k course.front) (at.3 k course.at) in (
      at.0 ++ m ∷ [],
      goes_on m answer at.1 step,
      none_append (relinks c) at.0 (m ∷ []) at.2 (ap (λ (b : Bool). b || false) other),
      step_leaves_it q s t d what at.0 m answer c course is (at.3 k course.at),
    )
still_left q u d what made c flight none left {t = t} (beside_it {s = s} {x = x} other e tier later step) =
    let at = still_left q u d what made c flight none left later in
    (at.0, beside other e tier at.1 step, at.2, λ k is. at.3 k (sym (beside_change s t other e x tier step) ∙ is))

raising_call : (q s : State) (d : ℕ) (what : Sleeping) (made : List Micro) (y : ClockId) → (course : IsCourse q d what s made) → comes_next (micro.Poll y) (todo course.now) ≡ true → may_raise what ≡ true
raising_call q s d what made y course first = by_test (may_raise what) refl where
  by_test : (b : Bool) → may_raise what ≡ b → may_raise what ≡ true
  by_test true e = e
  by_test false e =
      let calm = course.calm e in
      let at = comes_first (micro.Poll y) (todo course.now) first in
      let no : true ≡ false =
      none_front raises (micro.Poll y) at.0 (sym (ap (λ (ms : List Micro). list_any raises ms) at.1) ∙ none_append raises course.now.front course.now.left calm.0 calm.1) in
      absurd cc

pub timed_out_moves_stay : TimedOutMovesStay
timed_out_moves_stay defs regs ignore_unused credits before s u t v d what made k m answer x valid flight late later step c some =
    let behind = still_left q u d what (made ++ micro.Poll late.polled ∷ []) c flight_u none_made none_left later in
    let course : IsCourse q d what t behind.0 = course_of q d what behind.1 in
    let is : IsStep t v d m answer x course.now = of_change t v d m answer x course.now course.at step in
    unmoved_stay q t v d what behind.0 m answer x behind.1 step c (give_is c behind.0 ∙ behind.2)
    (gives_is c m ∙ next_none course.now.front course.now.left m c is.first (front_put course.now course.front) (behind.3 course.now course.at)) where
      q : State
      q = replay (opening defs regs ignore_unused credits) before

      course_s : IsCourse q d what s made
      course_s = course_of q d what flight

      same : course_s.now ≡ k
      same = same_Some course_s.now k (sym course_s.at ∙ late.at)

      first : comes_next (micro.Poll late.polled) (todo k) ≡ true
      first = (of_change s u d (micro.Poll late.polled) (Some false) turn.Going k late.at late.step).first

      flight_u : Flight q d what u (made ++ micro.Poll late.polled ∷ [])
      flight_u = goes_on (micro.Poll late.polled) (Some false) flight late.step

      left_k : IsLeftOf what (script q d what) made k.timed_out k.left
      left_k = subst (λ (j : Change). IsLeftOf what (script q d what) made j.timed_out j.left) same course_s.left

      once : relinks_once (script q d what)
      once = flight_once defs regs ignore_unused credits before d what valid flight

      to_come : list_any (relinks c) (move_left k.left) ≡ true
      to_come = sym (give_is c (move_left k.left)) ∙ some

      none_made : list_any (relinks c) (made ++ micro.Poll late.polled ∷ []) ≡ false
      none_made = none_append (relinks c) made (micro.Poll late.polled ∷ []) (made_apart what (script q d what) c left_k once (in_left (relinks c) k.left to_come)) refl

      rest_once : (front left : List Micro) → relinks_once left → relinks_once (left_behind front left)
      rest_once [] [] r = tt
      rest_once [] (n ∷ ns) r = r.1
      rest_once (n ∷ ns) left r = r

      none_left : LeavesIt c u
      none_left j at =
          ap (λ (ms : List Micro). list_any (relinks c) ms) (sym (ap (λ (o : Option Change). option_map_or (λ i. i.left) o []) at) ∙ late_left s u d k late)
          ∙ ap (λ (w : Sleeping). list_any (relinks c) (cut_short w (left_behind k.front k.left))) (sym (ap (λ (i : Change). i.call) same) ∙ course_s.call)
          ∙ cut_drops what c (left_behind k.front k.left)
          (raising_call q s d what made late.polled course_s (ap (λ (i : Change). comes_next (micro.Poll late.polled) (todo i)) same ∙ first))
          (rest_once k.front k.left (left_once what (script q d what) left_k once))
          (poll_behind k.front k.left late.polled c first to_come)
