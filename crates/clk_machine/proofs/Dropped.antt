-- Which calls touch neither enables nor gates: those that are vetoed, prepares, and registrations that aren't made.
use Rattle.std.proofs.Common.{◌≡◌, ℕ, ◌||◌, Bool, true, false, List, [], ◌∷◌, ◌++◌, Some, refl, ap, ◌∙◌}
use Rattle.std.specs.List.{list_any}
use Rattle.std.specs.Option.{option_map_or}
use Rattle.clk_base.specs.declared.call.Micro.{Micro}
use Rattle.clk_base.specs.declared.call.Micro.TheVariants as micro
use Rattle.clk_base.specs.declared.call.Sleeping.{Sleeping}
use Rattle.clk_base.specs.declared.call.Sleeping.TheVariants as call
use Rattle.clk_base.specs.declared.event.Event.TheVariants as event
use Rattle.clk_base.specs.declared.event.Turn.{Turn}
use Rattle.clk_base.specs.declared.event.Turn.TheVariants as turn
use Rattle.clk_base.specs.declared.handle.Handle.{Handle}
use Rattle.clk_model.specs.Begin.{begun}
use Rattle.clk_model.specs.Laws.Flight.{Flight, begins, goes_on, beside, script, IsLeftOf, all_left, own_made, put_made, cut, may_be_put}
use Rattle.clk_model.specs.Machine.{next}
use Rattle.clk_model.specs.Notices.{is_veto}
use Rattle.clk_model.specs.State.{State, Change}
use Rattle.clk_model.specs.Step.{is_end}
use Rattle.clk_model.proofs.BeginsLaws.{Starts, raising_handle, lowering_handle, planning, reparents, probing, sweeping, Begins, answers, gives, takes, adjusts, prepares, unprepares, notes, registers, begins_so}
use Rattle.clk_model.proofs.BeginsLaws.{goes_on as goes_in}
use Rattle.clk_model.proofs.FlightLaws.{begin_is, course_of, left_is_part, none_part, step_is}
use Rattle.clk_model.proofs.NextLaws.{going_no_end}
use Rattle.clk_model.proofs.NoneLaws.{none_append, none_front, none_rest}
use Rattle.clk_machine.proofs.BesideSteps.{touches}

-- ---- lists of steps

pub none_ahead : (p : Micro → Bool) (xs ys : List Micro) → list_any p (xs ++ ys) ≡ false → list_any p xs ≡ false
none_ahead p [] ys none = refl
none_ahead p (x ∷ xs) ys none = ap (λ (b : Bool). b || list_any p xs) (none_front p x (xs ++ ys) none) ∙ none_ahead p xs ys (none_rest p x (xs ++ ys) none)

pub one_none : (p : Micro → Bool) (m : Micro) → p m ≡ false → list_any p (m ∷ []) ≡ false
one_none p m e = ap (λ (b : Bool). b || false) e

-- ---- what a flight has made

-- each step that was put in front of a script touches nothing
pub put_touches : (m : Micro) → may_be_put m ≡ true → touches m ≡ false
put_touches (micro.Notify kind c id old new) put = refl
put_touches (micro.Raise x) put = refl
put_touches (micro.Poll x) put = refl
put_touches (micro.Fall x) put = refl
put_touches (micro.Lower x) put = refl
put_touches _ put = absurd cc

-- what no step of a script is, and none that is put in front of one, none that was made is
pub made_none : (p : Micro → Bool) (what : Sleeping) (whole : List Micro) {made : List Micro} {late : Bool} {left : List Micro} → ((m : Micro) → may_be_put m ≡ true → p m ≡ false)
    → list_any p whole ≡ false → IsLeftOf what whole made late left → list_any p made ≡ false
made_none p what whole put none all_left = refl
made_none p what whole put none (own_made {made = made} {left = left} m f) =
    let own : list_any p (m ∷ left) ≡ false = none_part p (left_is_part what whole f) none in
    none_append p made (m ∷ []) (made_none p what whole put none f) (one_none p m (none_front p m left own))
made_none p what whole put none (put_made {made = made} m is f) = none_append p made (m ∷ []) (made_none p what whole put none f) (one_none p m (put m is))
made_none p what whole put none (cut f c) = made_none p what whole put none f

-- no step of a flight is its end
pub made_no_end : (q : State) (d : ℕ) (what : Sleeping) {s : State} {made : List Micro} → Flight q d what s made → list_any is_end made ≡ false
made_no_end q d what (begins step) = refl
made_no_end q d what (goes_on {s = s} {t = t} {made = made} m answer flight step) =
    let of = step_is s t d m answer turn.Going step in
    none_append is_end made (m ∷ []) (made_no_end q d what flight) (one_none is_end m (going_no_end s _ answer m of.1.answered))
made_no_end q d what (beside other e tier flight step) = made_no_end q d what flight

-- the beginning of a flight
pub flight_begins : (q : State) (d : ℕ) (what : Sleeping) {s : State} {made : List Micro} → Flight q d what s made → (s' : State) × (next q d (event.Begin what) ≡ Some (s', turn.Going))
flight_begins q d what (begins {s = s} step) = (s, step)
flight_begins q d what (goes_on m answer flight step) = flight_begins q d what flight
flight_begins q d what (beside other e tier flight step) = flight_begins q d what flight

-- ---- scripts

-- what holds of each script that a call may start with holds of its script
pub of_script : (q : State) (d : ℕ) (what : Sleeping) (P : List Micro → Type 0) → (begun q d what).1 ≡ turn.Going → ((n : State) (k : Change) → Starts q d what n k → P k.left) → P (script q d what)
of_script q d what P goes each = by_case (begun q d what) (begins_so q d what) goes where
  by_case : (y : State × Turn) → Begins q d what y → y.1 ≡ turn.Going → P (option_map_or (λ k. k.left) y.0.change [])
  by_case y (goes_in n k starts_) going = each n k starts_
  by_case y (answers r) going = absurd cc
  by_case y (gives c root) going = absurd cc
  by_case y (takes number row at idle) going = absurd cc
  by_case y (adjusts number old new r adjusted) going = absurd cc
  by_case y (prepares number row at calm_) going = absurd cc
  by_case y (unprepares number row at gives_up) going = absurd cc
  by_case y (notes notifiers r) going = absurd cc
  by_case y (registers c free calm_) going = absurd cc

prepare_script : (q n : State) (d : ℕ) (h : Handle) (k : Change) → Starts q d (call.Prepare h) n k → list_any touches k.left ≡ false
prepare_script q n d h k (raising_handle g row is at) = refl
prepare_script q n d h k (lowering_handle g row is at gives_up) = absurd cc
prepare_script q n d h k (planning _ number row over x ks range planned_ at is rates) = absurd cc
prepare_script q n d h k (reparents number row p sets at away mux m root) = absurd cc
prepare_script q n d h k (probing c is free) = absurd cc
prepare_script q n d h k (sweeping is) = absurd cc

unprepare_script : (q n : State) (d : ℕ) (h : Handle) (k : Change) → Starts q d (call.Unprepare h) n k → list_any is_veto k.left ≡ false
unprepare_script q n d h k (raising_handle g row is at) = absurd cc
unprepare_script q n d h k (lowering_handle g row is at gives_up) = refl
unprepare_script q n d h k (planning _ number row over x ks range planned_ at is rates) = absurd cc
unprepare_script q n d h k (reparents number row p sets at away mux m root) = absurd cc
unprepare_script q n d h k (probing c is free) = absurd cc
unprepare_script q n d h k (sweeping is) = absurd cc

-- the steps of a prepare touch nothing
pub prepare_mild : (q s : State) (d : ℕ) (h : Handle) (made : List Micro) → Flight q d (call.Prepare h) s made → list_any touches made ≡ false
prepare_mild q s d h made flight =
    let course = course_of q d (call.Prepare h) flight in
    let start = flight_begins q d (call.Prepare h) flight in
    let goes = (begin_is q start.0 d (call.Prepare h) turn.Going start.1).2 in
    made_none touches (call.Prepare h) (script q d (call.Prepare h)) put_touches (of_script q d (call.Prepare h) (λ ms. list_any touches ms ≡ false) goes (λ n k starts_. prepare_script q n d h k starts_)) course.left

-- no step of an unprepare is a veto
pub unprepare_unvetoed : (q s : State) (d : ℕ) (h : Handle) (made : List Micro) → Flight q d (call.Unprepare h) s made → list_any is_veto made ≡ false
unprepare_unvetoed q s d h made flight =
    let course = course_of q d (call.Unprepare h) flight in
    let start = flight_begins q d (call.Unprepare h) flight in
    let goes = (begin_is q start.0 d (call.Unprepare h) turn.Going start.1).2 in
    (course.unvetoed (of_script q d (call.Unprepare h) (λ ms. list_any is_veto ms ≡ false) goes (λ n k starts_. unprepare_script q n d h k starts_))).0
