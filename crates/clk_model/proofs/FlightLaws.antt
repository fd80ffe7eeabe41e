-- Laws on a change in flight: what is left of its script.
use Rattle.std.proofs.Common.{◌≡◌, ℕ, ◌+◌, ◌&&◌, ◌||◌, ◌⊎◌, inl, inr, Bool, true, false, cond, List, [], ◌∷◌, ◌++◌, Option, Some, None, refl, sym, ap, subst, ◌∙◌, map, nat_eq}
use Rattle.std.specs.Prelude.{option_and_then}
use Rattle.std.specs.List.{list_any}
use Rattle.std.specs.Option.{option_map_or}
use Rattle.std.proofs.lemmas.List.{append_assoc}
use Rattle.clk_base.specs.declared.call.Sleeping.{Sleeping}
use Rattle.clk_base.specs.declared.call.Sleeping.TheVariants as call
use Rattle.clk_base.specs.declared.call.Micro.{Micro}
use Rattle.clk_base.specs.declared.call.Micro.TheVariants as micro
use Rattle.clk_base.specs.declared.call.Notice.TheVariants as notice
use Rattle.clk_base.specs.declared.event.Event.{Event}
use Rattle.clk_base.specs.declared.event.Event.TheVariants as event
use Rattle.clk_base.specs.declared.event.Turn.{Turn}
use Rattle.clk_base.specs.declared.event.Turn.TheVariants as turn
use Rattle.clk_model.specs.State.{State, Change, is_quiet}
use Rattle.clk_model.specs.Gates.{settled}
use Rattle.clk_model.specs.Chain.{clock_id}
use Rattle.clk_model.specs.Notices.{is_veto}
use Rattle.clk_model.specs.Begin.{begun}
use Rattle.clk_model.specs.Step.{todo, rest_of, left_behind, taken, is_end, is_visit, is_close, is_register, is_settle, lets_go, behind_lets, first_alone, from_first, behind_first, cut_short, stepped}
use Rattle.clk_model.specs.Machine.{comes_next, may_step, paid, counted, next}
use Rattle.clk_model.specs.Tier.{is_enable_tier}
use Rattle.clk_model.specs.Laws.Flight.{Flight, begins, goes_on, beside, script, plan, IsFrom, IsBehind, IsProbeCut, IsVisitCut, IsCut, IsPart, nothing_left, keeps, drops, may_be_put, is_no_abort, is_no_post, IsLeftOf, all_left, own_made, put_made, cut, IsFront, nothing, polling, polling_first, raise_again, lower_again, falling, telling, IsUnderWay}
use Rattle.clk_model.proofs.Members.{same_from_test, both_left, both_right}
use Rattle.clk_model.proofs.NoneLaws.{none_append, none_front, none_rest}
use Rattle.clk_model.proofs.MicroLaws.{comes_first}
use Rattle.clk_model.proofs.TierLaws.{state_is, turn_is, paid_is, beside_change}
use Rattle.clk_model.proofs.StepLaws.{raises, IsAfter, step_after}
use Rattle.clk_model.proofs.FrontLaws.{front_after}
use Rattle.clk_model.proofs.BeginLaws.{may_raise, IsBegun, begun_going}
use Rattle.std.proofs.lemmas.Option.{same_Some}

-- ---- what a timeout leaves

from_first_is : (test : Micro → Bool) (ms : List Micro) → IsFrom test ms (from_first test ms)
from_first_is test [] = record { front = []; parts = refl; before = refl; first = tt }
from_first_is test (m ∷ ms) =
    elim (test m) as (λ b. test m ≡ b → IsFrom test (m ∷ ms) (cond b (m ∷ ms) (from_first test ms))) [
      | true ↦ λ e. record { front = []; parts = refl; before = refl; first = e }
      | false ↦ λ e. let rest = from_first_is test ms in record {
        front = m ∷ rest.front;
        parts = ap (λ (ns : List Micro). m ∷ ns) rest.parts;
        before = ap (λ (b : Bool). b) (either (test m) (list_any test rest.front) e rest.before);
        first = rest.first;
      }
    ] refl where
      either : (a b : Bool) → a ≡ false → b ≡ false → (a || b) ≡ false
      either true b e f = absurd cc
      either false b e f = f

behind_first_is : (test : Micro → Bool) (ms : List Micro) → IsBehind test ms (behind_first test ms) ⊎ ((list_any test ms ≡ false) × (behind_first test ms ≡ []))
behind_first_is test [] = inr (refl, refl)
behind_first_is test (m ∷ ms) =
    elim (test m) as (λ b. test m ≡ b → IsBehind test (m ∷ ms) (cond b ms (behind_first test ms)) ⊎ (((b || list_any test ms) ≡ false) × (cond b ms (behind_first test ms) ≡ []))) [
      | true ↦ λ e. inl (record { front = []; passed = m; parts = refl; before = refl; first = e })
      | false ↦ λ e. elim (behind_first_is test ms) [
        | inl rest ↦ inl (record {
          front = m ∷ rest.front;
          passed = rest.passed;
          parts = ap (λ (ns : List Micro). m ∷ ns) rest.parts;
          before = either (test m) (list_any test rest.front) e rest.before;
          first = rest.first;
        })
        | inr none ↦ inr none
      ]
    ] refl where
      either : (a b : Bool) → a ≡ false → b ≡ false → (a || b) ≡ false
      either true b e f = absurd cc
      either false b e f = f

probe_cut : (b : Bool) (ms : List Micro) → IsProbeCut b ms (cond b (from_first is_end ms) (behind_first is_settle ms))
probe_cut true ms = from_first_is is_end ms
probe_cut false ms = behind_first_is is_settle ms

-- what is cut short is what a timeout leaves, of a call that raises
cut_is : (what : Sleeping) (ms : List Micro) → may_raise what ≡ true → IsCut what ms (cut_short what ms)
cut_is (call.Prepare h) ms raising = from_first_is is_end ms
cut_is (call.SetParent h p) ms raising = from_first_is is_end ms
cut_is (call.Probe c) ms raising = probe_cut (list_any is_register ms) ms
cut_is (call.SetRate h x) ms raising = (from_first is_visit ms, from_first_is is_visit ms, refl)
cut_is (call.SetRateExclusive h x) ms raising = (from_first is_visit ms, from_first_is is_visit ms, refl)
cut_is (call.SetRange h least most) ms raising = (from_first is_visit ms, from_first_is is_visit ms, refl)
cut_is call.Sweep ms raising = (behind_first is_close ms, behind_first_is is_close ms, refl)
cut_is _ ms raising = absurd cc

-- a list stands at the end of another
abbrev pub IsEnd : List Micro → List Micro → Type 0
IsEnd whole left = (front : List Micro) × (whole ≡ front ++ left)

end_of_end : (whole middle left : List Micro) → IsEnd whole middle → IsEnd middle left → IsEnd whole left
end_of_end whole middle left f g = (f.0 ++ g.0, f.1 ∙ ap (λ (ms : List Micro). f.0 ++ ms) g.1 ∙ sym (append_assoc f.0 g.0 left))

-- parts of lists
pub part_itself : (ms : List Micro) → IsPart ms ms
part_itself [] = nothing_left
part_itself (m ∷ ms) = keeps m (part_itself ms)

pub part_none : (whole : List Micro) → IsPart whole []
part_none [] = nothing_left
part_none (m ∷ ms) = drops m (part_none ms)

pub part_of_part : {whole middle left : List Micro} → IsPart whole middle → IsPart middle left → IsPart whole left
part_of_part nothing_left g = g
part_of_part (drops m f) g = drops m (part_of_part f g)
part_of_part (keeps m f) (keeps n g) = keeps m (part_of_part f g)
part_of_part (keeps m f) (drops n g) = drops m (part_of_part f g)

part_behind : (front left : List Micro) → IsPart (front ++ left) left
part_behind [] left = part_itself left
part_behind (m ∷ front) left = drops m (part_behind front left)

end_is_part : (whole left : List Micro) → IsEnd whole left → IsPart whole left
end_is_part whole left f = subst (λ (ms : List Micro). IsPart ms left) (sym f.1) (part_behind f.0 left)

-- a test that no step of a list passes no step of a part passes
pub none_part : (p : Micro → Bool) {whole left : List Micro} → IsPart whole left → list_any p whole ≡ false → list_any p left ≡ false
none_part p nothing_left none = refl
none_part p (keeps {whole = whole} {left = left} m f) none =
    ap (λ (b : Bool). b || list_any p left) (none_front p m whole none) ∙ none_part p f (none_rest p m whole none)
none_part p (drops {whole = whole} m f) none = none_part p f (none_rest p m whole none)

part_lets : (ms : List Micro) → IsPart ms (behind_lets ms)
part_lets [] = nothing_left
part_lets (m ∷ ms) = either (lets_go m) (part_lets ms) where
  either : (b : Bool) → IsPart ms (behind_lets ms) → IsPart (m ∷ ms) (cond b (behind_lets ms) (m ∷ ms))
  either true f = drops m f
  either false f = part_itself (m ∷ ms)

part_alone : (ms : List Micro) → IsPart ms (first_alone ms)
part_alone [] = nothing_left
part_alone (m ∷ ms) = keeps m (part_lets ms)

from_is_part : (test : Micro → Bool) (whole left : List Micro) → IsFrom test whole left → IsPart whole left
from_is_part test whole left f = end_is_part whole left (f.front, f.parts)

behind_is_part : (test : Micro → Bool) (whole left : List Micro) → (IsBehind test whole left ⊎ ((list_any test whole ≡ false) × (left ≡ []))) → IsPart whole left
behind_is_part test whole left (inl f) = end_is_part whole left (f.front ++ f.passed ∷ [], f.parts ∙ sym (append_assoc f.front (f.passed ∷ []) left))
behind_is_part test whole left (inr f) = subst (λ (ms : List Micro). IsPart whole ms) (sym f.1) (part_none whole)

probe_cut_is_part : (b : Bool) (whole left : List Micro) → IsProbeCut b whole left → IsPart whole left
probe_cut_is_part true whole left f = from_is_part is_end whole left f
probe_cut_is_part false whole left f = behind_is_part is_settle whole left f

visit_cut_is_part : (whole left : List Micro) → IsVisitCut whole left → IsPart whole left
visit_cut_is_part whole left f = part_of_part (from_is_part is_visit whole f.0 f.1) (subst (λ (ms : List Micro). IsPart f.0 ms) (sym f.2) (part_alone f.0))

-- what a timeout leaves is a part
pub cut_is_part : (what : Sleeping) (whole left : List Micro) → IsCut what whole left → IsPart whole left
cut_is_part (call.Prepare h) whole left f = from_is_part is_end whole left f
cut_is_part (call.SetParent h p) whole left f = from_is_part is_end whole left f
cut_is_part (call.Probe c) whole left f = probe_cut_is_part (list_any is_register whole) whole left f
cut_is_part (call.SetRate h x) whole left f = visit_cut_is_part whole left f
cut_is_part (call.SetRateExclusive h x) whole left f = visit_cut_is_part whole left f
cut_is_part (call.SetRange h least most) whole left f = visit_cut_is_part whole left f
cut_is_part call.Sweep whole left f = part_of_part (behind_is_part is_close whole f.0 f.1) (subst (λ (ms : List Micro). IsPart f.0 ms) (sym f.2) (part_lets f.0))
cut_is_part _ whole left f = absurd f

-- what is left of a script is a part of it
pub left_is_part : (what : Sleeping) (whole : List Micro) {made : List Micro} {late : Bool} {left : List Micro} → IsLeftOf what whole made late left → IsPart whole left
left_is_part what whole all_left = part_itself whole
left_is_part what whole {left = left} (own_made m f) = part_of_part (left_is_part what whole f) (drops m (part_itself left))
left_is_part what whole (put_made m put f) = left_is_part what whole f
left_is_part what whole {left = left} (cut {left = more} f c) = part_of_part (left_is_part what whole f) (cut_is_part what more left c)

-- and while no poll has timed out it is an end of it
pub left_is_end : (what : Sleeping) (whole : List Micro) {made : List Micro} {late : Bool} {left : List Micro} → IsLeftOf what whole made late left → late ≡ false → IsEnd whole left
left_is_end what whole all_left e = ([], refl)
left_is_end what whole {left = left} (own_made m f) e = end_of_end whole (m ∷ left) left (left_is_end what whole f e) (m ∷ [], refl)
left_is_end what whole (put_made m put f) e = left_is_end what whole f e
left_is_end what whole (cut f c) e = absurd cc

-- ---- events

-- a step that is defined: the change that takes it, and what it leaves
pub record IsStep (s t : State) (d : ℕ) (m : Micro) (answer : Option Bool) (x : Turn) (k : Change) : Type 0 where
  pub at : s.change ≡ Some k
  pub driver : k.driver ≡ d
  pub first : comes_next m (todo k) ≡ true
  pub state : record (settled s (stepped s (taken k) answer m).0) { steps = s.steps + 1 } ≡ t
  pub answered : (stepped s (taken k) answer m).1 ≡ x

by_change : (f : Change → Option (State × Turn)) (o : Option Change) (x : State × Turn) → option_and_then f o ≡ Some x → (k : Change) × (o ≡ Some k) × (f k ≡ Some x)
by_change f None x e = absurd cc
by_change f (Some k) x e = (k, refl, e)

defined_where : (b : Bool) (x y : State × Turn) → cond b (Some x) None ≡ Some y → (b ≡ true) × (Some x ≡ Some y)
defined_where true x y e = (refl, e)
defined_where false x y e = absurd cc

pub step_is : (s t : State) (d : ℕ) (m : Micro) (answer : Option Bool) (x : Turn) → next s d (event.Step m answer) ≡ Some (t, x) → (k : Change) × IsStep s t d m answer x k
unfolding next
step_is s t d m answer x step =
    let at = by_change (λ k. cond (may_step d m answer k) (Some (counted s (stepped s (taken k) answer m))) None) s.change (t, x) step in
    let k : Change = at.0 in
    let here = defined_where (may_step d m answer k) (counted s (stepped s (taken k) answer m)) (t, x) at.2 in
    let mine = both_left (nat_eq k.driver d && comes_next m (todo k)) _ here.0 in (
      k,
      record {
        at = at.1;
        driver = same_from_test k.driver d (both_left (nat_eq k.driver d) (comes_next m (todo k)) mine);
        first = both_right (nat_eq k.driver d) (comes_next m (todo k)) mine;
        state = state_is s (counted s (stepped s (taken k) answer m)) (t, x) here.1;
        answered = turn_is (counted s (stepped s (taken k) answer m)) (t, x) here.1;
      },
    )

-- a call begins where no change is in flight
pub begin_is : (q s : State) (d : ℕ) (what : Sleeping) (x : Turn) → next q d (event.Begin what) ≡ Some (s, x)
    → (q.change ≡ None) × (record (settled q (begun q d what).0) { spent = q.spent + 1 } ≡ s) × ((begun q d what).1 ≡ x)
unfolding next
begin_is q s d what x step =
    let at = quiet_where q.change (paid q (begun q d what)) (s, x) step in
    let left = paid_is q s (begun q d what) x at.1 in
    (at.0, left.0, left.1) where
      quiet_where : (o : Option Change) (y : Option (State × Turn)) (z : State × Turn) → cond (is_quiet o) y None ≡ Some z → (o ≡ None) × (y ≡ Some z)
      quiet_where None y z e = (refl, e)
      quiet_where (Some k) y z e = absurd cc

-- ---- a flight

-- a change in flight: whose it is, what is left of its script, and whether it is vetoed
pub record IsCourse (q : State) (d : ℕ) (what : Sleeping) (s : State) (made : List Micro) : Type 0 where
  pub now : Change
  pub at : s.change ≡ Some now
  pub driver : now.driver ≡ d
  pub call : now.call ≡ what
  pub chain : now.chain ≡ plan q d what
  pub left : IsLeftOf what (script q d what) made now.timed_out now.left
  -- a call that may not raise has no raise and no poll to come
  pub calm : may_raise what ≡ false → (list_any raises now.front ≡ false) × (list_any raises now.left ≡ false)
  pub vetoed : now.vetoed ≡ list_any is_veto (script q d what)
  pub front : IsFront now
  -- no visit is missed while no poll has timed out
  pub on_time : now.timed_out ≡ false → now.missed ≡ None
  -- without a veto in the script no step is one
  pub unvetoed : list_any is_veto (script q d what) ≡ false → (list_any is_veto made ≡ false) × (list_any is_veto now.front ≡ false)

-- the change after its beginning
course_begins : (q s : State) (d : ℕ) (what : Sleeping) → next q d (event.Begin what) ≡ Some (s, turn.Going) → IsCourse q d what s []
unfolding settled
course_begins q s d what step =
    let start = begin_is q s d what turn.Going step in
    let going = (begun_going q d what).from start.2 in
    let k : Change = going.1 in
    let h : IsBegun q d what going.0 k = going.3 in
    let changed : (begun q d what).0.change ≡ Some k = ap (λ (u : State). u.change) going.2 in
    let own : script q d what ≡ k.left = ap (λ (o : Option Change). option_map_or (λ j. j.left) o []) changed in
    record {
      now = k;
      at = sym (ap (λ (u : State). u.change) start.1) ∙ changed;
      driver = h.driver;
      call = h.call;
      chain = sym (ap (λ (o : Option Change). option_map_or (λ j. j.chain) o []) changed);
      left = subst (λ (b : Bool). IsLeftOf what (script q d what) [] b k.left) (sym h.on_time) (subst (λ (ms : List Micro). IsLeftOf what (script q d what) [] false ms) own all_left);
      calm = λ e. (ap (λ (ms : List Micro). list_any raises ms) h.front, h.calm e);
      front = nothing h.front;
      on_time = λ e. h.planned;
      vetoed = h.vetoed ∙ ap (λ (ms : List Micro). list_any is_veto ms) (sym own);
      unvetoed = λ e. (refl, ap (λ (ms : List Micro). list_any is_veto ms) h.front);
    }

-- an event of the enable tier leaves the change
course_beside : (q s t : State) (d other : ℕ) (what : Sleeping) (made : List Micro) (e : Event) (x : Turn) → is_enable_tier e ≡ true → IsCourse q d what s made
    → next s other e ≡ Some (t, x) → IsCourse q d what t made
course_beside q s t d other what made e x tier course step = record {
  now = course.now;
  at = beside_change s t other e x tier step ∙ course.at;
  driver = course.driver;
  call = course.call;
  chain = course.chain;
  left = course.left;
  calm = course.calm;
  vetoed = course.vetoed;
  front = course.front;
  on_time = course.on_time;
  unvetoed = course.unvetoed;
}

-- ---- a step

-- whether a step that stands in front may have been put there
abbrev pub first_put : List Micro → Bool
first_put [] = true
first_put (m ∷ ms) = may_be_put m

abort_put : (m : Micro) → is_no_abort m ≡ false → may_be_put m ≡ true
abort_put (micro.Notify notice.Abort c id old new) e = refl
abort_put (micro.Notify notice.Post c id old new) e = refl
abort_put (micro.Notify (notice.Pre veto) c id old new) e = absurd cc
abort_put _ e = absurd cc

post_put : (m : Micro) → is_no_post m ≡ false → may_be_put m ≡ true
post_put (micro.Notify notice.Post c id old new) e = refl
post_put (micro.Notify notice.Abort c id old new) e = refl
post_put (micro.Notify (notice.Pre veto) c id old new) e = absurd cc
post_put _ e = absurd cc

falls_put : (raised : List ℕ) (aborts : List Micro) → list_any is_no_abort aborts ≡ false → first_put (map (λ y. micro.Fall (clock_id y)) raised ++ aborts) ≡ true
falls_put [] [] only = refl
falls_put [] (m ∷ ms) only = abort_put m (none_front is_no_abort m ms only)
falls_put (y ∷ raised) aborts only = refl

posts_put : (ms : List Micro) → list_any is_no_post ms ≡ false → first_put ms ≡ true
posts_put [] only = refl
posts_put (m ∷ ms) only = post_put m (none_front is_no_post m ms only)

pub front_put : (k : Change) → IsFront k → first_put k.front ≡ true
front_put k (nothing is) = ap first_put is
front_put k (polling y some is) = ap first_put is
front_put k (polling_first y x some is) = ap first_put is
front_put k (raise_again x is) = ap first_put is
front_put k (lower_again x is) = ap first_put is
front_put k (falling aborts late only is) = ap first_put is ∙ falls_put k.raised aborts only
front_put k (telling only) = posts_put k.front only

pub next_is : (m n : Micro) (ns : List Micro) → comes_next m (n ∷ ns) ≡ true → n ≡ m
next_is m n ns e = ap (λ (ms : List Micro). head_or n ms) (comes_first m (n ∷ ns) e).1 where
  head_or : Micro → List Micro → Micro
  head_or n [] = n
  head_or n (x ∷ xs) = x

-- a change without its first step, which is made
taken_left : (what : Sleeping) (whole made : List Micro) (late : Bool) (front left : List Micro) (m : Micro) → comes_next m (front ++ left) ≡ true → first_put front ≡ true
    → IsLeftOf what whole made late left → IsLeftOf what whole (made ++ m ∷ []) late (left_behind front left)
taken_left what whole made late [] [] m e put h = absurd cc
taken_left what whole made late [] (n ∷ ns) m e put h =
    subst (λ (x : Micro). IsLeftOf what whole (made ++ x ∷ []) late ns) (next_is m n ns e) (own_made n h)
taken_left what whole made late (n ∷ ns) left m e put h =
    subst (λ (x : Micro). IsLeftOf what whole (made ++ x ∷ []) late left) (next_is m n (ns ++ left) e) (put_made n put h)

pub taken_none : (p : Micro → Bool) (front left : List Micro) → list_any p front ≡ false → list_any p left ≡ false
    → (list_any p (rest_of front) ≡ false) × (list_any p (left_behind front left) ≡ false)
taken_none p [] [] e f = (refl, refl)
taken_none p [] (n ∷ ns) e f = (refl, none_rest p n ns f)
taken_none p (n ∷ ns) left e f = (none_rest p n ns e, f)

-- a step that comes next is none, where none of the steps to come is
pub first_none : (p : Micro → Bool) (m : Micro) (ms : List Micro) → comes_next m ms ≡ true → list_any p ms ≡ false → p m ≡ false
first_none p m ms e none =
    let first = comes_first m ms e in
    none_front p m first.0 (ap (λ (ns : List Micro). list_any p ns) (sym first.1) ∙ none)

-- what is left behind a step
after_left : (what : Sleeping) (whole made : List Micro) (m : Micro) (k k' : Change) → k.call ≡ what → (raises m ≡ true → may_raise what ≡ true)
    → IsAfter m k k' → IsLeftOf what whole made k.timed_out k.left → IsLeftOf what whole made k'.timed_out k'.left
after_left what whole made m k k' call_is raising after h =
    elim after.left [
      | inl same ↦ subst (λ (b : Bool). IsLeftOf what whole made b k'.left) (sym same.1) (subst (λ (ms : List Micro). IsLeftOf what whole made k.timed_out ms) (sym same.0) h)
      | inr late ↦ subst (λ (b : Bool). IsLeftOf what whole made b k'.left) (sym late.2)
          (subst (λ (ms : List Micro). IsLeftOf what whole made true ms) (sym (late.1 ∙ ap (λ (c : Sleeping). cut_short c k.left) call_is))
          (cut h (cut_is what k.left (raising late.0))))
    ]

raising_may : (q s : State) (d : ℕ) (what : Sleeping) (made : List Micro) (m : Micro) → (course : IsCourse q d what s made)
    → comes_next m (todo course.now) ≡ true → raises m ≡ true → may_raise what ≡ true
raising_may q s d what made m course first raising =
    elim (may_raise what) as (λ b. may_raise what ≡ b → b ≡ true) [
      | true ↦ λ e. refl
      | false ↦ λ e.
          let calm = course.calm e in
          let none : raises m ≡ false = first_none raises m (todo course.now) first (none_append raises course.now.front course.now.left calm.0 calm.1) in
          let no : true ≡ false = sym raising ∙ none in absurd cc
    ] refl

-- a veto in what is left of a script is one in the script
left_unvetoed : (what : Sleeping) (whole made : List Micro) (late : Bool) (left : List Micro) → IsLeftOf what whole made late left → list_any is_veto whole ≡ false → list_any is_veto left ≡ false
left_unvetoed what whole made late left h none =
    none_part is_veto (left_is_part what whole h) none

-- the change after a step, where k is the one that takes it
course_steps_on : (q s t : State) (d : ℕ) (what : Sleeping) (made : List Micro) (m : Micro) (answer : Option Bool) → (course : IsCourse q d what s made)
    → IsStep s t d m answer turn.Going course.now → IsCourse q d what t (made ++ m ∷ [])
unfolding settled
course_steps_on q s t d what made m answer course step =
    let k : Change = course.now in
    let after = step_after s (taken k) answer m step.answered in
    let k' : Change = after.0 in
    let is : IsAfter m (taken k) k' = after.2 in
    record {
      now = k';
      at = sym (ap (λ (u : State). u.change) step.state) ∙ after.1;
      driver = is.driver ∙ course.driver;
      call = is.call ∙ course.call;
      chain = is.chain ∙ course.chain;
      left = after_left what (script q d what) (made ++ m ∷ []) m (taken k) k' course.call (raising_may q s d what made m course step.first) is
          (taken_left what (script q d what) made k.timed_out k.front k.left m step.first (front_put k course.front) course.left);
      calm = λ e. still_calm e (course.calm e);
      vetoed = is.vetoed ∙ course.vetoed;
      front = front_after s k k' answer m course.front step.first step.answered after.1;
      on_time = λ e. elim is.left [
        | inl same ↦ same.2 ∙ course.on_time (sym same.1 ∙ e)
        | inr late ↦ let no : true ≡ false = sym late.2 ∙ e in absurd cc
      ];
      unvetoed = λ none.
          let before = course.unvetoed none in
          let coming : list_any is_veto k.left ≡ false = left_unvetoed what (script q d what) made k.timed_out k.left course.left none in (
            none_append is_veto made (m ∷ []) before.0
                (ap (λ (b : Bool). b || false) (first_none is_veto m (todo k) step.first (none_append is_veto k.front k.left before.1 coming))),
            is.unvetoed (taken_none is_veto k.front k.left before.1 coming).0,
          );
    } where
      still_calm : may_raise what ≡ false → (list_any raises course.now.front ≡ false) × (list_any raises course.now.left ≡ false)
          → (list_any raises (step_after s (taken course.now) answer m step.answered).0.front ≡ false)
          × (list_any raises (step_after s (taken course.now) answer m step.answered).0.left ≡ false)
      still_calm e calm =
          let k : Change = course.now in
          let after = step_after s (taken k) answer m step.answered in
          let k' : Change = after.0 in
          let is : IsAfter m (taken k) k' = after.2 in
          let gentle : raises m ≡ false = first_none raises m (todo k) step.first (none_append raises k.front k.left calm.0 calm.1) in
          let rest = taken_none raises k.front k.left calm.0 calm.1 in (
            is.calm gentle rest.0,
            elim is.left [
              | inl same ↦ ap (λ (ms : List Micro). list_any raises ms) same.0 ∙ rest.1
              | inr late ↦ let no : true ≡ false = sym late.0 ∙ gentle in absurd cc
            ],
          )

course_steps : (q s t : State) (d : ℕ) (what : Sleeping) (made : List Micro) (m : Micro) (answer : Option Bool) → IsCourse q d what s made
    → next s d (event.Step m answer) ≡ Some (t, turn.Going) → IsCourse q d what t (made ++ m ∷ [])
course_steps q s t d what made m answer course step =
    let is = step_is s t d m answer turn.Going step in
    let same : is.0 ≡ course.now = same_Some is.0 course.now (sym is.1.at ∙ course.at) in
    course_steps_on q s t d what made m answer course (subst (λ (k : Change). IsStep s t d m answer turn.Going k) same is.1)

-- a change in flight has its course
pub course_of : (q : State) (d : ℕ) (what : Sleeping) {s : State} {made : List Micro} → Flight q d what s made → IsCourse q d what s made
course_of q d what {s = s} (begins step) = course_begins q s d what step
course_of q d what {s = t} (goes_on {s = s} {made = made} m answer flight step) = course_steps q s t d what made m answer (course_of q d what flight) step
course_of q d what {s = t} {made = made} (beside {s = s} {x = x} other e tier flight step) = course_beside q s t d other what made e x tier (course_of q d what flight) step

-- what is left of a script
pub script_left : (q s : State) (d : ℕ) (what : Sleeping) (made : List Micro) → Flight q d what s made → IsUnderWay q d what s made
script_left q s d what made flight =
    let course = course_of q d what flight in
    record {
      now = course.now;
      at = course.at;
      driver = course.driver;
      call = course.call;
      left = course.left;
      suffix = λ e. left_is_end what (script q d what) course.left e;
      part = left_is_part what (script q d what) course.left;
      front = course.front;
    }
