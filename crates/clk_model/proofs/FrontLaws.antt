-- Laws on what stands in front of a script: polls, raises and lowers that come again, falls, and notices.
use Rattle.std.proofs.Common.{◌≡◌, ℕ, ◌-◌, ◌<◌, Bool, true, false, cond, List, [], ◌∷◌, ◌++◌, Option, Some, None, refl, sym, ap, subst, ◌∙◌, map, arith}
use Rattle.std.specs.Prelude.{slice_get, slice_index, reverse, length, nat_le, ◌==◌}
use Rattle.std.specs.List.{list_any}
use Rattle.std.proofs.lemmas.Bool.Decides.{nat_tests}
use Rattle.clk_base.specs.declared.clock.ClockId.{ClockId}
use Rattle.clk_base.specs.declared.call.Micro.{Micro}
use Rattle.clk_base.specs.declared.call.Micro.TheVariants as micro
use Rattle.clk_base.specs.declared.call.Notice.TheVariants as notice
use Rattle.clk_base.specs.declared.event.Turn.TheVariants as turn
use Rattle.clk_model.specs.Lists.{without_one}
use Rattle.clk_model.specs.State.{State, Change}
use Rattle.clk_model.specs.Chain.{clock_id}
use Rattle.clk_model.specs.Rate.{rate}
use Rattle.clk_model.specs.Notices.{Rates, notifiers_of, abort_list, post_list}
use Rattle.clk_model.specs.Step.{todo, rest_of, taken, sets_parent, aborts_of, on, timed_out, to_raise, raise_one, raise, poll, is_yes, to_lower, lower_one, lower, set_in_chain, visit, stepped}
use Rattle.clk_model.specs.Machine.{comes_next}
use Rattle.clk_model.specs.Laws.Flight.{is_no_abort, is_no_post, IsFront, nothing, polling, polling_first, raise_again, lower_again, falling, telling}
use Rattle.clk_model.proofs.Members.{test_same}
use Rattle.clk_model.proofs.NoneLaws.{none_append, none_map, none_flat_map, none_if, none_front, none_rest}
use Rattle.clk_model.proofs.MicroLaws.{comes_first}
use Rattle.clk_model.proofs.Cases.{by_option}

-- the same of the change that a state has
abbrev FrontOf : Option Change → Type 0
FrontOf None = ⊥
FrontOf (Some k) = IsFront k

-- ---- where nothing stands in front

raised_from_nothing : (s : State) (k : Change) (x : ℕ) → k.front ≡ [] → FrontOf (raise s k x).change
raised_from_nothing s k x empty =
    by_option (λ u. FrontOf u.change) (slice_get (reverse (to_raise s k x)) 0) (raise_one s k x) (on s (record k { again = 0 })) (nothing empty)
    (λ y. one y (nat_le 2 (length (to_raise s k x))) refl) where
      one : (y : ℕ) (b : Bool) → nat_le 2 (length (to_raise s k x)) ≡ b → FrontOf (raise_one s k x y).change
      one y true e = polling_first (clock_id y) (clock_id x) (omega arith)
          (ap (λ (t : Bool). micro.Poll (clock_id y) ∷ (cond t (micro.Raise (clock_id x) ∷ []) []) ++ k.front) e ∙ ap (λ (ms : List Micro). micro.Poll (clock_id y) ∷ micro.Raise (clock_id x) ∷ ms) empty)
      one y false e = polling (clock_id y) (omega arith)
          (ap (λ (t : Bool). micro.Poll (clock_id y) ∷ (cond t (micro.Raise (clock_id x) ∷ []) []) ++ k.front) e ∙ ap (λ (ms : List Micro). micro.Poll (clock_id y) ∷ ms) empty)

lowered_from_nothing : (s : State) (k : Change) (x : ℕ) → k.front ≡ [] → FrontOf (lower s k x).change
lowered_from_nothing s k x empty =
    by_option (λ u. FrontOf u.change) (slice_get (to_lower s x) 0) (lower_one s k x) (on s (record k { again = 0 })) (nothing empty)
    (λ y. one y (nat_le 2 (length (to_lower s x))) refl) where
      one : (y : ℕ) (b : Bool) → nat_le 2 (length (to_lower s x)) ≡ b → FrontOf (lower_one s k x y).change
      one y true e = lower_again (clock_id x)
          (ap (λ (t : Bool). (cond t (micro.Lower (clock_id x) ∷ []) []) ++ k.front) e ∙ ap (λ (ms : List Micro). micro.Lower (clock_id x) ∷ ms) empty)
      one y false e = nothing (ap (λ (t : Bool). (cond t (micro.Lower (clock_id x) ∷ []) []) ++ k.front) e ∙ empty)

visited_from_nothing : (s : State) (k : Change) (c : ℕ) → k.front ≡ [] → FrontOf (visit s k c).change
visited_from_nothing s k c empty =
    let rates : Rates = record { before = k.before; outcome = k.outcome } in
    let same : Bool = rate s.defs (set_in_chain s k c) s.clocks c == slice_index k.before c in
    telling (none_append is_no_post (cond same [] (post_list rates s.notifiers c)) k.front
    (none_if is_no_post same [] (post_list rates s.notifiers c) refl
    (none_map is_no_post (λ n. micro.Notify notice.Post (clock_id c) n.id (slice_index rates.before c) (slice_index rates.outcome c)) (notifiers_of s.notifiers c) (λ n. refl)))
    (ap (λ (ms : List Micro). list_any is_no_post ms) empty))

-- a timeout puts the falls in front, and the notices that a change of parent is called off
timed_out_front : (s : State) (k : Change) → FrontOf (timed_out s k).change
timed_out_front s k =
    falling (aborts_of s k) refl
    (none_if is_no_abort (sets_parent k.call) (abort_list rates s.notifiers k.changing) []
    (none_flat_map is_no_abort _ k.changing (λ c. none_map is_no_abort (λ n. micro.Notify notice.Abort (clock_id c) n.id (slice_index rates.before c) (slice_index rates.outcome c)) (notifiers_of s.notifiers c) (λ n. refl))) refl)
    refl where
      rates : Rates
      rates = record { before = k.before; outcome = k.outcome }

more_left : (n : ℕ) → nat_le n 1 ≡ false → 0 < n - 1
more_left n e = grind (arith, nat_tests)

polled_from_nothing : (s : State) (k : Change) (y : ℕ) (b : Bool) → k.front ≡ [] → FrontOf (poll s k y b).change
polled_from_nothing s k y true empty = nothing empty
polled_from_nothing s k y false empty = asked (nat_le k.polls 1) refl where
  asked : (b : Bool) → nat_le k.polls 1 ≡ b → FrontOf (cond b (timed_out s (record k { polls = 0 })) (on s (record k { polls = k.polls - 1; front = micro.Poll (clock_id y) ∷ k.front }))).change
  asked true e = timed_out_front s (record k { polls = 0 })
  asked false e = polling (clock_id y) (more_left k.polls e) (ap (λ (ms : List Micro). micro.Poll (clock_id y) ∷ ms) empty)

polled_before_raise : (s : State) (k : Change) (y : ℕ) (x : ClockId) (b : Bool) → k.front ≡ micro.Raise x ∷ [] → FrontOf (poll s k y b).change
polled_before_raise s k y x true again = raise_again x again
polled_before_raise s k y x false again = asked (nat_le k.polls 1) refl where
  asked : (b : Bool) → nat_le k.polls 1 ≡ b → FrontOf (cond b (timed_out s (record k { polls = 0 })) (on s (record k { polls = k.polls - 1; front = micro.Poll (clock_id y) ∷ k.front }))).change
  asked true e = timed_out_front s (record k { polls = 0 })
  asked false e = polling_first (clock_id y) x (more_left k.polls e) (ap (λ (ms : List Micro). micro.Poll (clock_id y) ∷ ms) again)

-- a step where nothing stands in front
from_nothing : (s : State) (k : Change) (answer : Option Bool) (m : Micro) → k.front ≡ [] → (stepped s k answer m).1 ≡ turn.Going → FrontOf (stepped s k answer m).0.change
unfolding stepped
from_nothing s k answer (micro.Raise x) empty going = raised_from_nothing s k x.0 empty
from_nothing s k answer (micro.Poll y) empty going = polled_from_nothing s k y.0 (is_yes answer) empty
from_nothing s k answer (micro.Lower x) empty going = lowered_from_nothing s k x.0 empty
from_nothing s k answer (micro.Visit c) empty going = visited_from_nothing s k c.0 empty
from_nothing s k answer micro.End empty going = absurd cc
from_nothing s k answer m empty going = nothing empty

-- ---- where something does

head_is : (m n : Micro) (front left : List Micro) → comes_next m (front ++ left) ≡ true → (rest : List Micro) → front ≡ n ∷ rest → m ≡ n
head_is m n front left first rest is =
    let at = comes_first m (front ++ left) first in
    ap (λ (ms : List Micro). head_or m ms) (sym at.1 ∙ ap (λ (ms : List Micro). ms ++ left) is) where
      head_or : Micro → List Micro → Micro
      head_or m [] = m
      head_or m (x ∷ xs) = x

step_changes : (s : State) (k : Change) (answer : Option Bool) (m n : Micro) → m ≡ n → FrontOf (stepped s k answer n).0.change → FrontOf (stepped s k answer m).0.change
step_changes s k answer m n is h = subst (λ (x : Micro). FrontOf (stepped s k answer x).0.change) (sym is) h

poll_before_raise : (s : State) (k : Change) (answer : Option Bool) (y x : ClockId) → k.front ≡ micro.Raise x ∷ [] → FrontOf (stepped s k answer (micro.Poll y)).0.change
unfolding stepped
poll_before_raise s k answer y x again = polled_before_raise s k y.0 x (is_yes answer) again

-- the falls go on
fall_front : (s : State) (k : Change) (answer : Option Bool) (y : ℕ) (raised : List ℕ) (aborts : List Micro) → k.timed_out ≡ true → list_any is_no_abort aborts ≡ false
    → k.raised ≡ y ∷ raised → k.front ≡ map (λ z. micro.Fall (clock_id z)) raised ++ aborts → FrontOf (stepped s k answer (micro.Fall (clock_id y))).0.change
unfolding stepped
fall_front s k answer y raised aborts late only list front =
    falling aborts late only
    (front ∙ ap (λ (zs : List ℕ). map (λ z. micro.Fall (clock_id z)) zs ++ aborts) (sym (ap (λ (zs : List ℕ). without_one y zs) list ∙ ap (λ (b : Bool). cond b raised (y ∷ without_one y raised)) (test_same y))))

abort_front : (s : State) (k : Change) (answer : Option Bool) (m : Micro) (aborts : List Micro) → is_no_abort m ≡ false → k.timed_out ≡ true → list_any is_no_abort aborts ≡ false
    → k.raised ≡ [] → k.front ≡ aborts → FrontOf (stepped s k answer m).0.change
unfolding stepped
abort_front s k answer (micro.Notify kind c id old new) aborts abort late only list front =
    falling aborts late only (front ∙ ap (λ (zs : List ℕ). map (λ z. micro.Fall (clock_id z)) zs ++ aborts) (sym list))
abort_front s k answer _ aborts abort late only list front = absurd cc

post_front : (s : State) (k : Change) (answer : Option Bool) (m : Micro) → is_no_post m ≡ false → list_any is_no_post k.front ≡ false → FrontOf (stepped s k answer m).0.change
unfolding stepped
post_front s k answer (micro.Notify kind c id old new) post only = telling only
post_front s k answer _ post only = absurd cc

-- the falls and the notices behind a timeout, one after the other
from_falls : (s : State) (k : Change) (answer : Option Bool) (m : Micro) (raised : List ℕ) (aborts : List Micro) → comes_next m (todo k) ≡ true → (stepped s (taken k) answer m).1 ≡ turn.Going
    → k.timed_out ≡ true → list_any is_no_abort aborts ≡ false → k.raised ≡ raised → k.front ≡ map (λ y. micro.Fall (clock_id y)) raised ++ aborts
    → FrontOf (stepped s (taken k) answer m).0.change
from_falls s k answer m [] [] first going late only list front = from_nothing s (taken k) answer m (ap (λ (ms : List Micro). rest_of ms) front) going
from_falls s k answer m [] (n ∷ aborts) first going late only list front =
    abort_front s (taken k) answer m aborts (ap is_no_abort (head_is m n k.front k.left first aborts front) ∙ none_front is_no_abort n aborts only) late (none_rest is_no_abort n aborts only) list
    (ap (λ (ms : List Micro). rest_of ms) front)
from_falls s k answer m (y ∷ raised) aborts first going late only list front =
    step_changes s (taken k) answer m (micro.Fall (clock_id y)) (head_is m (micro.Fall (clock_id y)) k.front k.left first (map (λ z. micro.Fall (clock_id z)) raised ++ aborts) front)
    (fall_front s (taken k) answer y raised aborts late only list (ap (λ (ms : List Micro). rest_of ms) front))

from_posts : (s : State) (k : Change) (answer : Option Bool) (m : Micro) (posts : List Micro) → comes_next m (todo k) ≡ true → (stepped s (taken k) answer m).1 ≡ turn.Going
    → k.front ≡ posts → list_any is_no_post posts ≡ false → FrontOf (stepped s (taken k) answer m).0.change
from_posts s k answer m [] first going is only = from_nothing s (taken k) answer m (ap (λ (ms : List Micro). rest_of ms) is) going
from_posts s k answer m (n ∷ posts) first going is only =
    post_front s (taken k) answer m (ap is_no_post (head_is m n k.front k.left first posts is) ∙ none_front is_no_post n posts only)
    (ap (λ (ms : List Micro). list_any is_no_post (rest_of ms)) is ∙ none_rest is_no_post n posts only)

-- what stands in front after a step
front_steps : (s : State) (k : Change) (answer : Option Bool) (m : Micro) → IsFront k → comes_next m (todo k) ≡ true → (stepped s (taken k) answer m).1 ≡ turn.Going
    → FrontOf (stepped s (taken k) answer m).0.change
front_steps s k answer m (nothing is) first going = from_nothing s (taken k) answer m (ap (λ (ms : List Micro). rest_of ms) is) going
front_steps s k answer m (polling y some is) first going = from_nothing s (taken k) answer m (ap (λ (ms : List Micro). rest_of ms) is) going
front_steps s k answer m (polling_first y x some is) first going =
    step_changes s (taken k) answer m (micro.Poll y) (head_is m (micro.Poll y) k.front k.left first (micro.Raise x ∷ []) is)
    (poll_before_raise s (taken k) answer y x (ap (λ (ms : List Micro). rest_of ms) is))
front_steps s k answer m (raise_again x is) first going = from_nothing s (taken k) answer m (ap (λ (ms : List Micro). rest_of ms) is) going
front_steps s k answer m (lower_again x is) first going = from_nothing s (taken k) answer m (ap (λ (ms : List Micro). rest_of ms) is) going
front_steps s k answer m (falling aborts late only is) first going = from_falls s k answer m k.raised aborts first going late only refl is
front_steps s k answer m (telling only) first going = from_posts s k answer m k.front first going refl only

-- the same, where the change after the step is known
pub front_after : (s : State) (k k' : Change) (answer : Option Bool) (m : Micro) → IsFront k → comes_next m (todo k) ≡ true → (stepped s (taken k) answer m).1 ≡ turn.Going
    → (stepped s (taken k) answer m).0.change ≡ Some k' → IsFront k'
front_after s k k' answer m front first going is = subst (λ (o : Option Change). FrontOf o) is (front_steps s k answer m front first going)
