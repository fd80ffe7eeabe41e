-- Laws on steps: what a defined step leaves, and that it lowers the weight that is left.
use Rattle.std.proofs.Common.{◌≡◌, ℕ, ◌+◌, ◌-◌, ◌<◌, ◌≤◌, Bool, true, false, ◌&&◌, ◌||◌, cond, List, [], ◌∷◌, ◌++◌, map, Option, Some, None, refl, sym, ap, subst, ◌∙◌, arith, length, append-nil}
use Rattle.std.specs.Prelude.{◌==◌, nat_le, slice_index, sum_by, if◌then◌else◌, option_and_then}
use Rattle.std.specs.List.{list_all, list_any}
use Rattle.std.specs.Option.{option_map_or}
use Rattle.std.proofs.lemmas.Bool.Decides.{nat_tests}
use Rattle.std.proofs.lemmas.List.{length-map}
use Rattle.std.proofs.lemmas.List.Sums.{sum_by-cons, sum_by-append}
use Rattle.clk_base.specs.declared.call.Micro.{Micro}
use Rattle.clk_base.specs.declared.call.Micro.TheVariants as micro
use Rattle.clk_base.specs.declared.call.Notice.{Notice}
use Rattle.clk_base.specs.declared.clock.ClockId.{ClockId}
use Rattle.clk_base.specs.declared.event.Event.TheVariants as event
use Rattle.clk_base.specs.declared.event.Turn.{Turn}
use Rattle.clk_base.proofs.Valid.{lines_end}
use Rattle.reg_bank.specs.Registers.{Registers}
use Rattle.clk_model.specs.Lists.{is_in, without_one}
use Rattle.clk_model.specs.State.{State, Change}
use Rattle.clk_model.specs.Chain.{clock_id}
use Rattle.clk_model.specs.Tree.{path_to_be}
use Rattle.clk_model.specs.Rate.{rate}
use Rattle.clk_model.specs.Begin.{register}
use Rattle.clk_model.specs.Gates.{settled}
use Rattle.clk_model.specs.Notices.{Rates, notifiers_of, post_list}
use Rattle.clk_model.specs.Script.{plls, weight}
use Rattle.clk_model.specs.Step.{on, cut_short, aborts_of, timed_out, to_raise, to_lower, poll, fall, visit, set_in_chain, is_yes, todo, taken, stepped}
use Rattle.clk_model.specs.Machine.{comes_next, may_step, counted, next}
use Rattle.clk_model.specs.Laws.Weight.{front_weight, weight_left}
use Rattle.clk_model.specs.Laws.Paced.{left_of, winds_down, may_time_out, is_scripted, Front, tells, polls, polls_to_raise, raises, lowers, IsPaced, StepsLowerWeight}
use Rattle.clk_model.proofs.Members.{both_left, both_right}
use Rattle.clk_model.proofs.PllLaws.{to_raise_few, to_lower_few}
use Rattle.clk_model.proofs.MicroLaws.{same_micro}
use Rattle.clk_model.proofs.WeightLaws.{changed, weighs, notices_weigh, aborts_notices, posts_notices, falls_weigh, cut_short-le, plain_lowers, held_lowers, raise_lowers, lower_lowers}

-- ---- polls

-- the raise that may stand behind a poll
abbrev pub raise_again : Option ClockId → List Micro
raise_again None = []
raise_again (Some x) = micro.Raise x ∷ []

-- a timeout leaves no more than what stood behind the poll
pub timeout_lowers : (s : State) (k : Change) (front rest : List Micro) → 0 < k.polls → length (aborts_of s k) ≤ k.extra
    → left_of (timed_out s (record (changed k front rest) { polls = 0 })) < k.polls + (sum_by (weight s) rest + k.extra + length k.raised)
unfolding weight_left
timeout_lowers s k front rest some few =
    let late : Change = record k { timed_out = true; again = 0; extra = 0; polls = 0 } in
    let falls : List Micro = map (λ y. micro.Fall (clock_id y)) k.raised in
    let sum = sum_by-append (front_weight s late) falls (aborts_of s k) in
    let none = falls_weigh s late k.raised in
    let each = notices_weigh s late (aborts_of s k) (aborts_notices s k) in
    let cut = cut_short-le (weight s) k.call rest in
    let after = weighs s late (falls ++ aborts_of s k) (cut_short k.call rest) in
    omega arith

-- what stands behind a poll weighs
again_weighs : (s : State) (k : Change) (o : Option ClockId) (polls_ : ℕ) → sum_by (front_weight s (record k { polls = polls_ })) (raise_again o) ≡ sum_by (front_weight s k) (raise_again o)
again_weighs s k None p = refl
again_weighs s k (Some x) p = refl

pub poll_lowers : (s : State) (k : Change) (y : ℕ) (o : Option ClockId) (rest : List Micro) (b : Bool) → 0 < k.polls → length (aborts_of s k) ≤ k.extra
    → left_of (poll s (changed k (raise_again o) rest) y b) < k.polls + sum_by (front_weight s k) (raise_again o) + (sum_by (weight s) rest + k.extra + length k.raised)
unfolding weight_left
poll_lowers s k y o rest true some few =
    let same = again_weighs s k o 0 in
    let after = weighs s (record k { polls = 0 }) (raise_again o) rest in
    omega arith
poll_lowers s k y o rest false some few = by_last (nat_le k.polls 1) refl where
  by_last : (t : Bool) → nat_le k.polls 1 ≡ t
      → left_of (if t then timed_out s (record (changed k (raise_again o) rest) { polls = 0 })
      else on s (record (changed k (raise_again o) rest) { polls = k.polls - 1; front = micro.Poll (clock_id y) ∷ raise_again o }))
      < k.polls + sum_by (front_weight s k) (raise_again o) + (sum_by (weight s) rest + k.extra + length k.raised)
  by_last true e = let late = timeout_lowers s k (raise_again o) rest some few in omega arith
  by_last false e =
      let more : 1 < k.polls = grind (arith, nat_tests) in
      let same = again_weighs s k o (k.polls - 1) in
      let less : Change = record k { polls = k.polls - 1 } in
      let after = weighs s less (micro.Poll (clock_id y) ∷ raise_again o) rest in
      let sum = sum_by-cons (front_weight s less) (micro.Poll (clock_id y)) (raise_again o) in
      omega arith

-- ---- notices and falls in front

pub notice_lowers : (s : State) (k : Change) (m : Micro) (front left : List Micro) → front_weight s k m ≡ 1
    → weight_left s (changed k front left) < weight_left s (changed k (m ∷ front) left)
notice_lowers s k m front left one =
    let before = weighs s k (m ∷ front) left in
    let after = weighs s k front left in
    let sum = sum_by-cons (front_weight s k) m front in
    omega arith

length-without_one : (y : ℕ) (xs : List ℕ) → is_in y xs ≡ true → length (without_one y xs) + 1 ≡ length xs
length-without_one y [] m = absurd cc
length-without_one y (x ∷ xs) m = one (x == y) m (length-without_one y xs) where
  one : (t : Bool) → (t || is_in y xs) ≡ true → (is_in y xs ≡ true → length (without_one y xs) + 1 ≡ length xs)
      → length (if t then xs else x ∷ without_one y xs) + 1 ≡ length (x ∷ xs)
  one true n rest = omega arith
  one false n rest = let less = rest n in omega arith

pub fall_lowers : (s : State) (k : Change) (y : ClockId) (front left : List Micro) → is_in y.0 k.raised ≡ true
    → left_of (fall s (changed k front left) y.0) < weight_left s (changed k (micro.Fall y ∷ front) left)
unfolding weight_left
fall_lowers s k y front left there =
    let before = weighs s k (micro.Fall y ∷ front) left in
    let after = weighs s (record k { raised = without_one y.0 k.raised }) front left in
    let sum = sum_by-cons (front_weight s k) (micro.Fall y) front in
    let less = length-without_one y.0 k.raised there in
    omega arith

-- ---- visits

told_weighs : (s : State) (k : Change) (c : ClockId) (regs : Registers) (rest : List Micro) (t : Bool)
    → left_of (on (record s { regs = regs }) (record (changed k [] rest) { front = (if t then [] else post_list (record { before = k.before; outcome = k.outcome }) s.notifiers c.0) ++ [] }))
    < weight_left s (changed k [] (micro.Visit c ∷ rest))
unfolding weight_left
told_weighs s k c regs rest true =
    let before = weighs s k [] (micro.Visit c ∷ rest) in
    let after = weighs s k [] rest in
    let sum = sum_by-cons (weight s) (micro.Visit c) rest in
    omega arith
told_weighs s k c regs rest false =
    let rates : Rates = record { before = k.before; outcome = k.outcome } in
    let posts : List Micro = post_list rates s.notifiers c.0 in
    let before = weighs s k [] (micro.Visit c ∷ rest) in
    let after = weighs s k (posts ++ []) rest in
    let sum = sum_by-cons (weight s) (micro.Visit c) rest in
    let told = ap (λ (ms : List Micro). sum_by (front_weight s k) ms) (append-nil posts) in
    let each = notices_weigh s k posts (posts_notices rates s.notifiers c.0) in
    let many : length posts ≡ length (notifiers_of s.notifiers c.0) = length-map (notifiers_of s.notifiers c.0) _ in
    omega arith

pub visit_lowers : (s : State) (k : Change) (c : ClockId) (rest : List Micro) → left_of (visit s (changed k [] rest) c.0) < weight_left s (changed k [] (micro.Visit c ∷ rest))
visit_lowers s k c rest =
    told_weighs s k c (set_in_chain s k c.0) rest (rate s.defs (set_in_chain s k c.0) s.clocks c.0 == slice_index k.before c.0)

-- ---- each step of a script

-- what a step of a script has to lower
abbrev Lowers : State → Change → Option Bool → List Micro → Micro → Type 0
Lowers s k answer rest m = left_of (stepped s (changed k [] rest) answer m).0 < weight_left s (changed k [] (m ∷ rest))

notify_step : (s : State) (k : Change) (answer : Option Bool) (rest : List Micro) (kind : Notice) (c : ClockId) (id old new : ℕ) → Lowers s k answer rest (micro.Notify kind c id old new)
unfolding stepped weight_left
notify_step s k answer rest kind c id old new = plain_lowers s k (micro.Notify kind c id old new) rest (omega arith)

raise_step : (s : State) (k : Change) (answer : Option Bool) (rest : List Micro) (x : ClockId) → k.again ≡ 0 → length (to_raise s k x.0) ≤ plls s.defs → Lowers s k answer rest (micro.Raise x)
unfolding stepped
raise_step s k answer rest x first few =
    let low = raise_lowers s k x.0 rest (omega arith) in
    let before = weighs s k [] (micro.Raise x ∷ rest) in
    let sum = sum_by-cons (weight s) (micro.Raise x) rest in
    omega arith

lower_step : (s : State) (k : Change) (answer : Option Bool) (rest : List Micro) (x : ClockId) → k.again ≡ 0 → length (to_lower s x.0) ≤ plls s.defs → Lowers s k answer rest (micro.Lower x)
unfolding stepped
lower_step s k answer rest x first few =
    let low = lower_lowers s k x.0 rest (omega arith) in
    let before = weighs s k [] (micro.Lower x ∷ rest) in
    let sum = sum_by-cons (weight s) (micro.Lower x) rest in
    omega arith

end_step : (s : State) (k : Change) (answer : Option Bool) (rest : List Micro) → Lowers s k answer rest micro.End
unfolding stepped
end_step s k answer rest =
    let before = weighs s k [] (micro.End ∷ rest) in
    let sum = sum_by-cons (weight s) micro.End rest in
    omega arith

register_step : (s : State) (k : Change) (answer : Option Bool) (rest : List Micro) (c : ClockId) → Lowers s k answer rest (micro.Register c)
unfolding stepped weight_left register
register_step s k answer rest c = held_lowers s k (micro.Register c) rest (path_to_be s.defs s.regs s.clocks c.0) (omega arith)

script_step : (s : State) (k : Change) (answer : Option Bool) (rest : List Micro) (m : Micro) → is_scripted m ≡ true → k.again ≡ 0
    → ((x : ℕ) → length (to_raise s k x) ≤ plls s.defs) → ((x : ℕ) → length (to_lower s x) ≤ plls s.defs) → Lowers s k answer rest m
unfolding stepped weight_left
script_step s k answer rest (micro.Notify kind c id old new) is first up down = notify_step s k answer rest kind c id old new
script_step s k answer rest (micro.Raise x) is first up down = raise_step s k answer rest x first (up x.0)
script_step s k answer rest (micro.Poll y) is first up down = absurd cc
script_step s k answer rest (micro.Fall y) is first up down = absurd cc
script_step s k answer rest (micro.HoldPrepare x) is first up down = held_lowers s k (micro.HoldPrepare x) rest _ (omega arith)
script_step s k answer rest (micro.HoldEnable x) is first up down = plain_lowers s k (micro.HoldEnable x) rest (omega arith)
script_step s k answer rest (micro.Relink c p) is first up down = plain_lowers s k (micro.Relink c p) rest (omega arith)
script_step s k answer rest (micro.WriteMux c place) is first up down = plain_lowers s k (micro.WriteMux c place) rest (omega arith)
script_step s k answer rest (micro.DropEnable x) is first up down = plain_lowers s k (micro.DropEnable x) rest (omega arith)
script_step s k answer rest (micro.DropPrepare x) is first up down = plain_lowers s k (micro.DropPrepare x) rest (omega arith)
script_step s k answer rest (micro.Lower x) is first up down = lower_step s k answer rest x first (down x.0)
script_step s k answer rest (micro.Visit c) is first up down = visit_lowers s k c rest
script_step s k answer rest (micro.Register c) is first up down = register_step s k answer rest c
script_step s k answer rest (micro.Settle c) is first up down = plain_lowers s k (micro.Settle c) rest (omega arith)
script_step s k answer rest (micro.Close c) is first up down = plain_lowers s k (micro.Close c) rest (omega arith)
script_step s k answer rest (micro.Unpower c) is first up down = plain_lowers s k (micro.Unpower c) rest (omega arith)
script_step s k answer rest micro.End is first up down = end_step s k answer rest

-- ---- each step in front of a script

-- the first of these steps lowers the weight
abbrev FirstLowers : State → Change → Option Bool → List Micro → List Micro → Micro → Type 0
FirstLowers s k answer front left m =
    comes_next m (front ++ left) ≡ true → left_of (stepped s (taken (changed k front left)) answer m).0 < weight_left s (changed k front left)

poll_first : (s : State) (k : Change) (answer : Option Bool) (y : ClockId) (o : Option ClockId) (left : List Micro) (m : Micro) → 0 < k.polls → length (aborts_of s k) ≤ k.extra
    → FirstLowers s k answer (micro.Poll y ∷ raise_again o) left m
unfolding stepped
poll_first s k answer y o left m some few comes =
    let low = poll_lowers s k y.0 o left (is_yes answer) some few in
    let before = weighs s k (micro.Poll y ∷ raise_again o) left in
    let sum = sum_by-cons (front_weight s k) (micro.Poll y) (raise_again o) in
    subst (λ (n : Micro). left_of (stepped s (changed k (raise_again o) left) answer n).0 < weight_left s (changed k (micro.Poll y ∷ raise_again o) left))
    (sym (same_micro m (micro.Poll y) comes)) (omega arith)

raise_first : (s : State) (k : Change) (answer : Option Bool) (x : ClockId) (left : List Micro) (m : Micro) → k.again + length (to_raise s k x.0) ≤ plls s.defs
    → FirstLowers s k answer (micro.Raise x ∷ []) left m
unfolding stepped
raise_first s k answer x left m few comes =
    let low = raise_lowers s k x.0 left few in
    let before = weighs s k (micro.Raise x ∷ []) left in
    subst (λ (n : Micro). left_of (stepped s (changed k [] left) answer n).0 < weight_left s (changed k (micro.Raise x ∷ []) left))
    (sym (same_micro m (micro.Raise x) comes)) (omega arith)

lower_first : (s : State) (k : Change) (answer : Option Bool) (x : ClockId) (left : List Micro) (m : Micro) → k.again + length (to_lower s x.0) ≤ plls s.defs
    → FirstLowers s k answer (micro.Lower x ∷ []) left m
unfolding stepped
lower_first s k answer x left m few comes =
    let low = lower_lowers s k x.0 left few in
    let before = weighs s k (micro.Lower x ∷ []) left in
    subst (λ (n : Micro). left_of (stepped s (changed k [] left) answer n).0 < weight_left s (changed k (micro.Lower x ∷ []) left))
    (sym (same_micro m (micro.Lower x) comes)) (omega arith)

-- a notice or a fall
told_first : (s : State) (k : Change) (answer : Option Bool) (n : Micro) (front left : List Micro) → winds_down (n ∷ front) k.raised ≡ true
    → left_of (stepped s (changed k front left) answer n).0 < weight_left s (changed k (n ∷ front) left)
unfolding stepped weight_left
told_first s k answer (micro.Notify kind c id old new) front left told = notice_lowers s k (micro.Notify kind c id old new) front left refl
told_first s k answer (micro.Fall y) front left told = fall_lowers s k y front left (both_left (is_in y.0 k.raised) (winds_down front (without_one y.0 k.raised)) told)
told_first s k answer (micro.Raise x) front left told = absurd cc
told_first s k answer (micro.Poll y) front left told = absurd cc
told_first s k answer (micro.HoldPrepare x) front left told = absurd cc
told_first s k answer (micro.HoldEnable x) front left told = absurd cc
told_first s k answer (micro.Relink c p) front left told = absurd cc
told_first s k answer (micro.WriteMux c place) front left told = absurd cc
told_first s k answer (micro.DropEnable x) front left told = absurd cc
told_first s k answer (micro.DropPrepare x) front left told = absurd cc
told_first s k answer (micro.Lower x) front left told = absurd cc
told_first s k answer (micro.Visit c) front left told = absurd cc
told_first s k answer (micro.Register c) front left told = absurd cc
told_first s k answer (micro.Settle c) front left told = absurd cc
told_first s k answer (micro.Close c) front left told = absurd cc
told_first s k answer (micro.Unpower c) front left told = absurd cc
told_first s k answer micro.End front left told = absurd cc

tells_first : (s : State) (k : Change) (answer : Option Bool) (front left : List Micro) (m : Micro) → winds_down front k.raised ≡ true → k.again ≡ 0
    → list_all is_scripted left ≡ true → ((x : ℕ) → length (to_raise s k x) ≤ plls s.defs) → ((x : ℕ) → length (to_lower s x) ≤ plls s.defs)
    → FirstLowers s k answer front left m
tells_first s k answer [] [] m told first script up down comes = absurd cc
tells_first s k answer [] (n ∷ rest) m told first script up down comes =
    subst (λ (l : Micro). left_of (stepped s (changed k [] rest) answer l).0 < weight_left s (changed k [] (n ∷ rest)))
    (sym (same_micro m n comes)) (script_step s k answer rest n (both_left (is_scripted n) (list_all is_scripted rest) script) first up down)
tells_first s k answer (n ∷ front) left m told first script up down comes =
    subst (λ (l : Micro). left_of (stepped s (changed k front left) answer l).0 < weight_left s (changed k (n ∷ front) left))
    (sym (same_micro m n comes)) (told_first s k answer n front left told)

-- the first step of a paced change lowers the weight
first_lowers : (s : State) (k : Change) (answer : Option Bool) (m : Micro) → IsPaced s k → ((x : ℕ) → length (to_raise s k x) ≤ plls s.defs) → ((x : ℕ) → length (to_lower s x) ≤ plls s.defs)
    → FirstLowers s k answer k.front k.left m
first_lowers s k answer m paced up down = by_front paced.front where
  when_front : (ms : List Micro) → k.front ≡ ms → list_any may_time_out (ms ++ k.left) ≡ true → length (aborts_of s k) ≤ k.extra
  when_front ms e late = paced.aborts (ap (λ (ls : List Micro). list_any may_time_out (ls ++ k.left)) e ∙ late)

  by_front : Front s k → FirstLowers s k answer k.front k.left m
  by_front (tells told first) = tells_first s k answer k.front k.left m told first paced.script up down
  by_front (polls y e some first) =
      subst (λ (ms : List Micro). FirstLowers s k answer ms k.left m) (sym e)
      (poll_first s k answer y None k.left m some (when_front (micro.Poll y ∷ []) e refl))
  by_front (polls_to_raise y x e some few) =
      subst (λ (ms : List Micro). FirstLowers s k answer ms k.left m) (sym e)
      (poll_first s k answer y (Some x) k.left m some (when_front (micro.Poll y ∷ micro.Raise x ∷ []) e refl))
  by_front (raises x e few) = subst (λ (ms : List Micro). FirstLowers s k answer ms k.left m) (sym e) (raise_first s k answer x k.left m few)
  by_front (lowers x e few) = subst (λ (ms : List Micro). FirstLowers s k answer ms k.left m) (sym e) (lower_first s k answer x k.left m few)

-- ---- defined steps

-- a defined step is the first that is left, and leaves what it does, counted
pub step_defined : (s t : State) (k : Change) (d : ℕ) (m : Micro) (answer : Option Bool) (x : Turn) → s.change ≡ Some k → next s d (event.Step m answer) ≡ Some (t, x)
    → (comes_next m (todo k) ≡ true) × (counted s (stepped s (taken k) answer m) ≡ (t, x))
unfolding next
step_defined s t k d m answer x at e =
    by_test (may_step d m answer k) refl
    (ap (λ (o : Option Change). option_and_then (λ l. if may_step d m answer l then Some (counted s (stepped s (taken l) answer m)) else None) o) (sym at) ∙ e) where
      by_test : (b : Bool) → may_step d m answer k ≡ b → cond {A = Option (State × Turn)} b (Some (counted s (stepped s (taken k) answer m))) None ≡ Some (t, x)
          → (comes_next m (todo k) ≡ true) × (counted s (stepped s (taken k) answer m) ≡ (t, x))
      by_test false is f = absurd cc
      by_test true is f = (
        both_right (k.driver == d) (comes_next m (todo k)) (both_left ((k.driver == d) && comes_next m (todo k)) _ is),
        ap (λ (o : Option (State × Turn)). option_map_or (λ (z : State × Turn). z) o (t, x)) f,
      )

-- gates and counters weigh nothing
left_settled : (s y : State) (n : ℕ) → left_of (record (settled s y) { steps = n }) ≡ left_of y
unfolding settled weight_left
left_settled s y n = refl

-- each step of a paced change lowers the weight that is left
pub steps_lower_weight : StepsLowerWeight
steps_lower_weight s t k d m answer x valid links at paced e =
    let is = step_defined s t k d m answer x at e in
    let ends = lines_end (length s.regs) s.defs valid in
    let low = first_lowers s k answer m paced (λ c. to_raise_few s k c ends links) (λ c. to_lower_few s c ends links) is.0 in
    let after : left_of t ≡ left_of (stepped s (taken k) answer m).0 =
    ap (λ (z : State × Turn). left_of z.0) (sym is.1) ∙ left_settled s (stepped s (taken k) answer m).0 (s.steps + 1) in
    let before : left_of s ≡ weight_left s k = ap (λ (o : Option Change). option_map_or (weight_left s) o 0) at in
    omega arith
