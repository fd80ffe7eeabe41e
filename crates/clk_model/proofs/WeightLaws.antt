-- Laws on weight: each step of a paced change lowers the weight that is left.
use Rattle.std.proofs.Common.{◌≡◌, ℕ, ◌+◌, ◌-◌, ◌*◌, ◌<◌, ◌≤◌, Bool, true, false, not, ◌&&◌, List, [], ◌∷◌, ◌++◌, map, Option, Some, None, refl, ap, ◌∙◌, arith, length}
use Rattle.std.specs.Prelude.{nat_le, reverse, slice_get, slice_index, sum_by, if◌then◌else◌}
use Rattle.std.specs.List.{list_all, list_any}
use Rattle.std.specs.Option.{option_map_or}
use Rattle.std.proofs.lemmas.Bool.{leb-true}
use Rattle.std.proofs.lemmas.List.Folds.{list_all-append}
use Rattle.std.proofs.lemmas.List.Sums.{sum_by-cons}
use Rattle.clk_base.specs.declared.call.Micro.{Micro}
use Rattle.clk_base.specs.declared.call.Micro.TheVariants as micro
use Rattle.clk_base.specs.declared.call.Notice.TheVariants as notice
use Rattle.clk_base.specs.declared.call.Sleeping.{Sleeping}
use Rattle.clk_base.specs.declared.call.Sleeping.TheVariants as call
use Rattle.clk_model.specs.Lists.{is_in, without}
use Rattle.clk_model.specs.State.{State, Change, NotifierRow}
use Rattle.clk_model.specs.Chain.{clock_id}
use Rattle.clk_model.specs.Notices.{Rates, notifiers_of, abort_list, post_list}
use Rattle.clk_model.specs.Script.{plls, weight}
use Rattle.clk_model.specs.Step.{is_close, lets_go, behind_lets, first_alone, on, powered, from_first, behind_first, cut_short, is_end, is_register, is_settle, is_visit, sets_parent, aborts_of, to_raise, most_polls, raise_one, raise, to_lower, lower_one, lower}
use Rattle.clk_model.specs.Laws.Weight.{front_weight, weight_left}
use Rattle.clk_model.specs.Laws.Paced.{left_of, is_notice}
use Rattle.clk_model.proofs.Members.{both_left, both_right}
use Rattle.clk_model.proofs.OnceLaws.{length-filter-le}

-- ---- sums

-- the change with this in front, and this left of the script
abbrev pub changed : Change → List Micro → List Micro → Change
changed k front left = record k { front = front; left = left }

-- what a change has left weighs what stands in front, the script, what a timeout may bring, and the raised PLLs
pub weighs : (s : State) (k : Change) (front left : List Micro)
    → weight_left s (changed k front left) ≡ sum_by (front_weight s k) front + sum_by (weight s) left + k.extra + length k.raised
unfolding weight_left
weighs s k front left = refl

notice_weighs : (s : State) (k : Change) (m : Micro) → is_notice m ≡ true → front_weight s k m ≡ 1
notice_weighs s k (micro.Notify kind c id old new) e = refl
notice_weighs s k (micro.Raise x) e = absurd cc
notice_weighs s k (micro.Poll y) e = absurd cc
notice_weighs s k (micro.Fall y) e = absurd cc
notice_weighs s k (micro.HoldPrepare x) e = absurd cc
notice_weighs s k (micro.HoldEnable x) e = absurd cc
notice_weighs s k (micro.Relink c p) e = absurd cc
notice_weighs s k (micro.WriteMux c place) e = absurd cc
notice_weighs s k (micro.DropEnable x) e = absurd cc
notice_weighs s k (micro.DropPrepare x) e = absurd cc
notice_weighs s k (micro.Lower x) e = absurd cc
notice_weighs s k (micro.Visit c) e = absurd cc
notice_weighs s k (micro.Register c) e = absurd cc
notice_weighs s k (micro.Settle c) e = absurd cc
notice_weighs s k (micro.Close c) e = absurd cc
notice_weighs s k (micro.Unpower c) e = absurd cc
notice_weighs s k micro.End e = absurd cc

-- notices weigh one each
pub notices_weigh : (s : State) (k : Change) (ms : List Micro) → list_all is_notice ms ≡ true → sum_by (front_weight s k) ms ≡ length ms
notices_weigh s k [] told = refl
notices_weigh s k (m ∷ ms) told =
    let here = notice_weighs s k m (both_left (is_notice m) (list_all is_notice ms) told) in
    let rest = notices_weigh s k ms (both_right (is_notice m) (list_all is_notice ms) told) in
    let sum = sum_by-cons (front_weight s k) m ms in
    omega arith

aborts_map : (rates : Rates) (c : ℕ) (ns : List NotifierRow) → list_all is_notice (map (λ n. micro.Notify notice.Abort (clock_id c) n.id (slice_index rates.before c) (slice_index rates.outcome c)) ns) ≡ true
aborts_map rates c [] = refl
aborts_map rates c (n ∷ ns) = aborts_map rates c ns

pub abort_notices : (rates : Rates) (ns : List NotifierRow) (cs : List ℕ) → list_all is_notice (abort_list rates ns cs) ≡ true
abort_notices rates ns [] = refl
abort_notices rates ns (c ∷ cs) =
    list_all-append is_notice (map (λ n. micro.Notify notice.Abort (clock_id c) n.id (slice_index rates.before c) (slice_index rates.outcome c)) (notifiers_of ns c)) (abort_list rates ns cs)
    ∙ ap (λ (b : Bool). b && list_all is_notice (abort_list rates ns cs)) (aborts_map rates c (notifiers_of ns c))
    ∙ abort_notices rates ns cs

pub aborts_notices : (s : State) (k : Change) → list_all is_notice (aborts_of s k) ≡ true
aborts_notices s k = one (sets_parent k.call) where
  one : (t : Bool) → list_all is_notice (if t then abort_list (record { before = k.before; outcome = k.outcome }) s.notifiers k.changing else []) ≡ true
  one true = abort_notices (record { before = k.before; outcome = k.outcome }) s.notifiers k.changing
  one false = refl

pub posts_notices : (rates : Rates) (ns : List NotifierRow) (c : ℕ) → list_all is_notice (post_list rates ns c) ≡ true
posts_notices rates ns c = each (notifiers_of ns c) where
  each : (ms : List NotifierRow) → list_all is_notice (map (λ n. micro.Notify notice.Post (clock_id c) n.id (slice_index rates.before c) (slice_index rates.outcome c)) ms) ≡ true
  each [] = refl
  each (m ∷ ms) = each ms

-- falls weigh nothing
pub falls_weigh : (s : State) (k : Change) (ys : List ℕ) → sum_by (front_weight s k) (map (λ y. micro.Fall (clock_id y)) ys) ≡ 0
falls_weigh s k [] = refl
falls_weigh s k (y ∷ ys) =
    let sum = sum_by-cons (front_weight s k) (micro.Fall (clock_id y)) (map (λ z. micro.Fall (clock_id z)) ys) in
    let rest = falls_weigh s k ys in
    omega arith

-- ---- a script cut short weighs no more

from_first-le : (f : Micro → ℕ) (test : Micro → Bool) (ms : List Micro) → sum_by f (from_first test ms) ≤ sum_by f ms
from_first-le f test [] = omega arith
from_first-le f test (m ∷ ms) = one (test m) (from_first-le f test ms) where
  one : (t : Bool) → sum_by f (from_first test ms) ≤ sum_by f ms → sum_by f (if t then m ∷ ms else from_first test ms) ≤ sum_by f (m ∷ ms)
  one true rest = omega arith
  one false rest = let sum = sum_by-cons f m ms in omega arith

behind_first-le : (f : Micro → ℕ) (test : Micro → Bool) (ms : List Micro) → sum_by f (behind_first test ms) ≤ sum_by f ms
behind_first-le f test [] = omega arith
behind_first-le f test (m ∷ ms) = one (test m) (behind_first-le f test ms) where
  one : (t : Bool) → sum_by f (behind_first test ms) ≤ sum_by f ms → sum_by f (if t then ms else behind_first test ms) ≤ sum_by f (m ∷ ms)
  one true rest = let sum = sum_by-cons f m ms in omega arith
  one false rest = let sum = sum_by-cons f m ms in omega arith

behind_lets-le : (f : Micro → ℕ) (ms : List Micro) → sum_by f (behind_lets ms) ≤ sum_by f ms
behind_lets-le f [] = omega arith
behind_lets-le f (m ∷ ms) = one (lets_go m) (behind_lets-le f ms) where
  one : (t : Bool) → sum_by f (behind_lets ms) ≤ sum_by f ms → sum_by f (if t then behind_lets ms else m ∷ ms) ≤ sum_by f (m ∷ ms)
  one true rest = let sum = sum_by-cons f m ms in omega arith
  one false rest = omega arith

visit-le : (f : Micro → ℕ) (ms : List Micro) → sum_by f (first_alone (from_first is_visit ms)) ≤ sum_by f ms
visit-le f ms = let from = from_first-le f is_visit ms in let alone = one (from_first is_visit ms) in omega (arith, from, alone) where
  one : (ns : List Micro) → sum_by f (first_alone ns) ≤ sum_by f ns
  one [] = omega arith
  one (n ∷ ns) = let rest = behind_lets-le f ns in let sum = sum_by-cons f n ns in let less = sum_by-cons f n (behind_lets ns) in omega (arith, rest, sum, less)

pub cut_short-le : (f : Micro → ℕ) (what : Sleeping) (ms : List Micro) → sum_by f (cut_short what ms) ≤ sum_by f ms
cut_short-le f (call.Prepare h) ms = from_first-le f is_end ms
cut_short-le f (call.SetParent h p) ms = from_first-le f is_end ms
cut_short-le f (call.Probe c) ms = one (list_any is_register ms) where
  one : (t : Bool) → sum_by f (if t then from_first is_end ms else behind_first is_settle ms) ≤ sum_by f ms
  one true = from_first-le f is_end ms
  one false = behind_first-le f is_settle ms
cut_short-le f call.Sweep ms = let behind = behind_first-le f is_close ms in let lets = behind_lets-le f (behind_first is_close ms) in omega (arith, behind, lets)
cut_short-le f (call.Get found) ms = visit-le f ms
cut_short-le f (call.Put h) ms = visit-le f ms
cut_short-le f (call.Unprepare h) ms = visit-le f ms
cut_short-le f (call.GetRate h) ms = visit-le f ms
cut_short-le f (call.RoundRate h x) ms = visit-le f ms
cut_short-le f (call.SetRate h x) ms = visit-le f ms
cut_short-le f (call.SetRateExclusive h x) ms = visit-le f ms
cut_short-le f (call.SetRange h least most) ms = visit-le f ms
cut_short-le f (call.GetParent h) ms = visit-le f ms
cut_short-le f (call.ExclusiveGet h) ms = visit-le f ms
cut_short-le f (call.ExclusivePut h) ms = visit-le f ms
cut_short-le f (call.NotifierAdd h id priority policy) ms = visit-le f ms
cut_short-le f (call.NotifierRemove h id) ms = visit-le f ms

-- ---- the steps of a script

-- a step of the script that weighs something and adds nothing
pub plain_lowers : (s : State) (k : Change) (m : Micro) (rest : List Micro) → 0 < weight s m → weight_left s (changed k [] rest) < weight_left s (changed k [] (m ∷ rest))
plain_lowers s k m rest some =
    let before = weighs s k [] (m ∷ rest) in
    let after = weighs s k [] rest in
    let sum = sum_by-cons (weight s) m rest in
    omega arith

pub without-le : (dropped xs : List ℕ) → length (without dropped xs) ≤ length xs
without-le dropped xs = length-filter-le (λ x. not (is_in x dropped)) xs

-- and one behind which some PLLs aren't counted as raised
pub held_lowers : (s : State) (k : Change) (m : Micro) (rest : List Micro) (dropped : List ℕ) → 0 < weight s m
    → weight_left s (record (changed k [] rest) { raised = without dropped k.raised }) < weight_left s (changed k [] (m ∷ rest))
held_lowers s k m rest dropped some =
    let before = weighs s k [] (m ∷ rest) in
    let after = weighs s (record k { raised = without dropped k.raised }) [] rest in
    let sum = sum_by-cons (weight s) m rest in
    let less = without-le dropped k.raised in
    omega arith

-- ---- raising

pub some_first : (xs : List ℕ) (y : ℕ) → slice_get (reverse xs) 0 ≡ Some y → 0 < length xs
some_first [] y e = absurd cc
some_first (x ∷ xs) y e = omega arith

raised_weight : (s : State) (k : Change) (x y : ℕ) (rest : List Micro) (t : Bool) → nat_le 2 (length (to_raise s k x)) ≡ t → 0 < length (to_raise s k x)
    → k.again + length (to_raise s k x) ≤ plls s.defs
    → left_of (on (powered s y true) (record (changed k [] rest) {
      raised = y ∷ k.raised;
      polls = most_polls;
      again = if t then k.again + 1 else 0;
      front = micro.Poll (clock_id y) ∷ (if t then micro.Raise (clock_id x) ∷ [] else []) ++ [];
    })) < (34 * plls s.defs + 1 - 34 * k.again) + (sum_by (weight s) rest + k.extra + length k.raised)
unfolding weight_left
raised_weight s k x y rest true more some few = let two : 2 ≤ length (to_raise s k x) = leb-true 2 (length (to_raise s k x)) more in omega arith
raised_weight s k x y rest false more some few = omega arith

pub raise_lowers : (s : State) (k : Change) (x : ℕ) (rest : List Micro) → k.again + length (to_raise s k x) ≤ plls s.defs
    → left_of (raise s (changed k [] rest) x) < (34 * plls s.defs + 1 - 34 * k.again) + (sum_by (weight s) rest + k.extra + length k.raised)
unfolding weight_left
raise_lowers s k x rest few = by_highest (slice_get (reverse (to_raise s k x)) 0) refl where
  by_highest : (o : Option ℕ) → slice_get (reverse (to_raise s k x)) 0 ≡ o
      → left_of (option_map_or (raise_one s (changed k [] rest) x) o (on s (record (changed k [] rest) { again = 0 })))
      < (34 * plls s.defs + 1 - 34 * k.again) + (sum_by (weight s) rest + k.extra + length k.raised)
  by_highest None e = omega arith
  by_highest (Some y) e = raised_weight s k x y rest (nat_le 2 (length (to_raise s k x))) refl (some_first (to_raise s k x) y e) few

-- ---- lowering

lowered_weight : (s : State) (k : Change) (x y : ℕ) (rest : List Micro) (t : Bool) → k.again + length (to_lower s x) ≤ plls s.defs
    → left_of (on (powered s y false) (record (changed k [] rest) {
      again = if t then k.again + 1 else 0;
      front = (if t then micro.Lower (clock_id x) ∷ [] else []) ++ [];
    })) < (plls s.defs + 1 - k.again) + (sum_by (weight s) rest + k.extra + length k.raised)
unfolding weight_left
lowered_weight s k x y rest true few = omega arith
lowered_weight s k x y rest false few = omega arith

pub lower_lowers : (s : State) (k : Change) (x : ℕ) (rest : List Micro) → k.again + length (to_lower s x) ≤ plls s.defs
    → left_of (lower s (changed k [] rest) x) < (plls s.defs + 1 - k.again) + (sum_by (weight s) rest + k.extra + length k.raised)
unfolding weight_left
lower_lowers s k x rest few = by_lowest (slice_get (to_lower s x) 0) where
  by_lowest : (o : Option ℕ) → left_of (option_map_or (lower_one s (changed k [] rest) x) o (on s (record (changed k [] rest) { again = 0 })))
      < (plls s.defs + 1 - k.again) + (sum_by (weight s) rest + k.extra + length k.raised)
  by_lowest None = omega arith
  by_lowest (Some y) = lowered_weight s k x y rest (nat_le 2 (length (to_lower s x))) few
