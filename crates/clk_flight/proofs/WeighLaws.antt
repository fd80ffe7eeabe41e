-- What is left over of a flight is the weight that is left of its change.
use Rattle.std.proofs.Common.{◌≡◌, ℕ, zero, suc, ◌+◌, Bool, true, false, List, [], ◌∷◌, ◌++◌, Some, None, refl, sym, ap, ◌∙◌, arith, length, map, take, drop}
use Rattle.std.specs.Prelude.{sum_by, if◌then◌else◌}
use Rattle.std.specs.List.{list_all}
use Rattle.std.proofs.lemmas.List.{length-append, length-map}
use Rattle.std.proofs.lemmas.List.Sums.{sum_by-cons, sum_by-append}
use Rattle.clk_base.specs.declared.clock.ClockId.{ClockId}
use Rattle.clk_base.specs.declared.call.Micro.{Micro}
use Rattle.clk_base.specs.declared.call.Micro.TheVariants as micro
use Rattle.clk_model.specs.State.{State, NotifierRow, Change}
use Rattle.clk_model.specs.Chain.{clock_id}
use Rattle.clk_model.specs.Notices.{notifiers_of}
use Rattle.clk_model.specs.Script.{plls, weight}
use Rattle.clk_model.specs.Laws.Weight.{front_weight as model_front_weight, weight_left}
use Rattle.clk_model.specs.Laws.Paced.{is_notice}
use Rattle.clk_model.proofs.WeightLaws.{notices_weigh, falls_weigh}
use Rattle.clk_flight.specs.declared.front.Front.{Front}
use Rattle.clk_flight.specs.declared.front.Front.TheVariants.{Empty, Poll, Raise, Lower, Falls, Posts}
use Rattle.clk_flight.specs.Fronts.{called_off, post_to, polls_of, front_steps, front_aborts, front_count}
use Rattle.clk_flight.specs.LeftOver.{step_weight, front_weight}
use Rattle.clk_flight.specs.Laws.{LeftIsWeight}

-- a step of a script weighs the same
same_weight : (s : State) (m : Micro) → weight s m ≡ step_weight s.notifiers (plls s.defs) m
same_weight s (micro.Notify kind c id old new) = refl
same_weight s (micro.Raise x) = refl
same_weight s (micro.Poll x) = refl
same_weight s (micro.Fall x) = refl
same_weight s (micro.HoldPrepare x) = refl
same_weight s (micro.HoldEnable x) = refl
same_weight s (micro.Relink c p) = refl
same_weight s (micro.WriteMux c p) = refl
same_weight s (micro.DropEnable x) = refl
same_weight s (micro.DropPrepare x) = refl
same_weight s (micro.Lower x) = refl
same_weight s (micro.Visit c) = refl
same_weight s (micro.Register c) = refl
same_weight s (micro.Settle c) = refl
same_weight s (micro.Close c) = refl
same_weight s (micro.Unpower c) = refl
same_weight s micro.End = refl

pub same_sum : (f g : Micro → ℕ) (ms : List Micro) → ((m : Micro) → f m ≡ g m) → sum_by f ms ≡ sum_by g ms
same_sum f g [] same = refl
same_sum f g (m ∷ ms) same =
    let one = sum_by-cons f m ms in let other = sum_by-cons g m ms in let here = same m in let rest = same_sum f g ms same in omega arith

take_noticed : (c : ClockId) (old new : ℕ) (rows : List NotifierRow) (n k : ℕ) → list_all is_notice (take k (drop n (map (post_to c old new) rows))) ≡ true
take_noticed c old new [] zero zero = refl
take_noticed c old new [] zero (suc k) = refl
take_noticed c old new [] (suc n) zero = refl
take_noticed c old new [] (suc n) (suc k) = refl
take_noticed c old new (r ∷ rows) zero zero = refl
take_noticed c old new (r ∷ rows) zero (suc k) = take_noticed c old new rows zero k
take_noticed c old new (r ∷ rows) (suc n) k = take_noticed c old new rows n k

-- so does what stands in front
front_weighs : (s : State) (k : Change) (script : List Micro) (raised : List ℕ) (front : Front) → k.polls ≡ polls_of front
    → list_all is_notice (front_aborts script front) ≡ true → length (front_steps s.notifiers script raised front) ≡ front_count (length raised) front
    → sum_by (model_front_weight s k) (front_steps s.notifiers script raised front) ≡ front_weight (plls s.defs) k.again front
front_weighs s k script raised Empty polls all count = refl
front_weighs s k script raised (Poll pll n None) polls all count =
    let sum = sum_by-cons (model_front_weight s k) (micro.Poll pll) [] in let p : k.polls ≡ n = polls in omega arith
front_weighs s k script raised (Poll pll n (Some x)) polls all count =
    let sum = sum_by-cons (model_front_weight s k) (micro.Poll pll) (micro.Raise x ∷ []) in let p : k.polls ≡ n = polls in omega arith
front_weighs s k script raised (Raise x) polls all count = let sum = sum_by-cons (model_front_weight s k) (micro.Raise x) [] in omega arith
front_weighs s k script raised (Lower x) polls all count = let sum = sum_by-cons (model_front_weight s k) (micro.Lower x) [] in omega arith
front_weighs s k script raised (Falls told left) polls all count =
    let falls_ : List Micro = map (λ y. micro.Fall (clock_id y)) raised in
    let aborts_ : List Micro = take left (drop told (map called_off script)) in
    let sum = sum_by-append (model_front_weight s k) falls_ aborts_ in
    let none : sum_by (model_front_weight s k) falls_ ≡ 0 = falls_weigh s k raised in
    let each : sum_by (model_front_weight s k) aborts_ ≡ length aborts_ = notices_weigh s k aborts_ all in
    let whole = length-append falls_ aborts_ in
    let many : length falls_ ≡ length raised = length-map raised (λ y. micro.Fall (clock_id y)) in
    let c : length (falls_ ++ aborts_) ≡ length raised + left = count in
    omega arith
front_weighs s k script raised (Posts c told left old new) polls all count =
    notices_weigh s k (take left (drop told (map (post_to c old new) (notifiers_of s.notifiers c.0)))) (take_noticed c old new (notifiers_of s.notifiers c.0) told left) ∙ count

pub left_is_weight : LeftIsWeight
unfolding weight_left
left_is_weight s f k is lines = going_ f.going is.going where
  front : sum_by (model_front_weight s k) k.front ≡ front_weight f.plls f.again f.front
  front =
      ap (λ (ms : List Micro). sum_by (model_front_weight s k) ms) is.front
      ∙ front_weighs s k f.script f.raised f.front is.polls is.notices (sym (ap (λ (ms : List Micro). length ms) is.front) ∙ is.count)
      ∙ ap (λ (n : ℕ). front_weight n k.again f.front) (sym lines) ∙ ap (λ (n : ℕ). front_weight f.plls n f.front) is.again

  script : sum_by (weight s) k.left ≡ sum_by (step_weight s.notifiers f.plls) f.left
  script =
      same_sum (weight s) (step_weight s.notifiers (plls s.defs)) k.left (same_weight s)
      ∙ ap (λ (n : ℕ). sum_by (step_weight s.notifiers n) k.left) (sym lines) ∙ ap (λ (ms : List Micro). sum_by (step_weight s.notifiers f.plls) ms) is.left

  raised : length k.raised ≡ length f.raised
  raised = ap length is.raised

  going_ : (going : Bool) → going ≡ true
      → (if going then front_weight f.plls f.again f.front + sum_by (step_weight s.notifiers f.plls) f.left + f.extra + length f.raised else 0)
      ≡ sum_by (model_front_weight s k) k.front + sum_by (weight s) k.left + k.extra + length k.raised
  going_ true e = let a = front in let b = script in let c = raised in let d = is.extra in omega arith
  going_ false e = absurd cc
