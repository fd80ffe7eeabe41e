-- Calls that are answered at once, and what the sweep has that isn't.
use Rattle.std.proofs.Common.{◌≡◌, ℕ, zero, suc, ◌+◌, ◌<◌, ◌≤◌, ◌&&◌, not, Bool, true, false, Option, Some, None, refl, arith, nat_le, List, [], ◌∷◌, ◌++◌, length, sum_by, map}
use Rattle.std.specs.Prelude.{filter, flat_map}
use Rattle.std.proofs.lemmas.Bool.Decides.{nat_tests}
use Rattle.std.proofs.lemmas.List.Sums.{sum_by-append}
use Rattle.clk_base.specs.declared.call.Micro.{Micro}
use Rattle.clk_base.specs.declared.call.Micro.TheVariants as micro
use Rattle.clk_base.specs.declared.call.Sleeping.{Sleeping}
use Rattle.clk_base.specs.declared.call.Sleeping.TheVariants as call
use Rattle.clk_base.specs.declared.clock.ClockId.{ClockId}
use Rattle.clk_base.specs.declared.event.Event.TheVariants as event
use Rattle.clk_base.specs.declared.event.Reply.{Reply}
use Rattle.clk_base.specs.declared.event.Turn.TheVariants as turn
use Rattle.clk_base.specs.Flags.{ignores_unused}
use Rattle.clk_model.specs.declared.row.HandleRow.{HandleRow}
use Rattle.clk_model.specs.Begin.{most_credits, own_handle, most_notifiers, has_notifier}
use Rattle.clk_model.specs.Chain.{clock_id}
use Rattle.clk_model.specs.Holders.{active, prepared}
use Rattle.clk_model.specs.Laws.CallCauses.{CallTurns, GetTurns, PutTurns, RoundTurns, ExclusivePutTurns, NotifierAddTurns, NotifierRemoveTurns, OnHandle, OnlyUnknown}
use Rattle.clk_model.specs.Machine.{next}
use Rattle.clk_model.specs.Notices.{notifiers_of}
use Rattle.clk_model.specs.Round.{wiring, round_rate}
use Rattle.clk_model.specs.Script.{close_of, lets_through, runs, sweep_order, sweep_script, weight}
use Rattle.clk_model.specs.State.{State}
use Rattle.clk_model.specs.Tree.{rooted}
use Rattle.clk_model.specs.Views.{view, lift}
use Rattle.clk_model.proofs.CallCauseLaws.{calls_have_causes}
use Rattle.clk_model.proofs.ShapeLaws.{begun_paid}
use Rattle.core_parts.specs.InFlight.{may_go_on}

-- to go on is no answer
not_done : (r : Reply) → turn.Going ≡ turn.Done r → ⊥
not_done r e = absurd cc

only_known : (s : State) (d n : ℕ) (holds : HandleRow → Type 0) → OnlyUnknown s d n turn.Going holds → ((row : HandleRow) → holds row → ⊥) → ⊥
only_known s d n holds turns never = by (own_handle s d n) refl where
  by : (o : Option HandleRow) → own_handle s d n ≡ o → ⊥
  by None lacks = not_done _ (turns.unknown.1 lacks)
  by (Some row) own = never row (turns.known row own)

known : (s : State) (d n : ℕ) (holds : HandleRow → Type 0) → OnHandle s d n turn.Going holds → ((row : HandleRow) → holds row → ⊥) → ⊥
known s d n holds turns never = by (own_handle s d n) refl where
  by : (o : Option HandleRow) → own_handle s d n ≡ o → ⊥
  by None lacks = not_done _ (turns.unknown lacks)
  by (Some row) own = never row (turns.known row own)

put : (row : HandleRow) → PutTurns row turn.Going → ⊥
put row turns = not_done _ (turns.done.1 (λ holds. not_done _ (turns.busy.1 holds)))

rounds : (s : State) (n : ℕ) (row : HandleRow) (x : ℕ) → RoundTurns s n row x turn.Going → ⊥
rounds s n row x turns = by (round_rate (wiring s) (view (lift s n)) row.clock.0 x) refl where
  by : (o : Option ℕ) → round_rate (wiring s) (view (lift s n)) row.clock.0 x ≡ o → ⊥
  by None none = not_done _ (turns.none.1 none)
  by (Some r) told = not_done _ (turns.told r told)

exclusive_put : (row : HandleRow) → ExclusivePutTurns row turn.Going → ⊥
exclusive_put row turns = by row.exclusives refl where
  by : (n : ℕ) → row.exclusives ≡ n → ⊥
  by zero none = not_done _ (turns.none.1 none)
  by (suc n) some = not_done _ (turns.done.1 (grind (arith)))

notifier_added : (s : State) (c id : ℕ) → NotifierAddTurns s c id turn.Going → ⊥
notifier_added s c id turns = by (has_notifier s c id) (nat_le most_notifiers (length (notifiers_of s.notifiers c))) refl refl where
  by : (has full : Bool) → has_notifier s c id ≡ has → nat_le most_notifiers (length (notifiers_of s.notifiers c)) ≡ full → ⊥
  by true full is test = not_done _ (turns.known.1 is)
  by false true is test = not_done _ (turns.full.1 (is, grind (arith, nat_tests)))
  by false false is test = not_done _ (turns.done.1 (is, grind (arith, nat_tests)))

notifier_removed : (s : State) (c id : ℕ) → NotifierRemoveTurns s c id turn.Going → ⊥
notifier_removed s c id turns = by (has_notifier s c id) refl where
  by : (has : Bool) → has_notifier s c id ≡ has → ⊥
  by false is = not_done _ (turns.lacking.1 is)
  by true is = not_done _ (turns.done.1 is)

got : (s : State) (d : ℕ) (found : Option ClockId) → GetTurns s d found turn.Going → ⊥
got s d None turns = not_done _ (turns.unknown.1 refl)
got s d (Some c) turns = by (rooted s.defs s.clocks c.0) refl where
  by : (is : Bool) → rooted s.defs s.clocks c.0 ≡ is → ⊥
  by false loose = not_done _ (turns.deferred.1 (c, refl, loose))
  by true root = not_done _ (turns.given_ c refl root)

no_cause : (s : State) (d : ℕ) (what : Sleeping) → may_go_on what ≡ false → CallTurns s d what turn.Going → ⊥
no_cause s d (call.Get found) is turns = got s d found turns
no_cause s d (call.Put h) is turns = only_known s d h.number _ turns put
no_cause s d (call.Prepare h) is turns = cc
no_cause s d (call.Unprepare h) is turns = cc
no_cause s d (call.GetRate h) is turns = only_known s d h.number _ turns (λ row e. not_done _ e)
no_cause s d (call.RoundRate h x) is turns = only_known s d h.number _ turns (λ row e. rounds s h.number row x e)
no_cause s d (call.SetRate h x) is turns = cc
no_cause s d (call.SetRateExclusive h x) is turns = cc
no_cause s d (call.SetRange h least most) is turns = cc
no_cause s d (call.SetParent h p) is turns = cc
no_cause s d (call.GetParent h) is turns = only_known s d h.number _ turns (λ row e. not_done _ e)
no_cause s d (call.ExclusiveGet h) is turns = only_known s d h.number _ turns (λ row e. not_done _ e)
no_cause s d (call.ExclusivePut h) is turns = only_known s d h.number _ turns exclusive_put
no_cause s d (call.NotifierAdd h id priority policy) is turns = only_known s d h.number _ turns (λ row e. notifier_added s row.clock.0 id e)
no_cause s d (call.NotifierRemove h id) is turns = known s d h.number _ turns (λ row e. notifier_removed s row.clock.0 id e)
no_cause s d (call.Probe c) is turns = cc
no_cause s d call.Sweep is turns = cc

-- a call that can't go on never does
pub never_going : (s t : State) (d : ℕ) (what : Sleeping) → may_go_on what ≡ false → next s d (event.Begin what) ≡ Some (t, turn.Going) → ⊥
never_going s t d what is comes = no_cause s d what is (calls_have_causes s t d what turn.Going comes).1

end_weighs : (s : State) (xs ys : List Micro) → 1 ≤ sum_by (weight s) (xs ++ ys ++ micro.End ∷ [])
end_weighs s xs ys =
    let sum : sum_by (weight s) (xs ++ ys ++ micro.End ∷ []) ≡ sum_by (weight s) (xs ++ ys) + 1 = sum_by-append (weight s) (xs ++ ys) (micro.End ∷ []) in
    omega arith

sweep_weighs : (s : State) → 1 ≤ sum_by (weight s) (sweep_script s)
unfolding sweep_script
sweep_weighs s =
    end_weighs s
    (flat_map (close_of s.defs s.clocks) (filter (λ c. not (ignores_unused s.defs c) && lets_through s.defs s.regs c && not (active s c)) (sweep_order s)))
    (map (λ c. micro.Unpower (clock_id c)) (filter (λ c. not (ignores_unused s.defs c) && runs s.defs s.regs c && not (prepared s c)) (sweep_order s)))

-- a sweep that goes on has a credit, and room for its end
pub sweep_has : (s t : State) (d : ℕ) → next s d (event.Begin call.Sweep) ≡ Some (t, turn.Going) → (s.spent < s.credits) × (s.credits + s.steps + 1 ≤ most_credits)
sweep_has s t d comes =
    let room = ((calls_have_causes s t d call.Sweep turn.Going comes).1.rest.going.0 refl).1 in
    let one = sweep_weighs s in
    ((begun_paid s t d call.Sweep turn.Going comes).0.left, omega arith)
