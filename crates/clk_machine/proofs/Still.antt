-- Calls that are answered at once and leave the state as it is.
use Rattle.std.proofs.Common.{◌≡◌, ℕ, ◌-◌, true, false, [], ◌∷◌, Option, Some, None, refl, ap, ◌∙◌}
use Rattle.clk_base.specs.declared.call.Micro.TheVariants as micro
use Rattle.clk_base.specs.declared.call.Sleeping.{Sleeping}
use Rattle.clk_base.specs.declared.call.Sleeping.TheVariants as call
use Rattle.clk_base.specs.declared.event.Errno.TheVariants as errno
use Rattle.clk_base.specs.declared.event.Reply.{Reply}
use Rattle.clk_base.specs.declared.event.Reply.TheVariants as reply
use Rattle.clk_base.specs.declared.event.Turn.{Turn}
use Rattle.clk_base.specs.declared.event.Turn.TheVariants as turn
use Rattle.clk_model.specs.Begin.{done, refused, starts, change_of, change_along, put_handle, held_once_more, request, request_between, reparenting, parent_set, register, begun}
use Rattle.clk_model.specs.Chain.{chain}
use Rattle.clk_model.specs.Laws.CallCauses.{with_limits}
use Rattle.clk_model.specs.Round.{wiring, round_rate}
use Rattle.clk_model.specs.Script.{probe_script, sweep_script}
use Rattle.clk_model.specs.State.{State, Change}
use Rattle.clk_model.specs.Views.{view, lift}
use Rattle.clk_model.proofs.Cases.{by_found, by_plan}
use Rattle.clk_model.proofs.TierLaws.{pick_either, with_handle_either}
use Rattle.clk_machine.specs.Along.{tells_only, is_still}

-- ---- answers that tell or refuse

-- an answer of this state, if it only tells or refuses, leaves it
abbrev Still : State → State × Turn → Type 0
Still s y = (r : Reply) → y.1 ≡ turn.Done r → tells_only r ≡ true → y.0 ≡ s

-- Ok does more
fine_more : {X : Type 0} (r : Reply) → turn.Done reply.Fine ≡ turn.Done r → tells_only r ≡ true → X
fine_more r is only =
    let same : reply.Fine ≡ r = cc in
    let no : false ≡ true = ap tells_only same ∙ only in absurd cc

starts_still : (s new : State) (k : Change) → Still s (starts s new k)
starts_still s new k = pick_either (Still s) _ _ _ (λ e r is only. refl) (λ e r is only. absurd cc)

request_still : (s new fine lifted : State) (d : ℕ) (what : Sleeping) (c x : ℕ) (range : Option (ℕ × ℕ)) → Still s (request s new fine lifted d what c x range)
request_still s new fine lifted d what c x range =
    pick_either (Still s) _ _ _ (λ e. fine_more) (λ e. pick_either (Still s) _ _ _ (λ g r is only. refl) (λ g. by_plan (Still s) (chain (wiring new) (view lifted) c x) _ _ (λ r is only. refl)
    (λ ks. starts_still s new (change_along new d what ks [] range))))

parent_still : (s lifted : State) (d : ℕ) (what : Sleeping) (c p : ℕ) → Still s (parent_set s lifted d what c p)
parent_still s lifted d what c p =
    pick_either (Still s) _ _ _ (λ e r is only. refl) (λ e. pick_either (Still s) _ _ _ (λ f r is only. refl) (λ f. pick_either (Still s) _ _ _ (λ g r is only. refl)
    (λ g. pick_either (Still s) _ _ _ (λ h. starts_still s s (reparenting s d what c p)) (λ h r is only. refl))))

handle_more : {X : Type 0} (r : Reply) (n d : ℕ) → turn.Done (reply.Handle (record { number = n; slot = 0; driver = d })) ≡ turn.Done r → tells_only r ≡ true → X
handle_more r n d is only =
    let same : reply.Handle (record { number = n; slot = 0; driver = d }) ≡ r = cc in
    let no : false ≡ true = ap tells_only same ∙ only in absurd cc

pub tells_still : (s : State) (d : ℕ) (what : Sleeping) → Still s (begun s d what)
unfolding begun
tells_still s d (call.Get None) = λ r is only. refl
tells_still s d (call.Get (Some c)) = pick_either (Still s) _ _ _ (λ e r is only. handle_more r _ _ is only) (λ e r is only. refl)
tells_still s d (call.Put h) = with_handle_either (Still s) s d h.number _ (λ r is only. refl) (λ row own. pick_either (Still s) _ _ _ (λ e r is only. refl) (λ e. fine_more))
tells_still s d (call.Prepare h) =
    with_handle_either (Still s) s d h.number _ (λ r is only. refl)
    (λ row own. pick_either (Still s) _ _ _ (λ e. fine_more) (λ e. starts_still s s (change_of s d (call.Prepare h) (micro.Raise row.clock ∷ micro.End ∷ []))))
tells_still s d (call.Unprepare h) =
    with_handle_either (Still s) s d h.number _ (λ r is only. refl) (λ row own. pick_either (Still s) _ _ _ (λ e r is only. refl) (λ e. pick_either (Still s) _ _ _ (λ f. fine_more)
    (λ f. starts_still s (put_handle s h.number (Some (record row { prepares = row.prepares - 1 }))) (change_of s d (call.Unprepare h) (micro.Lower row.clock ∷ micro.End ∷ [])))))
tells_still s d (call.GetRate h) = with_handle_either (Still s) s d h.number _ (λ r is only. refl) (λ row own r is only. refl)
tells_still s d (call.RoundRate h x) = with_handle_either (Still s) s d h.number _ (λ r is only. refl) (λ row own. by_found (Still s) (round_rate (wiring s) (view (lift s h.number)) row.clock.0 x) (λ r. done s (reply.Rate r)) (refused s errno.EINVAL) (λ r is only. refl) (λ y r is only. refl))
tells_still s d (call.SetRate h x) =
    with_handle_either (Still s) s d h.number _ (λ r is only. refl) (λ row own. request_still s s s (lift s h.number) d (call.SetRate h x) row.clock.0 x None)
tells_still s d (call.SetRateExclusive h x) =
    with_handle_either (Still s) s d h.number _ (λ r is only. refl) (λ row own. request_still s s (held_once_more s h.number row) s d (call.SetRateExclusive h x) row.clock.0 x None)
tells_still s d (call.SetRange h least most) =
    with_handle_either (Still s) s d h.number _ (λ r is only. refl) (λ row own. pick_either (Still s) _ _ _ (λ e r is only. refl)
    (λ e. request_still s (with_limits s h.number row least most) (with_limits s h.number row least most) (lift (with_limits s h.number row least most) h.number) d (call.SetRange h least most)
    row.clock.0 (request_between s.clocks row.clock.0 least most) (Some (row.min, row.max))))
tells_still s d (call.SetParent h p) = with_handle_either (Still s) s d h.number _ (λ r is only. refl) (λ row own. parent_still s (lift s h.number) d (call.SetParent h p) row.clock.0 p.0)
tells_still s d (call.GetParent h) = with_handle_either (Still s) s d h.number _ (λ r is only. refl) (λ row own r is only. refl)
tells_still s d (call.ExclusiveGet h) = with_handle_either (Still s) s d h.number _ (λ r is only. refl) (λ row own. fine_more)
tells_still s d (call.ExclusivePut h) = with_handle_either (Still s) s d h.number _ (λ r is only. refl) (λ row own. pick_either (Still s) _ _ _ (λ e r is only. refl) (λ e. fine_more))
tells_still s d (call.NotifierAdd h id priority policy) =
    with_handle_either (Still s) s d h.number _ (λ r is only. refl) (λ row own. pick_either (Still s) _ _ _ (λ e r is only. refl) (λ e. pick_either (Still s) _ _ _ (λ f r is only. refl) (λ f. fine_more)))
tells_still s d (call.NotifierRemove h id) = with_handle_either (Still s) s d h.number _ (λ r is only. refl) (λ row own. pick_either (Still s) _ _ _ (λ e. fine_more) (λ e r is only. refl))
tells_still s d (call.Probe c) =
    pick_either (Still s) _ _ _ (λ e r is only. refl) (λ e. pick_either (Still s) _ _ _ (λ f. fine_more) (λ f. starts_still s s (change_of s d (call.Probe c) (probe_script (register s c.0) c.0))))
tells_still s d call.Sweep = pick_either (Still s) _ _ _ (λ e. fine_more) (λ e. starts_still s s (change_of s d call.Sweep (sweep_script s)))

-- ---- calls that have nothing to do

-- an answer by Ok leaves the state
abbrev StillFine : State → State × Turn → Type 0
StillFine s y = y.1 ≡ turn.Done reply.Fine → y.0 ≡ s

never_fine : (s new : State) (k : Change) → StillFine s (starts s new k)
never_fine s new k = pick_either (StillFine s) _ _ _ (λ e is. absurd cc) (λ e is. absurd cc)

pub fine_still : (s : State) (d : ℕ) (what : Sleeping) → is_still what ≡ true → StillFine s (begun s d what)
unfolding begun
fine_still s d (call.Get None) still = λ is. absurd cc
fine_still s d (call.Get (Some c)) still = pick_either (StillFine s) _ _ _ (λ e is. absurd cc) (λ e is. absurd cc)
fine_still s d (call.GetRate h) still = with_handle_either (StillFine s) s d h.number _ (λ is. absurd cc) (λ row own is. refl)
fine_still s d (call.RoundRate h x) still = with_handle_either (StillFine s) s d h.number _ (λ is. absurd cc) (λ row own. by_found (StillFine s) (round_rate (wiring s) (view (lift s h.number)) row.clock.0 x) (λ r. done s (reply.Rate r)) (refused s errno.EINVAL) (λ is. refl) (λ y is. refl))
fine_still s d (call.SetRate h x) still =
    with_handle_either (StillFine s) s d h.number _ (λ is. absurd cc)
    (λ row own. pick_either (StillFine s) _ _ _ (λ e is. refl) (λ e. pick_either (StillFine s) _ _ _ (λ g is. refl) (λ g. by_plan (StillFine s) (chain (wiring s) (view (lift s h.number)) row.clock.0 x) _ _ (λ is. refl)
    (λ ks. never_fine s s (change_along s d (call.SetRate h x) ks [] None)))))
fine_still s d (call.SetParent h p) still =
    with_handle_either (StillFine s) s d h.number _ (λ is. absurd cc)
    (λ row own. pick_either (StillFine s) _ _ _ (λ e is. refl) (λ e. pick_either (StillFine s) _ _ _ (λ f is. refl) (λ f. pick_either (StillFine s) _ _ _ (λ g is. refl)
    (λ g. pick_either (StillFine s) _ _ _ (λ i. never_fine s s (reparenting s d (call.SetParent h p) row.clock.0 p.0)) (λ i is. refl)))))
fine_still s d (call.GetParent h) still = with_handle_either (StillFine s) s d h.number _ (λ is. absurd cc) (λ row own is. refl)
fine_still s d call.Sweep still = pick_either (StillFine s) _ _ _ (λ e is. refl) (λ e. never_fine s s (change_of s d call.Sweep (sweep_script s)))
fine_still s d _ still = absurd cc
