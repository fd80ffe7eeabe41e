-- Which calls are answered by a handle.
use Rattle.std.proofs.Common.{◌≡◌, ℕ, ◌-◌, [], ◌∷◌, Option, Some, None, ap}
use Rattle.clk_base.specs.declared.call.Micro.TheVariants as micro
use Rattle.clk_base.specs.declared.call.Sleeping.{Sleeping}
use Rattle.clk_base.specs.declared.call.Sleeping.TheVariants as call
use Rattle.clk_base.specs.declared.clock.ClockId.{ClockId}
use Rattle.clk_base.specs.declared.event.Event.TheVariants as event
use Rattle.clk_base.specs.declared.event.Errno.TheVariants as errno
use Rattle.clk_base.specs.declared.event.Reply.TheVariants as reply
use Rattle.clk_base.specs.declared.event.Turn.{Turn}
use Rattle.clk_base.specs.declared.event.Turn.TheVariants as turn
use Rattle.clk_base.specs.declared.handle.Handle.{Handle}
use Rattle.clk_model.specs.Begin.{done, refused, starts, change_of, change_along, put_handle, held_once_more, request, request_between, reparenting, parent_set, register, begun}
use Rattle.clk_model.specs.Chain.{chain}
use Rattle.clk_model.specs.Journal.{slotless}
use Rattle.clk_model.specs.Laws.CallCauses.{with_limits}
use Rattle.clk_model.specs.Machine.{next}
use Rattle.clk_model.specs.Round.{wiring, round_rate}
use Rattle.clk_model.specs.Script.{probe_script, sweep_script}
use Rattle.clk_model.specs.State.{State, Change}
use Rattle.clk_model.specs.Views.{view, lift}
use Rattle.clk_model.proofs.Cases.{by_found, by_plan}
use Rattle.clk_model.proofs.FlightLaws.{begin_is}
use Rattle.clk_model.proofs.TierLaws.{pick_either, with_handle_either}
use Rattle.clk_machine.specs.Along.{clock_got}

-- an answer that is no handle
abbrev Other : State × Turn → Type 0
Other y = (h : Handle) → y.1 ≡ turn.Done (reply.Handle h) → ⊥

starts_other : (s new : State) (k : Change) → Other (starts s new k)
starts_other s new k = pick_either Other _ _ _ (λ e h is. absurd cc) (λ e h is. absurd cc)

request_other : (s new fine lifted : State) (d : ℕ) (what : Sleeping) (c x : ℕ) (range : Option (ℕ × ℕ)) → Other (request s new fine lifted d what c x range)
request_other s new fine lifted d what c x range =
    pick_either Other _ _ _ (λ e h is. absurd cc) (λ e. pick_either Other _ _ _ (λ g h is. absurd cc) (λ g. by_plan Other (chain (wiring new) (view lifted) c x) _ _ (λ h is. absurd cc)
    (λ ks. starts_other s new (change_along new d what ks [] range))))

parent_other : (s lifted : State) (d : ℕ) (what : Sleeping) (c p : ℕ) → Other (parent_set s lifted d what c p)
parent_other s lifted d what c p =
    pick_either Other _ _ _ (λ e h is. absurd cc) (λ e. pick_either Other _ _ _ (λ f h is. absurd cc) (λ f. pick_either Other _ _ _ (λ g h is. absurd cc)
    (λ g. pick_either Other _ _ _ (λ i. starts_other s s (reparenting s d what c p)) (λ i h is. absurd cc))))

-- a call that gets none isn't answered by one
none_given : (s : State) (d : ℕ) (what : Sleeping) → clock_got what ≡ None → Other (begun s d what)
unfolding begun
none_given s d (call.Get None) none = λ h is. absurd cc
none_given s d (call.Get (Some c)) none = absurd cc
none_given s d (call.Put h) none = with_handle_either Other s d h.number _ (λ i is. absurd cc) (λ row own. pick_either Other _ _ _ (λ e i is. absurd cc) (λ e i is. absurd cc))
none_given s d (call.Prepare h) none =
    with_handle_either Other s d h.number _ (λ i is. absurd cc)
    (λ row own. pick_either Other _ _ _ (λ e i is. absurd cc) (λ e. starts_other s s (change_of s d (call.Prepare h) (micro.Raise row.clock ∷ micro.End ∷ []))))
none_given s d (call.Unprepare h) none =
    with_handle_either Other s d h.number _ (λ i is. absurd cc) (λ row own. pick_either Other _ _ _ (λ e i is. absurd cc) (λ e. pick_either Other _ _ _ (λ f i is. absurd cc)
    (λ f. starts_other s (put_handle s h.number (Some (record row { prepares = row.prepares - 1 }))) (change_of s d (call.Unprepare h) (micro.Lower row.clock ∷ micro.End ∷ [])))))
none_given s d (call.GetRate h) none = with_handle_either Other s d h.number _ (λ i is. absurd cc) (λ row own i is. absurd cc)
none_given s d (call.RoundRate h x) none = with_handle_either Other s d h.number _ (λ i is. absurd cc) (λ row own. by_found Other (round_rate (wiring s) (view (lift s h.number)) row.clock.0 x) (λ r. done s (reply.Rate r)) (refused s errno.EINVAL) (λ i is. absurd cc) (λ y i is. absurd cc))
none_given s d (call.SetRate h x) none =
    with_handle_either Other s d h.number _ (λ i is. absurd cc) (λ row own. request_other s s s (lift s h.number) d (call.SetRate h x) row.clock.0 x None)
none_given s d (call.SetRateExclusive h x) none =
    with_handle_either Other s d h.number _ (λ i is. absurd cc) (λ row own. request_other s s (held_once_more s h.number row) s d (call.SetRateExclusive h x) row.clock.0 x None)
none_given s d (call.SetRange h least most) none =
    with_handle_either Other s d h.number _ (λ i is. absurd cc) (λ row own. pick_either Other _ _ _ (λ e i is. absurd cc)
    (λ e. request_other s (with_limits s h.number row least most) (with_limits s h.number row least most) (lift (with_limits s h.number row least most) h.number) d (call.SetRange h least most)
    row.clock.0 (request_between s.clocks row.clock.0 least most) (Some (row.min, row.max))))
none_given s d (call.SetParent h p) none = with_handle_either Other s d h.number _ (λ i is. absurd cc) (λ row own. parent_other s (lift s h.number) d (call.SetParent h p) row.clock.0 p.0)
none_given s d (call.GetParent h) none = with_handle_either Other s d h.number _ (λ i is. absurd cc) (λ row own i is. absurd cc)
none_given s d (call.ExclusiveGet h) none = with_handle_either Other s d h.number _ (λ i is. absurd cc) (λ row own i is. absurd cc)
none_given s d (call.ExclusivePut h) none = with_handle_either Other s d h.number _ (λ i is. absurd cc) (λ row own. pick_either Other _ _ _ (λ e i is. absurd cc) (λ e i is. absurd cc))
none_given s d (call.NotifierAdd h id priority policy) none =
    with_handle_either Other s d h.number _ (λ i is. absurd cc) (λ row own. pick_either Other _ _ _ (λ e i is. absurd cc) (λ e. pick_either Other _ _ _ (λ f i is. absurd cc) (λ f i is. absurd cc)))
none_given s d (call.NotifierRemove h id) none = with_handle_either Other s d h.number _ (λ i is. absurd cc) (λ row own. pick_either Other _ _ _ (λ e i is. absurd cc) (λ e i is. absurd cc))
none_given s d (call.Probe c) none =
    pick_either Other _ _ _ (λ e i is. absurd cc) (λ e. pick_either Other _ _ _ (λ f i is. absurd cc) (λ f. starts_other s s (change_of s d (call.Probe c) (probe_script (register s c.0) c.0))))
none_given s d call.Sweep none = pick_either Other _ _ _ (λ e i is. absurd cc) (λ e. starts_other s s (change_of s d call.Sweep (sweep_script s)))

-- so no state takes such a call with a handle
pub never_given : (s t : State) (d : ℕ) (what : Sleeping) (h : Handle) → clock_got what ≡ None → next s d (event.Begin what) ≡ Some (t, slotless (turn.Done (reply.Handle h))) → ⊥
never_given s t d what h none step = none_given s d what none (record h { slot = 0 }) (begin_is s t d what (slotless (turn.Done (reply.Handle h))) step).2

-- and one that gets a clock's is a get
pub got_by : (what : Sleeping) (c : ClockId) → clock_got what ≡ Some c → what ≡ call.Get (Some c)
got_by (call.Get found) c is = ap call.Get is
got_by (call.Put h) c is = absurd cc
got_by (call.Prepare h) c is = absurd cc
got_by (call.Unprepare h) c is = absurd cc
got_by (call.GetRate h) c is = absurd cc
got_by (call.RoundRate h x) c is = absurd cc
got_by (call.SetRate h x) c is = absurd cc
got_by (call.SetRateExclusive h x) c is = absurd cc
got_by (call.SetRange h least most) c is = absurd cc
got_by (call.SetParent h p) c is = absurd cc
got_by (call.GetParent h) c is = absurd cc
got_by (call.ExclusiveGet h) c is = absurd cc
got_by (call.ExclusivePut h) c is = absurd cc
got_by (call.NotifierAdd h id priority policy) c is = absurd cc
got_by (call.NotifierRemove h id) c is = absurd cc
got_by (call.Probe p) c is = absurd cc
got_by call.Sweep c is = absurd cc
