-- Laws on how calls begin: what each beginning comes to, in one list of cases.
use Rattle.std.proofs.Common.{◌≡◌, ℕ, ◌+◌, ◌-◌, ◌||◌, ◌&&◌, Bool, true, false, not, List, [], ◌∷◌, Option, Some, None, refl}
use Rattle.std.specs.Prelude.{slice_get, is_none, is_some, option_map}
use Rattle.std.specs.Option.{option_map_or}
use Rattle.clk_base.specs.declared.call.Micro.TheVariants as micro
use Rattle.clk_base.specs.declared.call.Sleeping.{Sleeping}
use Rattle.clk_base.specs.declared.call.Sleeping.TheVariants as call
use Rattle.clk_base.specs.declared.clock.ClockId.{ClockId}
use Rattle.clk_base.specs.declared.event.Errno.TheVariants as errno
use Rattle.clk_base.specs.declared.event.Reply.{Reply}
use Rattle.clk_base.specs.declared.event.Reply.TheVariants as reply
use Rattle.clk_base.specs.declared.event.Turn.{Turn}
use Rattle.clk_base.specs.declared.event.Turn.TheVariants as turn
use Rattle.clk_base.specs.declared.handle.Handle.{Handle}
use Rattle.clk_base.specs.Description.{kind_of, parents_of}
use Rattle.clk_base.specs.Flags.{is_critical}
use Rattle.clk_model.specs.declared.row.HandleRow.{HandleRow}
use Rattle.clk_model.specs.Lists.{is_in, is_at}
use Rattle.clk_model.specs.Kinds.{mux_field}
use Rattle.clk_model.specs.State.{State, Change, ChainStep, NotifierRow, registered, link_in, handle_at}
use Rattle.clk_model.specs.Tree.{rooted, path, path_to_be}
use Rattle.clk_model.specs.Round.{wiring, round_rate, View}
use Rattle.clk_model.specs.Chain.{chain}
use Rattle.clk_model.specs.Views.{view, lift}
use Rattle.clk_model.specs.Script.{unprepared_plls, adoptable, probe_script, sweep_script}
use Rattle.clk_model.specs.Begin.{done, refused, starts, change_of, change_along, put_handle, with_handle, given, got, holds_something, put_back, prepared_once_more, prepare, keeps_prepare, unprepare, rounded, request, held_once_more, range_set, request_between, reparenting, parent_set, exclusive_put, notifier_added, notifier_removed, register, probed, begun}
use Rattle.clk_model.specs.Step.{sets_parent}
use Rattle.clk_model.proofs.Members.{both_left, both_right}
use Rattle.clk_model.proofs.EventLaws.{own_is_live}
use Rattle.clk_model.proofs.TierLaws.{pick_either, with_handle_either}
use Rattle.clk_model.proofs.Cases.{by_found}

-- ---- calls that go on

-- whether the call changes a rate
abbrev pub changes_rate : Sleeping → Bool
changes_rate (call.SetRate h x) = true
changes_rate (call.SetRateExclusive h x) = true
changes_rate (call.SetRange h least most) = true
changes_rate _ = false

-- a handle whose range or exclusives change, and nothing else
pub record Adjusts (s : State) (number : ℕ) (old new : HandleRow) : Type 0 where
  pub at : handle_at s.handles number ≡ Some old
  pub clock : new.clock ≡ old.clock
  pub prepares : new.prepares ≡ old.prepares
  pub enables : new.enables ≡ old.enables

-- the state over which a change of rates is planned: the one before the call, or with another range of its handle
pub data IsPlannedOver (s : State) : State → Type 0 where
  over_itself : IsPlannedOver s s
  over_range : (number : ℕ) (old new : HandleRow) → Adjusts s number old new → IsPlannedOver s (put_handle s number (Some new))

-- how a call that goes on begins: the state that its change is made in, and the change
pub data Starts (s : State) (d : ℕ) (what : Sleeping) : State → Change → Type 0 where
  raising_handle : (h : Handle) (row : HandleRow) → what ≡ call.Prepare h → handle_at s.handles h.number ≡ Some row
      → Starts s d what s (change_of s d what (micro.Raise row.clock ∷ micro.End ∷ []))
  lowering_handle : (h : Handle) (row : HandleRow) → what ≡ call.Unprepare h → handle_at s.handles h.number ≡ Some row → keeps_prepare row ≡ false
      → Starts s d what (put_handle s h.number (Some (record row { prepares = row.prepares - 1 })))
      (change_of s d what (micro.Lower row.clock ∷ micro.End ∷ []))
  planning : (n : State) (number : ℕ) (row : HandleRow) (plans_over : View) (x : ℕ) (ks : List ChainStep) (range : Option (ℕ × ℕ)) → IsPlannedOver s n
      → handle_at s.handles number ≡ Some row → chain (wiring n) plans_over row.clock.0 x ≡ Some ks
      → changes_rate what ≡ true → Starts s d what n (change_along n d what ks [] range)
  reparents : (number : ℕ) (row : HandleRow) (p : ℕ) → sets_parent what ≡ true → handle_at s.handles number ≡ Some row → is_at p (link_in s.clocks row.clock.0) ≡ false
      → is_some (mux_field (kind_of s.defs row.clock.0)) ≡ true → is_in p (parents_of s.defs row.clock.0) ≡ true → rooted s.defs s.clocks p ≡ true
      → Starts s d what s (reparenting s d what row.clock.0 p)
  probing : (c : ClockId) → what ≡ call.Probe c → registered s.clocks c.0 ≡ false → Starts s d what s (change_of s d what (probe_script (register s c.0) c.0))
  sweeping : what ≡ call.Sweep → Starts s d what s (change_of s d what (sweep_script s))

-- ---- each call

-- how a call begins: it is answered and nothing changes; a handle is given, taken, adjusted, or has a prepare more or less; the notifiers
-- change; a clock is registered; or it goes on
pub data Begins (s : State) (d : ℕ) (what : Sleeping) : State × Turn → Type 0 where
  answers : (r : Reply) → Begins s d what (s, turn.Done r)
  gives : (c : ℕ) → rooted s.defs s.clocks c ≡ true → Begins s d what (given s d c)
  takes : (number : ℕ) (row : HandleRow) → handle_at s.handles number ≡ Some row → holds_something row ≡ false → Begins s d what (put_handle s number None, turn.Done reply.Fine)
  adjusts : (number : ℕ) (old new : HandleRow) (r : Reply) → Adjusts s number old new → Begins s d what (put_handle s number (Some new), turn.Done r)
  prepares : (number : ℕ) (row : HandleRow) → handle_at s.handles number ≡ Some row → is_none (slice_get (unprepared_plls s (path s.clocks row.clock.0)) 0) ≡ true
      → Begins s d what (prepared_once_more s number row, turn.Done reply.Fine)
  unprepares : (number : ℕ) (row : HandleRow) → handle_at s.handles number ≡ Some row → keeps_prepare row ≡ false
      → Begins s d what (put_handle s number (Some (record row { prepares = row.prepares - 1 })), turn.Done reply.Fine)
  notes : (notifiers : List NotifierRow) (r : Reply) → Begins s d what (record s { notifiers = notifiers }, turn.Done r)
  registers : (c : ℕ) → registered s.clocks c ≡ false → (not (is_critical s.defs c) || is_none (slice_get (unprepared_plls s (path_to_be s.defs s.regs s.clocks c)) 0)) ≡ true
      → Begins s d what (register s c, turn.Done reply.Fine)
  goes_on : (n : State) (k : Change) → Starts s d what n k → Begins s d what (record n { change = Some k }, turn.Going)

starts_begins : (s n : State) (d : ℕ) (what : Sleeping) (k : Change) → Starts s d what n k → Begins s d what (starts s n k)
starts_begins s n d what k h = pick_either (Begins s d what) _ _ _ (λ e. answers (reply.Refused errno.ENOSPC)) (λ e. goes_on n k h)

on_handle : (s : State) (d : ℕ) (what : Sleeping) (number : ℕ) (f : HandleRow → State × Turn) → ((row : HandleRow) → handle_at s.handles number ≡ Some row → Begins s d what (f row))
    → Begins s d what (with_handle s d number f)
on_handle s d what number f each =
    with_handle_either (Begins s d what) s d number f (answers (reply.Refused errno.ENOENT)) (λ row own. each row (own_is_live s d number row own))

by_plan : (P : State × Turn → Type 0) (o : Option (List ChainStep)) (f : List ChainStep → State × Turn) (x : State × Turn) → P x → ((ks : List ChainStep) → o ≡ Some ks → P (f ks)) → P (option_map_or f o x)
by_plan P None f x none some = none
by_plan P (Some ks) f x none some = some ks refl

got_begins : (s : State) (d : ℕ) (what : Sleeping) (found : Option ℕ) → Begins s d what (got s d found)
got_begins s d what None = answers (reply.Refused errno.ENOENT)
got_begins s d what (Some c) = pick_either (Begins s d what) _ _ _ (λ e. gives c e) (λ e. answers (reply.Refused errno.EPROBE_DEFER))

request_begins : (s n fine lifted : State) (d : ℕ) (what : Sleeping) (number : ℕ) (row : HandleRow) (x : ℕ) (range : Option (ℕ × ℕ)) → IsPlannedOver s n → handle_at s.handles number ≡ Some row
    → changes_rate what ≡ true → Begins s d what (done fine reply.Fine) → Begins s d what (request s n fine lifted d what row.clock.0 x range)
request_begins s n fine lifted d what number row x range over at rates now =
    pick_either (Begins s d what) _ _ _ (λ e. now)
    (λ e. pick_either (Begins s d what) _ _ _ (λ e'. answers (reply.Refused errno.EBUSY))
    (λ e'. by_plan (Begins s d what) (chain (wiring n) (view lifted) row.clock.0 x) (λ ks. starts s n (change_along n d what ks [] range)) (refused s errno.EINVAL)
    (answers (reply.Refused errno.EINVAL))
    (λ ks planned. starts_begins s n d what (change_along n d what ks [] range) (planning n number row (view lifted) x ks range over at planned rates))))

range_begins : (s : State) (d : ℕ) (h : Handle) (least most : ℕ) (row : HandleRow) → handle_at s.handles h.number ≡ Some row
    → Begins s d (call.SetRange h least most) (range_set s d (call.SetRange h least most) h.number row least most)
range_begins s d h least most row at =
    let new : HandleRow = record row { min = least; max = most } in
    let n : State = put_handle s h.number (Some new) in
    let adjusted : Adjusts s h.number row new = record { at = at; clock = refl; prepares = refl; enables = refl } in
    pick_either (Begins s d (call.SetRange h least most)) _ _ _ (λ e. answers (reply.Refused errno.EINVAL))
    (λ e. request_begins s n n (lift n h.number) d (call.SetRange h least most) h.number row (request_between s.clocks row.clock.0 least most) (Some (row.min, row.max)) (over_range h.number row new adjusted) at refl
    (adjusts h.number row new reply.Fine adjusted))

parent_begins : (s lifted : State) (d : ℕ) (what : Sleeping) (number : ℕ) (row : HandleRow) (p : ℕ) → handle_at s.handles number ≡ Some row → sets_parent what ≡ true
    → Begins s d what (parent_set s lifted d what row.clock.0 p)
parent_begins s lifted d what number row p at sets =
    pick_either (Begins s d what) _ _ _ (λ e. answers reply.Fine)
    (λ e. pick_either (Begins s d what) _ _ _ (λ e'. answers (reply.Refused errno.EPERM))
    (λ e'. pick_either (Begins s d what) _ _ _ (λ f. answers (reply.Refused errno.EBUSY))
    (λ f. pick_either (Begins s d what) _ _ _
    (λ g.
    let first = both_left (is_some (mux_field (kind_of s.defs row.clock.0)) && is_in p (parents_of s.defs row.clock.0)) (rooted s.defs s.clocks p) g in
    starts_begins s s d what (reparenting s d what row.clock.0 p)
    (reparents number row p sets at e (both_left (is_some (mux_field (kind_of s.defs row.clock.0))) (is_in p (parents_of s.defs row.clock.0)) first)
    (both_right (is_some (mux_field (kind_of s.defs row.clock.0))) (is_in p (parents_of s.defs row.clock.0)) first)
    (both_right (is_some (mux_field (kind_of s.defs row.clock.0)) && is_in p (parents_of s.defs row.clock.0)) (rooted s.defs s.clocks p) g)))
    (λ g. answers (reply.Refused errno.EINVAL)))))

prepare_begins : (s : State) (d : ℕ) (h : Handle) (row : HandleRow) → handle_at s.handles h.number ≡ Some row → Begins s d (call.Prepare h) (prepare s d (call.Prepare h) h.number row)
prepare_begins s d h row at =
    pick_either (Begins s d (call.Prepare h)) _ _ _ (λ e. prepares h.number row at e)
    (λ e. starts_begins s s d (call.Prepare h) (change_of s d (call.Prepare h) (micro.Raise row.clock ∷ micro.End ∷ [])) (raising_handle h row refl at))

unprepare_begins : (s : State) (d : ℕ) (h : Handle) (row : HandleRow) → handle_at s.handles h.number ≡ Some row → Begins s d (call.Unprepare h) (unprepare s d (call.Unprepare h) h.number row)
unprepare_begins s d h row at =
    let less : State = put_handle s h.number (Some (record row { prepares = row.prepares - 1 })) in
    pick_either (Begins s d (call.Unprepare h)) _ _ _ (λ e. answers reply.Warn)
    (λ e. pick_either (Begins s d (call.Unprepare h)) _ _ _ (λ f. unprepares h.number row at e)
    (λ f. starts_begins s less d (call.Unprepare h) (change_of s d (call.Unprepare h) (micro.Lower row.clock ∷ micro.End ∷ [])) (lowering_handle h row refl at e)))

adjusted_once : (s : State) (d : ℕ) (what : Sleeping) (number : ℕ) (row : HandleRow) (exclusives : ℕ) (r : Reply) → handle_at s.handles number ≡ Some row
    → Begins s d what (put_handle s number (Some (record row { exclusives = exclusives })), turn.Done r)
adjusted_once s d what number row exclusives r at = adjusts number row (record row { exclusives = exclusives }) r (record { at = at; clock = refl; prepares = refl; enables = refl })

probe_begins : (s : State) (d : ℕ) (c : ClockId) → Begins s d (call.Probe c) (probed s d (call.Probe c) c.0)
probe_begins s d c =
    pick_either (Begins s d (call.Probe c)) _ _ _ (λ e. answers (reply.Refused errno.EEXIST))
    (λ e. pick_either (Begins s d (call.Probe c)) _ _ _ (λ f. registers c.0 e (both_right (is_none (slice_get (adoptable (register s c.0)) 0)) _ f))
    (λ f. starts_begins s s d (call.Probe c) (change_of s d (call.Probe c) (probe_script (register s c.0) c.0)) (probing c refl e)))

-- each call begins so
pub begins_so : (s : State) (d : ℕ) (what : Sleeping) → Begins s d what (begun s d what)
unfolding begun
begins_so s d (call.Get found) = got_begins s d (call.Get found) (option_map (λ c. c.0) found)
begins_so s d (call.Put h) =
    on_handle s d (call.Put h) h.number (put_back s h.number)
    (λ row at. pick_either (Begins s d (call.Put h)) _ _ _ (λ e. answers (reply.Refused errno.EBUSY)) (λ e. takes h.number row at e))
begins_so s d (call.Prepare h) = on_handle s d (call.Prepare h) h.number (prepare s d (call.Prepare h) h.number) (λ row at. prepare_begins s d h row at)
begins_so s d (call.Unprepare h) = on_handle s d (call.Unprepare h) h.number (unprepare s d (call.Unprepare h) h.number) (λ row at. unprepare_begins s d h row at)
begins_so s d (call.GetRate h) = on_handle s d (call.GetRate h) h.number _ (λ row at. answers _)
begins_so s d (call.RoundRate h x) =
    on_handle s d (call.RoundRate h x) h.number (λ row. rounded s h.number row x)
    (λ row at. by_found (Begins s d (call.RoundRate h x)) (round_rate (wiring s) (view (lift s h.number)) row.clock.0 x) (λ r. done s (reply.Rate r)) (refused s errno.EINVAL) (answers (reply.Refused errno.EINVAL)) (λ r. answers (reply.Rate r)))
begins_so s d (call.SetRate h x) =
    on_handle s d (call.SetRate h x) h.number (λ row. request s s s (lift s h.number) d (call.SetRate h x) row.clock.0 x None)
    (λ row at. request_begins s s s (lift s h.number) d (call.SetRate h x) h.number row x None over_itself at refl (answers reply.Fine))
begins_so s d (call.SetRateExclusive h x) =
    on_handle s d (call.SetRateExclusive h x) h.number (λ row. request s s (held_once_more s h.number row) s d (call.SetRateExclusive h x) row.clock.0 x None)
    (λ row at. request_begins s s (held_once_more s h.number row) s d (call.SetRateExclusive h x) h.number row x None over_itself at refl
    (adjusted_once s d (call.SetRateExclusive h x) h.number row (row.exclusives + 1) reply.Fine at))
begins_so s d (call.SetRange h least most) =
    on_handle s d (call.SetRange h least most) h.number (λ row. range_set s d (call.SetRange h least most) h.number row least most) (λ row at. range_begins s d h least most row at)
begins_so s d (call.SetParent h p) =
    on_handle s d (call.SetParent h p) h.number (λ row. parent_set s (lift s h.number) d (call.SetParent h p) row.clock.0 p.0)
    (λ row at. parent_begins s (lift s h.number) d (call.SetParent h p) h.number row p.0 at refl)
begins_so s d (call.GetParent h) = on_handle s d (call.GetParent h) h.number _ (λ row at. answers _)
begins_so s d (call.ExclusiveGet h) =
    on_handle s d (call.ExclusiveGet h) h.number (λ row. done (held_once_more s h.number row) reply.Fine) (λ row at. adjusted_once s d (call.ExclusiveGet h) h.number row (row.exclusives + 1) reply.Fine at)
begins_so s d (call.ExclusivePut h) =
    on_handle s d (call.ExclusivePut h) h.number (exclusive_put s h.number)
    (λ row at. pick_either (Begins s d (call.ExclusivePut h)) _ _ _ (λ e. answers reply.Warn) (λ e. adjusted_once s d (call.ExclusivePut h) h.number row (row.exclusives - 1) reply.Fine at))
begins_so s d (call.NotifierAdd h id priority policy) =
    on_handle s d (call.NotifierAdd h id priority policy) h.number (λ row. notifier_added s row.clock.0 id priority policy)
    (λ row at. pick_either (Begins s d (call.NotifierAdd h id priority policy)) _ _ _ (λ e. answers (reply.Refused errno.EEXIST))
    (λ e. pick_either (Begins s d (call.NotifierAdd h id priority policy)) _ _ _ (λ f. answers (reply.Refused errno.ENOSPC)) (λ f. notes _ reply.Fine)))
begins_so s d (call.NotifierRemove h id) =
    on_handle s d (call.NotifierRemove h id) h.number (λ row. notifier_removed s row.clock.0 id)
    (λ row at. pick_either (Begins s d (call.NotifierRemove h id)) _ _ _ (λ e. notes _ reply.Fine) (λ e. answers (reply.Refused errno.ENOENT)))
begins_so s d (call.Probe c) = probe_begins s d c
begins_so s d call.Sweep =
    pick_either (Begins s d call.Sweep) _ _ _ (λ e. answers reply.Fine) (λ e. starts_begins s s d call.Sweep (change_of s d call.Sweep (sweep_script s)) (sweeping refl))
