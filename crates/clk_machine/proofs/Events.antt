-- Each event that can come leaves a sound state sound.
use Rattle.std.proofs.Common.{◌≡◌, ℕ, zero, suc, ◌+◌, ◌-◌, ◌<◌, ◌||◌, Bool, true, false, List, [], ◌∷◌, Option, Some, None, refl, sym, subst, ◌∙◌, arith, length, nat_lt, nat_le, filter, reverse}
use Rattle.std.specs.Prelude.{is_none, slice_get, if◌then◌else◌}
use Rattle.std.specs.Option.{option_map_or}
use Rattle.std.proofs.lemmas.Bool.Decides.{nat_tests}
use Rattle.clk_base.specs.declared.call.Micro.{Micro}
use Rattle.clk_base.specs.declared.call.Micro.TheVariants as micro
use Rattle.clk_base.specs.declared.call.Sleeping.{Sleeping}
use Rattle.clk_base.specs.declared.call.Sleeping.TheVariants as call
use Rattle.clk_base.specs.declared.clock.ClockId.{ClockId}
use Rattle.clk_base.specs.declared.event.Event.{Event}
use Rattle.clk_base.specs.declared.event.Event.TheVariants as event
use Rattle.clk_base.specs.declared.event.Errno.TheVariants as errno
use Rattle.clk_base.specs.declared.event.Turn.{Turn}
use Rattle.clk_base.specs.declared.event.Turn.TheVariants as turn
use Rattle.clk_base.specs.declared.handle.Handle.{Handle}
use Rattle.clk_model.specs.declared.row.HandleRow.{HandleRow}
use Rattle.clk_model.specs.Chain.{chain}
use Rattle.clk_model.specs.Laws.CallCauses.{with_limits}
use Rattle.clk_model.specs.State.{State, Change, ChainStep, registered, link_in, handle_at, requested}
use Rattle.clk_model.specs.Tree.{rooted, path, children}
use Rattle.clk_model.specs.Script.{unprepared_plls, runs, probe_script, sweep_script}
use Rattle.reg_bank.specs.Registers.{Registers}
use Rattle.clk_model.specs.Step.{taken, on, to_raise, raise_one, to_lower, lower_one, passed_over, ended_well, unranged, is_yes, stepped}
use Rattle.clk_model.specs.Holders.{active}
use Rattle.clk_model.specs.Gates.{settled}
use Rattle.clk_model.specs.Begin.{refused, starts, change_of, weight_of, most_credits, put_handle, own_handle, given, register, keeps_prepare, prepare, unprepare, prepared_once_more, held_once_more, request_between, change_along, request, misses, range_set, reparenting, parent_set, holds_something, has_notifier, most_notifiers, begun}
use Rattle.clk_model.specs.Machine.{paid, next}
use Rattle.clk_model.proofs.StateLaws.{settled-still, active-append}
use Rattle.clk_model.proofs.EventLaws.{enable-unknown, enable-unprepared, enable-fine, disable-unknown, disable-warned, disable-fine, running-unknown, running-told, get-not_found, get-deferred, get-given, put-unknown, put-busy, put-fine, rate-unknown, rate-told, parent-unknown, parent-told}
use Rattle.clk_model.specs.Notices.{notifiers_of}
use Rattle.clk_model.specs.Round.{wiring, round_rate}
use Rattle.clk_model.specs.Views.{view, lift}
use Rattle.clk_machine.specs.Holding.{notified, unnotified}
use Rattle.clk_machine.proofs.CallEvents.{exclusive_get-unknown, exclusive_get-fine, exclusive_put-unknown, exclusive_put-warned, exclusive_put-fine, notifier_add-unknown, notifier_add-known, notifier_add-full, notifier_add-fine, notifier_remove-unknown, notifier_remove-lacking, notifier_remove-fine, round-unknown, round-told, round-none}
use Rattle.clk_machine.specs.Sound.{IsNarrow, links_well, CanTake}
use Rattle.clk_model.proofs.FlightLaws.{begin_is, step_is}
use Rattle.clk_model.proofs.TierLaws.{pick_either, with_handle_either}
use Rattle.clk_machine.proofs.Stepping.{polled_change}
use Rattle.clk_machine.proofs.Relinked.{IsNarrow-linked, IsNarrow-settle}
use Rattle.clk_model.proofs.Members.{both_left, both_right}
use Rattle.clk_model.specs.Walk.{below_within}
use Rattle.clk_model.proofs.SupplyLaws.{paid_is}
use Rattle.clk_base.specs.Levels.{depth}
use Rattle.clk_machine.proofs.Attaching.{IsNarrow-register}
use Rattle.core_parts.proofs.Closing.{closed_regs}
use Rattle.clk_machine.proofs.Kept.{IsNarrow-settled, IsNarrow-requested}

-- ---- paid events

-- so an event that is known to come to a state that is sound once its gates are settled leaves it sound
comes_to : (words : ℕ) (s y t : State) (d : ℕ) (e : Event) (a b : Turn) → IsNarrow words (settled s y) → next s d e ≡ paid s (y, a) → next s d e ≡ Some (t, b) → IsNarrow words t
comes_to words s y t d e a b sound known comes =
    subst (IsNarrow words) (sym (paid_is s y t a b (sym known ∙ comes))) sound

-- no gate moves where each clock is active as it was
stills : (words : ℕ) (s y : State) → ((c : ℕ) → active s c ≡ active y c) → IsNarrow words y → IsNarrow words (settled s y)
stills words s y same sound = subst (IsNarrow words) (sym (settled-still s y same)) sound

-- an event that leaves the state as it is
same_sound : (words : ℕ) (s t : State) (d : ℕ) (e : Event) (a b : Turn) → IsNarrow words s → next s d e ≡ paid s (s, a) → next s d e ≡ Some (t, b) → IsNarrow words t
same_sound words s t d e a b sound known comes = comes_to words s s t d e a b (stills words s s (λ c. refl) sound) known comes

-- a handle in the place of another of the same clock
put_sound : (words : ℕ) (s t : State) (n d : ℕ) (e : Event) (a b : Turn) (o : Option HandleRow) → IsNarrow words s → next s d e ≡ paid s (put_handle s n o, a)
    → next s d e ≡ Some (t, b) → IsNarrow words t
put_sound words s t n d e a b o sound known comes = comes_to words s (put_handle s n o) t d e a b (IsNarrow-settled words s (put_handle s n o) sound) known comes

-- ---- the enable tier

enable_sound : (words : ℕ) (s t : State) (d n : ℕ) (x : Turn) → IsNarrow words s → next s d (event.Enable n) ≡ Some (t, x) → IsNarrow words t
enable_sound words s t d n x sound comes = by (own_handle s d n) refl where
  prepared : (h : HandleRow) (p : ℕ) → own_handle s d n ≡ Some h → h.prepares ≡ p → IsNarrow words t
  prepared h zero own none = same_sound words s t d (event.Enable n) _ x sound (enable-unprepared s d n h own none) comes
  prepared h (suc p) own some =
      let positive : 0 < h.prepares = omega arith in
      put_sound words s t n d (event.Enable n) _ x (Some (record h { enables = h.enables + 1 })) sound (enable-fine s d n h own positive) comes

  by : (o : Option HandleRow) → own_handle s d n ≡ o → IsNarrow words t
  by None lacks = same_sound words s t d (event.Enable n) _ x sound (enable-unknown s d n lacks) comes
  by (Some h) own = prepared h h.prepares own refl

disable_sound : (words : ℕ) (s t : State) (d n : ℕ) (x : Turn) → IsNarrow words s → next s d (event.Disable n) ≡ Some (t, x) → IsNarrow words t
disable_sound words s t d n x sound comes = by (own_handle s d n) refl where
  enabled : (h : HandleRow) (k : ℕ) → own_handle s d n ≡ Some h → h.enables ≡ k → IsNarrow words t
  enabled h zero own none = same_sound words s t d (event.Disable n) _ x sound (disable-warned s d n h own none) comes
  enabled h (suc k) own some =
      put_sound words s t n d (event.Disable n) _ x (Some (record h { enables = h.enables - 1 })) sound (disable-fine s d n h own (omega arith)) comes

  by : (o : Option HandleRow) → own_handle s d n ≡ o → IsNarrow words t
  by None lacks = same_sound words s t d (event.Disable n) _ x sound (disable-unknown s d n lacks) comes
  by (Some h) own = enabled h h.enables own refl

running_sound : (words : ℕ) (s t : State) (d n : ℕ) (x : Turn) → IsNarrow words s → next s d (event.Running n) ≡ Some (t, x) → IsNarrow words t
running_sound words s t d n x sound comes = by (own_handle s d n) refl where
  by : (o : Option HandleRow) → own_handle s d n ≡ o → IsNarrow words t
  by None lacks = same_sound words s t d (event.Running n) _ x sound (running-unknown s d n lacks) comes
  by (Some h) own = same_sound words s t d (event.Running n) _ x sound (running-told s d n h own) comes

-- ---- calls that may go on

-- what an event leaves is sound with its gates settled
abbrev Stays : ℕ → State → State × Turn → Type 0
Stays words s x = IsNarrow words (settled s x.0)

refused_stays : (words : ℕ) (s : State) → IsNarrow words s → IsNarrow words (settled s s)
refused_stays words s sound = IsNarrow-settled words s s sound

starts_stays : (words : ℕ) (s new : State) (k : Change) → IsNarrow words s → IsNarrow words new → Stays words s (starts s new k)
starts_stays words s new k sound after =
    pick_either (Stays words s) (nat_lt most_credits (new.credits + new.steps + weight_of new k)) (λ t. refused s errno.ENOSPC) (λ t. (record new { change = Some k }, turn.Going))
    (λ full. refused_stays words s sound)
    (λ room. IsNarrow-settled words s (record new { change = Some k }) after)

prepare_stays : (words : ℕ) (s : State) (d : ℕ) (h : Handle) → IsNarrow words s → Stays words s (begun s d (call.Prepare h))
unfolding begun
prepare_stays words s d h sound =
    with_handle_either (Stays words s) s d h.number (prepare s d (call.Prepare h) h.number) (refused_stays words s sound)
    (λ row own. pick_either (Stays words s) (is_none (slice_get (unprepared_plls s (path s.clocks row.clock.0)) 0)) _ _
    (λ none. IsNarrow-settled words s (put_handle s h.number (Some (record row { prepares = row.prepares + 1 }))) sound)
    (λ some. starts_stays words s s (change_of s d (call.Prepare h) (micro.Raise row.clock ∷ micro.End ∷ [])) sound sound))

unprepare_stays : (words : ℕ) (s : State) (d : ℕ) (h : Handle) → IsNarrow words s → Stays words s (begun s d (call.Unprepare h))
unfolding begun
unprepare_stays words s d h sound =
    with_handle_either (Stays words s) s d h.number (unprepare s d (call.Unprepare h) h.number) (refused_stays words s sound)
    (λ row own. pick_either (Stays words s) (keeps_prepare row) _ _
    (λ keeps. refused_stays words s sound)
    (λ frees.
    let less : State = put_handle s h.number (Some (record row { prepares = row.prepares - 1 })) in
    pick_either (Stays words s) (is_none (slice_get (filter (runs s.defs s.regs) (unprepared_plls less (path s.clocks row.clock.0))) 0)) _ _
    (λ none. IsNarrow-settled words s (put_handle s h.number (Some (record row { prepares = row.prepares - 1 }))) sound)
    (λ some. starts_stays words s less (change_of s d (call.Unprepare h) (micro.Lower row.clock ∷ micro.End ∷ [])) sound
    sound)))

chosen_stays : (words : ℕ) (s new : State) (d : ℕ) (what : Sleeping) (range : Option (ℕ × ℕ)) (o : Option (List ChainStep)) → IsNarrow words s → IsNarrow words new
    → Stays words s (option_map_or (λ ks. starts s new (change_along new d what ks [] range)) o (refused s errno.EINVAL))
chosen_stays words s new d what range None sound after = refused_stays words s sound
chosen_stays words s new d what range (Some ks) sound after = starts_stays words s new (change_along new d what ks [] range) sound after

request_leaves : (words : ℕ) (s new fine lifted : State) (d : ℕ) (what : Sleeping) (c x : ℕ) (range : Option (ℕ × ℕ)) → IsNarrow words s → IsNarrow words new → IsNarrow words fine
    → Stays words s (request s new fine lifted d what c x range)
request_leaves words s new fine lifted d what c x range sound after answered =
    pick_either (Stays words s) _ _ _ (λ same. IsNarrow-settled words s fine answered)
    (λ other. pick_either (Stays words s) _ _ _ (λ guarded_. refused_stays words s sound)
    (λ free. chosen_stays words s new d what range (chain (wiring new) (view lifted) c x) sound after))

rate_stays : (words : ℕ) (s : State) (d : ℕ) (h : Handle) (x : ℕ) → IsNarrow words s → Stays words s (begun s d (call.SetRate h x))
unfolding begun
rate_stays words s d h x sound =
    with_handle_either (Stays words s) s d h.number (λ row. request s s s (lift s h.number) d (call.SetRate h x) row.clock.0 x None) (refused_stays words s sound)
    (λ row own. request_leaves words s s s (lift s h.number) d (call.SetRate h x) row.clock.0 x None sound sound sound)

exclusive_stays : (words : ℕ) (s : State) (d : ℕ) (h : Handle) (x : ℕ) → IsNarrow words s → Stays words s (begun s d (call.SetRateExclusive h x))
unfolding begun
exclusive_stays words s d h x sound =
    with_handle_either (Stays words s) s d h.number (λ row. request s s (held_once_more s h.number row) s d (call.SetRateExclusive h x) row.clock.0 x None) (refused_stays words s sound)
    (λ row own. request_leaves words s s (held_once_more s h.number row) s d (call.SetRateExclusive h x) row.clock.0 x None sound sound
    sound)

range_stays : (words : ℕ) (s : State) (d : ℕ) (h : Handle) (least most : ℕ) → IsNarrow words s → Stays words s (begun s d (call.SetRange h least most))
unfolding begun
range_stays words s d h least most sound =
    with_handle_either (Stays words s) s d h.number (λ row. range_set s d (call.SetRange h least most) h.number row least most) (refused_stays words s sound)
    (λ row own. let new : State = with_limits s h.number row least most in
    let after : IsNarrow words new = sound in
    pick_either (Stays words s) (misses s h.number row least most) _ _ (λ missed. refused_stays words s sound)
    (λ fits. request_leaves words s new new (lift new h.number) d (call.SetRange h least most) row.clock.0 (request_between s.clocks row.clock.0 least most) (Some (row.min, row.max)) sound after after))

-- so is what follows
parent_stays : (words : ℕ) (s : State) (d : ℕ) (h : Handle) (p : ClockId) → IsNarrow words s → Stays words s (begun s d (call.SetParent h p))
unfolding begun
parent_stays words s d h p sound =
    with_handle_either (Stays words s) s d h.number (λ row. parent_set s (lift s h.number) d (call.SetParent h p) row.clock.0 p.0) (refused_stays words s sound)
    (λ row own. pick_either (Stays words s) _ _ _ (λ linked. refused_stays words s sound)
    (λ other. pick_either (Stays words s) _ _ _ (λ bound. refused_stays words s sound)
    (λ free. pick_either (Stays words s) _ _ _ (λ busy. refused_stays words s sound)
    (λ calm. pick_either (Stays words s) _ _ _ (λ candidate. starts_stays words s s (reparenting s d (call.SetParent h p) row.clock.0 p.0) sound sound) (λ none. refused_stays words s sound)))))

sweep_stays : (words : ℕ) (s : State) (d : ℕ) → IsNarrow words s → Stays words s (begun s d call.Sweep)
unfolding begun
sweep_stays words s d sound =
    pick_either (Stays words s) s.ignore_unused _ _ (λ off. refused_stays words s sound) (λ goes. starts_stays words s s (change_of s d call.Sweep (sweep_script s)) sound sound)

-- and a registration
probe_stays : (words : ℕ) (s : State) (d : ℕ) (c : ClockId) → IsNarrow words s → c.0 < length s.defs → Stays words s (begun s d (call.Probe c))
unfolding begun
probe_stays words s d c sound within =
    pick_either (Stays words s) (registered s.clocks c.0) _ _ (λ known. refused_stays words s sound)
    (λ free. pick_either (Stays words s) _ _ _ (λ alone. IsNarrow-settled words s (register s c.0) (IsNarrow-register words s c.0 sound within))
    (λ goes. starts_stays words s s (change_of s d (call.Probe c) (probe_script (register s c.0) c.0)) sound sound))

leaves_sound : (words : ℕ) (s t : State) (d : ℕ) (what : Sleeping) (x : Turn) → IsNarrow words s → Stays words s (begun s d what) → next s d (event.Begin what) ≡ Some (t, x) → IsNarrow words t
leaves_sound words s t d what x sound stays comes =
    subst (IsNarrow words) (begin_is s t d what x comes).1 stays

-- ---- calls

begin_sound : (words : ℕ) (s t : State) (d : ℕ) (what : Sleeping) (x : Turn) → s.change ≡ None → IsNarrow words s → CanTake s (event.Begin what) → next s d (event.Begin what) ≡ Some (t, x) → IsNarrow words t
begin_sound words s t d (call.Get None) x quiet sound can comes =
    same_sound words s t d (event.Begin (call.Get None)) _ x sound (get-not_found s d quiet) comes
begin_sound words s t d (call.Get (Some c)) x quiet sound can comes = by (rooted s.defs s.clocks c.0) refl where
  by : (b : Bool) → rooted s.defs s.clocks c.0 ≡ b → IsNarrow words t
  by true fast =
      comes_to words s (given s d c.0).0 t d (event.Begin (call.Get (Some c))) _ x
      (stills words s (given s d c.0).0 (λ k. active-append s _ k refl) sound)
      (get-given s d c quiet fast) comes
  by false loose = same_sound words s t d (event.Begin (call.Get (Some c))) _ x sound (get-deferred s d c quiet loose) comes
begin_sound words s t d (call.Put h) x quiet sound can comes = by (own_handle s d h.number) refl where
  held : (row : HandleRow) (b : Bool) → own_handle s d h.number ≡ Some row → holds_something row ≡ b → IsNarrow words t
  held row true own holds = same_sound words s t d (event.Begin (call.Put h)) _ x sound (put-busy s d h row quiet own holds) comes
  held row false own free =
      put_sound words s t h.number d (event.Begin (call.Put h)) _ x None sound (put-fine s d h row quiet own free) comes

  by : (o : Option HandleRow) → own_handle s d h.number ≡ o → IsNarrow words t
  by None lacks = same_sound words s t d (event.Begin (call.Put h)) _ x sound (put-unknown s d h quiet lacks) comes
  by (Some row) own = held row (holds_something row) own refl
begin_sound words s t d (call.Prepare h) x quiet sound can comes = leaves_sound words s t d (call.Prepare h) x sound (prepare_stays words s d h sound) comes
begin_sound words s t d (call.Unprepare h) x quiet sound can comes = leaves_sound words s t d (call.Unprepare h) x sound (unprepare_stays words s d h sound) comes
begin_sound words s t d (call.GetRate h) x quiet sound can comes = by (own_handle s d h.number) refl where
  by : (o : Option HandleRow) → own_handle s d h.number ≡ o → IsNarrow words t
  by None lacks = same_sound words s t d (event.Begin (call.GetRate h)) _ x sound (rate-unknown s d h quiet lacks) comes
  by (Some row) own = same_sound words s t d (event.Begin (call.GetRate h)) _ x sound (rate-told s d h row quiet own) comes
begin_sound words s t d (call.GetParent h) x quiet sound can comes = by (own_handle s d h.number) refl where
  by : (o : Option HandleRow) → own_handle s d h.number ≡ o → IsNarrow words t
  by None lacks = same_sound words s t d (event.Begin (call.GetParent h)) _ x sound (parent-unknown s d h quiet lacks) comes
  by (Some row) own = same_sound words s t d (event.Begin (call.GetParent h)) _ x sound (parent-told s d h row quiet own) comes
begin_sound words s t d (call.ExclusiveGet h) x quiet sound can comes = by (own_handle s d h.number) refl where
  by : (o : Option HandleRow) → own_handle s d h.number ≡ o → IsNarrow words t
  by None lacks = same_sound words s t d (event.Begin (call.ExclusiveGet h)) _ x sound (exclusive_get-unknown s d h quiet lacks) comes
  by (Some row) own =
      put_sound words s t h.number d (event.Begin (call.ExclusiveGet h)) _ x (Some (record row { exclusives = row.exclusives + 1 })) sound (exclusive_get-fine s d h row quiet own) comes
begin_sound words s t d (call.ExclusivePut h) x quiet sound can comes = by (own_handle s d h.number) refl where
  held : (row : HandleRow) (k : ℕ) → own_handle s d h.number ≡ Some row → row.exclusives ≡ k → IsNarrow words t
  held row zero own none = same_sound words s t d (event.Begin (call.ExclusivePut h)) _ x sound (exclusive_put-warned s d h row quiet own none) comes
  held row (suc k) own some =
      put_sound words s t h.number d (event.Begin (call.ExclusivePut h)) _ x (Some (record row { exclusives = row.exclusives - 1 })) sound (exclusive_put-fine s d h row quiet own (omega arith)) comes

  by : (o : Option HandleRow) → own_handle s d h.number ≡ o → IsNarrow words t
  by None lacks = same_sound words s t d (event.Begin (call.ExclusivePut h)) _ x sound (exclusive_put-unknown s d h quiet lacks) comes
  by (Some row) own = held row row.exclusives own refl
begin_sound words s t d (call.NotifierAdd h id priority policy) x quiet sound can comes = by (own_handle s d h.number) refl where
  fits : (row : HandleRow) (b : Bool) → own_handle s d h.number ≡ Some row → has_notifier s row.clock.0 id ≡ false
      → nat_le most_notifiers (length (notifiers_of s.notifiers row.clock.0)) ≡ b → IsNarrow words t
  fits row true own new full =
      same_sound words s t d (event.Begin (call.NotifierAdd h id priority policy)) _ x sound
      (notifier_add-full s d h id priority policy row quiet own new (grind (arith, nat_tests))) comes
  fits row false own new room =
      comes_to words s (notified row.clock.0 id priority policy s) t d (event.Begin (call.NotifierAdd h id priority policy)) _ x
      (stills words s (notified row.clock.0 id priority policy s) (λ c. refl) sound)
      (notifier_add-fine s d h id priority policy row quiet own new (grind (arith, nat_tests))) comes

  known : (row : HandleRow) (b : Bool) → own_handle s d h.number ≡ Some row → has_notifier s row.clock.0 id ≡ b → IsNarrow words t
  known row true own has =
      same_sound words s t d (event.Begin (call.NotifierAdd h id priority policy)) _ x sound (notifier_add-known s d h id priority policy row quiet own has) comes
  known row false own new = fits row (nat_le most_notifiers (length (notifiers_of s.notifiers row.clock.0))) own new refl

  by : (o : Option HandleRow) → own_handle s d h.number ≡ o → IsNarrow words t
  by None lacks = same_sound words s t d (event.Begin (call.NotifierAdd h id priority policy)) _ x sound (notifier_add-unknown s d h id priority policy quiet lacks) comes
  by (Some row) own = known row (has_notifier s row.clock.0 id) own refl
begin_sound words s t d (call.NotifierRemove h id) x quiet sound can comes = by (own_handle s d h.number) refl where
  known : (row : HandleRow) (b : Bool) → own_handle s d h.number ≡ Some row → has_notifier s row.clock.0 id ≡ b → IsNarrow words t
  known row true own has =
      comes_to words s (unnotified row.clock.0 id s) t d (event.Begin (call.NotifierRemove h id)) _ x
      (stills words s (unnotified row.clock.0 id s) (λ c. refl) sound) (notifier_remove-fine s d h id row quiet own has) comes
  known row false own lacks =
      same_sound words s t d (event.Begin (call.NotifierRemove h id)) _ x sound (notifier_remove-lacking s d h id row quiet own lacks) comes

  by : (o : Option HandleRow) → own_handle s d h.number ≡ o → IsNarrow words t
  by None lacks = same_sound words s t d (event.Begin (call.NotifierRemove h id)) _ x sound (notifier_remove-unknown s d h id quiet lacks) comes
  by (Some row) own = known row (has_notifier s row.clock.0 id) own refl
begin_sound words s t d (call.Probe c) x quiet sound can comes = leaves_sound words s t d (call.Probe c) x sound (probe_stays words s d c sound can) comes
begin_sound words s t d (call.RoundRate h r) x quiet sound can comes = by (own_handle s d h.number) refl where
  given_rate : (row : HandleRow) (o : Option ℕ) → own_handle s d h.number ≡ Some row → round_rate (wiring s) (view (lift s h.number)) row.clock.0 r ≡ o → IsNarrow words t
  given_rate row None own none = same_sound words s t d (event.Begin (call.RoundRate h r)) _ x sound (round-none s d h r row quiet own none) comes
  given_rate row (Some rate) own gives = same_sound words s t d (event.Begin (call.RoundRate h r)) _ x sound (round-told s d h r row rate quiet own gives) comes

  by : (o : Option HandleRow) → own_handle s d h.number ≡ o → IsNarrow words t
  by None lacks = same_sound words s t d (event.Begin (call.RoundRate h r)) _ x sound (round-unknown s d h r quiet lacks) comes
  by (Some row) own = given_rate row (round_rate (wiring s) (view (lift s h.number)) row.clock.0 r) own refl
begin_sound words s t d (call.SetRate h r) x quiet sound can comes = leaves_sound words s t d (call.SetRate h r) x sound (rate_stays words s d h r sound) comes
begin_sound words s t d (call.SetRateExclusive h r) x quiet sound can comes = leaves_sound words s t d (call.SetRateExclusive h r) x sound (exclusive_stays words s d h r sound) comes
begin_sound words s t d (call.SetRange h least most) x quiet sound can comes = leaves_sound words s t d (call.SetRange h least most) x sound (range_stays words s d h least most sound) comes
begin_sound words s t d (call.SetParent h p) x quiet sound can comes = leaves_sound words s t d (call.SetParent h p) x sound (parent_stays words s d h p sound) comes
begin_sound words s t d call.Sweep x quiet sound can comes = leaves_sound words s t d call.Sweep x sound (sweep_stays words s d sound) comes

-- ---- steps

found_or : (words : ℕ) (o : Option ℕ) (f : ℕ → State) (y : State) → ((n : ℕ) → IsNarrow words (f n)) → IsNarrow words y → IsNarrow words (option_map_or f o y)
found_or words None f y some none = none
found_or words (Some n) f y some none = some n

row_or : (words : ℕ) (o : Option HandleRow) (f : HandleRow → State) (y : State) → ((row : HandleRow) → IsNarrow words (f row)) → IsNarrow words y → IsNarrow words (option_map_or f o y)
row_or words None f y some none = none
row_or words (Some row) f y some none = some row

well_sound : (words : ℕ) (s : State) (d : ℕ) (what : Sleeping) → IsNarrow words s → IsNarrow words (ended_well s d what)
well_sound words s d (call.Prepare h) sound =
    row_or words (handle_at s.handles h.number) (prepared_once_more s h.number) s (λ row. sound) sound
well_sound words s d (call.SetRate h x) sound =
    row_or words (handle_at s.handles h.number) (λ row. record s { clocks = requested s.clocks row.clock.0 x }) s (λ row. IsNarrow-requested words s row.clock.0 x sound) sound
well_sound words s d (call.SetRateExclusive h x) sound =
    row_or words (handle_at s.handles h.number) (λ row. record (held_once_more s h.number row) { clocks = requested s.clocks row.clock.0 x }) s
    (λ row. IsNarrow-requested words (held_once_more s h.number row) row.clock.0 x sound) sound
well_sound words s d (call.SetRange h least most) sound =
    row_or words (handle_at s.handles h.number) (λ row. record s { clocks = requested s.clocks row.clock.0 (request_between s.clocks row.clock.0 least most) }) s
    (λ row. IsNarrow-requested words s row.clock.0 (request_between s.clocks row.clock.0 least most) sound) sound
well_sound words s d _ sound = sound

ended_sound : (words : ℕ) (s : State) (k : Change) (b : Bool) → IsNarrow words s → IsNarrow words (if b then unranged s k else ended_well s k.driver k.call)
ended_sound words s k true sound = sound
ended_sound words s k false sound = well_sound words s k.driver k.call sound

stepped_sound : (words : ℕ) (s : State) (k : Change) (answer : Option Bool) (m : Micro) → IsNarrow words s → links_well s.defs s.clocks m ≡ true → IsNarrow words (stepped s k answer m).0
unfolding stepped
stepped_sound words s k answer (micro.Notify kind c id old new) sound leaves = sound
stepped_sound words s k answer (micro.Raise x) sound leaves =
    found_or words (slice_get (reverse (to_raise s k x.0)) 0) (raise_one s k x.0) (on s (record k { again = 0 }))
    (λ y. sound) sound
stepped_sound words s k answer (micro.Poll y) sound leaves =
    subst (IsNarrow words) (sym (polled_change s k y.0 (is_yes answer))) sound
stepped_sound words s k answer (micro.Fall y) sound leaves = sound
stepped_sound words s k answer (micro.Lower x) sound leaves =
    found_or words (slice_get (to_lower s x.0) 0) (lower_one s k x.0) (on s (record k { again = 0 }))
    (λ y. sound) sound
stepped_sound words s k answer (micro.Visit c) sound leaves = sound
stepped_sound words s k answer (micro.Relink c p) sound leaves =
    IsNarrow-linked words s c.0 p.0 (passed_over p.0 (link_in s.clocks c.0) s.prepare_holds) (passed_over p.0 (link_in s.clocks c.0) s.enable_holds) sound (both_left _ _ leaves) (both_right _ _ leaves)
stepped_sound words s k answer (micro.HoldPrepare x) sound leaves = sound
stepped_sound words s k answer (micro.HoldEnable x) sound leaves = sound
stepped_sound words s k answer (micro.DropEnable x) sound leaves = sound
stepped_sound words s k answer (micro.DropPrepare x) sound leaves = sound
stepped_sound words s k answer (micro.WriteMux c place) sound leaves = sound
stepped_sound words s k answer (micro.Register c) sound leaves =
    let within : nat_lt c.0 (length s.defs) ≡ true = both_left (nat_lt c.0 (length s.defs)) _ leaves in
    IsNarrow-register words s c.0 sound (grind (arith, nat_tests))
stepped_sound words s k answer (micro.Settle c) sound leaves =
    IsNarrow-settle words s (below_within (children s.order s.clocks) depth c.0) sound
stepped_sound words s k answer (micro.Close c) sound leaves =
    subst (λ (regs : Registers). IsNarrow words (record s { regs = regs; change = Some k })) (closed_regs s c.0 (active s c.0) refl)
    sound
stepped_sound words s k answer (micro.Unpower c) sound leaves = sound
stepped_sound words s k answer micro.End sound leaves =
    ended_sound words s k (k.vetoed || k.timed_out) sound

step_sound : (words : ℕ) (s t : State) (d : ℕ) (m : Micro) (answer : Option Bool) (x : Turn) → IsNarrow words s → links_well s.defs s.clocks m ≡ true → next s d (event.Step m answer) ≡ Some (t, x) → IsNarrow words t
step_sound words s t d m answer x sound leaves comes =
    let is = step_is s t d m answer x comes in
    let y : State = (stepped s (taken is.0) answer m).0 in
    subst (IsNarrow words) is.1.state
    (IsNarrow-settled words s y (stepped_sound words s (taken is.0) answer m sound leaves))

-- ---- each event

pub narrow_next : (words : ℕ) (s t : State) (d : ℕ) (e : Event) (x : Turn) → IsNarrow words s → CanTake s e → next s d e ≡ Some (t, x) → IsNarrow words t
narrow_next words s t d (event.Enable n) x sound can comes = enable_sound words s t d n x sound comes
narrow_next words s t d (event.Disable n) x sound can comes = disable_sound words s t d n x sound comes
narrow_next words s t d (event.Running n) x sound can comes = running_sound words s t d n x sound comes
narrow_next words s t d (event.Begin what) x sound can comes = begin_sound words s t d what x (begin_is s t d what x comes).0 sound can comes
narrow_next words s t d (event.Step m answer) x sound can comes = step_sound words s t d m answer x sound can comes
