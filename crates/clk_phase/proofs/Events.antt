-- What an event of a driver makes of the handles and of the change in flight.
use Rattle.std.proofs.Common.{◌≡◌, inl, inr, ℕ, ◌+◌, ◌-◌, ◌<◌, Bool, true, false, cond, nat_eq, nat_lt, ◌||◌, ◌&&◌, List, [], ◌∷◌, Option, Some, None, set, refl, sym, ap, subst, ◌∙◌, arith, reverse}
use Rattle.std.specs.Prelude.{option_map, slice_get, nat_le}
use Rattle.std.specs.Option.{option_map_or}
use Rattle.std.proofs.lemmas.Bool.Decides.{nat_tests}
use Rattle.clk_base.specs.declared.call.Micro.{Micro}
use Rattle.clk_base.specs.declared.call.Micro.TheVariants as micro
use Rattle.clk_base.specs.declared.call.Sleeping.{Sleeping}
use Rattle.clk_base.specs.declared.call.Sleeping.TheVariants as call
use Rattle.clk_base.specs.declared.event.Errno.TheVariants as errno
use Rattle.clk_base.specs.declared.event.Event.{Event}
use Rattle.clk_base.specs.declared.event.Event.TheVariants as event
use Rattle.clk_base.specs.declared.event.Reply.{Reply}
use Rattle.clk_base.specs.declared.event.Reply.TheVariants as reply
use Rattle.clk_base.specs.declared.event.Turn.{Turn}
use Rattle.clk_base.specs.declared.event.Turn.TheVariants as turn
use Rattle.clk_model.specs.declared.row.HandleRow.{HandleRow}
use Rattle.clk_base.specs.declared.handle.Handle.{Handle}
use Rattle.clk_model.specs.State.{State, Change, ChainStep, handle_at, requested}
use Rattle.clk_model.specs.Round.{wiring, round_rate, most_rate}
use Rattle.clk_model.specs.Chain.{chain, clock_id}
use Rattle.clk_model.specs.Views.{view, lift}
use Rattle.clk_model.specs.Script.{probe_script, sweep_script}
use Rattle.clk_model.specs.Gates.{settled}
use Rattle.clk_model.specs.Begin.{refused, done, own_handle, with_handle, starts, change_of, change_along, put_handle, given, got, put_back, prepare, unprepare, keeps_prepare, request, range_set, parent_set, held_once_more, exclusive_put, reparenting, register, rounded, request_between, prepared_once_more, begun}
use Rattle.clk_model.specs.Step.{taken, stepped, raise_one, to_raise, on, timed_out, poll, is_yes, lower_one, to_lower, register_in, end_of, range_back, with_range, ended_well, unranged}
use Rattle.clk_model.specs.Machine.{enabled, disabled, running, paid, next}
use Rattle.clk_model.proofs.TierLaws.{pick_either, with_handle_either, paid_is}
use Rattle.clk_model.proofs.FlightLaws.{IsStep, step_is, begin_is}
use Rattle.clk_model.proofs.StepLaws.{step_after}
use Rattle.clk_phase.proofs.OwnRows.{own_is, Backed, AllBacked, Touches, nothing, adds, takes, puts, at_same, backed_still, row_set}

-- the handle that the end of a call may change
abbrev pub ends_on : Sleeping → Option ℕ
ends_on (call.Prepare h) = Some h.number
ends_on (call.SetRateExclusive h x) = Some h.number
ends_on (call.SetRange h least most) = Some h.number
ends_on _ = None

-- it is the driver's
abbrev pub Owns : Option ℕ → ℕ → List (Option HandleRow) → Type 0
Owns o d hs = (n : ℕ) → o ≡ Some n → (r : HandleRow) → handle_at hs n ≡ Some r → r.driver ≡ d

-- what every state of a run keeps
pub record IsKept (hs : List (Option HandleRow)) (c : Option Change) : Type 0 where
  pub backed : AllBacked hs
  pub owned : (k : Change) → c ≡ Some k → Owns (ends_on k.call) k.driver hs

-- what an event of driver d leaves
pub record Lands (s : State) (d : ℕ) (hs : List (Option HandleRow)) (c : Option Change) : Type 0 where
  pub touches : Touches d s.handles hs
  pub owned : (k : Change) → c ≡ Some k → Owns (ends_on k.call) k.driver hs
  -- another driver's call stays in flight
  pub other : (k : Change) → s.change ≡ Some k → (k.driver ≡ d → ⊥) → c ≡ Some k

pub lands_kept : (s : State) (d : ℕ) (hs : List (Option HandleRow)) (c : Option Change) → IsKept s.handles s.change → Lands s d hs c → IsKept hs c
lands_kept s d hs c kept lands = record { backed = backed_still d s.handles hs lands.touches kept.backed; owned = lands.owned }

same_some : {A : Type 0} {a b : A} → Some a ≡ Some b → a ≡ b
same_some e = cc

-- the handle that a get makes
abbrev pub new_handle : ℕ → ℕ → HandleRow
new_handle d c = record { driver = d; clock = clock_id c; prepares = 0; enables = 0; exclusives = 0; min = 0; max = most_rate }

abbrev P : State → ℕ → State × Turn → Type 0
P s d y = Lands s d y.0.handles y.0.change

module _ (s : State) (d : ℕ) where
  own_row_at : (n : ℕ) (r : HandleRow) → own_handle s d n ≡ Some r → (handle_at s.handles n ≡ Some r) × (r.driver ≡ d)
  own_row_at n r own = own_is d (handle_at s.handles n) r own

  -- one of the driver's handles with other counts
  put_row : (n : ℕ) (r q : HandleRow) → own_handle s d n ≡ Some r → q.driver ≡ r.driver → Backed q → Touches d s.handles (set s.handles n (Some q))
  put_row n r q own same fine = let at = own_row_at n r own in puts n r q at.0 at.1 (same ∙ at.1) fine

  -- ---- the enable tier

  module _ (kept : IsKept s.handles s.change) where
    backed_at : (n : ℕ) (r : HandleRow) → own_handle s d n ≡ Some r → Backed r
    backed_at n r own = kept.backed n r (own_row_at n r own).0

    same_lands : Lands s d s.handles s.change
    same_lands = record { touches = nothing; owned = kept.owned; other = λ k at apart. at }

    owned_still : (n : ℕ) (r q : HandleRow) → own_handle s d n ≡ Some r → q.driver ≡ r.driver → (k : Change) → s.change ≡ Some k → Owns (ends_on k.call) k.driver (set s.handles n (Some q))
    owned_still n r q own same k at m is p row = elim (row_set s.handles n (Some q) m p row) [
      | inl before ↦ kept.owned k at m is p before
      | inr new ↦
          let one : q ≡ p = same_some new.1 in
          sym (ap (λ (h : HandleRow). h.driver) one) ∙ same ∙ kept.owned k at m is r (subst (λ (i : ℕ). handle_at s.handles i ≡ Some r) (sym new.0) (own_row_at n r own).0)
    ]

    put_lands : (n : ℕ) (r q : HandleRow) → own_handle s d n ≡ Some r → q.driver ≡ r.driver → Backed q → Lands s d (set s.handles n (Some q)) s.change
    put_lands n r q own same fine = record { touches = put_row n r q own same fine; owned = owned_still n r q own same; other = λ k at apart. at }

    some_prepares : (n : ℕ) → nat_eq n 0 ≡ false → 0 < n
    some_prepares n e = grind (arith, nat_tests)

    enable_lands : (n : ℕ) → P s d (with_handle s d n (enabled s n))
    enable_lands n = with_handle_either (P s d) s d n (enabled s n) same_lands
        (λ r own. pick_either (P s d) (nat_eq r.prepares 0) _ _ (λ e. same_lands) (λ e. put_lands n r (record r { enables = r.enables + 1 }) own refl (λ on. some_prepares r.prepares e)))

    disable_lands : (n : ℕ) → P s d (with_handle s d n (disabled s n))
    disable_lands n = with_handle_either (P s d) s d n (disabled s n) same_lands
        (λ r own. pick_either (P s d) (nat_eq r.enables 0) _ _ (λ e. same_lands) (λ e. put_lands n r (record r { enables = r.enables - 1 }) own refl (λ on. backed_at n r own (omega (arith, on)))))

    running_lands : (n : ℕ) → P s d (with_handle s d n (running s))
    running_lands n = with_handle_either (P s d) s d n (running s) same_lands (λ r own. same_lands)

    -- ---- calls

    module _ (quiet : s.change ≡ None) where
      once : (u : State) (r : Reply) → Touches d s.handles u.handles → u.change ≡ s.change → P s d (u, turn.Done r)
      once u r touch same = record {
        touches = touch;
        owned = λ k at. absurd (let no : None ≡ Some k = sym quiet ∙ sym same ∙ at in cc);
        other = λ k at apart. absurd (let no : None ≡ Some k = sym quiet ∙ at in cc);
      }

      refuses : (e : _) → P s d (refused s e)
      refuses e = once s (reply.Refused e) nothing refl

      starting : (u : State) (k : Change) → Touches d s.handles u.handles → k.driver ≡ d → Owns (ends_on k.call) d u.handles → P s d (starts s u k)
      starting u k touch driver own = pick_either (P s d) _ _ _ (λ e. refuses errno.ENOSPC) (λ e. record {
        touches = touch;
        owned = λ j at. let same : k ≡ j = same_some at in subst (λ (i : Change). Owns (ends_on i.call) i.driver u.handles) same (subst (λ (x : ℕ). Owns (ends_on k.call) x u.handles) (sym driver) own);
        other = λ j at apart. absurd (let no : None ≡ Some j = sym quiet ∙ at in cc);
      })

      none_owned : (hs : List (Option HandleRow)) → Owns None d hs
      none_owned hs n is r at = absurd (let no : None ≡ Some n = is in cc)

      row_owned : (n : ℕ) (r : HandleRow) (hs : List (Option HandleRow)) → handle_at hs n ≡ Some r → r.driver ≡ d → Owns (Some n) d hs
      row_owned n r hs at mine m is q row =
          let same : n ≡ m = same_some is in
          let there : Some r ≡ Some q = sym at ∙ ap (handle_at hs) same ∙ row in
          let one : r ≡ q = same_some there in
          sym (ap (λ (h : HandleRow). h.driver) one) ∙ mine

      live_owned : (n : ℕ) (r : HandleRow) → own_handle s d n ≡ Some r → Owns (Some n) d s.handles
      live_owned n r own = let at = own_row_at n r own in row_owned n r s.handles at.0 at.1

      adjusted : (n : ℕ) (r q : HandleRow) → own_handle s d n ≡ Some r → q.driver ≡ r.driver → q.prepares ≡ r.prepares → q.enables ≡ r.enables → Touches d s.handles (set s.handles n (Some q))
      adjusted n r q own same p e = put_row n r q own same (λ on. subst (λ (i : ℕ). 0 < i) (sym p) (backed_at n r own (subst (λ (i : ℕ). 0 < i) e on)))

      planned_request : (u fine lifted : State) (what : Sleeping) (c x : ℕ) (range : Option (ℕ × ℕ)) → Touches d s.handles u.handles → Owns (ends_on what) d u.handles → P s d (done fine reply.Fine)
          → P s d (request s u fine lifted d what c x range)
      planned_request u fine lifted what c x range touch own now =
          pick_either (P s d) _ _ _ (λ e. now)
          (λ e. pick_either (P s d) _ _ _ (λ f. refuses errno.EBUSY)
          (λ f. by_plan (chain (wiring u) (view lifted) c x))) where
            by_plan : (o : Option (List ChainStep)) → P s d (option_map_or (λ ks. starts s u (change_along u d what ks [] range)) o (refused s errno.EINVAL))
            by_plan None = refuses errno.EINVAL
            by_plan (Some ks) = starting u (change_along u d what ks [] range) touch refl own

      ranged : (h : Handle) (least most : ℕ) (r : HandleRow) → own_handle s d h.number ≡ Some r → P s d (range_set s d (call.SetRange h least most) h.number r least most)
      ranged h least most r own =
          let new : HandleRow = record r { min = least; max = most } in
          let u : State = put_handle s h.number (Some new) in
          let touch = adjusted h.number r new own refl refl refl in
          let at = own_row_at h.number r own in
          pick_either (P s d) _ _ _ (λ e. refuses errno.EINVAL)
          (λ e. planned_request u u (lift u h.number) (call.SetRange h least most) r.clock.0 _ (Some (r.min, r.max)) touch (row_owned h.number new u.handles (at_same s.handles h.number (Some new) r at.0) at.1) (once u reply.Fine touch refl))

      parented : (lifted : State) (what : Sleeping) (c p : ℕ) → Owns (ends_on what) d s.handles → P s d (parent_set s lifted d what c p)
      parented lifted what c p own =
          pick_either (P s d) _ _ _ (λ e. once s reply.Fine nothing refl)
          (λ e. pick_either (P s d) _ _ _ (λ f. refuses errno.EPERM)
          (λ f. pick_either (P s d) _ _ _ (λ g. refuses errno.EBUSY)
          (λ g. pick_either (P s d) _ _ _ (λ i. starting s (reparenting s d what c p) nothing refl own) (λ i. refuses errno.EINVAL))))

      gets : (found : Option ℕ) → P s d (got s d found)
      gets None = refuses errno.ENOENT
      gets (Some c) = pick_either (P s d) _ _ _ (λ e. once (given s d c).0 reply.Fine (adds (new_handle d c) refl (λ on. absurd (omega (arith, on)))) refl) (λ e. refuses errno.EPROBE_DEFER)

      on_handle : (n : ℕ) (f : HandleRow → State × Turn) → ((r : HandleRow) → own_handle s d n ≡ Some r → P s d (f r)) → P s d (with_handle s d n f)
      on_handle n f each = with_handle_either (P s d) s d n f (refuses errno.ENOENT) each

      taken_row : (n : ℕ) (r : HandleRow) → own_handle s d n ≡ Some r → Touches d s.handles (set s.handles n None)
      taken_row n r own = let at = own_row_at n r own in takes n (λ q is. let one : r ≡ q = same_some (sym at.0 ∙ is) in sym (ap (λ (h : HandleRow). h.driver) one) ∙ at.1)

      -- a prepare may be given up by a handle that doesn't keep it
      less_backed : (r : HandleRow) → keeps_prepare r ≡ false → Backed r → Backed (record r { prepares = r.prepares - 1 })
      less_backed r gives fine on = numbers r.prepares r.enables gives on where
        numbers : (p e : ℕ) → (nat_eq p 0 || (nat_eq p 1 && nat_lt 0 e)) ≡ false → 0 < e → 0 < p - 1
        numbers p e gives on = by_zero (nat_eq p 0) (nat_eq p 1) (nat_lt 0 e) gives refl refl refl where
          by_zero : (a b c : Bool) → (a || (b && c)) ≡ false → nat_eq p 0 ≡ a → nat_eq p 1 ≡ b → nat_lt 0 e ≡ c → 0 < p - 1
          by_zero true b c is x y z = absurd cc
          by_zero false true true is x y z = absurd cc
          by_zero false true false is x y z = absurd (some z) where
            some : nat_lt 0 e ≡ false → ⊥
            some z = grind (arith, nat_tests)
          by_zero false false c is x y z = two x y where
            two : nat_eq p 0 ≡ false → nat_eq p 1 ≡ false → 0 < p - 1
            two x y = grind (arith, nat_tests)

      lesser : (n : ℕ) (r : HandleRow) → own_handle s d n ≡ Some r → keeps_prepare r ≡ false → Touches d s.handles (set s.handles n (Some (record r { prepares = r.prepares - 1 })))
      lesser n r own gives = put_row n r (record r { prepares = r.prepares - 1 }) own refl (less_backed r gives (backed_at n r own))

      begun_lands : (what : Sleeping) → P s d (begun s d what)
      unfolding begun register
      begun_lands (call.Get found) = gets (option_map (λ c. c.0) found)
      begun_lands (call.Put h) = on_handle h.number (put_back s h.number) (λ r own. pick_either (P s d) _ _ _ (λ e. refuses errno.EBUSY) (λ e. once (put_handle s h.number None) reply.Fine (taken_row h.number r own) refl))
      begun_lands (call.Prepare h) = on_handle h.number (prepare s d (call.Prepare h) h.number) (λ r own.
          pick_either (P s d) _ _ _ (λ e. once (prepared_once_more s h.number r) reply.Fine (put_row h.number r (record r { prepares = r.prepares + 1 }) own refl (λ on. omega arith)) refl)
          (λ e. starting s (change_of s d (call.Prepare h) (micro.Raise r.clock ∷ micro.End ∷ [])) nothing refl (live_owned h.number r own)))
      begun_lands (call.Unprepare h) = on_handle h.number (unprepare s d (call.Unprepare h) h.number) (λ r own.
          pick_either (P s d) _ _ _ (λ e. once s reply.Warn nothing refl)
          (λ e. pick_either (P s d) _ _ _ (λ f. once (put_handle s h.number (Some (record r { prepares = r.prepares - 1 }))) reply.Fine (lesser h.number r own e) refl)
          (λ f. starting (put_handle s h.number (Some (record r { prepares = r.prepares - 1 }))) (change_of s d (call.Unprepare h) (micro.Lower r.clock ∷ micro.End ∷ [])) (lesser h.number r own e) refl (none_owned _))))
      begun_lands (call.GetRate h) = on_handle h.number _ (λ r own. once s reply.Fine nothing refl)
      begun_lands (call.RoundRate h x) = on_handle h.number (λ row. rounded s h.number row x) (λ r own. by_rate (round_rate (wiring s) (view (lift s h.number)) r.clock.0 x)) where
        by_rate : (o : Option ℕ) → P s d (option_map_or (λ x. done s (reply.Rate x)) o (refused s errno.EINVAL))
        by_rate None = refuses errno.EINVAL
        by_rate (Some y) = once s (reply.Rate y) nothing refl
      begun_lands (call.SetRate h x) = on_handle h.number _ (λ r own. planned_request s s (lift s h.number) (call.SetRate h x) r.clock.0 x None nothing (none_owned s.handles) (once s reply.Fine nothing refl))
      begun_lands (call.SetRateExclusive h x) = on_handle h.number _ (λ r own.
          planned_request s (held_once_more s h.number r) s (call.SetRateExclusive h x) r.clock.0 x None nothing (live_owned h.number r own)
          (once (held_once_more s h.number r) reply.Fine (adjusted h.number r (record r { exclusives = r.exclusives + 1 }) own refl refl refl) refl))
      begun_lands (call.SetRange h least most) = on_handle h.number _ (λ r own. ranged h least most r own)
      begun_lands (call.SetParent h p) = on_handle h.number _ (λ r own. parented (lift s h.number) (call.SetParent h p) r.clock.0 p.0 (none_owned s.handles))
      begun_lands (call.GetParent h) = on_handle h.number _ (λ r own. once s reply.Fine nothing refl)
      begun_lands (call.ExclusiveGet h) = on_handle h.number _ (λ r own. once (held_once_more s h.number r) reply.Fine (adjusted h.number r (record r { exclusives = r.exclusives + 1 }) own refl refl refl) refl)
      begun_lands (call.ExclusivePut h) = on_handle h.number (exclusive_put s h.number) (λ r own.
          pick_either (P s d) _ _ _ (λ e. once s reply.Warn nothing refl) (λ e. once (put_handle s h.number (Some (record r { exclusives = r.exclusives - 1 }))) reply.Fine (adjusted h.number r (record r { exclusives = r.exclusives - 1 }) own refl refl refl) refl))
      begun_lands (call.NotifierAdd h id priority policy) = on_handle h.number _ (λ r own.
          pick_either (P s d) _ _ _ (λ e. refuses errno.EEXIST) (λ e. pick_either (P s d) _ _ _ (λ f. refuses errno.ENOSPC) (λ f. once s reply.Fine nothing refl)))
      begun_lands (call.NotifierRemove h id) = on_handle h.number _ (λ r own. pick_either (P s d) _ _ _ (λ e. once s reply.Fine nothing refl) (λ e. refuses errno.ENOENT))
      begun_lands (call.Probe c) =
          pick_either (P s d) _ _ _ (λ e. refuses errno.EEXIST)
          (λ e. pick_either (P s d) _ _ _ (λ f. registered_lands) (λ f. starting s (change_of s d (call.Probe c) (probe_script (register s c.0) c.0)) nothing refl (none_owned s.handles))) where
            registered_lands : P s d (done (register s c.0) reply.Fine)
            registered_lands = once s reply.Fine nothing refl
      begun_lands call.Sweep = pick_either (P s d) _ _ _ (λ e. once s reply.Fine nothing refl) (λ e. starting s (change_of s d call.Sweep (sweep_script s)) nothing refl (none_owned s.handles))

-- ---- steps

-- a step that isn't the end leaves the handles
pub going_handles : (s : State) (k : Change) (answer : Option Bool) (m : Micro) → (stepped s k answer m).1 ≡ turn.Going → (stepped s k answer m).0.handles ≡ s.handles
unfolding stepped register
going_handles s k answer (micro.Raise x) going = by_raise (slice_get (reverse (to_raise s k x.0)) 0) where
  by_raise : (o : Option ℕ) → (option_map_or (raise_one s k x.0) o (on s (record k { again = 0 }))).handles ≡ s.handles
  by_raise None = refl
  by_raise (Some y) = refl
going_handles s k answer (micro.Poll y) going = by_answer (is_yes answer) (nat_le k.polls 1) where
  by_late : (b : Bool) → (cond b (timed_out s (record k { polls = 0 })) (on s (record k { polls = k.polls - 1; front = micro.Poll (clock_id y.0) ∷ k.front }))).handles ≡ s.handles
  by_late true = refl
  by_late false = refl

  by_answer : (a b : Bool) → (poll s k y.0 a).handles ≡ s.handles
  by_answer true b = refl
  by_answer false b = by_late (nat_le k.polls 1)
going_handles s k answer (micro.Lower x) going = by_lower (slice_get (to_lower s x.0) 0) where
  by_lower : (o : Option ℕ) → (option_map_or (lower_one s k x.0) o (on s (record k { again = 0 }))).handles ≡ s.handles
  by_lower None = refl
  by_lower (Some y) = refl
going_handles s k answer (micro.Register c) going = registered_handles where
  registered_handles : (register_in s k c.0).handles ≡ s.handles
  registered_handles = refl
going_handles s k answer micro.End going = absurd cc
going_handles s k answer m going = refl

-- at the end of a call
ended_touches : (s : State) (d : ℕ) (what : Sleeping) → AllBacked s.handles → Owns (ends_on what) d s.handles → Touches d s.handles (ended_well s d what).handles
ended_touches s d (call.Prepare h) all own = by_row (handle_at s.handles h.number) refl where
  by_row : (o : Option HandleRow) → handle_at s.handles h.number ≡ o → Touches d s.handles (option_map_or (prepared_once_more s h.number) o s).handles
  by_row None at = nothing
  by_row (Some r) at = let mine = own h.number refl r at in puts h.number r (record r { prepares = r.prepares + 1 }) at mine mine (λ on. omega arith)
ended_touches s d (call.SetRateExclusive h x) all own = by_row (handle_at s.handles h.number) refl where
  by_row : (o : Option HandleRow) → handle_at s.handles h.number ≡ o → Touches d s.handles (option_map_or (λ row. record (held_once_more s h.number row) { clocks = requested s.clocks row.clock.0 x }) o s).handles
  by_row None at = nothing
  by_row (Some r) at = let mine = own h.number refl r at in puts h.number r (record r { exclusives = r.exclusives + 1 }) at mine mine (all h.number r at)
ended_touches s d (call.SetRate h x) all own = by_row (handle_at s.handles h.number) where
  by_row : (o : Option HandleRow) → Touches d s.handles (option_map_or (λ row. record s { clocks = requested s.clocks row.clock.0 x }) o s).handles
  by_row None = nothing
  by_row (Some r) = nothing
ended_touches s d (call.SetRange h least most) all own = by_row (handle_at s.handles h.number) where
  by_row : (o : Option HandleRow) → Touches d s.handles (option_map_or (λ row. record s { clocks = requested s.clocks row.clock.0 (request_between s.clocks row.clock.0 least most) }) o s).handles
  by_row None = nothing
  by_row (Some r) = nothing
ended_touches s d _ all own = nothing

back_touches : (d : ℕ) (hs : List (Option HandleRow)) (what : Sleeping) (range : Option (ℕ × ℕ)) → AllBacked hs → Owns (ends_on what) d hs → Touches d hs (range_back what range hs)
back_touches d hs (call.SetRange h least most) (Some range) all own = by_row (handle_at hs h.number) refl where
  by_row : (o : Option HandleRow) → handle_at hs h.number ≡ o → Touches d hs (set hs h.number (option_map (with_range range) o))
  by_row None at = takes h.number (λ r is. absurd (let no : None ≡ Some r = sym at ∙ is in cc))
  by_row (Some r) at = let mine = own h.number refl r at in puts h.number r (with_range range r) at mine mine (all h.number r at)
back_touches d hs _ range all own = nothing

-- ---- each event

module _ (s t : State) (d : ℕ) (kept : IsKept s.handles s.change) where
  paid_lands : (y : State × Turn) (x : Turn) → paid s y ≡ Some (t, x) → P s d y → Lands s d t.handles t.change
  unfolding settled
  paid_lands y x step lands = subst (λ (u : State). Lands s d u.handles u.change) (paid_is s t y x step).0 lands

  step_lands : (m : Micro) (answer : Option Bool) (x : Turn) (k : Change) → IsStep s t d m answer x k → Lands s d t.handles t.change
  unfolding settled stepped
  step_lands m answer x k is = subst (λ (u : State). Lands s d u.handles u.change) is.state (by_turn x is.answered) where
    other_gone : (j : Change) → s.change ≡ Some j → (j.driver ≡ d → ⊥) → ⊥
    other_gone j at apart = apart (let one : k ≡ j = same_some (sym is.at ∙ at) in sym (ap (λ (i : Change). i.driver) one) ∙ is.driver)

    by_turn : (y : Turn) → (stepped s (taken k) answer m).1 ≡ y → Lands s d (settled s (stepped s (taken k) answer m).0).handles (settled s (stepped s (taken k) answer m).0).change
    by_turn turn.Going going =
        let after = step_after s (taken k) answer m going in
        let hs = going_handles s (taken k) answer m going in
        record {
          touches = subst (λ (l : List (Option HandleRow)). Touches d s.handles l) (sym hs) nothing;
          owned = λ j at.
              let one : after.0 ≡ j = same_some (sym after.1 ∙ at) in
              let own : Owns (ends_on k.call) k.driver s.handles = kept.owned k is.at in
              subst (λ (l : List (Option HandleRow)). Owns (ends_on j.call) j.driver l) (sym hs)
              (subst (λ (i : Change). Owns (ends_on i.call) i.driver s.handles) one
              (subst (λ (x : ℕ). Owns (ends_on after.0.call) x s.handles) (sym after.2.driver) (subst (λ (w : Sleeping). Owns (ends_on w) k.driver s.handles) (sym after.2.call) own)));
          other = λ j at apart. absurd (other_gone j at apart);
        }
    by_turn (turn.Done r) done_ = ended m done_ where
      finished : (u : State) → Touches d s.handles u.handles → u.change ≡ None → Lands s d u.handles u.change
      finished u touch none = record {
        touches = touch;
        owned = λ j at. absurd (let no : None ≡ Some j = sym none ∙ at in cc);
        other = λ j at apart. absurd (other_gone j at apart);
      }

      own : Owns (ends_on k.call) d s.handles
      own = subst (λ (x : ℕ). Owns (ends_on k.call) x s.handles) is.driver (kept.owned k is.at)

      ending : (b : Bool) → Touches d s.handles (record (cond b (unranged s (taken k)) (ended_well s k.driver k.call)) { change = None }).handles
      ending true = back_touches d s.handles k.call k.range kept.backed own
      ending false = subst (λ (x : ℕ). Touches d s.handles (ended_well s x k.call).handles) (sym is.driver) (ended_touches s d k.call kept.backed own)

      ended : (m : Micro) → (stepped s (taken k) answer m).1 ≡ turn.Done r → Lands s d (settled s (stepped s (taken k) answer m).0).handles (settled s (stepped s (taken k) answer m).0).change
      ended micro.End e = finished (end_of s (taken k)).0 (ending (k.vetoed || k.timed_out)) refl
      ended m e = absurd cc

  pub lands : (e : Event) (x : Turn) → next s d e ≡ Some (t, x) → Lands s d t.handles t.change
  unfolding next settled
  lands (event.Step m answer) x step = let is = step_is s t d m answer x step in step_lands m answer x is.0 is.1
  lands (event.Begin what) x step = begins_at where
    begins_at : Lands s d t.handles t.change
    begins_at = let b = begin_is s t d what x step in subst (λ (u : State). Lands s d u.handles u.change) b.1 (begun_lands s d kept b.0 what)
  lands (event.Enable n) x step = enables_at where
    enables_at : Lands s d t.handles t.change
    enables_at = paid_lands (with_handle s d n (enabled s n)) x step (enable_lands s d kept n)
  lands (event.Disable n) x step = disables_at where
    disables_at : Lands s d t.handles t.change
    disables_at = paid_lands (with_handle s d n (disabled s n)) x step (disable_lands s d kept n)
  lands (event.Running n) x step = runs_at where
    runs_at : Lands s d t.handles t.change
    runs_at = paid_lands (with_handle s d n (running s)) x step (running_lands s d kept n)
