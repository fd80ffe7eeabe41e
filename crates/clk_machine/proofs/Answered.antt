-- What a call has done that was answered by Ok at once.
use Rattle.std.proofs.Common.{◌≡◌, ℕ, ◌-◌, ◌==◌, not, Bool, true, false, [], ◌∷◌, Option, Some, None, refl, ap}
use Rattle.clk_base.specs.declared.call.Micro.TheVariants as micro
use Rattle.clk_base.specs.declared.call.Sleeping.{Sleeping}
use Rattle.clk_base.specs.declared.call.Sleeping.TheVariants as call
use Rattle.clk_base.specs.declared.clock.ClockId.{ClockId}
use Rattle.clk_base.specs.declared.event.Reply.TheVariants as reply
use Rattle.clk_base.specs.declared.event.Turn.{Turn}
use Rattle.clk_base.specs.declared.event.Turn.TheVariants as turn
use Rattle.clk_base.specs.declared.handle.Handle.{Handle}
use Rattle.clk_model.specs.declared.row.HandleRow.{HandleRow}
use Rattle.clk_model.specs.Begin.{starts, change_of, change_along, put_handle, own_handle, with_handle, keeps_prepare, holds_something, held_once_more, request, request_between, register, begun}
use Rattle.clk_model.specs.Chain.{chain}
use Rattle.clk_model.specs.Laws.CallCauses.{with_limits}
use Rattle.clk_model.specs.Round.{wiring}
use Rattle.clk_model.specs.Script.{probe_script}
use Rattle.clk_model.specs.State.{State, Change, registered}
use Rattle.clk_model.specs.Views.{view, lift}
use Rattle.clk_model.proofs.Cases.{by_plan}
use Rattle.clk_model.proofs.TierLaws.{pick_either, with_handle_either}
use Rattle.clk_machine.specs.Holding.{prepared_more, prepared_less, exclusive_more, exclusive_less, ranged, puts, unnotified}

-- a call was made on a driver's own handle, whose row passes a test, and left this state
pub record HasDone (s : State) (d n : ℕ) (test : HandleRow → Bool) (does : State → HandleRow → State) (y : State) : Type 0 where
  pub row : HandleRow
  pub own : own_handle s d n ≡ Some row
  pub fit : test row ≡ true
  pub is : y ≡ does s row

-- where it was answered by Ok
abbrev pub FineDoes : State → ℕ → ℕ → (HandleRow → Bool) → (State → HandleRow → State) → State × Turn → Type 0
FineDoes s d n test does y = y.1 ≡ turn.Done reply.Fine → HasDone s d n test does y.0

-- any row
abbrev pub any_row : HandleRow → Bool
any_row row = true

-- what holds of the row of a handle
record Fits (s : State) (test : HandleRow → Bool) (does : State → HandleRow → State) (row : HandleRow) (y : State) : Type 0 where
  fit : test row ≡ true
  is : y ≡ does s row

on_own : (s : State) (d n : ℕ) (test : HandleRow → Bool) (does : State → HandleRow → State) (f : HandleRow → State × Turn)
    → ((row : HandleRow) → (f row).1 ≡ turn.Done reply.Fine → Fits s test does row (f row).0) → FineDoes s d n test does (with_handle s d n f)
on_own s d n test does f each =
    with_handle_either (FineDoes s d n test does) s d n f (λ e. absurd cc)
    (λ row own e. let fits = each row e in record { row = row; own = own; fit = fits.fit; is = fits.is })

never_starts : {X : Type 0} (old new : State) (k : Change) → (starts old new k).1 ≡ turn.Done reply.Fine → X
never_starts {X} old new k = pick_either (λ y. y.1 ≡ turn.Done reply.Fine → X) _ _ _ (λ full e. absurd cc) (λ room e. absurd cc)

-- ---- handles

pub prepare_does : (s : State) (d : ℕ) (h : Handle) → FineDoes s d h.number any_row (λ u row. puts h.number (Some (prepared_more row)) u) (begun s d (call.Prepare h))
unfolding begun
prepare_does s d h =
    on_own s d h.number any_row (λ u row. puts h.number (Some (prepared_more row)) u) _
    (λ row. pick_either (λ y. y.1 ≡ turn.Done reply.Fine → Fits s any_row (λ u r. puts h.number (Some (prepared_more r)) u) row y.0) _ _ _ (λ none e. record { fit = refl; is = refl })
    (λ some e. never_starts s s (change_of s d (call.Prepare h) (micro.Raise row.clock ∷ micro.End ∷ [])) e))

pub unprepare_does : (s : State) (d : ℕ) (h : Handle) → FineDoes s d h.number (λ row. not (keeps_prepare row)) (λ u row. puts h.number (Some (prepared_less row)) u) (begun s d (call.Unprepare h))
unfolding begun
unprepare_does s d h =
    on_own s d h.number (λ row. not (keeps_prepare row)) (λ u row. puts h.number (Some (prepared_less row)) u) _
    (λ row. pick_either (λ y. y.1 ≡ turn.Done reply.Fine → Fits s (λ r. not (keeps_prepare r)) (λ u r. puts h.number (Some (prepared_less r)) u) row y.0) _ _ _ (λ keeps e. absurd cc)
    (λ frees. pick_either (λ y. y.1 ≡ turn.Done reply.Fine → Fits s (λ r. not (keeps_prepare r)) (λ u r. puts h.number (Some (prepared_less r)) u) row y.0) _ _ _
    (λ none e. record { fit = ap not frees; is = refl })
    (λ some e. never_starts s (put_handle s h.number (Some (record row { prepares = row.prepares - 1 }))) (change_of s d (call.Unprepare h) (micro.Lower row.clock ∷ micro.End ∷ [])) e)))

pub put_does : (s : State) (d : ℕ) (h : Handle) → FineDoes s d h.number (λ row. not (holds_something row)) (λ u row. puts h.number None u) (begun s d (call.Put h))
unfolding begun
put_does s d h =
    on_own s d h.number (λ row. not (holds_something row)) (λ u row. puts h.number None u) _
    (λ row. pick_either (λ y. y.1 ≡ turn.Done reply.Fine → Fits s (λ r. not (holds_something r)) (λ u r. puts h.number None u) row y.0) _ _ _ (λ holds e. absurd cc)
    (λ free e. record { fit = ap not free; is = refl }))

pub exclusive_get_does : (s : State) (d : ℕ) (h : Handle) → FineDoes s d h.number any_row (λ u row. puts h.number (Some (exclusive_more row)) u) (begun s d (call.ExclusiveGet h))
unfolding begun
exclusive_get_does s d h = on_own s d h.number any_row (λ u row. puts h.number (Some (exclusive_more row)) u) _ (λ row e. record { fit = refl; is = refl })

pub exclusive_put_does : (s : State) (d : ℕ) (h : Handle) → FineDoes s d h.number (λ row. not (row.exclusives == 0)) (λ u row. puts h.number (Some (exclusive_less row)) u) (begun s d (call.ExclusivePut h))
unfolding begun
exclusive_put_does s d h =
    on_own s d h.number (λ row. not (row.exclusives == 0)) (λ u row. puts h.number (Some (exclusive_less row)) u) _
    (λ row. pick_either (λ y. y.1 ≡ turn.Done reply.Fine → Fits s (λ r. not (r.exclusives == 0)) (λ u r. puts h.number (Some (exclusive_less r)) u) row y.0) _ _ _ (λ none e. absurd cc)
    (λ some e. record { fit = ap not some; is = refl }))

-- ---- rates

request_does : (s old new fine lifted : State) (d : ℕ) (what : Sleeping) (c x : ℕ) (range : Option (ℕ × ℕ)) (does : State → HandleRow → State) (row : HandleRow) → fine ≡ does s row
    → (request old new fine lifted d what c x range).1 ≡ turn.Done reply.Fine → Fits s any_row does row (request old new fine lifted d what c x range).0
request_does s old new fine lifted d what c x range does row same =
    pick_either (λ y. y.1 ≡ turn.Done reply.Fine → Fits s any_row does row y.0) _ _ _ (λ now e. record { fit = refl; is = same })
    (λ later. pick_either (λ y. y.1 ≡ turn.Done reply.Fine → Fits s any_row does row y.0) _ _ _ (λ busy e. absurd cc)
    (λ calm. by_plan (λ y. y.1 ≡ turn.Done reply.Fine → Fits s any_row does row y.0) (chain (wiring new) (view lifted) c x) _ _ (λ e. absurd cc)
    (λ ks e. never_starts old new (change_along new d what ks [] range) e)))

pub exclusive_rate_does : (s : State) (d : ℕ) (h : Handle) (x : ℕ) → FineDoes s d h.number any_row (λ u row. puts h.number (Some (exclusive_more row)) u) (begun s d (call.SetRateExclusive h x))
unfolding begun
exclusive_rate_does s d h x =
    on_own s d h.number any_row (λ u row. puts h.number (Some (exclusive_more row)) u) _
    (λ row. request_does s s s (held_once_more s h.number row) s d (call.SetRateExclusive h x) row.clock.0 x None (λ u r. puts h.number (Some (exclusive_more r)) u) row refl)

pub range_does : (s : State) (d : ℕ) (h : Handle) (least most : ℕ)
    → FineDoes s d h.number any_row (λ u row. puts h.number (Some (ranged row least most)) u) (begun s d (call.SetRange h least most))
unfolding begun
range_does s d h least most =
    on_own s d h.number any_row (λ u row. puts h.number (Some (ranged row least most)) u) _
    (λ row. pick_either (λ y. y.1 ≡ turn.Done reply.Fine → Fits s any_row (λ u r. puts h.number (Some (ranged r least most)) u) row y.0) _ _ _ (λ misses e. absurd cc)
    (λ fits. request_does s s (with_limits s h.number row least most) (with_limits s h.number row least most) (lift (with_limits s h.number row least most) h.number) d (call.SetRange h least most)
    row.clock.0 (request_between s.clocks row.clock.0 least most) (Some (row.min, row.max)) (λ u r. puts h.number (Some (ranged r least most)) u) row refl))

-- ---- notifiers

pub notifier_remove_does : (s : State) (d : ℕ) (h : Handle) (id : ℕ) → FineDoes s d h.number any_row (λ u row. unnotified row.clock.0 id u) (begun s d (call.NotifierRemove h id))
unfolding begun
notifier_remove_does s d h id =
    on_own s d h.number any_row (λ u row. unnotified row.clock.0 id u) _
    (λ row. pick_either (λ y. y.1 ≡ turn.Done reply.Fine → Fits s any_row (λ u r. unnotified r.clock.0 id u) row y.0) _ _ _ (λ has e. record { fit = refl; is = refl }) (λ lacks e. absurd cc))

-- ---- registration

-- a clock that wasn't registered is
pub record HasRegistered (s : State) (c : ℕ) (y : State) : Type 0 where
  pub free : registered s.clocks c ≡ false
  pub is : y ≡ register s c

pub probe_does : (s : State) (d : ℕ) (c : ClockId) → (begun s d (call.Probe c)).1 ≡ turn.Done reply.Fine → HasRegistered s c.0 (begun s d (call.Probe c)).0
unfolding begun
probe_does s d c =
    pick_either (λ y. y.1 ≡ turn.Done reply.Fine → HasRegistered s c.0 y.0) _ _ _ (λ there e. absurd cc)
    (λ free. pick_either (λ y. y.1 ≡ turn.Done reply.Fine → HasRegistered s c.0 y.0) _ _ _ (λ calm e. record { free = free; is = refl })
    (λ more e. never_starts s s (change_of s d (call.Probe c) (probe_script (register s c.0) c.0)) e))
