-- A refused call changes nothing but the credits.
use Rattle.std.proofs.Common.{◌≡◌, ℕ, ◌+◌, Bool, true, false, cond, [], Option, Some, None, refl, sym, ap, ◌∙◌, nat_lt}
use Rattle.std.specs.Option.{option_map_or}
use Rattle.clk_base.specs.declared.call.Sleeping.{Sleeping}
use Rattle.clk_base.specs.declared.call.Sleeping.TheVariants as call
use Rattle.clk_base.specs.declared.event.Errno.{Errno}
use Rattle.clk_base.specs.declared.event.Errno.TheVariants as errno
use Rattle.clk_base.specs.declared.event.Event.{Event}
use Rattle.clk_base.specs.declared.event.Event.TheVariants as event
use Rattle.clk_base.specs.declared.event.Reply.{Reply}
use Rattle.clk_base.specs.declared.event.Reply.TheVariants as reply
use Rattle.clk_base.specs.declared.event.Turn.{Turn}
use Rattle.clk_base.specs.declared.event.Turn.TheVariants as turn
use Rattle.clk_model.specs.declared.row.HandleRow.{HandleRow}
use Rattle.clk_model.specs.State.{State, Change, is_quiet}
use Rattle.clk_model.specs.Holders.{active}
use Rattle.clk_model.specs.Gates.{settled}
use Rattle.clk_model.specs.Begin.{done, refused, pick, starts, change_along, own_handle, put_handle, with_handle, held_once_more, request, request_between, begun}
use Rattle.clk_model.specs.Chain.{chain}
use Rattle.clk_model.specs.Round.{wiring, round_rate}
use Rattle.clk_model.specs.Views.{view, lift}
use Rattle.clk_model.specs.Journal.{is_paid}
use Rattle.clk_model.specs.Machine.{paid, next}
use Rattle.clk_model.specs.Laws.Causes.{is_refusal}
use Rattle.clk_model.proofs.StateLaws.{settled-still}

-- an answer that refuses leaves this state
record Keeps (s : State) (x : State × Turn) : Type 0 where
  same : is_refusal x.1 ≡ true → x.0 ≡ s

-- ---- pieces of answers

keeps_refused : (s : State) (e : Errno) → Keeps s (refused s e)
keeps_refused s e = record { same = λ _. refl }

keeps_done : (s t : State) (r : Reply) → is_refusal (turn.Done r) ≡ false → Keeps s (done t r)
keeps_done s t r answered = record { same = λ refuses. let both : true ≡ false = sym refuses ∙ answered in absurd cc }

keeps_pick : (s : State) (b : Bool) (f g : Unit {0} → State × Turn) → Keeps s (f tt) → Keeps s (g tt) → Keeps s (pick b f g)
unfolding pick
keeps_pick s true f g p q = p
keeps_pick s false f g p q = q

keeps_option : {X : Type 0} (s : State) (f : X → State × Turn) (o : Option X) (none : State × Turn) → ((x : X) → Keeps s (f x)) → Keeps s none → Keeps s (option_map_or f o none)
keeps_option s f None none each p = p
keeps_option s f (Some x) none each p = each x

keeps_starts : (s new : State) (k : Change) → Keeps s (starts s new k)
keeps_starts s new k = keeps_pick s _ _ _ (keeps_refused s _) (record { same = λ refuses. absurd cc })

keeps_with : (s : State) (d n : ℕ) (f : HandleRow → State × Turn) → ((h : HandleRow) → Keeps s (f h)) → Keeps s (with_handle s d n f)
keeps_with s d n f each = keeps_option s f (own_handle s d n) (refused s _) each (keeps_refused s _)

-- ---- calls

-- a request for a rate, where a refusal leaves the first state
keeps_request : (s new fine lifted : State) (driver : ℕ) (what : Sleeping) (c x : ℕ) (range : Option (ℕ × ℕ)) → Keeps s (request s new fine lifted driver what c x range)
keeps_request s new fine lifted driver what c x range =
    keeps_pick s _ _ _ (keeps_done s fine _ refl)
    (keeps_pick s _ _ _ (keeps_refused s _)
    (keeps_option s (λ ks. starts s new (change_along new driver what ks [] range)) (chain (wiring new) (view lifted) c x) (refused s errno.EINVAL)
    (λ ks. keeps_starts s new (change_along new driver what ks [] range)) (keeps_refused s errno.EINVAL)))

begun_keeps : (s : State) (d : ℕ) (what : Sleeping) → Keeps s (begun s d what)
unfolding begun
begun_keeps s d (call.Get None) = keeps_refused s _
begun_keeps s d (call.Get (Some c)) = keeps_pick s _ _ _ (record { same = λ refuses. absurd cc }) (keeps_refused s _)
begun_keeps s d (call.Put h) = keeps_with s d h.number _ (λ row. keeps_pick s _ _ _ (keeps_refused s _) (keeps_done s _ _ refl))
begun_keeps s d (call.Prepare h) = keeps_with s d h.number _ (λ row. keeps_pick s _ _ _ (keeps_done s _ _ refl) (keeps_pick s _ _ _ (keeps_refused s _) (record { same = λ refuses. absurd cc })))
begun_keeps s d (call.Unprepare h) =
    keeps_with s d h.number _
    (λ row. keeps_pick s _ _ _ (keeps_done s _ _ refl) (keeps_pick s _ _ _ (keeps_done s _ _ refl) (keeps_pick s _ _ _ (keeps_refused s _) (record { same = λ refuses. absurd cc }))))
begun_keeps s d (call.GetRate h) = keeps_with s d h.number _ (λ row. keeps_done s s _ refl)
begun_keeps s d (call.RoundRate h x) =
    keeps_with s d h.number _
    (λ row. keeps_option s (λ r. done s (reply.Rate r)) (round_rate (wiring s) (view (lift s h.number)) row.clock.0 x) (refused s errno.EINVAL)
    (λ r. keeps_done s s (reply.Rate r) refl) (keeps_refused s errno.EINVAL))
begun_keeps s d (call.SetRate h x) = keeps_with s d h.number _ (λ row. keeps_request s s s (lift s h.number) d (call.SetRate h x) row.clock.0 x None)
begun_keeps s d (call.SetRateExclusive h x) = keeps_with s d h.number _ (λ row. keeps_request s s (held_once_more s h.number row) s d (call.SetRateExclusive h x) row.clock.0 x None)
begun_keeps s d (call.SetRange h least most) =
    keeps_with s d h.number _
    (λ row.
    let new : State = put_handle s h.number (Some (record row { min = least; max = most })) in
    keeps_pick s _ _ _ (keeps_refused s _)
    (keeps_request s new new (lift new h.number) d (call.SetRange h least most) row.clock.0 (request_between s.clocks row.clock.0 least most) (Some (row.min, row.max))))
begun_keeps s d (call.SetParent h p) =
    keeps_with s d h.number _
    (λ row. keeps_pick s _ _ _ (keeps_done s s _ refl)
    (keeps_pick s _ _ _ (keeps_refused s _)
    (keeps_pick s _ _ _ (keeps_refused s _) (keeps_pick s _ _ _ (keeps_pick s _ _ _ (keeps_refused s _) (record { same = λ refuses. absurd cc })) (keeps_refused s _)))))
begun_keeps s d (call.GetParent h) = keeps_with s d h.number _ (λ row. keeps_done s s _ refl)
begun_keeps s d (call.ExclusiveGet h) = keeps_with s d h.number _ (λ row. keeps_done s _ _ refl)
begun_keeps s d (call.ExclusivePut h) = keeps_with s d h.number _ (λ row. keeps_pick s _ _ _ (keeps_done s s _ refl) (keeps_done s _ _ refl))
begun_keeps s d (call.NotifierAdd h id priority policy) =
    keeps_with s d h.number _ (λ row. keeps_pick s _ _ _ (keeps_refused s _) (keeps_pick s _ _ _ (keeps_refused s _) (keeps_done s _ _ refl)))
begun_keeps s d (call.NotifierRemove h id) = keeps_with s d h.number _ (λ row. keeps_pick s _ _ _ (keeps_done s _ _ refl) (keeps_refused s _))
begun_keeps s d (call.Probe c) =
    keeps_pick s _ _ _ (keeps_refused s _) (keeps_pick s _ _ _ (keeps_done s _ _ refl) (keeps_pick s _ _ _ (keeps_refused s _) (record { same = λ refuses. absurd cc })))
begun_keeps s d call.Sweep = keeps_pick s _ _ _ (keeps_done s s _ refl) (keeps_pick s _ _ _ (keeps_refused s _) (record { same = λ refuses. absurd cc }))

-- ---- events

paid_keeps : (s t : State) (x : State × Turn) (r : Turn) → Keeps s x → paid s x ≡ Some (t, r) → is_refusal r ≡ true → t ≡ record s { spent = s.spent + 1 }
paid_keeps s t x r keeps comes refuses = by (nat_lt s.spent s.credits) comes where
  left : State × Turn
  left = (record (settled s x.0) { spent = s.spent + 1 }, x.1)

  inside : {v w : State × Turn} → Some v ≡ Some w → v ≡ w
  inside e = cc

  by : (b : Bool) → cond b (Some left) None ≡ Some (t, r) → t ≡ record s { spent = s.spent + 1 }
  by false none = absurd cc
  by true some =
      let both = inside some in
      let was : x.0 ≡ s = keeps.same (ap (λ (y : State × Turn). is_refusal y.1) both ∙ refuses) in
      sym (ap (λ (y : State × Turn). y.0) both)
      ∙ ap (λ (y : State). let u : State = record (settled s y) { spent = s.spent + 1 } in u) was
      ∙ ap (λ (y : State). let u : State = record y { spent = s.spent + 1 } in u) (settled-still s s (λ c. refl))

-- a call that is refused at once, of either tier, changes nothing but the credits
pub refused_keeps : (s t : State) (d : ℕ) (e : Event) (r : Turn) → is_paid e ≡ true → next s d e ≡ Some (t, r) → is_refusal r ≡ true
    → t ≡ record s { spent = s.spent + 1 }
unfolding next
refused_keeps s t d (event.Enable n) r paying comes refuses =
    paid_keeps s t _ r (keeps_with s d n _ (λ h. keeps_pick s _ _ _ (keeps_refused s _) (keeps_done s _ _ refl))) comes refuses
refused_keeps s t d (event.Disable n) r paying comes refuses =
    paid_keeps s t _ r (keeps_with s d n _ (λ h. keeps_pick s _ _ _ (keeps_done s s _ refl) (keeps_done s _ _ refl))) comes refuses
refused_keeps s t d (event.Running n) r paying comes refuses =
    paid_keeps s t _ r (keeps_with s d n _ (λ h. keeps_done s s _ (told (active s h.clock.0)))) comes refuses where
      told : (b : Bool) → is_refusal (turn.Done (cond b reply.Yes reply.No)) ≡ false
      told true = refl
      told false = refl
refused_keeps s t d (event.Begin what) r paying comes refuses = by (is_quiet s.change) comes where
  by : (b : Bool) → cond b (paid s (begun s d what)) None ≡ Some (t, r) → t ≡ record s { spent = s.spent + 1 }
  by true some = paid_keeps s t (begun s d what) r (begun_keeps s d what) some refuses
  by false none = absurd cc
refused_keeps s t d (event.Step m answer) r paying comes refuses = absurd cc
