-- Laws on each call: where it goes on, it begins with a paced change.
use Rattle.std.proofs.Common.{◌≡◌, ℕ, ◌+◌, ◌-◌, Bool, true, false, cond, List, [], ◌∷◌, ◌++◌, Option, Some, None, refl, sym, ap, subst, ◌∙◌, arith, length, nat_lt}
use Rattle.std.specs.Prelude.{sum_by, ℤ}
use Rattle.std.specs.List.{list_any}
use Rattle.std.specs.Option.{option_map_or, option_map}
use Rattle.std.proofs.lemmas.Bool.Decides.{nat_tests}
use Rattle.clk_base.specs.declared.call.Micro.{Micro}
use Rattle.clk_base.specs.declared.call.Micro.TheVariants as micro
use Rattle.clk_base.specs.declared.call.Sleeping.{Sleeping}
use Rattle.clk_base.specs.declared.call.Sleeping.TheVariants as call
use Rattle.clk_base.specs.declared.event.Errno.TheVariants as errno
use Rattle.clk_base.specs.declared.event.Event.TheVariants as event
use Rattle.clk_base.specs.declared.event.Reply.TheVariants as reply
use Rattle.clk_base.specs.declared.event.Turn.{Turn}
use Rattle.clk_base.specs.declared.event.Turn.TheVariants as turn
use Rattle.clk_base.specs.declared.handle.Policy.{Policy}
use Rattle.clk_model.specs.declared.row.HandleRow.{HandleRow}
use Rattle.clk_model.specs.State.{State, Change, ChainStep, is_quiet}
use Rattle.clk_model.specs.Gates.{settled}
use Rattle.clk_model.specs.Round.{wiring, round_rate}
use Rattle.clk_model.specs.Chain.{chain}
use Rattle.clk_model.specs.Script.{probe_script, sweep_script, weight}
use Rattle.clk_model.specs.Views.{view, lift}
use Rattle.clk_model.specs.Begin.{put_handle, request_between, done, refused, most_credits, weight_of, starts, change_of, change_along, got, put_back, prepare, unprepare, rounded, request, range_set, parent_set, reparenting, exclusive_put, held_once_more, notifier_added, notifier_removed, register, probed, swept, begun}
use Rattle.clk_model.specs.Step.{sets_parent}
use Rattle.clk_model.specs.Machine.{next}
use Rattle.clk_model.specs.Laws.Weight.{front_weight, weight_left}
use Rattle.clk_model.specs.Laws.Paced.{left_of, may_time_out, winds_down, tells, BeginsWith, CallsBeginPaced}
use Rattle.clk_model.proofs.FreshLaws.{script_probe, script_sweep, Fresh, Begins, begins_done, begins_pick, begins_starts, begins_handle, fresh_change, fresh_along, fresh_reparenting}

begins_got : (s : State) (d : ℕ) (found : Option ℕ) → Begins (got s d found)
begins_got s d None = begins_done s (reply.Refused errno.ENOENT)
begins_got s d (Some c) = begins_pick _ _ _ (record { goes = λ e. absurd cc }) (begins_done s (reply.Refused errno.EPROBE_DEFER))

begins_put : (s : State) (n : ℕ) (h : HandleRow) → Begins (put_back s n h)
begins_put s n h = begins_pick _ _ _ (begins_done _ _) (begins_done _ _)

begins_prepare : (s : State) (d : ℕ) (what : Sleeping) (n : ℕ) (h : HandleRow) → sets_parent what ≡ false → Begins (prepare s d what n h)
begins_prepare s d what n h other =
    begins_pick _ _ _ (begins_done _ _)
    (begins_starts s s (change_of s d what (micro.Raise h.clock ∷ micro.End ∷ [])) (fresh_change s d what (micro.Raise h.clock ∷ micro.End ∷ []) (record { scripted = refl; last = refl }) other))

fresh_less : (s : State) (n : ℕ) (h : Option HandleRow) (k : Change) → Fresh s k → Fresh (put_handle s n h) k
fresh_less s n h k fresh = record { front = fresh.front; again = fresh.again; raised = fresh.raised; steps = fresh.steps; aborts = fresh.aborts }

begins_unprepare : (s : State) (d : ℕ) (what : Sleeping) (n : ℕ) (h : HandleRow) → sets_parent what ≡ false → Begins (unprepare s d what n h)
begins_unprepare s d what n h other =
    begins_pick _ _ _ (begins_done _ _)
    (begins_pick _ _ _ (begins_done _ _)
    (begins_starts s (put_handle s n (Some (record h { prepares = h.prepares - 1 }))) (change_of s d what (micro.Lower h.clock ∷ micro.End ∷ []))
    (fresh_less s n (Some (record h { prepares = h.prepares - 1 })) (change_of s d what (micro.Lower h.clock ∷ micro.End ∷ []))
    (fresh_change s d what (micro.Lower h.clock ∷ micro.End ∷ []) (record { scripted = refl; last = refl }) other))))

begins_rounded : (s : State) (n : ℕ) (h : HandleRow) (x : ℕ) → Begins (rounded s n h x)
begins_rounded s n h x = one (round_rate (wiring s) (view (lift s n)) h.clock.0 x) where
  one : (o : Option ℕ) → Begins (option_map_or (λ r. done s (reply.Rate r)) o (refused s errno.EINVAL))
  one None = begins_done s (reply.Refused errno.EINVAL)
  one (Some r) = begins_done s (reply.Rate r)

begins_request : (old new fine lifted : State) (d : ℕ) (what : Sleeping) (c x : ℕ) (range : Option (ℕ × ℕ)) → sets_parent what ≡ false
    → Begins (request old new fine lifted d what c x range)
begins_request old new fine lifted d what c x range other =
    begins_pick _ _ _ (begins_done _ _) (begins_pick _ _ _ (begins_done _ _) (one (chain (wiring new) (view lifted) c x))) where
      one : (o : Option (List ChainStep)) → Begins (option_map_or (λ ks. starts old new (change_along new d what ks [] range)) o (refused old errno.EINVAL))
      one None = begins_done old (reply.Refused errno.EINVAL)
      one (Some ks) = begins_starts old new (change_along new d what ks [] range) (fresh_along new d what ks range other)

begins_range : (s : State) (d : ℕ) (what : Sleeping) (n : ℕ) (h : HandleRow) (least most : ℕ) → sets_parent what ≡ false → Begins (range_set s d what n h least most)
begins_range s d what n h least most other =
    begins_pick _ _ _ (begins_done _ _)
    (begins_request s (put_handle s n (Some (record h { min = least; max = most }))) (put_handle s n (Some (record h { min = least; max = most })))
    (lift (put_handle s n (Some (record h { min = least; max = most }))) n) d what h.clock.0 (request_between s.clocks h.clock.0 least most) (Some (h.min, h.max)) other)

begins_parent : (s lifted : State) (d : ℕ) (what : Sleeping) (c p : ℕ) → sets_parent what ≡ true → Begins (parent_set s lifted d what c p)
begins_parent s lifted d what c p is =
    begins_pick _ _ _ (begins_done _ _)
    (begins_pick _ _ _ (begins_done _ _)
    (begins_pick _ _ _ (begins_done _ _)
    (begins_pick _ _ _ (begins_starts s s (reparenting s d what c p) (fresh_reparenting s d what c p is)) (begins_done _ _))))

begins_exclusive : (s : State) (n : ℕ) (h : HandleRow) → Begins (exclusive_put s n h)
begins_exclusive s n h = begins_pick _ _ _ (begins_done _ _) (begins_done _ _)

begins_added : (s : State) (c id : ℕ) (priority : ℤ) (policy : Policy) → Begins (notifier_added s c id priority policy)
begins_added s c id priority policy = begins_pick _ _ _ (begins_done _ _) (begins_pick _ _ _ (begins_done _ _) (begins_done _ _))

begins_removed : (s : State) (c id : ℕ) → Begins (notifier_removed s c id)
begins_removed s c id = begins_pick _ _ _ (begins_done _ _) (begins_done _ _)

begins_probed : (s : State) (d : ℕ) (what : Sleeping) (c : ℕ) → sets_parent what ≡ false → Begins (probed s d what c)
begins_probed s d what c other =
    begins_pick _ _ _ (begins_done _ _)
    (begins_pick _ _ _ (begins_done _ _)
    (begins_starts s s (change_of s d what (probe_script (register s c) c)) (fresh_change s d what (probe_script (register s c) c) (script_probe (register s c) c) other)))

begins_swept : (s : State) (d : ℕ) (what : Sleeping) → sets_parent what ≡ false → Begins (swept s d what)
begins_swept s d what other =
    begins_pick _ _ _ (begins_done _ _) (begins_starts s s (change_of s d what (sweep_script s)) (fresh_change s d what (sweep_script s) (script_sweep s) other))

-- each call
begins_call : (s : State) (d : ℕ) (what : Sleeping) → Begins (begun s d what)
unfolding begun
begins_call s d (call.Get found) = begins_got s d (option_map (λ c. c.0) found)
begins_call s d (call.Put h) = begins_handle s d h.number (put_back s h.number) (begins_put s h.number)
begins_call s d (call.Prepare h) = begins_handle s d h.number (prepare s d (call.Prepare h) h.number) (λ row. begins_prepare s d (call.Prepare h) h.number row refl)
begins_call s d (call.Unprepare h) = begins_handle s d h.number (unprepare s d (call.Unprepare h) h.number) (λ row. begins_unprepare s d (call.Unprepare h) h.number row refl)
begins_call s d (call.GetRate h) = begins_handle s d h.number _ (λ row. begins_done _ _)
begins_call s d (call.RoundRate h x) = begins_handle s d h.number (λ row. rounded s h.number row x) (λ row. begins_rounded s h.number row x)
begins_call s d (call.SetRate h x) =
    begins_handle s d h.number (λ row. request s s s (lift s h.number) d (call.SetRate h x) row.clock.0 x None)
    (λ row. begins_request s s s (lift s h.number) d (call.SetRate h x) row.clock.0 x None refl)
begins_call s d (call.SetRateExclusive h x) =
    begins_handle s d h.number (λ row. request s s (held_once_more s h.number row) s d (call.SetRateExclusive h x) row.clock.0 x None)
    (λ row. begins_request s s (held_once_more s h.number row) s d (call.SetRateExclusive h x) row.clock.0 x None refl)
begins_call s d (call.SetRange h least most) =
    begins_handle s d h.number (λ row. range_set s d (call.SetRange h least most) h.number row least most)
    (λ row. begins_range s d (call.SetRange h least most) h.number row least most refl)
begins_call s d (call.SetParent h p) =
    begins_handle s d h.number (λ row. parent_set s (lift s h.number) d (call.SetParent h p) row.clock.0 p.0)
    (λ row. begins_parent s (lift s h.number) d (call.SetParent h p) row.clock.0 p.0 refl)
begins_call s d (call.GetParent h) = begins_handle s d h.number _ (λ row. begins_done _ _)
begins_call s d (call.ExclusiveGet h) = begins_handle s d h.number _ (λ row. begins_done _ _)
begins_call s d (call.ExclusivePut h) = begins_handle s d h.number (exclusive_put s h.number) (begins_exclusive s h.number)
begins_call s d (call.NotifierAdd h id priority policy) =
    begins_handle s d h.number (λ row. notifier_added s row.clock.0 id priority policy) (λ row. begins_added s row.clock.0 id priority policy)
begins_call s d (call.NotifierRemove h id) = begins_handle s d h.number (λ row. notifier_removed s row.clock.0 id) (λ row. begins_removed s row.clock.0 id)
begins_call s d (call.Probe c) = begins_probed s d (call.Probe c) c.0 refl
begins_call s d call.Sweep = begins_swept s d call.Sweep refl

-- ---- beginnings in a run

-- a beginning leaves what the call does, with a credit spent
begin_defined : (s t : State) (d : ℕ) (what : Sleeping) (x : Turn) → next s d (event.Begin what) ≡ Some (t, x)
    → (t ≡ record (settled s (begun s d what).0) { spent = s.spent + 1 }) × ((begun s d what).1 ≡ x)
unfolding next
begin_defined s t d what x e = by_quiet (is_quiet s.change) (nat_lt s.spent s.credits) e where
  made : State × Turn
  made = (record (settled s (begun s d what).0) { spent = s.spent + 1 }, (begun s d what).1)

  by_quiet : (q b : Bool) → cond {A = Option (State × Turn)} q (cond {A = Option (State × Turn)} b (Some made) None) None ≡ Some (t, x)
      → (t ≡ record (settled s (begun s d what).0) { spent = s.spent + 1 }) × ((begun s d what).1 ≡ x)
  by_quiet false b f = absurd cc
  by_quiet true false f = absurd cc
  by_quiet true true f =
      let same : made ≡ (t, x) = ap (λ (o : Option (State × Turn)). option_map_or (λ (z : State × Turn). z) o made) f in
      (ap (λ (z : State × Turn). z.0) (sym same), ap (λ (z : State × Turn). z.1) same)

-- a fresh change that stands in a state is paced, also once the gates have followed
begins_with : (s y : State) (k : Change) (n : ℕ) → y.change ≡ Some k → Fresh y k → nat_lt most_credits (y.credits + y.steps + weight_of y k) ≡ false
    → BeginsWith (record (settled s y) { spent = n }) k
unfolding settled weight_left
begins_with s y k n at fresh room =
    let whole : weight_left y k ≡ sum_by (weight y) k.left + k.extra =
    let before = ap (λ (ms : List Micro). sum_by (front_weight y k) ms) fresh.front in
    let none = ap (λ (ys : List ℕ). length ys) fresh.raised in
    omega arith in
    let left : left_of y ≡ sum_by (weight y) k.left + k.extra = ap (λ (o : Option Change). option_map_or (weight_left y) o 0) at ∙ whole in
    record {
      change = at;
      paced = record {
        front = tells
            (ap (λ (ms : List Micro). winds_down ms k.raised) fresh.front) fresh.again;
        script = fresh.steps.scripted;
        last = fresh.steps.last;
        aborts = λ late. fresh.aborts (ap (λ (ms : List Micro). list_any may_time_out (ms ++ k.left)) (sym fresh.front) ∙ late);
      };
      whole = left ∙ ap (λ (ms : List Micro). sum_by (weight y) (ms ++ k.left) + k.extra) (sym fresh.front);
      room = grind (arith, nat_tests);
    }

-- each call that goes on begins with a paced change, which has room
pub calls_begin_paced : CallsBeginPaced
calls_begin_paced s t d what e =
    let is = begin_defined s t d what turn.Going e in
    let found = (begins_call s d what).goes is.1 in
    (found.0, subst (λ (u : State). BeginsWith u found.0) (sym is.0) (begins_with s (begun s d what).0 found.0 (s.spent + 1) found.1 found.2 found.3))
