-- Laws on shapes: each event leaves the description, the number of rows and the number of words.
use Rattle.std.proofs.Common.{◌<◌, ◌≡◌, ℕ, ◌+◌, ◌-◌, Bool, true, false, ◌||◌, cond, List, [], ◌∷◌, Option, Some, None, refl, sym, ap, subst, ◌∙◌, length, set, nat_lt}
use Rattle.std.proofs.Math.ListN.{length-set}
use Rattle.std.proofs.lemmas.Bool.{ltb-true}
use Rattle.std.proofs.lemmas.Option.{none-some}
use Rattle.clk_base.specs.declared.event.Event.{Event}
use Rattle.clk_model.specs.Tier.{is_enable_tier}
use Rattle.std.specs.Prelude.{nat_le, slice_get, reverse, option_and_then, if◌then◌else◌}
use Rattle.std.specs.Option.{option_map, option_map_or}
use Rattle.clk_base.specs.declared.call.Micro.{Micro}
use Rattle.clk_base.specs.declared.call.Micro.TheVariants as micro
use Rattle.clk_base.specs.declared.call.Sleeping.{Sleeping}
use Rattle.clk_base.specs.declared.call.Sleeping.TheVariants as call
use Rattle.clk_base.specs.declared.event.Errno.TheVariants as errno
use Rattle.clk_base.specs.declared.event.Event.TheVariants as event
use Rattle.clk_base.specs.declared.event.Reply.TheVariants as reply
use Rattle.clk_base.specs.declared.event.Turn.{Turn}
use Rattle.clk_base.specs.declared.event.Turn.TheVariants as turn
use Rattle.clk_base.specs.Description.{kind_of}
use Rattle.clk_base.specs.Fields.{GateBit, PowerBit, gate_of, power_of}
use Rattle.clk_base.specs.Levels.{depth}
use Rattle.reg_bank.specs.Registers.{Registers}
use Rattle.reg_bank.proofs.BitLaws.{length-put_bit}
use Rattle.clk_model.specs.declared.row.ClockRow.{ClockRow}
use Rattle.clk_model.specs.declared.row.HandleRow.{HandleRow}
use Rattle.clk_model.specs.Lists.{count_from}
use Rattle.clk_model.specs.Kinds.{mux_field, with_gate, with_power}
use Rattle.clk_model.specs.State.{State, Change, ChainStep, is_quiet, row_of, handle_at, requested}
use Rattle.clk_model.specs.Tree.{children}
use Rattle.clk_model.specs.Rate.{rate}
use Rattle.clk_model.specs.Holders.{active}
use Rattle.clk_model.specs.Gates.{settled}
use Rattle.clk_model.specs.Round.{wiring, round_rate, parent_rate_in}
use Rattle.clk_model.specs.Chain.{chain, setting}
use Rattle.clk_model.specs.Walk.{below_within}
use Rattle.clk_model.specs.Views.{view, lift}
use Rattle.clk_model.specs.Begin.{put_handle, request_between, done, refused, pick, most_credits, weight_of, starts, change_of, change_along, own_handle, with_handle, got, put_back, prepare, unprepare, rounded, request, range_set, parent_set, reparenting, exclusive_put, held_once_more, prepared_once_more, notifier_added, notifier_removed, register, begun}
use Rattle.clk_model.specs.Script.{probe_script, sweep_script}
use Rattle.clk_model.specs.Step.{taken, on, powered, to_raise, raise_one, poll, is_yes, to_lower, lower_one, planned_rate, set_in_chain, settle_all, ended_well, unranged, stepped}
use Rattle.clk_model.specs.Machine.{enabled, disabled, running, may_step, paid, counted, next}
use Rattle.clk_model.specs.Laws.LinksKept.{HasShapeOf, EventsKeepShape}
use Rattle.clk_model.proofs.GateLaws.{length-gates_moved}
use Rattle.clk_model.proofs.OutcomeLaws.{length-setting, length-selecting}
use Rattle.clk_model.proofs.PacedStepLaws.{step_defined}
use Rattle.clk_model.proofs.Cases.{by_option, by_test, by_handle}

-- a state has the description, the numbers of rows and words, the credits and the counts of another
pub record IsSame (q s : State) : Type 0 where
  pub defs : s.defs ≡ q.defs
  pub rows : length s.clocks ≡ length q.clocks
  pub words : length s.regs ≡ length q.regs
  pub credits : s.credits ≡ q.credits
  pub spent : s.spent ≡ q.spent
  pub steps : s.steps ≡ q.steps

-- what a call comes to is so, and has a change of its own only where it goes on
record Shaped (q : State) (r : State × Turn) : Type 0 where
  shape : IsSame q r.0
  still : (r.1 ≡ turn.Going → ⊥) → r.0.change ≡ q.change

self : (s : State) → IsSame s s
self s = record { defs = refl; rows = refl; words = refl; credits = refl; spent = refl; steps = refl }

shaped_pick : (q : State) (b : Bool) (f g : Unit {0} → State × Turn) → Shaped q (f tt) → Shaped q (g tt) → Shaped q (pick b f g)
unfolding pick
shaped_pick q true f g x y = x
shaped_pick q false f g x y = y

shaped_starts : (q old new : State) (k : Change) → IsSame q old → old.change ≡ q.change → IsSame q new → Shaped q (starts old new k)
shaped_starts q old new k shape still shape' =
    shaped_pick q (nat_lt most_credits (new.credits + new.steps + weight_of new k)) (λ t. refused old errno.ENOSPC) (λ t. (record new { change = Some k }, turn.Going))
    (record { shape = shape; still = λ going. still })
    (record { shape = record { defs = shape'.defs; rows = shape'.rows; words = shape'.words; credits = shape'.credits; spent = shape'.spent; steps = shape'.steps }; still = λ going. absurd (going refl) })

shaped_handle : (s : State) (d n : ℕ) (f : HandleRow → State × Turn) → ((h : HandleRow) → Shaped s (f h)) → Shaped s (with_handle s d n f)
shaped_handle s d n f each = one (own_handle s d n) where
  one : (o : Option HandleRow) → Shaped s (option_map_or f o (refused s errno.ENOENT))
  one None = record { shape = self s; still = λ going. refl }
  one (Some h) = each h

handle_shape : (s : State) (n : ℕ) (h : Option HandleRow) → IsSame s (put_handle s n h)
handle_shape s n h = record { defs = refl; rows = refl; words = refl; credits = refl; spent = refl; steps = refl }

register_shape : (s : State) (c : ℕ) → IsSame s (register s c)
unfolding register
register_shape s c = record { defs = refl; rows = simp length-set; words = refl; credits = refl; spent = refl; steps = refl }

pub register_change : (s : State) (c : ℕ) → (register s c).change ≡ s.change
unfolding register
register_change s c = refl

-- ---- calls

shaped_got : (s : State) (d : ℕ) (found : Option ℕ) → Shaped s (got s d found)
shaped_got s d None = record { shape = self s; still = λ going. refl }
shaped_got s d (Some c) = shaped_pick s _ _ _ (record { shape = record { defs = refl; rows = refl; words = refl; credits = refl; spent = refl; steps = refl }; still = λ going. refl }) (record { shape = self s; still = λ going. refl })

shaped_rounded : (s : State) (n : ℕ) (h : HandleRow) (x : ℕ) → Shaped s (rounded s n h x)
shaped_rounded s n h x = one (round_rate (wiring s) (view (lift s n)) h.clock.0 x) where
  one : (o : Option ℕ) → Shaped s (option_map_or (λ r. done s (reply.Rate r)) o (refused s errno.EINVAL))
  one None = record { shape = self s; still = λ going. refl }
  one (Some r) = record { shape = self s; still = λ going. refl }

shaped_request : (q old new fine lifted : State) (d : ℕ) (what : Sleeping) (c x : ℕ) (range : Option (ℕ × ℕ)) → IsSame q old → old.change ≡ q.change → IsSame q new
    → IsSame q fine → fine.change ≡ q.change → Shaped q (request old new fine lifted d what c x range)
shaped_request q old new fine lifted d what c x range shape still shape' well calm =
    shaped_pick q _ _ _ (record { shape = well; still = λ going. calm })
    (shaped_pick q _ _ _ (record { shape = shape; still = λ going. still }) (one (chain (wiring new) (view lifted) c x))) where
      one : (o : Option (List ChainStep)) → Shaped q (option_map_or (λ ks. starts old new (change_along new d what ks [] range)) o (refused old errno.EINVAL))
      one None = record { shape = shape; still = λ going. still }
      one (Some ks) = shaped_starts q old new (change_along new d what ks [] range) shape still shape'

shaped_range : (s : State) (d : ℕ) (what : Sleeping) (n : ℕ) (h : HandleRow) (least most : ℕ) → Shaped s (range_set s d what n h least most)
shaped_range s d what n h least most =
    let new : State = put_handle s n (Some (record h { min = least; max = most })) in
    let shape : IsSame s new = handle_shape s n (Some (record h { min = least; max = most })) in
    shaped_pick s _ _ _ (record { shape = self s; still = λ going. refl })
    (shaped_request s s new new (lift new n) d what h.clock.0 (request_between s.clocks h.clock.0 least most) (Some (h.min, h.max)) (self s) refl shape shape refl)

shaped_parent : (s lifted : State) (d : ℕ) (what : Sleeping) (c p : ℕ) → Shaped s (parent_set s lifted d what c p)
shaped_parent s lifted d what c p =
    shaped_pick s _ _ _ (record { shape = self s; still = λ going. refl })
    (shaped_pick s _ _ _ (record { shape = self s; still = λ going. refl })
    (shaped_pick s _ _ _ (record { shape = self s; still = λ going. refl })
    (shaped_pick s _ _ _ (shaped_starts s s s (reparenting s d what c p) (self s) refl (self s)) (record { shape = self s; still = λ going. refl }))))

-- each call
shaped_call : (s : State) (d : ℕ) (what : Sleeping) → Shaped s (begun s d what)
unfolding begun
shaped_call s d (call.Get found) = shaped_got s d (option_map (λ c. c.0) found)
shaped_call s d (call.Put h) = shaped_handle s d h.number (put_back s h.number) (λ row. shaped_pick s _ _ _ (record { shape = self s; still = λ going. refl }) (record { shape = handle_shape s h.number None; still = λ going. refl }))
shaped_call s d (call.Prepare h) =
    shaped_handle s d h.number (prepare s d (call.Prepare h) h.number) (λ row. shaped_pick s _ _ _ (record { shape = handle_shape s h.number _; still = λ going. refl })
    (shaped_starts s s s (change_of s d (call.Prepare h) (micro.Raise row.clock ∷ micro.End ∷ [])) (self s) refl (self s)))
shaped_call s d (call.Unprepare h) =
    shaped_handle s d h.number (unprepare s d (call.Unprepare h) h.number)
    (λ row. shaped_pick s _ _ _ (record { shape = self s; still = λ going. refl })
    (shaped_pick s _ _ _ (record { shape = handle_shape s h.number _; still = λ going. refl })
    (shaped_starts s s (put_handle s h.number (Some (record row { prepares = row.prepares - 1 })))
    (change_of s d (call.Unprepare h) (micro.Lower row.clock ∷ micro.End ∷ [])) (self s) refl (handle_shape s h.number (Some (record row { prepares = row.prepares - 1 }))))))
shaped_call s d (call.GetRate h) = shaped_handle s d h.number _ (λ row. record { shape = self s; still = λ going. refl })
shaped_call s d (call.RoundRate h x) = shaped_handle s d h.number (λ row. rounded s h.number row x) (λ row. shaped_rounded s h.number row x)
shaped_call s d (call.SetRate h x) =
    shaped_handle s d h.number (λ row. request s s s (lift s h.number) d (call.SetRate h x) row.clock.0 x None)
    (λ row. shaped_request s s s s (lift s h.number) d (call.SetRate h x) row.clock.0 x None (self s) refl (self s) (self s) refl)
shaped_call s d (call.SetRateExclusive h x) =
    shaped_handle s d h.number (λ row. request s s (held_once_more s h.number row) s d (call.SetRateExclusive h x) row.clock.0 x None)
    (λ row. shaped_request s s s (held_once_more s h.number row) s d (call.SetRateExclusive h x) row.clock.0 x None (self s) refl (self s) (handle_shape s h.number _) refl)
shaped_call s d (call.SetRange h least most) =
    shaped_handle s d h.number (λ row. range_set s d (call.SetRange h least most) h.number row least most) (λ row. shaped_range s d (call.SetRange h least most) h.number row least most)
shaped_call s d (call.SetParent h p) =
    shaped_handle s d h.number (λ row. parent_set s (lift s h.number) d (call.SetParent h p) row.clock.0 p.0)
    (λ row. shaped_parent s (lift s h.number) d (call.SetParent h p) row.clock.0 p.0)
shaped_call s d (call.GetParent h) = shaped_handle s d h.number _ (λ row. record { shape = self s; still = λ going. refl })
shaped_call s d (call.ExclusiveGet h) = shaped_handle s d h.number _ (λ row. record { shape = handle_shape s h.number _; still = λ going. refl })
shaped_call s d (call.ExclusivePut h) =
    shaped_handle s d h.number (exclusive_put s h.number) (λ row. shaped_pick s _ _ _ (record { shape = self s; still = λ going. refl }) (record { shape = handle_shape s h.number _; still = λ going. refl }))
shaped_call s d (call.NotifierAdd h id priority policy) =
    shaped_handle s d h.number (λ row. notifier_added s row.clock.0 id priority policy)
    (λ row. shaped_pick s _ _ _ (record { shape = self s; still = λ going. refl })
    (shaped_pick s _ _ _ (record { shape = self s; still = λ going. refl }) (record { shape = record { defs = refl; rows = refl; words = refl; credits = refl; spent = refl; steps = refl }; still = λ going. refl })))
shaped_call s d (call.NotifierRemove h id) =
    shaped_handle s d h.number (λ row. notifier_removed s row.clock.0 id)
    (λ row. shaped_pick s _ _ _ (record { shape = record { defs = refl; rows = refl; words = refl; credits = refl; spent = refl; steps = refl }; still = λ going. refl }) (record { shape = self s; still = λ going. refl }))
shaped_call s d (call.Probe c) =
    shaped_pick s _ _ _ (record { shape = self s; still = λ going. refl }) (shaped_pick s _ _ _ (record { shape = register_shape s c.0; still = λ going. register_change s c.0 })
    (shaped_starts s s s (change_of s d (call.Probe c) (probe_script (register s c.0) c.0)) (self s) refl (self s)))
shaped_call s d call.Sweep = shaped_pick s _ _ _ (record { shape = self s; still = λ going. refl }) (shaped_starts s s s (change_of s d call.Sweep (sweep_script s)) (self s) refl (self s))

-- ---- steps

with_words : (s : State) (regs : Registers) (k : Change) → length regs ≡ length s.regs → IsSame s (on (record s { regs = regs }) k)
with_words s regs k size = record { defs = refl; rows = refl; words = size; credits = refl; spent = refl; steps = refl }

length-powering : (regs : Registers) (up : Bool) (o : Option PowerBit) → length (option_map_or (λ power. with_power regs power up) o regs) ≡ length regs
length-powering regs up None = refl
length-powering regs up (Some power) = length-put_bit regs power.word power.bit up

powered_shape : (s : State) (y : ℕ) (up : Bool) (k : Change) → IsSame s (on (powered s y up) k)
powered_shape s y up k = record { defs = refl; rows = refl; words = length-powering s.regs up (power_of (kind_of s.defs y)); credits = refl; spent = refl; steps = refl }

on_shape : (s : State) (k : Change) → IsSame s (on s k)
on_shape s k = record { defs = refl; rows = refl; words = refl; credits = refl; spent = refl; steps = refl }

poll_shape : (s : State) (k : Change) (y : ℕ) (b : Bool) → IsSame s (poll s k y b)
poll_shape s k y true = on_shape s _
poll_shape s k y false = by_test (IsSame s) (nat_le k.polls 1) _ _ (on_shape s _) (on_shape s _)

length-set_in_chain : (s : State) (k : Change) (c : ℕ) → length (set_in_chain s k c) ≡ length s.regs
length-set_in_chain s k c = one (planned_rate k c) where
  one : (o : Option ℕ) → length (option_map_or (λ planned. setting (kind_of s.defs c) (parent_rate_in (wiring s) c) planned s.regs) o s.regs) ≡ length s.regs
  one None = refl
  one (Some planned) = length-setting (kind_of s.defs c) (parent_rate_in (wiring s) c) planned s.regs

pub length-settle_all : (s : State) (cs : List ℕ) → length (settle_all s cs) ≡ length s.clocks
length-settle_all s [] = refl
length-settle_all s (c ∷ cs) =
    length-set_row (settle_all s cs) c (record (row_of (settle_all s cs) c) { last_request = rate s.defs s.regs s.clocks c }) ∙ length-settle_all s cs where
      length-set_row : (clocks : List ClockRow) (x : ℕ) (row : ClockRow) → length (set clocks x row) ≡ length clocks
      length-set_row clocks x row = simp length-set

length-closing : (s : State) (c : ℕ) (t : Bool) (o : Option GateBit)
    → length (if t then s.regs else option_map_or (λ gate. with_gate s.regs gate false) o s.regs) ≡ length s.regs
length-closing s c true o = refl
length-closing s c false None = refl
length-closing s c false (Some gate) = length-put_bit s.regs gate.word gate.bit _

request_shape : (s : State) (c x : ℕ) → length (requested s.clocks c x) ≡ length s.clocks
request_shape s c x = simp length-set

end_shape : (s : State) (d : ℕ) (what : Sleeping) → IsSame s (ended_well s d what)
end_shape s d (call.Prepare h) = by_handle (IsSame s) (handle_at s.handles h.number) (prepared_once_more s h.number) s (self s) (λ row. handle_shape s h.number _)
end_shape s d (call.SetRate h x) =
    by_handle (IsSame s) (handle_at s.handles h.number) _ s (self s) (λ row. record { defs = refl; rows = request_shape s row.clock.0 x; words = refl; credits = refl; spent = refl; steps = refl })
end_shape s d (call.SetRateExclusive h x) =
    by_handle (IsSame s) (handle_at s.handles h.number) _ s (self s) (λ row. record { defs = refl; rows = request_shape s row.clock.0 x; words = refl; credits = refl; spent = refl; steps = refl })
end_shape s d (call.SetRange h least most) =
    by_handle (IsSame s) (handle_at s.handles h.number) _ s (self s)
    (λ row. record { defs = refl; rows = request_shape s row.clock.0 (request_between s.clocks row.clock.0 least most); words = refl; credits = refl; spent = refl; steps = refl })
end_shape s d _ = self s

ended_shape : (s y : State) → IsSame s y → IsSame s (record y { change = None })
ended_shape s y shape = record { defs = shape.defs; rows = shape.rows; words = shape.words; credits = shape.credits; spent = shape.spent; steps = shape.steps }

unranged_shape : (s : State) (k : Change) → IsSame s (unranged s k)
unranged_shape s k = record { defs = refl; rows = refl; words = refl; credits = refl; spent = refl; steps = refl }

changed_shape : (s y : State) (k : Change) → IsSame s y → IsSame s (on y k)
changed_shape s y k shape = record { defs = shape.defs; rows = shape.rows; words = shape.words; credits = shape.credits; spent = shape.spent; steps = shape.steps }

pub step_shape : (s : State) (k : Change) (answer : Option Bool) (m : Micro) → IsSame s (stepped s k answer m).0
unfolding stepped
step_shape s k answer (micro.Notify kind c id old new) = on_shape s k
step_shape s k answer (micro.Raise x) = by_option (IsSame s) (slice_get (reverse (to_raise s k x.0)) 0) (raise_one s k x.0) _ (on_shape s _) (λ y. powered_shape s y true _)
step_shape s k answer (micro.Poll y) = poll_shape s k y.0 (is_yes answer)
step_shape s k answer (micro.Fall y) = powered_shape s y.0 false _
step_shape s k answer (micro.HoldPrepare x) = record { defs = refl; rows = refl; words = refl; credits = refl; spent = refl; steps = refl }
step_shape s k answer (micro.HoldEnable x) = record { defs = refl; rows = refl; words = refl; credits = refl; spent = refl; steps = refl }
step_shape s k answer (micro.Relink c p) = record { defs = refl; rows = simp length-set; words = refl; credits = refl; spent = refl; steps = refl }
step_shape s k answer (micro.WriteMux c place) = with_words s _ k (length-selecting (mux_field (kind_of s.defs c.0)) place s.regs)
step_shape s k answer (micro.DropEnable x) = record { defs = refl; rows = refl; words = refl; credits = refl; spent = refl; steps = refl }
step_shape s k answer (micro.DropPrepare x) = record { defs = refl; rows = refl; words = refl; credits = refl; spent = refl; steps = refl }
step_shape s k answer (micro.Lower x) = by_option (IsSame s) (slice_get (to_lower s x.0) 0) (lower_one s k x.0) _ (on_shape s _) (λ y. powered_shape s y false _)
step_shape s k answer (micro.Visit c) = with_words s (set_in_chain s k c.0) _ (length-set_in_chain s k c.0)
step_shape s k answer (micro.Register c) = changed_shape s (register s c.0) _ (register_shape s c.0)
step_shape s k answer (micro.Settle c) = record { defs = refl; rows = length-settle_all s (below_within (children s.order s.clocks) depth c.0); words = refl; credits = refl; spent = refl; steps = refl }
step_shape s k answer (micro.Close c) = with_words s _ k (length-closing s c.0 (active s c.0) (gate_of (kind_of s.defs c.0)))
step_shape s k answer (micro.Unpower c) = powered_shape s c.0 false k
step_shape s k answer micro.End = ended_shape s _ (by_test (IsSame s) (k.vetoed || k.timed_out) (unranged s k) (ended_well s k.driver k.call) (unranged_shape s k) (end_shape s k.driver k.call))

-- ---- events

settled_shape : (s y : State) → IsSame s y → IsSame s (settled s y)
unfolding settled
settled_shape s y shape = record {
  defs = shape.defs;
  rows = shape.rows;
  words = length-gates_moved y.defs (active s) (active y) (count_from 0 (length y.defs)) y.regs ∙ shape.words;
  credits = shape.credits;
  spent = shape.spent;
  steps = shape.steps;
}

-- what an event that spends a credit leaves
pub record IsPaid (s t : State) : Type 0 where
  pub shape : HasShapeOf s t
  pub credits : t.credits ≡ s.credits
  pub spent : t.spent ≡ s.spent + 1
  pub steps : t.steps ≡ s.steps
  pub left : s.spent < s.credits

pub settled_change : (s y : State) → (settled s y).change ≡ y.change
unfolding settled
settled_change s y = refl

paid_shape : (s t : State) (r : State × Turn) (x : Turn) → Shaped s r → paid s r ≡ Some (t, x) → IsPaid s t × ((x ≡ turn.Going → ⊥) → t.change ≡ s.change)
paid_shape s t r x shaped e = by_credit (nat_lt s.spent s.credits) refl e where
  made_of : State × Turn
  made_of = (record (settled s r.0) { spent = s.spent + 1 }, r.1)

  by_credit : (b : Bool) → nat_lt s.spent s.credits ≡ b → cond {A = Option (State × Turn)} b (Some made_of) None ≡ Some (t, x)
      → IsPaid s t × ((x ≡ turn.Going → ⊥) → t.change ≡ s.change)
  by_credit false credit f = absurd cc
  by_credit true credit f =
      let same : made_of ≡ (t, x) = ap (λ (o : Option (State × Turn)). option_map_or (λ (z : State × Turn). z) o made_of) f in
      let shape = settled_shape s r.0 shaped.shape in
      subst (λ (z : State × Turn). IsPaid s z.0 × ((z.1 ≡ turn.Going → ⊥) → z.0.change ≡ s.change)) same (
        record {
          shape = record { defs = shape.defs; rows = shape.rows; words = shape.words };
          credits = shape.credits;
          spent = refl;
          steps = shape.steps;
          left = ltb-true s.spent s.credits credit;
        },
        (λ going. settled_change s r.0 ∙ shaped.still going),
      )

-- what a step leaves
pub record IsCounted (s t : State) : Type 0 where
  pub shape : HasShapeOf s t
  pub credits : t.credits ≡ s.credits
  pub spent : t.spent ≡ s.spent
  pub steps : t.steps ≡ s.steps + 1

pub taken_step : (s t : State) (k : Change) (d : ℕ) (m : Micro) (answer : Option Bool) (x : Turn) → s.change ≡ Some k → next s d (event.Step m answer) ≡ Some (t, x) → IsCounted s t
taken_step s t k d m answer x at e =
    let is = step_defined s t k d m answer x at e in
    let shape = settled_shape s (stepped s (taken k) answer m).0 (step_shape s (taken k) answer m) in
    subst (λ (z : State × Turn). IsCounted s z.0) is.1 (record {
      shape = record { defs = shape.defs; rows = shape.rows; words = shape.words };
      credits = shape.credits;
      spent = shape.spent;
      steps = refl;
    })

pub no_step : (s t : State) (d : ℕ) (m : Micro) (answer : Option Bool) (x : Turn) → s.change ≡ None → next s d (event.Step m answer) ≡ Some (t, x) → ⊥
unfolding next
no_step s t d m answer x at e =
    none-some (t, x) (ap (λ (o : Option Change). option_and_then (λ l. if may_step d m answer l then Some (counted s (stepped s (taken l) answer m)) else None) o) (sym at) ∙ e)

-- what the beginning of a call leaves
pub begun_paid : (s t : State) (d : ℕ) (what : Sleeping) (x : Turn) → next s d (event.Begin what) ≡ Some (t, x) → IsPaid s t × ((x ≡ turn.Going → ⊥) → t.change ≡ s.change)
unfolding next
begun_paid s t d what x e = by_quiet (is_quiet s.change) e where
  by_quiet : (q : Bool) → cond {A = Option (State × Turn)} q (paid s (begun s d what)) None ≡ Some (t, x) → IsPaid s t × ((x ≡ turn.Going → ⊥) → t.change ≡ s.change)
  by_quiet false f = absurd cc
  by_quiet true f = paid_shape s t (begun s d what) x (shaped_call s d what) f

-- what an event of the enable tier leaves
pub enable_paid : (s t : State) (d : ℕ) (e : Event) (x : Turn) → is_enable_tier e ≡ true → next s d e ≡ Some (t, x) → IsPaid s t
unfolding next
enable_paid s t d (event.Enable n) x is e =
    (paid_shape s t _ x (shaped_handle s d n (enabled s n)
    (λ h. shaped_pick s _ _ _ (record { shape = self s; still = λ going. refl }) (record { shape = handle_shape s n _; still = λ going. refl }))) e).0
enable_paid s t d (event.Disable n) x is e =
    (paid_shape s t _ x (shaped_handle s d n (disabled s n)
    (λ h. shaped_pick s _ _ _ (record { shape = self s; still = λ going. refl }) (record { shape = handle_shape s n _; still = λ going. refl }))) e).0
enable_paid s t d (event.Running n) x is e = (paid_shape s t _ x (shaped_handle s d n (running s) (λ h. record { shape = self s; still = λ going. refl })) e).0
enable_paid s t d (event.Begin what) x is e = absurd cc
enable_paid s t d (event.Step m answer) x is e = absurd cc

-- each event leaves the shape
pub events_keep_shape : EventsKeepShape
events_keep_shape s t d (event.Enable n) x e = (enable_paid s t d (event.Enable n) x refl e).shape
events_keep_shape s t d (event.Disable n) x e = (enable_paid s t d (event.Disable n) x refl e).shape
events_keep_shape s t d (event.Running n) x e = (enable_paid s t d (event.Running n) x refl e).shape
events_keep_shape s t d (event.Begin what) x e = (begun_paid s t d what x e).0.shape
events_keep_shape s t d (event.Step m answer) x e = by_change s.change refl where
  by_change : (o : Option Change) → s.change ≡ o → HasShapeOf s t
  by_change None at = absurd (no_step s t d m answer x at e)
  by_change (Some k) at = (taken_step s t k d m answer x at e).shape
