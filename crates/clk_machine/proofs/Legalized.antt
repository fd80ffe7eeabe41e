-- A state that a journal leads to is led to by a legal one.
use Rattle.std.proofs.Common.{◌≡◌, ℕ, ◌-◌, Bool, true, false, List, [], ◌∷◌, Option, Some, None, refl, sym, ap, ◌∙◌}
use Rattle.std.specs.Prelude.{if◌then◌else◌}
use Rattle.std.specs.Option.{option_map_or}
use Rattle.clk_base.specs.declared.call.Micro.{Micro}
use Rattle.clk_base.specs.declared.call.Micro.TheVariants as micro
use Rattle.clk_base.specs.declared.call.Sleeping.{Sleeping}
use Rattle.clk_base.specs.declared.call.Sleeping.TheVariants as call
use Rattle.clk_base.specs.declared.event.Entry.{Entry}
use Rattle.clk_base.specs.declared.event.Errno.TheVariants as errno
use Rattle.clk_base.specs.declared.event.Event.{Event}
use Rattle.clk_base.specs.declared.event.Event.TheVariants as event
use Rattle.clk_base.specs.declared.event.Reply.TheVariants as reply
use Rattle.clk_base.specs.declared.event.Turn.{Turn}
use Rattle.clk_base.specs.declared.event.Turn.TheVariants as turn
use Rattle.clk_model.specs.declared.row.HandleRow.{HandleRow}
use Rattle.clk_model.specs.Begin.{done, refused, starts, change_of, change_along, with_handle, put_handle, held_once_more, request, request_between, reparenting, parent_set, register, begun}
use Rattle.clk_model.specs.Chain.{chain}
use Rattle.clk_model.specs.Holders.{active}
use Rattle.clk_model.specs.Journal.{slotless, replay, Legal}
use Rattle.clk_model.specs.Laws.CallCauses.{with_limits}
use Rattle.clk_model.specs.Machine.{paid, next, enabled, disabled, running}
use Rattle.clk_model.specs.Round.{wiring, round_rate}
use Rattle.clk_model.specs.Script.{probe_script, sweep_script}
use Rattle.clk_model.specs.State.{State, Change}
use Rattle.clk_model.specs.Step.{taken, stepped}
use Rattle.clk_model.specs.Views.{view, lift}
use Rattle.clk_model.proofs.Cases.{by_found, by_plan}
use Rattle.clk_model.proofs.FlightLaws.{begin_is, step_is}
use Rattle.clk_model.proofs.TierLaws.{pick_either, with_handle_either, paid_is}
use Rattle.clk_machine.specs.Landing.{reply_of}

-- ---- turns have no slot

abbrev Slotless : State × Turn → Type 0
Slotless y = slotless y.1 ≡ y.1

starts_slotless : (old new : State) (k : Change) → Slotless (starts old new k)
starts_slotless old new k = pick_either Slotless _ _ _ (λ e. refl) (λ e. refl)

request_slotless : (old new fine lifted : State) (d : ℕ) (what : Sleeping) (c x : ℕ) (range : Option (ℕ × ℕ)) → Slotless (request old new fine lifted d what c x range)
request_slotless old new fine lifted d what c x range =
    pick_either Slotless _ _ _ (λ e. refl) (λ e. pick_either Slotless _ _ _ (λ g. refl) (λ g. by_plan Slotless (chain (wiring new) (view lifted) c x) _ _ refl
    (λ ks. starts_slotless old new (change_along new d what ks [] range))))

parent_slotless : (s lifted : State) (d : ℕ) (what : Sleeping) (c p : ℕ) → Slotless (parent_set s lifted d what c p)
parent_slotless s lifted d what c p =
    pick_either Slotless _ _ _ (λ e. refl) (λ e. pick_either Slotless _ _ _ (λ f. refl) (λ f. pick_either Slotless _ _ _ (λ g. refl)
    (λ g. pick_either Slotless _ _ _ (λ h. starts_slotless s s (reparenting s d what c p)) (λ h. refl))))

begun_slotless : (s : State) (d : ℕ) (what : Sleeping) → Slotless (begun s d what)
unfolding begun
begun_slotless s d (call.Get None) = refl
begun_slotless s d (call.Get (Some c)) = pick_either Slotless _ _ _ (λ e. refl) (λ e. refl)
begun_slotless s d (call.Put h) = with_handle_either Slotless s d h.number _ refl (λ row own. pick_either Slotless _ _ _ (λ e. refl) (λ e. refl))
begun_slotless s d (call.Prepare h) =
    with_handle_either Slotless s d h.number _ refl
    (λ row own. pick_either Slotless _ _ _ (λ e. refl) (λ e. starts_slotless s s (change_of s d (call.Prepare h) (micro.Raise row.clock ∷ micro.End ∷ []))))
begun_slotless s d (call.Unprepare h) =
    with_handle_either Slotless s d h.number _ refl (λ row own. pick_either Slotless _ _ _ (λ e. refl) (λ e. pick_either Slotless _ _ _ (λ f. refl)
    (λ f. starts_slotless s (put_handle s h.number (Some (record row { prepares = row.prepares - 1 }))) (change_of s d (call.Unprepare h) (micro.Lower row.clock ∷ micro.End ∷ [])))))
begun_slotless s d (call.GetRate h) = with_handle_either Slotless s d h.number _ refl (λ row own. refl)
begun_slotless s d (call.RoundRate h x) = with_handle_either Slotless s d h.number _ refl (λ row own. by_found Slotless (round_rate (wiring s) (view (lift s h.number)) row.clock.0 x) (λ r. done s (reply.Rate r)) (refused s errno.EINVAL) refl (λ r. refl))
begun_slotless s d (call.SetRate h x) =
    with_handle_either Slotless s d h.number _ refl (λ row own. request_slotless s s s (lift s h.number) d (call.SetRate h x) row.clock.0 x None)
begun_slotless s d (call.SetRateExclusive h x) =
    with_handle_either Slotless s d h.number _ refl (λ row own. request_slotless s s (held_once_more s h.number row) s d (call.SetRateExclusive h x) row.clock.0 x None)
begun_slotless s d (call.SetRange h least most) =
    with_handle_either Slotless s d h.number _ refl (λ row own. pick_either Slotless _ _ _ (λ e. refl)
    (λ e. request_slotless s (with_limits s h.number row least most) (with_limits s h.number row least most) (lift (with_limits s h.number row least most) h.number) d (call.SetRange h least most)
    row.clock.0 (request_between s.clocks row.clock.0 least most) (Some (row.min, row.max))))
begun_slotless s d (call.SetParent h p) = with_handle_either Slotless s d h.number _ refl (λ row own. parent_slotless s (lift s h.number) d (call.SetParent h p) row.clock.0 p.0)
begun_slotless s d (call.GetParent h) = with_handle_either Slotless s d h.number _ refl (λ row own. refl)
begun_slotless s d (call.ExclusiveGet h) = with_handle_either Slotless s d h.number _ refl (λ row own. refl)
begun_slotless s d (call.ExclusivePut h) = with_handle_either Slotless s d h.number _ refl (λ row own. pick_either Slotless _ _ _ (λ e. refl) (λ e. refl))
begun_slotless s d (call.NotifierAdd h id priority policy) =
    with_handle_either Slotless s d h.number _ refl (λ row own. pick_either Slotless _ _ _ (λ e. refl) (λ e. pick_either Slotless _ _ _ (λ f. refl) (λ f. refl)))
begun_slotless s d (call.NotifierRemove h id) = with_handle_either Slotless s d h.number _ refl (λ row own. pick_either Slotless _ _ _ (λ e. refl) (λ e. refl))
begun_slotless s d (call.Probe c) =
    pick_either Slotless _ _ _ (λ e. refl) (λ e. pick_either Slotless _ _ _ (λ f. refl) (λ f. starts_slotless s s (change_of s d (call.Probe c) (probe_script (register s c.0) c.0))))
begun_slotless s d call.Sweep = pick_either Slotless _ _ _ (λ e. refl) (λ e. starts_slotless s s (change_of s d call.Sweep (sweep_script s)))

ended_slotless : (v late : Bool) → slotless (turn.Done (reply_of v late)) ≡ turn.Done (reply_of v late)
ended_slotless true late = refl
ended_slotless false true = refl
ended_slotless false false = refl

step_slotless : (s : State) (k : Change) (answer : Option Bool) (m : Micro) → Slotless (stepped s k answer m)
unfolding stepped
step_slotless s k answer micro.End = ended_slotless k.vetoed k.timed_out
step_slotless s k answer m = refl

paid_slotless : (s : State) (d number : ℕ) (f : HandleRow → State × Turn) (o : Option (State × Turn)) (y : State × Turn) → ((h : HandleRow) → Slotless (f h)) → o ≡ paid s (with_handle s d number f) → o ≡ Some y
    → slotless y.1 ≡ y.1
paid_slotless s d number f o y each is at =
    let z : State × Turn = with_handle s d number f in
    let same = (paid_is s y.0 z y.1 (sym is ∙ at)).1 in
    ap slotless (sym same) ∙ with_handle_either Slotless s d number f refl (λ h own. each h) ∙ same

yes_slotless : (t : Bool) → slotless (turn.Done (if t then reply.Yes else reply.No)) ≡ turn.Done (if t then reply.Yes else reply.No)
yes_slotless true = refl
yes_slotless false = refl

enable_paid : (s : State) (d number : ℕ) → next s d (event.Enable number) ≡ paid s (with_handle s d number (enabled s number))
unfolding next
enable_paid s d number = refl

disable_paid : (s : State) (d number : ℕ) → next s d (event.Disable number) ≡ paid s (with_handle s d number (disabled s number))
unfolding next
disable_paid s d number = refl

running_paid : (s : State) (d number : ℕ) → next s d (event.Running number) ≡ paid s (with_handle s d number (running s))
unfolding next
running_paid s d number = refl

next_slotless : (s : State) (d : ℕ) (e : Event) (y : State × Turn) → next s d e ≡ Some y → slotless y.1 ≡ y.1
next_slotless s d (event.Enable n) y at = paid_slotless s d n (enabled s n) (next s d (event.Enable n)) y (λ h. pick_either Slotless _ _ _ (λ e. refl) (λ e. refl)) (enable_paid s d n) at
next_slotless s d (event.Disable n) y at = paid_slotless s d n (disabled s n) (next s d (event.Disable n)) y (λ h. pick_either Slotless _ _ _ (λ e. refl) (λ e. refl)) (disable_paid s d n) at
next_slotless s d (event.Running n) y at = paid_slotless s d n (running s) (next s d (event.Running n)) y (λ h. yes_slotless (active s h.clock.0)) (running_paid s d n) at
next_slotless s d (event.Begin what) y at = let same = (begin_is s y.0 d what y.1 at).2 in ap slotless (sym same) ∙ begun_slotless s d what ∙ same
next_slotless s d (event.Step m answer) y at =
    let is = step_is s y.0 d m answer y.1 at in
    ap slotless (sym is.1.answered) ∙ step_slotless s (taken is.0) answer m ∙ is.1.answered

-- ---- a legal journal

-- entries that are defined, with the machine's turns
pub record Legalized (s : State) (journal : List Entry) : Type 0 where
  pub entries : List Entry
  pub legal : Legal s entries
  pub leads : replay s entries ≡ replay s journal

pub legalized : (s : State) (journal : List Entry) → Legalized s journal
legalized s [] = record { entries = []; legal = tt; leads = refl }
legalized s (e ∷ es) = by (next s e.driver e.event) refl (λ u. legalized u es) where
  by : (o : Option (State × Turn)) → next s e.driver e.event ≡ o → ((u : State) → Legalized u es) → Legalized s (e ∷ es)
  by None at more =
      let rest = more s in
      record { entries = rest.entries; legal = rest.legal; leads = rest.leads ∙ ap (λ (p : Option (State × Turn)). replay (option_map_or (λ x. x.0) p s) es) (sym at) }
  by (Some y) at more =
      let rest = more y.0 in
      let own : Entry = record { driver = e.driver; event = e.event; turn = y.1 } in
      record {
        entries = own ∷ rest.entries;
        legal = (y.0, at ∙ ap (λ (x : Turn). let z : State × Turn = (y.0, x) in Some z) (sym (next_slotless s e.driver e.event y at)), rest.legal);
        leads =
            ap (λ (p : Option (State × Turn)). replay (option_map_or (λ x. x.0) p s) rest.entries) at ∙ rest.leads
            ∙ ap (λ (p : Option (State × Turn)). replay (option_map_or (λ x. x.0) p s) es) (sym at);
      }
