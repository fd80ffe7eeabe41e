-- What goes along with the adding of a notifier.
use Rattle.std.proofs.Common.{◌≡◌, ℕ, ◌≤◌, ◌⊎◌, inl, inr, true, false, Some, None, refl, sym, ap, ◌∙◌, arith, length, nat_le}
use Rattle.std.proofs.lemmas.Bool.Decides.{nat_tests}
use Rattle.clk_base.specs.declared.call.Sleeping.TheVariants as call
use Rattle.clk_base.specs.declared.event.Event.TheVariants as event
use Rattle.clk_base.specs.declared.event.Reply.TheVariants as reply
use Rattle.clk_base.specs.declared.event.Turn.TheVariants as turn
use Rattle.clk_base.specs.declared.handle.Handle.{Handle}
use Rattle.clk_model.specs.declared.row.HandleRow.{HandleRow}
use Rattle.clk_model.specs.Begin.{begun, own_handle, has_notifier, most_notifiers}
use Rattle.clk_model.specs.Notices.{notifiers_of}
use Rattle.clk_model.specs.State.{State}
use Rattle.clk_model.proofs.FlightLaws.{begin_is}
use Rattle.clk_model.proofs.ShapeLaws.{begun_paid}
use Rattle.clk_model.proofs.TierLaws.{pick_either, with_handle_either}
use Rattle.notifiers.specs.declared.notifier.Notifier.{Notifier}
use Rattle.notifiers.specs.Chains.{chain_of, has_id}
use Rattle.clk_machine.specs.Along.{GoesAlong}
use Rattle.clk_machine.specs.Holding.{notified}
use Rattle.clk_machine.specs.Parts.{Parts, own_in}
use Rattle.clk_machine.specs.Places.{NeverAdds}
use Rattle.clk_machine.specs.Stands.{Becomes, nothing}
use Rattle.clk_machine.proofs.Along.{along_becomes, inside_row}
use Rattle.clk_machine.proofs.Entered.{own_stands}
use Rattle.clk_machine.proofs.Notifying.{has_stands, many_stand}

-- a state in which a notifier was added: the handle is the driver's own, and its clock has no notifier of the id, and fewer than it may have
record HasAdded (s : State) (d : ℕ) (h : Handle) (n : Notifier) (y : State) : Type 0 where
  row : HandleRow
  own : own_handle s d h.number ≡ Some row
  free : has_notifier s row.clock.0 n.id ≡ false
  few : nat_le most_notifiers (length (notifiers_of s.notifiers row.clock.0)) ≡ false
  is : y ≡ notified row.clock.0 n.id n.priority n.policy s

add_does : (s : State) (d : ℕ) (h : Handle) (n : Notifier) → (begun s d (call.NotifierAdd h n.id n.priority n.policy)).1 ≡ turn.Done reply.Fine
    → HasAdded s d h n (begun s d (call.NotifierAdd h n.id n.priority n.policy)).0
unfolding begun
add_does s d h n =
    with_handle_either (λ y. y.1 ≡ turn.Done reply.Fine → HasAdded s d h n y.0) s d h.number _ (λ e. absurd cc)
    (λ row own. pick_either (λ y. y.1 ≡ turn.Done reply.Fine → HasAdded s d h n y.0) _ _ _ (λ has e. absurd cc)
    (λ free. pick_either (λ y. y.1 ≡ turn.Done reply.Fine → HasAdded s d h n y.0) _ _ _ (λ full e. absurd cc)
    (λ few e. record { row = row; own = own; free = free; few = few; is = refl })))

-- a notifier is added
pub along_added : (old new : Parts) (d : ℕ) (h : Handle) (n : Notifier) (row : HandleRow) → own_in old.table.handles d h.number ≡ Some row
    → Becomes old nothing (notified row.clock.0 n.id n.priority n.policy) new → GoesAlong old d (event.Begin (call.NotifierAdd h n.id n.priority n.policy)) (turn.Done reply.Fine) new
along_added old new d h n row own becomes =
    along_becomes old new nothing (notified row.clock.0 n.id n.priority n.policy) d (call.NotifierAdd h n.id n.priority n.policy) reply.Fine becomes
    (λ s stands fine. let done = add_does s d h n fine in
    done.is ∙ ap (λ (r : HandleRow). notified r.clock.0 n.id n.priority n.policy s) (inside_row (sym done.own ∙ own_stands old s d h.number (Some row) stands own)))

-- one that is never added changes nothing
pub along_never : (old : Parts) (d : ℕ) (h : Handle) (n : Notifier) → NeverAdds old d h n → GoesAlong old d (event.Begin (call.NotifierAdd h n.id n.priority n.policy)) (turn.Done reply.Fine) old
along_never old d h n never s t stands sound step = absurd (never s t stands sound step)

-- it is never added where the handle isn't the driver's own, or no credit is left
pub never_paid : (m : Parts) (d : ℕ) (h : Handle) (n : Notifier) → (own_in m.table.handles d h.number ≡ None) ⊎ (m.credits ≤ m.spent) → NeverAdds m d h n
never_paid m d h n none s t stands sound step = by none where
  by : (own_in m.table.handles d h.number ≡ None) ⊎ (m.credits ≤ m.spent) → ⊥
  by (inl lacks) =
      let done = add_does s d h n (begin_is s t d (call.NotifierAdd h n.id n.priority n.policy) (turn.Done reply.Fine) step).2 in
      let no : None ≡ Some done.row = sym (own_stands m s d h.number None stands lacks) ∙ done.own in cc
  by (inr poor) =
      let left = (begun_paid s t d (call.NotifierAdd h n.id n.priority n.policy) (turn.Done reply.Fine) step).0.left in
      let credits = stands.credits in
      let spent = stands.spent in
      omega arith

-- nor where the clock of the handle has a notifier of the id
pub never_again : (m : Parts) (d : ℕ) (h : Handle) (n : Notifier) (row : HandleRow) → own_in m.table.handles d h.number ≡ Some row → has_id n.id (chain_of m.chains row.clock.0) ≡ true → NeverAdds m d h n
never_again m d h n row own has s t stands sound step =
    let done = add_does s d h n (begin_is s t d (call.NotifierAdd h n.id n.priority n.policy) (turn.Done reply.Fine) step).2 in
    let same = inside_row (sym done.own ∙ own_stands m s d h.number (Some row) stands own) in
    let no : true ≡ false = sym has ∙ sym (has_stands m s row.clock.0 n.id stands) ∙ sym (ap (λ (r : HandleRow). has_notifier s r.clock.0 n.id) same) ∙ done.free in
    cc

-- nor where it has as many as it may have
pub never_more : (m : Parts) (d : ℕ) (h : Handle) (n : Notifier) (row : HandleRow) → own_in m.table.handles d h.number ≡ Some row → most_notifiers ≤ length (chain_of m.chains row.clock.0) → NeverAdds m d h n
never_more m d h n row own full s t stands sound step =
    let done = add_does s d h n (begin_is s t d (call.NotifierAdd h n.id n.priority n.policy) (turn.Done reply.Fine) step).2 in
    let same = inside_row (sym done.own ∙ own_stands m s d h.number (Some row) stands own) in
    let many : length (notifiers_of s.notifiers done.row.clock.0) ≡ length (chain_of m.chains row.clock.0) =
    ap (λ (r : HandleRow). length (notifiers_of s.notifiers r.clock.0)) same ∙ many_stand m s row.clock.0 stands in
    fewer most_notifiers (length (notifiers_of s.notifiers done.row.clock.0)) (length (chain_of m.chains row.clock.0)) done.few many full where
      fewer : (most many some : ℕ) → nat_le most many ≡ false → many ≡ some → most ≤ some → ⊥
      fewer most many some few same full = grind (arith, nat_tests)
