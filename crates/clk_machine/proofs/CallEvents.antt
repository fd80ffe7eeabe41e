-- What the calls on exclusives, notifiers, roundings and registrations come to.
use Rattle.std.proofs.Common.{◌≡◌, ℕ, ℤ, ◌+◌, ◌-◌, ◌<◌, ◌≤◌, ◌++◌, [], ◌∷◌, true, false, Option, Some, None, ap, ◌∙◌, arith, nat_eq, length, nat_le}
use Rattle.std.specs.Option.{option_map_or}
use Rattle.std.proofs.lemmas.Bool.Decides.{nat_tests}
use Rattle.clk_base.specs.declared.call.Sleeping.TheVariants as call
use Rattle.clk_base.specs.declared.event.Errno.TheVariants as errno
use Rattle.clk_base.specs.declared.event.Event.TheVariants as event
use Rattle.clk_base.specs.declared.event.Reply.TheVariants as reply
use Rattle.clk_base.specs.declared.event.Turn.TheVariants as turn
use Rattle.clk_base.specs.declared.handle.Handle.{Handle}
use Rattle.clk_base.specs.declared.handle.Policy.{Policy}
use Rattle.clk_model.specs.declared.row.HandleRow.{HandleRow}
use Rattle.clk_model.specs.State.{State}
use Rattle.clk_model.specs.Notices.{notifiers_of}
use Rattle.clk_model.specs.Round.{wiring, round_rate}
use Rattle.clk_model.specs.Views.{view, lift}
use Rattle.clk_model.specs.Begin.{done, refused, put_handle, own_handle, held_once_more, exclusive_put, has_notifier, most_notifiers, notifier_added, notifier_removed, rounded, begun}
use Rattle.clk_model.specs.Machine.{paid, next}
use Rattle.clk_model.proofs.EventLaws.{pick-true, pick-false, begin_quiet, with-none, with-some}
use Rattle.notifiers.specs.Chains.{without_notifier}

-- ---- exclusives

pub exclusive_get-unknown : (s : State) (d : ℕ) (h : Handle) → s.change ≡ None → own_handle s d h.number ≡ None
    → next s d (event.Begin (call.ExclusiveGet h)) ≡ paid s (refused s errno.ENOENT)
unfolding begun
exclusive_get-unknown s d h quiet none =
    begin_quiet s d (call.ExclusiveGet h) quiet ∙ ap (paid s) (with-none s d h.number (λ row. done (held_once_more s h.number row) reply.Fine) none)

pub exclusive_get-fine : (s : State) (d : ℕ) (h : Handle) (row : HandleRow) → s.change ≡ None → own_handle s d h.number ≡ Some row
    → next s d (event.Begin (call.ExclusiveGet h)) ≡ paid s (put_handle s h.number (Some (record row { exclusives = row.exclusives + 1 })), turn.Done reply.Fine)
unfolding begun
exclusive_get-fine s d h row quiet own =
    begin_quiet s d (call.ExclusiveGet h) quiet ∙ ap (paid s) (with-some s d h.number (λ row. done (held_once_more s h.number row) reply.Fine) row own)

pub exclusive_put-unknown : (s : State) (d : ℕ) (h : Handle) → s.change ≡ None → own_handle s d h.number ≡ None
    → next s d (event.Begin (call.ExclusivePut h)) ≡ paid s (refused s errno.ENOENT)
unfolding begun
exclusive_put-unknown s d h quiet none =
    begin_quiet s d (call.ExclusivePut h) quiet ∙ ap (paid s) (with-none s d h.number (exclusive_put s h.number) none)

pub exclusive_put-warned : (s : State) (d : ℕ) (h : Handle) (row : HandleRow) → s.change ≡ None → own_handle s d h.number ≡ Some row → row.exclusives ≡ 0
    → next s d (event.Begin (call.ExclusivePut h)) ≡ paid s (s, turn.Done reply.Warn)
unfolding begun
exclusive_put-warned s d h row quiet own none =
    begin_quiet s d (call.ExclusivePut h) quiet
    ∙ ap (paid s) (with-some s d h.number (exclusive_put s h.number) row own
    ∙ pick-true (nat_eq row.exclusives 0) _ _ (grind (arith, nat_tests)))

pub exclusive_put-fine : (s : State) (d : ℕ) (h : Handle) (row : HandleRow) → s.change ≡ None → own_handle s d h.number ≡ Some row → 0 < row.exclusives
    → next s d (event.Begin (call.ExclusivePut h)) ≡ paid s (put_handle s h.number (Some (record row { exclusives = row.exclusives - 1 })), turn.Done reply.Fine)
unfolding begun
exclusive_put-fine s d h row quiet own some =
    begin_quiet s d (call.ExclusivePut h) quiet
    ∙ ap (paid s) (with-some s d h.number (exclusive_put s h.number) row own
    ∙ pick-false (nat_eq row.exclusives 0) _ _ (grind (arith, nat_tests)))

-- ---- notifiers

pub notifier_add-unknown : (s : State) (d : ℕ) (h : Handle) (id : ℕ) (priority : ℤ) (policy : Policy) → s.change ≡ None → own_handle s d h.number ≡ None
    → next s d (event.Begin (call.NotifierAdd h id priority policy)) ≡ paid s (refused s errno.ENOENT)
unfolding begun
notifier_add-unknown s d h id priority policy quiet none =
    begin_quiet s d (call.NotifierAdd h id priority policy) quiet
    ∙ ap (paid s) (with-none s d h.number (λ row. notifier_added s row.clock.0 id priority policy) none)

pub notifier_add-known : (s : State) (d : ℕ) (h : Handle) (id : ℕ) (priority : ℤ) (policy : Policy) (row : HandleRow) → s.change ≡ None → own_handle s d h.number ≡ Some row
    → has_notifier s row.clock.0 id ≡ true
    → next s d (event.Begin (call.NotifierAdd h id priority policy)) ≡ paid s (refused s errno.EEXIST)
unfolding begun
notifier_add-known s d h id priority policy row quiet own known =
    begin_quiet s d (call.NotifierAdd h id priority policy) quiet
    ∙ ap (paid s) (with-some s d h.number (λ row. notifier_added s row.clock.0 id priority policy) row own
    ∙ pick-true (has_notifier s row.clock.0 id) _ _ known)

pub notifier_add-full : (s : State) (d : ℕ) (h : Handle) (id : ℕ) (priority : ℤ) (policy : Policy) (row : HandleRow) → s.change ≡ None → own_handle s d h.number ≡ Some row
    → has_notifier s row.clock.0 id ≡ false → most_notifiers ≤ length (notifiers_of s.notifiers row.clock.0)
    → next s d (event.Begin (call.NotifierAdd h id priority policy)) ≡ paid s (refused s errno.ENOSPC)
unfolding begun
notifier_add-full s d h id priority policy row quiet own new full =
    begin_quiet s d (call.NotifierAdd h id priority policy) quiet
    ∙ ap (paid s) (with-some s d h.number (λ row. notifier_added s row.clock.0 id priority policy) row own
    ∙ pick-false (has_notifier s row.clock.0 id) _ _ new
    ∙ pick-true (nat_le most_notifiers (length (notifiers_of s.notifiers row.clock.0))) _ _ (grind (arith, nat_tests)))

pub notifier_add-fine : (s : State) (d : ℕ) (h : Handle) (id : ℕ) (priority : ℤ) (policy : Policy) (row : HandleRow) → s.change ≡ None → own_handle s d h.number ≡ Some row
    → has_notifier s row.clock.0 id ≡ false → length (notifiers_of s.notifiers row.clock.0) < most_notifiers
    → next s d (event.Begin (call.NotifierAdd h id priority policy))
    ≡ paid s (record s { notifiers = s.notifiers ++ record { clock = row.clock.0; id = id; priority = priority; policy = policy } ∷ [] }, turn.Done reply.Fine)
unfolding begun
notifier_add-fine s d h id priority policy row quiet own new room =
    begin_quiet s d (call.NotifierAdd h id priority policy) quiet
    ∙ ap (paid s) (with-some s d h.number (λ row. notifier_added s row.clock.0 id priority policy) row own
    ∙ pick-false (has_notifier s row.clock.0 id) _ _ new
    ∙ pick-false (nat_le most_notifiers (length (notifiers_of s.notifiers row.clock.0))) _ _ (grind (arith, nat_tests)))

pub notifier_remove-unknown : (s : State) (d : ℕ) (h : Handle) (id : ℕ) → s.change ≡ None → own_handle s d h.number ≡ None
    → next s d (event.Begin (call.NotifierRemove h id)) ≡ paid s (refused s errno.ENOENT)
unfolding begun
notifier_remove-unknown s d h id quiet none =
    begin_quiet s d (call.NotifierRemove h id) quiet ∙ ap (paid s) (with-none s d h.number (λ row. notifier_removed s row.clock.0 id) none)

pub notifier_remove-lacking : (s : State) (d : ℕ) (h : Handle) (id : ℕ) (row : HandleRow) → s.change ≡ None → own_handle s d h.number ≡ Some row → has_notifier s row.clock.0 id ≡ false
    → next s d (event.Begin (call.NotifierRemove h id)) ≡ paid s (refused s errno.ENOENT)
unfolding begun
notifier_remove-lacking s d h id row quiet own lacks =
    begin_quiet s d (call.NotifierRemove h id) quiet
    ∙ ap (paid s) (with-some s d h.number (λ row. notifier_removed s row.clock.0 id) row own ∙ pick-false (has_notifier s row.clock.0 id) _ _ lacks)

pub notifier_remove-fine : (s : State) (d : ℕ) (h : Handle) (id : ℕ) (row : HandleRow) → s.change ≡ None → own_handle s d h.number ≡ Some row → has_notifier s row.clock.0 id ≡ true
    → next s d (event.Begin (call.NotifierRemove h id)) ≡ paid s (record s { notifiers = without_notifier row.clock.0 id s.notifiers }, turn.Done reply.Fine)
unfolding begun
notifier_remove-fine s d h id row quiet own has =
    begin_quiet s d (call.NotifierRemove h id) quiet
    ∙ ap (paid s) (with-some s d h.number (λ row. notifier_removed s row.clock.0 id) row own ∙ pick-true (has_notifier s row.clock.0 id) _ _ has)

-- ---- roundings

pub round-unknown : (s : State) (d : ℕ) (h : Handle) (x : ℕ) → s.change ≡ None → own_handle s d h.number ≡ None
    → next s d (event.Begin (call.RoundRate h x)) ≡ paid s (refused s errno.ENOENT)
unfolding begun
round-unknown s d h x quiet none =
    begin_quiet s d (call.RoundRate h x) quiet ∙ ap (paid s) (with-none s d h.number (λ row. rounded s h.number row x) none)

pub round-told : (s : State) (d : ℕ) (h : Handle) (x : ℕ) (row : HandleRow) (r : ℕ) → s.change ≡ None → own_handle s d h.number ≡ Some row
    → round_rate (wiring s) (view (lift s h.number)) row.clock.0 x ≡ Some r
    → next s d (event.Begin (call.RoundRate h x)) ≡ paid s (s, turn.Done (reply.Rate r))
unfolding begun
round-told s d h x row r quiet own gives =
    begin_quiet s d (call.RoundRate h x) quiet
    ∙ ap (paid s) (with-some s d h.number (λ row. rounded s h.number row x) row own
    ∙ ap (λ (o : Option ℕ). option_map_or (λ r. done s (reply.Rate r)) o (refused s errno.EINVAL)) gives)

pub round-none : (s : State) (d : ℕ) (h : Handle) (x : ℕ) (row : HandleRow) → s.change ≡ None → own_handle s d h.number ≡ Some row
    → round_rate (wiring s) (view (lift s h.number)) row.clock.0 x ≡ None
    → next s d (event.Begin (call.RoundRate h x)) ≡ paid s (refused s errno.EINVAL)
unfolding begun
round-none s d h x row quiet own gives =
    begin_quiet s d (call.RoundRate h x) quiet
    ∙ ap (paid s) (with-some s d h.number (λ row. rounded s h.number row x) row own
    ∙ ap (λ (o : Option ℕ). option_map_or (λ r. done s (reply.Rate r)) o (refused s errno.EINVAL)) gives)
