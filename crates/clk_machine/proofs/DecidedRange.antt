-- A call that sets a range begins as was decided, in each sound state that the parts of a core stand for.
use Rattle.std.proofs.Common.{◌≡◌, ℕ, true, false, List, Option, Some, None, refl, sym, ap, subst, ◌∙◌, set, min, max}
use Rattle.std.specs.Prelude.{slice_get, unwrap_or}
use Rattle.std.specs.Option.{option_map, option_map_or}
use Rattle.clk_base.specs.declared.call.Sleeping.TheVariants as call
use Rattle.clk_base.specs.declared.event.Errno.TheVariants as errno
use Rattle.clk_base.specs.declared.handle.Handle.{Handle}
use Rattle.clk_model.specs.declared.row.ClockRow.{ClockRow}
use Rattle.clk_model.specs.declared.row.HandleRow.{HandleRow}
use Rattle.clk_model.specs.Begin.{own_handle, misses, request_between, range_set, begun}
use Rattle.clk_model.specs.Laws.CallCauses.{with_limits}
use Rattle.clk_model.specs.Laws.Lifting.{LiftedSees}
use Rattle.clk_model.specs.State.{State, handle_at, row_of, unregistered_row}
use Rattle.clk_model.specs.Views.{lift}
use Rattle.clk_model.proofs.EventLaws.{pick-true, pick-false, with-some}
use Rattle.clk_model.proofs.StateLaws.{handle_at-set_same}
use Rattle.counts_core.specs.Standing.{StandsFor}
use Rattle.rate_requests.specs.Handles.{misses_in, with_range_at}
use Rattle.core_parts.specs.Decisions.{Decision}
use Rattle.core_parts.specs.Decisions as decided
use Rattle.core_parts.specs.Planned.{AreItsNotifiers, IsAnswer, IsGiven, answered}
use Rattle.clk_machine.specs.Deciding.{Decides}
use Rattle.clk_machine.specs.Holding.{ranged}
use Rattle.clk_machine.specs.Parts.{Parts, own_in, IsWhole}
use Rattle.clk_machine.specs.Sound.{IsSound}
use Rattle.clk_machine.specs.Stands.{Stands}
use Rattle.clk_machine.proofs.Decided.{decides_unknown, given_with, its_notifiers, lifts_with, with_handles}
use Rattle.clk_machine.proofs.Entered.{own_stands}
use Rattle.core_parts.proofs.Holdings.{moves_none, StandsFor-put}
use Rattle.clk_machine.proofs.Writing.{counts_stand, live_in}

-- ---- in states

pub range_unknown : (s : State) (d : ℕ) (h : Handle) (least most : ℕ) → own_handle s d h.number ≡ None
    → Decides s d h.number (call.SetRange h least most) (decided.Refused errno.ENOENT)
unfolding begun
range_unknown s d h least most none =
    decides_unknown s d h.number (call.SetRange h least most) (λ row. range_set s d (call.SetRange h least most) h.number row least most) none refl

range_begins : (s : State) (d : ℕ) (h : Handle) (least most : ℕ) (row : HandleRow) → own_handle s d h.number ≡ Some row
    → begun s d (call.SetRange h least most) ≡ range_set s d (call.SetRange h least most) h.number row least most
unfolding begun
range_begins s d h least most row own =
    with-some s d h.number (λ row. range_set s d (call.SetRange h least most) h.number row least most) row own

-- a range that is empty or misses another handle's is refused
pub range_missed : (s : State) (d : ℕ) (h : Handle) (least most : ℕ) (row : HandleRow) → own_handle s d h.number ≡ Some row → misses s h.number row least most ≡ true
    → Decides s d h.number (call.SetRange h least most) (decided.Refused errno.EINVAL)
range_missed s d h least most row own missed = ((λ e. absurd cc), range_begins s d h least most row own ∙ pick-true (misses s h.number row least most) _ _ missed)

range_comes : (s : State) (d : ℕ) (h : Handle) (least most : ℕ) (row : HandleRow) (decision : Decision) → own_handle s d h.number ≡ Some row
    → misses s h.number row least most ≡ false
    → IsAnswer (with_limits s h.number row least most) (lift (with_limits s h.number row least most) h.number) row.clock.0 (request_between s.clocks row.clock.0 least most) decision
    → begun s d (call.SetRange h least most) ≡ answered s (with_limits s h.number row least most) (with_limits s h.number row least most) d (call.SetRange h least most) (Some (row.min, row.max)) decision
range_comes s d h least most row decision own fits answer =
    range_begins s d h least most row own
    ∙ pick-false (misses s h.number row least most) _ _ fits
    ∙ answer.begins s (with_limits s h.number row least most) d (call.SetRange h least most) (Some (row.min, row.max))

-- another range begins as the last request that is made anew within it
range_known : (s : State) (d : ℕ) (h : Handle) (least most : ℕ) (row : HandleRow) (decision : Decision) → own_handle s d h.number ≡ Some row
    → misses s h.number row least most ≡ false
    → IsAnswer (with_limits s h.number row least most) (lift (with_limits s h.number row least most) h.number) row.clock.0 (request_between s.clocks row.clock.0 least most) decision
    → Decides s d h.number (call.SetRange h least most) decision
range_known s d h least most row (decided.Refused e) own fits answer = (answer.room, range_comes s d h least most row (decided.Refused e) own fits answer)
range_known s d h least most row decided.AtOnce own fits answer = record { row = row; own = own; begins = range_comes s d h least most row decided.AtOnce own fits answer }
range_known s d h least most row (decided.Change plan script) own fits answer = record {
  row = row;
  own = own;
  begins = range_comes s d h least most row (decided.Change plan script) own fits answer;
  along = answer.along;
  planned = (answer.planned d (call.SetRange h least most) (Some (row.min, row.max))).0;
  set_parent = (answer.planned d (call.SetRange h least most) (Some (row.min, row.max))).1;
}

-- ---- in the parts

-- a table with another range of a live handle
pub range_written : (handles : List (Option HandleRow)) (n least most : ℕ) (row : HandleRow) → handle_at handles n ≡ Some row → with_range_at handles n least most ≡ set handles n (Some (ranged row least most))
range_written handles n least most row live =
    ap (λ (o : Option HandleRow). set handles n (option_map (λ (h : HandleRow). let r : HandleRow = record h { min = least; max = most } in r) o)) live

-- the last request of a clock
last_of : (o : Option ClockRow) → option_map_or (λ row. row.last_request) o 0 ≡ (unwrap_or o unregistered_row).last_request
last_of None = refl
last_of (Some row) = refl

pub wanted_between : (m : Parts) (s : State) (c least most wanted last : ℕ) → Stands m s → last ≡ (row_of m.tree.clocks c).last_request → wanted ≡ min most (max least last)
    → wanted ≡ request_between s.clocks c least most
wanted_between m s c least most wanted last stands is between =
    between
    ∙ ap (λ (x : ℕ). min most (max least x)) (is ∙ ap (λ (rows : List ClockRow). (row_of rows c).last_request) (sym stands.clocks) ∙ sym (last_of (slice_get s.clocks c)))

-- so it is where it was decided over the parts of a core with this range
pub decides_range : (m : Parts) (s : State) (d : ℕ) (h : Handle) (least most wanted : ℕ) (row : HandleRow) (decision : Decision)
    → IsWhole m → own_in m.table.handles d h.number ≡ Some row → handle_at m.table.handles h.number ≡ Some row
    → misses_in m.table.handles h.number row.clock.0 least most ≡ false → wanted ≡ request_between s.clocks row.clock.0 least most
    → ((t : State) (number : ℕ) → IsGiven m.desc m.window m.tree (with_range_at m.table.handles h.number least most) m.counts t → AreItsNotifiers m.chains t → LiftedSees t number row
    → IsAnswer t (lift t number) row.clock.0 wanted decision)
    → Stands m s → IsSound m.window.size s → Decides s d h.number (call.SetRange h least most) decision
decides_range m s d h least most wanted row decision whole own live fits between answers stands sound =
    range_known s d h least most row decision (own_stands m s d h.number (Some row) stands own)
    (ap (λ (hs : List (Option HandleRow)). misses_in hs h.number row.clock.0 least most) stands.handles ∙ fits)
    (subst (λ (x : ℕ). IsAnswer (with_limits s h.number row least most) (lift (with_limits s h.number row least most) h.number) row.clock.0 x decision) between
    (answers (with_limits s h.number row least most) h.number
    (subst (λ (hs : List (Option HandleRow)). IsGiven m.desc m.window m.tree hs m.counts (with_limits s h.number row least most)) (sym same) (given_with m s hs' whole stands counted))
    (its_notifiers m s hs' stands)
    (record { frees = lifts.frees; keeps = lifts.keeps; free = lifts.free }))) where
      hs' : List (Option HandleRow)
      hs' = set s.handles h.number (Some (ranged row least most))

      at : handle_at s.handles h.number ≡ Some row
      at = live_in m s h.number row stands live

      same : with_range_at m.table.handles h.number least most ≡ set s.handles h.number (Some (ranged row least most))
      same = range_written m.table.handles h.number least most row live ∙ sym (ap (λ (hs : List (Option HandleRow)). set hs h.number (Some (ranged row least most))) stands.handles)

      lifts : LiftedSees (with_handles s (set s.handles h.number (Some (ranged row least most)))) h.number (ranged row least most)
      lifts = lifts_with m s hs' h.number (ranged row least most) whole stands sound (handle_at-set_same s.handles h.number row (ranged row least most) at)

      counted : StandsFor m.counts (with_handles s (set s.handles h.number (Some (ranged row least most))))
      counted =
          StandsFor-put m.counts m.counts s h.number row (ranged row least most) (counts_stand m s whole stands) at refl refl
          (moves_none (λ a. a.enables) m.counts.enables row (ranged row least most) refl refl)
          (moves_none (λ a. a.prepares) m.counts.prepares row (ranged row least most) refl refl)
          (moves_none (λ a. a.exclusives) m.counts.exclusives row (ranged row least most) refl refl)
