-- The moves of a call that begins can be made.
use Rattle.std.proofs.Common.{◌≡◌, ℕ, ◌&&◌, ◌||◌, true, false, Option, Some, None, sym, ap, ◌∙◌, nat_eq}
use Rattle.std.specs.Prelude.{is_some}
use Rattle.std.specs.Option.{option_map_or}
use Rattle.clk_base.specs.declared.call.Sleeping.TheVariants as call
use Rattle.clk_base.specs.declared.clock.ClockId.{ClockId}
use Rattle.clk_base.specs.declared.event.Event.TheVariants as event
use Rattle.clk_base.specs.declared.event.Turn.{Turn}
use Rattle.clk_base.specs.declared.event.Turn.TheVariants as turn
use Rattle.clk_base.specs.declared.handle.Handle.{Handle}
use Rattle.clk_base.specs.Description.{kind_of, parents_of}
use Rattle.clk_model.specs.declared.row.HandleRow.{HandleRow}
use Rattle.clk_model.specs.Begin.{own_handle, begun, parent_set}
use Rattle.clk_model.specs.Kinds.{mux_field}
use Rattle.clk_model.specs.Lists.{is_in}
use Rattle.clk_model.specs.Machine.{next}
use Rattle.clk_model.specs.State.{State, ChainStep, handle_at, link_in}
use Rattle.clk_model.specs.Tree.{rooted}
use Rattle.clk_model.specs.Views.{lift}
use Rattle.clk_model.proofs.BeginSafeLaws.{handle_rooted}
use Rattle.clk_model.proofs.FlightLaws.{begin_is}
use Rattle.clk_model.proofs.Members.{both_left, both_right, or_right}
use Rattle.clk_model.proofs.PlanRootLaws.{IsRooted, rooted_linked}
use Rattle.clk_model.proofs.EventLaws.{own_is_live, with-some}
use Rattle.clk_model.proofs.TierLaws.{pick_either}
use Rattle.core_parts.specs.Movable.{can_go}
use Rattle.core_parts.specs.Reparenting.{is_candidate}
use Rattle.clk_machine.specs.Sound.{IsLike, IsSound}
use Rattle.clk_machine.proofs.Unmoved.{resting_like}

-- ---- the clock of a handle

-- it is rooted while no change is in flight
pub handle_has_root : (words : ℕ) (s : State) (number : ℕ) (row : HandleRow) → IsLike words s → s.change ≡ None → handle_at s.handles number ≡ Some row → IsRooted s.defs s.clocks row.clock.0
handle_has_root words s number row like quiet at = handle_rooted s number row (resting_like words s like quiet).fit at

-- ---- a change of parent

-- where it goes on, the parent is a candidate
parent_goes : (s t : State) (d : ℕ) (h : Handle) (p : ClockId) (row : HandleRow) → own_handle s d h.number ≡ Some row → next s d (event.Begin (call.SetParent h p)) ≡ Some (t, turn.Going)
    → is_candidate s.defs s.clocks row.clock.0 p.0 ≡ true
unfolding begun
parent_goes s t d h p row own comes =
    pick_either P _ _ _ (λ e going. absurd cc)
    (λ other. pick_either P _ _ _ (λ e going. absurd cc)
    (λ e. pick_either P _ _ _ (λ busy going. absurd cc)
    (λ calm. pick_either P _ _ _ (λ candidate going. candidate) (λ e going. absurd cc)))) goes where
      P : State × Turn → Type 0
      P y = y.1 ≡ turn.Going → is_candidate s.defs s.clocks row.clock.0 p.0 ≡ true

      goes : (parent_set s (lift s h.number) d (call.SetParent h p) row.clock.0 p.0).1 ≡ turn.Going
      goes =
          sym (ap (λ (y : State × Turn). y.1) (with-some s d h.number (λ r. parent_set s (lift s h.number) d (call.SetParent h p) r.clock.0 p.0) row own))
          ∙ (begin_is s t d (call.SetParent h p) turn.Going comes).2

-- its step can be made
pub parent_can : (words : ℕ) (s t : State) (d : ℕ) (h : Handle) (p : ClockId) (row : HandleRow) (k : ChainStep) → IsSound words s → own_handle s d h.number ≡ Some row
    → next s d (event.Begin (call.SetParent h p)) ≡ Some (t, turn.Going) → k.clock ≡ row.clock.0 → k.parent ≡ Some p.0 → can_go true s.defs s.clocks k ≡ true
parent_can words s t d h p row k sound own comes clock parent =
    ap (λ (o : Option ℕ). option_map_or (λ x. option_map_or (λ y. nat_eq y x || is_candidate s.defs s.clocks k.clock x) (link_in s.clocks k.clock) false) o false) parent
    ∙ ap (λ (x : ℕ). option_map_or (λ y. nat_eq y p.0 || is_candidate s.defs s.clocks x p.0) (link_in s.clocks x) false) clock
    ∙ ap (λ (o : Option ℕ). option_map_or (λ y. nat_eq y p.0 || is_candidate s.defs s.clocks c p.0) o false) link.1
    ∙ or_right (nat_eq link.0 p.0) (is_candidate s.defs s.clocks c p.0) candidate where
      c : ℕ
      c = row.clock.0

      candidate : is_candidate s.defs s.clocks c p.0 ≡ true
      candidate = parent_goes s t d h p row own comes

      first : (is_some (mux_field (kind_of s.defs c)) && is_in p.0 (parents_of s.defs c)) ≡ true
      first = both_left (is_some (mux_field (kind_of s.defs c)) && is_in p.0 (parents_of s.defs c)) (rooted s.defs s.clocks p.0) candidate

      root : IsRooted s.defs s.clocks c
      root = handle_has_root words s h.number row sound.like (begin_is s t d (call.SetParent h p) turn.Going comes).0 (own_is_live s d h.number row own)

      link : (o : ℕ) × (link_in s.clocks c ≡ Some o)
      link = rooted_linked words s.defs s.clocks c p.0 sound.narrow.valid root.root (both_right (is_some (mux_field (kind_of s.defs c))) (is_in p.0 (parents_of s.defs c)) first)
