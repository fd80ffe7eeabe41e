-- What calls that ask are answered, and that they leave the state.
use Rattle.std.proofs.Common.{◌≡◌, ℕ, true, false, Option, Some, None, refl, ap, ◌∙◌}
use Rattle.std.specs.Option.{option_map_or, option_map}
use Rattle.clk_base.specs.declared.call.Sleeping.{Sleeping}
use Rattle.clk_base.specs.declared.call.Sleeping.TheVariants as call
use Rattle.clk_base.specs.declared.clock.ClockId.{ClockId}
use Rattle.clk_base.specs.declared.event.Errno.TheVariants as errno
use Rattle.clk_base.specs.declared.event.Event.TheVariants as event
use Rattle.clk_base.specs.declared.event.Reply.{Reply}
use Rattle.clk_base.specs.declared.event.Reply.TheVariants as reply
use Rattle.clk_base.specs.declared.event.Turn.{Turn}
use Rattle.clk_base.specs.declared.event.Turn.TheVariants as turn
use Rattle.clk_base.specs.declared.handle.Handle.{Handle}
use Rattle.clk_model.specs.declared.row.HandleRow.{HandleRow}
use Rattle.clk_model.specs.State.{State, link_in}
use Rattle.clk_model.specs.Rate.{rate}
use Rattle.clk_model.specs.Chain.{clock_id}
use Rattle.clk_model.specs.Round.{wiring, round_rate}
use Rattle.clk_model.specs.Views.{view, lift}
use Rattle.clk_model.specs.Begin.{done, refused, own_handle, rounded, begun}
use Rattle.clk_model.specs.Laws.PlansRead.{asks}
use Rattle.clk_model.proofs.EventLaws.{with-none, with-some}
use Rattle.clk_machine.specs.Stands.{joins}

-- ---- answers

pub rate_unknown : (s : State) (d : ℕ) (h : Handle) → own_handle s d h.number ≡ None → (begun s d (call.GetRate h)).1 ≡ turn.Done (reply.Refused errno.ENOENT)
unfolding begun
rate_unknown s d h none = ap (λ (y : State × Turn). y.1) (with-none s d h.number (λ row. done s (reply.Rate (rate s.defs s.regs s.clocks row.clock.0))) none)

pub rate_known : (s : State) (d : ℕ) (h : Handle) (row : HandleRow) (found : ℕ) → own_handle s d h.number ≡ Some row → rate s.defs s.regs s.clocks row.clock.0 ≡ found
    → (begun s d (call.GetRate h)).1 ≡ turn.Done (reply.Rate found)
unfolding begun
rate_known s d h row found own is =
    ap (λ (y : State × Turn). y.1) (with-some s d h.number (λ row. done s (reply.Rate (rate s.defs s.regs s.clocks row.clock.0))) row own) ∙ ap (λ (x : ℕ). turn.Done (reply.Rate x)) is

pub parent_unknown : (s : State) (d : ℕ) (h : Handle) → own_handle s d h.number ≡ None → (begun s d (call.GetParent h)).1 ≡ turn.Done (reply.Refused errno.ENOENT)
unfolding begun
parent_unknown s d h none = ap (λ (y : State × Turn). y.1) (with-none s d h.number (λ row. done s (reply.Clock (option_map clock_id (link_in s.clocks row.clock.0)))) none)

pub parent_known : (s : State) (d : ℕ) (h : Handle) (row : HandleRow) (found : Option ClockId) → own_handle s d h.number ≡ Some row → option_map clock_id (link_in s.clocks row.clock.0) ≡ found
    → (begun s d (call.GetParent h)).1 ≡ turn.Done (reply.Clock found)
unfolding begun
parent_known s d h row found own is =
    ap (λ (y : State × Turn). y.1) (with-some s d h.number (λ row. done s (reply.Clock (option_map clock_id (link_in s.clocks row.clock.0)))) row own) ∙ ap (λ (x : Option ClockId). turn.Done (reply.Clock x)) is

pub round_unknown : (s : State) (d : ℕ) (h : Handle) (x : ℕ) → own_handle s d h.number ≡ None → (begun s d (call.RoundRate h x)).1 ≡ turn.Done (reply.Refused errno.ENOENT)
unfolding begun
round_unknown s d h x none = ap (λ (y : State × Turn). y.1) (with-none s d h.number (λ row. rounded s h.number row x) none)

-- the turn of a rounding that found this
abbrev pub round_turn : Option ℕ → Turn
round_turn o = option_map_or (λ r. turn.Done (reply.Rate r)) o (turn.Done (reply.Refused errno.EINVAL))

rounded_turn : (s : State) (o : Option ℕ) → (option_map_or (λ k. done s (reply.Rate k)) o (refused s errno.EINVAL)).1 ≡ round_turn o
rounded_turn s None = refl
rounded_turn s (Some k) = refl

pub round_known : (s : State) (d : ℕ) (h : Handle) (x : ℕ) (row : HandleRow) (o : Option ℕ) → own_handle s d h.number ≡ Some row → round_rate (wiring s) (view (lift s h.number)) row.clock.0 x ≡ o
    → (begun s d (call.RoundRate h x)).1 ≡ round_turn o
unfolding begun
round_known s d h x row o own found =
    ap (λ (y : State × Turn). y.1) (with-some s d h.number (λ row. rounded s h.number row x) row own)
    ∙ rounded_turn s (round_rate (wiring s) (view (lift s h.number)) row.clock.0 x) ∙ ap round_turn found

-- ---- what is left

-- a call that asks leaves the state
pub asked_leaves : (s : State) (d : ℕ) (what : Sleeping) → asks what ≡ true → (begun s d what).0 ≡ s
unfolding begun
asked_leaves s d (call.GetRate h) is = by (own_handle s d h.number) where
  by : (o : Option HandleRow) → (option_map_or (λ row. done s (reply.Rate (rate s.defs s.regs s.clocks row.clock.0))) o (refused s errno.ENOENT)).0 ≡ s
  by None = refl
  by (Some row) = refl
asked_leaves s d (call.GetParent h) is = by (own_handle s d h.number) where
  by : (o : Option HandleRow) → (option_map_or (λ row. done s (reply.Clock (option_map clock_id (link_in s.clocks row.clock.0)))) o (refused s errno.ENOENT)).0 ≡ s
  by None = refl
  by (Some row) = refl
asked_leaves s d (call.RoundRate h r) is = by (own_handle s d h.number) where
  answer : (o : Option ℕ) → (option_map_or (λ k. done s (reply.Rate k)) o (refused s errno.EINVAL)).0 ≡ s
  answer None = refl
  answer (Some k) = refl

  by : (o : Option HandleRow) → (option_map_or (λ row. rounded s h.number row r) o (refused s errno.ENOENT)).0 ≡ s
  by None = refl
  by (Some row) = answer (round_rate (wiring s) (view (lift s h.number)) row.clock.0 r)
asked_leaves s d _ is = absurd cc

-- and registers no clock
pub asked_joins : (what : Sleeping) (r : Reply) (c : ℕ) → asks what ≡ true → joins (event.Begin what) (turn.Done r) c ≡ false
asked_joins (call.Probe k) r c is = absurd cc
asked_joins _ r c is = refl

pub pair_is : (y : State × Turn) (s : State) (t : Turn) → y.0 ≡ s → y.1 ≡ t → y ≡ (s, t)
pair_is y s t one two = ap (λ (u : State). let z : State × Turn = (u, y.1) in z) one ∙ ap (λ (u : Turn). let z : State × Turn = (s, u) in z) two

-- so it begins with its answer, and leaves the state
pub asked_begins : (s : State) (d : ℕ) (what : Sleeping) (t : Turn) → asks what ≡ true → (begun s d what).1 ≡ t → begun s d what ≡ (s, t)
asked_begins s d what t is told = pair_is (begun s d what) s t (asked_leaves s d what is) told
