-- Laws on holds: what a script puts it takes away again, also where a timeout shortens it.
use Rattle.std.proofs.Common.{ℕ, Bool, true, false, cond, List, [], Option, Some, None, refl, ◌≡◌, ◌||◌, ◌∷◌, ◌++◌}
use Rattle.std.specs.List.{list_any}
use Rattle.std.specs.Option.{option_map_or}
use Rattle.clk_base.specs.declared.call.Sleeping.{Sleeping}
use Rattle.clk_base.specs.declared.call.Sleeping.TheVariants as call
use Rattle.clk_base.specs.declared.call.Micro.{Micro}
use Rattle.clk_base.specs.declared.call.Micro.TheVariants as micro
use Rattle.clk_model.specs.declared.row.HandleRow.{HandleRow}
use Rattle.clk_model.specs.State.{State, Change, handle_at, requested}
use Rattle.clk_model.specs.Step.{ended_well, unranged, end_of}
use Rattle.clk_model.specs.Begin.{prepared_once_more, held_once_more, request_between}
use Rattle.clk_model.specs.Laws.Flight.{may_be_put}
use Rattle.clk_model.proofs.Members.{or_right}
use Rattle.clk_model.proofs.HoldSteps.{holds_of, relinks}

-- ---- a flight

pub some_behind : (p : Micro → Bool) (front left : List Micro) → list_any p left ≡ true → list_any p (front ++ left) ≡ true
some_behind p [] left e = e
some_behind p (m ∷ front) left e = or_right (p m) (list_any p (front ++ left)) (some_behind p front left e)

pub put_relinks_none : (m : Micro) (c : ℕ) → may_be_put m ≡ true → relinks c m ≡ false
put_relinks_none (micro.Relink d p) c e = absurd cc
put_relinks_none (micro.Register d) c e = absurd cc
put_relinks_none m c e = refl

-- ---- each step

by_row : (s : State) (o : Option HandleRow) (f : HandleRow → State) → ((row : HandleRow) → holds_of (f row) ≡ holds_of s) → holds_of (option_map_or f o s) ≡ holds_of s
by_row s None f same = refl
by_row s (Some row) f same = same row

-- the end changes no hold
pub end_holds : (s : State) (k : Change) → holds_of (end_of s k).0 ≡ holds_of s
end_holds s k = either (k.vetoed || k.timed_out) where
  well : (what : Sleeping) → holds_of (ended_well s k.driver what) ≡ holds_of s
  well (call.Prepare h) = by_row s (handle_at s.handles h.number) (prepared_once_more s h.number) (λ row. refl)
  well (call.SetRate h x) = by_row s (handle_at s.handles h.number) (λ row. record s { clocks = requested s.clocks row.clock.0 x }) (λ row. refl)
  well (call.SetRateExclusive h x) = by_row s (handle_at s.handles h.number) (λ row. record (held_once_more s h.number row) { clocks = requested s.clocks row.clock.0 x }) (λ row. refl)
  well (call.SetRange h least most) =
      by_row s (handle_at s.handles h.number) (λ row. record s { clocks = requested s.clocks row.clock.0 (request_between s.clocks row.clock.0 least most) }) (λ row. refl)
  well _ = refl

  either : (b : Bool) → holds_of (record (cond b (unranged s k) (ended_well s k.driver k.call)) { change = None }) ≡ holds_of s
  either true = refl
  either false = well k.call
