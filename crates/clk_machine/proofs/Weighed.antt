-- The steps to come of a core are the weight that is left of the change in flight.
use Rattle.std.proofs.Common.{◌≡◌, ℕ, ◌+◌, true, false, Bool, List, ◌++◌, Option, Some, None, refl, sym, ap, ◌∙◌, length}
use Rattle.std.specs.Prelude.{if◌then◌else◌, sum_by}
use Rattle.std.specs.Option.{option_map_or}
use Rattle.clk_base.specs.declared.call.Micro.{Micro}
use Rattle.clk_base.specs.declared.call.Micro.TheVariants as micro
use Rattle.clk_base.specs.declared.call.Sleeping.{Sleeping}
use Rattle.clk_base.specs.declared.event.Event.TheVariants as event
use Rattle.clk_base.specs.declared.event.Turn.{Turn}
use Rattle.clk_base.specs.declared.event.Turn.TheVariants as turn
use Rattle.clk_model.specs.State.{State, Change, NotifierRow}
use Rattle.clk_model.specs.Journal.{slotless}
use Rattle.clk_model.specs.Laws.Paced.{left_of}
use Rattle.clk_model.specs.Laws.Weight.{weight_left}
use Rattle.clk_model.specs.Machine.{next}
use Rattle.clk_model.specs.Notices.{notifiers_of}
use Rattle.clk_model.specs.Script.{plls, weight}
use Rattle.clk_model.proofs.CallBeginLaws.{calls_begin_paced}
use Rattle.clk_model.proofs.EndCauseLaws.{begun_fresh}
use Rattle.clk_flight.specs.Flights.{FlightState, Flies}
use Rattle.clk_flight.specs.LeftOver.{front_weight, left_over, step_weight}
use Rattle.clk_flight.proofs.WeighLaws.{left_is_weight, same_sum}
use Rattle.core_parts.specs.Listed.{rows_from}
use Rattle.core_parts.proofs.NotifierRows.{count_told, rows_count}
use Rattle.clk_machine.specs.Parts.{Parts, IsWhole, steps_left}
use Rattle.clk_machine.specs.Run.{Run, now_of, Appends}
use Rattle.clk_machine.specs.Stands.{Stands}
use Rattle.clk_machine.specs.Weighed.{GoesOnWithin}
use Rattle.clk_machine.proofs.Flying.{none_left}

-- ---- the weight that is left

-- a step weighs the same over notifiers of which each clock has as many
same_step : (xs ys : List NotifierRow) (p : ℕ) → ((c : ℕ) → length (notifiers_of xs c) ≡ length (notifiers_of ys c)) → (m : Micro) → step_weight xs p m ≡ step_weight ys p m
same_step xs ys p same (micro.Visit c) = ap (λ (n : ℕ). 1 + n) (same c.0)
same_step xs ys p same (micro.Raise x) = refl
same_step xs ys p same (micro.Lower x) = refl
same_step xs ys p same _ = refl

-- so does what is left over of a flight
same_left : (xs ys : List NotifierRow) (f : FlightState) → ((c : ℕ) → length (notifiers_of xs c) ≡ length (notifiers_of ys c)) → left_over xs f ≡ left_over ys f
same_left xs ys f same =
    ap (λ (n : ℕ). if f.going then front_weight f.plls f.again f.front + n + f.extra + length f.raised else 0)
    (same_sum (step_weight xs f.plls) (step_weight ys f.plls) f.left (same_step xs ys f.plls same))

-- the steps that parts may still come to are the weight that is left in the state that they stand for
pub steps_weigh : (m : Parts) (s : State) → IsWhole m → Stands m s → steps_left m ≡ left_of s
steps_weigh m s whole stands = by_change s.change stands.change refl where
  as_many : (c : ℕ) → length (notifiers_of (rows_from 0 m.chains) c) ≡ length (notifiers_of s.notifiers c)
  as_many c = rows_count m.chains c ∙ sym (count_told m.chains s.notifiers c stands.notifiers)

  by_change : (o : Option Change) → Flies s.notifiers m.flight o → s.change ≡ o → steps_left m ≡ left_of s
  by_change None quiet at = none_left (rows_from 0 m.chains) m.flight quiet ∙ sym (ap (λ (o : Option Change). option_map_or (weight_left s) o 0) at)
  by_change (Some k) flies at =
      same_left (rows_from 0 m.chains) s.notifiers m.flight as_many
      ∙ left_is_weight s m.flight k flies ((whole.flown flies.going).plls_ ∙ sym (ap plls stands.defs))
      ∙ sym (ap (λ (o : Option Change). option_map_or (weight_left s) o 0) at)

-- ---- a call that begins

-- a call that goes on may come to as many steps as its script weighs
pub goes_within : (old new : Run) (d : ℕ) (what : Sleeping) (t : Turn) → Appends old d (event.Begin what) t new → (new.told ≡ true → new.left ≡ left_of (now_of new)) → old.told ≡ true
    → GoesOnWithin t new
goes_within old new d what t appends left told going =
    let step : next (now_of old) d (event.Begin what) ≡ Some (now_of new, turn.Going) =
    appends.step told ∙ ap (λ (x : Turn). let y : State × Turn = (now_of new, slotless x) in Some y) going in
    let begins = calls_begin_paced (now_of old) (now_of new) d what step in
    let k : Change = begins.0 in
    let fresh = begun_fresh (now_of old) (now_of new) d what step k begins.1.change in
    record {
      change = k;
      flies = begins.1.change;
      weighs = left (appends.told ∙ told) ∙ begins.1.whole ∙ ap (λ (ms : List Micro). sum_by (weight (now_of new)) (ms ++ k.left) + k.extra) fresh.1;
    }
