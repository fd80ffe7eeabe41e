-- A call that is vetoed, or that has timed out and is dropped whole, leaves the enables and the gates to the enables and disables beside it.
use Rattle.std.proofs.Common.{◌≡◌, ℕ, ◌||◌, Bool, true, false, not, List, [], ◌∷◌, Option, Some, refl, sym, ap, ◌∙◌}
use Rattle.std.specs.List.{list_any}
use Rattle.clk_base.specs.declared.call.Micro.{Micro}
use Rattle.clk_base.specs.declared.call.Micro.TheVariants as micro
use Rattle.clk_base.specs.declared.call.Sleeping.{Sleeping}
use Rattle.clk_base.specs.declared.call.Sleeping.TheVariants as call
use Rattle.clk_base.specs.declared.event.Errno.TheVariants as errno
use Rattle.clk_base.specs.declared.event.Event.TheVariants as event
use Rattle.clk_base.specs.declared.event.Reply.{Reply}
use Rattle.clk_base.specs.declared.event.Reply.TheVariants as reply
use Rattle.clk_base.specs.declared.event.Turn.TheVariants as turn
use Rattle.clk_model.specs.Laws.Flight.{Flight, IsCalledOff, abort_notices, plan, pre_notices}
use Rattle.clk_model.specs.Machine.{next}
use Rattle.clk_model.specs.Notices.{is_veto}
use Rattle.clk_model.specs.State.{State}
use Rattle.clk_model.specs.Step.{is_register}
use Rattle.clk_model.proofs.NoneLaws.{none_append, none_front, none_rest}
use Rattle.clk_model.proofs.SafeRunLaws.{IsRun}
use Rattle.clk_model.proofs.VetoLaws.{is_other, pre_are_notices, abort_are_notices}
use Rattle.clk_machine.specs.Besides.{is_dropped_by}
use Rattle.clk_machine.proofs.BesideBegins.{is_unprepare}
use Rattle.clk_machine.proofs.BesideSteps.{touches}
use Rattle.clk_machine.proofs.Dropped.{made_no_end, prepare_mild, unprepare_unvetoed}
use Rattle.clk_machine.proofs.DroppedParents.{parent_mild}
use Rattle.clk_machine.proofs.DroppedProbes.{probe_mild}

-- notices touch nothing
notices_touch : (ms : List Micro) → list_any is_other ms ≡ false → list_any touches ms ≡ false
notices_touch [] none = refl
notices_touch (m ∷ ms) none = ap (λ (b : Bool). b || list_any touches ms) (one m (none_front is_other m ms none)) ∙ notices_touch ms (none_rest is_other m ms none) where
  one : (m : Micro) → is_other m ≡ false → touches m ≡ false
  one (micro.Notify kind c id old new) e = refl
  one _ e = absurd cc

-- the steps of a call that was called off touch nothing
pub off_mild : (q t : State) (d : ℕ) (what : Sleeping) (made : List Micro) (r : Reply) → IsCalledOff q d what made t r → list_any touches made ≡ false
off_mild q t d what made r off =
    notices_touch made
    (ap (list_any is_other) off.notices
    ∙ none_append is_other (pre_notices q (plan q d what)) (abort_notices q (plan q d what)) (pre_are_notices q (plan q d what)) (abort_are_notices q (plan q d what)))

-- and it is no unprepare
pub off_other : (q s : State) (d : ℕ) (what : Sleeping) (made : List Micro) → Flight q d what s made → list_any is_veto made ≡ true → is_unprepare what ≡ false
off_other q s d (call.Unprepare h) made flight veto = let no : true ≡ false = sym veto ∙ unprepare_unvetoed q s d h made flight in absurd cc
off_other q s d _ made flight veto = refl

-- a call that has timed out and is dropped whole has touched nothing, and is no unprepare
pub late_mild : (q s t : State) (d : ℕ) (what : Sleeping) (made : List Micro) (m : Micro) (answer : Option Bool) → IsRun q → Flight q d what s made
    → next s d (event.Step m answer) ≡ Some (t, turn.Done (reply.Refused errno.ETIMEDOUT)) → is_dropped_by made what ≡ true → (list_any touches made ≡ false) × (is_unprepare what ≡ false)
late_mild q s t d (call.Prepare h) made m answer run flight step dropped = (prepare_mild q s d h made flight, refl)
late_mild q s t d (call.SetParent h c) made m answer run flight step dropped = (parent_mild q s t d h c made m answer run flight step, refl)
late_mild q s t d (call.Probe c) made m answer run flight step dropped =
    (probe_mild q s d c made flight (off (list_any is_register made) dropped) (made_no_end q d (call.Probe c) flight), refl) where
      off : (b : Bool) → not b ≡ true → b ≡ false
      off false e = refl
      off true e = absurd cc
late_mild q s t d _ made m answer run flight step dropped = absurd cc
