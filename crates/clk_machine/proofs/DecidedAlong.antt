-- What a call that plans was decided to do, and what it goes on with.
use Rattle.std.proofs.Common.{◌≡◌, ℕ, true, false, List, Option, sym, subst, ◌∙◌}
use Rattle.std.specs.Prelude.{Result, Ok, Err, OnOk}
use Rattle.clk_base.specs.declared.call.Sleeping.{Sleeping}
use Rattle.clk_base.specs.declared.call.Sleeping.TheVariants as call
use Rattle.clk_base.specs.declared.event.Reply.{Reply}
use Rattle.clk_base.specs.declared.event.Turn.TheVariants as turn
use Rattle.clk_flight.specs.Flights.{FlightState}
use Rattle.clk_model.specs.Laws.PlansRead.{plans}
use Rattle.clk_model.proofs.FlightLaws.{begin_is}
use Rattle.clk_tree.specs.declared.plan.Plan.{Plan}
use Rattle.notifiers.specs.declared.notifier.Notifier.{Notifier}
use Rattle.core_parts.specs.Course.{CourseState}
use Rattle.clk_machine.specs.declared.decision.Decision.TheVariants as decision
use Rattle.clk_machine.specs.Beginning.{AllGoOn, BeginsAsPlanned}
use Rattle.clk_machine.specs.ChangingAlong.{Changes}
use Rattle.clk_machine.specs.Copied.{AreDecided}
use Rattle.clk_machine.specs.Parts.{Parts}
use Rattle.clk_machine.specs.Readied.{Readied}
use Rattle.clk_machine.specs.Readying.{IsReady}
use Rattle.clk_machine.specs.Ready.{IsReadyFor}
use Rattle.clk_machine.specs.SettingOut.{NeverGoes}
use Rattle.clk_machine.proofs.Carrying.{no_answer}
use Rattle.clk_machine.proofs.Copied.{planned_decided}

-- it begins as it was made ready with the plan that it goes on with
pub ready_by : (m : Parts) (d : ℕ) (what : Sleeping) (plan : Plan) (made : Readied) → AllGoOn m d what plan → BeginsAsPlanned m d what plan made → IsReady m d what made
ready_by m d what plan made all begins s stands sound = let goes = all s stands sound in begins s goes.0 stands sound goes.1

-- one that was decided to be answered doesn't go on
pub never_answered : (m : Parts) (d : ℕ) (what : Sleeping) (r : Reply) → AreDecided m d what (decision.Reply r) → NeverGoes m d what
never_answered m d what r each s t stands sound step = no_answer r (sym (begin_is s t d what turn.Going step).2 ∙ (each s stands sound).2)

-- none that plans is decided inside its own turn
pub never_inside : (m : Parts) (d : ℕ) (what : Sleeping) → plans what ≡ true → AreDecided m d what decision.Inside → NeverGoes m d what
never_inside m d what is each s t stands sound step =
    let so : true ≡ false = sym (planned_decided what is) ∙ each s stands sound in
    absurd cc

-- what a call that plans goes on with is all that it needs
pub ready_for : (m : Parts) (d : ℕ) (what : Sleeping) (f : FlightState) (course : CourseState) (chain : Option (List Notifier)) → plans what ≡ true
    → (f.going ≡ true → Changes m d what f course) → (f.going ≡ false → NeverGoes m d what) → IsReadyFor m d what f course chain
ready_for m d (call.SetRate h x) f course chain is ready never = record { ready = ready; never = never; has = tt }
ready_for m d (call.SetRateExclusive h x) f course chain is ready never = record { ready = ready; never = never; has = tt }
ready_for m d (call.SetRange h least most) f course chain is ready never = record { ready = ready; never = never; has = tt }
ready_for m d (call.SetParent h p) f course chain is ready never = record { ready = ready; never = never; has = tt }
ready_for m d _ f course chain is ready never = absurd cc

-- the same if it was made for an equal call
pub ready_call : {T E : Type 0} (r : Result T E) (m : Parts) (d : ℕ) (made what : Sleeping) (f : FlightState) (course : CourseState) (chain : Option (List Notifier)) → made ≡ what → plans what ≡ true
    → OnOk r (f.going ≡ true → Changes m d made f course) → OnOk r (f.going ≡ false → NeverGoes m d made) → OnOk r (IsReadyFor m d what f course chain)
ready_call (Ok x) m d made what f course chain same is ready never =
    ready_for m d what f course chain is (subst (λ (w : Sleeping). f.going ≡ true → Changes m d w f course) same ready) (subst (λ (w : Sleeping). f.going ≡ false → NeverGoes m d w) same never)
ready_call (Err e) m d made what f course chain same is ready never = tt
