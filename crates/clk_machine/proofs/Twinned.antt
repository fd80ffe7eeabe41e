-- Twins of a state that a journal leads to, and shadows of it, go along with its events.
use Rattle.std.proofs.Common.{◌≡◌, ℕ, ◌+◌, ◌⊎◌, inl, inr, Bool, true, false, List, Option, Some, None, refl, sym, ap, subst, ◌∙◌, length}
use Rattle.clk_base.specs.declared.call.Micro.{Micro}
use Rattle.clk_base.specs.declared.call.Sleeping.{Sleeping}
use Rattle.clk_base.specs.declared.call.Sleeping.TheVariants as call
use Rattle.clk_base.specs.declared.event.Entry.{Entry}
use Rattle.clk_base.specs.declared.event.Event.TheVariants as event
use Rattle.clk_base.specs.declared.event.Turn.{Turn}
use Rattle.clk_base.specs.declared.event.Turn.TheVariants as turn
use Rattle.clk_model.specs.Journal.{opening, replay}
use Rattle.clk_model.specs.Laws.Flight.{Flight, IsInFlight, QuietOrInFlight, steps_of}
use Rattle.clk_model.specs.Laws.PrepSteps.{fits_mux}
use Rattle.clk_model.specs.Laws.Shadows.{IsShadow, ShadowSteps}
use Rattle.clk_model.specs.Laws.Twins.{IsTwin, TwinMakes, IsLeftOut}
use Rattle.clk_model.specs.Machine.{next}
use Rattle.clk_model.specs.Prep.{is_sweep}
use Rattle.clk_model.specs.Round.{wiring}
use Rattle.clk_model.specs.State.{State, Change}
use Rattle.clk_model.specs.Wired.{IsWired}
use Rattle.clk_model.proofs.AlikeLaws.{inside_change}
use Rattle.clk_model.proofs.FlightLaws.{step_is, course_of}
use Rattle.clk_model.proofs.InFlightLaws.{quiet_or_in_flight}
use Rattle.clk_model.proofs.LinkLaws.{runs_are_wired}
use Rattle.clk_model.proofs.PrepRunLaws.{flight_fits}
use Rattle.clk_model.proofs.ShadowLaws.{shadows_begin, shadows_step}
use Rattle.clk_model.proofs.TwinLaws.{twins_step, twins_begin}
use Rattle.clk_machine.specs.Sound.{IsReached}
use Rattle.clk_machine.proofs.Legalized.{Legalized, legalized}
use Rattle.clk_machine.proofs.Soundness.{wired_reached}

-- ---- the call in flight

-- a reached state's tree is wired
pub wired_of : (words : ℕ) (s : State) → IsReached words s → IsWired (length s.regs) (wiring s)
wired_of words s is = let known = wired_reached words s is in subst (λ (n : ℕ). IsWired n (wiring s)) (sym known.size) known.wired

-- where a change is in flight, a legal journal leads to the state in which its call began, and it is in flight behind it
record IsFlying (words : ℕ) (s : State) (is : IsReached words s) : Type 0 where
  journal : List Entry
  leads : s ≡ replay (opening is.defs is.regs is.ignore_unused is.credits) journal
  call_ : IsInFlight (opening is.defs is.regs is.ignore_unused is.credits) journal

flying : (words : ℕ) (s : State) (k : Change) (is : IsReached words s) → s.change ≡ Some k → IsFlying words s is
flying words s k is at = by (quiet_or_in_flight start made.entries refl made.legal) where
  start : State
  start = opening is.defs is.regs is.ignore_unused is.credits

  made : Legalized start is.journal
  made = legalized start is.journal

  leads : s ≡ replay start made.entries
  leads = is.leads ∙ sym made.leads

  by : QuietOrInFlight start made.entries → IsFlying words s is
  by (inl quiet) = let no : None ≡ Some k = sym quiet ∙ ap (λ (u : State). u.change) (sym leads) ∙ at in absurd cc
  by (inr call_) = record { journal = made.entries; leads = leads; call_ = call_ }

-- what is known of that call in the state itself
record IsFlown (words : ℕ) (s : State) (k : Change) (d : ℕ) (is : IsReached words s) : Type 0 where
  fly : IsFlying words s is
  flight : Flight (replay (opening is.defs is.regs is.ignore_unused is.credits) fly.call_.before) fly.call_.first.driver fly.call_.what s (steps_of fly.call_.since)
  driver : d ≡ fly.call_.first.driver
  call_ : k.call ≡ fly.call_.what

flown : (words : ℕ) (s u : State) (k : Change) (d : ℕ) (m : Micro) (answer : Option Bool) (x : Turn) (is : IsReached words s) → s.change ≡ Some k
    → next s d (event.Step m answer) ≡ Some (u, x) → IsFlown words s k d is
flown words s u k d m answer x is at step =
    let fly = flying words s k is at in
    let q : State = replay (opening is.defs is.regs is.ignore_unused is.credits) fly.call_.before in
    let flight : Flight q fly.call_.first.driver fly.call_.what s (steps_of fly.call_.since) =
    subst (λ (v : State). Flight q fly.call_.first.driver fly.call_.what v (steps_of fly.call_.since)) (sym fly.leads) fly.call_.flight in
    let course = course_of q fly.call_.first.driver fly.call_.what flight in
    let found = step_is s u d m answer x step in
    let here : k ≡ course.now = inside_change (sym at ∙ course.at) in
    record {
      fly = fly;
      flight = flight;
      driver = sym found.1.driver ∙ ap (λ (j : Change). j.driver) (inside_change (sym found.1.at ∙ course.at)) ∙ course.driver;
      call_ = ap (λ (j : Change). j.call) here ∙ course.call;
    }

-- what a step writes in the field of a mux fits it
fits : (words : ℕ) (s u : State) (k : Change) (d : ℕ) (m : Micro) (answer : Option Bool) (x : Turn) → IsReached words s → s.change ≡ Some k → next s d (event.Step m answer) ≡ Some (u, x)
    → fits_mux s.defs m ≡ true
fits words s u k d m answer x is at step =
    let known = flown words s u k d m answer x is at step in
    let call_ = known.fly.call_ in
    let start : State = opening is.defs is.regs is.ignore_unused is.credits in
    let q : State = replay start call_.before in
    let before = runs_are_wired is.defs is.regs is.ignore_unused is.credits call_.before is.valid in
    let now = runs_are_wired is.defs is.regs is.ignore_unused is.credits known.fly.journal is.valid in
    let wired : IsWired (length q.regs) (wiring q) = subst (λ (n : ℕ). IsWired n (wiring q)) (sym before.size) before.wired in
    flight_fits q s u call_.first.driver call_.what (steps_of call_.since) m answer x wired (ap (λ (v : State). v.defs) known.fly.leads ∙ now.same ∙ sym before.same) known.flight
    (subst (λ (n : ℕ). next s n (event.Step m answer) ≡ Some (u, x)) known.driver step)

-- ---- a twin of a reached state

-- it makes each step of a call that isn't the sweep
pub twin_steps : (words : ℕ) (s t u : State) (k : Change) (d : ℕ) (m : Micro) (answer : Option Bool) (x : Turn) → IsReached words s → IsTwin t s → s.change ≡ Some k → is_sweep k.call ≡ false
    → next s d (event.Step m answer) ≡ Some (u, x) → TwinMakes t d (event.Step m answer) u x
twin_steps words s t u k d m answer x is twin at other step =
    twins_step s t u k d m answer x (wired_of words s is) twin at other (fits words s u k d m answer x is at step) step

-- and each beginning of one, or it is left out
pub twin_begins : (words : ℕ) (s t u : State) (d : ℕ) (what : Sleeping) (x : Turn) → IsReached words s → IsTwin t s → is_sweep what ≡ false → next s d (event.Begin what) ≡ Some (u, x)
    → TwinMakes t d (event.Begin what) u x ⊎ (IsLeftOut x × IsTwin t u)
twin_begins words s t u d what x is twin other step = twins_begin s t u d what x (wired_of words s is) twin other step

-- a sweep that begins makes it a shadow, with any change of a sweep
pub twin_sweeps : (words : ℕ) (s t u : State) (l : Change) (d : ℕ) → IsReached words s → IsTwin t s → is_sweep l.call ≡ true → next s d (event.Begin call.Sweep) ≡ Some (u, turn.Going)
    → IsShadow (record t { change = Some l; spent = t.spent + 1 }) u
twin_sweeps words s t u l d is twin sweeps step =
    shadows_begin is.defs is.regs is.ignore_unused is.credits is.journal t u l d is.valid (subst (λ (v : State). IsTwin t v) is.leads twin) sweeps
    (ap (λ (v : State). next v d (event.Begin call.Sweep)) (sym is.leads) ∙ step)

-- ---- a shadow of one

-- each step of the sweep leaves one, or ends it
pub shadow_goes : (words : ℕ) (s t u : State) (d : ℕ) (m : Micro) (answer : Option Bool) (x : Turn) → IsReached words s → IsShadow t s → next s d (event.Step m answer) ≡ Some (u, x) → ShadowSteps t m u x
shadow_goes words s t u d m answer x is shadow step =
    shadows_step is.defs is.regs is.ignore_unused is.credits is.journal t u d m answer x is.valid (subst (λ (v : State). IsShadow t v) is.leads shadow)
    (ap (λ (v : State). next v d (event.Step m answer)) (sym is.leads) ∙ step)
