use Rattle.std.proofs.Common.{◌≡◌, ◌∙◌, ℕ, true, refl, sym, subst, arith}
use Rattle.clk_base.specs.declared.event.Event.TheVariants.{Step}
use Rattle.clk_machine.specs.Run.{in_flight}
use Rattle.clk_machine.specs.Stands.{Enters}
use Rattle.clk_machine.proofs.Entering.{IsEntered, stepped, entered, steps_on, step_turns}
use Rattle.clk_machine.proofs.KindLaws.{last_kind}
use Rattle.core_parts.specs.MadeSteps.{step_of, answer_of, turn_of}
use Rattle.clk_machine.proofs.framework.Core.step.Goals as goal

pub step-made-requires : goal.step-made-requires
step-made-requires g c =
    let m = c.self.inside in
    let flies : in_flight m.log.entries ≡ true = rw (← c.self.view_is) at c.requires in
    c.self.invariant.going ∙ flies

pub push_made-requires : goal.push_made-requires
push_made-requires g c =
    let room = c.self.invariant.room in
    let paid = c.driver-driver.ensures.paid in
    let less = c.step-made.ensures.enters.fewer refl in
    omega arith

pub invariant_of-self : goal.invariant_of-self
invariant_of-self g c =
    let m = c.self.inside in
    let made = c.step-made.result in
    let flies : in_flight m.log.entries ≡ true = rw (← c.self.view_is) at c.requires in
    let enters : Enters m.machine c.driver-driver.result (Step (step_of made) (answer_of made)) (turn_of made) c.step-made.new.self =
    subst (λ (d : ℕ). Enters m.machine d (Step (step_of made) (answer_of made)) (turn_of made) c.step-made.new.self) (sym c.driver-driver.ensures.driver) c.step-made.ensures.enters in
    let is : IsEntered m.machine c.step-made.new.self m.words.items m.log c.push_made.new.log c.driver-driver.result (Step (step_of made) (answer_of made)) (turn_of made) =
    stepped m.machine c.step-made.new.self m.words.items m.log c.push_made.new.log c.driver-driver.result (step_of made) (answer_of made) (turn_of made) c.self.invariant enters c.step-made.ensures.links c.step-made.ensures.locks c.push_made.ensures.entries c.push_made.ensures.room in
    entered m.machine c.step-made.new.self m.words.items m.log c.push_made.new.log c.driver-driver.result (Step (step_of made) (answer_of made)) (turn_of made) is

pub returns-clause-made : goal.returns-clause-made
returns-clause-made g c =
    let m = c.self.inside in
    let made = c.step-made.result in
    let flies : in_flight m.log.entries ≡ true = rw (← c.self.view_is) at c.requires in
    let enters : Enters m.machine c.driver-driver.result (Step (step_of made) (answer_of made)) (turn_of made) c.step-made.new.self =
    subst (λ (d : ℕ). Enters m.machine d (Step (step_of made) (answer_of made)) (turn_of made) c.step-made.new.self) (sym c.driver-driver.ensures.driver) c.step-made.ensures.enters in
    let is : IsEntered m.machine c.step-made.new.self m.words.items m.log c.push_made.new.log c.driver-driver.result (Step (step_of made) (answer_of made)) (turn_of made) =
    stepped m.machine c.step-made.new.self m.words.items m.log c.push_made.new.log c.driver-driver.result (step_of made) (answer_of made) (turn_of made) c.self.invariant enters c.step-made.ensures.links c.step-made.ensures.locks c.push_made.ensures.entries c.push_made.ensures.room in
    let on = steps_on m.machine c.step-made.new.self m.words.items m.log c.push_made.new.log c.driver-driver.result (step_of made) (answer_of made) (turn_of made) is (c.driver-driver.ensures.driver ∙ c.self.invariant.driver_ (c.self.invariant.going ∙ flies)) in
    rw (← c.self.view_is) (rw c.push_made.ensures.turn on)

pub returns-clause-turns : goal.returns-clause-turns
returns-clause-turns g c =
    let m = c.self.inside in
    let made = c.step-made.result in
    let flies : in_flight m.log.entries ≡ true = rw (← c.self.view_is) at c.requires in
    let enters : Enters m.machine c.driver-driver.result (Step (step_of made) (answer_of made)) (turn_of made) c.step-made.new.self =
    subst (λ (d : ℕ). Enters m.machine d (Step (step_of made) (answer_of made)) (turn_of made) c.step-made.new.self) (sym c.driver-driver.ensures.driver) c.step-made.ensures.enters in
    let is : IsEntered m.machine c.step-made.new.self m.words.items m.log c.push_made.new.log c.driver-driver.result (Step (step_of made) (answer_of made)) (turn_of made) =
    stepped m.machine c.step-made.new.self m.words.items m.log c.push_made.new.log c.driver-driver.result (step_of made) (answer_of made) (turn_of made) c.self.invariant enters c.step-made.ensures.links c.step-made.ensures.locks c.push_made.ensures.entries c.push_made.ensures.room in
    let on = steps_on m.machine c.step-made.new.self m.words.items m.log c.push_made.new.log c.driver-driver.result (step_of made) (answer_of made) (turn_of made) is (c.driver-driver.ensures.driver ∙ c.self.invariant.driver_ (c.self.invariant.going ∙ flies)) in
    rw (← c.self.view_is) (rw c.push_made.ensures.turn (λ told. step_turns _ _ (turn_of made) on refl told))

pub returns-clause-polled : goal.returns-clause-polled
returns-clause-polled g c =
    let m = c.self.inside in
    let made = c.step-made.result in
    let flies : in_flight m.log.entries ≡ true = rw (← c.self.view_is) at c.requires in
    let enters : Enters m.machine c.driver-driver.result (Step (step_of made) (answer_of made)) (turn_of made) c.step-made.new.self =
    subst (λ (d : ℕ). Enters m.machine d (Step (step_of made) (answer_of made)) (turn_of made) c.step-made.new.self) (sym c.driver-driver.ensures.driver) c.step-made.ensures.enters in
    let is : IsEntered m.machine c.step-made.new.self m.words.items m.log c.push_made.new.log c.driver-driver.result (Step (step_of made) (answer_of made)) (turn_of made) =
    stepped m.machine c.step-made.new.self m.words.items m.log c.push_made.new.log c.driver-driver.result (step_of made) (answer_of made) (turn_of made) c.self.invariant enters c.step-made.ensures.links c.step-made.ensures.locks c.push_made.ensures.entries c.push_made.ensures.room in
    (entered m.machine c.step-made.new.self m.words.items m.log c.push_made.new.log c.driver-driver.result (Step (step_of made) (answer_of made)) (turn_of made) is).polled

pub returns-clause-kind : goal.returns-clause-kind
returns-clause-kind g c =
    let made = c.step-made.result in
    rw (← c.self.view_is)
    (rw c.push_made.ensures.turn (last_kind _ _ c.driver-driver.result (Step (step_of made) (answer_of made)) (turn_of made) c.push_made.ensures.entries c.step-made.ensures.kind))
