use Rattle.std.proofs.Common.{◌≡◌, ◌∙◌, true, false, refl, sym, subst}
use Rattle.clk_base.specs.declared.call.Sleeping.{Sleeping}
use Rattle.clk_base.specs.declared.event.Event.TheVariants.{Begin}
use Rattle.clk_model.specs.Journal.{slotless}
use Rattle.clk_model.proofs.CallCauseLaws.{calls_have_causes}
use Rattle.clk_machine.specs.Copied.{IsDecided}
use Rattle.clk_machine.specs.declared.decision.Decision.TheVariants.{Script}
use Rattle.clk_machine.specs.Kinds.{is_answer_to}
use Rattle.clk_machine.specs.Run.{Appends, now_of}
use Rattle.clk_machine.specs.Sound.{IsPlaced}
use Rattle.clk_machine.proofs.Causing.{turn_refused}
use Rattle.clk_machine.proofs.Copied.{plans_take}
use Rattle.clk_machine.proofs.Needing.{after_any, plan_needs}
use Rattle.clk_machine.proofs.Weighed.{goes_within}
use Rattle.clk_machine.proofs.framework.Core.begin_scripted.Goals as goal

pub begin_planned-requires-clause-place : goal.begin_planned-requires-clause-place
begin_planned-requires-clause-place g c = subst (λ (w : Sleeping). IsPlaced c.args.self.now.start.defs w) (sym c.in-Some.ensures.is) c.requires.place

pub begin_planned-requires-clause-decided : goal.begin_planned-requires-clause-decided
begin_planned-requires-clause-decided g c = λ told.
    subst (λ (w : Sleeping). IsDecided (now_of c.args.self.now) c.args.driver w (Script c.args.plan c.args.steps)) (sym c.in-Some.ensures.is) (c.requires.decided told)

pub returns-clause-ok : goal.returns-clause-ok
returns-clause-ok g c = subst (λ (w : Sleeping). Appends c.args.self.now c.args.driver (Begin w) c.in_ok-turn.turn c.begin_planned.new.self) c.in-Some.ensures.is c.in_ok-turn.ensures.ok

pub returns-clause-kind : goal.returns-clause-kind
returns-clause-kind g c = subst (λ (w : Sleeping). is_answer_to (Begin w) c.in_ok-turn.turn ≡ true) c.in-Some.ensures.is c.in_ok-turn.ensures.kind

pub returns-clause-turns : goal.returns-clause-turns
returns-clause-turns g c = λ told.
    let appends = subst (λ (w : Sleeping). Appends c.args.self.now c.args.driver (Begin w) c.in_ok-turn.turn c.begin_planned.new.self) c.in-Some.ensures.is c.in_ok-turn.ensures.ok in
    (calls_have_causes _ _ c.args.driver c.args.what.now (slotless c.in_ok-turn.turn) (appends.step told)).1

pub returns-clause-refused : goal.returns-clause-refused
returns-clause-refused g c = λ told.
    let appends = subst (λ (w : Sleeping). Appends c.args.self.now c.args.driver (Begin w) c.in_ok-turn.turn c.begin_planned.new.self) c.in-Some.ensures.is c.in_ok-turn.ensures.ok in
    turn_refused _ _ c.args.driver (Begin c.args.what.now) c.in_ok-turn.turn appends refl told

pub returns-clause-weight : goal.returns-clause-weight
returns-clause-weight g c = λ told.
    let appends = subst (λ (w : Sleeping). Appends c.args.self.now c.args.driver (Begin w) c.in_ok-turn.turn c.begin_planned.new.self) c.in-Some.ensures.is c.in_ok-turn.ensures.ok in
    goes_within _ _ c.args.driver c.args.what.now c.in_ok-turn.turn appends c.weigh.ensures told

pub returns-in_err-turn-clause-memory : goal.returns-in_err-turn-clause-memory
returns-in_err-turn-clause-memory g c = λ none.
    let no : true ≡ false = sym (plans_take c.args.what.now (sym c.in-Some.ensures.plans)) ∙ none in
    absurd cc

pub returns-in_err-turn-clause-needs : goal.returns-in_err-turn-clause-needs
returns-in_err-turn-clause-needs g c = λ told. after_any c.from_residual.result (plan_needs (now_of c.args.self.now) c.args.driver c.args.what.now (sym c.in-Some.ensures.plans))
