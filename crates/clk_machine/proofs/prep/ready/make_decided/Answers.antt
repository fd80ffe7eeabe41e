use Rattle.std.proofs.Common.{◌≡◌, ◌∙◌, true, false, sym, subst}
use Rattle.clk_base.specs.declared.call.Sleeping.{Sleeping}
use Rattle.clk_machine.specs.Copied.{AreDecided, DecidesFor, GoesOnBy}
use Rattle.clk_machine.specs.declared.decision.Decision.{Decision}
use Rattle.clk_machine.proofs.DecidedAlong.{never_answered, never_inside, ready_call, ready_for}
use Rattle.clk_machine.proofs.prep.ready.make_decided.Goals as goal

pub ready_decided-requires-clause-decided : goal.ready_decided-requires-clause-decided
ready_decided-requires-clause-decided c = λ s stands sound.
    let goes : GoesOnBy s c.args.driver c.args.what c.in-Script.plan c.in-Script.steps = subst (λ (x : Decision). DecidesFor s c.args.driver c.args.what x) c.in-Script.is (c.requires.decided s stands sound) in
    (c.in-Script.steps, subst (λ (w : Sleeping). GoesOnBy s c.args.driver w c.in-Script.plan c.in-Script.steps) (sym c.in-Some.ensures.is) goes)

pub returns-in-Script-clause-ok : goal.returns-in-Script-clause-ok
returns-in-Script-clause-ok c = ready_call c.ready_decided.result _ _ _ _ _ _ _ c.in-Some.ensures.is (sym c.in-Some.ensures.plans) c.ready_decided.ensures.ready c.ready_decided.ensures.never

pub returns-in-Reply-clause-ok : goal.returns-in-Reply-clause-ok
returns-in-Reply-clause-ok c =
    ready_for c.args.machine.now c.args.driver c.args.what _ _ _ (sym c.in-Some.ensures.plans) (λ on. let no : true ≡ false = sym on ∙ c.requires.quiet in absurd cc)
    (λ off. never_answered c.args.machine.now c.args.driver c.args.what c.in-Reply.field-0 (subst (AreDecided c.args.machine.now c.args.driver c.args.what) c.in-Reply.is c.requires.decided))

pub returns-in-Inside-clause-ok : goal.returns-in-Inside-clause-ok
returns-in-Inside-clause-ok c =
    let planned = sym c.in-Some.ensures.plans in
    ready_for c.args.machine.now c.args.driver c.args.what _ _ _ planned (λ on. let no : true ≡ false = sym on ∙ c.requires.quiet in absurd cc)
    (λ off. never_inside c.args.machine.now c.args.driver c.args.what planned (subst (AreDecided c.args.machine.now c.args.driver c.args.what) c.in-Inside.is c.requires.decided))
