use Rattle.std.proofs.Common.{◌∙◌, sym, subst}
use Rattle.std.proofs.lemmas.Result.{IfOk-weaker}
use Rattle.clk_base.specs.declared.call.Sleeping.{Sleeping}
use Rattle.clk_machine.specs.Copied.{AreDecided}
use Rattle.clk_machine.specs.declared.decision.Decision.TheVariants.{Reply}
use Rattle.clk_machine.proofs.Copied.{asked_told, decided_over}
use Rattle.clk_machine.proofs.prep.Prep.decide.Goals as goal

pub returns-then-is_asking-clause-decides : goal.returns-then-is_asking-clause-decides
returns-then-is_asking-clause-decides g c =
    let what = c.args.what.now in
    let asking = sym c.is_asking.ensures ∙ c.if-is_asking.true in
    rw (← c.self.view_is)
    (decided_over _ c.args.driver what (Reply c.asked_reply-reply.result) c.asked_reply-reply.ensures.whole (rw (← c.self.view_is) at c.requires.quiet)
    (asked_told _ c.args.driver what c.asked_reply-reply.result asking c.asked_reply-reply.ensures.room c.asked_reply-reply.ensures.told))

pub returns-in-Some-clause-decides : goal.returns-in-Some-clause-decides
returns-in-Some-clause-decides g c =
    let what = c.args.what.now in
    rw (← c.self.view_is)
    (IfOk-weaker c.planned.result _ _
    (λ made each. decided_over _ c.args.driver what made c.planned.ensures.whole (rw (← c.self.view_is) at c.requires.quiet)
    (subst (λ (w : Sleeping). AreDecided c.self.inside.machine c.args.driver w made) c.in-Some.ensures.is each)) c.planned.ensures.decides)

pub returns-in-Some-clause-here : goal.returns-in-Some-clause-here
returns-in-Some-clause-here g c =
    rw (← c.self.view_is)
    (IfOk-weaker c.planned.result _ _ (λ made each. subst (λ (w : Sleeping). AreDecided c.self.inside.machine c.args.driver w made) c.in-Some.ensures.is each) c.planned.ensures.decides)
