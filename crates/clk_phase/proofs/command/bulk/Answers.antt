use Rattle.std.proofs.Common.{rules, ◌≡◌, ◌<◌, ◌∙◌, sym, Some, None, IfSome, Option, subst, List}
use Rattle.clk_base.specs.declared.handle.Handle.{Handle}
use Rattle.clk_phase.specs.declared.bulk_call.BulkStep.{BulkStep}
use Rattle.clk_phase.specs.Doing.{Does}
use Rattle.clk_phase.specs.Running.{handles_at, Run, next_of, made_of, most_left}
use Rattle.clk_phase.proofs.Looping.{Looped, next_credit, next_place_, falls, looped, does, starts}
use Rattle.clk_phase.proofs.command.bulk.Goals as goal

pub loop-step-init : goal.loop-step-init
loop-step-init g c = starts g.C.Consumer.makes g.C.Consumer.credits g.C.Consumer.clocks c.args.who.now c.args.what.now.kind c.args.what.now.items.items c.in_ok-run.run' c.in_ok-run.ensures c.requires.credits c.requires.places

pub make-requires-clause-credit : goal.make-requires-clause-credit
make-requires-clause-credit g c κs within = next_credit g.C.Consumer.makes g.C.Consumer.credits g.C.Consumer.clocks c.args.who.now c.args.what.now.kind c.args.what.now.items.items c.loop-step.run c.loop-step.who c.in-Some.step c.loop-step.invariant (sym c.next.ensures ∙ c.in-Some.is)

pub make-requires-clause-place : goal.make-requires-clause-place
make-requires-clause-place g c κs within = next_place_ g.C.Consumer.makes g.C.Consumer.credits g.C.Consumer.clocks c.args.who.now c.args.what.now.kind c.args.what.now.items.items c.loop-step.run c.loop-step.who c.in-Some.step c.loop-step.invariant (sym c.next.ensures ∙ c.in-Some.is)

pub loop-step-smaller : goal.loop-step-smaller
loop-step-smaller g c =
    let next : next_of c.loop-step.run ≡ Some c.in-Some.step = sym c.next.ensures ∙ c.in-Some.is in
    let is : c.answered.new.self ≡ made_of c.loop-step.run c.in-Some.step c.in_ok-reply.reply = subst (λ (o : Option BulkStep). IfSome o (λ s. c.answered.new.self ≡ made_of c.loop-step.run s c.in_ok-reply.reply)) next c.answered.ensures in
    subst (λ (r : Run). most_left r < most_left c.loop-step.run) (sym is) (falls g.C.Consumer.makes g.C.Consumer.credits g.C.Consumer.clocks c.args.who.now c.args.what.now.kind c.args.what.now.items.items c.loop-step.run c.loop-step.who c.in-Some.step c.in_ok-reply.reply c.loop-step.invariant next)

pub loop-step-preserved : goal.loop-step-preserved
loop-step-preserved g c =
    let next : next_of c.loop-step.run ≡ Some c.in-Some.step = sym c.next.ensures ∙ c.in-Some.is in
    let is : c.answered.new.self ≡ made_of c.loop-step.run c.in-Some.step c.in_ok-reply.reply = subst (λ (o : Option BulkStep). IfSome o (λ s. c.answered.new.self ≡ made_of c.loop-step.run s c.in_ok-reply.reply)) next c.answered.ensures in
    subst (λ (r : Run). Looped g.C.Consumer.makes g.C.Consumer.credits g.C.Consumer.clocks c.args.who.now c.args.what.now.kind c.args.what.now.items.items r c.make.new.who) (sym is)
    (looped g.C.Consumer.makes g.C.Consumer.credits g.C.Consumer.clocks c.args.who.now c.args.what.now.kind c.args.what.now.items.items c.loop-step.run c.loop-step.who c.make.new.who c.in-Some.step c.in_ok-reply.reply c.loop-step.invariant next
    c.in_ok-reply.ensures.makes c.in_ok-reply.ensures.credits c.in_ok-reply.ensures.clocks)

pub returns-clause-does : goal.returns-clause-does
returns-clause-does g c =
    let over : next_of c.loop-step.run ≡ None = search rules in
    let d = does g.C.Consumer.makes g.C.Consumer.credits g.C.Consumer.clocks c.args.who.now c.args.what.now.kind c.args.what.now.items.items c.loop-step.run c.loop-step.who c.loop-step.invariant over in
    subst (λ (hs : List Handle). Does g.C.Consumer.makes c.args.who.now c.args.what.now.kind c.args.what.now.items.items c.finish.result.fail hs c.loop-step.who) (sym c.finish.ensures.handles)
    (subst (λ f. Does g.C.Consumer.makes c.args.who.now c.args.what.now.kind c.args.what.now.items.items f (handles_at c.loop-step.run) c.loop-step.who) (sym c.finish.ensures.fail) d)
