use Rattle.std.proofs.Common.{ap, ◌∙◌}
use Rattle.clk_model.specs.Follows.{Variables, handle_of}
use Rattle.driver_runs.proofs.Making.{steps_is, may_enter, goes_event, ends_event}
use Rattle.driver_runs.proofs.event.make_event.Goals as goal

pub enter-requires : goal.enter-requires
enter-requires g c =
    may_enter c.args.core.now c.args.driver c.args.commands.now c.args.standing.now c.args.going c.requires c.in-Some.command.now _ c.in-Some.ensures c.eq-steps.result c.handle_of-held.result
    (c.eq-steps.ensures ∙ steps_is c.args.going c.args.driver)
    (c.handle_of-held.ensures ∙ ap (λ (h : Variables). handle_of h c.in-Some.command.now) c.as_slice.ensures.value)

pub returns-in-Going-clause-ok : goal.returns-in-Going-clause-ok
returns-in-Going-clause-ok g c =
    goes_event c.args.core.now c.args.driver c.args.commands.now c.args.standing.now c.args.going c.requires c.in-Some.command.now _ c.in-Some.ensures c.eq-steps.result c.handle_of-held.result
    c.in_ok-enter.field-0 c.enter.new.core (c.eq-steps.ensures ∙ steps_is c.args.going c.args.driver)
    (c.handle_of-held.ensures ∙ ap (λ (h : Variables). handle_of h c.in-Some.command.now) c.as_slice.ensures.value) c.in-Going.is c.in_ok-enter.ensures.ok

pub returns-in_ok-answer-in-Done-clause-ok : goal.returns-in_ok-answer-in-Done-clause-ok
returns-in_ok-answer-in-Done-clause-ok g c =
    ends_event c.args.core.now c.args.driver c.args.commands.now c.args.standing.now c.args.going c.requires c.in-Some.command.now _ c.in-Some.ensures c.eq-steps.result c.handle_of-held.result
    c.in_ok-enter.field-0 c.in-Done.reply c.enter.new.core c.answer.new.self c.going_behind.result (c.eq-steps.ensures ∙ steps_is c.args.going c.args.driver)
    (c.handle_of-held.ensures ∙ ap (λ (h : Variables). handle_of h c.in-Some.command.now) c.as_slice.ensures.value) c.in-Done.is c.in_ok-enter.ensures.ok c.in_ok-answer-in-Done.ensures c.going_behind.ensures
