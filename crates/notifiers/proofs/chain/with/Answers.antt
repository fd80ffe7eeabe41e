-- The copy has the notifier in its place.
use Rattle.std.proofs.Common.{List, sym, ap, ◌∙◌, subst, map}
use Rattle.clk_model.specs.Notices.{by_priority}
use Rattle.notifiers.specs.declared.notifier.Notifier.{Notifier}
use Rattle.notifiers.specs.Chains.{row_on, WhyNot}
use Rattle.notifiers.proofs.Chained.{told_of_error}
use Rattle.notifiers.proofs.chain.with.Goals as goal

pub returns-in_err-check-clause-why : goal.returns-in_err-check-clause-why
returns-in_err-check-clause-why c = λ k.
    told_of_error c.from_residual.result _ (WhyNot c.args.notifier.id (map (row_on k) c.args.chain.now)) c.from_residual.ensures.1
    (λ fault same. subst (WhyNot c.args.notifier.id (map (row_on k) c.args.chain.now)) (sym same) (c.in_err-check.ensures.why k))

pub returns-in_err-made-clause-why : goal.returns-in_err-made-clause-why
returns-in_err-made-clause-why c = λ k.
    told_of_error c.from_residual-in_err-made.result _ (WhyNot c.args.notifier.id (map (row_on k) c.args.chain.now)) c.from_residual-in_err-made.ensures.1
    (λ fault same. subst (WhyNot c.args.notifier.id (map (row_on k) c.args.chain.now)) (sym same) (c.in_ok-check.ensures.can k))

pub returns-in_err-insert-clause-why : goal.returns-in_err-insert-clause-why
returns-in_err-insert-clause-why c = λ k.
    told_of_error c.from_residual-in_err-insert.result _ (WhyNot c.args.notifier.id (map (row_on k) c.args.chain.now)) c.from_residual-in_err-insert.ensures.1
    (λ fault same. subst (WhyNot c.args.notifier.id (map (row_on k) c.args.chain.now)) (sym (same ∙ c.in_err-insert.ensures.memory)) (c.in_ok-check.ensures.can k))

pub returns-clause-made : goal.returns-clause-made
returns-clause-made c = λ k. c.in_ok-insert.ensures.ok k ∙ ap (λ (ms : List Notifier). by_priority (row_on k c.args.notifier) (map (row_on k) ms)) c.in_ok-made.ensures.items
