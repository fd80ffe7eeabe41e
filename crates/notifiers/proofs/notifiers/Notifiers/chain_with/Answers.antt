-- The chain of the clock was read, and copied with one notifier more.
use Rattle.std.proofs.Common.{List, sym, ap, ◌∙◌, subst, map}
use Rattle.clk_model.specs.Notices.{by_priority}
use Rattle.notifiers.specs.declared.notifier.Notifier.{Notifier}
use Rattle.notifiers.specs.Chains.{CanAdd, IsChain, WhyNot, chain_of, row_on}
use Rattle.notifiers.proofs.Chained.{told_of_error}
use Rattle.notifiers.proofs.Kept.{added_kept}
use Rattle.notifiers.proofs.notifiers.Notifiers.chain_with.Goals as goal

pub returns-in_err-with-clause-why : goal.returns-in_err-with-clause-why
returns-in_err-with-clause-why c =
    told_of_error c.from_residual.result _ (WhyNot c.args.notifier.id (chain_of c.args.self.now c.args.c.0)) c.from_residual.ensures.1
    (λ fault same. subst (WhyNot c.args.notifier.id (chain_of c.args.self.now c.args.c.0)) (sym same)
    (subst (λ (ms : List Notifier). WhyNot c.args.notifier.id (map (row_on c.args.c.0) ms) c.in_err-with.field-0.0) c.chain.ensures.chain (c.in_err-with.ensures.why c.args.c.0)))

pub returns-clause-made : goal.returns-clause-made
returns-clause-made c =
    c.in_ok-with.ensures.made c.args.c.0
    ∙ ap (λ (ms : List Notifier). by_priority (row_on c.args.c.0 c.args.notifier) (map (row_on c.args.c.0) ms)) c.chain.ensures.chain

pub returns-clause-can : goal.returns-clause-can
returns-clause-can c = subst (λ (ms : List Notifier). CanAdd c.args.notifier.id (map (row_on c.args.c.0) ms)) c.chain.ensures.chain (c.in_ok-with.ensures.can c.args.c.0)

pub invariant_of-result : goal.invariant_of-result
invariant_of-result c =
    added_kept c.args.c.0 c.args.notifier c.chain.result.now c.in_ok-with.field-0.items (c.in_ok-with.ensures.made c.args.c.0) (c.in_ok-with.ensures.can c.args.c.0)
    (subst IsChain (sym c.chain.ensures.chain) (c.chain.ensures.kept c.args.c.0))

pub returns-clause-kept : goal.returns-clause-kept
returns-clause-kept c = invariant_of-result c
