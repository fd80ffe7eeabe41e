-- A chain that may have the notifier gets it in its place.
use Rattle.std.proofs.Common.{◌≡◌, ℕ, sym, subst, map, List}
use Rattle.std.proofs.lemmas.Result.{IfErr-weaker}
use Rattle.notifiers.specs.declared.notifier.Notifier.{Notifier}
use Rattle.notifiers.specs.Chains.{row_on, CanAdd, WhyNot}
use Rattle.notifiers.proofs.Chained.{on_ok_always, told_of_error}
use Rattle.notifiers.proofs.chain.add.Goals as goal

-- the chain is what was read of it
can : (id k : ℕ) (read items : List Notifier) → read ≡ items → CanAdd id (map (row_on k) read) → CanAdd id (map (row_on k) items)
can id k read items same = subst (λ (ms : List Notifier). CanAdd id (map (row_on k) ms)) same

pub returns-in_err-check-clause-why : goal.returns-in_err-check-clause-why
returns-in_err-check-clause-why c = λ k.
    told_of_error c.from_residual.result _ (WhyNot c.args.notifier.id (map (row_on k) c.args.chain.now.items)) c.from_residual.ensures.1
    (λ fault same. subst (WhyNot c.args.notifier.id (map (row_on k) c.args.chain.now.items)) (sym same)
    (subst (λ (ms : List Notifier). WhyNot c.args.notifier.id (map (row_on k) ms) c.in_err-check.field-0.0) c.deref.ensures.value (c.in_err-check.ensures.why k)))

pub returns-clause-can : goal.returns-clause-can
returns-clause-can c = λ k. on_ok_always c.insert.result (can c.args.notifier.id k c.deref.result.now c.args.chain.now.items c.deref.ensures.value (c.in_ok-check.ensures.can k))

pub returns-clause-why : goal.returns-clause-why
returns-clause-why c = λ k.
    IfErr-weaker c.insert.result _ (WhyNot c.args.notifier.id (map (row_on k) c.args.chain.now.items))
    (λ fault memory. subst (WhyNot c.args.notifier.id (map (row_on k) c.args.chain.now.items)) (sym memory) (can c.args.notifier.id k c.deref.result.now c.args.chain.now.items c.deref.ensures.value (c.in_ok-check.ensures.can k)))
    c.insert.ensures.memory
