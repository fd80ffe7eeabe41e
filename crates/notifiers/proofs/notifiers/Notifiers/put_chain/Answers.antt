-- The chain of the clock is the other one.
use Rattle.std.proofs.Common.{List, [], ◌∷◌, ◌++◌, sym, ap, ◌∙◌, subst, set}
use Rattle.std.specs.Prelude.{Vec}
use Rattle.std.specs.declared.alloc.Global.{Global}
use Rattle.notifiers.specs.declared.notifier.Notifier.{Notifier}
use Rattle.notifiers.specs.Chains.{AreChains, IsChain, Tells, row_on}
use Rattle.notifiers.proofs.Chained.{chain_read, chain_written, Tells-added}
use Rattle.notifiers.proofs.Kept.{put_kept}
use Rattle.notifiers.proofs.notifiers.Notifiers.put_chain.Goals as goal

pub returns-clause-put : goal.returns-clause-put
returns-clause-put c =
    chain_written (λ v. v.items) c.self.inside.chains.items c.args.self.now c.args.c.0 c.swap.new.x c.self.view_is
    ∙ ap (set c.args.self.now c.args.c.0) (ap (λ (v : Vec Notifier Global). v.items) c.swap.ensures.x_after ∙ c.chain.view_is)

pub returns-clause-told : goal.returns-clause-told
returns-clause-told c = λ ns n placed tells.
    subst (λ (cs : List (List Notifier)). Tells cs (ns ++ row_on c.args.c.0 n ∷ [])) (sym (returns-clause-put c))
    (Tells-added c.args.self.now c.args.c.0 c.args.chain.now n ns c.requires placed tells)

pub returns-clause-before : goal.returns-clause-before
returns-clause-before c =
    ap (λ (v : Vec Notifier Global). v.items) c.swap.ensures.y_after
    ∙ sym (chain_read (λ v. v.items) c.self.inside.chains.items c.args.self.now c.args.c.0 c.index_mut.result.now c.self.view_is c.requires c.index_mut.ensures.value)

pub invariant_of-chain : goal.invariant_of-chain
invariant_of-chain c = subst IsChain (sym (returns-clause-before c)) (subst AreChains c.self.view_is c.self.invariant c.args.c.0)

pub invariant_of-self : goal.invariant_of-self
invariant_of-self c =
    subst AreChains (sym (chain_written (λ v. v.items) c.self.inside.chains.items c.args.self.now c.args.c.0 c.swap.new.x c.self.view_is))
    (put_kept c.args.self.now c.args.c.0 c.swap.new.x.items (subst IsChain (sym (ap (λ (v : Vec Notifier Global). v.items) c.swap.ensures.x_after)) c.chain.invariant)
    (subst AreChains c.self.view_is c.self.invariant))

pub returns-clause-kept : goal.returns-clause-kept
returns-clause-kept c = invariant_of-self c

pub returns-clause-chain : goal.returns-clause-chain
returns-clause-chain c = invariant_of-chain c
