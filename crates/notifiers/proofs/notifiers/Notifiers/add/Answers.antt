-- The chain of the clock was read, and stands in its place with one notifier more.
use Rattle.std.proofs.Common.{◌≡◌, ℤ, w32, List, [], ◌∷◌, ◌++◌, sym, ap, ◌∙◌, subst, map, set, get_or}
use Rattle.std.proofs.lemmas.Int.{to_z-of_z}
use Rattle.std.proofs.lemmas.List.{set-get_or}
use Rattle.std.proofs.lemmas.Result.{on_ok_weaker, on_err_weaker, IfErr-weaker}
use Rattle.clk_model.specs.Notices.{by_priority}
use Rattle.notifiers.specs.declared.notifier.Notifier.{Notifier}
use Rattle.notifiers.specs.Chains.{AreChains, CanAdd, IsChain, Tells, WhyNot, row_on}
use Rattle.notifiers.proofs.Chained.{chain_read, chain_written, Tells-added}
use Rattle.notifiers.proofs.Kept.{put_kept, tried_kept}
use Rattle.notifiers.proofs.notifiers.Notifiers.add.Goals as goal

pub returns-clause-told : goal.returns-clause-told
returns-clause-told c = λ ns tells.
    let vs = c.self.inside.chains.items in
    let chains = c.args.self.now in
    let k = c.args.c.0 in
    let read : get_or chains k [] ≡ c.index_mut.result.now.items = chain_read (λ v. v.items) vs chains k c.index_mut.result.now c.self.view_is c.requires c.index_mut.ensures.value in
    let n : Notifier = record { id = c.args.id; priority = c.args.priority; policy = c.args.policy } in
    let signed = ap (λ (p : ℤ). by_priority (record { clock = k; id = c.args.id; priority = p; policy = c.args.policy }) (map (row_on k) c.index_mut.result.now.items)) (to_z-of_z w32 c.args.priority c.ranges.priority) in
    on_ok_weaker c.add.result
    (λ placed.
    subst (λ (cs : List (List Notifier)). Tells cs (ns ++ row_on k n ∷ [])) (sym (chain_written (λ v. v.items) vs chains k c.add.new.chain c.self.view_is))
    (Tells-added chains k c.add.new.chain.items n ns c.requires (placed ∙ signed ∙ ap (λ (ms : List Notifier). by_priority (row_on k n) (map (row_on k) ms)) (sym read)) tells))
    (c.add.ensures.ok k)

pub returns-clause-can : goal.returns-clause-can
returns-clause-can c =
    let read = chain_read (λ v. v.items) c.self.inside.chains.items c.args.self.now c.args.c.0 c.index_mut.result.now c.self.view_is c.requires c.index_mut.ensures.value in
    on_ok_weaker c.add.result
    (subst (λ (ms : List Notifier). CanAdd c.args.id (map (row_on c.args.c.0) ms)) (sym read))
    (c.add.ensures.can c.args.c.0)

pub returns-clause-why : goal.returns-clause-why
returns-clause-why c =
    let read = chain_read (λ v. v.items) c.self.inside.chains.items c.args.self.now c.args.c.0 c.index_mut.result.now c.self.view_is c.requires c.index_mut.ensures.value in
    IfErr-weaker c.add.result _ _
    (λ fault. subst (λ (ms : List Notifier). WhyNot c.args.id (map (row_on c.args.c.0) ms) fault) (sym read))
    (c.add.ensures.why c.args.c.0)

pub returns-clause-err : goal.returns-clause-err
returns-clause-err c =
    let read = chain_read (λ v. v.items) c.self.inside.chains.items c.args.self.now c.args.c.0 c.index_mut.result.now c.self.view_is c.requires c.index_mut.ensures.value in
    on_err_weaker c.add.result
    (λ same.
    chain_written (λ v. v.items) c.self.inside.chains.items c.args.self.now c.args.c.0 c.add.new.chain c.self.view_is
    ∙ ap (set c.args.self.now c.args.c.0) (same ∙ sym read)
    ∙ set-get_or c.args.self.now c.args.c.0 [])
    c.add.ensures.err

pub invariant_of-self : goal.invariant_of-self
invariant_of-self c =
    let vs = c.self.inside.chains.items in
    let chains = c.args.self.now in
    let k = c.args.c.0 in
    let all : AreChains chains = subst AreChains c.self.view_is c.self.invariant in
    let read : get_or chains k [] ≡ c.index_mut.result.now.items = chain_read (λ v. v.items) vs chains k c.index_mut.result.now c.self.view_is c.requires c.index_mut.ensures.value in
    let n : Notifier = record { id = c.args.id; priority = c.args.priority; policy = c.args.policy } in
    let signed = ap (λ (p : ℤ). by_priority (record { clock = k; id = c.args.id; priority = p; policy = c.args.policy }) (map (row_on k) c.index_mut.result.now.items)) (to_z-of_z w32 c.args.priority c.ranges.priority) in
    subst AreChains (sym (chain_written (λ v. v.items) vs chains k c.add.new.chain c.self.view_is))
    (put_kept chains k c.add.new.chain.items
    (tried_kept c.add.result k n c.index_mut.result.now.items c.add.new.chain.items (on_ok_weaker c.add.result (λ placed. placed ∙ signed) (c.add.ensures.ok k)) (c.add.ensures.can k) c.add.ensures.err
    (subst IsChain read (all k)))
    all)

pub returns-clause-kept : goal.returns-clause-kept
returns-clause-kept c = invariant_of-self c
