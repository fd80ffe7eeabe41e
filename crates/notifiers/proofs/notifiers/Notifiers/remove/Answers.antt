-- The chain of the clock was read, and stands in its place without the notifier of the id.
use Rattle.std.proofs.Common.{◌≡◌, ◌≤◌, not, List, [], sym, ap, ◌∙◌, subst, arith, map, length, set, get_or, nat_eq}
use Rattle.std.specs.Prelude.{filter}
use Rattle.std.specs.List.{list_any}
use Rattle.std.proofs.lemmas.List.{set_past, length-map}
use Rattle.notifiers.specs.declared.notifier.Notifier.{Notifier}
use Rattle.notifiers.specs.Chains.{AreChains, IsChain, Tells, has_id, row_on, without_notifier}
use Rattle.notifiers.proofs.Chained.{chain_read, chain_written, Tells-without, has_id-chain}
use Rattle.notifiers.proofs.Kept.{left_kept, put_kept}
use Rattle.notifiers.proofs.notifiers.Notifiers.remove.Goals as goal

pub returns-then-len-c-clause-told : goal.returns-then-len-c-clause-told
returns-then-len-c-clause-told c = λ ns tells.
    let chains = c.args.self.now in
    let long : length chains ≡ length c.self.inside.chains.items = ap length (sym c.self.view_is) ∙ length-map c.self.inside.chains.items (λ v. v.items) in
    let len : c.len.result ≡ length c.self.inside.chains.items = c.len.ensures ∙ c.self.inside.chains.ok.0 in
    let past : length chains ≤ c.args.c.0 = omega arith in
    subst (λ (cs : List (List Notifier)). Tells cs (without_notifier c.args.c.0 c.args.id ns))
    (set_past chains c.args.c.0 (filter (λ n. not (nat_eq n.id c.args.id)) (get_or chains c.args.c.0 [])) past)
    (Tells-without chains c.args.c.0 c.args.id ns tells)

pub returns-clause-had : goal.returns-clause-had
returns-clause-had c =
    let chains = c.args.self.now in
    let chain = c.index_mut-chain.result.now in
    let long : length chains ≡ length c.self.inside.chains.items = ap length (sym c.self.view_is) ∙ length-map c.self.inside.chains.items (λ v. v.items) in
    let len : c.len.result ≡ length c.self.inside.chains.items = c.len.ensures ∙ c.self.inside.chains.ok.0 in
    let read = chain_read (λ v. v.items) c.self.inside.chains.items chains c.args.c.0 chain c.self.view_is (omega arith) c.index_mut-chain.ensures.value in
    c.has_id-had.ensures
    ∙ ap (list_any (λ other. nat_eq other.id c.args.id)) c.deref.ensures.value
    ∙ sym (ap (λ (ms : List Notifier). has_id c.args.id (map (row_on c.args.c.0) ms)) read ∙ has_id-chain c.args.id c.args.c.0 chain.items)

pub returns-clause-told : goal.returns-clause-told
returns-clause-told c = λ ns tells.
    let chains = c.args.self.now in
    let chain = c.index_mut-chain.result.now in
    let long : length chains ≡ length c.self.inside.chains.items = ap length (sym c.self.view_is) ∙ length-map c.self.inside.chains.items (λ v. v.items) in
    let len : c.len.result ≡ length c.self.inside.chains.items = c.len.ensures ∙ c.self.inside.chains.ok.0 in
    let read = chain_read (λ v. v.items) c.self.inside.chains.items chains c.args.c.0 chain c.self.view_is (omega arith) c.index_mut-chain.ensures.value in
    let kept : c.remove.new.chain.items ≡ filter (λ n. not (nat_eq n.id c.args.id)) (get_or chains c.args.c.0 []) =
    c.remove.ensures ∙ ap (filter (λ n. not (nat_eq n.id c.args.id))) (sym read) in
    subst (λ (cs : List (List Notifier)). Tells cs (without_notifier c.args.c.0 c.args.id ns))
    (sym (chain_written (λ v. v.items) c.self.inside.chains.items chains c.args.c.0 c.remove.new.chain c.self.view_is ∙ ap (set chains c.args.c.0) kept))
    (Tells-without chains c.args.c.0 c.args.id ns tells)

pub invariant_of-self : goal.invariant_of-self
invariant_of-self c =
    let chains = c.args.self.now in
    let all : AreChains chains = subst AreChains c.self.view_is c.self.invariant in
    let chain = c.index_mut-chain.result.now in
    let long : length chains ≡ length c.self.inside.chains.items = ap length (sym c.self.view_is) ∙ length-map c.self.inside.chains.items (λ v. v.items) in
    let len : c.len.result ≡ length c.self.inside.chains.items = c.len.ensures ∙ c.self.inside.chains.ok.0 in
    let read = chain_read (λ v. v.items) c.self.inside.chains.items chains c.args.c.0 chain c.self.view_is (omega arith) c.index_mut-chain.ensures.value in
    subst AreChains (sym (chain_written (λ v. v.items) c.self.inside.chains.items chains c.args.c.0 c.remove.new.chain c.self.view_is))
    (put_kept chains c.args.c.0 c.remove.new.chain.items (subst IsChain (sym c.remove.ensures) (left_kept c.args.id chain.items (subst IsChain read (all c.args.c.0)))) all)

pub returns-clause-kept : goal.returns-clause-kept
returns-clause-kept c = invariant_of-self c
