use Rattle.std.proofs.Common.{◌≡◌, ◌∙◌, ◌++◌, [], All, IfOk, Ok, get_or, subst, arith}
use Rattle.std.proofs.lemmas.List.{append-nil, at_drop_all}
use Rattle.dts_tokens.specs.declared.token.Token.{Token}
use Rattle.dts_tree.specs.declared.names.Place.{Place}
use Rattle.dts_tree.specs.Grown.{◌>>=◌}
use Rattle.dts_tree.specs.Held.{IsNumber}
use Rattle.dts_tree.specs.Read.{targets}
use Rattle.dts_tree.proofs.Holding.{targets-number}
use Rattle.dts_tree.proofs.References.{target-some, target-none, targets-more, targets-none}
use Rattle.dts_tree.proofs.targets.targets.Goals as goal

pub returns-in_default-clause-fault : goal.returns-in_default-clause-fault
returns-in_default-clause-fault c =
    let d : Token = record { from = 0; to = 0; line = 0 } in
    let q : Place = record { scope = 0; text = c.text_of.result } in
    let means = target-none c.args.text.now c.args.labels.now (get_or c.args.references.now c.loop-reference.reference-index d) c.text_of.result.now c.text_of.ensures (c.in_default.ensures.value ∙ c.in_ok-nodes.ensures.nodes q) in
    targets-none c.args.text.now c.args.labels.now c.args.references.now c.loop-reference.found.items c.loop-reference.reference-index _ d (omega arith) means c.loop-reference.invariant

pub loop-reference-preserved : goal.loop-reference-preserved
loop-reference-preserved c =
    let d : Token = record { from = 0; to = 0; line = 0 } in
    let q : Place = record { scope = 0; text = c.text_of.result } in
    let means = target-some c.args.text.now c.args.labels.now (get_or c.args.references.now c.loop-reference.reference-index d) c.text_of.result.now c.in-Some.node.now c.text_of.ensures (c.in-Some.ensures.value ∙ c.in_ok-nodes.ensures.nodes q) in
    rw c.in_ok-push.ensures.items (targets-more c.args.text.now c.args.labels.now c.args.references.now c.loop-reference.found.items c.loop-reference.reference-index c.in-Some.node.now d (omega arith) means c.loop-reference.invariant)

pub returns-clause-numbers : goal.returns-clause-numbers
returns-clause-numbers c =
    let text = c.args.text.now in
    let labels = c.args.labels.now in
    let found = c.loop-reference.found.items in
    let all : targets text labels c.args.references.now ≡ Ok (found ++ []) =
    c.loop-reference.invariant ∙ at_drop_all (λ ts. targets text labels ts >>= λ nodes. Ok (found ++ nodes)) c.args.references.now c.loop-reference.reference-index (omega arith) in
    subst (All IsNumber) (append-nil found) (subst (λ r. IfOk r (All IsNumber)) all (targets-number text labels c.args.references.now c.requires))
