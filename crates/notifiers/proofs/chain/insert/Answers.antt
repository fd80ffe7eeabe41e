-- The notifier stands in front of the first with a lower priority.
use Rattle.std.proofs.Common.{◌≡◌, ℕ, Option, ap, ◌∙◌, map, length}
use Rattle.std.specs.Prelude.{insert, unwrap_or, position}
use Rattle.std.specs.Int.RustNames.{int_lt}
use Rattle.notifiers.specs.Chains.{row_on}
use Rattle.notifiers.proofs.Chained.{inserted_by_priority}
use Rattle.notifiers.proofs.chain.insert.Goals as goal

pub returns-clause-ok : goal.returns-clause-ok
returns-clause-ok c = λ k.
    let chain = c.args.chain.now.items in
    let n = c.args.notifier in
    let place : c.unwrap_or-place.result ≡ unwrap_or (position (λ m. int_lt m.priority n.priority) chain) (length chain) =
    c.unwrap_or-place.ensures
    ∙ ap (λ (o : Option ℕ). unwrap_or o c.len.result) (c.first_below.ensures ∙ ap (position (λ m. int_lt m.priority n.priority)) c.deref.ensures.value)
    ∙ ap (unwrap_or (position (λ m. int_lt m.priority n.priority) chain)) (c.len.ensures ∙ c.args.chain.now.ok.0) in
    ap (map (row_on k)) c.in_ok-insert.ensures.items
    ∙ ap (λ (p : ℕ). map (row_on k) (insert chain p n)) place
    ∙ inserted_by_priority k n chain
