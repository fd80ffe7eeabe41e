-- The id and the length of a chain are those of its rows on any clock.
use Rattle.std.proofs.Common.{◌≡◌, ℕ, Bool, true, false, sym, ◌∙◌, arith, map, nat_eq, List}
use Rattle.std.specs.List.{list_any}
use Rattle.std.proofs.lemmas.List.{length-map}
use Rattle.notifiers.specs.declared.notifier.Notifier.{Notifier}
use Rattle.notifiers.specs.Chains.{row_on, has_id}
use Rattle.notifiers.proofs.Chained.{has_id-chain}
use Rattle.notifiers.proofs.chain.check.Goals as goal

-- the id as it was asked for
asked : (id k : ℕ) (answer : Bool) (items : List Notifier) → answer ≡ list_any (λ other. nat_eq other.id id) items → has_id id (map (row_on k) items) ≡ answer
asked id k answer items told = has_id-chain id k items ∙ sym told

pub returns-then-has_id : goal.returns-then-has_id
returns-then-has_id c = record {
  can = λ k. tt;
  why = λ k. asked c.args.id k true c.args.chain.now c.if-has_id.ensures;
}

pub returns-then-chain-ge-MOST-clause-why : goal.returns-then-chain-ge-MOST-clause-why
returns-then-chain-ge-MOST-clause-why c = λ k.
    let mapped = length-map c.args.chain.now (row_on k) in
    (asked c.args.id k false c.args.chain.now c.if-has_id.ensures, omega arith)

pub returns : goal.returns
returns c = record {
  can = λ k. let mapped = length-map c.args.chain.now (row_on k) in (asked c.args.id k false c.args.chain.now c.if-has_id.ensures, omega arith);
  why = λ k. tt;
}
