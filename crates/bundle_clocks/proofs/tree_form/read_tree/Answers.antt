use Rattle.std.proofs.Common.{◌≡◌, ◌==◌, true, length, refl, sym, subst, rules, List}
use Rattle.std.specs.List.{All}
use Rattle.dts_tokens.specs.declared.token.Token.{Token}
use Rattle.dts_tokens.specs.Tokens.{IsWhole}
use Rattle.bundle_clocks.proofs.Sources.{no_tokens}
use Rattle.bundle_clocks.proofs.tree_form.read_tree.Goals as goal

pub returns-then-is_empty-clause-fault : goal.returns-then-is_empty-clause-fault
returns-then-is_empty-clause-fault c =
    let empty : (length c.in-Ok.tokens.items == 0) ≡ true = search rules in
    λ version. no_tokens version c.args.first c.args.source.now c.in-Ok.tokens.items _ refl c.in-Ok.ensures.tokens empty

pub parse-requires-clause-whole : goal.parse-requires-clause-whole
parse-requires-clause-whole c = subst (λ (ts : List Token). All (IsWhole c.args.source.now) ts) (sym c.deref.ensures.value) c.in-Ok.ensures.whole
