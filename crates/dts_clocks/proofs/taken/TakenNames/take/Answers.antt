use Rattle.std.proofs.Common.{ap, sym, not, ◌∙◌, ◌++◌, ◌∷◌, []}
use Rattle.dts_clocks.proofs.Twins.{taken_by, texts_more}
use Rattle.dts_clocks.proofs.taken.TakenNames.take.Goals as goal

pub returns-then-contains-clause-fresh : goal.returns-then-contains-clause-fresh
returns-then-contains-clause-fresh c =
    sym (ap not (taken_by c.self.inside.names.keys c.args.self.now c.args.name.now c.contains.result c.self.view_is c.contains.ensures ∙ c.if-contains.true))

pub returns-clause-fresh : goal.returns-clause-fresh
returns-clause-fresh c =
    sym (ap not (taken_by c.self.inside.names.keys c.args.self.now c.args.name.now c.contains.result c.self.view_is c.contains.ensures ∙ c.if-contains.false))

pub returns-clause-taken : goal.returns-clause-taken
returns-clause-taken c =
    texts_more c.self.inside.names.keys c.insert.new.self.keys c.in_ok-own.own c.args.name.now c.contains.result c.in_ok-own.ensures.ok c.contains.ensures c.if-contains.false c.in_ok-insert.ensures.keys
    ∙ ap (λ ts. ts ++ c.args.name.now ∷ []) c.self.view_is
