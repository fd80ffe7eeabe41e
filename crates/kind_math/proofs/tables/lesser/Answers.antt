use Rattle.std.proofs.Common.{◌∷◌, Some, nat_le, sym, ◌∙◌, ap, arith}
use Rattle.std.proofs.lemmas.Bool.{le-leb, lt-leb}
use Rattle.kind_math.specs.Tables.{lesser}
use Rattle.kind_math.proofs.TableLaws.{lesser_skips, lesser_first, lesser_takes}
use Rattle.kind_math.proofs.tables.lesser.Goals as goal

pub returns-then-from-wanted : goal.returns-then-from-wanted
returns-then-from-wanted c divisors =
    lesser_skips (λ d. nat_le c.args.wanted d) c.args.found c.args.div divisors (lt-leb c.args.wanted c.args.div (omega arith))

pub returns-in-Some : goal.returns-in-Some
returns-in-Some c divisors =
    ap (λ n. lesser (λ d. nat_le c.args.wanted d) (Some n) divisors) c.min.ensures
    ∙ lesser_takes (λ d. nat_le c.args.wanted d) c.in-Some.other c.args.div divisors (le-leb c.args.wanted c.args.div (omega arith))
    ∙ ap (λ o. lesser (λ d. nat_le c.args.wanted d) o (c.args.div ∷ divisors)) (sym c.in-Some.is)

pub returns-in-None : goal.returns-in-None
returns-in-None c divisors =
    lesser_first (λ d. nat_le c.args.wanted d) c.args.div divisors (le-leb c.args.wanted c.args.div (omega arith))
    ∙ ap (λ o. lesser (λ d. nat_le c.args.wanted d) o (c.args.div ∷ divisors)) (sym c.in-None.is)
