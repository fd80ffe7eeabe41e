use Rattle.std.proofs.Common.{refl, sym, ◌∙◌}
use Rattle.dts_tree.specs.Taken.{is_taken, same_name, taken_of, name_in}
use Rattle.dts_tree.proofs.Taking.{list_any-map}
use Rattle.dts_tree.proofs.names.note.Goals as goal

pub returns-then-contains-clause-err : goal.returns-then-contains-clause-err
unfolding is_taken
returns-then-contains-clause-err c =
    (refl, list_any-map (same_name (name_in c.args.scope c.args.text.now)) taken_of c.args.taken.now.keys ∙ (sym c.contains.ensures ∙ c.if-contains.true))

pub returns-clause-new : goal.returns-clause-new
unfolding is_taken
returns-clause-new c =
    list_any-map (same_name (name_in c.args.scope c.args.text.now)) taken_of c.args.taken.now.keys ∙ (sym c.contains.ensures ∙ c.if-contains.false)
