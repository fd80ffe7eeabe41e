use Rattle.std.proofs.Common.{map}
use Rattle.dts_tree.specs.Tree.{seen_value}
use Rattle.dts_bindings.proofs.Joining.{no_number, number-alone}
use Rattle.dts_bindings.proofs.reading.one_number.Goals as goal

pub returns-then-not-are_cells : goal.returns-then-not-are_cells
returns-then-not-are_cells c = no_number (map seen_value c.args.values.now) (cc)

pub returns : goal.returns
returns c = let e = number-alone (map seen_value c.args.values.now) (cc) in rw (e, ← c.cell_at.ensures, ← c.cell_at-2.ensures) c.alone.ensures
