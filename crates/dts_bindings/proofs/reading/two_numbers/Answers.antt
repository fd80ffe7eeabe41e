use Rattle.std.proofs.Common.{map}
use Rattle.dts_tree.specs.Tree.{seen_value}
use Rattle.dts_bindings.proofs.Joining.{no_numbers, numbers-two_alone}
use Rattle.dts_bindings.proofs.reading.two_numbers.Goals as goal

pub returns-then-not-are_cells : goal.returns-then-not-are_cells
returns-then-not-are_cells c = no_numbers (map seen_value c.args.values.now) (cc)

pub returns : goal.returns
returns c = let e = numbers-two_alone (map seen_value c.args.values.now) (cc) in rw (e, ← c.cell_at.ensures, ← c.cell_at-2.ensures, ← c.cell_at-3.ensures) c.two_alone.ensures
