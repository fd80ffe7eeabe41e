use Rattle.std.proofs.Common.{◌∙◌, ap, length, arith}
use Rattle.bundle_clocks.proofs.Sources.{source_room}
use Rattle.bundle_clocks.proofs.tree_form.read_tree_form.Goals as goal

pub read_source-requires : goal.read_source-requires
read_source-requires c =
    let whole = c.deref.ensures ∙ c.in_ok-source.ensures in
    omega (arith, ap length whole, source_room c.args.lines.now c.args.section c.requires.order c.requires.within c.requires.room)
