-- The record has the clock's name.
use Rattle.std.proofs.Common.{sym, ap, ◌∙◌}
use Rattle.clk_base.specs.Description.{has_name}
use Rattle.clock_lines.proofs.Looked.{def_name}
use Rattle.clock_lines.proofs.described.with_clock.Goals as goal

pub with_def-requires-clause-apart : goal.with_def-requires-clause-apart
with_def-requires-clause-apart c =
    ap (has_name c.args.desc) (def_name c.args.gathered.now c.args.clock.now _ c.in-Some.def (sym c.in-Some.is ∙ c.in_ok-def.ensures)) ∙ c.requires.apart
