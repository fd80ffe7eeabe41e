-- The record is there where the parents are found.
use Rattle.std.proofs.Common.{sym, ap, ◌∙◌}
use Rattle.clock_lines.specs.Steps.{places_in}
use Rattle.clock_lines.proofs.Looked.{def_found, def_missing}
use Rattle.clock_lines.proofs.described.def_of.Goals as goal

pub returns-in_default : goal.returns-in_default
returns-in_default c =
    def_missing c.args.gathered.now c.args.clock.now (sym c.in_default.is ∙ (c.in_ok-parents.ensures ∙ ap (places_in c.args.gathered.now) c.parents.ensures))

pub returns : goal.returns
returns c =
    def_found c.args.gathered.now c.args.clock.now c.in-Some.parents c.in_ok-def.def
    (sym c.in-Some.is ∙ (c.in_ok-parents.ensures ∙ ap (places_in c.args.gathered.now) c.parents.ensures)) c.in_ok-def.ensures
