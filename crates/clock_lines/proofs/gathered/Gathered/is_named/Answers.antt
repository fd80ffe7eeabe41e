-- The set has the name where a clock has it.
use Rattle.std.proofs.Common.{ap, ◌∙◌}
use Rattle.std.specs.List.{list_any}
use Rattle.std.specs.Str.{bytes_eq}
use Rattle.clock_lines.specs.Section.{names_of}
use Rattle.bundle_text.proofs.Mapped.{list_any-texts}
use Rattle.clock_lines.proofs.gathered.Gathered.is_named.Goals as goal

pub returns : goal.returns
returns c =
    c.contains.ensures
    ∙ (list_any-texts (bytes_eq c.args.name.now) c.self.inside.names.keys
    ∙ ap (list_any (bytes_eq c.args.name.now)) (c.self.invariant ∙ ap names_of c.self.view_is))
