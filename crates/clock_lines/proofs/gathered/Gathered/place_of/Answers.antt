-- The set's index of a name is the place of the clock.
use Rattle.std.proofs.Common.{ap, ◌∙◌}
use Rattle.std.specs.List.{position}
use Rattle.std.specs.Str.{bytes_eq}
use Rattle.clock_lines.specs.Section.{names_of}
use Rattle.bundle_text.proofs.Mapped.{position-texts}
use Rattle.clock_lines.proofs.gathered.Gathered.place_of.Goals as goal

pub returns-in-None : goal.returns-in-None
returns-in-None c =
    c.in-None.ensures.index
    ∙ (position-texts (bytes_eq c.args.name.now) c.self.inside.names.keys
    ∙ ap (position (bytes_eq c.args.name.now)) (c.self.invariant ∙ ap names_of c.self.view_is))

pub returns-in-Some : goal.returns-in-Some
returns-in-Some c =
    c.in-Some.ensures.index
    ∙ (position-texts (bytes_eq c.args.name.now) c.self.inside.names.keys
    ∙ ap (position (bytes_eq c.args.name.now)) (c.self.invariant ∙ ap names_of c.self.view_is))
