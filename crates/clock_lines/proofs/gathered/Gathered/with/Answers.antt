-- The set gets the name with the clock.
use Rattle.std.proofs.Common.{refl, ap, ◌∙◌}
use Rattle.clock_lines.specs.Section.{is_named}
use Rattle.clock_lines.proofs.Grown.{names-push}
use Rattle.clock_lines.proofs.gathered.Gathered.with.Goals as goal

pub invariant_of-result : goal.invariant_of-result
invariant_of-result c =
    names-push c.self.inside.names.keys c.insert.new.self.keys c.args.line.name c.self.inside.clocks.items c.push.new.self.items _ c.self.invariant
    (ap (λ clocks. is_named clocks c.args.line.name.now) c.self.view_is ∙ c.requires) refl c.in_ok-insert.ensures.keys c.in_ok-push.ensures.items
