use Rattle.std.proofs.Common.{◌∙◌, sym, ap}
use Rattle.std.specs.Option.{option_map}
use Rattle.core_parts.proofs.visits.rate_above.Goals as goal

pub rate-requires : goal.rate-requires
rate-requires c = record { place = c.requires.links.lie c.args.clock.0 c.in-Some.parent.0 (sym c.parent.ensures.link ∙ ap (option_map (λ p. p.0)) c.in-Some.is) }
