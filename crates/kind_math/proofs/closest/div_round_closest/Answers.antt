use Rattle.std.proofs.Common.{ap, ◌∙◌, nat_le}
use Rattle.kind_math.specs.Rates.{divisor}
use Rattle.kind_math.specs.Closest.{nearer}
use Rattle.kind_math.specs.Dividers.{valid_fields, least_or_greatest}
use Rattle.kind_math.proofs.NearestFields.{round_closest}
use Rattle.kind_math.proofs.closest.div_round_closest.Goals as goal

pub returns : goal.returns
returns c =
    c.div_round.ensures
    ∙ round_closest c.args.style c.args.width c.args.parent c.args.rate c.max-wanted.result c.least_field-field.result c.field_before.result c.nearer.result
    c.requires c.max-wanted.ensures
    (c.least_field-field.ensures.chosen
    ∙ ap (λ w. least_or_greatest (λ f. nat_le w (divisor c.args.style f)) (valid_fields c.args.style c.args.width)) c.div_ceil.ensures)
    c.field_before.ensures
    (c.nearer.ensures
    ∙ ap (λ r. nearer c.max-wanted.result r c.div_rate-high.result) c.div_rate-low.ensures
    ∙ ap (nearer c.max-wanted.result _) c.div_rate-high.ensures)
