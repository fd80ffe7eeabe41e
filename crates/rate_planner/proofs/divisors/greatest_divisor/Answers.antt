-- The greatest divisor is that of the last field.
use Rattle.std.proofs.Common.{◌-◌, ◌≤◌, ap, sym, subst, ◌∙◌}
use Rattle.kind_math.specs.Rates.{divisor}
use Rattle.rate_planner.specs.Divisors.{first_field}
use Rattle.rate_planner.proofs.DivisorChoice.{greatest_is, last_field}
use Rattle.rate_planner.proofs.divisors.greatest_divisor.Goals as goal

pub divisor_of-requires-clause-first : goal.divisor_of-requires-clause-first
divisor_of-requires-clause-first c =
    subst (λ n. first_field c.args.style ≤ n - 1) (sym c.end_of_fields.ensures) (last_field c.args.style c.args.width c.requires.right)

pub returns-clause-greatest : goal.returns-clause-greatest
returns-clause-greatest c =
    c.divisor_of.ensures.value ∙ ap (λ n. divisor c.args.style (n - 1)) c.end_of_fields.ensures ∙ greatest_is c.args.style c.args.width c.requires.right
