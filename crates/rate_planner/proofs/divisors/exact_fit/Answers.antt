-- The divisor that is taken is the one that fits, or none does.
use Rattle.std.proofs.Common.{◌≡◌, ◌*◌, ◌<◌, Some, sym, ap, subst, ◌∙◌, arith}
use Rattle.rate_planner.proofs.DivisorChoice.{fit_found, fit_missed, round_divides}
use Rattle.rate_planner.proofs.divisors.exact_fit.Goals as goal

pub returns-then-product-parent-clause-fit : goal.returns-then-product-parent-clause-fit
returns-then-product-parent-clause-fit c =
    let told = c.in-Some.ensures in
    ap (λ d. Some d) c.div_round-divisor.ensures
    ∙ fit_found c.args.style c.args.x c.args.parent c.args.width c.requires.right c.requires.some (omega arith)
    (sym (ap (λ d. c.args.x * d) c.div_round-divisor.ensures) ∙ sym told.1 ∙ c.if-product-parent.true)

pub returns-then-product-parent-clause-divides : goal.returns-then-product-parent-clause-divides
returns-then-product-parent-clause-divides c =
    subst (λ n. 0 < n) (sym c.div_round-divisor.ensures) (round_divides c.args.style c.args.parent c.args.x c.args.width c.requires.right)

pub returns-else-product-parent-clause-fit : goal.returns-else-product-parent-clause-fit
returns-else-product-parent-clause-fit c =
    let told = c.in-Some.ensures in
    fit_missed c.args.style c.args.x c.args.parent c.args.width c.requires.right c.requires.some (omega arith)
    (λ fits. c.if-product-parent.false (told.1 ∙ ap (λ d. c.args.x * d) c.div_round-divisor.ensures ∙ fits))

pub returns-in-None-clause-fit : goal.returns-in-None-clause-fit
returns-in-None-clause-fit c =
    fit_missed c.args.style c.args.x c.args.parent c.args.width c.requires.right c.requires.some (omega arith)
    (λ fits.
    let same : c.args.x * c.div_round-divisor.result ≡ c.args.parent = ap (λ d. c.args.x * d) c.div_round-divisor.ensures ∙ fits in
    let wraps = c.in-None.ensures in omega arith)
