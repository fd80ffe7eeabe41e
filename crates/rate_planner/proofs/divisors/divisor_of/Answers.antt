-- What a field of each style divides by.
use Rattle.std.proofs.Common.{◌≡◌, ◌+◌, ◌*◌, ◌%◌, ◌^◌, ◌<◌, ap, sym, subst, ◌∙◌, arith}
use Rattle.std.proofs.lemmas.Nat.{one_shl}
use Rattle.kind_math.specs.Dividers.{IsDividerWidth}
use Rattle.kind_math.specs.Rates.{divisor}
use Rattle.kind_math.proofs.DivisorLaws.{pow-le-32, divisor_plain, divisor_one_based, divisor_power}
use Rattle.rate_planner.proofs.DivisorChoice.{divides_some}
use Rattle.rate_planner.proofs.divisors.divisor_of.Goals as goal

pub overflow_shl-result : goal.overflow_shl-result
overflow_shl-result c =
    let width = subst (λ s. IsDividerWidth s c.args.width) c.in-PowerOfTwo.is c.requires.right in
    let top = pow-le-32 c.args.width width.1 in
    omega (arith, top, c.requires.fits)

pub returns-in-Plain : goal.returns-in-Plain
returns-in-Plain c =
    let value : c.from.result + 1 ≡ divisor c.args.style c.args.field = ap (λ n. n + 1) c.from.ensures ∙ sym (divisor_plain c.args.style c.args.field c.in-Plain.is) in
    record { value = value; divides = subst (λ n. 0 < n) (sym value) (divides_some c.args.style c.args.field c.requires.first) }

pub returns-in-OneBased : goal.returns-in-OneBased
returns-in-OneBased c =
    let value : c.from-in-OneBased.result ≡ divisor c.args.style c.args.field = c.from-in-OneBased.ensures ∙ sym (divisor_one_based c.args.style c.args.field c.in-OneBased.is) in
    record { value = value; divides = subst (λ n. 0 < n) (sym value) (divides_some c.args.style c.args.field c.requires.first) }

pub returns-in-PowerOfTwo : goal.returns-in-PowerOfTwo
returns-in-PowerOfTwo c =
    let width = subst (λ s. IsDividerWidth s c.args.width) c.in-PowerOfTwo.is c.requires.right in
    let top = pow-le-32 c.args.width width.1 in
    let small : c.args.field < 64 = omega (arith, top, c.requires.fits) in
    let value : 1 * 2 ^ c.args.field % 18446744073709551616 ≡ divisor c.args.style c.args.field = one_shl c.args.field 64 small ∙ sym (divisor_power c.args.style c.args.field c.in-PowerOfTwo.is) in
    record { value = value; divides = subst (λ n. 0 < n) (sym value) (divides_some c.args.style c.args.field c.requires.first) }
