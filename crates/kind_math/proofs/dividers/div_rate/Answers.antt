use Rattle.std.proofs.Common.{◌+◌, ◌^◌, ap, sym, ◌∙◌, arith}
use Rattle.std.specs.Int.{div_ceil}
use Rattle.std.proofs.Math.Nat.{pow-le-pow_right}
use Rattle.std.proofs.lemmas.Nat.{pow_pos, one_shl}
use Rattle.kind_math.proofs.DivisorLaws.{divisor_plain, divisor_one_based, divisor_power, div_rate_by, div_rate_leaves, div_ceil_beyond}
use Rattle.kind_math.proofs.dividers.div_rate.Goals as goal

pub returns-in-Plain : goal.returns-in-Plain
returns-in-Plain c =
    div_rate_by c.args.style c.args.parent c.args.field (c.args.field + 1) c.quotient_up.result
    (divisor_plain c.args.style c.args.field c.in-Plain.is) (omega arith)
    (c.quotient_up.ensures ∙ ap (λ n. div_ceil c.args.parent (n + 1)) c.from.ensures)

pub returns-then-field-eq0 : goal.returns-then-field-eq0
returns-then-field-eq0 c =
    sym (div_rate_leaves c.args.style c.args.parent c.args.field
    (divisor_one_based c.args.style c.args.field c.in-OneBased.is ∙ c.if-field-eq0.true))

pub returns-else-field-eq0 : goal.returns-else-field-eq0
returns-else-field-eq0 c =
    div_rate_by c.args.style c.args.parent c.args.field c.args.field c.quotient_up-else-field-eq0.result
    (divisor_one_based c.args.style c.args.field c.in-OneBased.is) (omega arith)
    (c.quotient_up-else-field-eq0.ensures ∙ ap (div_ceil c.args.parent) c.from-else-field-eq0.ensures)

pub returns-then-field-lt64 : goal.returns-then-field-lt64
returns-then-field-lt64 c =
    div_rate_by c.args.style c.args.parent c.args.field (2 ^ c.args.field) c.quotient_up-then-field-lt64.result
    (divisor_power c.args.style c.args.field c.in-PowerOfTwo.is) (pow_pos c.args.field)
    (c.quotient_up-then-field-lt64.ensures ∙ ap (div_ceil c.args.parent) (one_shl c.args.field 64 c.if-field-lt64.true))

pub returns-else-field-lt64 : goal.returns-else-field-lt64
returns-else-field-lt64 c =
    let more = pow-le-pow_right {n = 2} (omega arith) {i = 64} {j = c.args.field} c.if-field-lt64.false in
    div_rate_by c.args.style c.args.parent c.args.field (2 ^ c.args.field) c.min.result
    (divisor_power c.args.style c.args.field c.in-PowerOfTwo.is) (pow_pos c.args.field)
    (c.min.ensures ∙ sym (div_ceil_beyond c.args.parent (2 ^ c.args.field) (omega (arith, more))))
