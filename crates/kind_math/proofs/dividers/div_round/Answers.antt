use Rattle.std.proofs.Common.{◌+◌, ◌<◌, ap, sym, subst, ◌∙◌, arith}
use Rattle.std.specs.Int.{div_ceil}
use Rattle.std.proofs.lemmas.Nat.{one_shl}
use Rattle.kind_math.specs.Dividers.{IsDividerWidth}
use Rattle.kind_math.proofs.DivisorLaws.{pow-le-32, divisor_plain, divisor_one_based, divisor_power, round_taken}
use Rattle.kind_math.proofs.dividers.div_round.Goals as goal

pub overflow_shl-result : goal.overflow_shl-result
overflow_shl-result c =
    let width = subst (λ s. IsDividerWidth s c.args.width) c.in-PowerOfTwo.is c.requires in
    let top = pow-le-32 c.args.width width.1 in
    omega (arith, top, c.least_field-field.ensures.small)

pub returns-in-Plain : goal.returns-in-Plain
returns-in-Plain c =
    let taken = round_taken c.args.style c.args.parent c.args.rate c.args.width c.div_ceil.result c.least_field-field.result
    c.requires (c.div_ceil.ensures ∙ ap (div_ceil c.args.parent) c.max.ensures) c.least_field-field.ensures.chosen in
    ap (λ n. n + 1) c.from.ensures ∙ sym (divisor_plain c.args.style c.least_field-field.result c.in-Plain.is) ∙ taken

pub returns-in-OneBased : goal.returns-in-OneBased
returns-in-OneBased c =
    let taken = round_taken c.args.style c.args.parent c.args.rate c.args.width c.div_ceil.result c.least_field-field.result
    c.requires (c.div_ceil.ensures ∙ ap (div_ceil c.args.parent) c.max.ensures) c.least_field-field.ensures.chosen in
    c.from-in-OneBased.ensures ∙ sym (divisor_one_based c.args.style c.least_field-field.result c.in-OneBased.is) ∙ taken

pub returns-in-PowerOfTwo : goal.returns-in-PowerOfTwo
returns-in-PowerOfTwo c =
    let width = subst (λ s. IsDividerWidth s c.args.width) c.in-PowerOfTwo.is c.requires in
    let top = pow-le-32 c.args.width width.1 in
    let small : c.least_field-field.result < 64 = omega (arith, top, c.least_field-field.ensures.small) in
    let taken = round_taken c.args.style c.args.parent c.args.rate c.args.width c.div_ceil.result c.least_field-field.result
    c.requires (c.div_ceil.ensures ∙ ap (div_ceil c.args.parent) c.max.ensures) c.least_field-field.ensures.chosen in
    one_shl c.least_field-field.result 64 small
    ∙ sym (divisor_power c.args.style c.least_field-field.result c.in-PowerOfTwo.is) ∙ taken
