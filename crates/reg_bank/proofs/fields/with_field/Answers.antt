use Rattle.std.proofs.Common.{◌<◌, ◌^◌, ◌∙◌, ap, sym, subst, arith}
use Rattle.reg_bank.specs.Registers.{with_bits}
use Rattle.reg_bank.proofs.Masks.{field_by_shifts, with_bits-fits}
use Rattle.reg_bank.proofs.fields.with_field.Goals as goal

pub returns : goal.returns
returns c =
    let small : c.from.result < 2 ^ c.args.width = subst (λ n. n < 2 ^ c.args.width) (sym c.from.ensures) c.requires.fits in
    field_by_shifts c.from-old.result c.args.shift c.args.width c.from.result (omega arith) c.requires.inside small
    ∙ ap (λ n. with_bits n c.args.shift c.args.width c.from.result) c.from-old.ensures
    ∙ ap (λ n. with_bits c.args.value c.args.shift c.args.width n) c.from.ensures

pub overflow_cast-result-2 : goal.overflow_cast-result-2
overflow_cast-result-2 c =
    let whole = returns c in
    let fits = with_bits-fits c.args.value c.args.shift c.args.width c.args.number (omega arith) c.requires.inside c.requires.fits in
    let small = subst (λ n. n < 2 ^ 32) (sym whole) fits in
    omega (arith, small)
