use Rattle.std.proofs.Common.{◌<◌, ◌^◌, ◌∙◌, ap, sym, subst, arith}
use Rattle.reg_bank.specs.Registers.{bits_of}
use Rattle.reg_bank.proofs.NumberLaws.{bits_of-lt}
use Rattle.reg_bank.proofs.Masks.{field_by_mask}
use Rattle.reg_bank.proofs.fields.field_of.Goals as goal

pub returns-clause-value : goal.returns-clause-value
returns-clause-value c =
    field_by_mask c.from.result c.args.shift c.args.width (omega arith)
    ∙ ap (λ n. bits_of n c.args.shift c.args.width) c.from.ensures

pub returns-clause-small : goal.returns-clause-small
returns-clause-small c =
    subst (λ n. n < 2 ^ c.args.width) (sym (returns-clause-value c)) (bits_of-lt c.args.value c.args.shift c.args.width)
