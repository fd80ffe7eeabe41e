use Rattle.std.proofs.Common.{nat_le, ap, sym, ◌∙◌, arith}
use Rattle.kind_math.specs.Rates.{divisor, div_rate}
use Rattle.kind_math.proofs.DivisorLaws.{setting_is, wanted_of_rate, wanted_of_nothing, wanted_of_zero, setting_gives_back}
use Rattle.kind_math.proofs.dividers.div_setting.Goals as goal
use Rattle.kind_math.proofs.dividers.div_setting.Goals.{then-rate-gt0, else-rate-gt0+then-parent-eq0, else-rate-gt0+else-parent-eq0}

pub returns-clause-value : goal.returns-clause-value
returns-clause-value c =
    c.least_field.ensures.chosen
    ∙ sym (setting_is c.args.style c.args.parent c.args.rate c.args.width c.if-rate-gt0.wanted c.requires
    (λ field divides. elim c.if-rate-gt0.branch [
      | then-rate-gt0 w ↦
          wanted_of_rate c.args.style c.args.parent c.args.rate field w.if-rate-gt0.true divides
          ∙ ap (λ n. nat_le n (divisor c.args.style field)) (sym (w.wanted-is ∙ w.div_ceil-wanted.ensures))
      | else-rate-gt0+then-parent-eq0 w ↦
          wanted_of_nothing c.args.style c.args.parent c.args.rate field (omega arith) w.if-parent-eq0.true divides
          ∙ ap (λ n. nat_le n (divisor c.args.style field)) (sym w.wanted-is)
      | else-rate-gt0+else-parent-eq0 w ↦
          wanted_of_zero c.args.style c.args.parent c.args.rate field (omega arith) (omega arith) divides
          ∙ ap (λ n. nat_le n (divisor c.args.style field)) (sym w.wanted-is)
    ]))

pub returns-clause-gives_back : goal.returns-clause-gives_back
returns-clause-gives_back c field among gives =
    ap (λ f. div_rate c.args.parent f c.args.style) (returns-clause-value c)
    ∙ setting_gives_back c.args.style c.args.parent c.args.rate c.args.width field c.requires among gives
