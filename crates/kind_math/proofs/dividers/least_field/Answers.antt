use Rattle.std.proofs.Common.{◌^◌, ◌≤◌, min, ap, sym, subst, ◌∙◌}
use Rattle.kind_math.proofs.DivisorLaws.{least_plain, least_one_based, least_power}
use Rattle.kind_math.proofs.dividers.least_field.Goals as goal
use Rattle.kind_math.proofs.dividers.least_field.Goals.{in-Plain, in-OneBased, in-PowerOfTwo}

pub returns-clause-chosen : goal.returns-clause-chosen
returns-clause-chosen c =
    c.min.ensures ∙ ap (min c.match-style.wanted_field) c.from.ensures
    ∙ elim c.match-style.branch [
      | in-Plain w ↦ least_plain c.args.style c.args.wanted c.args.width c.last_field-last.result c.match-style.wanted_field
          w.in-Plain.is c.requires c.last_field-last.ensures (w.wanted_field-is ∙ w.saturating_sub-wanted_field.ensures)
      | in-OneBased w ↦ least_one_based c.args.style c.args.wanted c.args.width c.last_field-last.result c.match-style.wanted_field
          w.in-OneBased.is c.requires c.last_field-last.ensures (w.wanted_field-is ∙ w.max-wanted_field.ensures)
      | in-PowerOfTwo w ↦
          let is = w.wanted_field-is ∙ w.from-wanted_field.ensures in
          least_power c.args.style c.args.wanted c.args.width c.last_field-last.result c.match-style.wanted_field
          w.in-PowerOfTwo.is c.last_field-last.ensures
          (subst (λ n. c.args.wanted ≤ 2 ^ n) (sym is) w.exponent.ensures.reaches)
          (λ k h. subst (λ n. n ≤ k) (sym is) (w.exponent.ensures.least k h))
    ]
