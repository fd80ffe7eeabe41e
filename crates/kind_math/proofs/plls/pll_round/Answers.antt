use Rattle.std.proofs.Common.{◌≡◌, ◌+◌, ◌-◌, ◌*◌, ◌/◌, ◌<◌, min, max, ap, sym, ◌∙◌, arith}
use Rattle.kind_math.proofs.MultiplierLaws.{multiplier_is, multiplier_test, all_pass, none_above, none_above_greatest}
use Rattle.kind_math.proofs.plls.pll_round.Goals as goal
use Rattle.kind_math.proofs.plls.pll_round.Goals.{then-parent-eq0-via-then-parent-eq0, then-parent-eq0-via-else-parent-eq0+then-rate-eq18446744073709551615}

pub returns-then-parent-eq0 : goal.returns-then-parent-eq0
returns-then-parent-eq0 c =
    sym (all_pass c.args.parent c.args.rate c.args.least c.args.most c.args.m c.requires.range
    (λ n. elim c.then-parent-eq0.branch [
      | then-parent-eq0-via-then-parent-eq0 w ↦
          none_above c.args.parent c.args.rate n c.args.m w.if-parent-eq0.true
      | then-parent-eq0-via-else-parent-eq0+then-rate-eq18446744073709551615 w ↦
          none_above_greatest c.args.parent c.args.rate n c.args.m w.if-rate-eq18446744073709551615.true
    ]))

pub returns : goal.returns
returns c =
    let limit = ((c.args.rate + 1) * c.args.m - 1) / c.args.parent in
    let clamped : c.clamp.result ≡ max c.args.least (min limit c.args.most) =
    c.clamp.ensures
    ∙ ap (λ n. max n (min (((c.from.result + 1) * c.from-2.result - 1) / c.from-3.result) c.from-5.result)) c.from-4.ensures
    ∙ ap (λ n. max c.args.least (min (((c.from.result + 1) * c.from-2.result - 1) / c.from-3.result) n)) c.from-5.ensures
    ∙ ap (λ n. max c.args.least (min (((n + 1) * c.from-2.result - 1) / c.from-3.result) c.args.most)) c.from.ensures
    ∙ ap (λ n. max c.args.least (min (((c.args.rate + 1) * n - 1) / c.from-3.result) c.args.most)) c.from-2.ensures
    ∙ ap (λ n. max c.args.least (min (((c.args.rate + 1) * c.args.m - 1) / n) c.args.most)) c.from-3.ensures
    in
    let some : 0 < c.args.parent = grind (arith, c.if-parent-eq0.false) in
    let small : c.args.rate < 18446744073709551615 = grind (arith, c.if-rate-eq18446744073709551615.false, c.ranges.rate) in
    clamped
    ∙ sym (multiplier_is c.args.parent c.args.rate c.args.least c.args.most c.args.m limit c.requires.range
    (λ n below. multiplier_test c.args.parent c.args.rate n c.args.m some small c.requires.divides))
