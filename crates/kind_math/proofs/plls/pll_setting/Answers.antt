use Rattle.std.proofs.Common.{ap, ◌∙◌}
use Rattle.kind_math.specs.Rates.{pll_rate}
use Rattle.kind_math.proofs.MultiplierLaws.{multiplier_gives_back}
use Rattle.kind_math.proofs.plls.pll_setting.Goals as goal

pub returns-clause-gives_back : goal.returns-clause-gives_back
returns-clause-gives_back c n above below gives =
    ap (λ k. pll_rate c.args.parent k c.args.m) c.pll_round.ensures
    ∙ multiplier_gives_back c.args.parent c.args.rate c.args.least c.args.most c.args.m n above below gives
