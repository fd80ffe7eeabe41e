-- The number fits the field.
use Rattle.std.proofs.Common.{◌^◌, ◌<◌, sym, ap, subst, ◌∙◌, arith}
use Rattle.std.specs.Prelude.{IfSome}
use Rattle.clk_base.specs.declared.clock.Kind.{Kind}
use Rattle.clk_base.specs.Fields.{field_of}
use Rattle.kind_math.specs.Dividers.{div_setting}
use Rattle.clk_model.proofs.SettingLaws.{pll_multiplier-le}
use Rattle.clk_model.specs.Rate.{style_of}
use Rattle.clk_model.proofs.SettingLaws.{div_setting-fits}
use Rattle.rate_planner.proofs.settings.setting.Goals as goal

pub returns-in-Divider-clause-fits : goal.returns-in-Divider-clause-fits
returns-in-Divider-clause-fits c =
    subst (λ (kind : Kind). IfSome (field_of kind) (λ f. c.div_setting.result < 2 ^ f.width)) (sym c.in-Divider.is ∙ c.kind_in.ensures.kind)
    (subst (λ n. n < 2 ^ c.in-Divider.width)
    (sym (c.div_setting.ensures.value ∙ ap (div_setting c.args.parent c.args.rate c.in-Divider.width) c.style_of.ensures))
    (div_setting-fits (style_of c.in-Divider.one_based c.in-Divider.power_of_two) c.args.parent c.args.rate c.in-Divider.width c.in-Divider.ensures.scales))

pub returns-in-Pll-clause-fits : goal.returns-in-Pll-clause-fits
returns-in-Pll-clause-fits c =
    let scales = c.in-Pll.ensures.scales in
    let le = pll_multiplier-le c.args.parent c.args.rate c.in-Pll.least c.in-Pll.most c.in-Pll.m scales.0 in
    let below = scales.2 in
    subst (λ (kind : Kind). IfSome (field_of kind) (λ f. c.pll_setting.result < 2 ^ f.width)) (sym c.in-Pll.is ∙ c.kind_in.ensures.kind)
    (subst (λ n. n < 2 ^ c.in-Pll.width) (sym c.pll_setting.ensures.value) (omega arith))
