use Rattle.std.proofs.Common.{ap, sym, ◌∙◌, cond, Some, None}
use Rattle.std.specs.List.{list_all}
use Rattle.std.specs.Option.{option_map}
use Rattle.clk_base.specs.Valid.{can_have_parents}
use Rattle.dts_bindings.specs.declared.bound.BoundClock.{BoundClock}
use Rattle.dts_clocks.specs.Clocks.{clocks_named}
use Rattle.dts_clocks.specs.SecondPass.{all_there}
use Rattle.dts_clocks.proofs.Linking.{parents_fit}
use Rattle.dts_clocks.proofs.second_pass.parents_of.Goals as goal

pub returns-then-not-can_each_have : goal.returns-then-not-can_each_have
returns-then-not-can_each_have c =
    let named = ap (option_map (λ v. v.items)) (sym c.in-Some.is) ∙ (c.in_ok-clocks.ensures ∙ ap (clocks_named c.args.chart.now) c.deref.ensures.value) in
    let there = ap (option_map (λ v. v.items)) (sym c.in-Some-2.is) ∙ (c.in_ok-parents.ensures ∙ ap all_there c.deref-2.ensures.value) in
    let fits = c.can_each_have.ensures ∙ ap (list_all (λ (k : BoundClock). can_have_parents k.kind c.len.result)) c.deref-3.ensures.value in
    ap (λ b. cond b (Some c.in-Some-2.parents.items) None) (sym c.if-not-can_each_have.true)
    ∙ parents_fit c.args.chart.now c.args.binding.now c.in-Some.clocks.items c.in-Some-2.parents.items c.len.result c.can_each_have.result named there (c.len.ensures ∙ c.in-Some-2.parents.ok.0) fits

pub returns : goal.returns
returns c =
    let named = ap (option_map (λ v. v.items)) (sym c.in-Some.is) ∙ (c.in_ok-clocks.ensures ∙ ap (clocks_named c.args.chart.now) c.deref.ensures.value) in
    let there = ap (option_map (λ v. v.items)) (sym c.in-Some-2.is) ∙ (c.in_ok-parents.ensures ∙ ap all_there c.deref-2.ensures.value) in
    let fits = c.can_each_have.ensures ∙ ap (list_all (λ (k : BoundClock). can_have_parents k.kind c.len.result)) c.deref-3.ensures.value in
    ap (λ b. cond b (Some c.in-Some-2.parents.items) None) (sym c.if-not-can_each_have.false)
    ∙ parents_fit c.args.chart.now c.args.binding.now c.in-Some.clocks.items c.in-Some-2.parents.items c.len.result c.can_each_have.result named there (c.len.ensures ∙ c.in-Some-2.parents.ok.0) fits
