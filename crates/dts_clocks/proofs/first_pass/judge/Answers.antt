use Rattle.std.proofs.Common.{ap, not, ◌∙◌, map, string_bytes, cond, Some, None}
use Rattle.std.specs.List.{list_all}
use Rattle.bundle_text.specs.Names.{is_clock_name}
use Rattle.dts_bindings.specs.declared.bound.BoundClock.{BoundClock}
use Rattle.dts_bindings.specs.Binding.{seen_binding}
use Rattle.dts_bindings.specs.Clocks.{SeenClock, seen_clock}
use Rattle.dts_clocks.specs.declared.fault.DtsFault.TheVariants.{TwiceNamed}
use Rattle.dts_clocks.specs.FirstPass.{has_twin}
use Rattle.dts_clocks.proofs.Twins.{named_all, fault_over, fault_named, fault_twin}
use Rattle.dts_clocks.proofs.first_pass.judge.Goals as goal

pub returns-then-has_too_many-clause-err : goal.returns-then-has_too_many-clause-err
returns-then-has_too_many-clause-err c =
    fault_over c.args.chart.now c.args.taken.now c.args.line (seen_binding c.args.binding.now) c.has_too_many.result c.has_too_many.ensures c.if-has_too_many.true

pub returns-then-not-are_named-clause-err : goal.returns-then-not-are_named-clause-err
returns-then-not-are_named-clause-err c =
    let named = c.are_named.ensures ∙ (ap (list_all (λ (k : BoundClock). is_clock_name (string_bytes k.name))) c.deref.ensures.value ∙ named_all c.args.binding.now.clocks.items) in
    fault_named c.args.chart.now c.args.taken.now c.args.line (seen_binding c.args.binding.now) c.has_too_many.result c.are_named.result c.has_too_many.ensures named c.if-has_too_many.false c.if-not-are_named.true

pub returns-then-not-branch-clause-err : goal.returns-then-not-branch-clause-err
returns-then-not-branch-clause-err c =
    let named = c.are_named.ensures ∙ (ap (list_all (λ (k : BoundClock). is_clock_name (string_bytes k.name))) c.deref.ensures.value ∙ named_all c.args.binding.now.clocks.items) in
    let fresh = c.in_ok-take_names.ensures.fresh ∙ ap (λ ks. not (has_twin c.args.taken.now (map (λ (k : SeenClock). k.name) (map seen_clock ks)))) c.deref-2.ensures.value in
    fault_twin c.args.chart.now c.args.taken.now c.args.line (seen_binding c.args.binding.now) c.has_too_many.result c.are_named.result _ c.has_too_many.ensures named fresh c.if-has_too_many.false c.if-not-are_named.false
    ∙ ap (λ b. cond b None (Some (TwiceNamed c.args.line))) c.if-not-branch.true

pub returns-clause-none : goal.returns-clause-none
returns-clause-none c =
    let named = c.are_named.ensures ∙ (ap (list_all (λ (k : BoundClock). is_clock_name (string_bytes k.name))) c.deref.ensures.value ∙ named_all c.args.binding.now.clocks.items) in
    let fresh = c.in_ok-take_names.ensures.fresh ∙ ap (λ ks. not (has_twin c.args.taken.now (map (λ (k : SeenClock). k.name) (map seen_clock ks)))) c.deref-2.ensures.value in
    fault_twin c.args.chart.now c.args.taken.now c.args.line (seen_binding c.args.binding.now) c.has_too_many.result c.are_named.result _ c.has_too_many.ensures named fresh c.if-has_too_many.false c.if-not-are_named.false
    ∙ ap (λ b. cond b None (Some (TwiceNamed c.args.line))) c.if-not-branch.false
