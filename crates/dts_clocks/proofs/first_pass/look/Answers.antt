use Rattle.std.proofs.Common.{◌≡◌, sym, ◌∙◌, subst, IfOk, OnOk, IfErr, None}
use Rattle.std.specs.Option.{option_map}
use Rattle.dts_bindings.specs.Binding.{seen_binding}
use Rattle.dts_clocks.specs.Faults.{Tells}
use Rattle.dts_clocks.proofs.Looks.{binding_at-passed, binding_at-node, first_fault-passed, first_fault-node, names_before-passed, names_taken}
use Rattle.dts_clocks.proofs.first_pass.look.Goals as goal

pub returns-then-is_passed-clause-binding : goal.returns-then-is_passed-clause-binding
returns-then-is_passed-clause-binding c = sym (binding_at-passed c.args.chart.now c.args.at (sym c.is_passed.ensures ∙ c.if-is_passed.true))

pub returns-then-is_passed-clause-none : goal.returns-then-is_passed-clause-none
returns-then-is_passed-clause-none c = first_fault-passed c.args.chart.now c.args.at (sym c.is_passed.ensures ∙ c.if-is_passed.true)

pub returns-then-is_passed-clause-taken : goal.returns-then-is_passed-clause-taken
returns-then-is_passed-clause-taken c = c.requires.taken ∙ names_before-passed c.args.chart.now c.args.at (sym c.is_passed.ensures ∙ c.if-is_passed.true)

pub returns-clause-binding : goal.returns-clause-binding
returns-clause-binding c =
    subst (λ o. IfOk c.look_at.result (λ b. option_map seen_binding b ≡ o)) (binding_at-node c.args.chart.now c.args.at c.node.result c.node.ensures (sym c.is_passed.ensures ∙ c.if-is_passed.false)) c.look_at.ensures.binding

pub returns-clause-none : goal.returns-clause-none
returns-clause-none c =
    subst (λ o. OnOk c.look_at.result (o ≡ None)) (first_fault-node c.args.chart.now c.args.at c.node.result c.args.taken.now c.node.ensures (sym c.is_passed.ensures ∙ c.if-is_passed.false) c.requires.taken) c.look_at.ensures.none

pub returns-clause-taken : goal.returns-clause-taken
returns-clause-taken c =
    names_taken c.look_at.result c.args.chart.now c.args.at _ c.args.taken.now c.look_at.new.taken c.look_at.ensures.binding c.look_at.ensures.taken
    (binding_at-node c.args.chart.now c.args.at c.node.result c.node.ensures (sym c.is_passed.ensures ∙ c.if-is_passed.false)) c.requires.taken

pub returns-clause-err : goal.returns-clause-err
returns-clause-err c =
    subst (λ o. IfErr c.look_at.result (λ e. Tells e o)) (first_fault-node c.args.chart.now c.args.at c.node.result c.args.taken.now c.node.ensures (sym c.is_passed.ensures ∙ c.if-is_passed.false) c.requires.taken) c.look_at.ensures.err
