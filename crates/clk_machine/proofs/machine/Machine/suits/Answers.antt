use Rattle.std.proofs.Common.{◌∙◌, sym, subst, List}
use Rattle.clk_tree.specs.Plans.{AreThere, ClockRate}
use Rattle.clk_machine.specs.Parts.{Parts}
use Rattle.clk_machine.proofs.Beginning.{all_there, not_other, there_all}
use Rattle.clk_machine.proofs.machine.Machine.suits.Goals as goal

pub returns-then-not-owns-clause-no : goal.returns-then-not-owns-clause-no
returns-then-not-owns-clause-no g c = λ suited. sym c.if-not-owns.true ∙ c.owns.ensures.own ∙ suited.own

pub returns-clause-yes : goal.returns-clause-yes
returns-clause-yes g c = λ yes. record {
  own = sym c.owns.ensures.own ∙ c.if-not-owns.false;
  set_parent = not_other c.args.plan.now.set_parent c.is_reparenting.result c.if-plan-is_reparenting.false ∙ c.is_reparenting.ensures;
  there = subst (λ (q : Parts). AreThere q.tree.clocks c.args.plan.now.rates) c.self.view_is
      (subst (λ (rs : List ClockRate). AreThere c.self.inside.tree.clocks rs) c.as_slice.ensures (there_all c.self.inside.tree.clocks c.as_slice.result.now (sym c.are_there.ensures ∙ yes)));
}

pub returns-clause-no : goal.returns-clause-no
returns-clause-no g c = λ suited.
    c.are_there.ensures ∙ all_there c.self.inside.tree.clocks c.as_slice.result.now
    (subst (λ (rs : List ClockRate). AreThere c.self.inside.tree.clocks rs) (sym c.as_slice.ensures)
    (subst (λ (q : Parts). AreThere q.tree.clocks c.args.plan.now.rates) (sym c.self.view_is) suited.there))
