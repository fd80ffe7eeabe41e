use Rattle.std.proofs.Common.{◌≡◌, ◌∙◌, refl, sym, ap, subst, List, true}
use Rattle.std.specs.List.{list_all}
use Rattle.clk_base.specs.declared.call.Micro.{Micro}
use Rattle.clk_base.specs.declared.clock.ClockId.{ClockId}
use Rattle.clk_base.specs.Places.{places}
use Rattle.clk_model.specs.Script.{sweep_order}
use Rattle.clk_model.specs.State.{registered}
use Rattle.clk_machine.specs.Parts.{Parts, parts_of, bare}
use Rattle.clk_machine.specs.Stands.{Stands}
use Rattle.clk_machine.specs.Sweeping.{Adds, closes, unpowers, close_steps, unpower_steps}
use Rattle.clk_machine.proofs.SweepScript.{has_parents, order_there, order_stands, swept_script, swept_told}
use Rattle.clk_machine.proofs.machine.Machine.sweep_steps.Goals as goal

pub push_closes-requires : goal.push_closes-requires
push_closes-requires g c =
    let m = c.self.inside in
    let p : Parts = parts_of m.window m.tree m.handles m.counts m.notifiers m.credits m.spent m.ignore_unused m.flight m.course m.prepare_holds m.enable_holds m.steps in
    let order : places c.in_ok-order.order.items ≡ sweep_order (bare p) = c.in_ok-order.ensures (bare p) (sym c.self.invariant.tied.defs) refl refl in
    let there : list_all (registered p.tree.clocks) (places c.in_ok-order.order.items) ≡ true = ap (list_all (registered p.tree.clocks)) order ∙ order_there p c.self.invariant in
    subst (λ (q : Parts). list_all (registered q.tree.clocks) (places c.as_slice.result.now) ≡ true) c.self.view_is (ap (λ (cs : List ClockId). list_all (registered p.tree.clocks) (places cs)) c.as_slice.ensures.value ∙ there)

pub push_unpowers-requires : goal.push_unpowers-requires
push_unpowers-requires g c =
    let m = c.self.inside in
    let p : Parts = parts_of m.window m.tree m.handles m.counts m.notifiers m.credits m.spent m.ignore_unused m.flight m.course m.prepare_holds m.enable_holds m.steps in
    let order : places c.in_ok-order.order.items ≡ sweep_order (bare p) = c.in_ok-order.ensures (bare p) (sym c.self.invariant.tied.defs) refl refl in
    let there : list_all (registered p.tree.clocks) (places c.in_ok-order.order.items) ≡ true = ap (list_all (registered p.tree.clocks)) order ∙ order_there p c.self.invariant in
    subst (λ (q : Parts). list_all (registered q.tree.clocks) (places c.as_slice-2.result.now) ≡ true) c.self.view_is (ap (λ (cs : List ClockId). list_all (registered p.tree.clocks) (places cs)) c.as_slice-2.ensures.value ∙ there)

pub returns-clause-script : goal.returns-clause-script
returns-clause-script g c =
    let m = c.self.inside in
    let p : Parts = parts_of m.window m.tree m.handles m.counts m.notifiers m.credits m.spent m.ignore_unused m.flight m.course m.prepare_holds m.enable_holds m.steps in
    swept_script c.args.self.now (places c.in_ok-order.order.items) c.push.new.self.items (has_parents p c.args.self.now c.self.invariant c.self.view_is) (record {
      mid = c.push_closes.new.steps.items;
      all = c.push_unpowers.new.steps.items;
      closes_ = subst (λ (ms : List Micro). Adds c.args.self.now (close_steps c.args.self.now) closes (places c.in_ok-order.order.items) ms c.push_closes.new.steps.items) c.new-steps.ensures.items
          (subst (λ (cs : List ClockId). Adds c.args.self.now (close_steps c.args.self.now) closes (places cs) c.new-steps.result.items c.push_closes.new.steps.items) c.as_slice.ensures.value c.in_ok-push_closes.ensures);
      unpowers_ = subst (λ (cs : List ClockId). Adds c.args.self.now unpower_steps unpowers (places cs) c.push_closes.new.steps.items c.push_unpowers.new.steps.items) c.as_slice-2.ensures.value c.in_ok-push_unpowers.ensures;
      steps_ = c.in_ok-push.ensures.items;
    })

pub returns-clause-told : goal.returns-clause-told
returns-clause-told g c =
    let m = c.self.inside in
    let p : Parts = parts_of m.window m.tree m.handles m.counts m.notifiers m.credits m.spent m.ignore_unused m.flight m.course m.prepare_holds m.enable_holds m.steps in
    let order : places c.in_ok-order.order.items ≡ sweep_order (bare p) = c.in_ok-order.ensures (bare p) (sym c.self.invariant.tied.defs) refl refl in
    λ s stands.
    swept_told c.args.self.now (places c.in_ok-order.order.items) c.push.new.self.items s (record {
      mid = c.push_closes.new.steps.items;
      all = c.push_unpowers.new.steps.items;
      closes_ = subst (λ (ms : List Micro). Adds c.args.self.now (close_steps c.args.self.now) closes (places c.in_ok-order.order.items) ms c.push_closes.new.steps.items) c.new-steps.ensures.items
          (subst (λ (cs : List ClockId). Adds c.args.self.now (close_steps c.args.self.now) closes (places cs) c.new-steps.result.items c.push_closes.new.steps.items) c.as_slice.ensures.value c.in_ok-push_closes.ensures);
      unpowers_ = subst (λ (cs : List ClockId). Adds c.args.self.now unpower_steps unpowers (places cs) c.push_closes.new.steps.items c.push_unpowers.new.steps.items) c.as_slice-2.ensures.value c.in_ok-push_unpowers.ensures;
      steps_ = c.in_ok-push.ensures.items;
    }) stands (order ∙ order_stands p s (subst (λ (q : Parts). Stands q s) (sym c.self.view_is) stands))
