use Rattle.std.proofs.Common.{◌≡◌, ◌∙◌, sym, ap, subst, true, false, Some, None}
use Rattle.clk_base.specs.declared.call.Sleeping.TheVariants.{SetParent}
use Rattle.clk_model.specs.Lists.{is_at}
use Rattle.clk_model.specs.State.{handle_at, link_in}
use Rattle.clk_tree.specs.Plans.{AreThere}
use Rattle.counts_core.specs.Counted.{is_prepared}
use Rattle.change_walk.specs.Steps.{IsMadeOf}
use Rattle.rate_planner.specs.declared.planning.Planning.{Planning}
use Rattle.core_parts.specs.Decisions.{Change}
use Rattle.clk_machine.specs.Deciding.{Decided}
use Rattle.clk_machine.specs.Parts.{Parts, parts_of, own_in}
use Rattle.clk_machine.proofs.DecidedParent.{parent_unknown, parent_linked, parent_refused, cause_told, link_told, decides_parent, none_against}
use Rattle.clk_machine.proofs.Entered.{own_stands}
use Rattle.clk_machine.proofs.Rows.{counted_place}
use Rattle.clk_machine.proofs.Writing.{row_place}
use Rattle.clk_machine.proofs.machine.Machine.decide_parent.Goals as goal

pub returns-in_default-clause-decides : goal.returns-in_default-clause-decides
returns-in_default-clause-decides g c = λ s stands sound.
    parent_unknown s c.args.driver c.args.handle c.args.parent (own_stands c.args.self.now s c.args.driver c.args.handle.number None stands (c.own.ensures.row ∙ c.in_default.is))

pub returns-then-is_linked-clause-decides : goal.returns-then-is_linked-clause-decides
returns-then-is_linked-clause-decides g c = λ s stands sound.
    parent_linked s c.args.driver c.args.handle c.args.parent c.in-Some.row
    (own_stands c.args.self.now s c.args.driver c.args.handle.number (Some c.in-Some.row) stands (c.own.ensures.row ∙ c.in-Some.is))
    (link_told c.args.self.now s c.in-Some.row.clock.0 c.args.parent.0 true stands
    (sym c.if-is_linked.true ∙ c.is_linked.ensures ∙ ap (λ (q : Parts). is_at c.args.parent.0 (link_in q.tree.clocks c.in-Some.row.clock.0)) c.self.view_is))

pub refusal-requires-clause-lies : goal.refusal-requires-clause-lies
refusal-requires-clause-lies g c =
    let m = c.self.inside in
    let p : Parts = parts_of m.window m.tree m.handles m.counts m.notifiers m.credits m.spent m.ignore_unused m.flight m.course m.prepare_holds m.enable_holds m.steps in
    let row = c.in-Some.row in
    let live : handle_at p.table.handles c.args.handle.number ≡ Some row = subst (λ (q : Parts). handle_at q.table.handles c.args.handle.number ≡ Some row) (sym c.self.view_is) c.in-Some.ensures.live in
    row_place p c.args.handle.number row c.self.invariant live

pub refusal-requires-clause-clock : goal.refusal-requires-clause-clock
refusal-requires-clause-clock g c =
    let m = c.self.inside in
    let p : Parts = parts_of m.window m.tree m.handles m.counts m.notifiers m.credits m.spent m.ignore_unused m.flight m.course m.prepare_holds m.enable_holds m.steps in
    let row = c.in-Some.row in
    let live : handle_at p.table.handles c.args.handle.number ≡ Some row = subst (λ (q : Parts). handle_at q.table.handles c.args.handle.number ≡ Some row) (sym c.self.view_is) c.in-Some.ensures.live in
    counted_place p row.clock.0 c.self.invariant (row_place p c.args.handle.number row c.self.invariant live)

pub plan_move-requires-clause-parent : goal.plan_move-requires-clause-parent
plan_move-requires-clause-parent g c =
    let m = c.self.inside in
    (none_against m.tree.defs m.tree.clocks m.counts c.in-Some.row c.args.parent.0 (sym c.refusal.ensures.cause ∙ c.in_default-refusal.is)).1

pub plan_move-requires-clause-possible : goal.plan_move-requires-clause-possible
plan_move-requires-clause-possible g c =
    let m = c.self.inside in
    (none_against m.tree.defs m.tree.clocks m.counts c.in-Some.row c.args.parent.0 (sym c.refusal.ensures.cause ∙ c.in_default-refusal.is)).0

pub returns-in-Some-refusal-clause-decides : goal.returns-in-Some-refusal-clause-decides
returns-in-Some-refusal-clause-decides g c =
    let m = c.self.inside in
    let p : Parts = parts_of m.window m.tree m.handles m.counts m.notifiers m.credits m.spent m.ignore_unused m.flight m.course m.prepare_holds m.enable_holds m.steps in
    let row = c.in-Some.row in
    let live : handle_at p.table.handles c.args.handle.number ≡ Some row = subst (λ (q : Parts). handle_at q.table.handles c.args.handle.number ≡ Some row) (sym c.self.view_is) c.in-Some.ensures.live in
    let own = subst (λ (q : Parts). own_in q.table.handles c.args.driver c.args.handle.number ≡ Some row) (sym c.self.view_is) (c.own.ensures.row ∙ c.in-Some.is) in
    rw (← c.self.view_is)
    (λ s stands sound. parent_refused s c.args.driver c.args.handle c.args.parent row c.in-Some-refusal.errno (own_stands p s c.args.driver c.args.handle.number (Some row) stands own)
    (link_told p s row.clock.0 c.args.parent.0 false stands (sym c.if-is_linked.false ∙ c.is_linked.ensures))
    (sym (cause_told p s c.args.handle.number c.args.parent.0 row c.self.invariant stands sound live) ∙ sym c.refusal.ensures.cause ∙ c.in-Some-refusal.is))

pub returns-clause-decides : goal.returns-clause-decides
returns-clause-decides g c =
    let m = c.self.inside in
    let p : Parts = parts_of m.window m.tree m.handles m.counts m.notifiers m.credits m.spent m.ignore_unused m.flight m.course m.prepare_holds m.enable_holds m.steps in
    let row = c.in-Some.row in
    let live : handle_at p.table.handles c.args.handle.number ≡ Some row = subst (λ (q : Parts). handle_at q.table.handles c.args.handle.number ≡ Some row) (sym c.self.view_is) c.in-Some.ensures.live in
    let own = subst (λ (q : Parts). own_in q.table.handles c.args.driver c.args.handle.number ≡ Some row) (sym c.self.view_is) (c.own.ensures.row ∙ c.in-Some.is) in
    let plan = c.plan_move.new.draft.planning.plan in
    let script = c.write_script.new.draft.script in
    subst (λ (x : Planning). Decided c.args.self.now c.args.driver (SetParent c.args.handle c.args.parent) (Change x.plan script)) (sym c.write_script.ensures.plan)
    (rw (← c.self.view_is)
    (λ s stands sound. decides_parent p s c.args.driver c.args.handle c.args.parent row plan script c.self.invariant own live (sym c.if-is_linked.false ∙ c.is_linked.ensures)
    (sym c.refusal.ensures.cause ∙ c.in_default-refusal.is) c.in_ok-plan_move.ensures.chain c.in_ok-plan_move.ensures.rates c.in_ok-plan_move.ensures.set_parent c.in_ok-write_script.ensures.script stands sound))

pub returns-clause-there : goal.returns-clause-there
returns-clause-there g c =
    let m = c.self.inside in
    let script = c.write_script.new.draft.script in
    rw (← c.self.view_is) (record {
      set_parent = ap (λ (x : Planning). x.plan.set_parent) c.write_script.ensures.plan ∙ c.in_ok-plan_move.ensures.set_parent;
      there = subst (λ (x : Planning). AreThere m.tree.clocks x.plan.rates) (sym c.write_script.ensures.plan) c.in_ok-plan_move.ensures.there;
      made = subst (λ (x : Planning). IsMadeOf m.tree (is_prepared m.counts) m.notifiers x.plan script) (sym c.write_script.ensures.plan) c.in_ok-write_script.ensures.made;
    })
