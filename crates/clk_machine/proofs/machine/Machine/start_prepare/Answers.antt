use Rattle.std.proofs.Common.{◌≡◌, ◌+◌, ◌*◌, ◌<◌, ◌≤◌, ◌∙◌, false, Some, None, refl, sym, ap, subst}
use Rattle.clk_base.specs.declared.call.Sleeping.TheVariants as call
use Rattle.clk_flight.specs.declared.start.Start.{Start}
use Rattle.clk_model.specs.State.{handle_at}
use Rattle.clk_model.specs.Begin.{most_credits, change_of}
use Rattle.clk_model.specs.Script.{plls}
use Rattle.clk_machine.specs.Parts.{Parts, parts_of, own_in}
use Rattle.clk_machine.proofs.Starting.{raise_script, Started, begun_started, whole_started, starts_call, starts_as}
use Rattle.clk_machine.proofs.machine.Machine.start_prepare.Goals as goal

pub invariant_of-self-2 : goal.invariant_of-self-2
invariant_of-self-2 g c =
    let m = c.self.inside in
    let p : Parts = parts_of m.window m.tree m.handles m.counts m.notifiers m.credits m.spent m.ignore_unused m.flight m.course m.prepare_holds m.enable_holds m.steps in
    let live : handle_at p.table.handles c.args.handle.number ≡ Some c.args.row = subst (λ (q : Parts). handle_at q.table.handles c.args.handle.number ≡ Some c.args.row) (sym c.self.view_is) c.requires.live in
    let own : own_in p.table.handles c.args.driver c.args.handle.number ≡ Some c.args.row = subst (λ (q : Parts). own_in q.table.handles c.args.driver c.args.handle.number ≡ Some c.args.row) (sym c.self.view_is) c.requires.own in
    let start : Start = record { driver = c.args.driver; call = call.Prepare c.args.handle; script = c.in_ok-script.script; range = None; extra = 0; vetoed = false } in
    let now : Started p c.args.driver (call.Prepare c.args.handle) (raise_script c.args.row.clock) c.begin.new.self =
    begun_started p c.args.driver (call.Prepare c.args.handle) (raise_script c.args.row.clock) c.begin.new.self start c.plls.result c.in_ok-begin.ensures.begun (c.plls.ensures.plls ∙ ap plls c.self.invariant.tied.defs) refl refl c.in_ok-script.ensures refl refl in
    let left : p.spent < p.credits = subst (λ (q : Parts). q.spent < q.credits) (sym c.self.view_is) c.requires.credit in
    let room : p.credits + p.steps + (34 * plls p.desc.defs + 2) ≤ most_credits = subst (λ (q : Parts). q.credits + q.steps + (34 * plls q.desc.defs + 2) ≤ most_credits) (sym c.self.view_is) c.requires.room in
    whole_started p c.args.driver c.args.handle c.args.row c.begin.new.self c.self.invariant left live own room now

pub returns-clause-ok : goal.returns-clause-ok
returns-clause-ok g c =
    let m = c.self.inside in
    let p : Parts = parts_of m.window m.tree m.handles m.counts m.notifiers m.credits m.spent m.ignore_unused m.flight m.course m.prepare_holds m.enable_holds m.steps in
    let start : Start = record { driver = c.args.driver; call = call.Prepare c.args.handle; script = c.in_ok-script.script; range = None; extra = 0; vetoed = false } in
    let now : Started p c.args.driver (call.Prepare c.args.handle) (raise_script c.args.row.clock) c.begin.new.self =
    begun_started p c.args.driver (call.Prepare c.args.handle) (raise_script c.args.row.clock) c.begin.new.self start c.plls.result c.in_ok-begin.ensures.begun (c.plls.ensures.plls ∙ ap plls c.self.invariant.tied.defs) refl refl c.in_ok-script.ensures refl refl in
    rw (← c.self.view_is) (starts_call p c.args.driver c.args.handle c.args.row c.begin.new.self now
    (λ s. c.in_ok-begin.ensures.change s.notifiers (change_of s c.args.driver (call.Prepare c.args.handle) (raise_script c.args.row.clock)) (starts_as s s.notifiers c.args.driver (call.Prepare c.args.handle) (raise_script c.args.row.clock) start refl refl refl c.in_ok-script.ensures refl refl refl)))
