use Rattle.std.proofs.Common.{◌≡◌, ◌+◌, ◌<◌, ◌≤◌, ◌∙◌, false, true, None, refl, sym, ap, subst}
use Rattle.std.specs.Prelude.{sum_by}
use Rattle.clk_flight.specs.LeftOver.{step_weight}
use Rattle.core_parts.specs.Listed.{rows_from}
use Rattle.clk_base.specs.declared.call.Sleeping.TheVariants as call
use Rattle.clk_flight.specs.declared.start.Start.{Start}
use Rattle.clk_model.specs.Begin.{most_credits, change_of}
use Rattle.clk_model.specs.Script.{plls}
use Rattle.clk_model.specs.State.{registered}
use Rattle.core_parts.specs.InFlight.{is_script}
use Rattle.clk_machine.specs.Parts.{Parts, parts_of}
use Rattle.clk_machine.proofs.Starting.{Started, begun_started, starts_as}
use Rattle.clk_machine.proofs.Sweeping.{whole_sweeping, starts_sweep}
use Rattle.clk_machine.proofs.machine.Machine.start_sweep.Goals as goal

pub invariant_of-self-2 : goal.invariant_of-self-2
invariant_of-self-2 g c =
    let m = c.self.inside in
    let p : Parts = parts_of m.window m.tree m.handles m.counts m.notifiers m.credits m.spent m.ignore_unused m.flight m.course m.prepare_holds m.enable_holds m.steps in
    let start : Start = record { driver = c.args.driver; call = call.Sweep; script = c.args.steps; range = None; extra = 0; vetoed = false } in
    let now : Started p c.args.driver call.Sweep c.args.steps.items c.begin.new.self =
    begun_started p c.args.driver call.Sweep c.args.steps.items c.begin.new.self start c.plls.result c.in_ok-begin.ensures.begun (c.plls.ensures.plls ∙ ap plls c.self.invariant.tied.defs) refl refl refl refl refl in
    let left : p.spent < p.credits = subst (λ (q : Parts). q.spent < q.credits) (sym c.self.view_is) c.requires.credit in
    let script : is_script call.Sweep (registered p.tree.clocks) c.args.steps.items ≡ true = subst (λ (q : Parts). is_script call.Sweep (registered q.tree.clocks) c.args.steps.items ≡ true) (sym c.self.view_is) c.requires.script in
    let room : p.credits + p.steps + sum_by (step_weight (rows_from 0 p.chains) (plls p.desc.defs)) c.args.steps.items ≤ most_credits =
    subst (λ (q : Parts). q.credits + q.steps + sum_by (step_weight (rows_from 0 q.chains) (plls q.desc.defs)) c.args.steps.items ≤ most_credits) (sym c.self.view_is) c.requires.room in
    whole_sweeping p c.args.driver c.args.steps.items c.begin.new.self c.self.invariant left script room now

pub returns-clause-ok : goal.returns-clause-ok
returns-clause-ok g c =
    let m = c.self.inside in
    let p : Parts = parts_of m.window m.tree m.handles m.counts m.notifiers m.credits m.spent m.ignore_unused m.flight m.course m.prepare_holds m.enable_holds m.steps in
    let start : Start = record { driver = c.args.driver; call = call.Sweep; script = c.args.steps; range = None; extra = 0; vetoed = false } in
    let now : Started p c.args.driver call.Sweep c.args.steps.items c.begin.new.self =
    begun_started p c.args.driver call.Sweep c.args.steps.items c.begin.new.self start c.plls.result c.in_ok-begin.ensures.begun (c.plls.ensures.plls ∙ ap plls c.self.invariant.tied.defs) refl refl refl refl refl in
    rw (← c.self.view_is) (starts_sweep p c.args.driver c.args.steps.items c.begin.new.self now
    (λ s. c.in_ok-begin.ensures.change s.notifiers (change_of s c.args.driver call.Sweep c.args.steps.items) (starts_as s s.notifiers c.args.driver call.Sweep c.args.steps.items start refl refl refl refl refl refl refl)))
