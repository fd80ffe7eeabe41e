use Rattle.std.proofs.Common.{◌≡◌, ◌∙◌, ap, List, ◌++◌}
use Rattle.clk_base.specs.declared.call.Micro.{Micro}
use Rattle.clk_machine.specs.Parts.{Parts, parts_of}
use Rattle.clk_machine.specs.Sweeping.{closes, close_steps}
use Rattle.clk_machine.proofs.SweepScript.{adds_one, adds_not}
use Rattle.clk_machine.proofs.machine.Machine.push_close.Goals as goal

pub returns-in_ok-push_close : goal.returns-in_ok-push_close
returns-in_ok-push_close g c =
    let m = c.self.inside in
    let p : Parts = parts_of m.window m.tree m.handles m.counts m.notifiers m.credits m.spent m.ignore_unused m.flight m.course m.prepare_holds m.enable_holds m.steps in
    let told : close_steps p c.args.clock.0 ≡ close_steps c.args.self.now c.args.clock.0 = ap (λ (q : Parts). close_steps q c.args.clock.0) c.self.view_is in
    adds_one c.args.self.now (close_steps c.args.self.now) closes c.args.clock.0 c.closes.result c.args.steps.now.items c.push_close.new.steps.items c.requires c.closes.ensures c.if-closes.true
    (c.in_ok-push_close.ensures ∙ ap (λ (ms : List Micro). c.args.steps.now.items ++ ms) told)

pub returns-else-closes : goal.returns-else-closes
returns-else-closes g c = adds_not c.args.self.now (close_steps c.args.self.now) closes c.args.clock.0 c.closes.result c.args.steps.now.items c.closes.ensures c.if-closes.false
