use Rattle.std.proofs.Common.{◌≡◌, ◌<◌, Some, false}
use Rattle.clk_model.specs.State.{handle_at}
use Rattle.clk_machine.specs.Parts.{Parts, parts_of}
use Rattle.clk_machine.proofs.Writing.{whole_removed, becomes_removed}
use Rattle.clk_machine.proofs.machine.Machine.remove_handle.Goals as goal

pub invariant_of-self : goal.invariant_of-self
invariant_of-self g c =
    let m = c.self.inside in
    let p : Parts = parts_of m.window m.tree m.handles m.counts m.notifiers m.credits m.spent m.ignore_unused m.flight m.course m.prepare_holds m.enable_holds m.steps in
    let quiet : m.flight.going ≡ false = rw (← c.self.view_is) at c.requires.quiet in
    let live : handle_at m.handles.handles c.args.handle.number ≡ Some c.args.row = rw (← c.self.view_is) at c.requires.live in
    let left : m.spent < m.credits = rw (← c.self.view_is) at c.requires.credit in
    whole_removed p c.args.handle.number c.args.row c.remove.new.self c.self.invariant quiet left live c.requires.free c.remove.ensures.handles c.remove.ensures.clocks

pub returns : goal.returns
returns g c =
    let m = c.self.inside in
    let p : Parts = parts_of m.window m.tree m.handles m.counts m.notifiers m.credits m.spent m.ignore_unused m.flight m.course m.prepare_holds m.enable_holds m.steps in
    let live : handle_at m.handles.handles c.args.handle.number ≡ Some c.args.row = rw (← c.self.view_is) at c.requires.live in
    rw (← c.self.view_is) (becomes_removed p c.args.handle.number c.args.row c.remove.new.self live c.requires.free c.remove.ensures.handles)
