use Rattle.std.proofs.Common.{◌≡◌, ◌<◌, refl, Some}
use Rattle.clk_model.specs.State.{handle_at}
use Rattle.clk_machine.specs.Holding.{ranged}
use Rattle.clk_machine.specs.Parts.{Parts, parts_of}
use Rattle.clk_machine.proofs.Landings.{is_live}
use Rattle.clk_machine.proofs.Ranging.{written_range}
use Rattle.clk_machine.proofs.Writing.{Written, whole_written, becomes_written}
use Rattle.clk_machine.proofs.machine.Machine.keep_range.Goals as goal

pub set_range-requires : goal.set_range-requires
set_range-requires g c =
    let m = c.self.inside in
    let live : handle_at m.handles.handles c.args.handle.number ≡ Some c.args.row = rw (← c.self.view_is) at c.requires.live in
    is_live m.handles.handles c.args.handle.number c.args.row live

pub invariant_of-self : goal.invariant_of-self
invariant_of-self g c =
    let m = c.self.inside in
    let p : Parts = parts_of m.window m.tree m.handles m.counts m.notifiers m.credits m.spent m.ignore_unused m.flight m.course m.prepare_holds m.enable_holds m.steps in
    let row = c.args.row in
    let n = c.args.handle.number in
    let live : handle_at m.handles.handles n ≡ Some row = rw (← c.self.view_is) at c.requires.live in
    let written : Written p n row (ranged row c.args.least c.args.most) c.set_range.new.self m.counts =
    written_range p n c.args.least c.args.most row c.set_range.new.self c.self.invariant live c.set_range.ensures.range c.set_range.ensures.clocks in
    let left : m.spent < m.credits = rw (← c.self.view_is) at c.requires.credit in
    whole_written p n row (ranged row c.args.least c.args.most) m.window c.set_range.new.self m.counts c.self.invariant written left c.self.invariant.tied

pub returns : goal.returns
returns g c =
    let m = c.self.inside in
    let p : Parts = parts_of m.window m.tree m.handles m.counts m.notifiers m.credits m.spent m.ignore_unused m.flight m.course m.prepare_holds m.enable_holds m.steps in
    let row = c.args.row in
    let n = c.args.handle.number in
    let live : handle_at m.handles.handles n ≡ Some row = rw (← c.self.view_is) at c.requires.live in
    let written : Written p n row (ranged row c.args.least c.args.most) c.set_range.new.self m.counts =
    written_range p n c.args.least c.args.most row c.set_range.new.self c.self.invariant live c.set_range.ensures.range c.set_range.ensures.clocks in
    rw (← c.self.view_is) (becomes_written p n row (ranged row c.args.least c.args.most) c.set_range.new.self m.counts written refl)
