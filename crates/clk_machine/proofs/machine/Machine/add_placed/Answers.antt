use Rattle.std.proofs.Common.{◌≡◌, ◌<◌, true, false}
use Rattle.clk_model.specs.State.{registered}
use Rattle.clk_machine.specs.Parts.{Parts, parts_of}
use Rattle.clk_machine.proofs.Writing.{whole_added, becomes_added}
use Rattle.clk_machine.proofs.machine.Machine.add_placed.Goals as goal

pub invariant_of-self : goal.invariant_of-self
invariant_of-self g c =
    let m = c.self.inside in
    let p : Parts = parts_of m.window m.tree m.handles m.counts m.notifiers m.credits m.spent m.ignore_unused m.flight m.course m.prepare_holds m.enable_holds m.steps in
    let quiet : m.flight.going ≡ false = rw (← c.self.view_is) at c.requires.quiet in
    let there : registered m.tree.clocks c.args.clock.0 ≡ true = rw (← c.self.view_is) at c.requires.there in
    let left : m.spent < m.credits = rw (← c.self.view_is) at c.requires.credit in
    whole_added p c.args.driver c.args.clock c.add_placed-handle.new.self c.self.invariant quiet left there c.add_placed-handle.ensures.handles c.add_placed-handle.ensures.clocks

pub returns : goal.returns
returns g c =
    let m = c.self.inside in
    let p : Parts = parts_of m.window m.tree m.handles m.counts m.notifiers m.credits m.spent m.ignore_unused m.flight m.course m.prepare_holds m.enable_holds m.steps in
    rw (← c.self.view_is) (becomes_added p c.args.driver c.args.clock c.add_placed-handle.new.self c.add_placed-handle.ensures.handles)
