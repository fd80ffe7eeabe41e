use Rattle.std.proofs.Common.{◌<◌, ◌∙◌, length}
use Rattle.clk_machine.specs.Parts.{Parts, parts_of}
use Rattle.clk_machine.proofs.Rows.{counted_place, sums_stand}
use Rattle.clk_machine.proofs.machine.Machine.prepare_count.Goals as goal

pub prepared-requires : goal.prepared-requires
prepared-requires g c =
    let m = c.self.inside in
    let p : Parts = parts_of m.window m.tree m.handles m.counts m.notifiers m.credits m.spent m.ignore_unused m.flight m.course m.prepare_holds m.enable_holds m.steps in
    let within : c.args.clock.0 < length m.tree.defs = rw (← c.self.view_is) at c.requires in
    record { place = counted_place p c.args.clock.0 c.self.invariant within }

pub returns : goal.returns
returns g c =
    let m = c.self.inside in
    let p : Parts = parts_of m.window m.tree m.handles m.counts m.notifiers m.credits m.spent m.ignore_unused m.flight m.course m.prepare_holds m.enable_holds m.steps in
    rw (← c.self.view_is) (λ s stands. c.prepared.ensures.count ∙ (sums_stand p s c.args.clock.0 c.self.invariant stands).prepares)
