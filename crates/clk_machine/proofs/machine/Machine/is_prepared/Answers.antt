use Rattle.std.proofs.Common.{◌≡◌, ◌∙◌, true}
use Rattle.clk_model.specs.State.{registered}
use Rattle.clk_machine.specs.Parts.{Parts, parts_of}
use Rattle.core_parts.proofs.Moving.{clock_within}
use Rattle.clk_machine.proofs.Rows.{counted_place, holds_stand}
use Rattle.core_parts.specs.Tied.{desc_of}
use Rattle.clk_machine.proofs.machine.Machine.is_prepared.Goals as goal

pub prepared-requires : goal.prepared-requires
prepared-requires g c =
    let m = c.self.inside in
    let p : Parts = parts_of m.window m.tree m.handles m.counts m.notifiers m.credits m.spent m.ignore_unused m.flight m.course m.prepare_holds m.enable_holds m.steps in
    let there : registered m.tree.clocks c.args.clock.0 ≡ true = rw (← c.self.view_is) at c.requires in
    record { place = counted_place p c.args.clock.0 c.self.invariant (clock_within (desc_of m.tree) m.window m.tree c.args.clock.0 c.self.invariant.tied there) }

pub returns : goal.returns
returns g c =
    let m = c.self.inside in
    let p : Parts = parts_of m.window m.tree m.handles m.counts m.notifiers m.credits m.spent m.ignore_unused m.flight m.course m.prepare_holds m.enable_holds m.steps in
    rw (← c.self.view_is) (λ s stands. c.prepared.ensures.prepared ∙ (holds_stand p s c.args.clock.0 c.self.invariant stands).prepared)
