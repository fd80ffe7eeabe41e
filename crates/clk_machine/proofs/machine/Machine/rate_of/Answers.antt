use Rattle.std.proofs.Common.{◌≡◌, ◌<◌, ◌∙◌, true, length, subst, sym}
use Rattle.clk_base.specs.Description.{Description}
use Rattle.clk_model.specs.State.{registered}
use Rattle.clk_machine.specs.Parts.{Parts, parts_of}
use Rattle.core_parts.proofs.Moving.{clock_within}
use Rattle.clk_machine.proofs.Rows.{rates_stand}
use Rattle.core_parts.specs.Tied.{desc_of}
use Rattle.clk_machine.proofs.machine.Machine.rate_of.Goals as goal

pub rate-requires : goal.rate-requires
rate-requires g c =
    let m = c.self.inside in
    let here : registered m.tree.clocks c.args.clock.0 ≡ true = rw (← c.self.view_is) at c.requires in
    record { place = subst (λ (d : Description). c.args.clock.0 < length d) (sym c.self.invariant.tied.defs) (clock_within (desc_of m.tree) m.window m.tree c.args.clock.0 c.self.invariant.tied here) }

pub returns : goal.returns
returns g c =
    let m = c.self.inside in
    let p : Parts = parts_of m.window m.tree m.handles m.counts m.notifiers m.credits m.spent m.ignore_unused m.flight m.course m.prepare_holds m.enable_holds m.steps in
    let here : registered m.tree.clocks c.args.clock.0 ≡ true = rw (← c.self.view_is) at c.requires in
    rw (← c.self.view_is) (λ s stands. c.rate.ensures.rate ∙ rates_stand p s c.args.clock.0 c.self.invariant stands here)
