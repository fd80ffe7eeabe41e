use Rattle.std.proofs.Common.{◌≡◌, ◌∙◌, true, sym, ap, subst, List, Option, ℕ, false}
use Rattle.std.specs.Prelude.{IfSome}
use Rattle.std.specs.Option.{option_map_or}
use Rattle.clk_base.specs.declared.clock.ClockDef.{ClockDef}
use Rattle.clk_base.specs.declared.clock.Kind.{Kind}
use Rattle.clk_base.specs.Description.{Description, kind_of}
use Rattle.clk_base.specs.Fields.{power_of}
use Rattle.clk_model.specs.Kinds.{is_powered}
use Rattle.clk_model.specs.State.{registered}
use Rattle.clk_machine.specs.Parts.{Parts, parts_of}
use Rattle.core_parts.proofs.Moving.{clock_within}
use Rattle.clk_machine.proofs.Sweeping.{power_there}
use Rattle.core_parts.specs.Tied.{desc_of}
use Rattle.clk_machine.proofs.machine.Machine.is_powered.Goals as goal

pub def-requires : goal.def-requires
def-requires g c =
    let m = c.self.inside in
    let there : registered m.tree.clocks c.args.clock.0 ≡ true = rw (← c.self.view_is) at c.requires in
    record { place = clock_within (desc_of m.tree) m.window m.tree c.args.clock.0 c.self.invariant.tied there }

pub is_running-requires : goal.is_running-requires
is_running-requires g c =
    let m = c.self.inside in
    let p : Parts = parts_of m.window m.tree m.handles m.counts m.notifiers m.credits m.spent m.ignore_unused m.flight m.course m.prepare_holds m.enable_holds m.steps in
    let there : registered m.tree.clocks c.args.clock.0 ≡ true = rw (← c.self.view_is) at c.requires in
    power_there p c.def.result.now.kind c.args.clock.0 c.self.invariant there (ap (λ (d : ClockDef). d.kind) c.def.ensures.def)

pub returns : goal.returns
returns g c =
    let m = c.self.inside in
    rw (← c.self.view_is)
    (λ s stands.
    subst (λ (o : Option (List ℕ)). IfSome o (λ regs. c.is_running.result ≡ option_map_or (is_powered regs) (power_of c.def.result.now.kind) false)) stands.regs c.is_running.ensures
    ∙ ap (λ (k : Kind). option_map_or (is_powered s.regs) (power_of k) false) (ap (λ (d : ClockDef). d.kind) c.def.ensures.def ∙ ap (λ (ds : Description). kind_of ds c.args.clock.0) (sym stands.defs)))
