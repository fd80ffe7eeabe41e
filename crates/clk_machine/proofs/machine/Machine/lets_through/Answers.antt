use Rattle.std.proofs.Common.{◌≡◌, ◌∙◌, true, sym, ap, subst, List, Option, ℕ, false}
use Rattle.std.specs.Prelude.{IfSome}
use Rattle.std.specs.Option.{option_map_or}
use Rattle.clk_base.specs.declared.clock.ClockDef.{ClockDef}
use Rattle.clk_base.specs.declared.clock.Kind.{Kind}
use Rattle.clk_base.specs.Description.{Description, kind_of}
use Rattle.clk_base.specs.Fields.{gate_of}
use Rattle.clk_model.specs.Kinds.{is_open}
use Rattle.clk_model.specs.State.{registered}
use Rattle.clk_machine.specs.Parts.{Parts, parts_of}
use Rattle.core_parts.proofs.Moving.{clock_within}
use Rattle.clk_machine.proofs.Sweeping.{gate_there}
use Rattle.core_parts.specs.Tied.{desc_of}
use Rattle.clk_machine.proofs.machine.Machine.lets_through.Goals as goal

pub def-requires : goal.def-requires
def-requires g c =
    let m = c.self.inside in
    let there : registered m.tree.clocks c.args.clock.0 ≡ true = rw (← c.self.view_is) at c.requires in
    record { place = clock_within (desc_of m.tree) m.window m.tree c.args.clock.0 c.self.invariant.tied there }

pub is_open-requires : goal.is_open-requires
is_open-requires g c =
    let m = c.self.inside in
    let p : Parts = parts_of m.window m.tree m.handles m.counts m.notifiers m.credits m.spent m.ignore_unused m.flight m.course m.prepare_holds m.enable_holds m.steps in
    let there : registered m.tree.clocks c.args.clock.0 ≡ true = rw (← c.self.view_is) at c.requires in
    gate_there p c.def.result.now.kind c.args.clock.0 c.self.invariant there (ap (λ (d : ClockDef). d.kind) c.def.ensures.def)

pub returns : goal.returns
returns g c =
    let m = c.self.inside in
    rw (← c.self.view_is)
    (λ s stands.
    subst (λ (o : Option (List ℕ)). IfSome o (λ regs. c.is_open.result ≡ option_map_or (is_open regs) (gate_of c.def.result.now.kind) false)) stands.regs c.is_open.ensures
    ∙ ap (λ (k : Kind). option_map_or (is_open s.regs) (gate_of k) false) (ap (λ (d : ClockDef). d.kind) c.def.ensures.def ∙ ap (λ (ds : Description). kind_of ds c.args.clock.0) (sym stands.defs)))
