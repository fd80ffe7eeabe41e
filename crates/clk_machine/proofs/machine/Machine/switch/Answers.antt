use Rattle.std.proofs.Common.{◌<◌, length, sym, ap, subst, ℕ}
use Rattle.std.specs.Prelude.{IfSome}
use Rattle.clk_base.specs.declared.clock.ClockDef.{ClockDef}
use Rattle.clk_base.specs.declared.clock.Kind.{Kind}
use Rattle.clk_base.specs.Fields.{gate_of, power_of}
use Rattle.core_parts.proofs.Opening.{gate_fits, power_fits}
use Rattle.clk_machine.proofs.machine.Machine.switch.Goals as goal

pub switch_state-requires-clause-gate : goal.switch_state-requires-clause-gate
switch_state-requires-clause-gate g c =
    let m = c.self.inside in
    let within : c.args.clock.0 < length m.tree.defs = rw (← c.self.view_is) at c.requires in
    subst (λ (n : ℕ). IfSome (gate_of c.def.result.now.kind) (λ gate. (gate.word < n) × (gate.bit < 32))) (sym c.self.invariant.tied.words)
    (subst (λ (kind : Kind). IfSome (gate_of kind) (λ gate. (gate.word < m.tree.words) × (gate.bit < 32))) (sym (ap (λ (d : ClockDef). d.kind) c.def.ensures.def))
    (gate_fits m.tree.words m.tree.defs c.args.clock.0 c.def.ensures.valid within))

pub switch_state-requires-clause-power : goal.switch_state-requires-clause-power
switch_state-requires-clause-power g c =
    let m = c.self.inside in
    let within : c.args.clock.0 < length m.tree.defs = rw (← c.self.view_is) at c.requires in
    subst (λ (n : ℕ). IfSome (power_of c.def.result.now.kind) (λ power. (power.word < n) × (power.bit < 32))) (sym c.self.invariant.tied.words)
    (subst (λ (kind : Kind). IfSome (power_of kind) (λ power. (power.word < m.tree.words) × (power.bit < 32))) (sym (ap (λ (d : ClockDef). d.kind) c.def.ensures.def))
    (power_fits m.tree.words m.tree.defs c.args.clock.0 c.def.ensures.valid within))
