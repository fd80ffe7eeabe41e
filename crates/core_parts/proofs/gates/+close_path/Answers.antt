use Rattle.std.proofs.Common.{◌≡◌, ◌<◌, sym, subst, ap, refl, arith, false, Option, None, ℕ, Bool, [], ◌∷◌}
use Rattle.std.specs.Prelude.{IfSome}
use Rattle.clk_base.specs.declared.clock.Kind.{Kind}
use Rattle.clk_base.specs.declared.clock.ClockDef.{ClockDef}
use Rattle.clk_base.specs.Fields.{gate_of}
use Rattle.clk_model.specs.State.{link_in}
use Rattle.core_parts.proofs.Opening.{gate_fits}
use Rattle.core_parts.proofs.Closing.{closed, closed_own, closed_above, closed_root}
use Rattle.core_parts.proofs.gates.+close_path.Goals as goal

pub close_gate-requires : goal.close_gate-requires
close_gate-requires g t c =
    subst (λ (n : ℕ). IfSome (gate_of c.def.result.now.kind) (λ gate. (gate.word < n) × (gate.bit < 32))) (sym c.requires.words)
    (subst (λ (kind : Kind). IfSome (gate_of kind) (λ gate. (gate.word < c.args.tree.now.words) × (gate.bit < 32))) (sym (ap (λ (d : ClockDef). d.kind) c.def.ensures.def))
    (gate_fits c.args.tree.now.words c.args.tree.now.defs c.args.clock.0 c.def.ensures.valid c.requires.place))

pub returns-in-Some-clause-words : goal.returns-in-Some-clause-words
returns-in-Some-clause-words g t c =
    let defs = c.args.tree.now.defs in
    let after : ℕ → Bool = (λ _. false) in
    let up : ℕ → Option ℕ = link_in c.args.tree.now.clocks in
    let own : c.close_gate.new.window.words ≡ closed defs after (c.args.clock.0 ∷ []) c.args.window.now.words =
    closed_own defs after c.args.clock.0 c.def.result.now.kind _ _ (ap (λ (d : ClockDef). d.kind) c.def.ensures.def) refl c.close_gate.ensures.words in
    closed_above defs after up c.args.levels c.args.clock.0 c.parent.result c.in-Some.parent c.args.window.now.words c.close_gate.new.window.words c.close_path.new.window.words
    (omega arith) c.parent.ensures.link c.in-Some.is own c.close_path.ensures.words

pub returns-in_default-clause-words : goal.returns-in_default-clause-words
returns-in_default-clause-words g t c =
    let defs = c.args.tree.now.defs in
    let after : ℕ → Bool = (λ _. false) in
    let up : ℕ → Option ℕ = link_in c.args.tree.now.clocks in
    let own : c.close_gate.new.window.words ≡ closed defs after (c.args.clock.0 ∷ []) c.args.window.now.words =
    closed_own defs after c.args.clock.0 c.def.result.now.kind _ _ (ap (λ (d : ClockDef). d.kind) c.def.ensures.def) refl c.close_gate.ensures.words in
    let none : c.parent.result ≡ None = cc in
    closed_root defs after up c.args.levels c.args.clock.0 c.parent.result c.args.window.now.words c.close_gate.new.window.words
    (omega arith) c.parent.ensures.link none own
