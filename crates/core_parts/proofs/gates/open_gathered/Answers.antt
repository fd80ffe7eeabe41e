use Rattle.std.proofs.Common.{ℕ, ◌-◌, ◌<◌, false, List, refl, sym, ap, subst, ◌∙◌, arith, length, drop, get_or}
use Rattle.std.specs.Prelude.{IfSome}
use Rattle.clk_base.specs.declared.clock.ClockId.{ClockId}
use Rattle.clk_base.specs.declared.clock.Kind.{Kind}
use Rattle.clk_base.specs.declared.clock.ClockDef.{ClockDef}
use Rattle.clk_base.specs.Fields.{gate_of}
use Rattle.core_parts.proofs.Opening.{opened, opened_none, opened_next, gate_fits}
use Rattle.core_parts.proofs.Gathering.{places, among_places, none_behind, one_before, all_left}
use Rattle.core_parts.proofs.gates.open_gathered.Goals as goal

pub loop-done-init : goal.loop-done-init
loop-done-init g c = record {
  size = refl;
  words = opened_none c.args.tree.now.defs (λ _. false) c.args.window.now.words
      ∙ ap (λ (cs : List ℕ). opened c.args.tree.now.defs (λ _. false) cs c.args.window.now.words) (sym (none_behind c.args.path.now));
  behind = refl;
  locks = refl;
}

pub def-requires : goal.def-requires
def-requires g c =
    let some = c.loop-done-test.true in
    record { place = c.requires.inside _ (among_places c.args.path.now (length c.args.path.now - 1 - c.loop-done.done) (record { 0 = 0 }) (omega arith)) }

pub open_gate-requires : goal.open_gate-requires
open_gate-requires g c =
    let some = c.loop-done-test.true in
    let at : ClockId = get_or c.args.path.now (length c.args.path.now - 1 - c.loop-done.done) (record { 0 = 0 }) in
    subst (λ (n : ℕ). IfSome (gate_of c.def.result.now.kind) (λ gate. (gate.word < n) × (gate.bit < 32))) (sym (c.loop-done.invariant.size ∙ c.requires.words))
    (subst (λ (kind : Kind). IfSome (gate_of kind) (λ gate. (gate.word < c.args.tree.now.words) × (gate.bit < 32))) (sym (ap (λ (d : ClockDef). d.kind) c.def.ensures.def))
    (gate_fits c.args.tree.now.words c.args.tree.now.defs at.0 c.def.ensures.valid
    (c.requires.inside at.0 (among_places c.args.path.now (length c.args.path.now - 1 - c.loop-done.done) (record { 0 = 0 }) (omega arith)))))

pub loop-done-preserved : goal.loop-done-preserved
loop-done-preserved g c =
    let inv = c.loop-done.invariant in
    let path = c.args.path.now in
    let done = c.loop-done.done in
    record {
      size = c.open_gate.ensures.size ∙ inv.size;
      words = opened_next c.args.tree.now.defs (λ _. false) _ (drop (length path - done) (places path)) c.def.result.now.kind c.args.window.now.words c.loop-done.window.words c.open_gate.new.window.words
          (ap (λ (d : ClockDef). d.kind) c.def.ensures.def) refl inv.words c.open_gate.ensures.words
          ∙ ap (λ (cs : List ℕ). opened c.args.tree.now.defs (λ _. false) cs c.args.window.now.words) (sym (one_before path done (record { 0 = 0 }) c.loop-done-test.true));
      behind = c.open_gate.ensures.behind ∙ inv.behind;
      locks = c.open_gate.ensures.locks ∙ inv.locks;
    }

pub returns-clause-size : goal.returns-clause-size
returns-clause-size g c = c.loop-done.invariant.size

pub returns-clause-words : goal.returns-clause-words
returns-clause-words g c =
    let past = c.loop-done-test.false in
    c.loop-done.invariant.words
    ∙ ap (λ (cs : List ℕ). opened c.args.tree.now.defs (λ _. false) cs c.args.window.now.words) (all_left c.args.path.now c.loop-done.done (omega arith))

pub returns-clause-behind : goal.returns-clause-behind
returns-clause-behind g c = c.loop-done.invariant.behind

pub returns-clause-locks : goal.returns-clause-locks
returns-clause-locks g c = c.loop-done.invariant.locks
