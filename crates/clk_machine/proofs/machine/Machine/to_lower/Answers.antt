use Rattle.std.proofs.Common.{◌≡◌, true, sym, subst}
use Rattle.clk_model.specs.State.{registered}
use Rattle.clk_machine.specs.Parts.{Parts, parts_of}
use Rattle.core_parts.proofs.Moving.{links_within, clock_within}
use Rattle.core_parts.specs.Tied.{desc_of}
use Rattle.clk_machine.proofs.machine.Machine.to_lower.Goals as goal

pub next_to_lower-requires-clause-place : goal.next_to_lower-requires-clause-place
next_to_lower-requires-clause-place g c =
    let m = c.self.inside in
    let p : Parts = parts_of m.window m.tree m.handles m.counts m.notifiers m.credits m.spent m.ignore_unused m.flight m.course m.prepare_holds m.enable_holds m.steps in
    let here : registered p.tree.clocks c.args.clock.0 ≡ true = subst (λ (q : Parts). registered q.tree.clocks c.args.clock.0 ≡ true) (sym c.self.view_is) c.requires in
    clock_within (desc_of m.tree) m.window m.tree c.args.clock.0 c.self.invariant.tied here

pub next_to_lower-requires-clause-links : goal.next_to_lower-requires-clause-links
next_to_lower-requires-clause-links g c = links_within (desc_of c.self.inside.tree) c.self.inside.window c.self.inside.tree c.self.invariant.tied

pub next_to_lower-requires-clause-counted : goal.next_to_lower-requires-clause-counted
next_to_lower-requires-clause-counted g c = c.self.invariant.counted.stands.size

pub next_to_lower-requires-clause-same : goal.next_to_lower-requires-clause-same
next_to_lower-requires-clause-same g c = c.self.invariant.counted.stands.links
