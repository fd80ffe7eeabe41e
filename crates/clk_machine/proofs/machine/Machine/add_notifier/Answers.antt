use Rattle.std.proofs.Common.{◌≡◌, ◌<◌, ◌∷◌, ◌++◌, [], sym, subst, ℕ, ℤ, length, w32, false}
use Rattle.std.proofs.lemmas.Int.{to_z-of_z}
use Rattle.notifiers.specs.Chains.{Tells}
use Rattle.clk_machine.specs.Parts.{Parts, parts_of}
use Rattle.clk_machine.proofs.Notifying.{whole_notified, becomes_notified}
use Rattle.clk_machine.proofs.machine.Machine.add_notifier.Goals as goal

pub add-requires : goal.add-requires
add-requires g c =
    let m = c.self.inside in
    let within : c.args.clock.0 < length m.tree.defs = rw (← c.self.view_is) at c.requires.place in
    subst (λ (n : ℕ). c.args.clock.0 < n) (sym c.self.invariant.notified) within

pub invariant_of-self-2 : goal.invariant_of-self-2
invariant_of-self-2 g c =
    let m = c.self.inside in
    let p : Parts = parts_of m.window m.tree m.handles m.counts m.notifiers m.credits m.spent m.ignore_unused m.flight m.course m.prepare_holds m.enable_holds m.steps in
    let quiet : m.flight.going ≡ false = rw (← c.self.view_is) at c.requires.quiet in
    let left : m.spent < m.credits = rw (← c.self.view_is) at c.requires.credit in
    let listed = c.self.invariant.listed in
    whole_notified p c.add.new.self c.self.invariant quiet left c.add.ensures.clocks (record {
      rows = listed.rows ++ record { clock = c.args.clock.0; id = c.args.id; priority = c.args.priority; policy = c.args.policy } ∷ [];
      tells = subst (λ (z : ℤ). Tells c.add.new.self (listed.rows ++ record { clock = c.args.clock.0; id = c.args.id; priority = z; policy = c.args.policy } ∷ []))
          (to_z-of_z w32 c.args.priority c.ranges.priority) (c.in_ok-add.ensures.told listed.rows listed.tells);
    })

pub returns-clause-ok : goal.returns-clause-ok
returns-clause-ok g c =
    let m = c.self.inside in
    let p : Parts = parts_of m.window m.tree m.handles m.counts m.notifiers m.credits m.spent m.ignore_unused m.flight m.course m.prepare_holds m.enable_holds m.steps in
    let quiet : m.flight.going ≡ false = rw (← c.self.view_is) at c.requires.quiet in
    rw (← c.self.view_is)
    (becomes_notified p c.add.new.self (λ ns. ns ++ record { clock = c.args.clock.0; id = c.args.id; priority = c.args.priority; policy = c.args.policy } ∷ []) quiet
    (λ ns tells.
    subst (λ (z : ℤ). Tells c.add.new.self (ns ++ record { clock = c.args.clock.0; id = c.args.id; priority = z; policy = c.args.policy } ∷ []))
    (to_z-of_z w32 c.args.priority c.ranges.priority) (c.in_ok-add.ensures.told ns tells)))
