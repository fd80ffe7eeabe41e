use Rattle.std.proofs.Common.{◌≡◌, ◌<◌, false}
use Rattle.notifiers.specs.Chains.{without_notifier}
use Rattle.clk_machine.specs.Parts.{Parts, parts_of}
use Rattle.clk_machine.proofs.Notifying.{whole_notified, becomes_notified}
use Rattle.clk_machine.proofs.machine.Machine.remove_notifier.Goals as goal

pub invariant_of-self : goal.invariant_of-self
invariant_of-self g c =
    let m = c.self.inside in
    let p : Parts = parts_of m.window m.tree m.handles m.counts m.notifiers m.credits m.spent m.ignore_unused m.flight m.course m.prepare_holds m.enable_holds m.steps in
    let quiet : m.flight.going ≡ false = rw (← c.self.view_is) at c.requires.quiet in
    let left : m.spent < m.credits = rw (← c.self.view_is) at c.requires.credit in
    whole_notified p c.remove-had.new.self c.self.invariant quiet left c.remove-had.ensures.clocks (record { rows = without_notifier c.args.clock.0 c.args.id c.self.invariant.listed.rows; tells = c.remove-had.ensures.told c.self.invariant.listed.rows c.self.invariant.listed.tells })

pub returns-clause-removed : goal.returns-clause-removed
returns-clause-removed g c =
    let m = c.self.inside in
    let p : Parts = parts_of m.window m.tree m.handles m.counts m.notifiers m.credits m.spent m.ignore_unused m.flight m.course m.prepare_holds m.enable_holds m.steps in
    let quiet : m.flight.going ≡ false = rw (← c.self.view_is) at c.requires.quiet in
    rw (← c.self.view_is) (becomes_notified p c.remove-had.new.self (without_notifier c.args.clock.0 c.args.id) quiet c.remove-had.ensures.told)
