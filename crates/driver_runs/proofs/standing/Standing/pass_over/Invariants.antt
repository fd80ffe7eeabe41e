use Rattle.std.proofs.Common.{◌-◌, length}
use Rattle.driver_runs.specs.Standing.{PassesSome}
use Rattle.driver_runs.proofs.standing.Standing.pass_over.Given as goal

-- some of the skipped commands were passed over
abbrev pub invariant-skipped : goal.invariant-skipped
invariant-skipped l = PassesSome l.commands l.fn.self l.self

-- the commands that are left
abbrev pub decreases-skipped : goal.decreases-skipped
decreases-skipped l = length l.commands - length l.self.answers.items
