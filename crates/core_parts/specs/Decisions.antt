-- How a call that changes a rate or a parent begins, as a verdict and a draft tell it together.
use Rattle.std.specs.Prelude.{◌≢◌}
use Rattle.clk_base.specs.declared.event.Errno.{Errno}
use Rattle.clk_base.specs.declared.event.Errno.TheVariants as errno
use Rattle.clk_tree.specs.declared.plan.Plan.{Plan}
use Rattle.change_walk.specs.Given.{Script}
use Rattle.core_parts.specs.declared.decision.Verdict.{Verdict}
use Rattle.core_parts.specs.declared.decision.Verdict.TheVariants as verdict
use Rattle.core_parts.specs.declared.draft.Draft.{Draft}

-- it is refused, answered by Ok at once, or goes on with a plan and its script
pub data Decision : Type 0 where
  Refused : Errno → Decision
  AtOnce : Decision
  Change : Plan → Script → Decision

-- it isn't refused for want of room, which is no matter of a decision
abbrev pub LeavesRoomOut : Decision → Type 0
LeavesRoomOut (Refused e) = e ≢ errno.ENOSPC
LeavesRoomOut _ = Unit {0}

-- a call that goes on does so with what the draft holds
abbrev pub decision_of : Draft → Verdict → Decision
decision_of draft (verdict.Refused e) = Refused e
decision_of draft verdict.AtOnce = AtOnce
decision_of draft verdict.Change = Change draft.planning.plan draft.script
