-- A step that was made: which one, what a poll was answered, and whether the call goes on or how it ended.
use Rattle.std.specs.Prelude.{Bool, Option, None}
use Rattle.clk_base.specs.declared.call.Micro.{Micro}
use Rattle.clk_base.specs.declared.call.Micro.TheVariants as micro
use Rattle.clk_base.specs.declared.event.Turn.{Turn}
use Rattle.clk_base.specs.declared.event.Turn.TheVariants as turn
use Rattle.core_parts.specs.declared.work.Made.{Made}
use Rattle.core_parts.specs.declared.work.Made.TheVariants.{GoesOn, Ends}

-- which step it was
abbrev pub step_of : Made → Micro
step_of (GoesOn step answer) = step
step_of (Ends reply) = micro.End

-- what a poll was answered
abbrev pub answer_of : Made → Option Bool
answer_of (GoesOn step answer) = answer
answer_of (Ends reply) = None

-- whether the call goes on, or how it ended
abbrev pub turn_of : Made → Turn
turn_of (GoesOn step answer) = turn.Going
turn_of (Ends reply) = turn.Done reply
