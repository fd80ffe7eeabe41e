use Rattle.std.proofs.Common.{◌≡◌, drop}
use Rattle.dts_tree.specs.State.{state_of}
use Rattle.dts_tree.specs.Steps.{run}
use Rattle.dts_tree.proofs.reading.run.Given as goal

-- what is left leads where the whole leads
abbrev pub invariant-loop-token : goal.invariant-loop-token
invariant-loop-token l = run l.text l.tokens (state_of l.initial.reader) ≡ run l.text (drop l.token-index l.tokens) (state_of l.reader)
