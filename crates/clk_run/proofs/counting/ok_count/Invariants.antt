use Rattle.std.proofs.Common.{◌≡◌, ◌+◌, drop}
use Rattle.clk_run.specs.Texts.{ok_count}
use Rattle.clk_run.proofs.counting.ok_count.Given as goal

-- the answers so far, and those of the drivers that are left
abbrev pub invariant-loop-own : goal.invariant-loop-own
invariant-loop-own l = l.count + ok_count (drop l.own-index l.answers) ≡ ok_count l.answers
