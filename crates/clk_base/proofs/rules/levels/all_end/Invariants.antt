-- The clocks before the next one are told of.
use Rattle.std.proofs.Common.{◌≡◌, true, take}
use Rattle.std.specs.List.{list_all}
use Rattle.clk_base.specs.Tables.{flag_at}
use Rattle.clk_base.proofs.rules.levels.all_end.Given as goal

abbrev pub invariant-loop-p : goal.invariant-loop-p
invariant-loop-p l = list_all (λ p. flag_at l.above p.0) (take l.p-index l.parents) ≡ true
