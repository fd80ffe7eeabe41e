-- The taken bits are those of the clocks before the next one, and these clocks share none.
use Rattle.std.proofs.Common.{◌≡◌, ℕ, ◌<◌, true, length}
use Rattle.clk_base.specs.Tables.{IsTaken}
use Rattle.clk_base.specs.Valid.{keeps_apart, fields_before}
use Rattle.clk_base.proofs.rules.apart.first_overlap.Given as goal

abbrev pub invariant-loop-i : goal.invariant-loop-i
invariant-loop-i l = record {
  words : length l.taken ≡ l.words;
  taken : IsTaken l.taken (fields_before l.defs l.i);
  kept : (k : ℕ) → k < l.i → keeps_apart l.words l.defs k ≡ true;
}
