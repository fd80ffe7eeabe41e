-- The clocks before the next one are told of by their possible parents.
use Rattle.std.proofs.Common.{◌≡◌, ℕ, ◌<◌, length}
use Rattle.std.specs.List.{list_all}
use Rattle.clk_base.specs.Description.{parents_of}
use Rattle.clk_base.specs.Tables.{flag_at}
use Rattle.clk_base.proofs.rules.levels.one_level_more.Given as goal

abbrev pub invariant-loop-def : goal.invariant-loop-def
invariant-loop-def l = record {
  each : length l.ends.items ≡ l.def-index;
  told : (c : ℕ) → c < l.def-index → flag_at l.ends.items c ≡ list_all (flag_at l.above) (parents_of l.defs c);
}
