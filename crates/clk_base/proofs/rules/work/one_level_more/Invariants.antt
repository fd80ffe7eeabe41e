-- The work of the clocks before the next one is that over the table.
use Rattle.std.proofs.Common.{◌≡◌, ℕ, ◌<◌, length, slice_index}
use Rattle.clk_base.proofs.Worked.{work_over}
use Rattle.clk_base.proofs.rules.work.one_level_more.Given as goal

abbrev pub invariant-loop-def : goal.invariant-loop-def
invariant-loop-def l = record {
  each : length l.works.items ≡ l.def-index;
  told : (c : ℕ) → c < l.def-index → slice_index l.works.items c ≡ work_over l.defs l.above c;
}
