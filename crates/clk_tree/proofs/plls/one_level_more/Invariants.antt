-- The clocks before the next one are told of by their possible parents.
use Rattle.std.proofs.Common.{◌≡◌, ℕ, suc, ◌<◌, length}
use Rattle.std.specs.Prelude.{slice_index}
use Rattle.clk_model.specs.Script.{plls_within}
use Rattle.clk_tree.specs.PllCounts.{TellsPlls}
use Rattle.clk_tree.proofs.plls.one_level_more.Given as goal

abbrev pub invariant-loop-place : goal.invariant-loop-place
invariant-loop-place l = record {
  each : length l.counts.items ≡ l.place;
  told : (levels : ℕ) → TellsPlls l.desc.defs levels l.above → (c : ℕ) → c < l.place → slice_index l.counts.items c ≡ plls_within l.desc.defs (suc levels) c;
}
