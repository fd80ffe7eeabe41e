use Rattle.std.proofs.Common.{◌≡◌, ◌≤◌}
use Rattle.bundle_text.specs.Firsts.{KeepsBelow}
use Rattle.dts_clocks.specs.Joined.{total}
use Rattle.dts_clocks.specs.Loaded.{seen_loaded, loaded_before}
use Rattle.dts_clocks.specs.SecondPass.{entries_at, second_fault}
use Rattle.dts_clocks.proofs.loading.load.Given as goal

-- the nodes so far
abbrev pub invariant-loop-at : goal.invariant-loop-at
invariant-loop-at l =
    record {
      loaded : seen_loaded l.loaded ≡ loaded_before l.chart l.at;
      entries : l.entries ≡ total (entries_at l.chart) l.at;
      few : l.entries ≤ 4096;
      kept : KeepsBelow (second_fault l.chart) l.at;
    }
