use Rattle.std.proofs.Common.{◌≡◌, ◌<◌, ◌++◌, length, string_bytes}
use Rattle.dts_clocks.proofs.Uplines.{trail}
use Rattle.dts_clocks.proofs.above.path_of.Given as goal

-- the names so far stand behind those from below the root to the place
abbrev pub invariant-loop-parent : goal.invariant-loop-parent
invariant-loop-parent l =
    record {
      within : l.place < length l.nodes;
      so_far : trail l.nodes l.at ≡ trail l.nodes l.place ++ string_bytes l.path;
    }

abbrev pub decreases-loop-parent : goal.decreases-loop-parent
decreases-loop-parent l = l.place
