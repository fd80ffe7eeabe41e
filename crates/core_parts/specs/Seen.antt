-- What planning sees of handles and counts.
use Rattle.std.specs.Prelude.{List, Option, Some, None}
use Rattle.clk_model.specs.declared.row.HandleRow.{HandleRow}
use Rattle.clk_model.specs.Round.{View}
use Rattle.counts_core.specs.Counted.{CountState, is_guarded, is_prepared}
use Rattle.rate_requests.specs.Handles.{low_in, high_in, with_range_at}
use Rattle.core_parts.specs.declared.seen.OtherRange.{OtherRange}

-- the boundaries that these handles set, and the clocks that these counts say are guarded and prepared
abbrev pub seen : List (Option HandleRow) → CountState → View
seen handles k = record { low = low_in handles; high = high_in handles; guarded = is_guarded k; prepared = is_prepared k }

-- the handles, of which one is to have another range if one is named
abbrev pub handles_seen : Option OtherRange → List (Option HandleRow) → List (Option HandleRow)
handles_seen None handles = handles
handles_seen (Some r) handles = with_range_at handles r.handle.number r.least r.most
