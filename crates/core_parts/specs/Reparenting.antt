-- Why a change of parent is refused, as the parts of a core tell it.
use Rattle.std.specs.Prelude.{ℕ, ◌&&◌, ◌||◌, List, Bool, not, Option, Some, None, nat_le, is_some, length, if◌then◌else◌}
use Rattle.clk_base.specs.declared.event.Errno.{Errno}
use Rattle.clk_base.specs.declared.event.Errno.TheVariants as errno
use Rattle.clk_base.specs.Description.{Description, kind_of, parents_of}
use Rattle.clk_base.specs.Flags.{sets_parent_gate}
use Rattle.clk_model.specs.declared.row.ClockRow.{ClockRow}
use Rattle.clk_model.specs.declared.row.HandleRow.{HandleRow}
use Rattle.clk_model.specs.Kinds.{mux_field, is_read_only}
use Rattle.clk_model.specs.Lists.{is_in}
use Rattle.clk_model.specs.Tree.{rooted}
use Rattle.counts_core.specs.Counted.{CountState, is_guarded, is_prepared}
use Rattle.core_parts.specs.Free.{is_sole}

-- a mux that is only read, with two possible parents or more
abbrev pub is_bound : Description → ℕ → Bool
is_bound defs c = is_read_only (kind_of defs c) && nat_le 2 (length (parents_of defs c))

-- a mux with this possible parent, which is rooted
abbrev pub is_candidate : Description → List ClockRow → ℕ → ℕ → Bool
is_candidate defs clocks c p = is_some (mux_field (kind_of defs c)) && is_in p (parents_of defs c) && rooted defs clocks p

-- the first of these causes that holds, where the last is that the parent is no candidate
abbrev pub first_cause : Bool → Bool → Bool → Option Errno
first_cause bound busy candidate =
    if bound then Some errno.EPERM else (if busy then Some errno.EBUSY else (if candidate then None else Some errno.EINVAL))

-- why the clock of a handle doesn't get another parent, by these counts, if it doesn't; one exclusive of the handle doesn't count
abbrev pub parent_refusal : Description → List ClockRow → CountState → HandleRow → ℕ → Option Errno
parent_refusal defs clocks k row p =
    first_cause (is_bound defs row.clock.0) ((sets_parent_gate defs row.clock.0 && is_prepared k row.clock.0) || (is_guarded k row.clock.0 && not (is_sole row k)))
    (is_candidate defs clocks row.clock.0 p)
