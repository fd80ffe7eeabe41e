-- The tree: paths, roots, children, orphans, and the parent that a registration gives.
use Rattle.std.specs.Prelude.{ℕ, zero, suc, List, [], ◌∷◌, Bool, not, ◌&&◌, Option, Some, None, slice_get, filter, if◌then◌else◌, option_and_then, is_none}
use Rattle.std.specs.List.{list_any}
use Rattle.std.specs.Option.{option_map_or}
use Rattle.clk_base.specs.Description.{Description, kind_of, parents_of}
use Rattle.clk_base.specs.Levels.{depth}
use Rattle.reg_bank.specs.Registers.{Registers, field}
use Rattle.clk_model.specs.declared.row.ClockRow.{ClockRow}
use Rattle.clk_model.specs.Lists.{is_at}
use Rattle.clk_model.specs.Kinds.{is_fixed, mux_field}
use Rattle.clk_model.specs.State.{registered, link_in}

-- a clock and the clocks above it, within so many levels
abbrev pub path_within : (ℕ → Option ℕ) → ℕ → ℕ → List ℕ
path_within up zero c = []
path_within up (suc levels) c = c ∷ option_map_or (path_within up levels) (up c) []

-- the clock and its ancestors by link
abbrev pub path : List ClockRow → ℕ → List ℕ
path clocks c = path_within (link_in clocks) depth c

-- the parent that the registers select: of a mux the one at the place in its field, of another clock its one possible parent
abbrev pub selected : Description → Registers → ℕ → Option ℕ
selected defs regs c =
    option_map_or (λ f. slice_get (parents_of defs c) (field regs f.word f.shift f.width)) (mux_field (kind_of defs c)) (slice_get (parents_of defs c) 0)

-- the clock, if it is registered
abbrev pub if_registered : List ClockRow → ℕ → Option ℕ
if_registered clocks p = if registered clocks p then Some p else None

-- the parent that a registration of the clock would link
unfoldable pub link_given : Description → Registers → List ClockRow → ℕ → Option ℕ
link_given defs regs clocks c = option_and_then (if_registered clocks) (selected defs regs c)

-- the path of a clock; of one that isn't registered, the path that its registration would give it
abbrev pub path_to_be : Description → Registers → List ClockRow → ℕ → List ℕ
path_to_be defs regs clocks c =
    if registered clocks c then path clocks c else c ∷ option_map_or (path clocks) (link_given defs regs clocks c) []

-- whether the clock is registered and its path ends in a fixed-rate clock
abbrev pub rooted : Description → List ClockRow → ℕ → Bool
rooted defs clocks c = registered clocks c && list_any (λ a. is_fixed (kind_of defs a)) (path clocks c)

-- the clocks that are attached to p, the newest attached first
abbrev pub children : List ℕ → List ClockRow → ℕ → List ℕ
children order clocks p = filter (λ c. is_at p (link_in clocks c)) order

-- the fixed-rate clocks that are registered, the newest first
abbrev pub roots : Description → List ℕ → List ℕ
roots defs order = filter (λ c. is_fixed (kind_of defs c)) order

-- whether a registered clock lacks the parent that it ought to have
abbrev pub is_orphan : Description → List ClockRow → ℕ → Bool
is_orphan defs clocks c = not (is_fixed (kind_of defs c)) && is_none (link_in clocks c)

-- the orphans, the newest attached first
abbrev pub orphans : Description → List ℕ → List ClockRow → List ℕ
orphans defs order clocks = filter (is_orphan defs clocks) order
