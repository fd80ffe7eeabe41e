-- The lines of a section of clocks, each judged by its place in the section, from 0, and by the version of the bundle.
use Rattle.std.specs.Prelude.{ℕ, ◌+◌, ◌==◌, Bool, false, List, [], length, map, slice_index_or, Option, Some, None, if◌then◌else◌}
use Rattle.std.specs.List.{list_all, list_any, position_or_len}
use Rattle.std.specs.Option.{option_map, option_map_or}
use Rattle.std.specs.Result.{result_ok, result_err}
use Rattle.std.specs.Str.{bytes_eq}
use Rattle.clk_base.specs.declared.clock.ClockDef.{ClockDef}
use Rattle.clk_base.specs.Description.{Description}
use Rattle.bundle_text.specs.Firsts.{said_from}
use Rattle.bundle_text.specs.Lines.{line_at}
use Rattle.bundle_text.specs.Words.{said_words}
use Rattle.bundle_text.specs.declared.reason.Reason.{Reason}
use Rattle.bundle_text.specs.declared.reason.Reason.TheVariants.{UnknownName}
use Rattle.clock_lines.specs.Said.{PlacedClock}
use Rattle.clock_lines.specs.ClockLines.{clock_line, known_line}

-- the clock that the words of a line say where they have a form, with the place of the line
unfoldable pub placed_clock : ℕ → List (List ℕ) → Option PlacedClock
placed_clock k words = option_map (λ clock. record { place = k; clock = clock }) (result_ok (clock_line false words))

-- the clock that the line at a place says
unfoldable pub clock_at : List (List ℕ) → ℕ → Option PlacedClock
clock_at section k = placed_clock k (said_words (line_at section k))

-- the clocks that the lines before a place say, in order
unfoldable pub clocks_before : List (List ℕ) → ℕ → List PlacedClock
clocks_before section k = said_from (clock_at section) 0 k

-- the clocks that all lines say
abbrev pub all_clocks : List (List ℕ) → List PlacedClock
all_clocks section = clocks_before section (length section)

-- the names of clocks, in order
abbrev pub names_of : List PlacedClock → List (List ℕ)
names_of clocks = map (λ placed. placed.clock.name) clocks

-- the name is that of one of the clocks
abbrev pub is_named : List PlacedClock → List ℕ → Bool
is_named clocks name = list_any (bytes_eq name) (names_of clocks)

-- the name that words give their clock
abbrev pub name_word : List (List ℕ) → List ℕ
name_word words = slice_index_or words 1 []

-- what is wrong with words, if there are any, behind the clocks of the earlier lines
unfoldable pub fault_behind : ℕ → List PlacedClock → List (List ℕ) → Option Reason
fault_behind version earlier words =
    if length words == 0 then None else result_err (known_line version (clock_line (is_named earlier (name_word words)) words))

-- what is wrong with the line at a place by itself and by the names of the lines before it
unfoldable pub fault_at : ℕ → List (List ℕ) → ℕ → Option Reason
fault_at version section k = fault_behind version (clocks_before section k) (said_words (line_at section k))

-- each parent of the clock is the name of one of the clocks
unfoldable pub finds_parents : List PlacedClock → PlacedClock → Bool
finds_parents clocks placed = list_all (is_named clocks) placed.clock.parents

-- the fault of a clock with a parent that no clock has for its name
abbrev pub parent_fault : List PlacedClock → PlacedClock → Option Reason
parent_fault clocks placed = if finds_parents clocks placed then None else Some UnknownName

-- the fault of the line at a place with a parent that no line of the section names
unfoldable pub parent_fault_at : List (List ℕ) → ℕ → Option Reason
parent_fault_at section k = option_map_or (parent_fault (all_clocks section)) (clock_at section k) None

-- the place of a name among the clocks
abbrev pub place_of : List PlacedClock → List ℕ → ℕ
place_of clocks name = position_or_len (bytes_eq name) (names_of clocks)

-- a clock of a description, its parents by their places among the clocks
unfoldable pub clock_in : List PlacedClock → PlacedClock → ClockDef
clock_in clocks placed =
    let said = placed.clock in
    record { name = said.name; kind = said.kind; flags = said.flags; parents = map (place_of clocks) said.parents }

-- the description that the lines spell
unfoldable pub desc_of : List (List ℕ) → Description
desc_of section = map (clock_in (all_clocks section)) (all_clocks section)

-- the lines of the clocks, counted from 1, of a section that begins at a place of a text
unfoldable pub lines_of : ℕ → List (List ℕ) → List ℕ
lines_of from section = map (λ placed. from + placed.place + 1) (all_clocks section)
