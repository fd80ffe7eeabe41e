-- What the steps of the reader promise.
use Rattle.std.specs.Prelude.{◌≡◌, ℕ, ◌+◌, ◌<◌, ◌^◌, true, false, List, [], ◌++◌, length, map, take, slice_index_or, slice_range, Option, Some, None, Result, Ok, Err, if◌then◌else◌}
use Rattle.std.specs.List.{list_all}
use Rattle.std.specs.Option.{option_to_list}
use Rattle.bundle_text.specs.Faults.{Tells}
use Rattle.bundle_text.specs.Firsts.{KeepsBelow}
use Rattle.clk_base.specs.declared.clock.Kind.TheVariants.{FixedRate}
use Rattle.bundle_text.specs.declared.reason.Reason.{Reason}
use Rattle.bundle_text.specs.declared.reason.Reason.TheVariants.{UnknownName}
use Rattle.bundle_text.specs.declared.fault.BundleFault.{BundleFault}
use Rattle.clock_lines.specs.declared.stop.LineStop.{LineStop}
use Rattle.clock_lines.specs.declared.stop.LineStop.TheVariants as stops
use Rattle.clock_lines.specs.declared.reading.SectionLines.{SectionLines}
use Rattle.clock_lines.specs.Said.{PlacedClock}
use Rattle.clock_lines.specs.Section.{placed_clock, clocks_before, is_named, fault_behind, fault_at, finds_parents, place_of}

-- a clock that stands for a place outside of a list
abbrev pub no_clock : PlacedClock
no_clock = record { place = 0; clock = record { name = []; kind = FixedRate 0; flags = record { 0 = 0 }; parents = [] } }

-- the clock at a place of a list
abbrev pub clock_number : List PlacedClock → ℕ → PlacedClock
clock_number clocks j = slice_index_or clocks j no_clock

-- the clocks behind the words of a line: with the one that they say, if they say one, or why not
abbrev pub TakesWords : ℕ → List PlacedClock → ℕ → List (List ℕ) → Result (List PlacedClock) LineStop → Type 0
TakesWords version earlier place words (Ok clocks) =
    (fault_behind version earlier words ≡ None) × (clocks ≡ earlier ++ option_to_list (placed_clock place words))
TakesWords version earlier place words (Err (stops.Wrong reason)) = fault_behind version earlier words ≡ Some reason
TakesWords version earlier place words (Err stops.NoMemory) = Unit {0}

-- the lines of a section of a text
abbrev pub lines_in : SectionLines → List (List ℕ)
lines_in section = slice_range section.lines.now section.from section.to

-- no line below a place has a fault, and these are the clocks of those lines
pub record IsRead (version : ℕ) (section : List (List ℕ)) (place : ℕ) (clocks : List PlacedClock) : Type 0 where
  pub kept : KeepsBelow (fault_at version section) place
  pub clocks_are : clocks ≡ clocks_before section place

-- no clock has the name of an earlier one
abbrev pub StandApart : List PlacedClock → Type 0
StandApart clocks = (j : ℕ) → j < length clocks → is_named (take j clocks) (clock_number clocks j).clock.name ≡ false

-- the lines of the clocks have numbers that fit
abbrev pub HaveLines : ℕ → List PlacedClock → Type 0
HaveLines from clocks = (j : ℕ) → j < length clocks → from + (clock_number clocks j).place + 1 < 2 ^ 32

-- the first clocks find their parents
abbrev pub FindParents : List PlacedClock → ℕ → Type 0
FindParents clocks n = (j : ℕ) → j < n → finds_parents clocks (clock_number clocks j) ≡ true

-- this is the first clock with a parent that no clock has for its name, and this its line
pub record IsFirstLacking (from : ℕ) (clocks : List PlacedClock) (line : ℕ) (reason : Reason) : Type 0 where
  pub number : ℕ
  pub within : number < length clocks
  pub before : FindParents clocks number
  pub lacks : finds_parents clocks (clock_number clocks number) ≡ false
  pub line_is : line ≡ from + (clock_number clocks number).place + 1
  pub reason_is : reason ≡ UnknownName

-- the fault tells the first clock with a parent that no clock has for its name
abbrev pub Lacks : ℕ → List PlacedClock → BundleFault → Type 0
Lacks from clocks = Tells (IsFirstLacking from clocks)

-- a parent of the clock is no clock's name, and its line is refused for that
abbrev pub IsLacking : ℕ → List PlacedClock → PlacedClock → ℕ → Reason → Type 0
IsLacking from clocks placed line reason = (finds_parents clocks placed ≡ false) × (line ≡ from + placed.place + 1) × (reason ≡ UnknownName)

-- the fault tells that this clock is one
abbrev pub LacksOf : ℕ → List PlacedClock → PlacedClock → BundleFault → Type 0
LacksOf from clocks placed = Tells (IsLacking from clocks placed)

-- the places of the clocks with these names, where each name is a clock's
unfoldable pub places_in : List PlacedClock → List (List ℕ) → Option (List ℕ)
places_in clocks names = if list_all (is_named clocks) names then Some (map (place_of clocks) names) else None
