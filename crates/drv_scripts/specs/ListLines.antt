-- The lines of the sections behind the bank's that aren't a driver's: locks of PLLs, late clocks, and turns of drivers.
use Rattle.std.specs.Prelude.{ℕ, zero, suc, ◌+◌, ◌-◌, nat_lt, List, [], ◌∷◌, ◌++◌, length, Option, Some, None, Result, Ok, Err, if◌then◌else◌}
use Rattle.std.specs.List.{position}
use Rattle.std.specs.Option.{option_map, option_and_then, unwrap_or, is_some}
use Rattle.std.specs.Str.{bytes_eq}
use Rattle.bundle_text.specs.Firsts.{said_from}
use Rattle.bundle_text.specs.Lines.{line_at}
use Rattle.bundle_text.specs.Numbers.{number_within}
use Rattle.bundle_text.specs.Words.{said_words}
use Rattle.bundle_text.specs.declared.reason.Reason.{Reason}
use Rattle.bundle_text.specs.declared.reason.Reason.TheVariants.{BadWords, BadNumber, UnknownName, TooManyTurns}
use Rattle.clk_base.specs.declared.clock.ClockId.{ClockId}
use Rattle.clk_base.specs.Description.{Description, clock_named, kind_of}
use Rattle.clk_base.specs.Fields.{power_of}
use Rattle.drv_scripts.specs.declared.bundle.LockLine.{LockLine}
use Rattle.drv_scripts.specs.declared.bundle.LateLine.{LateLine}
use Rattle.drv_scripts.specs.Judged.{words_fault, words_say}

-- ## Locks of PLLs

-- a clock, if it is a PLL: those have a bit for their power
unfoldable pub as_pll : Description → ClockId → Option ClockId
as_pll defs c = if is_some (power_of (kind_of defs c.0)) then Some c else None

-- the PLL of a name, if there is one
unfoldable pub pll_named : Description → List ℕ → Option ClockId
pll_named defs name = option_and_then (as_pll defs) (clock_named defs name)

-- a lock, where its polls are a number and its clock a PLL
unfoldable pub lock_said : Option ClockId → Option ℕ → Result LockLine Reason
lock_said clock None = Err BadNumber
lock_said None (Some polls) = Err UnknownName
lock_said (Some clock) (Some polls) = Ok (record { clock = clock; polls = polls })

-- what the words of a line `NAME D` say
unfoldable pub lock_line : Description → List (List ℕ) → Result LockLine Reason
lock_line defs (name ∷ polls ∷ []) = lock_said (pll_named defs name) (number_within 1 1000 polls)
lock_line defs _ = Err BadWords

-- what is wrong with the line at a place
unfoldable pub lock_fault : Description → List (List ℕ) → ℕ → Option Reason
lock_fault defs ls k = words_fault (said_words (line_at ls k)) (lock_line defs (said_words (line_at ls k)))

-- the lock that the line at a place states
unfoldable pub lock_at : Description → List (List ℕ) → ℕ → Option LockLine
lock_at defs ls k = words_say (said_words (line_at ls k)) (lock_line defs (said_words (line_at ls k)))

-- the locks that so many lines from a place on state, in their order
unfoldable pub locks_of : Description → List (List ℕ) → ℕ → ℕ → List LockLine
locks_of defs ls from count = said_from (lock_at defs ls) from count

-- ## Late clocks

-- a late clock on a line, where there is one
unfoldable pub late_said : ℕ → Option ClockId → Result LateLine Reason
late_said line None = Err UnknownName
late_said line (Some clock) = Ok (record { clock = clock; line = line })

-- what the words of a line `NAME` with this number say
unfoldable pub late_line : Description → ℕ → List (List ℕ) → Result LateLine Reason
late_line defs line (name ∷ []) = late_said line (clock_named defs name)
late_line defs line _ = Err BadWords

-- what is wrong with the line at a place
unfoldable pub late_fault : Description → List (List ℕ) → ℕ → Option Reason
late_fault defs ls k = words_fault (said_words (line_at ls k)) (late_line defs (k + 1) (said_words (line_at ls k)))

-- the late clock that the line at a place states
unfoldable pub late_at : Description → List (List ℕ) → ℕ → Option LateLine
late_at defs ls k = words_say (said_words (line_at ls k)) (late_line defs (k + 1) (said_words (line_at ls k)))

-- the late clocks that so many lines from a place on state, in their order
unfoldable pub late_of : Description → List (List ℕ) → ℕ → ℕ → List LateLine
late_of defs ls from count = said_from (late_at defs ls) from count

-- ## Turns of drivers

-- the number of the driver of a name, where these are the drivers' names in their order; drivers are numbered from 1
abbrev pub driver_number : List (List ℕ) → List ℕ → Option ℕ
driver_number names name = option_map (λ i. i + 1) (position (λ own. bytes_eq own name) names)

-- the numbers of the drivers that words name; none where a word names no driver
unfoldable pub turns_named : List (List ℕ) → List (List ℕ) → Option (List ℕ)
turns_named names [] = Some []
turns_named names (word ∷ words) = option_and_then (λ d. option_map (λ more. d ∷ more) (turns_named names words)) (driver_number names word)

-- the turns that the line at a place states
unfoldable pub turns_at : List (List ℕ) → List (List ℕ) → ℕ → List ℕ
turns_at names ls k = unwrap_or (turns_named names (said_words (line_at ls k))) []

-- the turns that so many lines from a place on state, in their order
unfoldable pub turns_of : List (List ℕ) → List (List ℕ) → ℕ → ℕ → List ℕ
turns_of names ls from zero = []
turns_of names ls from (suc count) = turns_at names ls from ++ turns_of names ls (from + 1) count

-- what is wrong with turns that are known or not, behind so many
abbrev pub turns_fault : ℕ → Option (List ℕ) → Option Reason
turns_fault before None = Some UnknownName
turns_fault before (Some turns) = if nat_lt 1048576 (before + length turns) then Some TooManyTurns else None

-- what is wrong with the line at a place of the section behind whose header this place stands: a word that is no driver's name, or one turn more than there may be
unfoldable pub order_fault : List (List ℕ) → List (List ℕ) → ℕ → ℕ → Option Reason
order_fault names ls first k = turns_fault (length (turns_of names ls first (k - first))) (turns_named names (said_words (line_at ls k)))
