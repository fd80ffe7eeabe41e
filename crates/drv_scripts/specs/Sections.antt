-- The lines of the sections behind the clocks, each judged by the section that it stands in.
use Rattle.std.specs.Prelude.{ℕ, ◌+◌, ◌-◌, ◌==◌, nat_lt, List, [], ◌∷◌, length, slice_get, Option, Some, None, if◌then◌else◌}
use Rattle.std.specs.List.{position, sum_by, flat_map}
use Rattle.std.specs.Option.{option_map, option_and_then, option_flatten, is_some}
use Rattle.std.specs.Str.{bytes_eq}
use Rattle.bundle_clocks.specs.Said.{SaidClocks}
use Rattle.bundle_sections.specs.Headers.{Said, device_tree, clocks, bank, lock, late, driver, order}
use Rattle.bundle_sections.specs.Said.{Parts}
use Rattle.bundle_sections.specs.Sections.{SaidSection}
use Rattle.bundle_sections.specs.declared.section.BankSection.{BankSection}
use Rattle.bundle_text.specs.Faults.{unless}
use Rattle.bundle_text.specs.declared.reason.Reason.{Reason}
use Rattle.bundle_text.specs.declared.reason.Reason.TheVariants.{UnknownName}
use Rattle.clk_base.specs.Description.{Description}
use Rattle.dts_clocks.specs.Consumers.{SeenName, SeenConsumer}
use Rattle.drv_scripts.specs.declared.bundle.LateLine.{LateLine}
use Rattle.drv_scripts.specs.declared.bundle.LockLine.{LockLine}
use Rattle.drv_scripts.specs.declared.bundle.Script.{Script}
use Rattle.drv_scripts.specs.BankLines.{word_fault}
use Rattle.drv_scripts.specs.Commands.{command_fault, commands_of}
use Rattle.drv_scripts.specs.ListLines.{lock_fault, locks_of, late_fault, late_of, turns_of, order_fault}

-- what a line is judged by: all lines, the clocks of the description, the consumers, and the names of the drivers
pub record Around : Type 0 where
  pub lines : List (List ℕ)
  pub defs : Description
  pub consumers : List SeenConsumer
  pub drivers : List (List ℕ)

-- these four together
abbrev pub with_clocks : List (List ℕ) → Description → List SeenConsumer → List (List ℕ) → Around
with_clocks ls defs consumers drivers = record { lines = ls; defs = defs; consumers = consumers; drivers = drivers }

-- the driver's name that a header has, if it is a driver's
abbrev pub name_in : Said → List (List ℕ)
name_in (driver name path) = name ∷ []
name_in _ = []

-- the names of the drivers, in their order
abbrev pub driver_names : List SaidSection → List (List ℕ)
driver_names sections = flat_map (λ s. name_in s.says) sections

-- lines in sections, with what the section of the clocks says
abbrev pub around : List (List ℕ) → Parts → SaidClocks → Around
around ls parts said = with_clocks ls said.defs said.consumers (driver_names parts.others)

-- a section with this header between these places
abbrev pub section_from : Said → ℕ → ℕ → SaidSection
section_from says place end = record { says = says; place = place; end = end }

-- the first consumer with a path
abbrev pub consumer_at : List SeenConsumer → List ℕ → Option SeenConsumer
consumer_at consumers path = option_and_then (slice_get consumers) (position (λ c. bytes_eq c.path path) consumers)

-- the names that the path of a header gives a driver, if it has one; none where no consumer has the path
unfoldable pub names_at : List SeenConsumer → Option (List ℕ) → Option (Option (List SeenName))
names_at consumers None = Some None
names_at consumers (Some path) = option_map (λ c. Some c.names) (consumer_at consumers path)

-- the same, where the path is a consumer's
abbrev pub names_of : Around → Option (List ℕ) → Option (List SeenName)
names_of a path = option_flatten (names_at a.consumers path)

-- what is wrong with a header: its path is no consumer's
unfoldable pub header_fault : Around → Said → Option Reason
header_fault a (driver name path) = unless (is_some (names_at a.consumers path)) UnknownName
header_fault a device_tree = None
header_fault a clocks = None
header_fault a (bank words) = None
header_fault a lock = None
header_fault a late = None
header_fault a order = None

-- what is wrong with a line behind the header of a section, so many commands standing before the section
unfoldable pub inside_fault : Around → ℕ → ℕ → Said → ℕ → Option Reason
inside_fault a before first (driver name path) k = command_fault a.defs (names_of a path) before a.lines first k
inside_fault a before first device_tree k = None
inside_fault a before first clocks k = None
inside_fault a before first (bank words) k = None
inside_fault a before first lock k = lock_fault a.defs a.lines k
inside_fault a before first late k = late_fault a.defs a.lines k
inside_fault a before first order k = order_fault a.drivers a.lines first k

-- what is wrong with a line of a section
unfoldable pub section_fault : Around → ℕ → SaidSection → ℕ → Option Reason
section_fault a before s k = if k == s.place then header_fault a s.says else inside_fault a before (s.place + 1) s.says k

-- the driver of a section that says this, between these places
unfoldable pub scripts_between : Around → Said → ℕ → ℕ → List Script
scripts_between a (driver name path) first end = record { name = name; commands = commands_of a.defs (names_of a path) a.lines first (end - first) } ∷ []
scripts_between a device_tree first end = []
scripts_between a clocks first end = []
scripts_between a (bank words) first end = []
scripts_between a lock first end = []
scripts_between a late first end = []
scripts_between a order first end = []

-- the driver of a section, if it is a driver's
abbrev pub scripts_in : Around → SaidSection → List Script
scripts_in a s = scripts_between a s.says (s.place + 1) s.end

-- the locks of PLLs that a section which says this states between these places
unfoldable pub locks_between : Around → Said → ℕ → ℕ → List LockLine
locks_between a lock first end = locks_of a.defs a.lines first (end - first)
locks_between a _ first end = []

-- the locks of a section
abbrev pub locks_in : Around → SaidSection → List LockLine
locks_in a s = locks_between a s.says (s.place + 1) s.end

-- the late clocks that a section which says this states between these places
unfoldable pub late_between : Around → Said → ℕ → ℕ → List LateLine
late_between a late first end = late_of a.defs a.lines first (end - first)
late_between a _ first end = []

-- the late clocks of a section
abbrev pub late_in : Around → SaidSection → List LateLine
late_in a s = late_between a s.says (s.place + 1) s.end

-- the turns of drivers that a section which says this states between these places
unfoldable pub turns_between : Around → Said → ℕ → ℕ → List ℕ
turns_between a order first end = turns_of a.drivers a.lines first (end - first)
turns_between a _ first end = []

-- the turns of a section
abbrev pub turns_in : Around → SaidSection → List ℕ
turns_in a s = turns_between a s.says (s.place + 1) s.end

-- how many commands drivers have
abbrev pub count_of : List Script → ℕ
count_of scripts = sum_by (λ s. length s.commands) scripts

-- what is wrong with a line of these sections, one behind another, so many commands standing before them
unfoldable pub fault_among : Around → ℕ → List SaidSection → ℕ → Option Reason
fault_among a before [] k = None
fault_among a before (s ∷ more) k = if nat_lt k s.end then section_fault a before s k else fault_among a (before + count_of (scripts_in a s)) more k

-- what is wrong with a line through the section of the bank
abbrev pub bank_fault : List (List ℕ) → BankSection → ℕ → Option Reason
bank_fault ls b k = if nat_lt b.place k then word_fault b.words ls k else None

-- what is wrong with the line at a place; the lines of the clocks are judged apart
unfoldable pub fault_at : Around → BankSection → List SaidSection → ℕ → Option Reason
fault_at a b others k = if nat_lt k b.end then bank_fault a.lines b k else fault_among a 0 others k
