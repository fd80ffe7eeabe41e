-- What the readers promise: the lines up to a place have no fault and say this, or why they were not read; want of memory says nothing of them.
use Rattle.std.specs.Prelude.{◌≡◌, ℕ, ◌<◌, ◌≤◌, true, List, [], ◌∷◌, ◌++◌, length, drop, Option, Some, None, Result, MatchResult}
use Rattle.std.specs.Option.{option_map, option_and_then}
use Rattle.bundle_text.specs.Faults.{Tells}
use Rattle.bundle_text.specs.Firsts.{KeepsBelow}
use Rattle.bundle_text.specs.Lines.{line_at, is_header, header_from}
use Rattle.bundle_text.specs.declared.fault.BundleFault.{BundleFault}
use Rattle.bundle_text.specs.declared.reason.Reason.{Reason}
use Rattle.bundle_sections.specs.declared.section.BankSection.{BankSection}
use Rattle.bundle_sections.specs.declared.section.ClockSection.{ClockSection}
use Rattle.bundle_sections.specs.declared.section.ClockText.TheVariants.{Lines, DeviceTree}
use Rattle.bundle_sections.specs.Headers.{Said, device_tree, clocks, bank}
use Rattle.bundle_sections.specs.Said.{Parts}
use Rattle.bundle_sections.specs.Sections.{SaidSection, fault_at, sections_before}
use Rattle.bundle_sections.specs.Verdict.{Faults}

-- the fault tells the first line at which a test finds one
abbrev pub Stops : (ℕ → Option Reason) → ℕ → BundleFault → Type 0
Stops test n = Tells (Faults test n)

-- the test finds no fault before a place, and what was read is right; or why not
abbrev pub Reads : {X : Type 0} → (ℕ → Option Reason) → ℕ → ℕ → (X → Type 0) → Result X BundleFault → Type 0
Reads test n to P r = MatchResult r (λ x. KeepsBelow test to × P x) (Stops test n)

-- the next header stands here, or the end; the lines before have no fault, and these are their sections
pub record AtHeader (ls : List (List ℕ)) (at : ℕ) (found : List SaidSection) : Type 0 where
  pub low : 0 < at
  pub high : at ≤ length ls
  pub behind : header_from ls 1 ≤ at
  pub header : at < length ls → is_header (line_at ls at) ≡ true
  pub kept : KeepsBelow (fault_at ls) at
  pub read : found ≡ sections_before ls at

-- the section of the header here, and the next header behind it
pub record IsNext (ls : List (List ℕ)) (at : ℕ) (found : List SaidSection) (s : SaidSection) : Type 0 where
  pub place : s.place ≡ at
  pub longer : at < s.end
  pub here : AtHeader ls s.end (found ++ s ∷ [])

-- a clock section that says this at a place
abbrev pub clock_part : ℕ → ℕ → Said → Option ClockSection
clock_part place end device_tree = Some (record { text = DeviceTree; place = place; end = end })
clock_part place end clocks = Some (record { text = Lines; place = place; end = end })
clock_part place end _ = None

-- a bank's section that says this at a place
abbrev pub bank_part : ℕ → ℕ → Said → Option BankSection
bank_part place end (bank words) = Some (record { words = words; place = place; end = end })
bank_part place end _ = None

-- the two sections that must be there, where they are the first two
abbrev pub first_parts : List SaidSection → Option (ClockSection × BankSection)
first_parts (a ∷ (b ∷ more)) =
    option_and_then (λ c. option_map (λ d. (c, d)) (bank_part b.place b.end b.says)) (clock_part a.place a.end a.says)
first_parts _ = None

-- the parts that sections begin with, where the first two are those that must be there
abbrev pub parts_of : List SaidSection → Option Parts
parts_of xs = option_map (λ p. record { clocks = p.0; bank = p.1; others = drop 1 (drop 1 xs) }) (first_parts xs)
