-- The sections that lines stand in, and which line has a fault. Places count lines from 0, and each line is judged by its place in the whole text.
use Rattle.std.specs.Prelude.{ℕ, ◌+◌, ◌-◌, ◌==◌, ◌&&◌, ◌||◌, nat_lt, Bool, List, Option, Some, None, Result, Ok, Err, codes, if◌then◌else◌, length, map}
use Rattle.std.specs.List.{list_any}
use Rattle.std.specs.Str.{bytes_eq, is_utf8}
use Rattle.bundle_text.specs.Faults.{unless}
use Rattle.bundle_text.specs.Firsts.{said_from}
use Rattle.bundle_text.specs.Lines.{line_at, is_header, header_from}
use Rattle.bundle_text.specs.Words.{blank_words, said_words}
use Rattle.bundle_text.specs.declared.reason.Reason.{Reason}
use Rattle.bundle_text.specs.declared.reason.Reason.TheVariants.{NotUtf8, BadVersion, StrayLine}
use Rattle.bundle_sections.specs.Headers.{Said, is_clocks, is_bank, read_header, order_fault}

-- a section: what its header says, the header's place, and the place of the next header or the number of lines
pub record SaidSection : Type 0 where
  pub says : Said
  pub place : ℕ
  pub end : ℕ

-- the section that begins with what a header at a place says, if it says something
abbrev pub section_of : List (List ℕ) → ℕ → Result Said Reason → Option SaidSection
section_of ls k (Ok said) = Some (record { says = said; place = k; end = header_from ls (k + 1) })
section_of ls k (Err reason) = None

-- the section that begins at a place, if one does
unfoldable pub section_at : List (List ℕ) → ℕ → Option SaidSection
section_at ls k = if is_header (line_at ls k) then section_of ls k (read_header (blank_words (line_at ls k))) else None

-- the sections that begin behind the first line and before a place
unfoldable pub sections_before : List (List ℕ) → ℕ → List SaidSection
sections_before ls k = said_from (section_at ls) 1 (k - 1)

-- all sections
abbrev pub sections_of : List (List ℕ) → List SaidSection
sections_of ls = sections_before ls (length ls)

-- what is wrong with a line as text
unfoldable pub text_fault : List (List ℕ) → ℕ → Option Reason
text_fault ls k = unless (is_utf8 (line_at ls k)) NotUtf8

-- what is wrong with a header behind the earlier ones
abbrev pub header_fault : List SaidSection → Result Said Reason → Option Reason
header_fault before (Err reason) = Some reason
header_fault before (Ok said) = order_fault (map (λ s. s.says) before) said

-- the first line states a version, 1 or 2
unfoldable pub has_version : List (List ℕ) → Bool
has_version ls = bytes_eq (line_at ls 0) (codes "%bundle 1") || bytes_eq (line_at ls 0) (codes "%bundle 2")

-- the version that the first line states; lines whose first states none are refused for that
unfoldable pub version_of : List (List ℕ) → ℕ
version_of ls = if bytes_eq (line_at ls 0) (codes "%bundle 2") then 2 else 1

-- a line before the first header has no words, but for a comment
abbrev pub is_passed_over : List ℕ → Bool
is_passed_over line = length (said_words line) == 0

-- what is wrong with the place of a line: the first line states a version, a header follows earlier ones, and before the first header no line says anything
unfoldable pub fault_at : List (List ℕ) → ℕ → Option Reason
fault_at ls k =
    if k == 0 then unless (has_version ls) BadVersion
    else if is_header (line_at ls k) then header_fault (sections_before ls k) (read_header (blank_words (line_at ls k)))
    else if nat_lt k (header_from ls 1) then unless (is_passed_over (line_at ls k)) StrayLine
    else None

-- the sections that must be there: the clocks' and the bank's
abbrev pub has_needed : List SaidSection → Bool
has_needed sections = list_any (λ s. is_clocks s.says) sections && list_any (λ s. is_bank s.says) sections
