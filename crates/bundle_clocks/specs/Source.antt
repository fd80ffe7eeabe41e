-- The device tree source of a section.
use Rattle.std.specs.Prelude.{ℕ, ◌+◌, List, [], ◌∷◌, ◌++◌, slice_range, replicate}
use Rattle.bundle_sections.specs.declared.section.ClockSection.{ClockSection}

-- lines as a text, each with its line feed
abbrev pub text_of_lines : List (List ℕ) → List ℕ
text_of_lines [] = []
text_of_lines (line ∷ lines) = line ++ (10 ∷ text_of_lines lines)

-- the lines of a section behind its header
abbrev pub lines_in : List (List ℕ) → ClockSection → List (List ℕ)
lines_in ls s = slice_range ls (s.place + 1) s.end

-- the source: the lines of the section, behind an empty line for each line through the header. So each line has the number that it has in the bundle
unfoldable pub source_of : List (List ℕ) → ClockSection → List ℕ
source_of ls s = text_of_lines (replicate (s.place + 1) [] ++ lines_in ls s)
