-- Which bytes spell which bundle, and why the others spell none.
use Rattle.std.specs.Prelude.{◌≡◌, ℕ, ◌+◌, ◌<◌, ◌≤◌, ◌==◌, ◌⊎◌, List, length, slice_index, count_by, Option}
use Rattle.std.specs.Str.Lines.{lines}
use Rattle.bundle_text.specs.Firsts.{First, KeepsBelow}
use Rattle.bundle_clocks.specs.Said.{SaidClocks}
use Rattle.bundle_clocks.specs.Verdict as clock_verdict
use Rattle.bundle_sections.specs.Said.{Parts}
use Rattle.bundle_sections.specs.Verdict as section_verdict
use Rattle.clk_base.specs.Description.{Description, EachClock}
use Rattle.clk_base.specs.Valid.{Rule, keeps, IsFirstBroken}
use Rattle.clk_io.specs.declared.reading.TheConstants.{MOST_BYTES}
use Rattle.drv_scripts.specs.declared.bundle.Bundle.{Bundle}
use Rattle.bundle_text.specs.declared.reason.Reason.{Reason}
use Rattle.bundle_text.specs.declared.reason.Reason.TheVariants.{TooLong}
use Rattle.drv_scripts.specs.Reasons.{rule_reason}
use Rattle.drv_scripts.specs.Sections.{around, fault_at}
use Rattle.drv_scripts.specs.Spelled.{bundle_of}

-- the line behind the last line feed, counted from 1
abbrev pub last_line : List ℕ → ℕ
last_line bytes = count_by (λ b. b == 10) bytes + 1

-- each clock keeps every rule, for a bank of so many words
abbrev pub KeepsRules : ℕ → Description → Type 0
KeepsRules words defs = (rule : Rule) → EachClock defs (keeps rule words defs)

-- what is wrong with the line at a place of these sections, over what the section of the clocks says
abbrev pub line_fault : List (List ℕ) → Parts → SaidClocks → ℕ → Option Reason
line_fault ls parts said = fault_at (around ls parts said) parts.bank parts.others

-- lines in these sections spell the bundle: this is what the section of the clocks says, its clocks keep every rule, and no other line has a fault
pub record PartsSpell (ls : List (List ℕ)) (parts : Parts) (b : Bundle) : Type 0 where
  pub said : SaidClocks
  pub says : clock_verdict.Says ls parts.clocks said
  pub rules : KeepsRules parts.bank.words said.defs
  pub kept : KeepsBelow (line_fault ls parts said) (length ls)
  pub content : b ≡ bundle_of ls parts said

-- this is the first rule that a clock breaks, and the line of the first clock that breaks it
pub record Breaks (words : ℕ) (defs : Description) (numbers : List ℕ) (line : ℕ) (reason : Reason) : Type 0 where
  pub rule : Rule
  pub clock : ℕ
  pub first : IsFirstBroken words defs rule clock
  pub line_is : line ≡ slice_index numbers clock
  pub reason_is : reason ≡ rule_reason rule

-- the section of the clocks says this, and one of its clocks breaks a rule
pub record BreaksRule (ls : List (List ℕ)) (parts : Parts) (line : ℕ) (reason : Reason) : Type 0 where
  pub said : SaidClocks
  pub says : clock_verdict.Says ls parts.clocks said
  pub breaks : Breaks parts.bank.words said.defs said.lines line reason

-- the section of the clocks says clocks that keep every rule, and this is the first line outside of it with a fault
pub record HasFault (ls : List (List ℕ)) (parts : Parts) (line : ℕ) (reason : Reason) : Type 0 where
  pub said : SaidClocks
  pub says : clock_verdict.Says ls parts.clocks said
  pub rules : KeepsRules parts.bank.words said.defs
  pub place : ℕ
  pub first : First (line_fault ls parts said) (length ls) place reason
  pub line_is : line ≡ place + 1

-- lines in these sections are refused: for the section of the clocks, else for a rule, else for another line
abbrev pub PartsRefuse : List (List ℕ) → Parts → ℕ → Reason → Type 0
PartsRefuse ls parts line reason = clock_verdict.Refuses ls parts.clocks line reason ⊎ (BreaksRule ls parts line reason ⊎ HasFault ls parts line reason)

-- the bytes spell the bundle: they are few enough, and their lines stand in sections that spell it
pub record Accepts (bytes : List ℕ) (b : Bundle) : Type 0 where
  pub fits : length bytes ≤ MOST_BYTES
  pub parts : Parts
  pub sections : section_verdict.Accepts (lines bytes) parts
  pub spelled : PartsSpell (lines bytes) parts b

-- the bytes are too many; this is no line's fault
pub record IsTooLong (bytes : List ℕ) (line : ℕ) (reason : Reason) : Type 0 where
  pub over : MOST_BYTES < length bytes
  pub line_is : line ≡ 0
  pub reason_is : reason ≡ TooLong

-- the lines stand in no sections
pub record IsUndivided (bytes : List ℕ) (line : ℕ) (reason : Reason) : Type 0 where
  pub fits : length bytes ≤ MOST_BYTES
  pub first : section_verdict.Refuses (lines bytes) (last_line bytes) line reason

-- the lines stand in sections that are refused
pub record IsDivided (bytes : List ℕ) (line : ℕ) (reason : Reason) : Type 0 where
  pub fits : length bytes ≤ MOST_BYTES
  pub parts : Parts
  pub sections : section_verdict.Accepts (lines bytes) parts
  pub refused : PartsRefuse (lines bytes) parts line reason

-- the bytes spell no bundle, for this reason at this line; the phases stand in their order, and each begins where the ones before it found nothing
abbrev pub Refuses : List ℕ → ℕ → Reason → Type 0
Refuses bytes line reason = IsTooLong bytes line reason ⊎ (IsUndivided bytes line reason ⊎ IsDivided bytes line reason)
