-- Lines, handles, and how many handles of a kind a line has.
use Rattle.std.specs.Prelude.{ℕ, List, Option, None, Bool, true, false, not, ◌==◌, if◌then◌else◌, slice_index_or, sum_by}
use Rattle.std.specs.Option.{option_map_or}
use Rattle.reg_bank.specs.Registers.{Registers, is_set}
use Rattle.reset_core.specs.declared.call.ResetKind.{ResetKind}
use Rattle.reset_core.specs.declared.call.ResetKind.TheVariants as kind
use Rattle.reset_core.specs.declared.call.ResetLine.{ResetLine}
use Rattle.reset_core.specs.declared.record.HandleRecord.{HandleRecord}

-- the lines, the handles by number, with nothing in the place of one that was put back, and the words
pub record State : Type 0 where
  pub lines : List ResetLine
  pub handles : List (Option HandleRecord)
  pub regs : Registers

abbrev pub no_line : ResetLine
no_line = record { word = 0; bit = 0 }

abbrev pub line_at : List ResetLine → ℕ → ResetLine
line_at lines l = slice_index_or lines l no_line

-- whether a line is asserted: its bit is 1
abbrev pub is_asserted : State → ℕ → Bool
is_asserted s l = is_set s.regs (line_at s.lines l).word (line_at s.lines l).bit

abbrev pub is_shared : HandleRecord → Bool
is_shared r = of_kind r.kind where
  of_kind : ResetKind → Bool
  of_kind kind.Exclusive = false
  of_kind kind.Released = false
  of_kind kind.Shared = true

-- the handle of a number, if it is live
abbrev pub row_at : List (Option HandleRecord) → ℕ → Option HandleRecord
row_at handles n = slice_index_or handles n None

-- ---- how many

abbrev pub one : Bool → ℕ
one b = if b then 1 else 0

-- what a handle counts for a line: its weight, if it is of this line
abbrev pub on_line : (HandleRecord → ℕ) → ℕ → Option HandleRecord → ℕ
on_line weight l x = option_map_or (λ r. if r.line == l then weight r else 0) x 0

abbrev pub sum_on : (HandleRecord → ℕ) → ℕ → List (Option HandleRecord) → ℕ
sum_on weight l handles = sum_by (on_line weight l) handles

abbrev pub shared_weight : HandleRecord → ℕ
shared_weight r = one (is_shared r)

abbrev pub other_weight : HandleRecord → ℕ
other_weight r = one (not (is_shared r))

abbrev pub acquired_weight : HandleRecord → ℕ
acquired_weight r = one (r.acquired)

abbrev pub deassert_weight : HandleRecord → ℕ
deassert_weight r = r.deasserts

-- how many shared handles a line has
abbrev pub shared_on : ℕ → List (Option HandleRecord) → ℕ
shared_on l handles = sum_on shared_weight l handles

-- how many others
abbrev pub others_on : ℕ → List (Option HandleRecord) → ℕ
others_on l handles = sum_on other_weight l handles

-- how many that are acquired
abbrev pub acquired_on : ℕ → List (Option HandleRecord) → ℕ
acquired_on l handles = sum_on acquired_weight l handles

-- how many deasserts its shared handles have together
abbrev pub deasserts_on : ℕ → List (Option HandleRecord) → ℕ
deasserts_on l handles = sum_on deassert_weight l handles
