-- A command under way.
use Rattle.std.specs.Prelude.{◌≡◌, ℕ, ◌+◌, ◌-◌, List, [], ◌∷◌, ◌++◌, ◌&&◌, Bool, if◌then◌else◌, Option, Some, None, is_some, is_none, map, reverse, length}
use Rattle.clk_base.specs.declared.event.Reply.{Reply}
use Rattle.clk_base.specs.declared.handle.Handle.{Handle}
use Rattle.clk_phase.specs.declared.bulk_call.BulkKind.{BulkKind}
use Rattle.clk_phase.specs.declared.bulk_call.BulkItem.{BulkItem}
use Rattle.clk_phase.specs.declared.bulk_call.BulkStep.{BulkStep}
use Rattle.clk_phase.specs.Bulk.{Made, IsBulk, is_forward, is_good, step_of, undo_of, handle_in}

-- the calls that are left, those that would undo what was made, the last first, the first failure, the place of the next call, and the handles that were got
pub record Run : Type 0 where
  pub forward : Bool
  pub left : List BulkStep
  pub undo : List BulkStep
  pub fail : Option (ℕ × Reply)
  pub place : ℕ
  pub handles : List Handle

-- whether the calls that were made are being undone
abbrev pub undoes : Run → Bool
undoes r = r.forward && is_some r.fail

abbrev pub head : List BulkStep → Option BulkStep
head [] = None
head (s ∷ ss) = Some s

abbrev pub tail : List BulkStep → List BulkStep
tail [] = []
tail (s ∷ ss) = ss

abbrev pub to_make : Run → List BulkStep
to_make r = if undoes r then r.undo else r.left

-- the next call
abbrev pub next_of : Run → Option BulkStep
next_of r = head (to_make r)

-- the place after a place
abbrev pub next_place : Bool → ℕ → ℕ
next_place forward k = if forward then k + 1 else k - 1

abbrev pub first_fail : Option (ℕ × Reply) → ℕ → Reply → Option (ℕ × Reply)
first_fail None k r = Some (k, r)
first_fail (Some x) k r = Some x

-- after the reply of this call
abbrev pub made_of : Run → BulkStep → Reply → Run
made_of run s r =
    if undoes run then record run { undo = tail run.undo }
    else if is_good r then record run { left = tail run.left; undo = undo_of s r ∷ run.undo; place = next_place run.forward run.place; handles = run.handles ++ handle_in r }
    else record run { left = tail run.left; fail = first_fail run.fail run.place r; place = next_place run.forward run.place }

-- no call made
abbrev pub begun : BulkKind → List BulkItem → Run
begun k items = record {
  forward = is_forward k;
  left = if is_forward k then map (step_of k) items else reverse (map (step_of k) items);
  undo = [];
  fail = None;
  place = if is_forward k then 1 else length items;
  handles = [];
}

-- a command goes through these calls
abbrev pub Runs : Run → List Made → Run → Type 0
Runs r [] r' = r ≡ r'
Runs r (m ∷ made) r' = (next_of r ≡ Some m.step) × Runs (made_of r m.step m.reply) made r'

-- the handles of its answer, once no call is left
abbrev pub handles_at : Run → List Handle
handles_at r = if r.forward && is_none r.fail then r.handles else []

-- the calls that a run makes until none is left are those of the command, and so is its answer
abbrev pub RunsAreCommands : Type 0
RunsAreCommands =
    (kind : BulkKind) (items : List BulkItem) (made : List Made) (r : Run) → Runs (begun kind items) made r → next_of r ≡ None → IsBulk kind items made r.fail (handles_at r)

-- how many calls it can still make
abbrev pub most_left : Run → ℕ
most_left r = if undoes r then length r.undo else (if r.forward then length r.left + length r.left + length r.undo else length r.left)
