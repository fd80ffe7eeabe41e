-- Commands on several handles: the calls that they make, and their answers.
use Rattle.std.specs.Prelude.{◌≡◌, ℕ, ◌+◌, ◌-◌, ◌*◌, List, [], ◌∷◌, ◌++◌, Bool, true, false, if◌then◌else◌, Option, Some, None, map, reverse, length, is_none}
use Rattle.clk_base.specs.declared.call.Sleeping.TheVariants as call
use Rattle.clk_base.specs.declared.event.Reply.{Reply}
use Rattle.clk_base.specs.declared.event.Reply.TheVariants as reply
use Rattle.clk_base.specs.declared.handle.Handle.{Handle}
use Rattle.clk_phase.specs.declared.bulk_call.BulkKind.{BulkKind}
use Rattle.clk_phase.specs.declared.bulk_call.BulkKind.TheVariants as kind
use Rattle.clk_phase.specs.declared.bulk_call.BulkItem.{BulkItem}
use Rattle.clk_phase.specs.declared.bulk_call.BulkItem.TheVariants as item
use Rattle.clk_phase.specs.declared.bulk_call.BulkStep.{BulkStep}
use Rattle.clk_phase.specs.declared.bulk_call.BulkStep.TheVariants as step

-- ---- one call

-- a command that undoes what it made if a call fails
abbrev pub is_forward : BulkKind → Bool
is_forward kind.Get = true
is_forward kind.Prepare = true
is_forward kind.Enable = true
is_forward kind.Disable = false
is_forward kind.Unprepare = false
is_forward kind.Put = false

-- a call that was answered so went well
abbrev pub is_good : Reply → Bool
is_good reply.Fine = true
is_good (reply.Handle h) = true
is_good r = false

-- the call on one item; an item of the other form is like a get of a name that no clock has
abbrev pub step_of : BulkKind → BulkItem → BulkStep
step_of kind.Get (item.Clock found) = step.Call (call.Get found)
step_of kind.Prepare (item.Handle h) = step.Call (call.Prepare h)
step_of kind.Enable (item.Handle h) = step.Enable h
step_of kind.Disable (item.Handle h) = step.Disable h
step_of kind.Unprepare (item.Handle h) = step.Call (call.Unprepare h)
step_of kind.Put (item.Handle h) = step.Call (call.Put h)
step_of k x = step.Call (call.Get None)

-- the call that undoes a call that was answered so
abbrev pub undo_of : BulkStep → Reply → BulkStep
undo_of (step.Call (call.Get found)) (reply.Handle h) = step.Call (call.Put h)
undo_of (step.Call (call.Prepare h)) r = step.Call (call.Unprepare h)
undo_of (step.Enable h) r = step.Disable h
undo_of s r = s

-- ---- all of them

-- a call that was made, and its reply
pub record Made : Type 0 where
  pub step : BulkStep
  pub reply : Reply

abbrev pub steps_made : List Made → List BulkStep
steps_made made = map (λ m. m.step) made

-- the one if the reply is good, else the other
abbrev pub GoesOn : Bool → Type 0 → Type 0 → Type 0
GoesOn true on off = on
GoesOn false on off = off

-- the handle in a reply
abbrev pub handle_in : Reply → List Handle
handle_in (reply.Handle h) = h ∷ []
handle_in r = []

-- a forward command makes its calls in order until the first reply that isn't good, and then undoes those before it, the last first;
-- undo has the calls that undo what was made so far
abbrev pub Forward : List BulkStep → List BulkStep → List Made → Type 0
Forward undo [] made = made ≡ []
Forward undo (s ∷ left) [] = ⊥
Forward undo (s ∷ left) (m ∷ made) = (m.step ≡ s) × GoesOn (is_good m.reply) (Forward (undo_of m.step m.reply ∷ undo) left made) (steps_made made ≡ undo)

-- the place and the reply of the first call that failed, from this place up or down
abbrev pub fail_up : ℕ → List Made → Option (ℕ × Reply)
fail_up k [] = None
fail_up k (m ∷ made) = if is_good m.reply then fail_up (k + 1) made else Some (k, m.reply)

abbrev pub fail_down : ℕ → List Made → Option (ℕ × Reply)
fail_down k [] = None
fail_down k (m ∷ made) = if is_good m.reply then fail_down (k - 1) made else Some (k, m.reply)

-- the handles that were made
abbrev pub handles_of : List Made → List Handle
handles_of [] = []
handles_of (m ∷ made) = handle_in m.reply ++ handles_of made

-- the same of the calls in the items' order, n of them: forward, or else from the last to the first
abbrev pub IsBulkBy : Bool → List BulkStep → ℕ → List Made → Option (ℕ × Reply) → List Handle → Type 0
IsBulkBy true steps n made fail handles = Forward [] steps made × (fail ≡ fail_up 1 made) × (handles ≡ (if is_none fail then handles_of made else []))
IsBulkBy false steps n made fail handles = (steps_made made ≡ reverse steps) × (fail ≡ fail_down n made) × (handles ≡ [])

-- these calls were made, with these replies, and the command answers so
abbrev pub IsBulk : BulkKind → List BulkItem → List Made → Option (ℕ × Reply) → List Handle → Type 0
IsBulk k items made fail handles = IsBulkBy (is_forward k) (map (step_of k) items) (length items) made fail handles

-- the credits that it needs: of a forward one each call may have to be undone
abbrev pub credits_for : BulkKind → ℕ → ℕ
credits_for k n = if is_forward k then 2 * n else n
