-- The definitions computed on small journals.
use Rattle.std.specs.Prelude.{◌≡◌, ℕ, List, [], ◌∷◌, Some, refl, pos, negsuc}
use Rattle.clk_base.specs.declared.event.Reply.TheVariants as answer
use Rattle.clk_base.specs.declared.event.Errno.TheVariants.{ETIMEDOUT}
use Rattle.clk_base.specs.declared.handle.Handle.{Handle}
use Rattle.clk_base.specs.declared.call.Sleeping.TheVariants as call
use Rattle.clk_phase.specs.declared.bulk_call.BulkKind.TheVariants as kind
use Rattle.clk_phase.specs.declared.bulk_call.BulkItem.TheVariants as item
use Rattle.clk_phase.specs.declared.bulk_call.BulkStep.TheVariants as step
use Rattle.clk_phase.specs.Phases.{best, wanted, degrees_at}
use Rattle.clk_phase.specs.Bulk.{Made, IsBulk}

pub step_of_100 : best 8 (wanted (pos 100)) ≡ 2
step_of_100 = refl

pub degrees_of_2 : degrees_at 8 2 ≡ 90
degrees_of_2 = refl

pub step_of_minus_10 : degrees_at 8 (best 8 (wanted (negsuc 9))) ≡ 315
step_of_minus_10 = refl

pub step_of_seven : degrees_at 7 (best 7 (wanted (pos 102))) ≡ 102
step_of_seven = refl

abbrev h : ℕ → Handle
h n = record { number = n; slot = 0; driver = 1 }

-- a prepare of two handles, the second of which times out
abbrev made : List Made
made =
    record { step = step.Call (call.Prepare (h 0)); reply = answer.Fine } ∷ record { step = step.Call (call.Prepare (h 1)); reply = answer.Refused ETIMEDOUT }
    ∷ record { step = step.Call (call.Unprepare (h 0)); reply = answer.Fine } ∷ []

pub undone : IsBulk kind.Prepare (item.Handle (h 0) ∷ item.Handle (h 1) ∷ []) made (Some (2, answer.Refused ETIMEDOUT)) []
undone = ((refl, (refl, refl)), refl, refl)
