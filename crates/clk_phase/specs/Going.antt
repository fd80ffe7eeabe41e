-- Whoever makes the calls of a command goes through them.
use Rattle.std.specs.Prelude.{◌≡◌, ℕ, ◌<◌, List, [], ◌∷◌, Some}
use Rattle.clk_base.specs.declared.call.Sleeping.{Sleeping}
use Rattle.clk_base.specs.declared.call.Sleeping.TheVariants as call
use Rattle.clk_base.specs.declared.event.Reply.{Reply}
use Rattle.clk_phase.specs.declared.bulk_call.BulkStep.{BulkStep}
use Rattle.clk_phase.specs.declared.bulk_call.BulkStep.TheVariants as step
use Rattle.clk_phase.specs.Bulk.{Made}

-- from one state to another by these calls, each once, in their order
module _ {S : Type 0} (makes : S → BulkStep → Reply → S → Type 0) where
  abbrev pub Goes : S → List Made → S → Type 0
  Goes s [] t = s ≡ t
  Goes s (m ∷ made) t = (u : S) × makes s m.step m.reply u × Goes u made t

-- a sleeping call ran out of memory
pub record FailsIn {S : Type 0} (fails : S → S → Type 0) (old : S) (s : BulkStep) (new : S) : Type 0 where
  pub what : Sleeping
  pub is_call : s ≡ step.Call what
  pub left : fails old new

-- a call names clocks that there are
abbrev pub IsPlacedCall : ℕ → Sleeping → Type 0
IsPlacedCall clocks (call.Get (Some c)) = c.0 < clocks
IsPlacedCall clocks (call.SetParent h p) = p.0 < clocks
IsPlacedCall clocks (call.Probe c) = c.0 < clocks
IsPlacedCall clocks _ = Unit {0}

abbrev pub IsPlacedStep : ℕ → BulkStep → Type 0
IsPlacedStep clocks (step.Call what) = IsPlacedCall clocks what
IsPlacedStep clocks _ = Unit {0}
