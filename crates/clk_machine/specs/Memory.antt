-- Which calls need memory in a state.
use Rattle.std.specs.Prelude.{◌≡◌, ℕ, true}
use Rattle.clk_base.specs.declared.call.Sleeping.{Sleeping}
use Rattle.clk_base.specs.declared.call.Sleeping.TheVariants as call
use Rattle.clk_base.specs.declared.event.Turn.TheVariants as turn
use Rattle.clk_model.specs.State.{State}
use Rattle.clk_model.specs.Begin.{begun}
use Rattle.clk_machine.specs.Sound.{takes_memory}

-- a prepare and an unprepare need memory only if they go on; of the other calls just those need some that may take it
abbrev pub NeedsMemory : State → ℕ → Sleeping → Type 0
NeedsMemory s d (call.Prepare h) = (begun s d (call.Prepare h)).1 ≡ turn.Going
NeedsMemory s d (call.Unprepare h) = (begun s d (call.Unprepare h)).1 ≡ turn.Going
NeedsMemory s d what = takes_memory what ≡ true
