-- What a call that asks is answered.
use Rattle.std.specs.Prelude.{◌≡◌, ℕ}
use Rattle.clk_base.specs.declared.call.Sleeping.{Sleeping}
use Rattle.clk_base.specs.declared.event.Reply.{Reply}
use Rattle.clk_base.specs.declared.event.Turn.TheVariants as turn
use Rattle.clk_model.specs.Begin.{begun}
use Rattle.clk_model.specs.Journal.{slotless}
use Rattle.clk_model.specs.State.{State}
use Rattle.clk_machine.specs.Parts.{Parts}
use Rattle.clk_machine.specs.Sound.{IsSound}
use Rattle.clk_machine.specs.Stands.{Stands}

-- so it is answered in each sound state that parts stand for
abbrev pub IsToldSo : Parts → ℕ → Sleeping → Reply → Type 0
IsToldSo m d what r = (s : State) → Stands m s → IsSound m.window.size s → (begun s d what).1 ≡ slotless (turn.Done r)
