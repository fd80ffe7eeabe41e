-- How many steps a call may come to that goes on: as many as its script weighs.
use Rattle.std.specs.Prelude.{◌≡◌, ℕ, Some}
use Rattle.clk_base.specs.declared.event.Turn.{Turn}
use Rattle.clk_base.specs.declared.event.Turn.TheVariants as turn
use Rattle.clk_model.specs.State.{State, Change}
use Rattle.clk_model.specs.Begin.{weight_of}
use Rattle.clk_machine.specs.Run.{Run, now_of}

-- the change in flight weighs so much: the weights of the steps of its script, and the notices that a timeout may bring
pub record Weighs (s : State) (weight : ℕ) : Type 0 where
  pub change : Change
  pub flies : s.change ≡ Some change
  pub weighs : weight ≡ weight_of s change

-- where the call goes on, it may come to as many steps as it weighs
abbrev pub GoesOnWithin : Turn → Run → Type 0
GoesOnWithin given run = given ≡ turn.Going → Weighs (now_of run) run.left
