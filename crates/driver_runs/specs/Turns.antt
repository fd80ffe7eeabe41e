-- A core that has run the scripts of boot and of drivers.
use Rattle.std.specs.Prelude.{◌≡◌, ℕ, List, ◌∷◌, true, false, length, map}
use Rattle.clk_base.specs.declared.command.Answer.{Answer}
use Rattle.clk_base.specs.declared.command.Command.{Command}
use Rattle.clk_model.specs.Journal.{Legal}
use Rattle.clk_model.specs.Ordered.{Ordered}
use Rattle.clk_machine.specs.Run.{Run, in_flight}
use Rattle.drv_scripts.specs.declared.bundle.Script.{Script}
use Rattle.driver_runs.specs.Drivers.{FollowAll, are_among, boot_first}

-- the commands of boot, and then those of each of these drivers
abbrev pub scripts_with : List Command → List Script → List (List Command)
scripts_with boot drivers = boot ∷ map (λ s. s.commands) drivers

-- a core that had an empty journal has run the commands of boot and of these drivers: boot and each driver, and nobody else, have their calls once, in their
-- order, one after the other, answered so; boot's entries stand before all others, and these in the order that the commands and the stated order give; and no
-- call is in flight
pub record HasRun (boot : List Command) (drivers : List Script) (order : List ℕ) (answers : List (List Answer)) (old new : Run) : Type 0 where
  pub start : new.start ≡ old.start
  pub told : new.told ≡ old.told
  pub behind : new.behind ≡ old.behind
  pub legal : old.told ≡ true → Legal new.start new.journal
  pub follow : FollowAll 0 (scripts_with boot drivers) answers new.journal
  pub among : are_among (length (scripts_with boot drivers)) new.journal ≡ true
  pub first : boot_first new.journal ≡ true
  pub ordered : Ordered (scripts_with boot drivers) order new.journal
  pub quiet : in_flight new.journal ≡ false
