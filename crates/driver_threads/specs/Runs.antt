-- Running a bundle with each driver on a thread of its own: what may be run, and what a core has gone through then.
use Rattle.std.specs.Prelude.{◌≡◌, ◌+◌, ◌≤◌, List, true, false, Option, Some, length, sum_by}
use Rattle.std.specs.List.{AllByRecursion}
use Rattle.atomic_table.specs.Seated.{TableId}
use Rattle.clk_base.specs.Description.{Description}
use Rattle.clk_base.specs.declared.command.Answer.{Answer}
use Rattle.clk_base.specs.declared.command.Command.{Command}
use Rattle.clk_model.specs.Journal.{Legal}
use Rattle.clk_machine.specs.Run.{Run, in_flight}
use Rattle.tier_lock.specs.Known.{first_known}
use Rattle.clk_framework.specs.declared.opened.Opened.{Opened}
use Rattle.clk_framework.specs.Opening.{opened_of, start_of}
use Rattle.clk_framework.specs.Calls.{DriverView}
use Rattle.drv_scripts.specs.Placed.{IsScript, NamePlaces}
use Rattle.drv_scripts.specs.declared.bundle.Script.{Script}
use Rattle.driver_runs.specs.Drivers.{FollowAll, are_among, boot_first}
use Rattle.driver_runs.specs.Turns.{scripts_with}

-- the commands of boot and of the drivers name clocks of the description
pub record ArePlaced (defs : Description) (boot : List Command) (drivers : List Script) : Type 0 where
  pub boot_ : NamePlaces (length defs) boot
  pub drivers_ : AllByRecursion (IsScript (length defs)) drivers

-- driver 0 of a framework with this lock, which has made no call and no driver, and has a credit for each command of these scripts, which name
-- clocks of the description
pub record CanStart (table : TableId) (first : DriverView) (boot : List Command) (drivers : List Script) : Type 0 where
  pub opened : Opened
  pub begins : first ≡ first_known table opened first.room
  pub credits : length boot + sum_by (λ s. length s.commands) drivers ≤ first.room
  pub few : length drivers ≤ 65536
  pub placed : ArePlaced opened.defs boot drivers

-- a core has run the commands of boot, and then those of each of these drivers, whichever of them came first at each turn: it began at the opening that driver 0
-- knew; its journal is legal from there where the bank tells its words; boot and each driver, and nobody else, have their calls once, in their order, one after the
-- other, answered so; boot's entries stand before all others; and no call is in flight
pub record HasRunOnThreads (known : Option Opened) (boot : List Command) (drivers : List Script) (answers : List (List Answer)) (core : Run) : Type 0 where
  pub opened : known ≡ Some (opened_of core)
  pub start : core.start ≡ start_of (opened_of core)
  pub legal : core.told ≡ true → Legal core.start core.journal
  pub follow : FollowAll 0 (scripts_with boot drivers) answers core.journal
  pub among : are_among (length (scripts_with boot drivers)) core.journal ≡ true
  pub first : boot_first core.journal ≡ true
  pub quiet : in_flight core.journal ≡ false
