-- Drivers that work side by side, each through a script of its own.
use Rattle.std.specs.Prelude.{◌≡◌, ℕ, ◌+◌, ◌≤◌, List, [], ◌∷◌, Option, Some, length, map, sum_by, IfSome, false}
use Rattle.std.specs.List.{AllByRecursion}
use Rattle.atomic_table.specs.Seated.{TableId}
use Rattle.clk_base.specs.declared.command.Answer.{Answer}
use Rattle.clk_base.specs.declared.command.Command.{Command}
use Rattle.clk_model.specs.Follows.{Variables, no_handles}
use Rattle.clk_framework.specs.declared.opened.Opened.{Opened}
use Rattle.clk_framework.specs.Calls.{DriverView, IsReady}
use Rattle.drv_scripts.specs.Placed.{IsScript}
use Rattle.drv_scripts.specs.declared.bundle.Script.{Script}
use Rattle.driver_threads.specs.Going.{IsSame, GoesThrough}

-- a driver has worked through its commands and has these answers, or memory ran out before, and it has none
pub record Worked (old : DriverView) (commands : List Command) (new : DriverView) (answers : Option (List Answer)) : Type 0 where
  pub same : IsSame old new
  pub went : IfSome answers (λ own. (held : Variables) × GoesThrough old (no_handles commands) commands own held new)

-- so have these drivers, each its own commands
abbrev pub HaveWorked : List DriverView → List (List Command) → List DriverView → List (Option (List Answer)) → Type 0
HaveWorked [] [] [] [] = Unit {0}
HaveWorked (old ∷ olds) (commands ∷ scripts) (new ∷ news) (own ∷ answers) = Worked old commands new own × HaveWorked olds scripts news answers
HaveWorked _ _ _ _ = ⊥

-- the driver with this number, which has seen what driver 0 has, has no entry, and has a credit for each of these commands
abbrev pub newcomer : DriverView → ℕ → List Command → DriverView
newcomer first number commands = record {
  table = first.table;
  number = number;
  seen = first.seen;
  mine = [];
  room = length commands;
  fixed = first.fixed;
  made = 0;
  baton = false;
  turn = false;
}

-- such drivers, numbered from this one on
abbrev pub newcomers : DriverView → ℕ → List (List Command) → List DriverView
newcomers first number [] = []
newcomers first number (commands ∷ scripts) = newcomer first number commands ∷ newcomers first (number + 1) scripts

-- ---- driver 0 makes them

-- driver 0 may make a driver for each of these scripts: it has the credits, numbers are left, and the scripts' commands name clocks of
-- the description
pub record MayMake (table : TableId) (first : DriverView) (scripts : List Script) : Type 0 where
  pub ready : IsReady table first
  pub number : first.number ≡ 0
  pub credits : sum_by (λ s. length s.commands) scripts ≤ first.room
  pub few : first.made + length scripts ≤ 4294967295
  pub opened : Opened
  pub knows : first.fixed ≡ Some opened
  pub placed : AllByRecursion (IsScript (length opened.defs)) scripts

-- it has made so many drivers more, and gave them credits
abbrev pub HasMade : DriverView → ℕ → DriverView → Type 0
HasMade old count new = new ≡ record old { made = old.made + count; room = new.room }

-- ---- all of them together

-- driver 0 has run boot and has made a driver for each script, and each has run its own: these are the drivers, and their answers
pub record AllDone (first : DriverView) (boot : List Command) (scripts : List (List Command)) (drivers : List DriverView) (answers : List (List Answer)) : Type 0 where
  pub booted : DriverView
  pub held : Variables
  pub own : List Answer
  pub boots : GoesThrough first (no_handles boot) boot own held booted
  pub last : DriverView
  pub made : HasMade booted (length scripts) last
  pub news : List DriverView
  pub others : List (List Answer)
  pub worked : HaveWorked (newcomers booted booted.made scripts) scripts news (map Some others)
  pub drivers_are : drivers ≡ last ∷ news
  pub answers_are : answers ≡ own ∷ others
