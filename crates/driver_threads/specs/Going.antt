-- What a driver of a framework has gone through when it has run commands, as its own entries tell it.
use Rattle.std.specs.Prelude.{◌≡◌, ◌-◌, ◌+◌, ◌<◌, ◌≤◌, List, [], ◌∷◌, ◌++◌, true, false, Option, Some, None, length}
use Rattle.atomic_table.specs.Seated.{TableId}
use Rattle.clk_base.specs.declared.call.Sleeping.{Sleeping}
use Rattle.clk_base.specs.declared.command.Act.{Act}
use Rattle.clk_base.specs.declared.command.Answer.{Answer}
use Rattle.clk_base.specs.declared.command.Command.{Command}
use Rattle.clk_base.specs.declared.event.Entry.{Entry}
use Rattle.clk_base.specs.declared.event.Event.{Event}
use Rattle.clk_base.specs.declared.event.Reply.{Reply}
use Rattle.clk_base.specs.declared.handle.Handle.{Handle}
use Rattle.clk_model.specs.Journal.{Answered, calls_of}
use Rattle.clk_model.specs.Follows.{Variables, call_of, FollowsFrom}
use Rattle.clk_machine.specs.Sound.{IsPlaced}
use Rattle.tier_lock.specs.Entries.{IsPrefix}
use Rattle.clk_framework.specs.declared.opened.Opened.{Opened}
use Rattle.clk_framework.specs.Calls.{DriverView, IsReady}
use Rattle.drv_scripts.specs.Placed.{NamesPlace, NamePlaces}
use Rattle.driver_runs.specs.Scripts.{are_calls}

-- ---- what a driver may do

-- a driver between two calls may begin this call: it has a credit, and the call names clocks of the description
pub record MayBegin (table : TableId) (d : DriverView) (what : Sleeping) : Type 0 where
  pub ready : IsReady table d
  pub credit : 0 < d.room
  pub opened : Opened
  pub knows : d.fixed ≡ Some opened
  pub place : IsPlaced opened.defs what

-- it may make the call of a command
pub record MayCall (table : TableId) (d : DriverView) (a : Act) : Type 0 where
  pub ready : IsReady table d
  pub credit : 0 < d.room
  pub opened : Opened
  pub knows : d.fixed ≡ Some opened
  pub place : NamesPlace (length opened.defs) a

-- it may run these commands: it has a credit for each, and they name clocks of the description
pub record MayRun (table : TableId) (d : DriverView) (commands : List Command) : Type 0 where
  pub ready : IsReady table d
  pub credits : length commands ≤ d.room
  pub opened : Opened
  pub knows : d.fixed ≡ Some opened
  pub places : NamePlaces (length opened.defs) commands

-- ---- what it has done

-- it is the same driver, between two calls as before
abbrev pub IsSame : DriverView → DriverView → Type 0
IsSame old new = new ≡ record old { seen = new.seen; mine = new.mine; room = new.room }

-- a call of the driver was made whole and answered so: its entries are the driver's own now, and a credit is spent
pub record AnswersCall (old : DriverView) (made : Event) (answer : Reply) (new : DriverView) : Type 0 where
  pub entries : List Entry
  pub driver : new ≡ record old { seen = new.seen; mine = old.mine ++ entries; room = old.room - 1 }
  pub continues : IsPrefix old.seen new.seen
  pub own : are_calls old.number false entries ≡ true
  pub calls : calls_of entries ≡ record { call = made; reply = answer } ∷ []
  -- while driver 0 alone was made, it has seen its own entries alone
  pub alone : old.number ≡ 0 → old.made ≡ 1 → new.seen ≡ new.mine

-- what the call of a command has done: none was made, or the next call was made and answered
abbrev pub MakesCall : DriverView → Option Handle → Act → Option Reply → DriverView → Type 0
MakesCall old held a None new = (call_of held a ≡ None) × (new ≡ old)
MakesCall old held a (Some r) new = (e : Event) × (call_of held a ≡ Some e) × AnswersCall old e r new

-- a driver goes through commands: whole calls of it alone are its own entries now, at most a credit for each command is spent, and its calls and
-- answers follow the commands; the variables hold what they held before and after
pub record GoesThrough (old : DriverView) (held : Variables) (commands : List Command) (answers : List Answer) (held' : Variables) (new : DriverView) : Type 0 where
  pub entries : List Entry
  pub driver : new ≡ record old { seen = new.seen; mine = old.mine ++ entries; room = new.room }
  pub continues : IsPrefix old.seen new.seen
  pub own : are_calls old.number false entries ≡ true
  pub few : old.room ≤ new.room + length commands
  pub alone : old.number ≡ 0 → old.made ≡ 1 → old.seen ≡ old.mine → new.seen ≡ new.mine
  pub follows : (cs : List Command) (ls : List Answered) (as_ : List Answer) → FollowsFrom held' cs ls as_
      → FollowsFrom held (commands ++ cs) (calls_of entries ++ ls) (answers ++ as_)
