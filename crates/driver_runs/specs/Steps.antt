-- The steps of a call that goes on.
use Rattle.std.specs.Prelude.{◌≡◌, ℕ, ◌==◌, ◌&&◌, List, [], ◌++◌, Bool, true, Some}
use Rattle.std.specs.List.{list_all}
use Rattle.clk_base.specs.declared.event.Entry.{Entry}
use Rattle.clk_base.specs.declared.event.Reply.{Reply}
use Rattle.clk_model.specs.Journal.{is_going, end_reply, calls_of, cost, Legal}
use Rattle.clk_model.specs.Tier.{is_step}
use Rattle.clk_machine.specs.Run.{Run, in_flight, driver_in_flight}
use Rattle.driver_runs.specs.Scripts.{are_calls}

-- whether an entry is a step of this driver behind which its call goes on
abbrev pub goes_on : ℕ → Entry → Bool
goes_on d e = (e.driver == d) && is_step e.event && is_going e.turn

-- steps of a driver's call were made, and it is still in flight
pub record MakesSteps (old : Run) (d : ℕ) (new : Run) : Type 0 where
  pub entries : List Entry
  pub start : new.start ≡ old.start
  pub told : new.told ≡ old.told
  pub behind : new.behind ≡ old.behind
  pub journal : new.journal ≡ old.journal ++ entries
  pub own : list_all (goes_on d) entries ≡ true
  pub legal : old.told ≡ true → Legal old.start old.journal → Legal new.start new.journal
  pub flies : in_flight new.journal ≡ true
  pub whose : driver_in_flight new.journal ≡ d

-- the steps of a driver's call were made up to its end, which answered so
pub record Finishes (old : Run) (d : ℕ) (answer : Reply) (new : Run) : Type 0 where
  pub entries : List Entry
  pub start : new.start ≡ old.start
  pub told : new.told ≡ old.told
  pub behind : new.behind ≡ old.behind
  pub journal : new.journal ≡ old.journal ++ entries
  pub own : are_calls d true entries ≡ true
  pub ends : end_reply entries ≡ Some answer
  pub calls : calls_of entries ≡ []
  pub free : cost entries ≡ 0
  pub legal : old.told ≡ true → Legal old.start old.journal → Legal new.start new.journal
