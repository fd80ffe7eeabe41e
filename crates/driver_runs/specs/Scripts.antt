-- What a core has gone through when it has run the commands of a driver.
use Rattle.std.specs.Prelude.{◌≡◌, ℕ, ◌≤◌, ◌==◌, ◌&&◌, List, [], ◌∷◌, ◌++◌, Bool, true, false, not, Option, Some, None, length, if◌then◌else◌}
use Rattle.clk_base.specs.declared.command.Act.{Act}
use Rattle.clk_base.specs.declared.command.Answer.{Answer}
use Rattle.clk_base.specs.declared.command.Command.{Command}
use Rattle.clk_base.specs.declared.event.Entry.{Entry}
use Rattle.clk_base.specs.declared.event.Event.{Event}
use Rattle.clk_base.specs.declared.event.Reply.{Reply}
use Rattle.clk_base.specs.declared.handle.Handle.{Handle}
use Rattle.clk_model.specs.Journal.{Answered, is_going, calls_of, cost, Legal}
use Rattle.clk_model.specs.Tier.{is_step}
use Rattle.clk_model.specs.Follows.{Variables, call_of, FollowsFrom}
use Rattle.clk_machine.specs.Run.{Run}

-- whether entries are whole calls of this driver, where one of its calls goes on before them or none does: while one goes on the next entry
-- is a step of it, and else it begins one, and none goes on behind them
abbrev pub are_calls : ℕ → Bool → List Entry → Bool
are_calls d going [] = not going
are_calls d going (e ∷ es) = (e.driver == d) && (if going then is_step e.event else not (is_step e.event)) && are_calls d (is_going e.turn) es

-- a call of a driver was made, with all its steps, and answered so
pub record Answers (old : Run) (d : ℕ) (made : Event) (answer : Reply) (new : Run) : Type 0 where
  pub entries : List Entry
  pub start : new.start ≡ old.start
  pub told : new.told ≡ old.told
  pub behind : new.behind ≡ old.behind
  pub journal : new.journal ≡ old.journal ++ entries
  pub own : are_calls d false entries ≡ true
  pub paid : cost entries ≡ 1
  pub calls : calls_of entries ≡ record { call = made; reply = answer } ∷ []
  pub legal : old.told ≡ true → Legal old.start old.journal → Legal new.start new.journal

-- a core has gone on from the same opening, over the same bank: entries were appended, or none
pub record HasGoneOn (old new : Run) : Type 0 where
  pub entries : List Entry
  pub start : new.start ≡ old.start
  pub told : new.told ≡ old.told
  pub behind : new.behind ≡ old.behind
  pub journal : new.journal ≡ old.journal ++ entries

-- what the call of a command has done: none was made, or the next call was made and answered
abbrev pub MakesCall : Run → ℕ → Option Handle → Act → Option Reply → Run → Type 0
MakesCall old d held a None new = (call_of held a ≡ None) × (new ≡ old)
MakesCall old d held a (Some r) new = (e : Event) × (call_of held a ≡ Some e) × Answers old d e r new

-- a core goes through commands of a driver: whole calls of that driver alone are appended, and its calls and answers follow the commands;
-- the variables hold what they held before and after
pub record GoesThrough (old : Run) (d : ℕ) (held : Variables) (commands : List Command) (answers : List Answer) (held' : Variables) (new : Run) : Type 0 where
  pub entries : List Entry
  pub start : new.start ≡ old.start
  pub told : new.told ≡ old.told
  pub behind : new.behind ≡ old.behind
  pub journal : new.journal ≡ old.journal ++ entries
  pub own : are_calls d false entries ≡ true
  pub few : cost entries ≤ length commands
  pub legal : old.told ≡ true → Legal old.start old.journal → Legal new.start new.journal
  pub follows : (cs : List Command) (ls : List Answered) (as_ : List Answer) → FollowsFrom held' cs ls as_
      → FollowsFrom held (commands ++ cs) (calls_of entries ++ ls) (answers ++ as_)
