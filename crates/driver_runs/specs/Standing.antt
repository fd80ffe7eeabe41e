-- How far a driver has come in its commands.
use Rattle.std.specs.Prelude.{◌≡◌, List, [], ◌∷◌, ◌++◌, drop, length}
use Rattle.clk_base.specs.declared.command.Answer.{Answer}
use Rattle.clk_base.specs.declared.command.Answer.TheVariants as answer
use Rattle.clk_base.specs.declared.command.Command.{Command}
use Rattle.clk_base.specs.declared.event.Reply.{Reply}
use Rattle.clk_model.specs.Journal.{Answered}
use Rattle.clk_model.specs.Follows.{Variables, no_handles, held_after, FollowsFrom}
use Rattle.clk_model.specs.Ordered.{unskipped}
use Rattle.driver_runs.specs.declared.standing.Standing.{Standing}

-- the commands that aren't answered yet
abbrev pub left_of : List Command → Standing → List Command
left_of commands x = drop (length x.answers.items) commands

-- what follows from here on follows from before on, behind some answers more
abbrev pub FollowsOn : Variables → List Command → List Answer → List Command → Standing → Type 0
FollowsOn held before answers commands x =
    (ls : List Answered) (as_ : List Answer) → FollowsFrom x.held.items (left_of commands x) ls as_
    → (more : List Answer) × (x.answers.items ++ as_ ≡ answers ++ more) × FollowsFrom held before ls more

-- the commands that are skipped were passed over
pub record PassesOver (commands : List Command) (old new : Standing) : Type 0 where
  pub held : new.held.items ≡ old.held.items
  pub left : left_of commands new ≡ unskipped old.held.items (left_of commands old)
  pub follows : FollowsOn old.held.items (left_of commands old) old.answers.items commands new

-- so were some of them
pub record PassesSome (commands : List Command) (old new : Standing) : Type 0 where
  pub held : new.held.items ≡ old.held.items
  pub left : unskipped old.held.items (left_of commands new) ≡ unskipped old.held.items (left_of commands old)
  pub follows : FollowsOn old.held.items (left_of commands old) old.answers.items commands new

-- a driver has answered none of its commands but those that are skipped at once
pub record IsNew (commands : List Command) (x : Standing) : Type 0 where
  pub held : x.held.items ≡ no_handles commands
  pub left : left_of commands x ≡ unskipped x.held.items commands
  pub follows : FollowsOn (no_handles commands) commands [] commands x

-- the next command was answered so, and the skipped ones behind it were passed over
pub record IsAnswered (commands : List Command) (old : Standing) (command : Command) (r : Reply) (new : Standing) : Type 0 where
  pub behind : List Command
  pub next : left_of commands old ≡ command ∷ behind
  pub held : new.held.items ≡ held_after old.held.items command command.act r
  pub left : left_of commands new ≡ unskipped new.held.items behind
  pub follows : FollowsOn new.held.items behind (old.answers.items ++ answer.Reply r ∷ []) commands new
