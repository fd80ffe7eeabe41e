-- How a copy goes along with the journal of a core.
use Rattle.std.specs.Prelude.{◌≡◌, false, List, Some, None}
use Rattle.clk_base.specs.declared.event.Entry.{Entry}
use Rattle.clk_model.specs.Journal.{slotless, replay, Legal}
use Rattle.clk_model.specs.Machine.{next}
use Rattle.clk_model.specs.State.{State, Change}
use Rattle.clk_machine.specs.Along.{KeepsShape}
use Rattle.clk_machine.specs.Copied.{Copy, IsCopyOf}
use Rattle.clk_machine.specs.Run.{in_flight}

-- a copy is of a state, and there is room in it for the call that is in flight there
pub record IsTraced (copy : Copy) (s : State) : Type 0 where
  pub of : IsCopyOf copy s
  pub room : (k : Change) → s.change ≡ Some k → copy.room ≡ Some (k.driver, k.call)

-- so it goes along with an entry
abbrev pub FollowsOn : Copy → Entry → Copy → Type 0
FollowsOn old e new = (s t : State) → IsTraced old s → next s e.driver e.event ≡ Some (t, slotless e.turn) → IsTraced new t

-- no call is in flight in a copy, and there is room for none
abbrev pub IsAtRest : Copy → Type 0
IsAtRest copy = (copy.room ≡ None) × (copy.parts.flight.going ≡ false)

-- a copy goes along with a journal, from each quiet state that it is of to the one after the entries
pub record Traces (old : Copy) (journal : List Entry) (new : Copy) : Type 0 where
  pub leads : (s : State) → IsCopyOf old s → s.change ≡ None → Legal s journal → IsTraced new (replay s journal)
  -- if no call is in flight after it, none is in the copy
  pub rest : in_flight journal ≡ false → IsAtRest new
  pub same : KeepsShape old.parts new.parts
