-- What the prepare lock keeps: the baton, and a copy of the prepare tier after what the baton has seen.
use Rattle.std.specs.Prelude.{◌≡◌, ℕ, ◌≤◌, List, true, false, Option, Some, length}
use Rattle.clk_base.specs.Valid.{IsValid}
use Rattle.clk_base.specs.declared.call.Sleeping.{Sleeping}
use Rattle.clk_base.specs.declared.event.Entry.{Entry}
use Rattle.clk_base.specs.declared.event.Turn.{Turn}
use Rattle.clk_model.specs.Begin.{most_credits}
use Rattle.clk_model.specs.Journal.{replay}
use Rattle.clk_machine.specs.Copied.{Copy, Copies, IsDecided, room_after}
use Rattle.clk_machine.specs.declared.decision.Decision.{Decision}
use Rattle.tier_lock.specs.Known.{KnownBaton}
use Rattle.clk_framework.specs.declared.opened.Opened.{Opened}
use Rattle.clk_framework.specs.Opening.{start_of}

-- the baton with the copy beside it
pub record Planning : Type 0 where
  pub baton : KnownBaton Entry Opened
  pub copy : Copy

-- a copy is made for what was opened: for its description, which is valid for as many words, and for as many credits as there may be
pub record IsMadeFor (copy : Copy) (o : Opened) : Type 0 where
  pub defs : copy.parts.desc.defs ≡ o.defs
  pub size : copy.parts.window.size ≡ length o.words
  pub valid : IsValid (length o.words) o.defs
  pub few : o.credits ≤ most_credits

-- a copy is of the state after these entries from the opening, if the bank tells its words
pub record IsCopyAfter (fixed : Option Opened) (seen : List Entry) (copy : Copy) : Type 0 where
  pub opened : Opened
  pub knows : fixed ≡ Some opened
  pub made : IsMadeFor copy opened
  pub copies : opened.told ≡ true → Copies copy (replay (start_of opened) seen)

-- the copy is of the state after what the baton has seen, and no call is in flight in it
pub record IsKept (p : Planning) : Type 0 where
  pub copied : IsCopyAfter p.baton.fixed p.baton.seen p.copy
  pub quiet : p.copy.parts.flight.going ≡ false

-- a copy has room for some call of this driver, as long as the call goes on after an entry with this turn
pub record IsRoomFor (d : ℕ) (turn : Turn) (copy : Copy) : Type 0 where
  pub what : Sleeping
  pub room : copy.room ≡ room_after turn (Some (d, what))

-- what a driver that has the baton knows of a decision: it is that of the prepare tier's part after what it has seen
abbrev pub KnowsDecision : Option Opened → List Entry → ℕ → Sleeping → Decision → Type 0
KnowsDecision fixed seen d what decision = (o : Opened) → fixed ≡ Some o → o.told ≡ true → IsDecided (replay (start_of o) seen) d what decision
