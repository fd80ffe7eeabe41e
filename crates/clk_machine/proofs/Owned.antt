-- A decision about a driver's own handle is on one.
use Rattle.std.proofs.Common.{ℕ, List, Option}
use Rattle.clk_base.specs.declared.call.Sleeping.{Sleeping}
use Rattle.clk_model.specs.declared.row.HandleRow.{HandleRow}
use Rattle.core_parts.specs.Decisions.{Decision}
use Rattle.core_parts.specs.Decisions as decided
use Rattle.clk_machine.specs.Deciding.{IsOwned}
use Rattle.clk_machine.specs.Parts.{IsOwnCall}

pub owned_call : (handles : List (Option HandleRow)) (d : ℕ) (what : Sleeping) (decision : Decision) → IsOwnCall handles d what → IsOwned handles d what decision
owned_call handles d what (decided.Refused e) own = tt
owned_call handles d what decided.AtOnce own = own
owned_call handles d what (decided.Change plan script) own = own
