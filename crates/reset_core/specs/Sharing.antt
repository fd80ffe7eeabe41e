-- A call of a driver on shared resets.
use Rattle.std.specs.Prelude.{[]}
use Rattle.clk_base.specs.declared.event.Reply.{Reply}
use Rattle.tier_lock.specs.Known.{KnownPass}
use Rattle.shared_log.specs.Entering.{Enters}
use Rattle.reset_core.specs.declared.call.ResetCall.{ResetCall}
use Rattle.reset_core.specs.declared.call.ResetEntry.{ResetEntry}
use Rattle.reset_core.specs.declared.start.ResetStart.{ResetStart}
use Rattle.reset_core.specs.Turns.{Legal}
use Rattle.reset_core.specs.Logs.{state_of}

-- its entry, answered so, stands at the end of what the seat has seen, a legal journal, and of its own
abbrev pub EntersReset : KnownPass ResetEntry ResetStart → ResetCall → Reply → KnownPass ResetEntry ResetStart → Type 0
EntersReset old what r new =
    Enters (λ start journal. Legal (state_of start []) journal) (λ e. e.driver) old (record { driver = old.number; what = what; reply = r }) new
