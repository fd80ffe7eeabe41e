-- What the program's values say.
use Rattle.std.specs.Prelude.{Result, Ok, Err}
use Rattle.bundle_text.specs.Words.{texts}
use Rattle.clock_lines.specs.declared.clock_line.LineClock.{LineClock}
use Rattle.bundle_text.specs.declared.reason.Reason.{Reason}
use Rattle.clock_lines.specs.Said.{SaidClock}

-- a line, by the bytes of its words
abbrev pub shown : LineClock → SaidClock
shown line = record { name = line.name.now; kind = line.kind; flags = line.flags; parents = texts line.parents.now }

-- a line or what is wrong with it
abbrev pub shown_line : Result LineClock Reason → Result SaidClock Reason
shown_line (Ok line) = Ok (shown line)
shown_line (Err reason) = Err reason
