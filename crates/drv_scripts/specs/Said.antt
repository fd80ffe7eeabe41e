-- What the program's lines say, by the bytes of their words.
use Rattle.std.specs.Prelude.{Result, Ok, Err}
use Rattle.bundle_text.specs.declared.reason.Reason.{Reason}
use Rattle.drv_scripts.specs.declared.command_line.CommandLine as declared_command
use Rattle.drv_scripts.specs.declared.command_line.CommandLine.TheVariants as command_words
use Rattle.drv_scripts.specs.CommandLines.{CommandLine, gets, acts, moves, registers, sweeps}

-- what a command line says, by the bytes of its words
abbrev pub said_command : declared_command.CommandLine → CommandLine
said_command (command_words.Gets var name) = gets var.now name.now
said_command (command_words.Acts act var) = acts act var.now
said_command (command_words.Moves var name) = moves var.now name.now
said_command (command_words.Registers name) = registers name.now
said_command command_words.Sweeps = sweeps

-- a command line, or what is wrong with it
abbrev pub shown_command : Result declared_command.CommandLine Reason → Result CommandLine Reason
shown_command (Ok line) = Ok (said_command line)
shown_command (Err reason) = Err reason
