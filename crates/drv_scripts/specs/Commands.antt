-- The commands of a driver's section, each judged by its place and by the lines of the section before it. Places count lines from 0, and `first` is the place behind the section's header.
use Rattle.std.specs.Prelude.{ℕ, ◌+◌, ◌-◌, ◌==◌, ◌||◌, nat_le, Bool, true, List, [], ◌∷◌, ◌++◌, length, fold, slice_get, Option, Some, None, Result, Ok, Err, if◌then◌else◌}
use Rattle.std.specs.List.{list_any, position}
use Rattle.std.specs.Option.{option_map, option_and_then, is_some}
use Rattle.std.specs.Str.{bytes_eq}
use Rattle.clk_base.specs.declared.clock.ClockId.{ClockId}
use Rattle.clk_base.specs.declared.command.Act.{Act}
use Rattle.clk_base.specs.declared.command.Act.TheVariants.{Get, SetParent, Probe, Sweep}
use Rattle.clk_base.specs.declared.command.Command.{Command}
use Rattle.clk_base.specs.Description.{Description, clock_named}
use Rattle.dts_clocks.specs.Consumers.{SeenName}
use Rattle.bundle_text.specs.Firsts.{said_from}
use Rattle.bundle_text.specs.Lines.{line_at}
use Rattle.bundle_text.specs.Words.{said_words}
use Rattle.bundle_text.specs.declared.reason.Reason.{Reason}
use Rattle.bundle_text.specs.declared.reason.Reason.TheVariants.{UnknownName, TooManyCommands}
use Rattle.drv_scripts.specs.CommandLines.{CommandLine, gets, acts, moves, registers, sweeps, command_line}
use Rattle.drv_scripts.specs.Judged.{words_say}

-- ## Names

-- the clock that a consumer's first specifier of this name means, if any
abbrev pub clock_of_name : List SeenName → List ℕ → Option ClockId
clock_of_name names name = option_and_then (λ n. n.clock) (option_and_then (slice_get names) (position (λ n. bytes_eq n.name name) names))

-- the clock that a name means to a driver: by the names of its consumer, if it has one, else by the names of clocks
unfoldable pub clock_for : Description → Option (List SeenName) → List ℕ → Option ClockId
clock_for defs None name = clock_named defs name
clock_for defs (Some names) name = clock_of_name names name

-- what a command asks for; none where it names a clock that isn't there
unfoldable pub act_in : Description → Option (List SeenName) → CommandLine → Option Act
act_in defs names (gets var name) = Some (Get (clock_for defs names name))
act_in defs names (acts act var) = Some act
act_in defs names (moves var name) = option_map (λ c. SetParent c) (clock_named defs name)
act_in defs names (registers name) = option_map (λ c. Probe c) (clock_named defs name)
act_in defs names sweeps = Some Sweep

-- ## Variables

-- the variables with the one of a `get`, unless it is among them
abbrev pub with_variable : List (List ℕ) → List ℕ → List (List ℕ)
with_variable vars var = if list_any (bytes_eq var) vars then vars else vars ++ var ∷ []

-- the variables after a command
abbrev pub after_command : List (List ℕ) → CommandLine → List (List ℕ)
after_command vars (gets var name) = with_variable vars var
after_command vars (acts act var) = vars
after_command vars (moves var name) = vars
after_command vars (registers name) = vars
after_command vars sweeps = vars

-- a command uses a variable that it or an earlier `get` names, or none
unfoldable pub has_variable : List (List ℕ) → CommandLine → Bool
has_variable vars (gets var name) = true
has_variable vars (acts act var) = is_some (position (bytes_eq var) vars)
has_variable vars (moves var name) = is_some (position (bytes_eq var) vars)
has_variable vars (registers name) = true
has_variable vars sweeps = true

-- the number of the variable that a command uses, counted from 0 in the order of the first `get`s
unfoldable pub variable_of : List (List ℕ) → CommandLine → Option ℕ
variable_of vars (gets var name) = position (bytes_eq var) (with_variable vars var)
variable_of vars (acts act var) = position (bytes_eq var) vars
variable_of vars (moves var name) = position (bytes_eq var) vars
variable_of vars (registers name) = None
variable_of vars sweeps = None

-- ## A command behind others

-- the command of a line that says this behind `get`s of these variables; none where a name or the variable isn't known
unfoldable pub known_command : Description → Option (List SeenName) → List (List ℕ) → ℕ → CommandLine → Option Command
known_command defs names vars line said =
    if has_variable vars said then option_map (λ act. record { line = line; var = variable_of vars said; act = act }) (act_in defs names said) else None

-- one command more is one too many behind so many of the driver itself and so many of the drivers before it
unfoldable pub is_full : ℕ → ℕ → Bool
is_full own before = nat_le 65536 own || nat_le 1048576 (before + own)

-- what is wrong with a command that is known or not
abbrev pub known_fault : Bool → Option Command → Option Reason
known_fault full None = Some UnknownName
known_fault full (Some command) = if full then Some TooManyCommands else None

-- what is wrong with a command line that was read or not
abbrev pub said_fault : Description → Option (List SeenName) → List (List ℕ) → Bool → ℕ → Result CommandLine Reason → Option Reason
said_fault defs names vars full line (Err reason) = Some reason
said_fault defs names vars full line (Ok said) = known_fault full (known_command defs names vars line said)

-- ## Commands at their places

-- what the line at a place says by itself
unfoldable pub said_at : List (List ℕ) → ℕ → Option CommandLine
said_at ls k = words_say (said_words (line_at ls k)) (command_line (said_words (line_at ls k)))

-- what the lines of the section before a place say
unfoldable pub said_before : List (List ℕ) → ℕ → ℕ → List CommandLine
said_before ls first k = said_from (said_at ls) first (k - first)

-- the variables that the `get`s among them name, in the order of their first `get`
abbrev pub variables_before : List (List ℕ) → ℕ → ℕ → List (List ℕ)
variables_before ls first k = fold after_command [] (said_before ls first k)

-- what is wrong with the line at a place, so many commands of other drivers standing before the section
unfoldable pub command_fault : Description → Option (List SeenName) → ℕ → List (List ℕ) → ℕ → ℕ → Option Reason
command_fault defs names before ls first k =
    if length (said_words (line_at ls k)) == 0 then None
    else said_fault defs names (variables_before ls first k) (is_full (length (said_before ls first k)) before) (k + 1) (command_line (said_words (line_at ls k)))

-- the command of the line at a place
unfoldable pub command_at : Description → Option (List SeenName) → List (List ℕ) → ℕ → ℕ → Option Command
command_at defs names ls first k = option_and_then (known_command defs names (variables_before ls first k) (k + 1)) (said_at ls k)

-- the commands of so many lines behind the header
unfoldable pub commands_of : Description → Option (List SeenName) → List (List ℕ) → ℕ → ℕ → List Command
commands_of defs names ls first count = said_from (command_at defs names ls first) first count
