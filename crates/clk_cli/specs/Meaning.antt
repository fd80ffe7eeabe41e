-- What the words behind the program's name mean.
use Rattle.std.specs.Prelude.{ℕ, Bool, List, [], ◌∷◌, Option, Some, None, Result, Ok, Err, ok_or, false, map, codes, slice_index, ◌==◌, if◌then◌else◌}
use Rattle.std.specs.Borrow.{Bor}
use Rattle.std.specs.Option.{option_map, option_map_or}
use Rattle.std.specs.Str.{bytes_eq}
use Rattle.bundle_text.specs.Numbers.{number_up_to}
use Rattle.clap.specs.Faults.{fault_of}
use Rattle.clap.specs.Kinds.{Kinds}
use Rattle.clap.specs.Matches.{found_of}
use Rattle.clap.specs.Simple.{matches_of}
use Rattle.clap.specs.Values.{kind_of}
use Rattle.clap.specs.Walk.{Row, Text, first_of, rows_of}
use Rattle.clap.specs.declared.error.Error.{Error}
use Rattle.clap.specs.declared.error.kind.ErrorKind.{ErrorKind}
use Rattle.clap.specs.declared.error.kind.ErrorKind.TheVariants.{OutOfMemory}
use Rattle.clap.specs.declared.parser.matches.ArgMatches.{ArgMatches}
use Rattle.clk_cli.specs.CommandLine.{clkbench}
use Rattle.clk_cli.specs.declared.cli.Cli.{Cli}
use Rattle.clk_cli.specs.declared.cli.CliFault.{CliFault}
use Rattle.clk_cli.specs.declared.cli.CliFault.TheVariants.{Usage, NoMemory}
use Rattle.clk_cli.specs.declared.cli.Mode.{Mode}
use Rattle.clk_cli.specs.declared.cli.Mode.TheVariants.{Check, Sim, Run, Bench}

-- the words' bytes
abbrev pub texts : List (Bor (List ℕ)) → List (List ℕ)
texts words = map (λ word. word.now) words

-- ---- the command and its count

-- the digit 0
abbrev pub zero_digit : ℕ
zero_digit = 48

-- the number from 1 to 64 that decimal digits write without a leading zero
abbrev pub count_of : Text → Option ℕ
count_of text = if slice_index text 0 == zero_digit then None else number_up_to 64 text

-- the command of this name that has no count
abbrev pub plain_mode : Text → Option Mode
plain_mode name =
    if bytes_eq name (codes "check") then Some Check
    else if bytes_eq name (codes "sim") then Some Sim
    else if bytes_eq name (codes "run") then Some Run
    else None

-- the command of this name with this count, which `bench` has and no other
abbrev pub counted_mode : Text → Text → Option Mode
counted_mode name count = if bytes_eq name (codes "bench") then option_map Bench (count_of count) else None

-- the command of this name, with its count where one is given
abbrev pub mode_of : Text → Option Text → Option Mode
mode_of name None = plain_mode name
mode_of name (Some count) = counted_mode name count

-- ---- the words

-- a flag with this value is given
abbrev pub is_given : Option Text → Bool
is_given value = option_map_or (λ text. bytes_eq text (codes "true")) value false

-- what is asked by the flags with these values, and by this command and count
abbrev pub cli_of : Option Text → Option Text → Option Text → Option Text → Option Cli
cli_of journal ignore_unused None count = None
cli_of journal ignore_unused (Some name) count =
    option_map (λ mode. record { mode = mode; journal = is_given journal; ignore_unused = is_given ignore_unused }) (mode_of name count)

-- what matches say by the first values of the two flags, of the command and of the count
abbrev pub read_rows : List Row → Option Cli
read_rows rows =
    cli_of (first_of (codes "journal") rows) (first_of (codes "ignore_unused") rows) (first_of (codes "command") rows) (first_of (codes "count") rows)

-- what an error of this kind tells: want of memory, or else that the words mean nothing
abbrev pub fault_told : ErrorKind → CliFault
fault_told OutOfMemory = NoMemory
fault_told kind = Usage

-- what `clap`'s answer tells: what its matches say, or why there is nothing
abbrev pub cli_told : Result ArgMatches Error → Result Cli CliFault
cli_told (Ok matches) = ok_or (read_rows (rows_of (found_of matches))) Usage
cli_told (Err error) = Err (fault_told (kind_of error))

-- this, unless there are faults
abbrev pub unless : Kinds → Option Cli → Option Cli
unless [] cli = cli
unless (fault ∷ faults) cli = None

-- what the words mean, or none where they mean nothing: what `clap`'s matches of them say, unless `clap` refuses them
unfoldable pub meaning : List Text → Option Cli
meaning words = unless (fault_of clkbench words) (read_rows (matches_of clkbench words))
