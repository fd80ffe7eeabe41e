-- The rows of the bundle that is run to measure.
use Rattle.std.proofs.Common.{ℕ, ◌*◌, List, [], ◌∷◌, ◌++◌, map, decimal}
use Rattle.std.specs.Prelude.{codes}
use Rattle.clk_base.specs.declared.command.Act.{Act}
use Rattle.clk_base.specs.declared.command.Act.TheVariants.{Put, Prepare, Unprepare, Enable, Disable, Running, SetRate}
use Rattle.clk_gen.specs.Generated.{first_word, second_word}
use Rattle.gen_laws.specs.Clocks.{Part, root, pll, divider, gate, up_to, all_parts, name_of}
use Rattle.gen_laws.specs.Script.{acts_held, driver_name}

-- a line by its words
abbrev pub Row : Type 0
Row = List (List ℕ)

-- the line of a clock
abbrev pub part_row : Part → Row
part_row root = codes "fixed" ∷ codes "osc" ∷ codes "24000000" ∷ []
part_row (pll k) =
    codes "pll" ∷ name_of (pll k) ∷ codes "osc" ∷ decimal (first_word k) ∷ codes "0" ∷ codes "9" ∷ decimal (first_word k) ∷ codes "31" ∷ codes "100" ∷ codes "400" ∷ codes "24" ∷ []
part_row (divider k) = codes "divider" ∷ name_of (divider k) ∷ name_of (pll k) ∷ decimal (second_word k) ∷ codes "0" ∷ codes "4" ∷ codes "set-rate-parent" ∷ []
part_row (gate k) = codes "gate" ∷ name_of (gate k) ∷ name_of (divider k) ∷ decimal (second_word k) ∷ codes "8" ∷ codes "set-rate-parent" ∷ []

-- the first contents of the word of a driver's PLL
abbrev pub word_row : ℕ → Row
word_row k = decimal (first_word k) ∷ codes "0x64" ∷ []

-- the header of a driver
abbrev pub driver_row : ℕ → Row
driver_row k = codes "%driver" ∷ driver_name k ∷ []

-- a driver gets its gate
abbrev pub get_row : ℕ → Row
get_row k = codes "get" ∷ codes "x" ∷ name_of (gate k) ∷ []

-- what a driver does with it
abbrev pub act_row : Act → Row
act_row Put = codes "put" ∷ codes "x" ∷ []
act_row Prepare = codes "prepare" ∷ codes "x" ∷ []
act_row Unprepare = codes "unprepare" ∷ codes "x" ∷ []
act_row Enable = codes "enable" ∷ codes "x" ∷ []
act_row Disable = codes "disable" ∷ codes "x" ∷ []
act_row Running = codes "running" ∷ codes "x" ∷ []
act_row (SetRate rate) = codes "set" ∷ codes "x" ∷ decimal rate ∷ []
act_row _ = []

-- the commands of a driver
abbrev pub command_rows : ℕ → List Row
command_rows k = get_row k ∷ map act_row acts_held

-- a driver's section
abbrev pub driver_rows : ℕ → List Row
driver_rows k = driver_row k ∷ command_rows k

-- the bank's header
abbrev pub bank_row : ℕ → Row
bank_row drivers = codes "%regs" ∷ decimal (2 * drivers) ∷ []

-- the lines of the clocks
abbrev pub clock_rows : ℕ → List Row
clock_rows drivers = map part_row (all_parts drivers)

-- the lines of the bank
abbrev pub word_rows : ℕ → List Row
word_rows drivers = up_to (λ k. word_row k ∷ []) drivers

-- the whole bundle
abbrev pub bundle_rows : ℕ → List Row
bundle_rows drivers =
    (codes "%bundle" ∷ codes "1" ∷ []) ∷ ((codes "%clocks" ∷ []) ∷ (clock_rows drivers ++ (bank_row drivers ∷ (word_rows drivers ++ up_to driver_rows drivers))))
