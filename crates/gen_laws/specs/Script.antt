-- The commands of each driver of the bundle that is run to measure.
use Rattle.std.specs.Prelude.{ℕ, ◌+◌, ◌-◌, ◌*◌, List, [], ◌∷◌, ◌++◌, Some, codes, decimal}
use Rattle.clk_base.specs.declared.command.Act.{Act}
use Rattle.clk_base.specs.declared.command.Act.TheVariants.{Get, Put, Prepare, Unprepare, Enable, Disable, Running, SetRate}
use Rattle.clk_base.specs.declared.command.Command.{Command}
use Rattle.clk_gen.specs.Generated.{asked}
use Rattle.gen_laws.specs.Clocks.{up_to, gate, place_of}

-- a turn sets a rate, and opens, asks and closes the gate
abbrev pub turn_acts : ℕ → List Act
turn_acts turn = SetRate (asked turn) ∷ Enable ∷ Running ∷ Disable ∷ []

-- all turns
unfoldable pub turns_acts : List Act
turns_acts = up_to turn_acts 100

-- what a driver does with its gate once it has it
unfoldable pub acts_held : List Act
acts_held = Prepare ∷ (turns_acts ++ (Unprepare ∷ Put ∷ []))

-- all that a driver does: it gets its gate first
abbrev pub acts_of : ℕ → List Act
acts_of driver = Get (Some (record { 0 = place_of (gate driver) })) ∷ acts_held

-- acts as commands on a driver's only variable, each on a line of its own from this one on
abbrev pub on_lines : ℕ → List Act → List Command
on_lines line [] = []
on_lines line (act ∷ acts) = record { line = line; var = Some 0; act = act } ∷ on_lines (line + 1) acts

-- the line of a driver's first command: behind the clocks, the bank and the drivers before it
abbrev pub first_line : ℕ → ℕ → ℕ
first_line drivers driver = 4 * drivers + 405 * driver - 399

-- the name of a driver
abbrev pub driver_name : ℕ → List ℕ
driver_name driver = codes "w" ++ decimal driver
