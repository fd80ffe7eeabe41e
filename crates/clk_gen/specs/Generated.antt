-- The bundle that is run to measure: each of its drivers has a PLL, a divider and a gate of its own.
use Rattle.std.specs.Prelude.{ℕ, zero, suc, ◌-◌, ◌*◌, ◌%◌, ◌==◌, ◌++◌, List, [], codes, decimal, if◌then◌else◌}

-- the texts of the numbers from 1 to this one, one behind the other
abbrev pub texts_up_to : (ℕ → List ℕ) → ℕ → List ℕ
texts_up_to text zero = []
texts_up_to text (suc n) = texts_up_to text n ++ text (suc n)

-- the word that the PLL of a driver stands in
abbrev pub first_word : ℕ → ℕ
first_word k = 2 * k - 2

-- the next one, in which its divider and its gate stand
abbrev pub second_word : ℕ → ℕ
second_word k = 2 * k - 1

-- the PLL of a driver
abbrev pub pll_line : ℕ → List ℕ
pll_line k = codes "pll p" ++ (decimal k ++ (codes " osc " ++ (decimal (first_word k) ++ (codes " 0 9 " ++ (decimal (first_word k) ++ (codes " 31 100 400 24\n"))))))

-- the divider below it, of four bits, which may ask the PLL for a rate
abbrev pub divider_line : ℕ → List ℕ
divider_line k = codes "divider d" ++ (decimal k ++ (codes " p" ++ (decimal k ++ (codes " " ++ (decimal (second_word k) ++ (codes " 0 4 set-rate-parent\n"))))))

-- the gate below the divider, which may ask it for a rate
abbrev pub gate_line : ℕ → List ℕ
gate_line k = codes "gate g" ++ (decimal k ++ (codes " d" ++ (decimal k ++ (codes " " ++ (decimal (second_word k) ++ (codes " 8 set-rate-parent\n"))))))

-- the clocks of a driver
abbrev pub clock_lines : ℕ → List ℕ
clock_lines k = pll_line k ++ divider_line k ++ gate_line k

-- the first contents of the word of a driver's PLL: it multiplies by 100 and is off
abbrev pub register_line : ℕ → List ℕ
register_line k = decimal (first_word k) ++ codes " 0x64\n"

-- the rate that a turn asks for, in Hz: one in odd turns and another in even ones
abbrev pub asked : ℕ → ℕ
asked turn = if turn % 2 == 0 then 30000000 else 40000000

-- one turn of a driver: a rate is set, and the gate is opened, asked and closed
abbrev pub turn_lines : ℕ → List ℕ
turn_lines turn = codes "set x " ++ (decimal (asked turn) ++ codes "\nenable x\nrunning x\ndisable x\n")

-- all turns of a driver
unfoldable pub turns_lines : List ℕ
turns_lines = texts_up_to turn_lines 100

-- the beginning of a driver's script: it takes its gate and prepares it
abbrev pub head_lines : ℕ → List ℕ
head_lines k = codes "%driver w" ++ (decimal k ++ (codes "\nget x g" ++ (decimal k ++ (codes "\nprepare x\n"))))

-- the script of a driver: it takes its gate, prepares it, makes its turns, and gives all back
abbrev pub driver_lines : ℕ → List ℕ
driver_lines k = head_lines k ++ turns_lines ++ codes "unprepare x\nput x\n"

-- how many words the bank has
abbrev pub words_line : ℕ → List ℕ
words_line drivers = codes "%regs " ++ (decimal (2 * drivers) ++ codes "\n")

-- the whole bundle of so many drivers
unfoldable pub generated : ℕ → List ℕ
generated drivers =
    codes "%bundle 1\n%clocks\nfixed osc 24000000\n" ++ texts_up_to clock_lines drivers
    ++ words_line drivers ++ texts_up_to register_line drivers ++ texts_up_to driver_lines drivers
