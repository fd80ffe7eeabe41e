-- The summary of a state: a header, and a line for each registered clock.
use Rattle.std.specs.Prelude.{ℕ, zero, suc, ◌+◌, ◌-◌, ◌*◌, List, [], ◌++◌, Bool, true, false, Option, Some, None, codes, decimal, length, replicate, flat_map, option_map}
use Rattle.std.specs.Option.{option_map_or}
use Rattle.clk_base.specs.declared.clock.Kind.{Kind}
use Rattle.clk_base.specs.Description.{kind_of, name_of}
use Rattle.clk_base.specs.Fields.{gate_of, power_of}
use Rattle.clk_base.specs.Levels.{depth}
use Rattle.reg_bank.specs.Registers.{Registers}
use Rattle.clk_model.specs.Kinds.{is_open, is_powered}
use Rattle.clk_model.specs.State.{State}
use Rattle.clk_model.specs.Tree.{children, roots, orphans}
use Rattle.clk_model.specs.Rate.{rate}
use Rattle.clk_model.specs.Counts.{enable_count, prepare_count, protect_count}
use Rattle.clk_model.specs.Text.{Word}

-- so many spaces
abbrev pub spaces : ℕ → List ℕ
spaces count = replicate count 32

-- a word left in so many places, and not cut where it is longer
abbrev pub left_in : ℕ → Word → List ℕ
left_in places word = word ++ spaces (places - length word)

-- a word right in so many places
abbrev pub right_in : ℕ → Word → List ℕ
right_in places word = spaces (places - length word) ++ word

-- a line of the summary: name, three counts, rate and the last column
abbrev pub columns : Word → Word → Word → Word → Word → Word → List ℕ
columns name enable prepare protect rate hw =
    left_in 32 name ++ right_in 8 enable ++ right_in 8 prepare ++ right_in 8 protect ++ right_in 21 rate ++ right_in 5 hw ++ codes "\n"

-- the header: what stands in each column
abbrev pub header : List ℕ
header = columns (codes "clock") (codes "enable") (codes "prepare") (codes "protect") (codes "rate") (codes "hw")

-- on or off, where there is something to switch
abbrev pub switch_word : Option Bool → Word
switch_word None = codes "-"
switch_word (Some true) = codes "on"
switch_word (Some false) = codes "off"

-- whether a gate is open or a PLL is powered; nothing of another kind
abbrev pub is_on : Kind → Registers → Option Bool
is_on kind regs = option_map_or (λ gate. Some (is_open regs gate)) (gate_of kind) (option_map (is_powered regs) (power_of kind))

-- the line of a clock, whose name stands behind two spaces for each level
abbrev pub summary_line : State → ℕ → ℕ → List ℕ
summary_line s level c =
    columns (spaces (2 * level) ++ name_of s.defs c) (decimal (enable_count s c)) (decimal (prepare_count s c)) (decimal (protect_count s c))
    (decimal (rate s.defs s.regs s.clocks c)) (switch_word (is_on (kind_of s.defs c) s.regs))

-- the lines of a clock on a level and of all below it, each before its children
abbrev pub lines_within : ℕ → State → ℕ → ℕ → List ℕ
lines_within zero s level c = []
lines_within (suc levels) s level c = summary_line s level c ++ flat_map (lines_within levels s (level + 1)) (children s.order s.clocks c)

-- the header, and the trees of the roots and then of the orphans
unfoldable pub summary : State → List ℕ
summary s = header ++ flat_map (lines_within depth s 0) (roots s.defs s.order ++ orphans s.defs s.order s.clocks)
