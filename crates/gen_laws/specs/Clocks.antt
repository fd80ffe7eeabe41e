-- The clocks of the bundle that is run to measure: a root, and for each driver a PLL, a divider and a gate.
use Rattle.std.specs.Prelude.{ℕ, zero, suc, ◌-◌, ◌*◌, false, List, [], ◌∷◌, ◌++◌, map, codes, decimal}
use Rattle.clk_base.specs.declared.clock.ClockDef.{ClockDef}
use Rattle.clk_base.specs.declared.clock.Kind.{Kind}
use Rattle.clk_base.specs.declared.clock.Kind.TheVariants.{FixedRate, Gate, Divider, Pll}
use Rattle.clk_base.specs.Description.{Description}
use Rattle.clk_gen.specs.Generated.{first_word, second_word}

-- the lists of the numbers from 1 to this one, one behind the other
abbrev pub up_to : {X : Type 0} → (ℕ → List X) → ℕ → List X
up_to list zero = []
up_to list (suc n) = up_to list n ++ list (suc n)

-- a clock: the root, or one of a driver's
pub data Part : Type 0 where
  root : Part
  pll : (driver : ℕ) → Part
  divider : (driver : ℕ) → Part
  gate : (driver : ℕ) → Part

-- the clocks of a driver
abbrev pub parts_of : ℕ → List Part
parts_of driver = pll driver ∷ divider driver ∷ gate driver ∷ []

-- all clocks of so many drivers, in registration order
abbrev pub all_parts : ℕ → List Part
all_parts drivers = root ∷ up_to parts_of drivers

-- the place of a clock among them
abbrev pub place_of : Part → ℕ
place_of root = 0
place_of (pll driver) = 3 * driver - 2
place_of (divider driver) = 3 * driver - 1
place_of (gate driver) = 3 * driver

-- the name of a clock
abbrev pub name_of : Part → List ℕ
name_of root = codes "osc"
name_of (pll driver) = codes "p" ++ decimal driver
name_of (divider driver) = codes "d" ++ decimal driver
name_of (gate driver) = codes "g" ++ decimal driver

-- the kind of a clock, with its fields
abbrev pub kind_of : Part → Kind
kind_of root = FixedRate 24000000
kind_of (pll driver) = Pll (first_word driver) 0 9 (first_word driver) 31 100 400 24
kind_of (divider driver) = Divider (second_word driver) 0 4 false false
kind_of (gate driver) = Gate (second_word driver) 8 false

-- the flags of a clock: dividers and gates may ask their parent for a rate
abbrev pub flags_of : Part → ℕ
flags_of root = 0
flags_of (pll driver) = 0
flags_of (divider driver) = 4
flags_of (gate driver) = 4

-- the parents of a clock: the gate hangs below the divider, the divider below the PLL, and the PLL below the root
abbrev pub parents_of : Part → List Part
parents_of root = []
parents_of (pll driver) = root ∷ []
parents_of (divider driver) = pll driver ∷ []
parents_of (gate driver) = divider driver ∷ []

-- what a description says of a clock
abbrev pub clock_of : Part → ClockDef
clock_of part = record { name = name_of part; kind = kind_of part; flags = record { 0 = flags_of part }; parents = map place_of (parents_of part) }

-- the description of so many drivers
abbrev pub clocks : ℕ → Description
clocks drivers = map clock_of (all_parts drivers)
