-- The bundle that is run to measure, as the reader reads it.
use Rattle.std.specs.Prelude.{ℕ, ◌+◌, ◌*◌, List, [], ◌∷◌}
use Rattle.std.specs.List.{range_with_len}
use Rattle.drv_scripts.specs.declared.bundle.Bundle.{Bundle}
use Rattle.drv_scripts.specs.declared.bundle.Script.{Script}
use Rattle.drv_scripts.specs.Spelled.{boot_of}
use Rattle.gen_laws.specs.Clocks.{up_to, clocks}
use Rattle.gen_laws.specs.Script.{acts_of, on_lines, first_line, driver_name}

-- one driver of so many
abbrev pub script : ℕ → ℕ → Script
script drivers driver = record { name = driver_name driver; commands = on_lines (first_line drivers driver) (acts_of driver) }

-- the first contents of a driver's two words: its PLL multiplies by 100 and is off
abbrev pub first_contents : ℕ → List ℕ
first_contents driver = 100 ∷ 0 ∷ []

-- the bundle of so many drivers: clocks from the third line on, two words a driver, and nothing that is late, assigned or ordered
unfoldable pub measured : ℕ → Bundle
measured drivers = record {
  desc = record { defs = clocks drivers; words = 2 * drivers };
  clock_lines = range_with_len 3 (3 * drivers + 1);
  assigned_lines = [];
  words = up_to first_contents drivers;
  locks = [];
  late = [];
  boot = boot_of (3 * drivers + 1);
  drivers = up_to (λ driver. script drivers driver ∷ []) drivers;
  order = [];
}
