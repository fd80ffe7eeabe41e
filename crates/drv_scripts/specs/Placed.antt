-- What holds of every bundle that is read, for those who run it.
use Rattle.std.specs.Prelude.{◌≡◌, ℕ, ◌<◌, ◌≤◌, true, List, length, map, Some, None}
use Rattle.std.specs.List.{AllByRecursion, IsDistinct}
use Rattle.std.specs.Str.{bytes_eq}
use Rattle.bundle_text.specs.Names.{is_clock_name, is_driver_name}
use Rattle.clk_base.specs.Description.{name_of, EachClock}
use Rattle.clk_base.specs.declared.command.Act.{Act}
use Rattle.clk_base.specs.declared.command.Act.TheVariants.{Get, SetParent, Probe}
use Rattle.clk_base.specs.declared.command.Command.{Command}
use Rattle.clk_base.specs.Valid.{IsValid}
use Rattle.drv_scripts.specs.declared.bundle.Bundle.{Bundle}
use Rattle.drv_scripts.specs.declared.bundle.Script.{Script}
use Rattle.drv_scripts.specs.Sections.{count_of}

-- the clock that an act names is one of so many
abbrev pub NamesPlace : ℕ → Act → Type 0
NamesPlace clocks (Get None) = Unit {0}
NamesPlace clocks (Get (Some c)) = c.0 < clocks
NamesPlace clocks (SetParent c) = c.0 < clocks
NamesPlace clocks (Probe c) = c.0 < clocks
NamesPlace clocks _ = Unit {0}

-- the clocks that commands name are clocks of the description
abbrev pub NamePlaces : ℕ → List Command → Type 0
NamePlaces clocks commands = AllByRecursion (λ command. NamesPlace clocks command.act) commands

-- a driver's commands name clocks of the description, and there are at most 65,536
pub record IsScript (clocks : ℕ) (script : Script) : Type 0 where
  pub placed : NamePlaces clocks script.commands
  pub few : length script.commands ≤ 65536

-- the bundle's parts fit together
pub record IsSound (b : Bundle) : Type 0 where
  pub valid : IsValid b.desc.words b.desc.defs
  pub lines : length b.clock_lines ≡ length b.desc.defs
  pub some : 0 < b.desc.words
  pub few : b.desc.words ≤ 65536
  pub words : length b.words ≡ b.desc.words
  pub locks : AllByRecursion (λ l. l.clock.0 < length b.desc.defs) b.locks
  pub late : AllByRecursion (λ l. l.clock.0 < length b.desc.defs) b.late
  pub boot : NamePlaces (length b.desc.defs) b.boot
  -- a registration for each clock, and three commands for each assigned one
  pub boots : length b.boot ≤ 16384
  pub scripts : AllByRecursion (IsScript (length b.desc.defs)) b.drivers
  pub drivers : length b.drivers ≤ 64
  pub commands : count_of b.drivers ≤ 1048576
  pub turns : AllByRecursion (λ d. 0 < d) b.order
  -- clocks have names of clocks, and drivers names of drivers, which tell them apart and from boot
  pub clock_names : EachClock b.desc.defs (λ c. is_clock_name (name_of b.desc.defs c))
  pub driver_names : AllByRecursion (λ s. is_driver_name s.name ≡ true) b.drivers
  pub apart : IsDistinct bytes_eq (map (λ s. s.name) b.drivers)
