-- The bundle that lines spell.
use Rattle.std.specs.Prelude.{ℕ, ◌+◌, ◌-◌, ◌==◌, List, [], ◌∷◌, ◌++◌, Bool, Option, Some, None, length, map, if◌then◌else◌}
use Rattle.std.specs.List.{range_with_len, flat_map, list_any}
use Rattle.bundle_text.specs.Firsts.{said_from}
use Rattle.clk_base.specs.declared.clock.ClockId.{ClockId}
use Rattle.clk_base.specs.declared.command.Act.{Act}
use Rattle.clk_base.specs.declared.command.Act.TheVariants.{Get, Put, SetParent, SetRate, Probe}
use Rattle.clk_base.specs.declared.command.Command.{Command}
use Rattle.bundle_clocks.specs.Said.{SaidClocks}
use Rattle.bundle_sections.specs.Said.{Parts}
use Rattle.bundle_sections.specs.declared.section.BankSection.{BankSection}
use Rattle.dts_clocks.specs.Assigned.{SeenAssigned}
use Rattle.dts_clocks.specs.declared.loaded.AssignedStep.{AssignedStep}
use Rattle.dts_clocks.specs.declared.loaded.AssignedStep.TheVariants.{Parent, Rate}
use Rattle.drv_scripts.specs.declared.bundle.Bundle.{Bundle}
use Rattle.drv_scripts.specs.declared.bundle.LateLine.{LateLine}
use Rattle.drv_scripts.specs.BankLines.{words_of}
use Rattle.drv_scripts.specs.Sections.{around, scripts_in, locks_in, late_in, turns_in}

-- ## Boot

-- boot's command that registers a clock
abbrev pub probe : ℕ → Command
probe c = record { line = 0; var = None; act = Probe (record { 0 = c }) }

-- boot registers each clock in its order
unfoldable pub boot_of : ℕ → List Command
boot_of count = map probe (range_with_len 0 count)

-- the clock is a late one
abbrev pub is_late : List LateLine → ℕ → Bool
is_late late c = list_any (λ l. l.clock.0 == c) late

-- boot's command that registers a clock, unless it is a late one
abbrev pub probe_unless : List LateLine → ℕ → Option Command
probe_unless late c = if is_late late c then None else Some (probe c)

-- boot registers each clock that isn't late, in its order
unfoldable pub probes_without : List LateLine → ℕ → List Command
probes_without late count = said_from (probe_unless late) 0 count

-- a command of boot on its variable
abbrev pub on_variable : Act → Command
on_variable act = record { line = 0; var = Some 0; act = act }

-- boot gets the clock, does this with it, and puts the handle back
abbrev pub held_for : ClockId → Act → List Command
held_for clock act = on_variable (Get (Some clock)) ∷ on_variable act ∷ on_variable Put ∷ []

-- boot's commands for an assigned clock
abbrev pub step_commands : AssignedStep → List Command
step_commands (Parent clock parent) = held_for clock (SetParent parent)
step_commands (Rate clock rate) = held_for clock (SetRate rate)

-- boot's commands for what nodes assign, each first its parents and then its rates
unfoldable pub assigned_commands : List SeenAssigned → List Command
assigned_commands assigned = flat_map (λ a. flat_map step_commands a.steps) assigned

-- ## The bundle

-- the words of the bank
abbrev pub bank_words : List (List ℕ) → BankSection → List ℕ
bank_words ls b = words_of b.words ls (b.place + 1) (b.end - (b.place + 1))

-- the late clocks
abbrev pub late_clocks : List (List ℕ) → Parts → SaidClocks → List LateLine
late_clocks ls parts said = flat_map (late_in (around ls parts said)) parts.others

-- lines in sections spell this bundle, over what the clocks' section says
unfoldable pub bundle_of : List (List ℕ) → Parts → SaidClocks → Bundle
bundle_of ls parts said = record {
  desc = record { defs = said.defs; words = parts.bank.words };
  clock_lines = said.lines;
  assigned_lines = map (λ a. a.line) said.assigned;
  words = bank_words ls parts.bank;
  locks = flat_map (locks_in (around ls parts said)) parts.others;
  late = late_clocks ls parts said;
  boot = probes_without (late_clocks ls parts said) (length said.defs) ++ assigned_commands said.assigned;
  drivers = flat_map (scripts_in (around ls parts said)) parts.others;
  order = flat_map (turns_in (around ls parts said)) parts.others;
}
