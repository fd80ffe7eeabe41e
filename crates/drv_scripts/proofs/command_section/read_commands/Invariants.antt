use Rattle.std.proofs.Common.{◌≡◌, ◌+◌, ◌-◌, ◌≤◌, length, map}
use Rattle.std.specs.Option.{option_map}
use Rattle.dts_clocks.specs.Consumers.{seen_name}
use Rattle.drv_scripts.specs.Commands.{said_before, variables_before, command_fault, commands_of}
use Rattle.drv_scripts.specs.Judged.{KeepsBetween}
use Rattle.drv_scripts.proofs.command_section.read_commands.Given as goal

-- the lines so far have no fault, and their variables and commands are read
abbrev pub invariant-loop-at : goal.invariant-loop-at
invariant-loop-at l = record {
  kept : KeepsBetween (command_fault l.desc.defs (option_map (λ own. map seen_name own.now) l.fn.names) l.before l.lines l.from) l.from l.at;
  variables : l.variables ≡ variables_before l.lines l.from l.at;
  own : length l.commands.items ≡ length (said_before l.lines l.from l.at);
  commands : l.commands.items ≡ commands_of l.desc.defs (option_map (λ own. map seen_name own.now) l.fn.names) l.lines l.from (l.at - l.from);
  room : length l.variables ≤ length l.commands.items;
  few : length l.commands.items ≤ 65536;
  fewer : l.before + length l.commands.items ≤ 1048576;
}
