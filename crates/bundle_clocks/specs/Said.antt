-- What the section of the clocks says.
use Rattle.std.specs.Prelude.{ℕ, List, map}
use Rattle.clk_base.specs.Description.{Description}
use Rattle.dts_clocks.specs.Assigned.{SeenAssigned, seen_assigned}
use Rattle.dts_clocks.specs.Consumers.{SeenConsumer, seen_consumer}
use Rattle.bundle_clocks.specs.declared.part.ClocksPart.{ClocksPart}

-- a description, the line of each clock, the consumers, and what each node that assigns clocks asks for, with its line; lines count from 1
pub record SaidClocks : Type 0 where
  pub defs : Description
  pub lines : List ℕ
  pub consumers : List SeenConsumer
  pub assigned : List SeenAssigned

-- what the part of a bundle that a program has read says of clocks
abbrev pub said_clocks : ClocksPart → SaidClocks
said_clocks part =
    record {
      defs = part.desc;
      lines = part.lines.items;
      consumers = map seen_consumer part.consumers.items;
      assigned = map seen_assigned part.assigned.items;
    }
