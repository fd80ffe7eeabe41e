-- The clocks so far, and the path from the next one on, are the path.
use Rattle.std.proofs.Common.{◌≡◌, ◌-◌, ◌<◌, ◌≤◌, ◌++◌, length, take}
use Rattle.clk_base.specs.Description.{Description}
use Rattle.clk_model.specs.State.{link_in}
use Rattle.clk_model.specs.Tree.{path_within}
use Rattle.core_parts.specs.Shape.{LinksLie}
use Rattle.core_parts.proofs.Gathering.{places}
use Rattle.core_parts.proofs.gates.gather.Given as goal

abbrev pub invariant-loop-place : goal.invariant-loop-place
invariant-loop-place l = record {
  long : length l.path ≡ 16;
  few : l.place ≤ l.levels;
  path : path_within (link_in l.tree.clocks) l.levels l.fn.clock.0 ≡ places (take l.place l.path) ++ path_within (link_in l.tree.clocks) (l.levels - l.place) l.at.0;
  inside : (defs : Description) → l.fn.clock.0 < length defs → LinksLie defs l.tree.clocks → l.at.0 < length defs;
}
