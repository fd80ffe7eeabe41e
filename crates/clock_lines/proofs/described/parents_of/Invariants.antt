-- the names so far are clocks' names, and these are the clocks' places
use Rattle.std.proofs.Common.{◌≡◌, true, map, take}
use Rattle.std.specs.List.{list_all}
use Rattle.bundle_text.specs.Words.{texts}
use Rattle.clk_base.specs.Places.{places}
use Rattle.clock_lines.specs.Section.{is_named, place_of}
use Rattle.clock_lines.proofs.described.parents_of.Given as goal

abbrev pub invariant-loop-name : goal.invariant-loop-name
invariant-loop-name l = record {
  named : list_all (is_named l.gathered) (take l.name-index (texts l.names)) ≡ true;
  placed : places l.found.items ≡ map (place_of l.gathered) (take l.name-index (texts l.names));
}
