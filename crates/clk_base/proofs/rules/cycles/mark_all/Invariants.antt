-- The clocks before the next one are marked and listed.
use Rattle.std.proofs.Common.{◌≡◌, length, take}
use Rattle.clk_base.specs.Places.{places}
use Rattle.clk_base.specs.Tables.{IsListed, with_places}
use Rattle.clk_base.proofs.rules.cycles.mark_all.Given as goal

abbrev pub invariant-loop-clock : goal.invariant-loop-clock
invariant-loop-clock l = record {
  each : length l.marked.items ≡ length l.initial.marked.items;
  listed : IsListed l.marked.items (places l.reached.items);
  reached : places l.reached.items ≡ with_places (places l.initial.reached.items) (places (take l.clock-index l.clocks));
}
