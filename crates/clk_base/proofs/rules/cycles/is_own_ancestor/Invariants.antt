-- What is reached from the clock so far.
use Rattle.std.proofs.Common.{◌≡◌, ◌-◌, true, length}
use Rattle.std.specs.Prelude.{nat_lt}
use Rattle.std.specs.List.{list_all}
use Rattle.clk_base.specs.Description.{parents_of}
use Rattle.clk_base.specs.Places.{places}
use Rattle.clk_base.specs.Tables.{IsListed}
use Rattle.clk_base.proofs.Walked.{IsWalk}
use Rattle.clk_base.proofs.rules.cycles.is_own_ancestor.Given as goal

abbrev pub invariant-loop-at : goal.invariant-loop-at
invariant-loop-at l = record {
  each : length l.marked.items ≡ length l.defs;
  listed : IsListed l.marked.items (places l.reached.items);
  inside : list_all (λ p. nat_lt p (length l.defs)) (places l.reached.items) ≡ true;
  walk : IsWalk (parents_of l.defs) l.c.0 (places l.reached.items) l.at;
}

abbrev pub decreases-loop-at : goal.decreases-loop-at
decreases-loop-at l = length l.defs - l.at
