-- What is marked and what is left to be marked are all that was given.
use Rattle.std.proofs.Common.{◌≡◌, ◌||◌, ℕ, length, drop, map}
use Rattle.clk_base.specs.Tables.{flag_at}
use Rattle.clk_model.specs.Lists.{is_in}
use Rattle.orphans.proofs.marks.marks_of.Given as goal

abbrev pub invariant-loop-clock : goal.invariant-loop-clock
invariant-loop-clock l = record {
  size : length l.marks.items ≡ l.count;
  marked : (x : ℕ) → (flag_at l.marks.items x || is_in x (map (λ c. c.0) (drop l.clock-index l.clocks))) ≡ is_in x (map (λ c. c.0) l.clocks);
}
