-- What is left to be asked gives the whole, and nothing so far is too great.
use Rattle.std.proofs.Common.{◌≡◌, ◌≤◌, max, drop, map}
use Rattle.std.specs.Prelude.{fold, slice_index}
use Rattle.clk_tree.proofs.plls.greatest_above.Given as goal

abbrev pub invariant-loop-p : goal.invariant-loop-p
invariant-loop-p l = record {
  small : l.most ≤ 64;
  left : fold max 0 (map (λ p. slice_index l.above p.0) l.parents) ≡ fold max l.most (map (λ p. slice_index l.above p.0) (drop l.p-index l.parents));
}
