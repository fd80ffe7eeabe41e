-- What is left to be asked gives the whole.
use Rattle.std.proofs.Common.{◌≡◌, max, drop}
use Rattle.std.specs.Prelude.{fold}
use Rattle.clk_tree.proofs.plls.greatest.Given as goal

abbrev pub invariant-loop-number : goal.invariant-loop-number
invariant-loop-number l = fold max 0 l.numbers ≡ fold max l.most (drop l.number-index l.numbers)
