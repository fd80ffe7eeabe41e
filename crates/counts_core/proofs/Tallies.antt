-- Laws on sums: one holder more or less of a clock.
use Rattle.std.proofs.Common.{ℕ, ◌+◌, ◌-◌, ◌<◌, ◌≤◌, List, Option, sym, ◌∙◌, arith, length, set, get_or}
use Rattle.std.proofs.lemmas.List.{length-set}
use Rattle.clk_base.specs.declared.clock.ClockId.{ClockId}
use Rattle.counts_core.specs.Sums.{AreSums, OneMore}
use Rattle.counts_core.proofs.Walking.{count-more, kids-le}
use Rattle.counts_core.proofs.Steps.{steps_down}

-- counts are small where holders are
pub sums_small : (links : List (Option ClockId)) (own counts : List ℕ) (d most : ℕ) → AreSums links own counts → length links ≤ 4096 → get_or own d 0 ≤ most → get_or counts d 0 ≤ most + 4096
sums_small links own counts d most sums few small =
    let here = sums.sums d in
    let children = kids-le links counts d in
    omega arith

-- one holder more
pub sums_added : (links : List (Option ClockId)) (own old new : List ℕ) (c : ℕ) → AreSums links own old → OneMore links old new c → c < length links
    → AreSums links (set own c (get_or own c 0 + 1)) new
sums_added links own old new c sums more within = record {
  owned = length-set own c (get_or own c 0 + 1) ∙ sums.owned;
  counted = more.size ∙ sums.counted;
  sums = λ d.
      let long = sums.owned in
      let here = sums.sums d in
      let walk = more.sums d in
      let added = count-more own c d (omega arith) in
      omega arith;
}

-- one holder less
pub sums_taken : (links : List (Option ClockId)) (own old new : List ℕ) (c : ℕ) → AreSums links own old → OneMore links new old c → c < length links → 0 < get_or own c 0
    → AreSums links (set own c (get_or own c 0 - 1)) new
sums_taken links own old new c sums more within held = record {
  owned = length-set own c (get_or own c 0 - 1) ∙ sums.owned;
  counted = sym more.size ∙ sums.counted;
  sums = λ d.
      let long = sums.owned in
      let here = sums.sums d in
      let walk = more.sums d in
      let taken = (steps_down links own c (get_or own c 0 - 1) (omega arith) (omega arith) (omega arith)).counts d in
      omega arith;
}
