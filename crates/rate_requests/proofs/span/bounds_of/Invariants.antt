-- The boundaries of the ranges so far.
use Rattle.std.proofs.Common.{◌≡◌, map, take}
use Rattle.std.specs.Prelude.{fold, max, min}
use Rattle.clk_model.specs.Round.{most_rate}
use Rattle.rate_requests.proofs.span.bounds_of.Given as goal

abbrev pub invariant-loop-span : goal.invariant-loop-span
invariant-loop-span l = record {
  low : l.low ≡ fold max 0 (map (λ s. s.min) (take l.span-index l.spans));
  high : l.high ≡ fold min most_rate (map (λ s. s.max) (take l.span-index l.spans));
}
