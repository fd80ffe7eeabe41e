-- The boundaries of the ranges so far, one of them another.
use Rattle.std.proofs.Common.{◌≡◌, map, take}
use Rattle.std.specs.Prelude.{fold, max, min}
use Rattle.clk_model.specs.Round.{most_rate}
use Rattle.rate_requests.specs.Spans.{with_range}
use Rattle.rate_requests.proofs.span.bounds_with.Given as goal

abbrev pub invariant-loop-span : goal.invariant-loop-span
invariant-loop-span l = record {
  low : l.low ≡ fold max 0 (map (λ s. s.min) (map (with_range l.number l.least l.most) (take l.span-index l.spans)));
  high : l.high ≡ fold min most_rate (map (λ s. s.max) (map (with_range l.number l.least l.most) (take l.span-index l.spans)));
}
