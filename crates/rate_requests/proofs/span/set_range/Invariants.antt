-- The ranges before the next place are done, and the others are as they were.
use Rattle.std.proofs.Common.{◌≡◌, ◌++◌, map, take, drop, length}
use Rattle.rate_requests.specs.Spans.{with_range}
use Rattle.rate_requests.proofs.span.set_range.Given as goal

abbrev pub invariant-loop-place : goal.invariant-loop-place
invariant-loop-place l = record {
  done : l.spans ≡ map (with_range l.number l.min l.max) (take l.place l.fn.spans) ++ drop l.place l.fn.spans;
  long : length l.spans ≡ length l.fn.spans;
}
