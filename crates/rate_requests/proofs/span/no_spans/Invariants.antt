-- So far there are so many lists, and each is empty.
use Rattle.std.proofs.Common.{◌≡◌, [], replicate}
use Rattle.rate_requests.specs.Spans.{lists}
use Rattle.rate_requests.proofs.span.no_spans.Given as goal

abbrev pub invariant-loop-clock : goal.invariant-loop-clock
invariant-loop-clock l = lists l.spans.items ≡ replicate l._clock []
