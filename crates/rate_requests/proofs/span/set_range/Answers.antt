-- The range in this place is done now.
use Rattle.std.proofs.Common.{◌<◌, ap, ◌∙◌, arith, set, get_or, length}
use Rattle.std.proofs.lemmas.List.{length-set, get_or_default}
use Rattle.std.proofs.lemmas.List.Edits.{map_over_more}
use Rattle.rate_requests.specs.declared.span.Span.{Span}
use Rattle.rate_requests.specs.Spans.{with_range}
use Rattle.rate_requests.proofs.span.set_range.Goals as goal

pub loop-place-preserved : goal.loop-place-preserved
loop-place-preserved c =
    let now = c.loop-place.spans in
    let i = c.loop-place.place in
    let none : Span = record { number = 0; min = 0; max = 0 } in
    let long = c.loop-place.invariant.long in
    let within : i < length now = omega (arith, c.loop-place-test.true) in
    record {
      done =
          ap (set now i) c.with_range.ensures
          ∙ map_over_more (with_range c.args.number c.args.min c.args.max) c.args.spans.now now i (get_or now i none) c.loop-place-test.true c.loop-place.invariant.done
          (get_or_default now i none (get_or now i none) within);
      long = length-set now i c.with_range.result ∙ long;
    }
