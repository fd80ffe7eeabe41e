-- The boundaries of a clock are those of its ranges.
use Rattle.std.proofs.Common.{List, [], ap, ◌∙◌, map, get_or}
use Rattle.std.specs.Prelude.{fold, max, min, Vec}
use Rattle.std.specs.declared.alloc.Global.{Global}
use Rattle.clk_model.specs.Round.{most_rate}
use Rattle.rate_requests.specs.declared.span.Span.{Span}
use Rattle.rate_requests.specs.Handles.{HandleTable, low_in, high_in, with_range_at}
use Rattle.rate_requests.specs.Records.{handles_of}
use Rattle.rate_requests.specs.Spans.{lists, with_range}
use Rattle.rate_requests.proofs.KeptLaws.{low_ranged, high_ranged}
use Rattle.rate_requests.proofs.requests.Requests.boundaries_with.Goals as goal

pub returns-clause-low : goal.returns-clause-low
returns-clause-low c =
    let n = c.args.h.number in
    c.bounds_with.ensures.low
    ∙ ap (λ (ss : List Span). fold max 0 (map (λ s. s.min) (map (with_range n c.args.least c.args.most) ss))) (c.spans_on.ensures ∙ ap (λ (vs : List (Vec Span Global)). get_or (lists vs) c.args.c.0 []) c.deref.ensures.value)
    ∙ low_ranged (handles_of c.self.inside.records.slots c.self.inside.places.items) (lists c.self.inside.spans.items) c.args.c.0 n c.args.least c.args.most c.self.invariant.kept
    ∙ ap (λ (t : HandleTable). low_in (with_range_at t.handles n c.args.least c.args.most) c.args.c.0) c.self.view_is

pub returns-clause-high : goal.returns-clause-high
returns-clause-high c =
    let n = c.args.h.number in
    c.bounds_with.ensures.high
    ∙ ap (λ (ss : List Span). fold min most_rate (map (λ s. s.max) (map (with_range n c.args.least c.args.most) ss))) (c.spans_on.ensures ∙ ap (λ (vs : List (Vec Span Global)). get_or (lists vs) c.args.c.0 []) c.deref.ensures.value)
    ∙ high_ranged (handles_of c.self.inside.records.slots c.self.inside.places.items) (lists c.self.inside.spans.items) c.args.c.0 n c.args.least c.args.most c.self.invariant.kept
    ∙ ap (λ (t : HandleTable). high_in (with_range_at t.handles n c.args.least c.args.most) c.args.c.0) c.self.view_is
