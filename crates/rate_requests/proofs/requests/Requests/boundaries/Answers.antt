-- The boundaries of a clock are those of its ranges.
use Rattle.std.proofs.Common.{List, [], ap, ◌∙◌, map, get_or}
use Rattle.std.specs.Prelude.{fold, max, min, Vec}
use Rattle.std.specs.declared.alloc.Global.{Global}
use Rattle.clk_model.specs.Round.{most_rate}
use Rattle.rate_requests.specs.declared.span.Span.{Span}
use Rattle.rate_requests.specs.Handles.{HandleTable, low_in, high_in}
use Rattle.rate_requests.specs.Records.{handles_of}
use Rattle.rate_requests.specs.Spans.{lists}
use Rattle.rate_requests.proofs.KeptLaws.{low_kept, high_kept}
use Rattle.rate_requests.proofs.requests.Requests.boundaries.Goals as goal

pub returns-clause-low : goal.returns-clause-low
returns-clause-low c =
    c.bounds_of.ensures.low
    ∙ ap (λ (ss : List Span). fold max 0 (map (λ s. s.min) ss)) (c.spans_on.ensures ∙ ap (λ (vs : List (Vec Span Global)). get_or (lists vs) c.args.c.0 []) c.deref.ensures.value)
    ∙ low_kept (handles_of c.self.inside.records.slots c.self.inside.places.items) (lists c.self.inside.spans.items) c.args.c.0 c.self.invariant.kept
    ∙ ap (λ (t : HandleTable). low_in t.handles c.args.c.0) c.self.view_is

pub returns-clause-high : goal.returns-clause-high
returns-clause-high c =
    c.bounds_of.ensures.high
    ∙ ap (λ (ss : List Span). fold min most_rate (map (λ s. s.max) ss)) (c.spans_on.ensures ∙ ap (λ (vs : List (Vec Span Global)). get_or (lists vs) c.args.c.0 []) c.deref.ensures.value)
    ∙ high_kept (handles_of c.self.inside.records.slots c.self.inside.places.items) (lists c.self.inside.spans.items) c.args.c.0 c.self.invariant.kept
    ∙ ap (λ (t : HandleTable). high_in t.handles c.args.c.0) c.self.view_is
