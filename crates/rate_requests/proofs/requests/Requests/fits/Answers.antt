-- A range misses another handle's where it misses another range of the clock.
use Rattle.std.proofs.Common.{◌≡◌, ◌&&◌, ◌||◌, not, List, [], Some, sym, ap, ◌∙◌, get_or, nat_lt}
use Rattle.std.specs.Prelude.{Vec}
use Rattle.std.specs.List.{list_any}
use Rattle.std.specs.declared.alloc.Global.{Global}
use Rattle.clk_model.specs.declared.row.HandleRow.{HandleRow}
use Rattle.clk_model.specs.State.{handle_at}
use Rattle.rate_requests.specs.declared.span.Span.{Span}
use Rattle.rate_requests.specs.Handles.{HandleTable, misses_in}
use Rattle.rate_requests.specs.Records.{handles_of}
use Rattle.rate_requests.specs.Spans.{lists, has_number, misses_span}
use Rattle.rate_requests.proofs.KeptLaws.{misses_kept}
use Rattle.rate_requests.proofs.requests.Requests.fits.Goals as goal

same : (a b : HandleRow) → Some a ≡ Some b → a ≡ b
same a b e = cc

pub returns : goal.returns
returns c = λ row at.
    let n = c.args.h.number in
    let is : c.of.result ≡ row = same c.of.result row (sym c.of.ensures ∙ at) in
    c.fits_beside.ensures
    ∙ ap not
    (ap (λ (ss : List Span). nat_lt c.args.max c.args.min || list_any (λ s. not (has_number n s) && misses_span c.args.min c.args.max s) ss)
    (c.spans_on.ensures ∙ ap (λ (vs : List (Vec Span Global)). get_or (lists vs) c.of.result.clock.0 []) c.deref.ensures.value ∙ ap (λ (h : HandleRow). get_or (lists c.self.inside.spans.items) h.clock.0 []) is)
    ∙ misses_kept (handles_of c.self.inside.records.slots c.self.inside.places.items) (lists c.self.inside.spans.items) n c.args.min c.args.max row c.self.invariant.kept
    (ap (λ (t : HandleTable). handle_at t.handles n) c.self.view_is ∙ at)
    ∙ ap (λ (t : HandleTable). misses_in t.handles n row.clock.0 c.args.min c.args.max) c.self.view_is)
