-- The range of the handle goes from those of its clock.
use Rattle.std.proofs.Common.{◌≡◌, ℕ, not, List, Option, Some, None, refl, sym, ap, ◌∙◌, subst, set}
use Rattle.std.specs.Prelude.{filter}
use Rattle.clk_model.specs.declared.row.HandleRow.{HandleRow}
use Rattle.clk_model.specs.State.{handle_at}
use Rattle.rate_requests.specs.declared.span.Span.{Span}
use Rattle.rate_requests.specs.Handles.{HandleTable}
use Rattle.rate_requests.specs.Records.{handles_of}
use Rattle.rate_requests.specs.Spans.{lists, has_number}
use Rattle.rate_requests.specs.Kept.{IsKept}
use Rattle.rate_requests.proofs.Spanned.{filter-has_number}
use Rattle.rate_requests.proofs.KeptLaws.{kept_turned, still_placed}
use Rattle.rate_requests.proofs.requests.Requests.remove.Goals as goal

pub invariant_of-self : goal.invariant_of-self
invariant_of-self c =
    let n = c.args.h.number in
    let old = c.self.inside.records.slots in
    let new = c.take_row.new.records.slots in
    let places = c.self.inside.places.items in
    let spans = lists c.self.inside.spans.items in
    let h : HandleRow = c.of.result in
    let at : handle_at (handles_of old places) n ≡ Some h = ap (λ (t : HandleTable). handle_at t.handles n) c.self.view_is ∙ c.of.ensures in
    let turned : handles_of new places ≡ set (handles_of old places) n None =
    subst (λ (ps : List ℕ). handles_of new ps ≡ set (handles_of old ps) n None) c.deref.ensures.value c.take_row.ensures.gone in
    still_placed c.self.inside.places c.self.inside.places c.self.inside.records c.take_row.new.records c.self.inside.spans.items c.drop_span.new.spans.items c.self.inside.place
    (λ k had. record { number = had.number; row = c.take_row.ensures.room; span = c.drop_span.ensures.keeps k had.span })
    (subst (λ (hs : List (Option HandleRow)). IsKept hs (lists c.drop_span.new.spans.items)) (sym turned)
    (subst (λ (ss : List (List Span)). IsKept (set (handles_of old places) n None) ss) (sym c.drop_span.ensures.left)
    (kept_turned (handles_of old places) spans n None h (filter (λ s. not (has_number n s))) c.self.invariant.kept at
    (λ k x e. refl) refl (λ ss. filter-has_number n ss))))
    c.self.invariant
