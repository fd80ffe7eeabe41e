-- The range of the handle is replaced among those of its clock.
use Rattle.std.proofs.Common.{◌≡◌, ℕ, Bool, cond, List, [], ◌∷◌, Option, Some, refl, sym, ap, ◌∙◌, subst, map, set}
use Rattle.clk_model.specs.declared.row.HandleRow.{HandleRow}
use Rattle.clk_model.specs.State.{handle_at}
use Rattle.rate_requests.specs.declared.span.Span.{Span}
use Rattle.rate_requests.specs.Handles.{HandleTable}
use Rattle.rate_requests.specs.Records.{handles_of}
use Rattle.rate_requests.specs.Spans.{lists, with_range}
use Rattle.rate_requests.specs.Kept.{IsKept}
use Rattle.rate_requests.proofs.Spanned.{swapped, map-with_range}
use Rattle.rate_requests.proofs.KeptLaws.{kept_turned, still_placed}
use Rattle.rate_requests.proofs.requests.Requests.set_range.Goals as goal
use Rattle.clk_model.proofs.Members.{test_same}

pub invariant_of-self : goal.invariant_of-self
invariant_of-self c =
    let n = c.args.h.number in
    let old = c.self.inside.records.slots in
    let new = c.write_row.new.records.slots in
    let places = c.self.inside.places.items in
    let spans = lists c.self.inside.spans.items in
    let h : HandleRow = c.of.result in
    let row : HandleRow = record h { min = c.args.min; max = c.args.max } in
    let span : ℕ → Span = λ x. record { number = x; min = c.args.min; max = c.args.max } in
    let at : handle_at (handles_of old places) n ≡ Some h = ap (λ (t : HandleTable). handle_at t.handles n) c.self.view_is ∙ c.of.ensures in
    let turned : handles_of new places ≡ set (handles_of old places) n (Some row) =
    subst (λ (ps : List ℕ). handles_of new ps ≡ set (handles_of old ps) n (Some row)) c.deref.ensures.value c.write_row.ensures.row in
    still_placed c.self.inside.places c.self.inside.places c.self.inside.records c.write_row.new.records c.self.inside.spans.items c.set_span.new.spans.items c.self.inside.place
    (λ k had. record { number = had.number; row = c.write_row.ensures.room had.row; span = c.set_span.ensures.keeps k had.span })
    (subst (λ (hs : List (Option HandleRow)). IsKept hs (lists c.set_span.new.spans.items)) (sym turned)
    (subst (λ (ss : List (List Span)). IsKept (set (handles_of old places) n (Some row)) ss) (sym c.set_span.ensures.range)
    (kept_turned (handles_of old places) spans n (Some row) h (map (with_range n c.args.min c.args.max)) c.self.invariant.kept at
    (λ k x e. ap (λ (t : Bool). cond t (span x ∷ []) []) e)
    refl
    (λ ss. map-with_range n c.args.min c.args.max ss ∙ ap (λ (t : Bool). swapped n (cond t (span n ∷ []) []) ss) (sym (test_same h.clock.0))))))
    c.self.invariant
