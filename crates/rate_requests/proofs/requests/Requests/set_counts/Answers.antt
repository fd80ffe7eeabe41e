-- The handle keeps its clock and its range.
use Rattle.std.proofs.Common.{◌≡◌, ℕ, List, Option, Some, refl, sym, ap, ◌∙◌, subst, set}
use Rattle.clk_model.specs.declared.row.HandleRow.{HandleRow}
use Rattle.clk_model.specs.State.{handle_at}
use Rattle.rate_requests.specs.Handles.{HandleTable}
use Rattle.rate_requests.specs.Records.{handles_of}
use Rattle.rate_requests.specs.Spans.{lists}
use Rattle.rate_requests.specs.Kept.{IsKept}
use Rattle.rate_requests.proofs.KeptLaws.{kept_same, still_placed}
use Rattle.rate_requests.proofs.requests.Requests.set_counts.Goals as goal

pub invariant_of-self : goal.invariant_of-self
invariant_of-self c =
    let n = c.args.h.number in
    let old = c.self.inside.records.slots in
    let new = c.write_row.new.records.slots in
    let places = c.self.inside.places.items in
    let spans = lists c.self.inside.spans.items in
    let row : HandleRow = record c.of.result { prepares = c.args.prepares; enables = c.args.enables; exclusives = c.args.exclusives } in
    let at : handle_at (handles_of old places) n ≡ Some c.of.result = ap (λ (t : HandleTable). handle_at t.handles n) c.self.view_is ∙ c.of.ensures in
    let turned : handles_of new places ≡ set (handles_of old places) n (Some row) =
    subst (λ (ps : List ℕ). handles_of new ps ≡ set (handles_of old ps) n (Some row)) c.deref.ensures.value c.write_row.ensures.row in
    still_placed c.self.inside.places c.self.inside.places c.self.inside.records c.write_row.new.records c.self.inside.spans.items c.self.inside.spans.items c.self.inside.place
    (λ k had. record { number = had.number; row = c.write_row.ensures.room had.row; span = had.span })
    (subst (λ (hs : List (Option HandleRow)). IsKept hs spans) (sym turned)
    (kept_same (handles_of old places) spans n (Some row) c.of.result c.self.invariant.kept at (λ k x. refl)))
    c.self.invariant
