-- The new handle has the next number, and its range comes last among those of its clock.
use Rattle.std.proofs.Common.{◌≡◌, ℕ, ◌<◌, List, [], ◌∷◌, ◌++◌, Option, Some, sym, ap, ◌∙◌, subst, arith, length, set, get_or}
use Rattle.std.proofs.lemmas.List.{length-map}
use Rattle.std.specs.Prelude.{Vec}
use Rattle.std.specs.declared.alloc.Global.{Global}
use Rattle.clk_model.specs.declared.row.HandleRow.{HandleRow}
use Rattle.rate_requests.specs.declared.span.Span.{Span}
use Rattle.rate_requests.specs.Handles.{HandleTable, new_row}
use Rattle.rate_requests.specs.Records.{handles_of}
use Rattle.rate_requests.specs.Spans.{lists}
use Rattle.rate_requests.specs.Kept.{IsKept}
use Rattle.rate_requests.proofs.Recorded.{record_of, length-handles_of, placed_added}
use Rattle.rate_requests.proofs.KeptLaws.{kept_added, place_at}
use Rattle.rate_requests.proofs.Spanned.{room_within}
use Rattle.rate_requests.proofs.requests.Requests.add_placed.Goals as goal

pub overflow_cast-number : goal.overflow_cast-number
overflow_cast-number c =
    let made : length c.self.inside.places.items ≡ length c.args.self.now.handles =
    sym (length-handles_of c.self.inside.records.slots c.self.inside.places.items) ∙ ap (λ (t : HandleTable). length t.handles) c.self.view_is in
    let len = c.self.inside.places.ok.0 in
    let few = c.requires.numbers in
    let is = c.len-number.ensures in
    record { fits = omega arith }

-- the number is that of the places so far
next : (c : goal.After-min) → c.len-number.result ≡ length c.self.inside.places.items
next c = let len = c.self.inside.places.ok.0 in let is = c.len-number.ensures in omega arith

-- the handles have one more row
added : (c : goal.After-min) → handles_of c.insert_reserved-slot.new.self.slots c.push_reserved.new.self.items
    ≡ handles_of c.self.inside.records.slots c.self.inside.places.items ++ Some (new_row c.args.driver c.args.clock) ∷ []
added c =
    let places = c.self.inside.places.items in
    let slot = c.insert_reserved-slot.result in
    let row = new_row c.args.driver c.args.clock in
    ap (handles_of c.insert_reserved-slot.new.self.slots) c.push_reserved.ensures.items
    ∙ placed_added c.self.inside.records.slots c.insert_reserved-slot.new.self.slots slot places row
    c.insert_reserved-slot.ensures.was_vacant
    (c.insert_reserved-slot.ensures.updates.changed ∙ ap (λ (n : ℕ). record_of n (Some row)) (next c))
    c.insert_reserved-slot.ensures.updates.others

pub push_span-requires : goal.push_span-requires
push_span-requires c = (place_at c.self.invariant (ap (λ (t : HandleTable). t.place) c.self.view_is ∙ c.requires.place)).span

pub insert_reserved-slot-requires : goal.insert_reserved-slot-requires
insert_reserved-slot-requires c = (place_at c.self.invariant (ap (λ (t : HandleTable). t.place) c.self.view_is ∙ c.requires.place)).row

pub push_reserved-requires : goal.push_reserved-requires
push_reserved-requires c = (place_at c.self.invariant (ap (λ (t : HandleTable). t.place) c.self.view_is ∙ c.requires.place)).number

pub invariant_of-self : goal.invariant_of-self
invariant_of-self c =
    let handles = handles_of c.self.inside.records.slots c.self.inside.places.items in
    let spans = lists c.self.inside.spans.items in
    let row = new_row c.args.driver c.args.clock in
    let within : c.args.clock.0 < length spans =
    omega (arith, room_within c.self.inside.spans.items c.args.clock.0 (place_at c.self.invariant (ap (λ (t : HandleTable). t.place) c.self.view_is ∙ c.requires.place)).span, length-map c.self.inside.spans.items (λ (v : Vec Span Global). v.items)) in
    let number : c.len-number.result ≡ length handles = next c ∙ sym (length-handles_of c.self.inside.records.slots c.self.inside.places.items) in
    let pushed : List (List Span) = set spans c.args.clock.0 (get_or spans c.args.clock.0 [] ++ record { number = length handles; min = row.min; max = row.max } ∷ []) in
    let same : lists c.push_span.new.spans.items ≡ pushed =
    c.push_span.ensures
    ∙ ap (λ (n : ℕ). let s : Span = record { number = n; min = row.min; max = row.max } in set spans c.args.clock.0 (get_or spans c.args.clock.0 [] ++ s ∷ [])) number in
    record {
      kept =
          subst (λ (hs : List (Option HandleRow)). IsKept hs (lists c.push_span.new.spans.items)) (sym (added c))
          (subst (IsKept (handles ++ Some row ∷ [])) (sym same) (kept_added handles spans row c.self.invariant.kept within));
      placed = tt;
    }

pub returns-clause-number : goal.returns-clause-number
returns-clause-number c =
    next c
    ∙ sym (length-handles_of c.self.inside.records.slots c.self.inside.places.items)
    ∙ ap (λ (t : HandleTable). length t.handles) c.self.view_is

pub returns-clause-handles : goal.returns-clause-handles
returns-clause-handles c = added c ∙ ap (λ (t : HandleTable). t.handles ++ Some (new_row c.args.driver c.args.clock) ∷ []) c.self.view_is
