-- A number that was given out has its place; no other has a handle.
use Rattle.std.proofs.Common.{ap, sym, ◌∙◌}
use Rattle.rate_requests.specs.Records.{slot_at, row_in}
use Rattle.rate_requests.proofs.Recorded.{handle_at-placed, handle_at-past}
use Rattle.rate_requests.proofs.held.row_of.Goals as goal

pub returns-in-Some : goal.returns-in-Some
returns-in-Some c =
    let slots = c.args.records.now.slots in
    let there = c.in-Some.ensures.lookup.3 in
    c.row_in_slot.ensures
    ∙ ap (λ k. row_in c.args.number (slot_at slots k)) (there.1 0)
    ∙ sym (handle_at-placed c.args.number slots c.args.places.now there.0)

pub returns-in-None : goal.returns-in-None
returns-in-None c = sym (handle_at-past c.args.number c.args.records.now.slots c.args.places.now c.in-None.ensures.lookup.3)
