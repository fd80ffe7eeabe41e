-- A live handle has its record in its place, which has the new row then.
use Rattle.std.proofs.Common.{Option, Some, None, IsSome, refl, sym, subst, get_or}
use Rattle.std.proofs.lemmas.List.{get_or-set_same, get_or-set_other}
use Rattle.rate_requests.specs.declared.held.Held.{Held}
use Rattle.rate_requests.proofs.Recorded.{record_of, slot_within, live_placed, placed_set}
use Rattle.rate_requests.proofs.held.write_row.Goals as goal

pub bounds-places-number : goal.bounds-places-number
bounds-places-number c = (live_placed c.args.number c.args.records.now.slots c.args.places.now c.requires).within

pub index_mut-requires : goal.index_mut-requires
index_mut-requires c =
    let live = live_placed c.args.number c.args.records.now.slots c.args.places.now c.requires in
    subst (λ (o : Option Held). IsSome o) (sym live.lies) refl

pub returns-clause-row : goal.returns-clause-row
returns-clause-row c =
    let old = c.args.records.now.slots in
    let n = c.args.number in
    let live = live_placed n old c.args.places.now c.requires in
    let place = get_or c.args.places.now n 0 in
    let written = record_of n (Some c.args.row) in
    placed_set old _ n c.args.places.now (Some c.args.row) live
    (get_or-set_same old place written None (slot_within old place live.held live.lies))
    (λ k other. get_or-set_other old place k written None other)
