-- A live handle has its record in its place, which has nothing then.
use Rattle.std.proofs.Common.{Option, None, IsSome, refl, sym, subst}
use Rattle.rate_requests.specs.declared.held.Held.{Held}
use Rattle.rate_requests.proofs.Recorded.{live_placed, placed_set}
use Rattle.rate_requests.proofs.held.take_row.Goals as goal

pub bounds-places-number : goal.bounds-places-number
bounds-places-number c = (live_placed c.args.number c.args.records.now.slots c.args.places.now c.requires).within

pub remove-requires : goal.remove-requires
remove-requires c =
    let live = live_placed c.args.number c.args.records.now.slots c.args.places.now c.requires in
    subst (λ (o : Option Held). IsSome o) (sym live.lies) refl

pub returns-clause-gone : goal.returns-clause-gone
returns-clause-gone c =
    placed_set c.args.records.now.slots c.remove.new.self.slots c.args.number c.args.places.now None
    (live_placed c.args.number c.args.records.now.slots c.args.places.now c.requires)
    c.remove.ensures.updates.changed c.remove.ensures.updates.others
