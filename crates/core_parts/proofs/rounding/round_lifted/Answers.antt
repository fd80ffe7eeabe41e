use Rattle.std.proofs.Common.{◌<◌, ◌∙◌, sym, subst, ℕ}
use Rattle.core_parts.proofs.Deciding.{sees_lifted, sees_same, round_told}
use Rattle.core_parts.proofs.Shapes.{link_lies, registered_lies}
use Rattle.core_parts.proofs.rounding.round_lifted.Goals as goal

pub is_sole-requires : goal.is_sole-requires
is_sole-requires g c =
    let tree = c.args.tree.now in
    record { place = subst (λ (n : ℕ). c.args.row.clock.0 < n) (sym c.requires.seen) (registered_lies tree.defs tree.clocks tree.order tree.rates c.args.row.clock.0 c.requires.tied.stands c.requires.there) }

pub freed_above-requires-clause-place : goal.freed_above-requires-clause-place
freed_above-requires-clause-place g c =
    let tree = c.args.tree.now in
    registered_lies tree.defs tree.clocks tree.order tree.rates c.args.row.clock.0 c.requires.tied.stands c.requires.there

pub freed_above-requires-clause-links : goal.freed_above-requires-clause-links
freed_above-requires-clause-links g c =
    let tree = c.args.tree.now in
    record { lie = λ a p at. link_lies tree.defs tree.clocks tree.order tree.rates a p c.requires.tied.stands at }

pub returns-then-not-is_sole : goal.returns-then-not-is_sole
returns-then-not-is_sole g c = λ s number given lifts.
    round_told given.over c.requires.tied _ _ c.args.row.clock.0 c.args.rate c.round_seen.result
    (given.sees ∙ sym (sees_same given c.requires.tied c.is_sole.ensures.stands number c.args.row lifts (sym c.is_sole.ensures.sole ∙ c.if-not-is_sole.true))) c.round_seen.ensures

pub returns : goal.returns
returns g c = λ s number given lifts.
    round_told given.over c.requires.tied _ _ c.args.row.clock.0 c.args.rate c.round_seen-2.result
    (sees_lifted given c.requires.tied c.is_sole.ensures.stands number c.args.row _ lifts (sym c.is_sole.ensures.sole ∙ c.if-not-is_sole.false) c.freed_above.ensures.freed).view_ c.round_seen-2.ensures
