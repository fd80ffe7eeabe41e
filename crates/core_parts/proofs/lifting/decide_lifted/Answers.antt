use Rattle.std.proofs.Common.{◌<◌, ◌∙◌, sym, subst, ℕ}
use Rattle.std.proofs.lemmas.Result.{IfOk-weaker}
use Rattle.core_parts.specs.Decisions.{decision_of}
use Rattle.core_parts.proofs.Deciding.{answer_lifted, sees_lifted, sees_same}
use Rattle.core_parts.proofs.Shapes.{link_lies, registered_lies}
use Rattle.core_parts.proofs.lifting.decide_lifted.Goals as goal

pub is_sole-requires : goal.is_sole-requires
is_sole-requires g c =
    let tree = c.args.tree.now in
    record { place = subst (λ (n : ℕ). c.args.row.clock.0 < n) (sym c.requires.seen) (registered_lies tree.defs tree.clocks tree.order tree.rates c.args.row.clock.0 c.requires.tied.stands c.requires.there) }

pub freed_above-requires-clause-place : goal.freed_above-requires-clause-place
freed_above-requires-clause-place g c =
    let tree = c.args.tree.now in
    registered_lies tree.defs tree.clocks tree.order tree.rates c.args.row.clock.0 c.requires.tied.stands c.requires.there

pub freed_above-requires-clause-links : goal.freed_above-requires-clause-links
freed_above-requires-clause-links g c =
    let tree = c.args.tree.now in
    record { lie = λ a p at. link_lies tree.defs tree.clocks tree.order tree.rates a p c.requires.tied.stands at }

pub returns-then-not-is_sole-clause-decides : goal.returns-then-not-is_sole-clause-decides
returns-then-not-is_sole-clause-decides g c =
    IfOk-weaker c.decide_request.result _ _
    (λ verdict answers s number given its lifts. answer_lifted s _ c.args.row.clock.0 c.args.wanted (decision_of c.decide_request.new.draft verdict) (answers s given its)
    (sees_same given c.requires.tied c.is_sole.ensures.stands number c.args.row lifts (sym c.is_sole.ensures.sole ∙ c.if-not-is_sole.true)) lifts.free)
    c.decide_request.ensures.decides

pub returns-clause-decides : goal.returns-clause-decides
returns-clause-decides g c =
    IfOk-weaker c.decide_unguarded.result _ _
    (λ verdict answers s number given its lifts. answers s _ given.over its
    (sees_lifted given c.requires.tied c.is_sole.ensures.stands number c.args.row _ lifts (sym c.is_sole.ensures.sole ∙ c.if-not-is_sole.false) c.freed_above.ensures.freed))
    c.decide_unguarded.ensures.decides
