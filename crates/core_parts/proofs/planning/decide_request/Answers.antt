use Rattle.std.proofs.Common.{◌≡◌, ◌∙◌, sym, arith}
use Rattle.std.proofs.lemmas.Bool.Decides.{nat_tests}
use Rattle.std.proofs.lemmas.Result.{IfOk-weaker}
use Rattle.core_parts.proofs.Deciding.{answers_kept, answers_busy, sees_itself}
use Rattle.core_parts.proofs.Shapes.{registered_lies}
use Rattle.core_parts.proofs.planning.decide_request.Goals as goal

pub protected-requires : goal.protected-requires
protected-requires g c =
    let tree = c.args.tree.now in
    let size = c.requires.seen in
    let less = registered_lies tree.defs tree.clocks tree.order tree.rates c.args.clock.0 c.requires.tied.stands c.requires.there in
    record { place = omega arith }

pub returns-then-protected-eq0-clause-decides : goal.returns-then-protected-eq0-clause-decides
returns-then-protected-eq0-clause-decides g c =
    IfOk-weaker c.decide_unguarded.result _ _
    (λ verdict answers s given its. answers s s given.over its
    (sees_itself given c.requires.tied c.protected.ensures.stands c.args.clock.0
    (sym c.protected.ensures.guarded ∙ (let none : c.protected.result ≡ 0 = c.if-protected-eq0.true in grind (arith, nat_tests)))))
    c.decide_unguarded.ensures.decides

pub returns-then-not-keeps_rate-clause-decides : goal.returns-then-not-keeps_rate-clause-decides
returns-then-not-keeps_rate-clause-decides g c = λ s given its.
    answers_busy given c.requires.tied c.protected.ensures.stands c.args.clock.0 c.args.wanted (rw c.if-not-keeps_rate.true at c.keeps_rate.ensures.keeps)
    (sym c.protected.ensures.guarded ∙ (let some = c.if-protected-eq0.false in grind (arith, nat_tests)))

pub returns-clause-decides : goal.returns-clause-decides
returns-clause-decides g c = λ s given its.
    answers_kept given c.requires.tied c.protected.ensures.stands c.args.clock.0 c.args.wanted (rw c.if-not-keeps_rate.false at c.keeps_rate.ensures.keeps)
