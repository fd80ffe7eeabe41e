use Rattle.std.proofs.Common.{None, subst, sym}
use Rattle.clk_base.specs.declared.event.Turn.{Turn}
use Rattle.clk_machine.specs.Along.{PartsFollow}
use Rattle.clk_machine.specs.Copied.{Copy}
use Rattle.clk_machine.proofs.Copying.{follows_parts}
use Rattle.clk_machine.proofs.prep.Prep.follow.Goals as goal

pub returns-in-Going-clause-follows : goal.returns-in-Going-clause-follows
returns-in-Going-clause-follows c =
    let old : Copy = record { parts = c.self.inside.machine; room = c.self.inside.room } in
    let new : Copy = record { parts = c.go_on.new.machine; room = c.self.inside.room } in
    let e = c.args.entry.now in
    rw (← c.self.view_is)
    (follows_parts old new e c.in-Some.driver c.in-Some.what c.in-Some.is
    (λ of. subst (λ (x : Turn). PartsFollow old.parts c.in-Some.driver e.event x new.parts) (sym c.in-Going.is) (c.go_on.ensures.follows of)))

pub returns-in-Done-clause-follows : goal.returns-in-Done-clause-follows
returns-in-Done-clause-follows c =
    let old : Copy = record { parts = c.self.inside.machine; room = c.self.inside.room } in
    let new : Copy = record { parts = c.end_with.new.machine; room = None } in
    let e = c.args.entry.now in
    rw (← c.self.view_is)
    (follows_parts old new e c.in-Some.driver c.in-Some.what c.in-Some.is
    (λ of. subst (λ (x : Turn). PartsFollow old.parts c.in-Some.driver e.event x new.parts) (sym c.in-Done.is) (c.end_with.ensures.follows of)))
