use Rattle.std.proofs.Common.{subst, sym}
use Rattle.clk_base.specs.declared.event.Event.{Event}
use Rattle.clk_base.specs.declared.event.Turn.TheVariants.{Going}
use Rattle.clk_machine.specs.Along.{PartsFollow}
use Rattle.clk_machine.proofs.Copying.{begin_of}
use Rattle.clk_machine.proofs.prep.following.go_on.Goals as goal

pub returns-in-Begin-clause-follows : goal.returns-in-Begin-clause-follows
returns-in-Begin-clause-follows c = λ of.
    subst (λ (e : Event). PartsFollow c.args.machine.now c.args.driver e Going c.begin_along.new.machine) (sym (begin_of c.args.event _ c.args.what c.in-Begin.is of)) c.begin_along.ensures.follows

pub returns-in-Step-clause-follows : goal.returns-in-Step-clause-follows
returns-in-Step-clause-follows c = λ of.
    subst (λ (e : Event). PartsFollow c.args.machine.now c.args.driver e Going c.step_along.new.machine) (sym c.in-Step.is) (c.step_along.ensures.follows c.args.driver)
