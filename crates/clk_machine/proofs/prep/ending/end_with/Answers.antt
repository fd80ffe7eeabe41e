use Rattle.std.proofs.Common.{subst, sym}
use Rattle.clk_base.specs.declared.event.Event.{Event}
use Rattle.clk_base.specs.declared.event.Turn.TheVariants.{Done}
use Rattle.clk_machine.specs.Along.{PartsFollow}
use Rattle.clk_machine.proofs.Copying.{begin_of}
use Rattle.clk_machine.proofs.prep.ending.end_with.Goals as goal

pub returns-in-Begin-clause-follows : goal.returns-in-Begin-clause-follows
returns-in-Begin-clause-follows c = λ of.
    subst (λ (e : Event). PartsFollow c.args.machine.now c.args.driver e (Done c.args.reply) c.answer_along.new.machine) (sym (begin_of c.args.event _ c.args.what c.in-Begin.is of)) c.answer_along.ensures.follows
