use Rattle.std.proofs.Common.{refl}
use Rattle.clk_base.specs.declared.event.Event.TheVariants.{Begin}
use Rattle.clk_model.specs.Journal.{slotless}
use Rattle.clk_model.proofs.CallCauseLaws.{calls_have_causes}
use Rattle.clk_machine.proofs.Causing.{turn_refused}
use Rattle.clk_machine.proofs.Weighed.{goes_within}
use Rattle.clk_machine.proofs.framework.Core.begin.Goals as goal

pub returns-clause-turns : goal.returns-clause-turns
returns-clause-turns g c = λ told. (calls_have_causes _ _ c.args.driver c.args.what.now (slotless c.in_ok-turn.turn) (c.in_ok-turn.ensures.ok.step told)).1

pub returns-clause-refused : goal.returns-clause-refused
returns-clause-refused g c = λ told. turn_refused _ _ c.args.driver (Begin c.args.what.now) c.in_ok-turn.turn c.in_ok-turn.ensures.ok refl told

pub returns-clause-weight : goal.returns-clause-weight
returns-clause-weight g c = λ told. goes_within _ _ c.args.driver c.args.what.now c.in_ok-turn.turn c.in_ok-turn.ensures.ok c.weigh.ensures told
