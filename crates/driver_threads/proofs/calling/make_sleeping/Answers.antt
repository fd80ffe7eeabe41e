use Rattle.std.proofs.lemmas.Result.{IfOk-weaker}
use Rattle.driver_threads.proofs.Whole.{answers_sleeping, call_same}
use Rattle.driver_threads.proofs.Allowing.{placed_known}
use Rattle.driver_threads.proofs.calling.make_sleeping.Goals as goal

pub call-requires-clause-place : goal.call-requires-clause-place
call-requires-clause-place g c κs within = placed_known _ c.args.driver.now c.args.what.now c.requires

pub returns-clause-ok : goal.returns-clause-ok
returns-clause-ok g c = IfOk-weaker c.call.result _ _ (λ reply calls. answers_sleeping c.args.driver.now c.call.new.driver c.args.what.now reply calls) c.call.ensures.ok

pub returns-clause-same : goal.returns-clause-same
returns-clause-same g c = call_same c.args.driver.now c.call.new.driver c.args.what.now c.call.result c.call.ensures.ok c.call.ensures.err
