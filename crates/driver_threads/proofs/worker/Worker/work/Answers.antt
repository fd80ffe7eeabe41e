use Rattle.driver_threads.proofs.Starting.{worked_of}
use Rattle.driver_threads.proofs.worker.Worker.work.Goals as goal

pub returns : goal.returns
returns g c =
    worked_of (λ answers. answers.items) c.args.self.now.driver c.run_script-ran.new.driver c.args.self.now.commands.now c.run_script-ran.result c.all_made.result c.run_script-ran.ensures.same
    c.run_script-ran.ensures.goes c.all_made.ensures
