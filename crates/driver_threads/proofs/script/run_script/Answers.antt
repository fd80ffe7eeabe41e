use Rattle.std.proofs.Common.{rules, ◌≡◌, None, replicate, List, [], sym, subst}
use Rattle.clk_base.specs.declared.command.Answer.{Answer}
use Rattle.clk_model.specs.Follows.{Variables, variable_count, no_handles}
use Rattle.driver_threads.specs.Going.{GoesThrough}
use Rattle.driver_threads.proofs.Going.{goes_none, goes_more}
use Rattle.driver_threads.proofs.Allowing.{may_next}
use Rattle.driver_threads.proofs.script.run_script.Goals as goal

pub run_command-requires-after_bounds : goal.run_command-requires-after_bounds
run_command-requires-after_bounds g c κs within =
    may_next _ c.args.driver.now c.loop-command.driver (no_handles c.args.commands.now) c.loop-command.held c.args.commands.now c.loop-command.command-index _ c.loop-command.answers.items
    c.loop-command.invariant c.loop-command-test.true c.requires

pub loop-command-init : goal.loop-command-init
loop-command-init g c =
    let driver = c.args.driver.now in
    let empty = no_handles c.args.commands.now in
    let none : c.as_mut_slice-held.result.now ≡ replicate (variable_count c.args.commands.now) None = search rules in
    subst (λ (answers : List Answer). GoesThrough driver empty [] answers c.as_mut_slice-held.result.now driver) (sym c.new-answers.ensures.items)
    (subst (λ (held : Variables). GoesThrough driver empty [] [] held driver) (sym none) (goes_none driver empty))

pub loop-command-preserved : goal.loop-command-preserved
loop-command-preserved g c =
    goes_more c.args.driver.now c.loop-command.driver c.run_command.new.driver (no_handles c.args.commands.now) c.loop-command.held c.run_command.new.held c.args.commands.now
    c.loop-command.command-index _ c.loop-command.answers.items c.push.new.self.items c.in_ok-answer.answer c.loop-command-test.true
    c.loop-command.invariant c.in_ok-answer.ensures.goes c.in_ok-push.ensures.items
