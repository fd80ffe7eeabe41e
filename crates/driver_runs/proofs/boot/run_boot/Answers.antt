use Rattle.std.proofs.Common.{rules, ◌≡◌, None, replicate, List, [], sym, ap, subst}
use Rattle.clk_base.specs.declared.command.Answer.{Answer}
use Rattle.clk_model.specs.Follows.{Variables, variable_count, no_handles}
use Rattle.clk_model.specs.State.{State}
use Rattle.driver_runs.specs.Scripts.{GoesThrough}
use Rattle.driver_runs.proofs.Going.{named_at, goes_none, goes_more, goes_idle}
use Rattle.driver_runs.proofs.GoneOn.{gone_further, gone_through}
use Rattle.driver_runs.proofs.boot.run_boot.Goals as goal

pub run_command-requires-clause-place : goal.run_command-requires-clause-place
run_command-requires-clause-place g c =
    let same = ap (λ (s : State). s.defs) c.loop-command.invariant.start in
    named_at c.loop-command.core c.args.core.now.start.defs c.args.commands.now c.loop-command.command-index _ same c.requires.placed c.loop-command-test.true

pub run_command-requires-clause-quiet : goal.run_command-requires-clause-quiet
run_command-requires-clause-quiet g c = goes_idle c.args.core.now c.loop-command.core 0 _ _ _ _ c.loop-command.invariant c.requires.quiet

pub loop-command-init : goal.loop-command-init
loop-command-init g c =
    let core = c.args.core.now in
    let empty = no_handles c.args.commands.now in
    let none : c.as_mut_slice-held.result.now ≡ replicate (variable_count c.args.commands.now) None = search rules in
    subst (λ (answers : List Answer). GoesThrough core 0 empty [] answers c.as_mut_slice-held.result.now core) (sym c.new-answers.ensures.items)
    (subst (λ (held : Variables). GoesThrough core 0 empty [] [] held core) (sym none) (goes_none core 0 empty))

pub loop-command-preserved : goal.loop-command-preserved
loop-command-preserved g c =
    goes_more c.args.core.now c.loop-command.core c.run_command.new.core 0 (no_handles c.args.commands.now) c.loop-command.held c.run_command.new.held c.args.commands.now c.loop-command.command-index _ c.loop-command.answers.items
    c.push.new.self.items c.in_ok-answer.answer c.loop-command-test.true c.loop-command.invariant c.in_ok-answer.ensures.ok c.in_ok-push.ensures.items

pub returns-in_err-push-clause-on : goal.returns-in_err-push-clause-on
returns-in_err-push-clause-on g c =
    let first = c.args.core.now in
    let before = gone_through first c.loop-command.core 0 (no_handles c.args.commands.now) c.loop-command.held _ c.loop-command.answers.items c.loop-command.invariant in
    let last = gone_through c.loop-command.core c.run_command.new.core 0 c.loop-command.held c.run_command.new.held _ _ c.in_ok-answer.ensures.ok in
    gone_further first c.loop-command.core c.run_command.new.core before last
