use Rattle.std.proofs.Common.{ap, ◌∙◌}
use Rattle.std.proofs.lemmas.List.{with_items_is}
use Rattle.std.proofs.lemmas.Result.{on_ok_weaker}
use Rattle.std.specs.Vec.{with_items}
use Rattle.clk_model.specs.Follows.{Variables, held_after}
use Rattle.driver_runs.specs.declared.standing.Standing.{Standing}
use Rattle.driver_runs.proofs.Passing.{answered_of}
use Rattle.driver_runs.proofs.standing.Standing.answer.Goals as goal

pub returns : goal.returns
returns c =
    let command = c.args.command.now in
    let kept : Standing = record { held = with_items c.args.self.now.held c.keep_reply.new.held; answers = c.push.new.self } in
    on_ok_weaker c.pass_over.result
    (λ passes.
    answered_of c.args.commands.now c.args.self.now kept c.pass_over.new.self command c.args.reply c.requires
    (with_items_is c.args.self.now.held c.keep_reply.new.held (c.keep_reply.auto.held ∙ c.as_mut_slice.ensures.len) ∙ c.keep_reply.ensures ∙ ap (λ (h : Variables). held_after h command command.act c.args.reply) c.as_mut_slice.ensures.value) c.in_ok-push.ensures.items passes)
    c.pass_over.ensures
