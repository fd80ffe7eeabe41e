use Rattle.std.proofs.Common.{ap, ◌∙◌}
use Rattle.clk_model.specs.Text.{answer_line}
use Rattle.clk_journal.proofs.Lines.{answer_line-pieces}
use Rattle.clk_journal.proofs.Stays.{handed_on, stays_before, stays_of_line}
use Rattle.clk_journal.proofs.answers.print_answer.Goals as goal

pub returns-clause-gathers : goal.returns-clause-gathers
returns-clause-gathers g c =
    let spelled = c.as_bytes.ensures.value ∙ c.in_ok-line.ensures.ok ∙ answer_line-pieces c.args.desc.now.defs c.args.driver.now c.args.number c.args.answer in
    simp spelled at c.print.ensures.gathers

pub returns-in_err-line-clause-stays : goal.returns-in_err-line-clause-stays
returns-in_err-line-clause-stays g c = handed_on _ _ _ c.from_residual.ensures.1 (stays_before _ _ _)

pub returns-clause-stays : goal.returns-clause-stays
returns-clause-stays g c =
    stays_of_line _ _ _ _ (answer_line c.args.desc.now.defs c.args.driver.now c.args.number c.args.answer) _
    (λ is. (ap g.K.Sink.written (c.print.ensures.memory is).0, (c.print.ensures.memory is).1)) c.print.ensures.lost
