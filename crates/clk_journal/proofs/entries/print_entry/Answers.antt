use Rattle.std.proofs.Common.{ap, ◌∙◌, map, string_bytes}
use Rattle.clk_model.specs.Text.{entry_text}
use Rattle.clk_journal.proofs.EntryTexts.{entry_text-pieces}
use Rattle.clk_journal.proofs.Stays.{handed_on, stays_before, stays_of_line}
use Rattle.clk_journal.proofs.entries.print_entry.Goals as goal

pub returns-clause-gathers : goal.returns-clause-gathers
returns-clause-gathers g c =
    let spelled = c.as_bytes.ensures.value ∙ c.in_ok-line.ensures.ok ∙ entry_text-pieces c.args.desc.now.defs (map string_bytes c.args.names.now) c.args.number c.args.entry.now _ c.driver_name-driver.ensures in
    simp spelled at c.print.ensures.gathers

pub returns-in_err-line-clause-stays : goal.returns-in_err-line-clause-stays
returns-in_err-line-clause-stays g c = handed_on _ _ _ c.from_residual.ensures.1 (stays_before _ _ _)

pub returns-clause-stays : goal.returns-clause-stays
returns-clause-stays g c =
    stays_of_line _ _ _ _ (entry_text c.args.desc.now.defs (map string_bytes c.args.names.now) c.args.number c.args.entry.now) _
    (λ is. (ap g.K.Sink.written (c.print.ensures.memory is).0, (c.print.ensures.memory is).1)) c.print.ensures.lost
