-- The line of the section is the one of the text.
use Rattle.std.proofs.Common.{ap, subst, sym, ◌∙◌, ◌<◌, length, arith}
use Rattle.bundle_text.specs.Words.{texts, said_words}
use Rattle.clock_lines.specs.Steps.{lines_in}
use Rattle.clock_lines.specs.Verdict.{FirstFault}
use Rattle.clock_lines.proofs.Turns.{line-at, length-section, read-more, read-fault}
use Rattle.clock_lines.proofs.reading.with_line.Goals as goal

pub returns-in-Ok : goal.returns-in-Ok
returns-in-Ok c =
    let s = c.args.section.now in
    let said = ap texts c.deref.ensures.value ∙ (c.in_ok-words.ensures ∙ ap said_words (sym (line-at s.lines.now s.from s.to c.args.place c.requires.within))) in
    let h = c.in-Ok.ensures in
    read-more s.version (lines_in s) c.args.place c.args.clocks c.in-Ok.clocks (texts c.deref.result.now) c.requires.read said h.0 h.1

pub returns-in-Err-Wrong : goal.returns-in-Err-Wrong
returns-in-Err-Wrong c =
    let s = c.args.section.now in
    let said = ap texts c.deref.ensures.value ∙ (c.in_ok-words.ensures ∙ ap said_words (sym (line-at s.lines.now s.from s.to c.args.place c.requires.within))) in
    let size = length-section s.lines.now s.from s.to (omega arith) c.requires.lines in
    let within : c.args.place < length (lines_in s) = omega arith in
    let h = rw c.in-Err-Wrong.field-0-is at c.in-Err-Wrong.ensures in
    subst (FirstFault s.version s.from (lines_in s)) (sym c.at_place.ensures)
    (read-fault s.version s.from (lines_in s) c.args.place c.args.clocks (texts c.deref.result.now) c.in-Err-Wrong.reason within c.requires.read said h)
