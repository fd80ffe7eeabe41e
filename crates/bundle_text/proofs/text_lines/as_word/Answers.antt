use Rattle.std.proofs.Common.{◌∙◌, ap, sym, Some, rules}
use Rattle.bundle_text.proofs.BlankWords.{as_word-utf8, as_word-other}
use Rattle.bundle_text.proofs.text_lines.as_word.Goals as goal

pub returns-in-Ok : goal.returns-in-Ok
returns-in-Ok c =
    let read = c.in-Ok.ensures.cases in
    ap Some read.0 ∙ sym (as_word-utf8 c.args.part.now (search rules) read.1)

pub returns-in-Err : goal.returns-in-Err
returns-in-Err c = sym (as_word-other c.args.part.now (c.in-Err.ensures.cases.0))
