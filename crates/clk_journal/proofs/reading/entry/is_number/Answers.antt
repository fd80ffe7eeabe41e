use Rattle.std.proofs.Common.{◌∙◌, sym, arith}
use Rattle.clk_journal.proofs.Numerals.{same_number, no_number}
use Rattle.clk_journal.proofs.reading.entry.is_number.Goals as goal

pub returns-in-Some : goal.returns-in-Some
returns-in-Some c = same_number c.args.word.now c.in-Some.found c.args.number (omega arith) (sym c.small.ensures ∙ c.in-Some.is)

pub returns-in-None : goal.returns-in-None
returns-in-None c = no_number c.args.word.now c.args.number (omega arith) (sym c.small.ensures ∙ c.in-None.is)
