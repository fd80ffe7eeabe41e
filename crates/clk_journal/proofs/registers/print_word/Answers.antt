use Rattle.std.proofs.lemmas.Bool.{ne_eqb}
use Rattle.clk_journal.proofs.registers.print_word.Goals as goal

pub returns-clause-gathers : goal.returns-clause-gathers
returns-clause-gathers g c = rw (ne_eqb _ _ c.if-value-eq0.false) c.print_register.ensures.gathers

pub returns-clause-stays : goal.returns-clause-stays
returns-clause-stays g c = rw (ne_eqb _ _ c.if-value-eq0.false) c.print_register.ensures.stays
