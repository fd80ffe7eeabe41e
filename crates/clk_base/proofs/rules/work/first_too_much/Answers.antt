-- The table tells of the work.
use Rattle.clk_base.proofs.rules.work.first_too_much.Goals as goal

pub returns : goal.returns
returns c = λ words. c.first_above.ensures words c.args.defs.now (rw c.deref.ensures.value c.in_ok-works.ensures)
