use Rattle.std.proofs.Common.{sym, ◌∙◌, append-nil, arith, rules, []}
use Rattle.clk_journal.proofs.Splits.{parts, part_some, part_none, more_words, too_many}
use Rattle.clk_journal.proofs.reading.words.words_in.Goals as goal

pub returns-in_default-clause-words : goal.returns-in_default-clause-words
returns-in_default-clause-words c =
    sym (append-nil _) ∙ more_words c.loop-at.room c.loop-at.at c.loop-at.rest c.loop-at.rest.now [] _ (omega arith) c.loop-at.invariant.1 (part_none c.loop-at.rest.now c.split_once.result c.split_once.ensures.cases c.in_default.is)

pub loop-at-preserved : goal.loop-at-preserved
loop-at-preserved c = (search rules, more_words c.loop-at.room c.loop-at.at c.in-Some.word c.loop-at.rest.now (parts c.in-Some.more.now) _ (omega arith) c.loop-at.invariant.1 (part_some c.loop-at.rest.now c.split_once.result _ _ c.split_once.ensures.cases c.in-Some.is))

pub returns-clause-more : goal.returns-clause-more
returns-clause-more c = λ e. let h = too_many c.loop-at.room c.loop-at.at c.loop-at.rest.now _ (omega arith) c.loop-at.invariant.1 in omega (arith, h)
