use Rattle.std.proofs.Common.{◌∙◌, ◌-◌, ap, sym, length, arith}
use Rattle.std.proofs.lemmas.List.{length-replicate}
use Rattle.drv_scripts.specs.BankLines.{with_words, word_fault, words_of}
use Rattle.drv_scripts.proofs.BankWords.{words_none, words_more, length-with_words}
use Rattle.drv_scripts.proofs.Turns.{kept_none, kept_more}
use Rattle.drv_scripts.proofs.bank_section.read_words.Goals as goal

pub loop-at-init : goal.loop-at-init
loop-at-init c =
    let zeros = c.in_ok-bank.ensures.items_if_clones_equal (λ y h. h) in
    record {
      kept = kept_none (word_fault c.args.size c.args.lines.now) c.args.from;
      words = zeros ∙ sym (words_none c.args.size c.args.lines.now c.args.from);
      count = ap length zeros ∙ length-replicate c.args.size 0;
    }

pub loop-at-preserved : goal.loop-at-preserved
loop-at-preserved c =
    let ls = c.args.lines.now in
    let was = c.loop-at.invariant in
    let read = c.in_ok-set.ensures in
    record {
      kept = kept_more (word_fault c.args.size ls) c.args.from c.loop-at.at was.kept read.0;
      words = c.set_word.ensures
          ∙ (ap (λ bank. with_words bank c.in_ok-set.set) was.words
          ∙ (ap (with_words (words_of c.args.size ls c.args.from (c.loop-at.at - c.args.from))) read.1 ∙ sym (words_more c.args.size ls c.args.from c.loop-at.at (omega arith))));
      count = ap length c.set_word.ensures ∙ (length-with_words c.loop-at.bank.items c.in_ok-set.set ∙ was.count);
    }
