use Rattle.std.proofs.Common.{◌≡◌, ◌++◌, drop}
use Rattle.std.specs.List.{filter_map}
use Rattle.bundle_text.specs.Words.{texts, as_word, blank_words}
use Rattle.bundle_text.proofs.text_lines.words_between_blanks.Given as goal

-- the words so far and those of the parts that are left are the words of the line
abbrev pub invariant-loop-part : goal.invariant-loop-part
invariant-loop-part l = texts l.words.items ++ filter_map as_word (texts (drop l.part-index l.part-items)) ≡ blank_words l.line
