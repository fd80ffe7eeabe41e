-- The section `%regs`: its lines, and the words that they give.
use Rattle.std.specs.Prelude.{ℕ, ◌-◌, ◌^◌, List, [], ◌∷◌, Option, Some, None, Result, Ok, Err, fold, replicate, slice_set}
use Rattle.std.specs.Option.{option_map_or}
use Rattle.bundle_text.specs.Firsts.{said_from}
use Rattle.bundle_text.specs.Lines.{line_at}
use Rattle.bundle_text.specs.Numbers.{number_within}
use Rattle.bundle_text.specs.Words.{said_words}
use Rattle.bundle_text.specs.declared.reason.Reason.{Reason}
use Rattle.bundle_text.specs.declared.reason.Reason.TheVariants.{BadWords, BadNumber}
use Rattle.drv_scripts.specs.Judged.{words_fault, words_say}

-- the greatest number whose range isn't stated
abbrev pub most_number : ℕ
most_number = 2 ^ 32 - 1

-- a word of the bank and its value, where both are numbers
unfoldable pub numbers_said : Option ℕ → Option ℕ → Result (ℕ × ℕ) Reason
numbers_said None value = Err BadNumber
numbers_said (Some word) None = Err BadNumber
numbers_said (Some word) (Some value) = Ok (word, value)

-- what the words of a line `W V` say, over a bank of so many words
unfoldable pub word_line : ℕ → List (List ℕ) → Result (ℕ × ℕ) Reason
word_line size (word ∷ value ∷ []) = numbers_said (number_within 0 (size - 1) word) (number_within 0 most_number value)
word_line size _ = Err BadWords

-- what is wrong with the line at a place
unfoldable pub word_fault : ℕ → List (List ℕ) → ℕ → Option Reason
word_fault size ls k = words_fault (said_words (line_at ls k)) (word_line size (said_words (line_at ls k)))

-- the word and the value that the line at a place says
unfoldable pub word_at : ℕ → List (List ℕ) → ℕ → Option (ℕ × ℕ)
word_at size ls k = words_say (said_words (line_at ls k)) (word_line size (said_words (line_at ls k)))

-- the words of a bank with a value given to one of them
abbrev pub with_word : List ℕ → ℕ × ℕ → List ℕ
with_word words set = slice_set words set.0 set.1

-- the words with a value given to one of them, where one is
abbrev pub with_words : List ℕ → Option (ℕ × ℕ) → List ℕ
with_words words set = option_map_or (with_word words) set words

-- the words of a bank of this size after so many lines from a place on: 0 where no line names them, and a later line wins
unfoldable pub words_of : ℕ → List (List ℕ) → ℕ → ℕ → List ℕ
words_of size ls from count = fold with_word (replicate size 0) (said_from (word_at size ls) from count)
