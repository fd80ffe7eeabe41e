-- The words of a bank after one line more.
use Rattle.std.proofs.Common.{◌≡◌, ℕ, ◌+◌, ◌-◌, ◌≤◌, ◌++◌, List, length, fold, replicate, Option, Some, None, refl, ap, ◌∙◌}
use Rattle.std.specs.Option.{option_to_list}
use Rattle.std.proofs.lemmas.List.{append-nil, length-set}
use Rattle.std.proofs.lemmas.List.Sums.{fold_push}
use Rattle.bundle_text.specs.Firsts.{said_from}
use Rattle.drv_scripts.specs.BankLines.{word_at, with_word, with_words, words_of}
use Rattle.drv_scripts.proofs.Turns.{said_more, said_none}

-- no line was read
pub words_none : (size : ℕ) (ls : List (List ℕ)) (from : ℕ) → words_of size ls from (from - from) ≡ replicate size 0
unfolding words_of
words_none size ls from = ap (fold with_word (replicate size 0)) (said_none (word_at size ls) from)

fold_option : (bank : List ℕ) (sets : List (ℕ × ℕ)) (set : Option (ℕ × ℕ)) → fold with_word bank (sets ++ option_to_list set) ≡ with_words (fold with_word bank sets) set
fold_option bank sets None = ap (fold with_word bank) (append-nil sets)
fold_option bank sets (Some set) = fold_push with_word bank sets set

-- one line more
pub words_more : (size : ℕ) (ls : List (List ℕ)) (from k : ℕ) → from ≤ k → words_of size ls from (k + 1 - from) ≡ with_words (words_of size ls from (k - from)) (word_at size ls k)
unfolding words_of
words_more size ls from k low =
    ap (fold with_word (replicate size 0)) (said_more (word_at size ls) from k low) ∙ fold_option (replicate size 0) (said_from (word_at size ls) from (k - from)) (word_at size ls k)

pub length-with_words : (bank : List ℕ) (set : Option (ℕ × ℕ)) → length (with_words bank set) ≡ length bank
length-with_words bank None = refl
length-with_words bank (Some set) = length-set bank set.0 set.1
