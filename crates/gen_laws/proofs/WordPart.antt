-- The lines of the bank, and the words that they give.
use Rattle.std.proofs.Common.{◌≡◌, ℕ, zero, suc, ◌+◌, ◌-◌, ◌*◌, ◌<◌, ◌≤◌, [], ◌∷◌, ◌++◌, length, fold, replicate, decimal, Some, None, Ok, refl, sym, ap, ◌∙◌, append_assoc, arith}
use Rattle.std.specs.Prelude.{codes}
use Rattle.std.specs.Result.{result_ok, result_err}
use Rattle.std.proofs.lemmas.List.{append-nil, set_at}
use Rattle.std.proofs.lemmas.List.Sums.{fold_push}
use Rattle.bundle_text.specs.Firsts.{said_from}
use Rattle.bundle_text.specs.Lines.{line_at}
use Rattle.bundle_text.specs.Numbers.{behind_0x, written_up_to, number_within, hexadecimal_up_to}
use Rattle.bundle_text.specs.Words.{said_words}
use Rattle.bundle_text.proofs.Rows.{said_from-more}
use Rattle.clk_gen.specs.Generated.{first_word}
use Rattle.drv_scripts.specs.BankLines.{most_number, numbers_said, word_line, word_fault, word_at, with_word, words_of}
use Rattle.drv_scripts.specs.Judged.{words_fault, words_say}
use Rattle.gen_laws.specs.Clocks.{up_to}
use Rattle.gen_laws.specs.Measured.{first_contents}
use Rattle.gen_laws.proofs.BundleRows.{word_row, word_rows, bundle_rows}
use Rattle.gen_laws.proofs.Decimals.{number-decimal}
use Rattle.gen_laws.proofs.Listed.{up_to-at, length-up_to}
use Rattle.gen_laws.proofs.PlainRows.{row-said}
use Rattle.gen_laws.proofs.RowPlaces.{row_at, line-row, word-at}
use Rattle.gen_laws.proofs.Sectioned.{bundle_lines, body-bank}

-- the row of a word
row-word : (n j : ℕ) → j < n → row_at (word_rows n) j ≡ word_row (suc j)
row-word n j low =
    ap (row_at (word_rows n)) (omega arith) ∙ up_to-at (λ k. word_row k ∷ []) (λ k. k) (record { first = refl; next = λ k. omega arith }) n j 0 [] low (omega arith)

-- the words of its line
words-word : (n j : ℕ) → n ≤ 64 → j < n → said_words (line_at (bundle_lines n) (3 * n + 4 + j)) ≡ word_row (suc j)
words-word n j few low =
    let body = body-bank n (3 * n + 4 + j) few (omega arith) (omega arith) in
    ap said_words (line-row (bundle_rows n) (3 * n + 4 + j))
    ∙ (row-said (row_at (bundle_rows n) (3 * n + 4 + j)) body.plain body.says ∙ (word-at n j (3 * n + 4 + j) low refl ∙ row-word n j low))

hundred : number_within 0 most_number (codes "0x64") ≡ Some 100
unfolding number_within written_up_to behind_0x hexadecimal_up_to
hundred = refl

word-said : (n j : ℕ) → n ≤ 64 → j < n → word_line (2 * n) (word_row (suc j)) ≡ Ok (first_word (suc j), 100)
unfolding word_line numbers_said
word-said n j few low =
    let read : number_within 0 (2 * n - 1) (decimal (first_word (suc j))) ≡ Some (first_word (suc j)) = number-decimal 0 (2 * n - 1) (first_word (suc j)) (omega arith) (omega arith) (omega arith) in
    rw read (rw hundred refl)

-- no line of the bank has a fault
pub word-fine : (n k : ℕ) → n ≤ 64 → 3 * n + 4 ≤ k → k < 4 * n + 4 → word_fault (2 * n) (bundle_lines n) k ≡ None
unfolding word_fault
word-fine n k few low high =
    let j : ℕ = k - (3 * n + 4) in
    let there : k ≡ 3 * n + 4 + j = omega arith in
    let within : j < n = omega arith in
    ap (λ m. words_fault (said_words (line_at (bundle_lines n) m)) (word_line (2 * n) (said_words (line_at (bundle_lines n) m)))) there
    ∙ (ap (λ words. words_fault words (word_line (2 * n) words)) (words-word n j few within) ∙ ap result_err (word-said n j few within))

-- what it says
word-there : (n j : ℕ) → n ≤ 64 → j < n → word_at (2 * n) (bundle_lines n) (3 * n + 4 + j) ≡ Some (first_word (suc j), 100)
unfolding word_at
word-there n j few low = ap (λ words. words_say words (word_line (2 * n) words)) (words-word n j few low) ∙ ap result_ok (word-said n j few low)

length-contents : (m : ℕ) → length (up_to first_contents m) ≡ 2 * m
length-contents m = length-up_to first_contents (λ k. 2 * k) (record { first = refl; next = λ k. omega arith }) m

-- the words of the bank after the first lines
words-after : (n m : ℕ) → n ≤ 64 → m ≤ n
    → fold with_word (replicate (2 * n) 0) (said_from (word_at (2 * n) (bundle_lines n)) (3 * n + 4) m) ≡ up_to first_contents m ++ replicate (2 * n - 2 * m) 0
words-after n zero few low = ap (λ k. replicate k 0) (omega arith)
words-after n (suc m) few low =
    let said = word_at (2 * n) (bundle_lines n) in
    let before = up_to first_contents m in
    let next : suc m ≡ m + 1 = omega arith in
    let within : m < n = omega arith in
    let left : 2 * n - 2 * m ≡ suc (suc (2 * n - 2 * suc m)) = omega arith in
    let place : length before ≡ first_word (suc m) = omega (arith, length-contents m) in
    ap (λ k. fold with_word (replicate (2 * n) 0) (said_from said (3 * n + 4) k)) next
    ∙ (ap (fold with_word (replicate (2 * n) 0)) (said_from-more said (3 * n + 4) m (first_word (suc m), 100) (word-there n m few within))
    ∙ (fold_push with_word (replicate (2 * n) 0) (said_from said (3 * n + 4) m) (first_word (suc m), 100)
    ∙ (ap (λ words. with_word words (first_word (suc m), 100)) (words-after n m few (omega arith) ∙ ap (λ k. before ++ replicate k 0) left)
    ∙ (set_at before 0 (0 ∷ replicate (2 * n - 2 * suc m) 0) 100 (first_word (suc m)) place ∙ sym (append_assoc before (100 ∷ 0 ∷ []) (replicate (2 * n - 2 * suc m) 0))))))

-- the words of the bank
pub bank-words : (n from count : ℕ) → n ≤ 64 → from ≡ 3 * n + 4 → count ≡ n → words_of (2 * n) (bundle_lines n) from count ≡ up_to first_contents n
unfolding words_of
bank-words n from count few begins e =
    let none : 2 * n - 2 * n ≡ 0 = omega arith in
    let said = word_at (2 * n) (bundle_lines n) in
    ap (λ m. fold with_word (replicate (2 * n) 0) (said_from said m count)) begins
    ∙ (ap (λ m. fold with_word (replicate (2 * n) 0) (said_from said (3 * n + 4) m)) e
    ∙ (words-after n n few (omega arith) ∙ (ap (λ m. up_to first_contents n ++ replicate m 0) none ∙ append-nil (up_to first_contents n))))
