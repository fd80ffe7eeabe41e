-- Where the rows of the bundle stand.
use Rattle.std.proofs.Common.{◌≡◌, ℕ, suc, ◌+◌, ◌-◌, ◌*◌, ◌<◌, ◌≤◌, List, [], ◌∷◌, ◌++◌, length, map, get_or, refl, sym, ap, ◌∙◌, inl, inr, arith}
use Rattle.std.proofs.lemmas.Bool.{cases_lt}
use Rattle.std.proofs.lemmas.List.{length-append, length-map, get_or_append_left, get_or-append_right, get_or-map, get_or_past}
use Rattle.bundle_text.specs.Lines.{line_at}
use Rattle.clk_base.specs.declared.command.Act.TheVariants.{Put, Unprepare}
use Rattle.gen_laws.specs.Rows.{row_text}
use Rattle.gen_laws.specs.Clocks.{up_to, parts_of, all_parts}
use Rattle.gen_laws.specs.Script.{turn_acts, turns_acts, acts_held}
use Rattle.gen_laws.proofs.BundleRows.{Row, part_row, word_row, act_row, command_rows, driver_rows, bank_row, clock_rows, word_rows, bundle_rows}
use Rattle.gen_laws.proofs.Listed.{Begins, length-up_to, up_to-at}

-- the row at a place
abbrev pub row_at : List Row → ℕ → Row
row_at rows k = get_or rows k []

-- the line at a place is that of its row
pub line-row : (rows : List Row) (k : ℕ) → line_at (map row_text rows) k ≡ row_text (row_at rows k)
line-row rows k =
    elim (cases_lt k (length rows)) [
      | inl within ↦ get_or-map row_text rows k [] [] within
      | inr past ↦
          let there : length (map row_text rows) ≤ k = omega (arith, length-map rows row_text) in
          get_or_past (map row_text rows) k [] there ∙ ap row_text (sym (get_or_past rows k [] past))
    ]

pub parts-begin : Begins parts_of (λ k. 3 * k)
parts-begin = record { first = refl; next = λ k. omega arith }

turns-begin : Begins turn_acts (λ k. 4 * k)
turns-begin = record { first = refl; next = λ k. omega arith }

words-begin : Begins (λ k. word_row k ∷ []) (λ k. k)
words-begin = record { first = refl; next = λ k. omega arith }

pub length-parts : (n : ℕ) → length (all_parts n) ≡ 3 * n + 1
length-parts n = omega (arith, length-up_to parts_of (λ k. 3 * k) parts-begin n)

pub length-clocks : (n : ℕ) → length (clock_rows n) ≡ 3 * n + 1
length-clocks n = length-map (all_parts n) part_row ∙ length-parts n

pub length-acts : length acts_held ≡ 403
unfolding acts_held turns_acts
length-acts = omega (arith, length-append (up_to turn_acts 100) (Unprepare ∷ Put ∷ []), length-up_to turn_acts (λ k. 4 * k) turns-begin 100)

pub length-commands : (k : ℕ) → length (command_rows k) ≡ 404
length-commands k = omega (arith, length-map acts_held act_row, length-acts)

pub drivers-begin : Begins driver_rows (λ k. 405 * k)
drivers-begin = record { first = refl; next = λ k. omega (arith, length-commands (suc k)) }

pub length-words : (n : ℕ) → length (word_rows n) ≡ n
length-words n = length-up_to (λ k. word_row k ∷ []) (λ k. k) words-begin n

pub length-drivers : (n : ℕ) → length (up_to driver_rows n) ≡ 405 * n
length-drivers n = length-up_to driver_rows (λ k. 405 * k) drivers-begin n

-- the rows behind those of the clocks
abbrev pub rest_rows : ℕ → List Row
rest_rows n = bank_row n ∷ (word_rows n ++ up_to driver_rows n)

pub length-rest : (n : ℕ) → length (rest_rows n) ≡ 406 * n + 1
length-rest n = omega (arith, length-append (word_rows n) (up_to driver_rows n), length-words n, length-drivers n)

pub length-bundle : (n : ℕ) → length (bundle_rows n) ≡ 409 * n + 4
length-bundle n = omega (arith, length-append (clock_rows n) (rest_rows n), length-clocks n, length-rest n)

-- the row of a clock
pub clock-at : (n j k : ℕ) → j < 3 * n + 1 → k ≡ j + 2 → row_at (bundle_rows n) k ≡ row_at (clock_rows n) j
clock-at n j k within there =
    let two : k ≡ suc (suc j) = omega arith in
    ap (row_at (bundle_rows n)) two ∙ get_or_append_left (clock_rows n) (rest_rows n) [] j (omega (arith, length-clocks n))

-- a row behind those of the clocks
rest-at : (n j k : ℕ) → k ≡ 3 * n + 3 + j → row_at (bundle_rows n) k ≡ row_at (rest_rows n) j
rest-at n j k there =
    let left : 3 * n + 1 + j - (3 * n + 1) ≡ j = omega arith in
    let two : k ≡ suc (suc (3 * n + 1 + j)) = omega arith in
    ap (row_at (bundle_rows n)) two
    ∙ (get_or-append_right (clock_rows n) (rest_rows n) (3 * n + 1) (3 * n + 1 + j) [] (length-clocks n) (omega arith) ∙ ap (row_at (rest_rows n)) left)

pub bank-at : (n : ℕ) → row_at (bundle_rows n) (3 * n + 3) ≡ bank_row n
bank-at n = rest-at n 0 (3 * n + 3) (omega arith)

-- the row of a word
pub word-at : (n j k : ℕ) → j < n → k ≡ 3 * n + 4 + j → row_at (bundle_rows n) k ≡ row_at (word_rows n) j
word-at n j k within there =
    rest-at n (suc j) k (omega arith) ∙ get_or_append_left (word_rows n) (up_to driver_rows n) [] j (omega (arith, length-words n))

-- the row of a driver
pub driver-at : (n i j k : ℕ) → i < n → j < 405 → k ≡ 4 * n + 4 + 405 * i + j → row_at (bundle_rows n) k ≡ row_at (driver_rows (suc i)) j
driver-at n i j k low within there =
    let left : n + (405 * i + j) - n ≡ 405 * i + j = omega arith in
    rest-at n (suc (n + (405 * i + j))) k (omega arith)
    ∙ (get_or-append_right (word_rows n) (up_to driver_rows n) n (n + (405 * i + j)) [] (length-words n) (omega arith)
    ∙ (ap (row_at (up_to driver_rows n)) left ∙ up_to-at driver_rows (λ k. 405 * k) drivers-begin n i j [] low (omega (arith, length-commands (suc i)))))
