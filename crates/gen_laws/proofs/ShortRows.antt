-- The rows of the bundle are short, so that its text isn't too long.
use Rattle.std.proofs.Common.{ℕ, suc, ◌+◌, ◌*◌, ◌^◌, ◌<◌, ◌≤◌, List, [], ◌∷◌, length, decimal, arith}
use Rattle.std.specs.Prelude.{codes}
use Rattle.std.specs.List.{AllByRecursion}
use Rattle.std.proofs.lemmas.Fmt.{length-decimal-le}
use Rattle.std.proofs.lemmas.List.{length-append}
use Rattle.clk_base.specs.declared.command.Act.{Act}
use Rattle.clk_base.specs.declared.command.Act.TheVariants.{Put, Prepare, Unprepare, Enable, Disable, Running, SetRate}
use Rattle.clk_gen.specs.Generated.{first_word, second_word}
use Rattle.clk_io.specs.declared.reading.TheConstants.{MOST_BYTES}
use Rattle.drv_scripts.proofs.ListPlaced.{all_append}
use Rattle.gen_laws.specs.Rows.{behind_spaces, row_before, rows_text}
use Rattle.gen_laws.specs.Clocks.{Part, root, pll, divider, gate, all_parts}
use Rattle.gen_laws.specs.Script.{acts_held}
use Rattle.gen_laws.proofs.BundleRows.{Row, part_row, word_row, get_row, act_row, driver_rows, bank_row, clock_rows, word_rows, bundle_rows}
use Rattle.gen_laws.proofs.BodyRows.{IsHeld, held-acts}
use Rattle.gen_laws.proofs.Listed.{each-up_to, each-map, each-weaker}
use Rattle.gen_laws.proofs.Parts.{IsFew, few-parts}
use Rattle.gen_laws.proofs.RowPlaces.{length-bundle}

-- at most 20 characters
abbrev IsShortWord : List ℕ → Type 0
IsShortWord word = length word ≤ 20

-- at most 12 words of at most 20 characters each
record IsShort (row : Row) : Type 0 where
  few : length row ≤ 12
  short : AllByRecursion IsShortWord row

short-decimal : (n : ℕ) → n < 2 ^ 32 → length (decimal n) ≤ 10
short-decimal n fits = length-decimal-le 10 n (omega arith) (omega arith) (omega arith)

length-behind : (words : List (List ℕ)) (tail : List ℕ) → AllByRecursion IsShortWord words → length (behind_spaces words tail) ≤ 21 * length words + length tail
length-behind [] tail h = omega arith
length-behind (word ∷ words) tail h = omega (arith, h.0, length-append word (behind_spaces words tail), length-behind words tail h.1)

length-row : (row : Row) (tail : List ℕ) → IsShort row → length (row_before row tail) ≤ 252 + length tail
length-row [] tail h = omega arith
length-row (word ∷ words) tail h =
    let few = h.few in
    let short = h.short in
    omega (arith, short.0, length-append word (behind_spaces words tail), length-behind words tail short.1)

length-rows : (rows : List Row) → AllByRecursion IsShort rows → length (rows_text rows) ≤ 253 * length rows
length-rows [] h = omega arith
length-rows (row ∷ rows) h = omega (arith, length-row row (10 ∷ rows_text rows) h.0, length-rows rows h.1)

short-part : (part : Part) → IsFew part → IsShort (part_row part)
unfolding IsFew
short-part root few = record { few = omega arith; short = (omega arith, (omega arith, (omega arith, tt))) }
short-part (pll k) few =
    let name = short-decimal k (omega arith) in
    let word = short-decimal (first_word k) (omega arith) in
    record {
      few = omega arith;
      short = (omega arith, (omega arith, (omega arith, (omega arith, (omega arith, (omega arith, (omega arith, (omega arith, (omega arith, (omega arith, (omega arith, tt)))))))))));
    }
short-part (divider k) few =
    let name = short-decimal k (omega arith) in
    let word = short-decimal (second_word k) (omega arith) in
    record { few = omega arith; short = (omega arith, (omega arith, (omega arith, (omega arith, (omega arith, (omega arith, (omega arith, tt))))))) }
short-part (gate k) few =
    let name = short-decimal k (omega arith) in
    let word = short-decimal (second_word k) (omega arith) in
    record { few = omega arith; short = (omega arith, (omega arith, (omega arith, (omega arith, (omega arith, (omega arith, tt)))))) }

two : (word : List ℕ) → length word ≤ 20 → (other : List ℕ) → length other ≤ 20 → IsShort (word ∷ other ∷ [])
two word h other g = record { few = omega arith; short = (h, (g, tt)) }

short-word : (k : ℕ) → k ≤ 64 → IsShort (word_row k)
short-word k few =
    let word = short-decimal (first_word k) (omega arith) in
    two (decimal (first_word k)) (omega arith) (codes "0x64") (omega arith)

short-act : (a : Act) → IsHeld a → IsShort (act_row a)
unfolding IsHeld
short-act Put h = two (codes "put") (omega arith) (codes "x") (omega arith)
short-act Prepare h = two (codes "prepare") (omega arith) (codes "x") (omega arith)
short-act Unprepare h = two (codes "unprepare") (omega arith) (codes "x") (omega arith)
short-act Enable h = two (codes "enable") (omega arith) (codes "x") (omega arith)
short-act Disable h = two (codes "disable") (omega arith) (codes "x") (omega arith)
short-act Running h = two (codes "running") (omega arith) (codes "x") (omega arith)
short-act (SetRate rate) h =
    let number = length-decimal-le 20 rate (omega arith) (omega arith) h in
    record { few = omega arith; short = (omega arith, (omega arith, (number, tt))) }
short-act _ h = absurd h

short-driver : (k : ℕ) → k < 64 → AllByRecursion IsShort (driver_rows (suc k))
short-driver k few =
    let name = short-decimal (suc k) (omega arith) in
    let get : IsShort (get_row (suc k)) = record { few = omega arith; short = (omega arith, (omega arith, (omega arith, tt))) } in (
      two (codes "%driver") (omega arith) (119 ∷ decimal (suc k)) (omega arith),
      (get, each-map IsShort act_row acts_held (each-weaker IsHeld (λ a. IsShort (act_row a)) acts_held short-act held-acts)),
    )

short-bundle : (n : ℕ) → n ≤ 64 → AllByRecursion IsShort (bundle_rows n)
short-bundle n few =
    let clocks = each-map IsShort part_row (all_parts n) (each-weaker IsFew (λ part. IsShort (part_row part)) (all_parts n) short-part (few-parts n few)) in
    let words = each-up_to IsShort (λ k. word_row k ∷ []) n (λ k low. (short-word (suc k) (omega arith), tt)) in
    let drivers = each-up_to IsShort driver_rows n (λ k low. short-driver k (omega arith)) in
    let number = short-decimal (2 * n) (omega arith) in
    let bank : IsShort (bank_row n) = two (codes "%regs") (omega arith) (decimal (2 * n)) (omega arith) in
    let header : IsShort (codes "%clocks" ∷ []) = record { few = omega arith; short = (omega arith, tt) } in (
      two (codes "%bundle") (omega arith) (codes "1") (omega arith),
      (header, all_append IsShort (clock_rows n) _ clocks (bank, all_append IsShort (word_rows n) _ words drivers)),
    )

-- the text is as short as a bundle's
pub text-fits : (n : ℕ) → n ≤ 64 → length (rows_text (bundle_rows n)) ≤ MOST_BYTES
text-fits n few = omega (arith, length-rows (bundle_rows n) (short-bundle n few), length-bundle n)
