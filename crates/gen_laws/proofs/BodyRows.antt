-- The rows of the bundle are plain words; which of them are headers, and that no other is a comment.
use Rattle.std.proofs.Common.{◌≡◌, ℕ, suc, ◌*◌, ◌^◌, ◌<◌, ◌≤◌, ◌==◌, not, Bool, true, false, cond, List, [], ◌∷◌, ◌++◌, length, decimal, refl, ap, arith}
use Rattle.std.specs.Prelude.{codes}
use Rattle.std.specs.Char.{is_ascii_digit}
use Rattle.std.specs.List.{list_all, AllByRecursion}
use Rattle.std.proofs.lemmas.Bool.{and_parts, and_from, ne_eqb}
use Rattle.std.proofs.lemmas.Bool.Decides.{nat_tests}
use Rattle.std.proofs.lemmas.Fmt.{decimal_nonempty}
use Rattle.bundle_text.specs.Lines.{is_header}
use Rattle.bundle_text.specs.Names.{is_seen}
use Rattle.bundle_text.specs.Words.{is_comment}
use Rattle.clk_base.specs.declared.command.Act.{Act}
use Rattle.clk_base.specs.declared.command.Act.TheVariants.{Put, Prepare, Unprepare, Enable, Disable, Running, SetRate}
use Rattle.clk_gen.specs.Generated.{first_word, second_word}
use Rattle.drv_scripts.proofs.ListPlaced.{all_append}
use Rattle.gen_laws.specs.Rows.{is_plain, are_plain, row_text}
use Rattle.gen_laws.specs.Clocks.{parts_of, all_parts}
use Rattle.gen_laws.specs.Script.{turn_acts, turns_acts, acts_held}
use Rattle.gen_laws.proofs.BundleRows.{Row, part_row, word_row, driver_row, act_row, command_rows, driver_rows, bank_row, clock_rows, word_rows, bundle_rows}
use Rattle.gen_laws.proofs.Decimals.{all_digits, seen-decimal, plain-decimal}
use Rattle.gen_laws.proofs.Listed.{each-up_to, each-map, each-weaker}

-- plain words that begin no section and no comment
pub record IsBody (row : Row) : Type 0 where
  pub plain : are_plain row ≡ true
  pub says : is_comment row ≡ false
  pub inside : is_header (row_text row) ≡ false

-- plain words that begin a section
pub record IsHead (row : Row) : Type 0 where
  pub plain : are_plain row ≡ true
  pub begins : is_header (row_text row) ≡ true

-- a character and a number are a plain word
pub plain-name : (c n : ℕ) → is_seen c ≡ true → n < 2 ^ 64 → is_plain (c ∷ decimal n) ≡ true
plain-name c n seen fits =
    and_from (not (length (c ∷ decimal n) == 0)) (list_all is_seen (c ∷ decimal n)) (ap not (ne_eqb (length (c ∷ decimal n)) 0 (λ e. omega arith)))
    (and_from (is_seen c) (list_all is_seen (decimal n)) seen (seen-decimal n fits))

-- a number begins no section and no comment
digit_first : (ds tail : List ℕ) → 0 < length ds → list_all is_ascii_digit ds ≡ true → (is_header (ds ++ tail) ≡ false) × (is_comment (ds ∷ []) ≡ false)
digit_first [] tail some h = absurd (omega arith)
digit_first (d ∷ ds) tail some h =
    let parts = and_parts (is_ascii_digit d) (list_all is_ascii_digit ds) h in
    (grind (arith, nat_tests), grind (arith, nat_tests))

-- the lines of the clocks
pub body-part : (k : ℕ) → k < 64 → AllByRecursion (λ part. IsBody (part_row part)) (parts_of (suc k))
body-part k few =
    let n : ℕ = suc k in
    let fits : n < 2 ^ 64 = omega arith in
    let a : first_word n < 2 ^ 64 = omega arith in
    let b : second_word n < 2 ^ 64 = omega arith in
    let p : is_plain (112 ∷ decimal n) ≡ true = plain-name 112 n refl fits in
    let d : is_plain (100 ∷ decimal n) ≡ true = plain-name 100 n refl fits in
    let g : is_plain (103 ∷ decimal n) ≡ true = plain-name 103 n refl fits in
    let w : is_plain (decimal (first_word n)) ≡ true = plain-decimal (first_word n) a in
    let v : is_plain (decimal (second_word n)) ≡ true = plain-decimal (second_word n) b in (
      record { plain = rw p (rw w refl); says = refl; inside = refl },
      (
        record { plain = rw d (rw v refl); says = refl; inside = refl },
        (record { plain = rw g (rw v refl); says = refl; inside = refl }, tt),
      ),
    )

pub body-parts : (n : ℕ) → n ≤ 64 → AllByRecursion (λ part. IsBody (part_row part)) (all_parts n)
body-parts n few =
    (record { plain = refl; says = refl; inside = refl }, each-up_to (λ part. IsBody (part_row part)) parts_of n (λ k low. body-part k (omega arith)))

-- the lines of the bank
pub body-words : (n : ℕ) → n ≤ 64 → AllByRecursion IsBody (word_rows n)
body-words n few = each-up_to IsBody (λ k. word_row k ∷ []) n (λ k low. (body k (omega arith), tt))
  where
    body : (k : ℕ) → k < 64 → IsBody (word_row (suc k))
    body k low =
        let a : first_word (suc k) < 2 ^ 64 = omega arith in
        let w : is_plain (decimal (first_word (suc k))) ≡ true = plain-decimal (first_word (suc k)) a in
        let ds = decimal (first_word (suc k)) in
        let first = digit_first ds (32 ∷ codes "0x64") (decimal_nonempty (first_word (suc k)) a) (all_digits (first_word (suc k)) a) in
        record { plain = rw w refl; says = first.1; inside = first.0 }

-- what a driver does with its gate
unfoldable pub IsHeld : Act → Type 0
IsHeld Put = Unit {0}
IsHeld Prepare = Unit {0}
IsHeld Unprepare = Unit {0}
IsHeld Enable = Unit {0}
IsHeld Disable = Unit {0}
IsHeld Running = Unit {0}
IsHeld (SetRate rate) = rate < 2 ^ 64
IsHeld _ = ⊥

asked_fits : (b : Bool) → cond b 30000000 40000000 < 2 ^ 64
asked_fits true = omega arith
asked_fits false = omega arith

held-turn : (turn : ℕ) → AllByRecursion IsHeld (turn_acts turn)
unfolding IsHeld
held-turn turn = (asked_fits _, (tt, (tt, (tt, tt))))

held-turns : AllByRecursion IsHeld turns_acts
unfolding turns_acts
held-turns = each-up_to IsHeld turn_acts 100 (λ k low. held-turn (suc k))

pub held-acts : AllByRecursion IsHeld acts_held
unfolding IsHeld acts_held
held-acts = (tt, all_append IsHeld turns_acts (Unprepare ∷ Put ∷ []) held-turns (tt, (tt, tt)))

pub body-act : (a : Act) → IsHeld a → IsBody (act_row a)
unfolding IsHeld
body-act Put h = record { plain = refl; says = refl; inside = refl }
body-act Prepare h = record { plain = refl; says = refl; inside = refl }
body-act Unprepare h = record { plain = refl; says = refl; inside = refl }
body-act Enable h = record { plain = refl; says = refl; inside = refl }
body-act Disable h = record { plain = refl; says = refl; inside = refl }
body-act Running h = record { plain = refl; says = refl; inside = refl }
body-act (SetRate rate) h = let w : is_plain (decimal rate) ≡ true = plain-decimal rate h in record { plain = rw w refl; says = refl; inside = refl }
body-act _ h = absurd h

-- a driver gets its gate, and does this with it
pub body-commands : (k : ℕ) → k < 64 → AllByRecursion IsBody (command_rows (suc k))
body-commands k few =
    let g : is_plain (103 ∷ decimal (suc k)) ≡ true = plain-name 103 (suc k) refl (omega arith) in
    (record { plain = rw g refl; says = refl; inside = refl }, each-map IsBody act_row acts_held (each-weaker IsHeld (λ a. IsBody (act_row a)) acts_held body-act held-acts))

pub head-driver : (k : ℕ) → k < 64 → IsHead (driver_row (suc k))
head-driver k few =
    let w : is_plain (119 ∷ decimal (suc k)) ≡ true = plain-name 119 (suc k) refl (omega arith) in
    record { plain = rw w refl; begins = refl }

pub head-bank : (n : ℕ) → n ≤ 64 → IsHead (bank_row n)
head-bank n few =
    let w : is_plain (decimal (2 * n)) ≡ true = plain-decimal (2 * n) (omega arith) in
    record { plain = rw w refl; begins = refl }

-- plain words
abbrev pub IsPlain : Row → Type 0
IsPlain row = are_plain row ≡ true

plain-body : (rows : List Row) → AllByRecursion IsBody rows → AllByRecursion IsPlain rows
plain-body rows h = each-weaker IsBody IsPlain rows (λ row b. b.plain) h

plain-driver : (k : ℕ) → k < 64 → AllByRecursion IsPlain (driver_rows (suc k))
plain-driver k few = ((head-driver k few).plain, plain-body (command_rows (suc k)) (body-commands k few))

-- all rows are plain words
pub plain-bundle : (n : ℕ) → n ≤ 64 → AllByRecursion IsPlain (bundle_rows n)
plain-bundle n few =
    let clocks = plain-body (clock_rows n) (each-map IsBody part_row (all_parts n) (body-parts n few)) in
    let words = plain-body (word_rows n) (body-words n few) in
    let drivers = each-up_to IsPlain driver_rows n (λ k low. plain-driver k (omega arith)) in
    (refl, (refl, all_append IsPlain (clock_rows n) _ clocks ((head-bank n few).plain, all_append IsPlain (word_rows n) _ words drivers)))

pub all_plain : (rows : List Row) → AllByRecursion IsPlain rows → list_all are_plain rows ≡ true
all_plain [] h = refl
all_plain (row ∷ rows) h = and_from (are_plain row) (list_all are_plain rows) h.0 (all_plain rows h.1)
