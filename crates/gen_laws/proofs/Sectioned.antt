-- The sections that the lines of the bundle stand in.
use Rattle.std.proofs.Common.{◌≡◌, ℕ, zero, suc, ◌+◌, ◌-◌, ◌*◌, ◌<◌, ◌≤◌, ◌==◌, nat_le, true, false, cond, List, [], ◌∷◌, ◌++◌, length, map, decimal, None, Ok, refl, sym, ap, subst, ◌∙◌, arith}
use Rattle.std.specs.Prelude.{codes}
use Rattle.std.specs.Char.{is_ascii_digit}
use Rattle.std.specs.List.{list_all, list_any, count_by, AllByRecursion}
use Rattle.std.specs.Option.{option_map}
use Rattle.std.specs.Str.{bytes_eq, is_utf8}
use Rattle.std.proofs.lemmas.Bool.{and_parts, and_from, or_from, lt-leb, le-leb, ne_eqb, false_from_ne_true}
use Rattle.std.proofs.lemmas.Bool.Decides.{nat_tests}
use Rattle.std.proofs.lemmas.Fmt.{length-decimal-le}
use Rattle.std.proofs.lemmas.List.{length-map}
use Rattle.std.proofs.lemmas.List.Elements.{All-from_recursion, All-get_or}
use Rattle.std.proofs.lemmas.List.Sums.{sum_by-cons, count_by-le-length}
use Rattle.std.proofs.lemmas.Slice.Eq.{bytes_eq-Decides}
use Rattle.bundle_text.specs.Lines.{line_at, is_header}
use Rattle.bundle_text.specs.Names.{is_driver_character, is_driver_name}
use Rattle.bundle_text.specs.Words.{blank_words}
use Rattle.bundle_text.proofs.Headers.{header_from-is}
use Rattle.bundle_text.proofs.Mapped.{list_any-map}
use Rattle.bundle_sections.specs.declared.section.BankSection.{BankSection}
use Rattle.bundle_sections.specs.declared.section.ClockSection.{ClockSection}
use Rattle.bundle_sections.specs.declared.section.ClockText.TheVariants.{Lines}
use Rattle.bundle_sections.specs.Headers.{Said, clocks, bank, driver, is_driver, same_driver, cannot_follow, order_fault, read_header, header_of, bank_words, driver_words, well_formed}
use Rattle.bundle_sections.specs.Reads.{AtHeader}
use Rattle.bundle_sections.specs.Said.{Parts, clock_section, bank_section}
use Rattle.bundle_sections.specs.Sections.{SaidSection, has_version, header_fault}
use Rattle.bundle_sections.specs.Verdict.{Accepts}
use Rattle.bundle_sections.proofs.Places.{at_first, version_kept, header_next, end_kept, text_kept}
use Rattle.gen_laws.specs.Rows.{are_plain, row_text}
use Rattle.gen_laws.specs.Clocks.{up_to, all_parts}
use Rattle.gen_laws.specs.Script.{driver_name}
use Rattle.gen_laws.proofs.BundleRows.{Row, driver_row, command_rows, bank_row, clock_rows, word_rows, bundle_rows, part_row}
use Rattle.gen_laws.proofs.BodyRows.{IsBody, IsHead, body-parts, body-words, body-commands, head-driver, head-bank, IsPlain, plain-bundle}
use Rattle.gen_laws.proofs.Decimals.{all_digits, number-decimal, same_decimal}
use Rattle.gen_laws.proofs.Listed.{any-up_to, each-map, length-up_to}
use Rattle.gen_laws.proofs.PlainRows.{row-words, row-utf8}
use Rattle.gen_laws.proofs.RowPlaces.{row_at, line-row, length-bundle, length-clocks, length-words, length-commands, clock-at, bank-at, word-at, driver-at}

-- the lines of the bundle
abbrev pub bundle_lines : ℕ → List (List ℕ)
bundle_lines n = map row_text (bundle_rows n)

pub length-lines : (n : ℕ) → length (bundle_lines n) ≡ 409 * n + 4
length-lines n = length-map (bundle_rows n) row_text ∙ length-bundle n

-- ---- the sections

-- the section of the clocks
abbrev pub clocks_part : ℕ → ClockSection
clocks_part n = record { text = Lines; place = 1; end = 3 * n + 3 }

-- the section of the bank
abbrev pub bank_part : ℕ → BankSection
bank_part n = record { words = 2 * n; place = 3 * n + 3; end = 4 * n + 4 }

-- where the section of a driver begins, counted from 0
abbrev pub driver_place : ℕ → ℕ → ℕ
driver_place n i = 4 * n + 4 + 405 * i

-- the section of a driver, counted from 0
abbrev pub driver_part : ℕ → ℕ → SaidSection
driver_part n i = record { says = driver (driver_name (suc i)) None; place = driver_place n i; end = driver_place n (suc i) }

-- the section of a driver, counted from 1
abbrev pub one_driver : ℕ → ℕ → List SaidSection
one_driver n zero = []
one_driver n (suc i) = driver_part n i ∷ []

-- the sections of the first drivers
abbrev pub driver_parts : ℕ → ℕ → List SaidSection
driver_parts n i = up_to (one_driver n) i

-- all sections
abbrev pub bundle_parts : ℕ → Parts
bundle_parts n = record { clocks = clocks_part n; bank = bank_part n; others = driver_parts n n }

-- the sections through the first drivers
abbrev sections_to : ℕ → ℕ → List SaidSection
sections_to n i = clock_section (clocks_part n) ∷ (bank_section (bank_part n) ∷ driver_parts n i)

-- ---- which lines are headers

-- a row among rows of which this holds
pub among : (P : Row → Type 0) (rows : List Row) (j : ℕ) → AllByRecursion P rows → j < length rows → P (row_at rows j)
among P rows j h within = All-get_or P rows j [] within (All-from_recursion P rows h)

pub body-clocks : (n k : ℕ) → n ≤ 64 → 2 ≤ k → k < 3 * n + 3 → IsBody (row_at (bundle_rows n) k)
body-clocks n k few low high =
    let all = each-map IsBody part_row (all_parts n) (body-parts n few) in
    let here = among IsBody (clock_rows n) (k - 2) all (omega (arith, length-clocks n)) in
    subst IsBody (sym (clock-at n (k - 2) k (omega arith) (omega arith))) here

pub body-bank : (n k : ℕ) → n ≤ 64 → 3 * n + 4 ≤ k → k < 4 * n + 4 → IsBody (row_at (bundle_rows n) k)
body-bank n k few low high =
    let here = among IsBody (word_rows n) (k - (3 * n + 4)) (body-words n few) (omega (arith, length-words n)) in
    subst IsBody (sym (word-at n (k - (3 * n + 4)) k (omega arith) (omega arith))) here

-- a command of a driver
pub command-at : (n i j k : ℕ) → i < n → j < 404 → k ≡ driver_place n i + 1 + j → row_at (bundle_rows n) k ≡ row_at (command_rows (suc i)) j
command-at n i j k low within there = driver-at n i (suc j) k low (omega arith) (omega arith)

pub body-driver : (n i k : ℕ) → n ≤ 64 → i < n → driver_place n i + 1 ≤ k → k < driver_place n (suc i) → IsBody (row_at (bundle_rows n) k)
body-driver n i k few within low high =
    let j : ℕ = k - (driver_place n i + 1) in
    let here = among IsBody (command_rows (suc i)) j (body-commands i (omega arith)) (omega (arith, length-commands (suc i))) in
    subst IsBody (sym (command-at n i j k within (omega arith) (omega arith))) here

-- the line of such a row is no header
inside-line : (n k : ℕ) → IsBody (row_at (bundle_rows n) k) → is_header (line_at (bundle_lines n) k) ≡ false
inside-line n k b = ap is_header (line-row (bundle_rows n) k) ∙ b.inside

-- the header of a driver
pub header-driver : (n i : ℕ) → i < n → row_at (bundle_rows n) (driver_place n i) ≡ driver_row (suc i)
header-driver n i low = driver-at n i 0 (driver_place n i) low (omega arith) (omega arith)

header-line : (n k : ℕ) (row : Row) → row_at (bundle_rows n) k ≡ row → IsHead row → is_header (line_at (bundle_lines n) k) ≡ true
header-line n k row e h = ap is_header (line-row (bundle_rows n) k ∙ ap row_text e) ∙ h.begins

-- the words of a line
pub words-line : (n k : ℕ) (row : Row) → row_at (bundle_rows n) k ≡ row → are_plain row ≡ true → blank_words (line_at (bundle_lines n) k) ≡ row
words-line n k row e plain = ap blank_words (line-row (bundle_rows n) k ∙ ap row_text e) ∙ row-words row plain

-- ---- what headers say

clocks-read : read_header (codes "%clocks" ∷ []) ≡ Ok clocks
unfolding read_header header_of
clocks-read = refl

bank-read : (n : ℕ) → 0 < n → n ≤ 64 → read_header (bank_row n) ≡ Ok (bank (2 * n))
unfolding read_header header_of bank_words
bank-read n some few = ap (λ o. well_formed (option_map bank o)) (number-decimal 1 65536 (2 * n) (omega arith) (omega arith) (omega arith))

character-digit : (b : ℕ) → is_ascii_digit b ≡ true → is_driver_character b ≡ true
character-digit b h = grind (arith, nat_tests)

character-digits : (ds : List ℕ) → list_all is_ascii_digit ds ≡ true → list_all is_driver_character ds ≡ true
character-digits [] h = refl
character-digits (d ∷ ds) h =
    let parts = and_parts (is_ascii_digit d) (list_all is_ascii_digit ds) h in
    and_from (is_driver_character d) (list_all is_driver_character ds) (character-digit d parts.0) (character-digits ds parts.1)

name-driver : (k : ℕ) → k ≤ 64 → is_driver_name (driver_name k) ≡ true
unfolding is_driver_name
name-driver k few =
    let short : length (decimal k) ≤ 2 = length-decimal-le 2 k (omega arith) (omega arith) (omega arith) in
    let some : (length (119 ∷ decimal k) == 0) ≡ false = ne_eqb (length (119 ∷ decimal k)) 0 (λ e. omega arith) in
    let fits : nat_le (length (119 ∷ decimal k)) 32 ≡ true = le-leb (length (119 ∷ decimal k)) 32 (omega arith) in
    let all : list_all is_driver_character (decimal k) ≡ true = character-digits (decimal k) (all_digits k (omega arith)) in
    rw some (rw fits (rw all refl))

driver-read : (k : ℕ) → k ≤ 64 → read_header (driver_row k) ≡ Ok (driver (driver_name k) None)
unfolding read_header header_of driver_words
driver-read k few = rw (name-driver k few) refl

-- ---- no header is out of order

bank-ordered : (words : ℕ) → order_fault (clocks ∷ []) (bank words) ≡ None
unfolding order_fault cannot_follow
bank-ordered words = refl

-- the names of two drivers are apart
names-apart : (i k : ℕ) → i < k → k ≤ 64 → bytes_eq (driver_name k) (driver_name i) ≡ false
names-apart i k order few =
    false_from_ne_true (bytes_eq (driver_name k) (driver_name i))
    (λ e. let same : driver_name k ≡ driver_name i = (bytes_eq-Decides (driver_name k) (driver_name i)).0 e in
    let numbers : decimal k ≡ decimal i = cc in
    let equal : k ≡ i = same_decimal k i (omega arith) (omega arith) numbers in
    omega arith)

pub length-driver_parts : (n i : ℕ) → length (driver_parts n i) ≡ i
length-driver_parts n i = length-up_to (one_driver n) (λ k. k) (record { first = refl; next = λ k. omega arith }) i

driver-ordered : (n i : ℕ) → i < 64 → order_fault (map (λ s. s.says) (sections_to n i)) (driver (driver_name (suc i)) None) ≡ None
unfolding order_fault cannot_follow
driver-ordered n i few =
    let said = driver (driver_name (suc i)) None in
    let more : List SaidSection = driver_parts n i in
    let says : SaidSection → Said = λ s. s.says in
    let follows : list_any (cannot_follow said) (map says more) ≡ false = list_any-map (cannot_follow said) says more ∙ any-up_to (λ s. cannot_follow said s.says) (one_driver n) i (λ k low. refl) in
    let other : list_any (same_driver said) (map says more) ≡ false =
    list_any-map (same_driver said) says more ∙ any-up_to (λ s. same_driver said s.says) (one_driver n) i (λ k low. or_from _ false (names-apart (suc k) (suc i) (omega arith) (omega arith)) refl) in
    let weight : Said → ℕ = λ s. cond (is_driver s) 1 0 in
    let count : nat_le 64 (count_by is_driver (clocks ∷ (bank (2 * n) ∷ map says more))) ≡ false =
    lt-leb 64 _ (omega (arith, sum_by-cons weight clocks (bank (2 * n) ∷ map says more), sum_by-cons weight (bank (2 * n)) (map says more), count_by-le-length is_driver (map says more), length-map more says, length-driver_parts n i)) in
    rw follows (rw other (rw count refl))

-- ---- from header to header

-- the next header, behind the lines of a section
next : (ls : List (List ℕ)) (at end : ℕ) (found : List SaidSection) (said : Said) → AtHeader ls at found → at < length ls → at + 1 ≤ end → end ≤ length ls
    → ((k : ℕ) → at + 1 ≤ k → k < end → is_header (line_at ls k) ≡ false) → (end < length ls → is_header (line_at ls end) ≡ true)
    → read_header (blank_words (line_at ls at)) ≡ Ok said → order_fault (map (λ s. s.says) found) said ≡ None
    → AtHeader ls end (found ++ (record { says = said; place = at; end = end }) ∷ [])
next ls at end found said here within longer bound between there read fine =
    (header_next ls at end found said here within (sym (header_from-is ls (at + 1) end longer bound between there)) bound read (ap (header_fault found) read ∙ fine)).here

at-clocks : (n : ℕ) → AtHeader (bundle_lines n) 1 []
unfolding has_version
at-clocks n =
    let ls = bundle_lines n in
    let high : 1 ≤ length ls = omega (arith, length-lines n) in
    at_first ls 1 (sym (header_from-is ls 1 1 (omega arith) high (λ k low lt. absurd (omega arith)) (λ _. refl))) high (version_kept ls refl)

at-bank : (n : ℕ) → n ≤ 64 → AtHeader (bundle_lines n) (3 * n + 3) (clock_section (clocks_part n) ∷ [])
unfolding order_fault
at-bank n few =
    let ls = bundle_lines n in
    let long = length-lines n in
    next ls 1 (3 * n + 3) [] clocks (at-clocks n) (omega arith) (omega arith) (omega arith)
    (λ k low lt. inside-line n k (body-clocks n k few low lt)) (λ _. header-line n (3 * n + 3) (bank_row n) (bank-at n) (head-bank n few))
    (ap read_header (words-line n 1 (codes "%clocks" ∷ []) refl refl) ∙ clocks-read) refl

-- at the header of a driver, or at the end
at-driver : (n i : ℕ) → 0 < n → n ≤ 64 → i ≤ n → AtHeader (bundle_lines n) (driver_place n i) (sections_to n i)
at-driver n zero some few low =
    let ls = bundle_lines n in
    let long = length-lines n in
    let start : 4 * n + 4 ≡ driver_place n 0 = omega arith in
    let here = next ls (3 * n + 3) (4 * n + 4) (clock_section (clocks_part n) ∷ []) (bank (2 * n)) (at-bank n few) (omega arith) (omega arith) (omega arith)
    (λ k least most. inside-line n k (body-bank n k few (omega arith) most))
    (λ _. header-line n (4 * n + 4) (driver_row 1) (ap (row_at (bundle_rows n)) start ∙ header-driver n 0 some) (head-driver 0 (omega arith)))
    (ap read_header (words-line n (3 * n + 3) (bank_row n) (bank-at n) (head-bank n few).plain) ∙ bank-read n some few) (bank-ordered (2 * n)) in
    subst (λ k. AtHeader ls k (sections_to n 0)) start here
at-driver n (suc i) some few low =
    let ls = bundle_lines n in
    let long = length-lines n in
    let few_i : i < 64 = omega arith in
    next ls (driver_place n i) (driver_place n (suc i)) (sections_to n i) (driver (driver_name (suc i)) None) (at-driver n i some few (omega arith)) (omega arith) (omega arith) (omega arith)
    (λ k least most. inside-line n k (body-driver n i k few (omega arith) least most))
    (λ there. header-line n (driver_place n (suc i)) (driver_row (suc (suc i))) (header-driver n (suc i) (omega arith)) (head-driver (suc i) (omega arith)))
    (ap read_header (words-line n (driver_place n i) (driver_row (suc i)) (header-driver n i (omega arith)) (head-driver i few_i).plain) ∙ driver-read (suc i) (omega arith))
    (driver-ordered n i few_i)

-- the lines stand in these sections
pub bundle-sections : (n : ℕ) → 0 < n → n ≤ 64 → Accepts (bundle_lines n) (bundle_parts n)
bundle-sections n some few =
    let ls = bundle_lines n in
    let long = length-lines n in
    let last : driver_place n n ≡ length ls = omega arith in
    let here = subst (λ k. AtHeader ls k (sections_to n n)) last (at-driver n n some few (omega arith)) in
    record {
      text = λ k within. text_kept ls k (ap is_utf8 (line-row (bundle_rows n) k) ∙ row-utf8 (row_at (bundle_rows n) k) (among IsPlain (bundle_rows n) k (plain-bundle n few) (omega (arith, length-bundle n))));
      placed = end_kept ls (omega arith) here.behind here.kept;
      sections = sym here.read;
    }
