-- What the line of a clock says by itself.
use Rattle.std.proofs.Common.{◌≡◌, ℕ, ◌^◌, ◌<◌, ◌≤◌, ◌==◌, nat_le, Bool, true, false, cond, List, [], ◌∷◌, length, map, decimal, Some, None, Ok, refl, ap, ◌∙◌, arith}
use Rattle.std.specs.Prelude.{codes}
use Rattle.std.specs.Result.{result_err}
use Rattle.std.proofs.lemmas.Bool.{ne_eqb, le-leb}
use Rattle.std.proofs.lemmas.Fmt.{length-decimal-le}
use Rattle.bundle_text.specs.Names.{is_seen, is_clock_name}
use Rattle.bundle_text.specs.Numbers.{number_up_to, behind_0x, written_up_to, number_within}
use Rattle.clk_gen.specs.Generated.{first_word, second_word}
use Rattle.clock_lines.specs.ClockLines.{clock_line, fixed_line, pll_line, divider_line, gate_line, clock_said, with_flags, known_line}
use Rattle.clock_lines.specs.FlagWords.{are_flags, is_common_flag, flags_of_words, are_known}
use Rattle.clock_lines.specs.Kinds.{number, fixed_kind, pll_kind, divider_kind, gate_kind, field_said, most_number}
use Rattle.clock_lines.specs.Said.{SaidClock, PlacedClock}
use Rattle.clock_lines.specs.Section.{is_named, name_word, fault_behind}
use Rattle.gen_laws.specs.Clocks.{Part, root, pll, divider, gate, name_of, kind_of, flags_of, parents_of}
use Rattle.gen_laws.proofs.BundleRows.{part_row}
use Rattle.gen_laws.proofs.Decimals.{number-decimal, seen-decimal}
use Rattle.gen_laws.proofs.Parts.{IsFew}

-- what the line of a clock says
abbrev pub said_of : Part → SaidClock
said_of part = record { name = name_of part; kind = kind_of part; flags = record { 0 = flags_of part }; parents = map name_of (parents_of part) }

-- a letter and a number name a clock
clock_name : (c k : ℕ) → is_seen c ≡ true → k ≤ 64 → is_clock_name (c ∷ decimal k) ≡ true
unfolding is_clock_name
clock_name c k seen few =
    let short : length (decimal k) ≤ 2 = length-decimal-le 2 k (omega arith) (omega arith) (omega arith) in
    let some : (length (c ∷ decimal k) == 0) ≡ false = ne_eqb (length (c ∷ decimal k)) 0 (λ e. omega arith) in
    let fits : nat_le (length (c ∷ decimal k)) 64 ≡ true = le-leb (length (c ∷ decimal k)) 64 (omega arith) in
    rw some (rw fits (rw seen (seen-decimal k (omega arith))))

-- the number of a word
number-word : (a : ℕ) → a < 2 ^ 32 → number (decimal a) ≡ Some a
number-word a fits = number-decimal 0 most_number a (omega arith) (omega arith) (omega arith)

root-said : clock_line false (part_row root) ≡ Ok (said_of root)
unfolding clock_line fixed_line clock_said with_flags fixed_kind are_flags flags_of_words is_clock_name number_within written_up_to behind_0x number_up_to
root-said = refl

-- the numbers that each line has
constants : (number (codes "0") ≡ Some 0) × (number (codes "9") ≡ Some 9) × (number (codes "31") ≡ Some 31) × (number (codes "100") ≡ Some 100)
    × (number (codes "400") ≡ Some 400) × (number (codes "24") ≡ Some 24) × (number (codes "4") ≡ Some 4) × (number (codes "8") ≡ Some 8)
unfolding number_within written_up_to behind_0x number_up_to
constants = (refl, refl, refl, refl, refl, refl, refl, refl)

pll-kind : (k : ℕ) → k ≤ 64
    → pll_kind (field_said (decimal (first_word k)) (codes "0") (codes "9")) (decimal (first_word k)) (codes "31") (codes "100") (codes "400") (codes "24") ≡ Some (kind_of (pll k))
unfolding pll_kind field_said
pll-kind k few =
    let c = constants in
    let fits : first_word k < 2 ^ 32 = omega arith in
    rw (number-word (first_word k) fits) (rw (c.0, c.1, c.2, c.3, c.4, c.5) refl)

divider-kind : (k : ℕ) → k ≤ 64 → divider_kind (decimal (second_word k)) (codes "0") (codes "4") (codes "set-rate-parent" ∷ []) ≡ Some (kind_of (divider k))
unfolding divider_kind field_said
divider-kind k few =
    let c = constants in
    let fits : second_word k < 2 ^ 32 = omega arith in
    rw (number-word (second_word k) fits) (rw (c.0, c.6) refl)

gate-kind : (k : ℕ) → k ≤ 64 → gate_kind (decimal (second_word k)) (codes "8") (codes "set-rate-parent" ∷ []) ≡ Some (kind_of (gate k))
unfolding gate_kind
gate-kind k few =
    let c = constants in
    let fits : second_word k < 2 ^ 32 = omega arith in
    rw (number-word (second_word k) fits) (rw c.7 refl)

pll-said : (k : ℕ) → k ≤ 64 → clock_line false (part_row (pll k)) ≡ Ok (said_of (pll k))
unfolding clock_line pll_line clock_said with_flags are_flags flags_of_words
pll-said k few = rw (clock_name 112 k refl few) (rw (pll-kind k few) refl)

divider-said : (k : ℕ) → k ≤ 64 → clock_line false (part_row (divider k)) ≡ Ok (said_of (divider k))
unfolding clock_line divider_line clock_said with_flags are_flags is_common_flag flags_of_words
divider-said k few = rw (clock_name 100 k refl few) (rw (divider-kind k few) refl)

gate-said : (k : ℕ) → k ≤ 64 → clock_line false (part_row (gate k)) ≡ Ok (said_of (gate k))
unfolding clock_line gate_line clock_said with_flags are_flags is_common_flag flags_of_words
gate-said k few = rw (clock_name 103 k refl few) (rw (gate-kind k few) refl)

-- the line of a clock says it
pub part-said : (part : Part) → IsFew part → clock_line false (part_row part) ≡ Ok (said_of part)
unfolding IsFew
part-said root few = root-said
part-said (pll k) few = pll-said k few.1
part-said (divider k) few = divider-said k few.1
part-said (gate k) few = gate-said k few.1

pub words-some : (part : Part) → (length (part_row part) == 0) ≡ false
words-some root = refl
words-some (pll k) = refl
words-some (divider k) = refl
words-some (gate k) = refl

name-second : (part : Part) → name_word (part_row part) ≡ name_of part
name-second root = refl
name-second (pll k) = refl
name-second (divider k) = refl
name-second (gate k) = refl

-- version 1 knows its flags
part-known : (part : Part) → known_line 1 (Ok (said_of part)) ≡ Ok (said_of part)
unfolding known_line are_known
part-known root = refl
part-known (pll k) = refl
part-known (divider k) = refl
part-known (gate k) = refl

-- behind clocks of other names the line has no fault
pub part-fine : (earlier : List PlacedClock) (part : Part) → IsFew part → is_named earlier (name_of part) ≡ false → fault_behind 1 earlier (part_row part) ≡ None
unfolding fault_behind
part-fine earlier part few new =
    let judged = λ (t : Bool). result_err (known_line 1 (clock_line t (part_row part))) in
    let taken : is_named earlier (name_word (part_row part)) ≡ false = ap (is_named earlier) (name-second part) ∙ new in
    let said : judged (is_named earlier (name_word (part_row part))) ≡ None =
    ap judged taken ∙ (ap (λ r. result_err (known_line 1 r)) (part-said part few) ∙ ap result_err (part-known part)) in
    ap (λ b. cond b None (judged (is_named earlier (name_word (part_row part))))) (words-some part) ∙ said
