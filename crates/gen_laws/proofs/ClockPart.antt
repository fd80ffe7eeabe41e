-- The section of the clocks spells the description.
use Rattle.std.proofs.Common.{◌≡◌, ℕ, zero, suc, ◌+◌, ◌*◌, ◌<◌, ◌≤◌, ◌&&◌, true, false, cond, List, [], ◌∷◌, ◌++◌, length, map, Some, None, refl, sym, ap, subst, ◌∙◌, arith}
use Rattle.std.specs.List.{list_all, list_any, range_with_len, position_or_len, All}
use Rattle.std.specs.Option.{option_map, option_map_or}
use Rattle.std.specs.Result.{result_ok}
use Rattle.std.specs.Str.{bytes_eq}
use Rattle.std.proofs.lemmas.Bool.{false_from_ne_true}
use Rattle.std.proofs.lemmas.List.{length-map, get_or-map, ext_get_or}
use Rattle.std.proofs.lemmas.List.Folds.{list_any_none, list_any_at}
use Rattle.std.proofs.lemmas.List.FromFn.{length-map-range_with_len, get_or-map-range_with_len, map-range_with_len_more}
use Rattle.std.proofs.lemmas.List.Sums.{position_or_len_is}
use Rattle.std.proofs.lemmas.Slice.Eq.{bytes_eq-Decides}
use Rattle.bundle_text.specs.Firsts.{KeepsBelow, said_from}
use Rattle.bundle_text.specs.Lines.{line_at}
use Rattle.bundle_text.specs.Words.{said_words}
use Rattle.bundle_text.specs.declared.reason.Reason.TheVariants.{UnknownName}
use Rattle.bundle_text.proofs.Rows.{said_from-more}
use Rattle.clk_base.specs.declared.clock.ClockDef.{ClockDef}
use Rattle.clk_base.specs.Description.{nobody}
use Rattle.clock_lines.specs.Said.{PlacedClock}
use Rattle.clock_lines.specs.Section as section
use Rattle.clock_lines.specs.Section.{placed_clock, clock_at, clocks_before, all_clocks, names_of, is_named, fault_behind, fault_at, finds_parents, parent_fault, parent_fault_at, clock_in, desc_of, lines_of}
use Rattle.clock_lines.specs.Verdict.{Spells}
use Rattle.gen_laws.specs.Rows.{row_text}
use Rattle.gen_laws.specs.Clocks.{Part, root, pll, divider, gate, all_parts, name_of, kind_of, flags_of, parents_of, place_of, clock_of, clocks}
use Rattle.gen_laws.proofs.BundleRows.{part_row, clock_rows}
use Rattle.gen_laws.proofs.BodyRows.{IsBody, body-parts}
use Rattle.gen_laws.proofs.ClockLines.{said_of, part-said, part-fine}
use Rattle.gen_laws.proofs.Listed.{each-map}
use Rattle.gen_laws.proofs.Parts.{few-at, part_at, names_apart, each-part, pll-at, divider-at, place-at}
use Rattle.gen_laws.proofs.PlainRows.{row-said}
use Rattle.gen_laws.proofs.RowPlaces.{row_at, line-row, length-clocks, length-parts}
use Rattle.gen_laws.proofs.Sectioned.{among}

-- the lines of the clocks
abbrev pub clock_section : ℕ → List (List ℕ)
clock_section n = map row_text (clock_rows n)

pub length-section : (n : ℕ) → length (clock_section n) ≡ 3 * n + 1
length-section n = length-map (clock_rows n) row_text ∙ length-clocks n

-- the clock at a place, as its line says it
abbrev pub placed : ℕ → ℕ → PlacedClock
placed n p = record { place = p; clock = said_of (part_at n p) }

-- the words of the line at a place
line-words : (n p : ℕ) → n ≤ 64 → p < 3 * n + 1 → said_words (line_at (clock_section n) p) ≡ part_row (part_at n p)
line-words n p few within =
    let row_is : row_at (clock_rows n) p ≡ part_row (part_at n p) = get_or-map part_row (all_parts n) p root [] (omega (arith, length-parts n)) in
    let body = among IsBody (clock_rows n) p (each-map IsBody part_row (all_parts n) (body-parts n few)) (omega (arith, length-clocks n)) in
    ap said_words (line-row (clock_rows n) p) ∙ (row-said (row_at (clock_rows n) p) body.plain body.says ∙ row_is)

said-clock : (n p : ℕ) → n ≤ 64 → p < 3 * n + 1 → clock_at (clock_section n) p ≡ Some (placed n p)
unfolding clock_at placed_clock
said-clock n p few within =
    let part = part_at n p in
    ap (placed_clock p) (line-words n p few within)
    ∙ ap (λ r. option_map (λ clock. record { place = p; clock = clock }) (result_ok r)) (part-said part (few-at n p few within))

-- the clocks before a place
clocks-before : (n k : ℕ) → n ≤ 64 → k ≤ 3 * n + 1 → clocks_before (clock_section n) k ≡ map (placed n) (range_with_len 0 k)
unfolding clocks_before
clocks-before n zero few low = refl
clocks-before n (suc k) few low =
    let next : suc k ≡ k + 1 = omega arith in
    let place : 0 + k ≡ k = omega arith in
    let within : k < 3 * n + 1 = omega arith in
    ap (said_from (clock_at (clock_section n)) 0) next
    ∙ (said_from-more (clock_at (clock_section n)) 0 k (placed n k) (ap (clock_at (clock_section n)) place ∙ said-clock n k few within)
    ∙ (ap (λ xs. xs ++ placed n k ∷ []) (clocks-before n k few (omega arith))
    ∙ (sym (map-range_with_len_more (placed n) 0 k k (omega arith)) ∙ ap (λ m. map (placed n) (range_with_len 0 m)) (sym next))))

pub clocks-all : (n : ℕ) → n ≤ 64 → all_clocks (clock_section n) ≡ map (placed n) (range_with_len 0 (3 * n + 1))
clocks-all n few = ap (clocks_before (clock_section n)) (length-section n) ∙ clocks-before n (3 * n + 1) few (omega arith)

-- their names
unfoldable pub name_at : ℕ → ℕ → List ℕ
name_at n p = name_of (part_at n p)

names-of : (n : ℕ) (places : List ℕ) → names_of (map (placed n) places) ≡ map (name_at n) places
unfolding name_at
names-of n [] = refl
names-of n (p ∷ places) = ap (λ xs. name_of (part_at n p) ∷ xs) (names-of n places)

pub apart : (n p q : ℕ) → n ≤ 64 → p < 3 * n + 1 → q < 3 * n + 1 → (p ≡ q → ⊥) → bytes_eq (name_of (part_at n p)) (name_at n q) ≡ false
unfolding name_at
apart n p q few at_p at_q other =
    false_from_ne_true (bytes_eq (name_of (part_at n p)) (name_of (part_at n q)))
    (λ e. other (names_apart n p q few at_p at_q ((bytes_eq-Decides (name_of (part_at n p)) (name_of (part_at n q))).0 e)))

pub same_name : (n p : ℕ) → bytes_eq (name_of (part_at n p)) (name_at n p) ≡ true
unfolding name_at
same_name n p = (bytes_eq-Decides (name_of (part_at n p)) (name_of (part_at n p))).1 refl

-- no earlier clock has the name
new-name : (n k : ℕ) → n ≤ 64 → k < 3 * n + 1 → is_named (clocks_before (clock_section n) k) (name_of (part_at n k)) ≡ false
new-name n k few within =
    let name = name_of (part_at n k) in
    let names = map (name_at n) (range_with_len 0 k) in
    let each : All (λ own. bytes_eq name own ≡ false) names = λ q d low.
    let below : q < k = omega (arith, length-map-range_with_len (name_at n) 0 k) in
    ap (bytes_eq name) (get_or-map-range_with_len (name_at n) 0 k q q d below (omega arith)) ∙ apart n k q few within (omega arith) (λ e. omega arith) in
    ap (λ cs. is_named cs name) (clocks-before n k few (omega arith))
    ∙ (ap (list_any (bytes_eq name)) (names-of n (range_with_len 0 k)) ∙ list_any_none (bytes_eq name) names each)

-- no line has a fault by itself
kept : (n : ℕ) → n ≤ 64 → KeepsBelow (fault_at 1 (clock_section n)) (length (clock_section n))
unfolding fault_at
kept n few k within =
    let low : k < 3 * n + 1 = omega (arith, length-section n) in
    ap (fault_behind 1 (clocks_before (clock_section n) k)) (line-words n k few low)
    ∙ part-fine (clocks_before (clock_section n) k) (part_at n k) (few-at n k few low) (new-name n k few low)

-- a clock is found by its name, at its place
named-all : (n p : ℕ) → n ≤ 64 → p < 3 * n + 1 → is_named (all_clocks (clock_section n)) (name_of (part_at n p)) ≡ true
named-all n p few within =
    let name = name_of (part_at n p) in
    let names = map (name_at n) (range_with_len 0 (3 * n + 1)) in
    let here = get_or-map-range_with_len (name_at n) 0 (3 * n + 1) p p [] within (omega arith) in
    ap (λ cs. is_named cs name) (clocks-all n few)
    ∙ (ap (list_any (bytes_eq name)) (names-of n (range_with_len 0 (3 * n + 1)))
    ∙ list_any_at (bytes_eq name) names p [] (omega (arith, length-map-range_with_len (name_at n) 0 (3 * n + 1))) (ap (bytes_eq name) here ∙ same_name n p))

placed-all : (n p : ℕ) → n ≤ 64 → p < 3 * n + 1 → section.place_of (all_clocks (clock_section n)) (name_of (part_at n p)) ≡ p
placed-all n p few within =
    let name = name_of (part_at n p) in
    let names = map (name_at n) (range_with_len 0 (3 * n + 1)) in
    let long = length-map-range_with_len (name_at n) 0 (3 * n + 1) in
    let here = get_or-map-range_with_len (name_at n) 0 (3 * n + 1) p p [] within (omega arith) in
    ap (λ cs. section.place_of cs name) (clocks-all n few)
    ∙ (ap (position_or_len (bytes_eq name)) (names-of n (range_with_len 0 (3 * n + 1)))
    ∙ position_or_len_is (bytes_eq name) names p [] (omega arith)
    (λ q low. ap (bytes_eq name) (get_or-map-range_with_len (name_at n) 0 (3 * n + 1) q q [] (omega arith) (omega arith)) ∙ apart n p q few within (omega arith) (λ e. omega arith))
    (λ _. ap (bytes_eq name) here ∙ same_name n p))

-- a parent is a clock's name, and found at the parent's place
abbrev IsFound : ℕ → Part → Type 0
IsFound n part = (is_named (all_clocks (clock_section n)) (name_of part) ≡ true) × (section.place_of (all_clocks (clock_section n)) (name_of part) ≡ place_of part)

found-at : (n q : ℕ) (part : Part) → n ≤ 64 → q < 3 * n + 1 → part_at n q ≡ part → IsFound n part
found-at n q part few within e = subst (λ x. IsFound n x) e (named-all n q few within, placed-all n q few within ∙ sym (place-at n q within))

-- the parents of a clock are found at their places
abbrev FindsParents : ℕ → Part → Type 0
FindsParents n part =
    (list_all (is_named (all_clocks (clock_section n))) (map name_of (parents_of part)) ≡ true)
    × (map (section.place_of (all_clocks (clock_section n))) (map name_of (parents_of part)) ≡ map place_of (parents_of part))

one-parent : (n : ℕ) (part parent : Part) → parents_of part ≡ parent ∷ [] → IsFound n parent → FindsParents n part
one-parent n part parent e h =
    let clocks_of = all_clocks (clock_section n) in (
      ap (λ ps. list_all (is_named clocks_of) (map name_of ps)) e ∙ ap (λ b. b && true) h.0,
      ap (λ ps. map (section.place_of clocks_of) (map name_of ps)) e ∙ (ap (λ m. m ∷ []) h.1 ∙ sym (ap (map place_of) e)),
    )

finds-parents : (n p : ℕ) → n ≤ 64 → p < 3 * n + 1 → FindsParents n (part_at n p)
finds-parents n p few within =
    each-part (λ _ part. FindsParents n part) n (refl, refl)
    (λ i low. record {
      at_pll = one-parent n (pll (suc i)) root refl (found-at n 0 root few (omega arith) refl);
      at_divider = one-parent n (divider (suc i)) (pll (suc i)) refl (found-at n (3 * i + 1) (pll (suc i)) few (omega arith) (pll-at n i (3 * i + 1) low refl));
      at_gate = one-parent n (gate (suc i)) (divider (suc i)) refl (found-at n (3 * i + 2) (divider (suc i)) few (omega arith) (divider-at n i (3 * i + 2) low refl));
    }) p within

found : (n : ℕ) → n ≤ 64 → KeepsBelow (parent_fault_at (clock_section n)) (length (clock_section n))
unfolding parent_fault_at finds_parents
found n few k within =
    let low : k < 3 * n + 1 = omega (arith, length-section n) in
    ap (λ o. option_map_or (parent_fault (all_clocks (clock_section n))) o None) (said-clock n k few low)
    ∙ ap (λ b. cond b None (Some UnknownName)) (finds-parents n k few low).0

-- a clock of the description
clock-in : (n p : ℕ) → n ≤ 64 → p < 3 * n + 1 → clock_in (all_clocks (clock_section n)) (placed n p) ≡ clock_of (part_at n p)
unfolding clock_in
clock-in n p few within =
    let part = part_at n p in
    ap (λ (ps : List ℕ). let d : ClockDef = record { name = name_of part; kind = kind_of part; flags = record { 0 = flags_of part }; parents = ps } in d) (finds-parents n p few within).1

-- the description
pub desc-is : (n : ℕ) → n ≤ 64 → clocks n ≡ desc_of (clock_section n)
unfolding desc_of
desc-is n few =
    let all = all_clocks (clock_section n) in
    let xs = map (placed n) (range_with_len 0 (3 * n + 1)) in
    let long : length xs ≡ 3 * n + 1 = length-map-range_with_len (placed n) 0 (3 * n + 1) in
    let own : length (clocks n) ≡ 3 * n + 1 = length-map (all_parts n) clock_of ∙ length-parts n in
    let theirs : length (map (clock_in all) xs) ≡ 3 * n + 1 = length-map xs (clock_in all) ∙ long in
    ext_get_or nobody (clocks n) (map (clock_in all) xs) (own ∙ sym theirs)
    (λ p low.
    let within : p < 3 * n + 1 = omega arith in
    get_or-map clock_of (all_parts n) p root nobody (omega (arith, length-parts n))
    ∙ (sym (clock-in n p few within)
    ∙ (ap (clock_in all) (sym (get_or-map-range_with_len (placed n) 0 (3 * n + 1) p p (placed n 0) within (omega arith)))
    ∙ sym (get_or-map (clock_in all) xs p (placed n 0) nobody (omega arith)))))
    ∙ ap (map (clock_in all)) (sym (clocks-all n few))

-- the lines of the section spell the description
pub section-spells : (n from : ℕ) → n ≤ 64 → Spells 1 from (clock_section n) (clocks n) (lines_of from (clock_section n))
section-spells n from few = record { kept = kept n few; found = found n few; desc_is = desc-is n few; lines_are = refl }
