-- There are at most 64 drivers.
use Rattle.std.proofs.Common.{◌≡◌, ℕ, zero, suc, ◌+◌, ◌-◌, ◌<◌, ◌≤◌, ◌&&◌, ◌++◌, Bool, true, false, cond, List, [], ◌∷◌, map, length, Option, Some, None, Result, Ok, Err, refl, ap, sym, subst, ◌∙◌, inl, inr, arith, length-append}
use Rattle.std.specs.Prelude.{nat_le, count_by}
use Rattle.std.specs.List.{flat_map, list_any}
use Rattle.std.proofs.lemmas.Bool.{cases_Bool, cases_lt, le-leb}
use Rattle.std.proofs.lemmas.List.{map-append}
use Rattle.std.proofs.lemmas.List.Sums.{sum_by_push, sum_by_from}
use Rattle.std.proofs.lemmas.Option.{none-some}
use Rattle.bundle_sections.specs.Headers.{Said, device_tree, clocks, bank, lock, late, driver, order, is_driver, same_driver, cannot_follow, read_header, order_fault}
use Rattle.bundle_sections.specs.declared.section.ClockText.{ClockText}
use Rattle.bundle_sections.specs.declared.section.ClockText.TheVariants.{Lines, DeviceTree}
use Rattle.bundle_sections.specs.Said.{Parts, clocks_said, in_order}
use Rattle.bundle_sections.specs.Sections.{SaidSection, section_of, section_at, sections_before, header_fault, fault_at}
use Rattle.bundle_sections.specs.Verdict.{Accepts}
use Rattle.bundle_sections.proofs.Places.{fault_header, section_none, section_header, sections-none, sections-more, sections_first}
use Rattle.bundle_text.specs.Firsts.{KeepsBelow}
use Rattle.bundle_text.specs.Lines.{line_at, is_header}
use Rattle.bundle_text.specs.Words.{blank_words}
use Rattle.bundle_text.specs.declared.reason.Reason.{Reason}
use Rattle.drv_scripts.specs.Sections.{Around, name_in, driver_names, scripts_between, scripts_in}

-- how many of the sections are drivers'
abbrev drivers_among : List SaidSection → ℕ
drivers_among sections = count_by is_driver (map (λ (s : SaidSection). s.says) sections)

nothing_wrong : (b : Bool) (reason : Reason) (o : Option Reason) → cond b (Some reason) o ≡ None → (b ≡ false) × (o ≡ None)
nothing_wrong true reason o h = absurd (none-some reason (sym h))
nothing_wrong false reason o h = (refl, h)

counted : (before : List Said) (said : Said) → count_by is_driver (before ++ said ∷ []) ≡ count_by is_driver before + cond (is_driver said) 1 0
counted before said = sum_by_push (λ x. cond (is_driver x) 1 0) before said

one_more : (n : ℕ) (b : Bool) → n ≤ 64 → (b && nat_le 64 n) ≡ false → n + cond b 1 0 ≤ 64
one_more n true few free =
    elim (cases_lt n 64) [
      | inl less ↦ omega arith
      | inr full ↦ absurd (none_true (nat_le 64 n) free (le-leb 64 n (omega (arith, full))))
    ] where
      none_true : (b : Bool) → b ≡ false → b ≡ true → ⊥
      none_true true e f = absurd (cc)
      none_true false e f = absurd (cc)
one_more n false few free = omega arith

-- a header without a fault behind at most 64 drivers leaves at most 64
placed_more : (before : List Said) (said : Said) → count_by is_driver before ≤ 64 → order_fault before said ≡ None → count_by is_driver (before ++ said ∷ []) ≤ 64
unfolding order_fault
placed_more before said few none =
    let late_ = nothing_wrong (list_any (cannot_follow said) before) _ _ none in
    let again = nothing_wrong (list_any (same_driver said) before) _ _ late_.1 in
    let full = nothing_wrong (is_driver said && nat_le 64 (count_by is_driver before)) _ _ again.1 in
    subst (λ n. n ≤ 64) (sym (counted before said)) (one_more (count_by is_driver before) (is_driver said) few full.0)

headed : (ls : List (List ℕ)) (k : ℕ) (r : Result Said Reason) → 0 < k → drivers_among (sections_before ls k) ≤ 64 → section_at ls k ≡ section_of ls k r → header_fault (sections_before ls k) r ≡ None
    → drivers_among (sections_before ls (k + 1)) ≤ 64
headed ls k (Err reason) low few here none = absurd (none-some reason (sym none))
headed ls k (Ok said) low few here none =
    let all = sections-more ls k _ low here in
    subst (λ xs. drivers_among xs ≤ 64) (sym all)
    (subst (λ xs. count_by is_driver xs ≤ 64) (sym (map-append (λ (s : SaidSection). s.says) (sections_before ls k) _)) (placed_more (map (λ (s : SaidSection). s.says) (sections_before ls k)) said few none))

line_more : (ls : List (List ℕ)) (k : ℕ) → 0 < k → drivers_among (sections_before ls k) ≤ 64 → fault_at ls k ≡ None → drivers_among (sections_before ls (k + 1)) ≤ 64
line_more ls k low few none =
    elim (cases_Bool (is_header (line_at ls k))) [
      | inl header ↦ headed ls k (read_header (blank_words (line_at ls k))) low few (section_header ls k header) (sym (fault_header ls k low header) ∙ none)
      | inr other ↦ subst (λ xs. drivers_among xs ≤ 64) (sym (sections-none ls k low (section_none ls k other))) few
    ]

few_before : (ls : List (List ℕ)) (n : ℕ) → KeepsBelow (fault_at ls) (n + 1) → drivers_among (sections_before ls (n + 1)) ≤ 64
few_before ls zero kept = subst (λ xs. drivers_among xs ≤ 64) (sym (sections_first ls)) (omega arith)
few_before ls (suc n) kept =
    let next : n + 1 + 1 ≡ suc n + 1 = omega arith in
    subst (λ k. drivers_among (sections_before ls k) ≤ 64) next (line_more ls (n + 1) (omega arith) (few_before ls n (λ j lt. kept j (omega arith))) (kept (n + 1) (omega arith)))

few_at : (ls : List (List ℕ)) (n : ℕ) → 0 < n → KeepsBelow (fault_at ls) n → drivers_among (sections_before ls n) ≤ 64
few_at ls n some kept =
    let same : n - 1 + 1 ≡ n = omega arith in
    subst (λ k. drivers_among (sections_before ls k) ≤ 64) same (few_before ls (n - 1) (subst (KeepsBelow (fault_at ls)) (sym same) kept))

nothing_more : (n : ℕ) → 0 + n ≡ n
nothing_more n = omega arith

counted_first : (said : Said) (more : List Said) → count_by is_driver (said ∷ more) ≡ cond (is_driver said) 1 0 + count_by is_driver more
counted_first said more = sum_by_from (λ x. cond (is_driver x) 1 0) (0 + cond (is_driver said) 1 0) more ∙ ap (λ n. n + count_by is_driver more) (nothing_more (cond (is_driver said) 1 0))

clocks_no_driver : (text : ClockText) → is_driver (clocks_said text) ≡ false
clocks_no_driver Lines = refl
clocks_no_driver DeviceTree = refl

among_others : (parts : Parts) → drivers_among (in_order parts) ≡ drivers_among parts.others
among_others parts =
    let rest = map (λ (s : SaidSection). s.says) parts.others in
    counted_first (clocks_said parts.clocks.text) (bank parts.bank.words ∷ rest)
    ∙ (ap (λ b. cond b 1 0 + count_by is_driver (bank parts.bank.words ∷ rest)) (clocks_no_driver parts.clocks.text)
    ∙ (nothing_more (count_by is_driver (bank parts.bank.words ∷ rest)) ∙ (counted_first (bank parts.bank.words) rest ∙ nothing_more (count_by is_driver rest))))

length-between : (a : Around) (says : Said) (first end : ℕ) → length (scripts_between a says first end) ≡ cond (is_driver says) 1 0
unfolding scripts_between
length-between a (driver name path) first end = refl
length-between a device_tree first end = refl
length-between a clocks first end = refl
length-between a (bank words) first end = refl
length-between a lock first end = refl
length-between a late first end = refl
length-between a order first end = refl

length-scripts : (a : Around) (sections : List SaidSection) → length (flat_map (scripts_in a) sections) ≡ drivers_among sections
length-scripts a [] = refl
length-scripts a (s ∷ more) =
    length-append (scripts_in a s) (flat_map (scripts_in a) more) ∙ (ap (λ n. n + length (flat_map (scripts_in a) more)) (length-between a s.says (s.place + 1) s.end)
    ∙ (ap (λ n. cond (is_driver s.says) 1 0 + n) (length-scripts a more) ∙ sym (counted_first s.says (map (λ (t : SaidSection). t.says) more))))

-- the sections of a bundle have at most 64 drivers
pub drivers_few : (a : Around) (ls : List (List ℕ)) (parts : Parts) → 0 < length ls → Accepts ls parts → length (flat_map (scripts_in a) parts.others) ≤ 64
drivers_few a ls parts some accepts =
    let few = few_at ls (length ls) some (λ k lt. accepts.placed k (omega arith)) in
    let all : drivers_among (in_order parts) ≤ 64 = subst (λ xs. drivers_among xs ≤ 64) accepts.sections few in
    omega (arith, length-scripts a parts.others, among_others parts)

-- ## Names

length-name : (says : Said) → length (name_in says) ≡ cond (is_driver says) 1 0
length-name (driver name path) = refl
length-name device_tree = refl
length-name clocks = refl
length-name (bank words) = refl
length-name lock = refl
length-name late = refl
length-name order = refl

-- there are as many names as drivers
length-names : (sections : List SaidSection) → length (driver_names sections) ≡ drivers_among sections
length-names [] = refl
length-names (s ∷ more) =
    length-append (name_in s.says) (driver_names more) ∙ (ap (λ n. n + length (driver_names more)) (length-name s.says)
    ∙ (ap (λ n. cond (is_driver s.says) 1 0 + n) (length-names more) ∙ sym (counted_first s.says (map (λ (t : SaidSection). t.says) more))))

-- at most 64
pub names_few : (ls : List (List ℕ)) (parts : Parts) → 0 < length ls → Accepts ls parts → length (driver_names parts.others) ≤ 64
names_few ls parts some accepts =
    let few = few_at ls (length ls) some (λ k lt. accepts.placed k (omega arith)) in
    let all : drivers_among (in_order parts) ≤ 64 = subst (λ xs. drivers_among xs ≤ 64) accepts.sections few in
    omega (arith, length-names parts.others, among_others parts)
