-- Steps from header to header.
use Rattle.std.proofs.Common.{◌≡◌, ℕ, zero, suc, ◌+◌, ◌-◌, ◌<◌, ◌≤◌, ◌||◌, Bool, true, false, List, [], ◌∷◌, ◌++◌, Option, Some, None, Ok, length, drop, map, refl, ap, subst, sym, ◌∙◌, inl, inr, arith, length-drop}
use Rattle.std.specs.List.{list_any}
use Rattle.std.specs.Str.{is_utf8}
use Rattle.std.proofs.lemmas.Bool.{cases_lt}
use Rattle.std.proofs.lemmas.Bool.Decides.{nat_tests}
use Rattle.std.proofs.lemmas.List.{get_or-drop}
use Rattle.std.proofs.lemmas.List.Sums.{fails_before_first, passes_at_first}
use Rattle.bundle_text.specs.Firsts.{KeepsBelow, onto, said_from}
use Rattle.bundle_text.specs.Lines.{line_at, is_header, header_from}
use Rattle.bundle_text.specs.Words.{blank_words}
use Rattle.bundle_text.proofs.Headers.{header_from-ge}
use Rattle.bundle_text.proofs.Rows.{KeepsBelow-more, said_from-more}
use Rattle.bundle_text.specs.declared.reason.Reason.{Reason}
use Rattle.bundle_text.specs.declared.fault.BundleFault.{BundleFault}
use Rattle.bundle_text.specs.declared.fault.BundleFault.TheVariants.{Refused}
use Rattle.bundle_text.specs.declared.reason.Reason.TheVariants.{NotUtf8, BadVersion, StrayLine}
use Rattle.bundle_sections.specs.Headers.{Said, read_header}
use Rattle.bundle_text.specs.Faults.{unless}
use Rattle.bundle_sections.specs.Sections.{SaidSection, section_at, section_of, sections_before, sections_of, text_fault, header_fault, is_passed_over, has_version, fault_at}
use Rattle.bundle_sections.specs.Reads.{Stops, AtHeader, IsNext}
use Rattle.bundle_sections.specs.Said.{said_header, said_section}
use Rattle.bundle_sections.specs.Verdict.{Tiles}
use Rattle.bundle_sections.specs.declared.section.Section.{Section}

-- a test of what each section says
pub any-map : (test : Said → Bool) (xs : List Section) → list_any (λ s. test (said_header s.header)) xs ≡ list_any test (map (λ s. s.says) (map said_section xs))
any-map test [] = refl
any-map test (x ∷ xs) = ap (λ b. test (said_header x.header) || b) (any-map test xs)

-- a line before the next header is none
pub line_between : (ls : List (List ℕ)) (from k : ℕ) → from ≤ k → k < header_from ls from → is_header (line_at ls k) ≡ false
unfolding header_from
line_between ls from k low high =
    let there : from + (k - from) ≡ k = omega arith in
    let before = fails_before_first is_header (drop from ls) (k - from) [] (omega arith) in
    rw (get_or-drop, there) at before

-- the next header is one, if it is one of the lines
pub header_there : (ls : List (List ℕ)) (from : ℕ) → header_from ls from < length ls → is_header (line_at ls (header_from ls from)) ≡ true
unfolding header_from
header_there ls from high =
    let there = passes_at_first is_header (drop from ls) [] (simp length-drop (omega arith)) in
    rw get_or-drop at there

-- a first line that states a version is there
pub version_some : (ls : List (List ℕ)) → has_version ls ≡ true → 0 < length ls
unfolding has_version
version_some [] h = absurd (cc)
version_some (x ∷ xs) h = omega arith

-- the first fault of a test stops the reading
pub stopped : (test : ℕ → Option Reason) (n place : ℕ) (reason : Reason) (fault : BundleFault) → fault ≡ Refused (place + 1) reason → place < n → KeepsBelow test place → test place ≡ Some reason → Stops test n fault
stopped test n place reason fault e within before found =
    rw e (record { place = place; first = record { within = within; before = before; found = found }; line_is = refl })

pub text_kept : (ls : List (List ℕ)) (k : ℕ) → is_utf8 (line_at ls k) ≡ true → text_fault ls k ≡ None
unfolding text_fault
text_kept ls k e = rw e

pub text_broken : (ls : List (List ℕ)) (k : ℕ) → is_utf8 (line_at ls k) ≡ false → text_fault ls k ≡ Some NotUtf8
unfolding text_fault
text_broken ls k e = rw e

pub fault_first : (ls : List (List ℕ)) → fault_at ls 0 ≡ unless (has_version ls) BadVersion
unfolding fault_at
fault_first ls = refl

-- no line below the second has a fault if the first states a version
pub version_kept : (ls : List (List ℕ)) → has_version ls ≡ true → KeepsBelow (fault_at ls) 1
version_kept ls e k below =
    let first : 0 ≡ k = omega arith in
    sym (ap (fault_at ls) first) ∙ (fault_first ls ∙ ap (λ b. unless b BadVersion) e)

pub no_version : has_version [] ≡ false
unfolding has_version
no_version = refl

pub version_broken : (ls : List (List ℕ)) → has_version ls ≡ false → fault_at ls 0 ≡ Some BadVersion
version_broken ls e = fault_first ls ∙ ap (λ b. unless b BadVersion) e

-- a line before the first header may say nothing
pub fault_before : (ls : List (List ℕ)) (k : ℕ) → 0 < k → is_header (line_at ls k) ≡ false → k < header_from ls 1 → fault_at ls k ≡ unless (is_passed_over (line_at ls k)) StrayLine
unfolding fault_at
fault_before ls k low none high = grind (arith, nat_tests)

-- a line of a section has no fault
pub fault_inside : (ls : List (List ℕ)) (k : ℕ) → 0 < k → is_header (line_at ls k) ≡ false → header_from ls 1 ≤ k → fault_at ls k ≡ None
unfolding fault_at
fault_inside ls k low none high = grind (arith, nat_tests)

-- the fault of a header
pub fault_header : (ls : List (List ℕ)) (k : ℕ) → 0 < k → is_header (line_at ls k) ≡ true → fault_at ls k ≡ header_fault (sections_before ls k) (read_header (blank_words (line_at ls k)))
unfolding fault_at
fault_header ls k low header = grind (arith, nat_tests)

-- no section begins at a line that is no header
pub section_none : (ls : List (List ℕ)) (k : ℕ) → is_header (line_at ls k) ≡ false → section_at ls k ≡ None
unfolding section_at
section_none ls k none = rw none

-- the section that begins at a header
pub section_header : (ls : List (List ℕ)) (k : ℕ) → is_header (line_at ls k) ≡ true → section_at ls k ≡ section_of ls k (read_header (blank_words (line_at ls k)))
unfolding section_at
section_header ls k header = rw header

-- one place more, at which nothing is said
said_from-none : {X : Type 0} (said : ℕ → Option X) (from count : ℕ) → said (from + count) ≡ None → said_from said from (count + 1) ≡ said_from said from count
said_from-none said from zero e =
    let same : from ≡ from + 0 = omega arith in
    ap (λ o. onto o []) (ap said same ∙ e)
said_from-none said from (suc count) e =
    let same : from + 1 + count ≡ from + suc count = omega arith in
    let next : suc count + 1 ≡ suc (count + 1) = omega arith in
    ap (said_from said from) next ∙ ap (onto (said from)) (said_from-none said (from + 1) count (ap said same ∙ e))

-- no section begins at a place
pub sections-none : (ls : List (List ℕ)) (k : ℕ) → 0 < k → section_at ls k ≡ None → sections_before ls (k + 1) ≡ sections_before ls k
unfolding sections_before
sections-none ls k low none =
    let next : k + 1 - 1 ≡ k - 1 + 1 = omega arith in
    let there : 1 + (k - 1) ≡ k = omega arith in
    ap (said_from (section_at ls) 1) next ∙ said_from-none (section_at ls) 1 (k - 1) (ap (section_at ls) there ∙ none)

-- a section begins at a place
pub sections-more : (ls : List (List ℕ)) (k : ℕ) (s : SaidSection) → 0 < k → section_at ls k ≡ Some s → sections_before ls (k + 1) ≡ sections_before ls k ++ s ∷ []
unfolding sections_before
sections-more ls k s low some =
    let next : k + 1 - 1 ≡ k - 1 + 1 = omega arith in
    let there : 1 + (k - 1) ≡ k = omega arith in
    ap (said_from (section_at ls) 1) next ∙ said_from-more (section_at ls) 1 (k - 1) s (ap (section_at ls) there ∙ some)

-- no section begins at the next lines, which are no headers
sections-still : (ls : List (List ℕ)) (from count : ℕ) → 0 < from → ((k : ℕ) → from ≤ k → k < from + count → is_header (line_at ls k) ≡ false) → sections_before ls (from + count) ≡ sections_before ls from
sections-still ls from zero low none = ap (sections_before ls) (omega arith)
sections-still ls from (suc count) low none =
    let next : from + suc count ≡ from + count + 1 = omega arith in
    ap (sections_before ls) next
    ∙ (sections-none ls (from + count) (omega arith) (section_none ls (from + count) (none (from + count) (omega arith) (omega arith)))
    ∙ sections-still ls from count low (λ k least most. none k least (omega arith)))

-- behind a header the sections stay until the next one
pub sections-until : (ls : List (List ℕ)) (from to : ℕ) → 0 < from → from ≤ to → ((k : ℕ) → from ≤ k → k < to → is_header (line_at ls k) ≡ false) → sections_before ls to ≡ sections_before ls from
sections-until ls from to low order none =
    let there : from + (to - from) ≡ to = omega arith in
    sym (ap (sections_before ls) there) ∙ sections-still ls from (to - from) low (λ k least most. none k least (omega arith))

-- no line has a fault between, so none below the later place
pub kept_until : (test : ℕ → Option Reason) (from to : ℕ) → KeepsBelow test from → ((k : ℕ) → from ≤ k → k < to → test k ≡ None) → KeepsBelow test to
kept_until test from to below between k lt = elim (cases_lt k from) [ inl before ↦ below k before | inr behind ↦ between k behind lt ]

-- a header that can't be read, or not here
pub header_broken : (ls : List (List ℕ)) (at : ℕ) (found : List SaidSection) (reason : Reason) → AtHeader ls at found → at < length ls
    → header_fault found (read_header (blank_words (line_at ls at))) ≡ Some reason → fault_at ls at ≡ Some reason
header_broken ls at found reason here within e =
    fault_header ls at here.low (here.header within) ∙ (ap (λ before. header_fault before (read_header (blank_words (line_at ls at)))) (sym here.read) ∙ e)

-- a header that stands well: the lines up to the next header have no fault
pub header_kept : (ls : List (List ℕ)) (at : ℕ) (found : List SaidSection) → AtHeader ls at found → at < length ls
    → header_fault found (read_header (blank_words (line_at ls at))) ≡ None → KeepsBelow (fault_at ls) (header_from ls (at + 1))
header_kept ls at found here within e =
    let fine : fault_at ls at ≡ None = fault_header ls at here.low (here.header within) ∙ (ap (λ before. header_fault before (read_header (blank_words (line_at ls at)))) (sym here.read) ∙ e) in
    kept_until (fault_at ls) (at + 1) (header_from ls (at + 1)) (KeepsBelow-more (fault_at ls) at here.kept fine)
    (λ k low high. fault_inside ls k (omega arith) (line_between ls (at + 1) k low high) (omega (arith, here.behind)))

-- the section of a header that can be read
header_section : (ls : List (List ℕ)) (at end : ℕ) (said : Said) → is_header (line_at ls at) ≡ true → end ≡ header_from ls (at + 1)
    → read_header (blank_words (line_at ls at)) ≡ Ok said → section_at ls at ≡ Some (record { says = said; place = at; end = end })
header_section ls at end said header e read =
    section_header ls at header ∙ (ap (section_of ls at) read ∙ ap (λ n. Some (record { says = said; place = at; end = n })) (sym e))

-- the lines behind a header and before the next one begin no section
header_sections : (ls : List (List ℕ)) (at : ℕ) (s : SaidSection) → 0 < at → section_at ls at ≡ Some s → sections_before ls (header_from ls (at + 1)) ≡ sections_before ls at ++ s ∷ []
header_sections ls at s low some =
    sections-until ls (at + 1) (header_from ls (at + 1)) (omega arith) (header_from-ge ls (at + 1)) (λ k least most. line_between ls (at + 1) k least most) ∙ sections-more ls at s low some

-- from one header to the next
at_next : (ls : List (List ℕ)) (at : ℕ) (found : List SaidSection) (s : SaidSection) → AtHeader ls at found
    → section_at ls at ≡ Some s → KeepsBelow (fault_at ls) (header_from ls (at + 1)) → header_from ls (at + 1) ≤ length ls → AtHeader ls (header_from ls (at + 1)) (found ++ s ∷ [])
at_next ls at found s here some kept bound =
    let behind : at + 1 ≤ header_from ls (at + 1) = header_from-ge ls (at + 1) in
    record {
      low = omega arith;
      high = bound;
      behind = omega (arith, here.behind);
      header = λ there. header_there ls (at + 1) there;
      kept = kept;
      read = ap (λ xs. xs ++ s ∷ []) here.read ∙ sym (header_sections ls at s here.low some);
    }

-- the section of a header that stands well, and the next header
pub header_next : (ls : List (List ℕ)) (at end : ℕ) (found : List SaidSection) (said : Said) → AtHeader ls at found → at < length ls → end ≡ header_from ls (at + 1) → end ≤ length ls
    → read_header (blank_words (line_at ls at)) ≡ Ok said → header_fault found (read_header (blank_words (line_at ls at))) ≡ None → IsNext ls at found (record { says = said; place = at; end = end })
header_next ls at end found said here within e bound read fine =
    let some = header_section ls at end said (here.header within) e read in
    let behind : at + 1 ≤ header_from ls (at + 1) = header_from-ge ls (at + 1) in
    let next = at_next ls at found (record { says = said; place = at; end = end }) here some (header_kept ls at found here within fine) (omega arith) in
    record {
      place = refl;
      longer = omega arith;
      here = subst (λ n. AtHeader ls n (found ++ (record { says = said; place = at; end = end }) ∷ [])) (sym e) next;
    }

-- there is nothing on a line past the last, and so no header
past : (ls : List (List ℕ)) → is_header (line_at ls (length ls)) ≡ false
past [] = refl
past (x ∷ xs) = past xs

-- behind the last line nothing has a fault
pub end_kept : (ls : List (List ℕ)) → 0 < length ls → header_from ls 1 ≤ length ls → KeepsBelow (fault_at ls) (length ls) → KeepsBelow (fault_at ls) (length ls + 1)
end_kept ls some bound kept =
    KeepsBelow-more (fault_at ls) (length ls) kept (fault_inside ls (length ls) some (past ls) bound)

pub sections_first : (ls : List (List ℕ)) → sections_before ls 1 ≡ []
unfolding sections_before
sections_first ls = refl

-- before the first header there are no sections
pub sections_none : (ls : List (List ℕ)) → sections_before ls (header_from ls 1) ≡ []
sections_none ls =
    sections-until ls 1 (header_from ls 1) (omega arith) (header_from-ge ls 1) (λ k low high. line_between ls 1 k low high) ∙ sections_first ls

-- at the first header, or the end
pub at_first : (ls : List (List ℕ)) (first : ℕ) → first ≡ header_from ls 1 → first ≤ length ls → KeepsBelow (fault_at ls) first → AtHeader ls first []
at_first ls first e bound kept =
    let low : 1 ≤ header_from ls 1 = header_from-ge ls 1 in
    record {
      low = omega arith;
      high = bound;
      behind = omega arith;
      header = λ there. subst (λ k. is_header (line_at ls k) ≡ true) (sym e) (header_there ls 1 (omega arith));
      kept = kept;
      read = sym (ap (sections_before ls) e ∙ sections_none ls);
    }

-- at the end all lines were read
pub at_end : (ls : List (List ℕ)) (first at : ℕ) (found : List SaidSection) → 0 < length ls → AtHeader ls at found → length ls ≤ at → Tiles first found at
    → KeepsBelow (fault_at ls) (length ls + 1) × ((found ≡ sections_of ls) × Tiles first found (length ls))
at_end ls first at found some here past tiled =
    let last : at ≡ length ls = omega (arith, here.high) in
    let kept = subst (KeepsBelow (fault_at ls)) last here.kept in
    (end_kept ls some (omega (arith, here.behind)) kept, (here.read ∙ ap (sections_before ls) last, subst (Tiles first found) last tiled))

-- one section more
pub tiles-more : (from at : ℕ) (found : List SaidSection) (s : SaidSection) → Tiles from found at → s.place ≡ at → at < s.end → Tiles from (found ++ s ∷ []) s.end
tiles-more from at [] s e place longer = (place ∙ sym e, omega arith, refl)
tiles-more from at (x ∷ xs) s tiled place longer = (tiled.0, tiled.1, tiles-more x.end at xs s tiled.2 place longer)

-- sections end no earlier than they begin
pub tiles-le : (from to : ℕ) (sections : List SaidSection) → Tiles from sections to → from ≤ to
tiles-le from to [] tiled = omega (arith, tiled)
tiles-le from to (s ∷ more) tiled = omega (arith, tiled.0, tiled.1, tiles-le s.end to more tiled.2)
