-- The headers of all sections have their form.
use Rattle.std.proofs.Common.{◌≡◌, ℕ, zero, suc, ◌+◌, ◌-◌, ◌<◌, Bool, true, false, cond, List, [], ◌∷◌, Option, Some, None, Result, Ok, Err, length, refl, ap, subst, sym, ◌∙◌, inl, inr, arith}
use Rattle.std.specs.List.{AllByRecursion}
use Rattle.std.specs.Option.{option_map}
use Rattle.std.proofs.lemmas.Bool.{cases_Bool}
use Rattle.std.proofs.lemmas.Option.{none-some}
use Rattle.bundle_text.specs.Lines.{line_at, is_header, header_from}
use Rattle.bundle_text.specs.Names.{is_driver_name}
use Rattle.bundle_text.specs.Numbers.{number_within}
use Rattle.bundle_text.proofs.Found.{all_more}
use Rattle.bundle_text.proofs.Results.{ok_same}
use Rattle.bundle_text.proofs.NumberBounds.{number_bounds}
use Rattle.bundle_text.specs.Words.{blank_words}
use Rattle.bundle_text.specs.declared.reason.Reason.{Reason}
use Rattle.bundle_sections.specs.Headers.{Said, device_tree, clocks, bank, lock, late, driver, order, alone, bank_words, driver_words, well_formed, header_of, read_header, HasForm}
use Rattle.bundle_sections.specs.Verdict.{IsSection}
use Rattle.bundle_sections.specs.Sections.{SaidSection, section_at, section_of, sections_before, sections_of}
use Rattle.bundle_sections.proofs.Places.{section_none, section_header, sections-none, sections-more, sections_first}

abbrev Forms : Result Said Reason → Type 0
Forms read = (said : Said) → read ≡ Ok said → HasForm said

either : (test : Bool) (x y : Result Said Reason) → Forms x → Forms y → Forms (cond test x y)
either true x y one other = one
either false x y one other = other

refused : (reason : Reason) → Forms (Err reason)
refused reason said h = absurd (cc)

formed : (said : Said) → HasForm said → Forms (Ok said)
formed said form other h = subst HasForm (ok_same said other (Ok said) refl h) form

alone_forms : (said : Said) (more : List (List ℕ)) → HasForm said → Forms (well_formed (alone said more))
alone_forms said [] form = formed said form
alone_forms said (word ∷ more) form = refused _

bank_forms : (more : List (List ℕ)) → Forms (well_formed (bank_words more))
unfolding bank_words
bank_forms [] = refused _
bank_forms (word ∷ []) =
    elim (number_within 1 65536 word) as (λ o. number_within 1 65536 word ≡ o → Forms (well_formed (option_map bank o))) [
      | None ↦ λ e. refused _
      | Some n ↦ λ e. (let bounds = number_bounds 1 65536 word n e in formed (bank n) (omega (arith, bounds.0), bounds.1))
    ] refl
bank_forms (word ∷ (next ∷ more)) = refused _

named : (name : List ℕ) (path : Option (List ℕ)) (b : Bool) → is_driver_name name ≡ b → Forms (well_formed (cond b (Some (driver name path)) None))
named name path true e = formed (driver name path) e
named name path false e = refused _

driver_forms : (more : List (List ℕ)) → Forms (well_formed (driver_words more))
unfolding driver_words
driver_forms [] = refused _
driver_forms (name ∷ []) = named name None _ refl
driver_forms (name ∷ (path ∷ [])) = named name (Some path) _ refl
driver_forms (name ∷ (path ∷ (next ∷ more))) = refused _

header_forms : (first : List ℕ) (more : List (List ℕ)) → Forms (header_of first more)
unfolding header_of
header_forms first more =
    either _ _ _ (alone_forms device_tree more tt)
    (either _ _ _ (alone_forms clocks more tt)
    (either _ _ _ (bank_forms more)
    (either _ _ _ (alone_forms lock more tt)
    (either _ _ _ (alone_forms late more tt)
    (either _ _ _ (driver_forms more)
    (either _ _ _ (alone_forms order more tt) (refused _)))))))

-- what a header says has its form
pub read_forms : (words : List (List ℕ)) → Forms (read_header words)
unfolding read_header
read_forms [] = refused _
read_forms (first ∷ more) = header_forms first more

form_of : (ls : List (List ℕ)) (k : ℕ) (read : Result Said Reason) (s : SaidSection) → Forms read → section_of ls k read ≡ Some s → HasForm s.says
form_of ls k (Ok said) s forms h =
    let same : said ≡ s.says = cc in
    subst HasForm same (forms said refl)
form_of ls k (Err reason) s forms h = absurd (cc)

place_of : (ls : List (List ℕ)) (k : ℕ) (read : Result Said Reason) (s : SaidSection) → section_of ls k read ≡ Some s → (s.place ≡ k) × (s.end ≡ header_from ls (k + 1))
place_of ls k (Ok said) s h = (cc, cc)
place_of ls k (Err reason) s h = absurd (cc)

-- a section begins at a header
pub header_of_section : (ls : List (List ℕ)) (k : ℕ) (s : SaidSection) → section_at ls k ≡ Some s → is_header (line_at ls k) ≡ true
header_of_section ls k s h =
    elim (cases_Bool (is_header (line_at ls k))) [ inl header ↦ header | inr none ↦ absurd (none-some s (sym (section_none ls k none) ∙ h)) ]

-- it has the header's place, and ends at the next header
pub bounds_of_section : (ls : List (List ℕ)) (k : ℕ) (s : SaidSection) → section_at ls k ≡ Some s → (s.place ≡ k) × (s.end ≡ header_from ls (k + 1))
bounds_of_section ls k s h = place_of ls k _ s (sym (section_header ls k (header_of_section ls k s h)) ∙ h)

section_formed : (ls : List (List ℕ)) (k : ℕ) (s : SaidSection) → section_at ls k ≡ Some s → IsSection ls s
section_formed ls k s h =
    record {
      begins = ap (section_at ls) (bounds_of_section ls k s h).0 ∙ h;
      form = form_of ls k _ s (read_forms (blank_words (line_at ls k))) (sym (section_header ls k (header_of_section ls k s h)) ∙ h);
    }

formed_behind : (ls : List (List ℕ)) (count : ℕ) → AllByRecursion (IsSection ls) (sections_before ls (count + 1))
formed_behind ls zero = subst (AllByRecursion (IsSection ls)) (sym (sections_first ls)) tt
formed_behind ls (suc count) =
    let next : count + 1 + 1 ≡ suc count + 1 = omega arith in
    subst (λ n. AllByRecursion (IsSection ls) (sections_before ls n)) next (elim (section_at ls (count + 1)) as (λ o. section_at ls (count + 1) ≡ o → AllByRecursion (IsSection ls) (sections_before ls (count + 1 + 1))) [
      | None ↦ λ e. subst (AllByRecursion (IsSection ls)) (sym (sections-none ls (count + 1) (omega arith) e)) (formed_behind ls count)
      | Some s ↦ λ e. subst (AllByRecursion (IsSection ls)) (sym (sections-more ls (count + 1) s (omega arith) e)) (all_more (IsSection ls) (sections_before ls (count + 1)) s (formed_behind ls count) (section_formed ls (count + 1) s e))
    ] refl)

-- each section is the one that begins at its place
pub all_formed : (ls : List (List ℕ)) (sections : List SaidSection) → 0 < length ls → sections_of ls ≡ sections → AllByRecursion (IsSection ls) sections
all_formed ls sections some e =
    let count : length ls - 1 + 1 ≡ length ls = omega arith in
    subst (AllByRecursion (IsSection ls)) (ap (sections_before ls) count ∙ e) (formed_behind ls (length ls - 1))
