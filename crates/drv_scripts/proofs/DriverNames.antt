-- Each driver has a driver's name, and no two have the same.
use Rattle.std.proofs.Common.{◌≡◌, ℕ, zero, suc, ◌+◌, ◌-◌, ◌<◌, ◌||◌, ◌++◌, Bool, true, false, cond, List, [], ◌∷◌, map, length, Option, Some, None, Result, Ok, Err, refl, ap, sym, subst, ◌∙◌, inl, inr, arith}
use Rattle.std.specs.List.{AllByRecursion, IsDistinct, flat_map, list_any}
use Rattle.std.specs.Bool.{one_answer}
use Rattle.std.specs.Cmp.{IsEquivalence}
use Rattle.std.specs.Str.{bytes_eq}
use Rattle.std.proofs.lemmas.Bool.{cases_Bool}
use Rattle.std.proofs.lemmas.List.{append-nil, map-append}
use Rattle.std.proofs.lemmas.Slice.Eq.{bytes_eq-Decides}
use Rattle.std.proofs.lemmas.Grind.{flat_map-append}
use Rattle.std.proofs.lemmas.Map.Keys.{IsDistinct-push}
use Rattle.std.proofs.lemmas.Option.{none-some}
use Rattle.bundle_text.specs.Firsts.{KeepsBelow}
use Rattle.bundle_text.specs.Lines.{line_at, is_header}
use Rattle.bundle_text.specs.Names.{is_driver_name}
use Rattle.bundle_text.specs.Words.{blank_words}
use Rattle.bundle_text.specs.declared.reason.Reason.{Reason}
use Rattle.bundle_text.specs.declared.reason.Reason.TheVariants.{SectionOrder, TwiceDefined}
use Rattle.bundle_sections.specs.Headers.{Said, HasForm, device_tree, clocks, bank, lock, late, driver, order, same_driver, cannot_follow, read_header, order_fault}
use Rattle.bundle_sections.specs.declared.section.ClockText.TheVariants.{Lines, DeviceTree}
use Rattle.bundle_sections.specs.Said.{Parts, clocks_said, in_order}
use Rattle.bundle_sections.specs.Sections.{SaidSection, section_of, section_at, sections_before, header_fault, fault_at}
use Rattle.bundle_sections.specs.Verdict.{Accepts, IsSection}
use Rattle.bundle_sections.proofs.Places.{fault_header, section_none, section_header, sections-none, sections-more, sections_first}
use Rattle.drv_scripts.specs.declared.bundle.Script.{Script}
use Rattle.drv_scripts.specs.Sections.{Around, name_in, driver_names, scripts_between, scripts_in}

-- ## Names that are equal

bytes_equal : IsEquivalence bytes_eq
bytes_equal = record {
  refl = λ x. (bytes_eq-Decides x x).1 refl;
  symm = λ x y. one_answer (bytes_eq x y) (bytes_eq y x) (bytes_eq-Decides x y) (λ e. sym ((bytes_eq-Decides y x).0 e), λ e. (bytes_eq-Decides y x).1 (sym e));
  congr = λ x y z e. ap (λ w. bytes_eq w z) ((bytes_eq-Decides x y).0 e);
}

-- ## Each name is a driver's

between_named : (a : Around) (s : SaidSection) (first end : ℕ) (rest : List Script) (ls : List (List ℕ)) → IsSection ls s → AllByRecursion (λ (x : Script). is_driver_name x.name ≡ true) rest
    → AllByRecursion (λ (x : Script). is_driver_name x.name ≡ true) (scripts_between a s.says first end ++ rest)
unfolding scripts_between
between_named a s first end rest ls is named = by_says s.says is.form where
  by_says : (says : Said) → HasForm says → AllByRecursion (λ (x : Script). is_driver_name x.name ≡ true) (scripts_between a says first end ++ rest)
  by_says (driver name path) form = (form, named)
  by_says device_tree form = named
  by_says clocks form = named
  by_says (bank words) form = named
  by_says lock form = named
  by_says late form = named
  by_says order form = named

pub scripts_named : (a : Around) (ls : List (List ℕ)) (sections : List SaidSection) → AllByRecursion (IsSection ls) sections
    → AllByRecursion (λ (x : Script). is_driver_name x.name ≡ true) (flat_map (scripts_in a) sections)
scripts_named a ls [] each = tt
scripts_named a ls (s ∷ more) each = between_named a s (s.place + 1) s.end (flat_map (scripts_in a) more) ls each.0 (scripts_named a ls more each.1)

-- ## No two are the same

-- a test that fails, before another one
fails_both : (a b : Bool) → (a || b) ≡ false → (a ≡ false) × (b ≡ false)
fails_both true b e = absurd (cc)
fails_both false b e = (refl, e)

neither : (a b : Bool) → a ≡ false → b ≡ false → (a || b) ≡ false
neither a b e f = rw (e, f) refl

no_fault : (b : Bool) (reason : Reason) (o : Option Reason) → cond b (Some reason) o ≡ None → (b ≡ false) × (o ≡ None)
no_fault true reason o h = absurd (none-some reason (sym h))
no_fault false reason o h = (refl, h)

-- if no earlier header names the driver, no earlier driver has the name
says_fresh : (name : List ℕ) (path : Option (List ℕ)) (says : Said) (rest : List (List ℕ)) → same_driver (driver name path) says ≡ false → list_any (bytes_eq name) rest ≡ false
    → list_any (bytes_eq name) (name_in says ++ rest) ≡ false
says_fresh name path (driver other way) rest apart fresh = neither (bytes_eq name other) (list_any (bytes_eq name) rest) apart fresh
says_fresh name path device_tree rest apart fresh = fresh
says_fresh name path clocks rest apart fresh = fresh
says_fresh name path (bank words) rest apart fresh = fresh
says_fresh name path lock rest apart fresh = fresh
says_fresh name path late rest apart fresh = fresh
says_fresh name path order rest apart fresh = fresh

names_fresh : (name : List ℕ) (path : Option (List ℕ)) (before : List SaidSection) → list_any (same_driver (driver name path)) (map (λ (s : SaidSection). s.says) before) ≡ false
    → list_any (bytes_eq name) (driver_names before) ≡ false
names_fresh name path [] apart = refl
names_fresh name path (s ∷ more) apart =
    let both = fails_both (same_driver (driver name path) s.says) (list_any (same_driver (driver name path)) (map (λ (x : SaidSection). x.says) more)) apart in
    says_fresh name path s.says (driver_names more) both.0 (names_fresh name path more both.1)

-- a header without a fault keeps names apart
placed_apart : (before : List SaidSection) (says : Said) → IsDistinct bytes_eq (driver_names before) → list_any (same_driver says) (map (λ (s : SaidSection). s.says) before) ≡ false
    → IsDistinct bytes_eq (driver_names before ++ name_in says)
placed_apart before (driver name path) distinct apart = IsDistinct-push bytes_equal (driver_names before) name distinct (names_fresh name path before apart)
placed_apart before device_tree distinct apart = subst (IsDistinct bytes_eq) (sym (append-nil (driver_names before))) distinct
placed_apart before clocks distinct apart = subst (IsDistinct bytes_eq) (sym (append-nil (driver_names before))) distinct
placed_apart before (bank words) distinct apart = subst (IsDistinct bytes_eq) (sym (append-nil (driver_names before))) distinct
placed_apart before lock distinct apart = subst (IsDistinct bytes_eq) (sym (append-nil (driver_names before))) distinct
placed_apart before late distinct apart = subst (IsDistinct bytes_eq) (sym (append-nil (driver_names before))) distinct
placed_apart before order distinct apart = subst (IsDistinct bytes_eq) (sym (append-nil (driver_names before))) distinct

order_apart : (before : List Said) (says : Said) → order_fault before says ≡ None → list_any (same_driver says) before ≡ false
unfolding order_fault
order_apart before says none =
    let placed = no_fault (list_any (cannot_follow says) before) SectionOrder _ none in
    (no_fault (list_any (same_driver says) before) TwiceDefined _ placed.1).0

headed : (ls : List (List ℕ)) (k : ℕ) (r : Result Said Reason) → 0 < k → IsDistinct bytes_eq (driver_names (sections_before ls k)) → section_at ls k ≡ section_of ls k r
    → header_fault (sections_before ls k) r ≡ None → IsDistinct bytes_eq (driver_names (sections_before ls (k + 1)))
headed ls k (Err reason) low distinct here none = absurd (none-some reason (sym none))
headed ls k (Ok says) low distinct here none =
    let before = sections_before ls k in
    let all = sections-more ls k _ low here in
    subst (λ xs. IsDistinct bytes_eq (driver_names xs)) (sym all)
    (subst (IsDistinct bytes_eq) (sym (flat_map-append (λ (s : SaidSection). name_in s.says) before _ ∙ ap (λ xs. driver_names before ++ xs) (append-nil (name_in says))))
    (placed_apart before says distinct (order_apart (map (λ (s : SaidSection). s.says) before) says none)))

line_apart : (ls : List (List ℕ)) (k : ℕ) → 0 < k → IsDistinct bytes_eq (driver_names (sections_before ls k)) → fault_at ls k ≡ None → IsDistinct bytes_eq (driver_names (sections_before ls (k + 1)))
line_apart ls k low distinct none =
    elim (cases_Bool (is_header (line_at ls k))) [
      | inl header ↦ headed ls k (read_header (blank_words (line_at ls k))) low distinct (section_header ls k header) (sym (fault_header ls k low header) ∙ none)
      | inr other ↦ subst (λ xs. IsDistinct bytes_eq (driver_names xs)) (sym (sections-none ls k low (section_none ls k other))) distinct
    ]

apart_before : (ls : List (List ℕ)) (n : ℕ) → KeepsBelow (fault_at ls) (n + 1) → IsDistinct bytes_eq (driver_names (sections_before ls (n + 1)))
unfolding IsDistinct
apart_before ls zero kept = subst (λ xs. IsDistinct bytes_eq (driver_names xs)) (sym (sections_first ls)) tt
apart_before ls (suc n) kept =
    let next : n + 1 + 1 ≡ suc n + 1 = omega arith in
    subst (λ k. IsDistinct bytes_eq (driver_names (sections_before ls k))) next
    (line_apart ls (n + 1) (omega arith) (apart_before ls n (λ j lt. kept j (omega arith))) (kept (n + 1) (omega arith)))

apart_at : (ls : List (List ℕ)) (n : ℕ) → 0 < n → KeepsBelow (fault_at ls) n → IsDistinct bytes_eq (driver_names (sections_before ls n))
apart_at ls n some kept =
    let same : n - 1 + 1 ≡ n = omega arith in
    subst (λ k. IsDistinct bytes_eq (driver_names (sections_before ls k))) same (apart_before ls (n - 1) (subst (KeepsBelow (fault_at ls)) (sym same) kept))

-- the first two sections are no drivers'
clocks_unnamed : (parts : Parts) → driver_names (in_order parts) ≡ driver_names parts.others
clocks_unnamed parts =
    let rest = driver_names parts.others in
    elim parts.clocks.text as (λ text. name_in (clocks_said text) ++ rest ≡ rest) [
      | Lines ↦ refl
      | DeviceTree ↦ refl
    ]

-- the names of scripts are those of their headers
between_names : (a : Around) (says : Said) (first end : ℕ) → map (λ (x : Script). x.name) (scripts_between a says first end) ≡ name_in says
unfolding scripts_between
between_names a (driver name path) first end = refl
between_names a device_tree first end = refl
between_names a clocks first end = refl
between_names a (bank words) first end = refl
between_names a lock first end = refl
between_names a late first end = refl
between_names a order first end = refl

pub names_of_scripts : (a : Around) (sections : List SaidSection) → map (λ (x : Script). x.name) (flat_map (scripts_in a) sections) ≡ driver_names sections
names_of_scripts a [] = refl
names_of_scripts a (s ∷ more) =
    map-append (λ (x : Script). x.name) (scripts_in a s) (flat_map (scripts_in a) more)
    ∙ (ap (λ xs. xs ++ map (λ (x : Script). x.name) (flat_map (scripts_in a) more)) (between_names a s.says (s.place + 1) s.end) ∙ ap (λ xs. name_in s.says ++ xs) (names_of_scripts a more))

-- the drivers of a bundle that is read
pub scripts_apart : (a : Around) (ls : List (List ℕ)) (parts : Parts) → 0 < length ls → Accepts ls parts → IsDistinct bytes_eq (map (λ (x : Script). x.name) (flat_map (scripts_in a) parts.others))
scripts_apart a ls parts some accepts =
    let apart = apart_at ls (length ls) some (λ k lt. accepts.placed k (omega arith)) in
    subst (IsDistinct bytes_eq) (ap driver_names accepts.sections ∙ (clocks_unnamed parts ∙ sym (names_of_scripts a parts.others))) apart
