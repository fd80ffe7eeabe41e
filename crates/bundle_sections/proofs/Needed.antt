-- The sections that must be there are the first two.
use Rattle.std.proofs.Common.{◌≡◌, ℕ, zero, suc, ◌+◌, ◌-◌, ◌<◌, ◌≤◌, ◌||◌, Bool, true, false, cond, List, [], ◌∷◌, ◌++◌, Option, Some, None, Result, Ok, Err, length, map, refl, ap, subst, sym, ◌∙◌, inl, inr, arith}
use Rattle.std.specs.List.{list_any, AllByRecursion}
use Rattle.std.specs.Option.{option_map, option_and_then}
use Rattle.std.proofs.lemmas.Bool.{cases_Bool}
use Rattle.std.proofs.lemmas.Bool.Decides.{nat_tests}
use Rattle.std.proofs.lemmas.Option.{none-some, same_Some}
use Rattle.bundle_text.proofs.Found.{all_more}
use Rattle.bundle_text.specs.Firsts.{KeepsBelow}
use Rattle.bundle_text.specs.Lines.{line_at, is_header}
use Rattle.bundle_text.specs.Words.{blank_words}
use Rattle.bundle_text.specs.declared.reason.Reason.{Reason}
use Rattle.bundle_text.specs.declared.reason.Reason.TheVariants.{BadVersion, SectionOrder}
use Rattle.bundle_sections.specs.declared.section.BankSection.{BankSection}
use Rattle.bundle_sections.specs.declared.section.ClockSection.{ClockSection}
use Rattle.bundle_sections.specs.declared.section.ClockText.TheVariants.{Lines, DeviceTree}
use Rattle.bundle_sections.specs.Headers.{Said, device_tree, clocks, bank, lock, late, driver, order, rank, is_driver, is_clocks, is_bank, cannot_follow, order_fault, read_header}
use Rattle.bundle_sections.specs.Reads.{clock_part, bank_part, first_parts, parts_of}
use Rattle.bundle_sections.specs.Said.{Parts, clock_section, bank_section, in_order}
use Rattle.bundle_sections.specs.Sections.{SaidSection, section_at, section_of, sections_before, sections_of, header_fault, fault_at, has_needed}
use Rattle.bundle_sections.proofs.Places.{fault_header, section_none, section_header, sections-none, sections-more, sections_first, version_broken, no_version}

-- the section may follow the earlier one
abbrev Follows : SaidSection → SaidSection → Type 0
Follows earlier later = cannot_follow later.says earlier.says ≡ false

-- each section may follow all before it
abbrev Ordered : List SaidSection → Type 0
Ordered [] = Unit {0}
Ordered (x ∷ xs) = AllByRecursion (Follows x) xs × Ordered xs

or_left : (a b : Bool) → a || b ≡ false → a ≡ false
or_left a b h = grind (arith, nat_tests)

or_right : (a b : Bool) → a || b ≡ false → b ≡ false
or_right a b h = grind (arith, nat_tests)

ordered_more : (xs : List SaidSection) (s : SaidSection) → Ordered xs → list_any (cannot_follow s.says) (map (λ x. x.says) xs) ≡ false → Ordered (xs ++ s ∷ [])
ordered_more [] s all none = (tt, tt)
ordered_more (x ∷ xs) s all none =
    (all_more (Follows x) xs s all.0 (or_left _ _ none), ordered_more xs s all.1 (or_right _ _ none))

order_kept : (before : List Said) (said : Said) → order_fault before said ≡ None → list_any (cannot_follow said) before ≡ false
unfolding order_fault
order_kept before said h =
    elim (list_any (cannot_follow said) before) as (λ b. (o : Option Reason) → cond b (Some SectionOrder) o ≡ None → b ≡ false) [ true ↦ λ o e. absurd (cc) | false ↦ λ o e. refl ] _ h

-- a header without a fault may follow the earlier ones
read_follows : (ls : List (List ℕ)) (k : ℕ) (before : List SaidSection) (read : Result Said Reason) (s : SaidSection)
    → section_of ls k read ≡ Some s → header_fault before read ≡ None → list_any (cannot_follow s.says) (map (λ x. x.says) before) ≡ false
read_follows ls k before (Ok said) s e fine =
    let same : said ≡ s.says = cc in
    subst (λ h. list_any (cannot_follow h) (map (λ x. x.says) before) ≡ false) same (order_kept _ said fine)
read_follows ls k before (Err reason) s e fine = absurd (cc)

section_follows : (ls : List (List ℕ)) (k : ℕ) (s : SaidSection) → 0 < k → section_at ls k ≡ Some s → fault_at ls k ≡ None → list_any (cannot_follow s.says) (map (λ x. x.says) (sections_before ls k)) ≡ false
section_follows ls k s low some fine =
    elim (cases_Bool (is_header (line_at ls k))) [
      | inl header ↦
          read_follows ls k (sections_before ls k) (read_header (blank_words (line_at ls k))) s (sym (section_header ls k header) ∙ some) (sym (fault_header ls k low header) ∙ fine)
      | inr none ↦ absurd (none-some s (sym (section_none ls k none) ∙ some))
    ]

-- the sections before a place, where no line has a fault
pub ordered_behind : (ls : List (List ℕ)) (count : ℕ) → KeepsBelow (fault_at ls) (count + 1) → Ordered (sections_before ls (count + 1))
ordered_behind ls zero kept = subst Ordered (sym (sections_first ls)) tt
ordered_behind ls (suc count) kept =
    let before = ordered_behind ls count (λ k lt. kept k (omega arith)) in
    let next : count + 1 + 1 ≡ suc count + 1 = omega arith in
    subst (λ n. Ordered (sections_before ls n)) next (elim (section_at ls (count + 1)) as (λ o. section_at ls (count + 1) ≡ o → Ordered (sections_before ls (count + 1 + 1))) [
      | None ↦ λ e. subst Ordered (sym (sections-none ls (count + 1) (omega arith) e)) before
      | Some s ↦ λ e.
          subst Ordered (sym (sections-more ls (count + 1) s (omega arith) e))
          (ordered_more (sections_before ls (count + 1)) s before (section_follows ls (count + 1) s (omega arith) e (kept (count + 1) (omega arith))))
    ] refl)

follows_le : (said earlier : Said) → cannot_follow said earlier ≡ false → rank earlier ≤ rank said
unfolding cannot_follow
follows_le said earlier h = grind (arith, nat_tests)

follows_lt : (said earlier : Said) → cannot_follow said earlier ≡ false → is_driver said ≡ false → rank earlier < rank said
unfolding cannot_follow
follows_lt said earlier h none = grind (arith, nat_tests)

rank_some : (said : Said) → is_clocks said ≡ false → 0 < rank said
rank_some device_tree h = absurd (cc)
rank_some clocks h = absurd (cc)
rank_some (bank words) h = omega arith
rank_some lock h = omega arith
rank_some late h = omega arith
rank_some (driver name path) h = omega arith
rank_some order h = omega arith

rank_more : (said : Said) → is_clocks said ≡ false → is_bank said ≡ false → 1 < rank said
rank_more device_tree h g = absurd (cc)
rank_more clocks h g = absurd (cc)
rank_more (bank words) h g = absurd (cc)
rank_more lock h g = omega arith
rank_more late h g = omega arith
rank_more (driver name path) h g = omega arith
rank_more order h g = omega arith

-- behind a section that isn't the clocks' the clocks' can't stand
no_clocks_behind : (earlier later : Said) → is_clocks earlier ≡ false → cannot_follow later earlier ≡ false → is_clocks later ≡ false
no_clocks_behind earlier device_tree none h = absurd (omega (arith, rank_some earlier none, follows_le device_tree earlier h))
no_clocks_behind earlier clocks none h = absurd (omega (arith, rank_some earlier none, follows_le clocks earlier h))
no_clocks_behind earlier _ none h = refl

-- nor behind the clocks' themselves
no_clocks_again : (earlier later : Said) → cannot_follow later earlier ≡ false → is_clocks later ≡ false
no_clocks_again earlier device_tree h = absurd (omega (arith, follows_lt device_tree earlier h refl))
no_clocks_again earlier clocks h = absurd (omega (arith, follows_lt clocks earlier h refl))
no_clocks_again earlier _ h = refl

-- behind a later section the bank's can't stand
no_bank_behind : (earlier later : Said) → 1 < rank earlier → cannot_follow later earlier ≡ false → is_bank later ≡ false
no_bank_behind earlier (bank words) high h = absurd (omega (arith, follows_le (bank words) earlier h))
no_bank_behind earlier _ high h = refl

none_of : (test : Said → Bool) (P : SaidSection → Type 0) (xs : List SaidSection) → ((s : SaidSection) → P s → test s.says ≡ false) → AllByRecursion P xs → list_any (λ s. test s.says) xs ≡ false
none_of test P [] each all = refl
none_of test P (x ∷ xs) each all = rw (each x all.0) (none_of test P xs each all.1)

clocks_no_bank : (said : Said) → is_clocks said ≡ true → is_bank said ≡ false
clocks_no_bank device_tree h = refl
clocks_no_bank clocks h = refl
clocks_no_bank (bank words) h = absurd (cc)
clocks_no_bank _ h = refl

mapped_none : {X Y : Type 0} (f : X → Y) (o : Option X) → option_map f o ≡ None → o ≡ None
mapped_none f None h = refl
mapped_none f (Some x) h = absurd (cc)

-- parts are those that their sections begin with
pub parts_back : (parts : Parts) → parts_of (in_order parts) ≡ Some parts
parts_back parts =
    elim parts.clocks.text as (λ t. parts_of (in_order (record parts { clocks = record { text = t; place = parts.clocks.place; end = parts.clocks.end } }))
    ≡ Some (record parts { clocks = record { text = t; place = parts.clocks.place; end = parts.clocks.end } })) [ Lines ↦ refl | DeviceTree ↦ refl ]

clock_found : (place end : ℕ) (said : Said) (c : ClockSection) → clock_part place end said ≡ Some c → (record { says = said; place = place; end = end }) ≡ clock_section c
clock_found place end device_tree c h = ap clock_section (same_Some _ c h)
clock_found place end clocks c h = ap clock_section (same_Some _ c h)
clock_found place end (bank words) c h = absurd (cc)
clock_found place end lock c h = absurd (cc)
clock_found place end late c h = absurd (cc)
clock_found place end (driver name path) c h = absurd (cc)
clock_found place end order c h = absurd (cc)

bank_found : (place end : ℕ) (said : Said) (b : BankSection) → bank_part place end said ≡ Some b → (record { says = said; place = place; end = end }) ≡ bank_section b
bank_found place end (bank words) b h = ap bank_section (same_Some _ b h)
bank_found place end device_tree b h = absurd (cc)
bank_found place end clocks b h = absurd (cc)
bank_found place end lock b h = absurd (cc)
bank_found place end late b h = absurd (cc)
bank_found place end (driver name path) b h = absurd (cc)
bank_found place end order b h = absurd (cc)

two_found : (a b : SaidSection) (rest : List SaidSection) (c : Option ClockSection) (d : Option BankSection) (parts : Parts)
    → clock_part a.place a.end a.says ≡ c → bank_part b.place b.end b.says ≡ d
    → option_map (λ (p : ClockSection × BankSection). record { clocks = p.0; bank = p.1; others = rest }) (option_and_then (λ x. option_map (λ y. (x, y)) d) c) ≡ Some parts
    → a ∷ (b ∷ rest) ≡ in_order parts
two_found a b rest None d parts e f h = absurd (cc)
two_found a b rest (Some c) None parts e f h = absurd (cc)
two_found a b rest (Some c) (Some d) parts e f h =
    let one : a ≡ clock_section c = clock_found a.place a.end a.says c e in
    let two : b ≡ bank_section d = bank_found b.place b.end b.says d f in
    ap (λ x. x ∷ (b ∷ rest)) one ∙ (ap (λ x. clock_section c ∷ (x ∷ rest)) two ∙ ap in_order (same_Some _ parts h))

-- sections that begin with parts are these
pub parts_found : (xs : List SaidSection) (parts : Parts) → parts_of xs ≡ Some parts → xs ≡ in_order parts
parts_found [] parts h = absurd (cc)
parts_found (a ∷ []) parts h = absurd (cc)
parts_found (a ∷ (b ∷ rest)) parts h = two_found a b rest _ _ parts refl refl h

-- without the clocks' section in front there is none
lacks_clocks : (a : SaidSection) (rest : List SaidSection) → Ordered (a ∷ rest) → is_clocks a.says ≡ false → has_needed (a ∷ rest) ≡ false
lacks_clocks a rest all none =
    let behind = none_of is_clocks (Follows a) rest (λ s h. no_clocks_behind a.says s.says none h) all.0 in
    rw (none, behind) refl

-- without the bank's section behind it there is none
lacks_bank : (a b : SaidSection) (rest : List SaidSection) → Ordered (a ∷ (b ∷ rest)) → is_clocks a.says ≡ true → is_bank b.says ≡ false → has_needed (a ∷ (b ∷ rest)) ≡ false
lacks_bank a b rest all first none =
    let high = rank_more b.says (no_clocks_again a.says b.says all.0.0) none in
    let behind = none_of is_bank (Follows b) rest (λ s h. no_bank_behind b.says s.says high h) all.1.0 in
    rw (first, clocks_no_bank a.says first, none, behind) refl

lacks_all : (a : SaidSection) → is_clocks a.says ≡ true → has_needed (a ∷ []) ≡ false
lacks_all a first = rw (first, clocks_no_bank a.says first) refl

clock_part-some : (place end : ℕ) (said : Said) → is_clocks said ≡ true → (c : ClockSection) × (clock_part place end said ≡ Some c)
clock_part-some place end device_tree h = (record { text = DeviceTree; place = place; end = end }, refl)
clock_part-some place end clocks h = (record { text = Lines; place = place; end = end }, refl)
clock_part-some place end (bank words) h = absurd (cc)
clock_part-some place end lock h = absurd (cc)
clock_part-some place end late h = absurd (cc)
clock_part-some place end (driver name path) h = absurd (cc)
clock_part-some place end order h = absurd (cc)

bank_part-some : (place end : ℕ) (said : Said) → is_bank said ≡ true → (b : BankSection) × (bank_part place end said ≡ Some b)
bank_part-some place end (bank words) h = (record { words = words; place = place; end = end }, refl)
bank_part-some place end device_tree h = absurd (cc)
bank_part-some place end clocks h = absurd (cc)
bank_part-some place end lock h = absurd (cc)
bank_part-some place end late h = absurd (cc)
bank_part-some place end (driver name path) h = absurd (cc)
bank_part-some place end order h = absurd (cc)

-- the clocks' section and the bank's are the first two
first_two : (a b : SaidSection) (rest : List SaidSection) → is_clocks a.says ≡ true → is_bank b.says ≡ true → first_parts (a ∷ (b ∷ rest)) ≡ None → ⊥
first_two a b rest one two none =
    let c = clock_part-some a.place a.end a.says one in
    let d = bank_part-some b.place b.end b.says two in
    none-some (c.0, d.0) (rw (c.1, d.1) at (sym none))

-- where the first two sections aren't those that must be there, one of these is missing
pub parts_missing : (xs : List SaidSection) → Ordered xs → first_parts xs ≡ None → has_needed xs ≡ false
parts_missing [] all none = refl
parts_missing (a ∷ []) all none = elim (cases_Bool (is_clocks a.says)) [ inl first ↦ lacks_all a first | inr other ↦ lacks_clocks a [] all other ]
parts_missing (a ∷ (b ∷ rest)) all none =
    elim (cases_Bool (is_clocks a.says)) [
      | inl first ↦
          elim (cases_Bool (is_bank b.says)) [
            | inl second ↦ absurd (first_two a b rest first second none)
            | inr other ↦ lacks_bank a b rest all first other
          ]
      | inr other ↦ lacks_clocks a (b ∷ rest) all other
    ]

-- lines without a fault are some
some_lines : (ls : List (List ℕ)) → KeepsBelow (fault_at ls) (length ls + 1) → 0 < length ls
some_lines [] kept = absurd (none-some BadVersion (sym (kept 0 (omega arith)) ∙ version_broken [] (no_version)))
some_lines (x ∷ xs) kept = omega arith

-- lines without a fault whose first two sections aren't those that must be there lack one of these
pub missing : (ls : List (List ℕ)) → KeepsBelow (fault_at ls) (length ls + 1) → parts_of (sections_of ls) ≡ None → has_needed (sections_of ls) ≡ false
missing ls kept none =
    let some = some_lines ls kept in
    let count : length ls - 1 + 1 ≡ length ls = omega arith in
    let ordered = ordered_behind ls (length ls - 1) (λ k lt. kept k (omega arith)) in
    parts_missing (sections_of ls) (subst (λ n. Ordered (sections_before ls n)) count ordered) (mapped_none _ _ none)

-- the parts have what is needed
pub needed_there : (parts : Parts) → has_needed (in_order parts) ≡ true
needed_there parts = elim parts.clocks.text as (λ t. has_needed (in_order (record parts { clocks = record { text = t; place = parts.clocks.place; end = parts.clocks.end } })) ≡ true) [ Lines ↦ refl | DeviceTree ↦ refl ]
