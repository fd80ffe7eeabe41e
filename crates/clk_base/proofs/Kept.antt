-- Rules that are kept one after the other: when all are, the description is valid, and where the
-- next isn't, it is the first that is broken.
use Rattle.std.proofs.Common.{◌≡◌, ℕ, ◌+◌, ◌<◌, refl, sym, ap, ◌∙◌, subst, inl, inr, arith}
use Rattle.std.specs.Prelude.{◌==◌, nat_lt, IsTrue, if◌then◌else◌}
use Rattle.std.proofs.lemmas.Bool.{false≢true, cases_lt, ltb-true, lt-ltb}
use Rattle.clk_base.specs.Description.{Description, EachClock, HasDistinctNames, IsFirstFailing}
use Rattle.clk_base.specs.Valid.{Rule, counts, ranges, bank, apart, acyclic, levels, bounded, keeps, number, has_its_parents, IsValid, IsFirstBroken}

-- each clock keeps the rules whose numbers are below this one
abbrev pub KeepsBelow : ℕ → Description → ℕ → Type 0
KeepsBelow words defs n = (r : Rule) → IsTrue (nat_lt (number r) n) → EachClock defs (keeps r words defs)

-- the rule of a number
abbrev rule_of : ℕ → Rule
rule_of n =
    if n == 1 then counts
    else if n == 2 then ranges
    else if n == 3 then bank
    else if n == 4 then apart
    else if n == 5 then acyclic
    else if n == 6 then levels
    else bounded

pub rule_of-number : (r : Rule) → rule_of (number r) ≡ r
rule_of-number counts = refl
rule_of-number ranges = refl
rule_of-number bank = refl
rule_of-number apart = refl
rule_of-number acyclic = refl
rule_of-number levels = refl
rule_of-number bounded = refl

-- no rule comes before the first
pub keeps_none : (words : ℕ) (defs : Description) → KeepsBelow words defs 1
keeps_none words defs counts h = absurd (false≢true h)
keeps_none words defs ranges h = absurd (false≢true h)
keeps_none words defs bank h = absurd (false≢true h)
keeps_none words defs apart h = absurd (false≢true h)
keeps_none words defs acyclic h = absurd (false≢true h)
keeps_none words defs levels h = absurd (false≢true h)
keeps_none words defs bounded h = absurd (false≢true h)

-- one rule more
pub keeps_next : (words : ℕ) (defs : Description) (rule : Rule) → KeepsBelow words defs (number rule) → EachClock defs (keeps rule words defs) → KeepsBelow words defs (number rule + 1)
keeps_next words defs rule below here r h =
    elim (cases_lt (number r) (number rule)) [
      | inl lower ↦ below r (lt-ltb (number r) (number rule) lower)
      | inr not_lower ↦
          let upper : number r < number rule + 1 = ltb-true (number r) (number rule + 1) h in
          let one : number rule ≡ number r = omega arith in
          let same : rule ≡ r = sym (rule_of-number rule) ∙ (ap rule_of one ∙ rule_of-number r) in
          let P : Rule → Type 0 = λ x. EachClock defs (keeps x words defs) in
          subst P same here
    ]

-- the rules before each rule, where those are kept that come before it
pub below_ranges : (words : ℕ) (defs : Description) → EachClock defs (keeps counts words defs) → KeepsBelow words defs 2
below_ranges words defs few = keeps_next words defs counts (keeps_none words defs) few

pub below_bank : (words : ℕ) (defs : Description) → EachClock defs (keeps counts words defs) → EachClock defs (keeps ranges words defs) → KeepsBelow words defs 3
below_bank words defs few right = keeps_next words defs ranges (below_ranges words defs few) right

pub below_apart : (words : ℕ) (defs : Description) → EachClock defs (keeps counts words defs) → EachClock defs (keeps ranges words defs) → EachClock defs (keeps bank words defs) → KeepsBelow words defs 4
below_apart words defs few right inside = keeps_next words defs bank (below_bank words defs few right) inside

pub below_acyclic : (words : ℕ) (defs : Description) → EachClock defs (keeps counts words defs) → EachClock defs (keeps ranges words defs) → EachClock defs (keeps bank words defs) → EachClock defs (keeps apart words defs) → KeepsBelow words defs 5
below_acyclic words defs few right inside own = keeps_next words defs apart (below_apart words defs few right inside) own

pub below_levels : (words : ℕ) (defs : Description) → KeepsBelow words defs 5 → EachClock defs (keeps acyclic words defs) → KeepsBelow words defs 6
below_levels words defs below none = keeps_next words defs acyclic below none

pub below_bounded : (words : ℕ) (defs : Description) → KeepsBelow words defs 6 → EachClock defs (keeps levels words defs) → KeepsBelow words defs 7
below_bounded words defs below short = keeps_next words defs levels below short

-- each rule has a number below 8
pub last_number : (r : Rule) → IsTrue (nat_lt (number r) 8)
last_number counts = refl
last_number ranges = refl
last_number bank = refl
last_number apart = refl
last_number acyclic = refl
last_number levels = refl
last_number bounded = refl

-- where all rules are kept the description is valid
pub valid-kept : (words : ℕ) (defs : Description) → EachClock defs (has_its_parents defs) → HasDistinctNames defs → KeepsBelow words defs 8 → IsValid words defs
valid-kept words defs parents names all = record {
  parents = parents;
  names = names;
  rules = λ r. all r (last_number r);
}

-- the first clock that fails the next rule breaks it first
pub broken-next : (words : ℕ) (defs : Description) (rule : Rule) (c : ℕ) → KeepsBelow words defs (number rule) → IsFirstFailing defs (keeps rule words defs) c → IsFirstBroken words defs rule c
broken-next words defs rule c below first = record { clock = first; earlier = below }
