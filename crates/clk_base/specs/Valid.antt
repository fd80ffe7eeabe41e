-- When a description is valid: the rules that each clock keeps, for a bank of so many words.
use Rattle.std.specs.Prelude.{◌==◌, ℕ, ◌^◌, Bool, true, not, ◌&&◌, if◌then◌else◌, nat_lt, nat_le, List, [], ◌∷◌, take, length, IsTrue}
use Rattle.std.specs.List.{list_any, list_all, flat_map}
use Rattle.clk_base.specs.declared.clock.Kind.{Kind}
use Rattle.clk_base.specs.declared.clock.Kind.TheVariants.{FixedRate, Factor, Gate, Mux, Divider, Pll}
use Rattle.clk_base.specs.Description.{Description, kind_of, parents_of, EachClock, HasDistinctNames, IsFirstFailing}
use Rattle.clk_base.specs.Fields.{Field, fields_of, is_in_bank, share_bit}
use Rattle.clk_base.specs.Levels.{depth, ends_within, reaches_within}
use Rattle.clk_base.specs.Work.{work}

-- the most clocks, the most possible parents of a clock, and the most work of a clock
abbrev pub most_clocks : ℕ
most_clocks = 4096

abbrev pub most_parents : ℕ
most_parents = 64

abbrev pub most_work : ℕ
most_work = 1048576

-- the clock is among the first 4,096, and has at most 64 possible parents
abbrev pub keeps_counts : ℕ → Description → ℕ → Bool
keeps_counts words defs c = nat_lt c most_clocks && nat_le (length (parents_of defs c)) most_parents

-- the width of a field is not 0 and at most so many bits
abbrev pub is_width : ℕ → ℕ → Bool
is_width most width = nat_lt 0 width && nat_le width most

-- the parameters of a kind with so many possible parents are in their ranges
abbrev pub has_ranges : Kind → ℕ → Bool
has_ranges (FixedRate rate) parents = true
has_ranges (Factor mult div) parents = nat_lt 0 mult && nat_lt 0 div
has_ranges (Gate word bit set_to_disable) parents = true
has_ranges (Mux word shift width read_only) parents = is_width 6 width && nat_le parents (2 ^ width)
has_ranges (Divider word shift width one_based power_of_two) parents =
    if power_of_two then is_width 5 width && not one_based else is_width 16 width
has_ranges (Pll word shift width power_word power_bit least most m) parents =
    is_width 16 width && nat_lt 0 m && nat_lt 0 least && nat_le least most && nat_lt most (2 ^ width)

-- the clock's parameters are in their ranges
abbrev pub keeps_ranges : ℕ → Description → ℕ → Bool
keeps_ranges words defs c = has_ranges (kind_of defs c) (length (parents_of defs c))

-- the clock's fields lie in the bank
abbrev pub keeps_bank : ℕ → Description → ℕ → Bool
keeps_bank words defs c = list_all (is_in_bank words) (fields_of (kind_of defs c))

-- each field shares no bit with one that stands before it, or with a taken one
abbrev pub stand_apart : List Field → List Field → Bool
stand_apart taken [] = true
stand_apart taken (f ∷ fields) = not (list_any (share_bit f) taken) && stand_apart (f ∷ taken) fields

-- the fields of the clocks before a clock
abbrev pub fields_before : Description → ℕ → List Field
fields_before defs c = flat_map (λ d. fields_of d.kind) (take c defs)

-- no field of the clock shares a bit with another field of it or of an earlier clock
abbrev pub keeps_apart : ℕ → Description → ℕ → Bool
keeps_apart words defs c = stand_apart (fields_before defs c) (fields_of (kind_of defs c))

-- the clock isn't among its own possible ancestors: a line that comes back to it does so in at most
-- as many steps as there are clocks
abbrev pub keeps_acyclic : ℕ → Description → ℕ → Bool
keeps_acyclic words defs c = not (reaches_within (parents_of defs) (length defs) c c)

-- no line of possible parents that begins at the clock has more than 64 clocks
abbrev pub keeps_levels : ℕ → Description → ℕ → Bool
keeps_levels words defs c = ends_within (parents_of defs) depth c

-- the clock's work is at most 1,048,576
abbrev pub keeps_work : ℕ → Description → ℕ → Bool
keeps_work words defs c = nat_le (work defs c) most_work

-- the rules, in the order in which they are applied
pub data Rule : Type 0 where
  counts : Rule
  ranges : Rule
  bank : Rule
  apart : Rule
  acyclic : Rule
  levels : Rule
  bounded : Rule

-- whether a clock keeps a rule
abbrev pub keeps : Rule → ℕ → Description → ℕ → Bool
keeps counts = keeps_counts
keeps ranges = keeps_ranges
keeps bank = keeps_bank
keeps apart = keeps_apart
keeps acyclic = keeps_acyclic
keeps levels = keeps_levels
keeps bounded = keeps_work

-- which rule it is, from 1
abbrev pub number : Rule → ℕ
number counts = 1
number ranges = 2
number bank = 3
number apart = 4
number acyclic = 5
number levels = 6
number bounded = 7

-- a clock of this kind can have so many possible parents: a fixed clock none, a mux at least one,
-- and another exactly one
abbrev pub can_have_parents : Kind → ℕ → Bool
can_have_parents (FixedRate rate) parents = parents == 0
can_have_parents (Factor mult div) parents = parents == 1
can_have_parents (Gate word bit set_to_disable) parents = parents == 1
can_have_parents (Mux word shift width read_only) parents = nat_lt 0 parents
can_have_parents (Divider word shift width one_based power_of_two) parents = parents == 1
can_have_parents (Pll word shift width power_word power_bit least most m) parents = parents == 1

-- the clock has as many possible parents as its kind can have, and each is a place in the description
abbrev pub has_its_parents : Description → ℕ → Bool
has_its_parents defs c =
    can_have_parents (kind_of defs c) (length (parents_of defs c))
    && list_all (λ p. nat_lt p (length defs)) (parents_of defs c)

-- each clock has its parents and a name of its own, and keeps every rule
pub record IsValid (words : ℕ) (defs : Description) : Type 0 where
  pub parents : EachClock defs (has_its_parents defs)
  pub names : HasDistinctNames defs
  pub rules : (rule : Rule) → EachClock defs (keeps rule words defs)

-- the first rule that a clock breaks, and the first clock that breaks it
pub record IsFirstBroken (words : ℕ) (defs : Description) (rule : Rule) (c : ℕ) : Type 0 where
  pub clock : IsFirstFailing defs (keeps rule words defs) c
  pub earlier : (r : Rule) → IsTrue (nat_lt (number r) (number rule)) → EachClock defs (keeps r words defs)
