-- The description of a clock tree: its clocks in registration order, and what it says of each.
-- A clock is its place in this list, from 0.
use Rattle.std.specs.Prelude.{◌≡◌, ℕ, ◌<◌, Bool, List, [], length, slice_index_or, IsTrue, IsFalse}
use Rattle.std.specs.List.{list_any, position}
use Rattle.std.specs.declared.option.Option.{Option}
use Rattle.std.specs.Option.{option_map, MatchOption}
use Rattle.std.specs.Str.{bytes_eq}
use Rattle.clk_base.specs.declared.clock.ClockDef.{ClockDef}
use Rattle.clk_base.specs.declared.clock.ClockId.{ClockId}
use Rattle.clk_base.specs.declared.clock.Kind.{Kind}
use Rattle.clk_base.specs.declared.clock.Kind.TheVariants.{FixedRate}
use Rattle.clk_base.specs.declared.flags.ClkFlags.{ClkFlags}

-- the records of the clocks
abbrev pub Description : Type 0
Description = List ClockDef

-- what a place outside of a description counts as: a fixed clock without a name, flags and parents
abbrev pub nobody : ClockDef
nobody = record { name = []; kind = FixedRate 0; flags = record { 0 = 0 }; parents = [] }

-- the clock at a place
abbrev pub def_of : Description → ℕ → ClockDef
def_of defs c = slice_index_or defs c nobody

-- the name, the kind and the flags of a clock
abbrev pub name_of : Description → ℕ → List ℕ
name_of defs c = (def_of defs c).name

abbrev pub kind_of : Description → ℕ → Kind
kind_of defs c = (def_of defs c).kind

abbrev pub flags_of : Description → ℕ → ClkFlags
flags_of defs c = (def_of defs c).flags

-- the possible parents of a clock, in their order
abbrev pub parents_of : Description → ℕ → List ℕ
parents_of defs c = (def_of defs c).parents

-- whether a clock has this name
abbrev pub has_name : Description → List ℕ → Bool
has_name defs name = list_any (λ d. bytes_eq name d.name) defs

-- the clock of this name, if there is one
abbrev pub clock_named : Description → List ℕ → Option ClockId
clock_named defs name = option_map (λ c. record { 0 = c }) (position (λ d. bytes_eq name d.name) defs)

-- no two clocks have one name
abbrev pub HasDistinctNames : Description → Type 0
HasDistinctNames defs = (a b : ℕ) → a < length defs → b < length defs → name_of defs a ≡ name_of defs b → a ≡ b

-- each clock of the description passes the test
abbrev pub EachClock : Description → (ℕ → Bool) → Type 0
EachClock defs test = (c : ℕ) → c < length defs → IsTrue (test c)

-- the first clock of the description that fails the test
pub record IsFirstFailing (defs : Description) (test : ℕ → Bool) (c : ℕ) : Type 0 where
  pub within : c < length defs
  pub fails : IsFalse (test c)
  pub before : (k : ℕ) → k < c → IsTrue (test k)

-- a search over the clocks in order found the first that fails the test, or none that does
abbrev pub FindsFirst : Description → (ℕ → Bool) → Option ClockId → Type 0
FindsFirst defs test found = MatchOption found (EachClock defs test) (λ c. IsFirstFailing defs test c.0)
