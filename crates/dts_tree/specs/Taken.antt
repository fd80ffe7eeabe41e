-- Names that are taken.
use Rattle.std.specs.Prelude.{◌≡◌, ℕ, ◌==◌, ◌&&◌, Bool, true, List}
use Rattle.std.specs.List.{list_any}
use Rattle.std.specs.Str.{bytes_eq}
use Rattle.dts_tree.specs.declared.fault.TreeFault.{TreeFault}
use Rattle.dts_tree.specs.declared.fault.TreeFault.TheVariants as faults
use Rattle.dts_tree.specs.declared.names.Place.{Place}

-- a name and where it may stand once
pub record Name : Type 0 where
  pub scope : ℕ
  pub text : List ℕ

-- the name of this text in this scope
abbrev pub name_in : ℕ → List ℕ → Name
name_in scope text = record { scope = scope; text = text }

-- the name that is kept at a place
abbrev pub taken_of : Place → Name
taken_of p = name_in p.scope p.text.now

-- the same name in the same scope
abbrev pub same_name : Name → Name → Bool
same_name a b = (a.scope == b.scope) && bytes_eq a.text b.text

-- the same name in the same scope, as two places are compared
abbrev pub same_place : Place → Place → Bool
same_place a b = same_name (taken_of a) (taken_of b)

-- the name is among the names that are taken
unfoldable pub is_taken : Name → List Name → Bool
is_taken name names = list_any (same_name name) names

-- a name is refused with its line where it is taken; want of memory says nothing
abbrev pub IsRefused : TreeFault → ℕ → Bool → Type 0
IsRefused (faults.TwiceDefined at) line taken = (at ≡ line) × (taken ≡ true)
IsRefused faults.NoMemory line taken = Unit {0}
IsRefused (faults.Syntax at) line taken = ⊥
IsRefused (faults.NoSuchLabel at) line taken = ⊥
IsRefused (faults.TooDeep at) line taken = ⊥
