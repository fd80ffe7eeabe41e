-- What a header says by itself, and which headers may follow which.
use Rattle.std.specs.Prelude.{◌≡◌, ℕ, ◌<◌, ◌≤◌, ◌==◌, ◌&&◌, ◌||◌, not, nat_lt, nat_le, Bool, true, false, List, [], ◌∷◌, Option, Some, None, Result, Ok, Err, codes, if◌then◌else◌, count_by}
use Rattle.std.specs.List.{list_any}
use Rattle.std.specs.Option.{option_map}
use Rattle.std.specs.Str.{bytes_eq}
use Rattle.bundle_text.specs.declared.reason.Reason.{Reason}
use Rattle.bundle_text.specs.declared.reason.Reason.TheVariants.{UnknownSection, BadHeader, SectionOrder, TwiceDefined, TooManyDrivers}
use Rattle.bundle_text.specs.Names.{is_driver_name}
use Rattle.bundle_text.specs.Numbers.{number_within}

-- what a header says: which section begins, and with what
pub data Said : Type 0 where
  device_tree : Said
  clocks : Said
  bank : (words : ℕ) → Said
  lock : Said
  late : Said
  driver : (name : List ℕ) (path : Option (List ℕ)) → Said
  order : Said

-- a header that says this has no further words
abbrev pub alone : Said → List (List ℕ) → Option Said
alone said [] = Some said
alone said _ = None

-- the words behind `%regs` are a number from 1 to 65,536
unfoldable pub bank_words : List (List ℕ) → Option Said
bank_words (number ∷ []) = option_map bank (number_within 1 65536 number)
bank_words _ = None

-- the words behind `%driver` are a driver's name, and perhaps a path
unfoldable pub driver_words : List (List ℕ) → Option Said
driver_words (name ∷ []) = if is_driver_name name then Some (driver name None) else None
driver_words (name ∷ path ∷ []) = if is_driver_name name then Some (driver name (Some path)) else None
driver_words _ = None

-- a section's header, where the words behind its first have their form
abbrev pub well_formed : Option Said → Result Said Reason
well_formed (Some said) = Ok said
well_formed None = Err BadHeader

-- what a header says with this first word and these behind it, or what is wrong with it
unfoldable pub header_of : List ℕ → List (List ℕ) → Result Said Reason
header_of first more =
    if bytes_eq first (codes "%dts") then well_formed (alone device_tree more)
    else if bytes_eq first (codes "%clocks") then well_formed (alone clocks more)
    else if bytes_eq first (codes "%regs") then well_formed (bank_words more)
    else if bytes_eq first (codes "%lock") then well_formed (alone lock more)
    else if bytes_eq first (codes "%late") then well_formed (alone late more)
    else if bytes_eq first (codes "%driver") then well_formed (driver_words more)
    else if bytes_eq first (codes "%order") then well_formed (alone order more)
    else Err UnknownSection

-- what the words of a header say, or what is wrong with them
unfoldable pub read_header : List (List ℕ) → Result Said Reason
read_header [] = Err UnknownSection
read_header (first ∷ more) = header_of first more

-- a bank has 1 to 65,536 words, and a driver's name is one
abbrev pub HasForm : Said → Type 0
HasForm (bank words) = (0 < words) × (words ≤ 65536)
HasForm (driver name path) = is_driver_name name ≡ true
HasForm _ = Unit {0}

-- the place of a header's section among the sections; both forms of the clocks have one place
abbrev pub rank : Said → ℕ
rank device_tree = 0
rank clocks = 0
rank (bank words) = 1
rank lock = 2
rank late = 3
rank (driver name path) = 4
rank order = 5

-- the header begins a driver's section
abbrev pub is_driver : Said → Bool
is_driver (driver name path) = true
is_driver _ = false

-- the header begins the section of the clocks, in either form
abbrev pub is_clocks : Said → Bool
is_clocks device_tree = true
is_clocks clocks = true
is_clocks _ = false

-- the header begins the section of the register bank
abbrev pub is_bank : Said → Bool
is_bank (bank words) = true
is_bank _ = false

-- both headers name one driver
abbrev pub same_driver : Said → Said → Bool
same_driver (driver name path) (driver other way) = bytes_eq name other
same_driver _ _ = false

-- the header's section belongs before the earlier one, or is there already and no driver's
unfoldable pub cannot_follow : Said → Said → Bool
cannot_follow said earlier = nat_lt (rank said) (rank earlier) || ((rank said == rank earlier) && not (is_driver said))

-- what is wrong with a header behind earlier ones: its place, its driver's name, or one driver more than 64
unfoldable pub order_fault : List Said → Said → Option Reason
order_fault before said =
    if list_any (cannot_follow said) before then Some SectionOrder
    else if list_any (same_driver said) before then Some TwiceDefined
    else if is_driver said && nat_le 64 (count_by is_driver before) then Some TooManyDrivers
    else None
