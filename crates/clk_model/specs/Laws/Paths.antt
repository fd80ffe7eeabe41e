-- Where paths end, and what a new link, a registration or a write leaves of paths and rates: the laws of paths.
use Rattle.std.specs.Prelude.{◌≡◌, ◌⊎◌, ◌↔◌, ℕ, suc, ◌-◌, ◌<◌, ◌≤◌, List, ◌∷◌, ◌++◌, true, false, Option, Some, None, slice_get, length}
use Rattle.std.specs.Option.{option_map_or}
use Rattle.clk_base.specs.declared.clock.Kind.{Kind}
use Rattle.clk_base.specs.declared.clock.Kind.TheVariants.{Divider, Pll}
use Rattle.clk_base.specs.Description.{Description, kind_of, parents_of}
use Rattle.clk_base.specs.Fields.{Field}
use Rattle.clk_base.specs.Levels.{depth, reaches_within}
use Rattle.clk_base.specs.Valid.{IsValid}
use Rattle.reg_bank.specs.Registers.{Registers, field}
use Rattle.clk_model.specs.declared.row.ClockRow.{ClockRow}
use Rattle.clk_model.specs.Lists.{is_in, none_twice}
use Rattle.clk_model.specs.Kinds.{is_fixed}
use Rattle.clk_model.specs.State.{State, registered, link_in}
use Rattle.clk_model.specs.Tree.{path_within, path, path_to_be, rooted}
use Rattle.clk_model.specs.Rate.{rate_over, rate}
use Rattle.clk_model.specs.Chain.{linked}
use Rattle.clk_model.specs.Begin.{register}
use Rattle.clk_model.specs.Wired.{LinesEnd, LinksArePossible}

-- ---- where a path ends

-- a clock is reached from another by going from clock to possible parent, at least once
abbrev pub IsPossibleAncestor : Description → ℕ → ℕ → Type 0
IsPossibleAncestor defs c a = (steps : ℕ) × (reaches_within (parents_of defs) steps a c ≡ true)

-- a line of links: it begins at the clock, and behind each clock stands the one that it is linked to, or nothing where it
-- has no link
pub record IsLineUp (up : ℕ → Option ℕ) (c : ℕ) (line : List ℕ) : Type 0 where
  pub first : slice_get line 0 ≡ Some c
  pub next : (k a : ℕ) → slice_get line k ≡ Some a → slice_get line (suc k) ≡ up a

-- a path is the whole line of links of its clock
pub record IsWholePath (defs : Description) (clocks : List ClockRow) (c : ℕ) : Type 0 where
  pub line : IsLineUp (link_in clocks) c (path clocks c)
  -- its last clock has no link
  pub last : (a : ℕ) → slice_get (path clocks c) (length (path clocks c) - 1) ≡ Some a → link_in clocks a ≡ None
  -- it has no more clocks than a line of possible parents may have, and more levels don't lengthen it
  pub few : length (path clocks c) ≤ depth
  pub same : (levels : ℕ) → depth ≤ levels → path_within (link_in clocks) levels c ≡ path clocks c
  -- no clock stands twice on it
  pub once : none_twice (path clocks c) ≡ true
  -- each clock on it is the first or one of its possible ancestors
  pub ancestors : (a : ℕ) → is_in a (path clocks c) ≡ true → (a ≡ c) ⊎ IsPossibleAncestor defs c a

-- so is each path, whatever the links, where they lead to possible parents and lines of possible parents end
abbrev pub PathsEnd : Type 0
PathsEnd = (defs : Description) (clocks : List ClockRow) → LinesEnd defs → LinksArePossible defs clocks → (c : ℕ) → IsWholePath defs clocks c

-- a clock is rooted where it is registered and the last clock of its path is a fixed one
abbrev pub RootedEndsFixed : Type 0
RootedEndsFixed = (words : ℕ) (defs : Description) (clocks : List ClockRow) → IsValid words defs → LinksArePossible defs clocks
    → (c : ℕ) → (rooted defs clocks c ≡ true)
    ↔ ((registered clocks c ≡ true) × ((a : ℕ) × (slice_get (path clocks c) (length (path clocks c) - 1) ≡ Some a) × (is_fixed (kind_of defs a) ≡ true)))

-- ---- a new link

-- a new link of a clock leaves the path of each clock that isn't that clock or below it
abbrev pub RelinksLeavePaths : Type 0
RelinksLeavePaths = (clocks : List ClockRow) (c p d : ℕ) → is_in c (path clocks d) ≡ false → path (linked clocks c p) d ≡ path clocks d

-- what a link from a clock to a possible parent is made in: lines of possible parents end, links lead to possible parents, and
-- the clock has a row
pub record CanLink (defs : Description) (clocks : List ClockRow) (c p : ℕ) : Type 0 where
  pub ends : LinesEnd defs
  pub links : LinksArePossible defs clocks
  pub row : c < length clocks
  pub parent : is_in p (parents_of defs c) ≡ true

-- a path that meets the clock is the same up to it, and then goes on with the path that the new parent had
abbrev pub RelinksTurnPaths : Type 0
RelinksTurnPaths = (defs : Description) (clocks : List ClockRow) (c p : ℕ) → CanLink defs clocks c p
    → (d : ℕ) (low high : List ℕ) → path clocks d ≡ low ++ c ∷ high → path (linked clocks c p) d ≡ low ++ c ∷ path clocks p

-- and links still lead to possible parents, where the new one does
abbrev pub RelinksStayPossible : Type 0
RelinksStayPossible = (defs : Description) (clocks : List ClockRow) (c p : ℕ) → LinksArePossible defs clocks → is_in p (parents_of defs c) ≡ true
    → LinksArePossible defs (linked clocks c p)

-- ---- a registration

-- a registration gives a clock the path that it was to have
abbrev pub RegistersGivePaths : Type 0
RegistersGivePaths = (s : State) (c : ℕ) → LinesEnd s.defs → LinksArePossible s.defs s.clocks → c < length s.clocks → registered s.clocks c ≡ false
    → path (register s c).clocks c ≡ path_to_be s.defs s.regs s.clocks c

-- it leaves the path and the rate of each clock whose path hasn't it
abbrev pub RegistersLeaveOthers : Type 0
RegistersLeaveOthers = (s : State) (c d : ℕ) → is_in c (path s.clocks d) ≡ false
    → (path (register s c).clocks d ≡ path s.clocks d) × (rate s.defs s.regs (register s c).clocks d ≡ rate s.defs s.regs s.clocks d)

-- and links still lead to possible parents
abbrev pub RegistersStayPossible : Type 0
RegistersStayPossible = (s : State) (c : ℕ) → LinksArePossible s.defs s.clocks → LinksArePossible s.defs (register s c).clocks

-- ---- rates

-- a rate is that of the clock's kind over the rate of the clock that it is linked to, or over 0 without one, whatever the
-- links, where they lead to possible parents and lines of possible parents end
abbrev pub RatesAreOverLinks : Type 0
RatesAreOverLinks = (defs : Description) (regs : Registers) (clocks : List ClockRow) → LinesEnd defs → LinksArePossible defs clocks
    → (c : ℕ) → rate defs regs clocks c ≡ rate_over (kind_of defs c) regs (option_map_or (rate defs regs clocks) (link_in clocks c) 0)

-- a new link of a clock leaves the rate of each clock that isn't that clock or below it
abbrev pub RelinksLeaveRates : Type 0
RelinksLeaveRates = (defs : Description) (regs : Registers) (clocks : List ClockRow) (c p d : ℕ) → is_in c (path clocks d) ≡ false
    → rate defs regs (linked clocks c p) d ≡ rate defs regs clocks d

-- the field by which a divider divides or a PLL multiplies
abbrev pub scales_by : Kind → Option Field
scales_by (Divider word shift width one_based power_of_two) = Some (record { word = word; shift = shift; width = width })
scales_by (Pll word shift width power_word power_bit least most m) = Some (record { word = word; shift = shift; width = width })
scales_by _ = None

-- the field by which a clock divides or multiplies, if it has one, reads the same in two banks
abbrev pub ScalesAlike : Description → Registers → Registers → ℕ → Type 0
ScalesAlike defs old new a = (f : Field) → scales_by (kind_of defs a) ≡ Some f → field new f.word f.shift f.width ≡ field old f.word f.shift f.width

-- the rate of a clock is the same where the clocks on its path divide and multiply by the same: gates, power bits, the fields
-- of muxes and all other clocks have no part in it
abbrev pub WritesLeaveRates : Type 0
WritesLeaveRates = (defs : Description) (old new : Registers) (clocks : List ClockRow) (d : ℕ)
    → ((a : ℕ) → is_in a (path clocks d) ≡ true → ScalesAlike defs old new a) → rate defs new clocks d ≡ rate defs old clocks d
