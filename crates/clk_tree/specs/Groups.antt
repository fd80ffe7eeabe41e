-- The groups of clocks that stand together: the roots, the orphans, and the children of each clock.
use Rattle.std.specs.Prelude.{◌≡◌, ℕ, ◌+◌, ◌<◌, List, Bool, Option, Some, None, filter, if◌then◌else◌, length}
use Rattle.clk_base.specs.declared.clock.ClockId.{ClockId}
use Rattle.clk_base.specs.Description.{Description, kind_of}
use Rattle.clk_model.specs.declared.row.ClockRow.{ClockRow}
use Rattle.clk_model.specs.Kinds.{is_fixed}
use Rattle.clk_model.specs.Lists.{is_at}
use Rattle.clk_model.specs.State.{link_in}
use Rattle.clk_model.specs.Tree.{is_orphan}
use Rattle.clk_tree.specs.declared.group.Group.{Group}
use Rattle.clk_tree.specs.declared.group.Group.TheVariants.{Roots, Orphans, ChildrenOf}
use Rattle.clk_tree.specs.Rings.{Leads}

-- whether an attached clock is a root, an orphan or a child of a clock
abbrev pub is_member : Description → List ClockRow → Group → ℕ → Bool
is_member defs clocks Roots c = is_fixed (kind_of defs c)
is_member defs clocks Orphans c = is_orphan defs clocks c
is_member defs clocks (ChildrenOf p) c = is_at p.0 (link_in clocks c)

-- the clocks of a group, the newest attached first
abbrev pub members : Description → List ClockRow → List ℕ → Group → List ℕ
members defs clocks order group = filter (is_member defs clocks group) order

-- the group of a clock with this link
abbrev pub group_of : Description → ℕ → Option ClockId → Group
group_of defs c (Some p) = ChildrenOf p
group_of defs c None = if is_fixed (kind_of defs c) then Roots else Orphans

-- a group of a tree of n clocks: a parent is one of them
abbrev pub IsGroup : ℕ → Group → Type 0
IsGroup n (ChildrenOf p) = p.0 < n
IsGroup n _ = Unit {0}

-- the number that stands for the end of a group, beside n clocks
abbrev pub end_of : ℕ → Group → ℕ
end_of n (ChildrenOf p) = n + p.0
end_of n Roots = n + n
end_of n Orphans = n + n + 1

-- the registered clocks stand in one ring, and the clocks of each group in another, the newest attached first
pub record AreListed (defs : Description) (clocks : List ClockRow) (order turns siblings : List ℕ) : Type 0 where
  pub turn_size : length turns ≡ length defs + 1
  pub size : length siblings ≡ length defs + length defs + 2
  pub turn : Leads turns (length defs) (length defs) order
  pub each : (group : Group) → IsGroup (length defs) group
      → Leads siblings (end_of (length defs) group) (end_of (length defs) group) (members defs clocks order group)
