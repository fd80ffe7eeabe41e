-- That children, roots and orphans tell the tree that the links tell, and where an attached clock stands: the laws of siblings.
use Rattle.std.specs.Prelude.{◌≡◌, ◌≢◌, ◌⊎◌, ◌↔◌, ℕ, ◌<◌, List, [], ◌∷◌, Bool, true, false, not, if◌then◌else◌, Some, None, length}
use Rattle.clk_base.specs.Description.{Description, kind_of}
use Rattle.clk_base.specs.Valid.{IsValid}
use Rattle.clk_model.specs.declared.row.ClockRow.{ClockRow}
use Rattle.clk_model.specs.Lists.{is_in, without, none_twice}
use Rattle.clk_model.specs.Kinds.{is_fixed}
use Rattle.clk_model.specs.State.{State, Change, registered, link_in}
use Rattle.clk_model.specs.Tree.{link_given, children, roots, orphans}
use Rattle.clk_model.specs.Begin.{register}
use Rattle.clk_model.specs.Step.{relink}
use Rattle.clk_model.specs.Wired.{LinksArePossible, ListsRegistered}

-- a clock is a root, an orphan or a child, no two of these at once, and a child of one clock
pub record HasOnePlace (defs : Description) (order : List ℕ) (clocks : List ClockRow) (c : ℕ) : Type 0 where
  pub some : (is_in c (roots defs order) ≡ true) ⊎ ((is_in c (orphans defs order clocks) ≡ true) ⊎ ((p : ℕ) × (is_in c (children order clocks p) ≡ true)))
  pub no_rooted_orphan : is_in c (roots defs order) ≡ true → is_in c (orphans defs order clocks) ≡ false
  pub no_rooted_child : is_in c (roots defs order) ≡ true → (p : ℕ) → is_in c (children order clocks p) ≡ false
  pub no_orphaned_child : is_in c (orphans defs order clocks) ≡ true → (p : ℕ) → is_in c (children order clocks p) ≡ false
  pub one_parent : (p q : ℕ) → is_in c (children order clocks p) ≡ true → is_in c (children order clocks q) ≡ true → p ≡ q

-- children, roots and orphans tell the tree of the links
pub record TellsTree (defs : Description) (order : List ℕ) (clocks : List ClockRow) : Type 0 where
  -- the children of a clock are the registered clocks that are linked to it, each once
  pub linked : (c p : ℕ) → (is_in c (children order clocks p) ≡ true) ↔ ((registered clocks c ≡ true) × (link_in clocks c ≡ Some p))
  pub once : (p : ℕ) → none_twice (children order clocks p) ≡ true
  -- each registered clock has one place
  pub places : (c : ℕ) → registered clocks c ≡ true → HasOnePlace defs order clocks c
  -- roots and orphans are registered, and stand there once
  pub roots_registered : (c : ℕ) → is_in c (roots defs order) ≡ true → registered clocks c ≡ true
  pub roots_once : none_twice (roots defs order) ≡ true
  pub orphans_registered : (c : ℕ) → is_in c (orphans defs order clocks) ≡ true → registered clocks c ≡ true
  pub orphans_once : none_twice (orphans defs order clocks) ≡ true

-- so it is over a valid description, where links lead to possible parents and the order lists the registered clocks
abbrev pub ChildrenTellLinks : Type 0
ChildrenTellLinks = (words : ℕ) (defs : Description) (order : List ℕ) (clocks : List ClockRow) → IsValid words defs → LinksArePossible defs clocks
    → ListsRegistered order clocks → TellsTree defs order clocks

-- the list with the clock first where it joins, and else without it
abbrev pub front_if : Bool → ℕ → List ℕ → List ℕ
front_if joins c xs = if joins then c ∷ without (c ∷ []) xs else without (c ∷ []) xs

-- a clock is attached to a parent: it is the first of its children and no orphan, and all others stand in their order
pub record IsAttached (c p : ℕ) (s t : State) : Type 0 where
  pub first : children t.order t.clocks p ≡ c ∷ without (c ∷ []) (children s.order s.clocks p)
  pub others : (q : ℕ) → q ≢ p → children t.order t.clocks q ≡ without (c ∷ []) (children s.order s.clocks q)
  pub orphans_left : orphans t.defs t.order t.clocks ≡ without (c ∷ []) (orphans s.defs s.order s.clocks)
  pub roots_left : is_fixed (kind_of s.defs c) ≡ false → roots t.defs t.order ≡ without (c ∷ []) (roots s.defs s.order)

-- a clock is put in the tree without a parent: it is the first of the roots if it is fixed, and else of the orphans, and all
-- others stand in their order
pub record IsUnattached (c : ℕ) (s t : State) : Type 0 where
  pub children_left : (q : ℕ) → children t.order t.clocks q ≡ without (c ∷ []) (children s.order s.clocks q)
  pub roots_after : roots t.defs t.order ≡ front_if (is_fixed (kind_of s.defs c)) c (roots s.defs s.order)
  pub orphans_after : orphans t.defs t.order t.clocks ≡ front_if (not (is_fixed (kind_of s.defs c))) c (orphans s.defs s.order s.clocks)

-- so attaches a registration that gives a link
abbrev pub RegistersAttach : Type 0
RegistersAttach = (s : State) (c p : ℕ) → c < length s.clocks → link_given s.defs s.regs s.clocks c ≡ Some p → IsAttached c p s (register s c)

-- one that gives none puts the clock in the tree without a parent
abbrev pub RegistersUnattached : Type 0
RegistersUnattached = (s : State) (c : ℕ) → c < length s.clocks → link_given s.defs s.regs s.clocks c ≡ None → IsUnattached c s (register s c)

-- and a new link attaches
abbrev pub RelinksAttach : Type 0
RelinksAttach = (s : State) (k : Change) (c p : ℕ) → c < length s.clocks → IsAttached c p s (relink s k c p)

-- the order still lists the registered clocks after a registration, and after a new link of a registered clock
abbrev pub RegistersAreListed : Type 0
RegistersAreListed = (s : State) (c : ℕ) → c < length s.clocks → ListsRegistered s.order s.clocks → ListsRegistered (register s c).order (register s c).clocks

abbrev pub RelinksAreListed : Type 0
RelinksAreListed = (s : State) (k : Change) (c p : ℕ) → registered s.clocks c ≡ true → ListsRegistered s.order s.clocks
    → ListsRegistered (relink s k c p).order (relink s k c p).clocks
