-- That links lead to possible parents, linked clocks stand in the order of attaching, and trees keep their shape, through each
-- run.
use Rattle.std.specs.Prelude.{◌≡◌, ℕ, List, Bool, true, Option, Some, None, length}
use Rattle.std.specs.List.{list_all}
use Rattle.clk_base.specs.declared.call.Micro.{Micro}
use Rattle.clk_base.specs.declared.call.Micro.TheVariants as micro
use Rattle.clk_base.specs.declared.event.Entry.{Entry}
use Rattle.clk_base.specs.declared.event.Event.{Event}
use Rattle.clk_base.specs.declared.event.Turn.{Turn}
use Rattle.clk_base.specs.Description.{Description, parents_of}
use Rattle.clk_base.specs.Valid.{IsValid}
use Rattle.reg_bank.specs.Registers.{Registers}
use Rattle.clk_model.specs.Lists.{is_in}
use Rattle.clk_model.specs.State.{State, Change}
use Rattle.clk_model.specs.Step.{todo}
use Rattle.clk_model.specs.Machine.{next}
use Rattle.clk_model.specs.Journal.{replay, opening}
use Rattle.clk_model.specs.Round.{wiring}
use Rattle.clk_model.specs.Wired.{LinesEnd, LinksArePossible, IsWired, IsOrder}

-- whether the parent that a step links, if it links one, is a possible parent
abbrev pub links_possible : Description → Micro → Bool
links_possible defs (micro.Relink c p) = is_in p.0 (parents_of defs c.0)
links_possible defs _ = true

-- so do all steps that a change in flight has left
abbrev pub WillBePossible : Description → Option Change → Type 0
WillBePossible defs None = Unit {0}
WillBePossible defs (Some k) = list_all (links_possible defs) (todo k) ≡ true

-- links lead to possible parents, and so will those of the change in flight; the order lists each clock that has a link, and
-- none twice; lines of possible parents end
pub record KeepsLinks (s : State) : Type 0 where
  pub ends : LinesEnd s.defs
  pub links : LinksArePossible s.defs s.clocks
  pub order : IsOrder s.order s.clocks
  pub will : WillBePossible s.defs s.change

-- each event leaves it so
abbrev pub EventsKeepLinks : Type 0
EventsKeepLinks = (s t : State) (d : ℕ) (e : Event) (x : Turn) → KeepsLinks s → next s d e ≡ Some (t, x) → KeepsLinks t

-- and it is so behind each journal that begins at an opening with a valid description
abbrev pub RunsKeepLinks : Type 0
RunsKeepLinks = (words : ℕ) (defs : Description) (regs : Registers) (ignore_unused : Bool) (credits : ℕ) (journal : List Entry) → IsValid words defs
    → KeepsLinks (replay (opening defs regs ignore_unused credits) journal)

-- a state has the description, as many rows and as many words as another
pub record HasShapeOf (q s : State) : Type 0 where
  pub defs : s.defs ≡ q.defs
  pub rows : length s.clocks ≡ length q.clocks
  pub words : length s.regs ≡ length q.regs

-- each event leaves the state that shape
abbrev pub EventsKeepShape : Type 0
EventsKeepShape = (s t : State) (d : ℕ) (e : Event) (x : Turn) → next s d e ≡ Some (t, x) → HasShapeOf s t

-- a tree is wired over this description, and its order of attaching is one
pub record IsWiredOver (defs : Description) (words : ℕ) (s : State) : Type 0 where
  pub same : s.defs ≡ defs
  pub size : length s.regs ≡ words
  pub wired : IsWired words (wiring s)
  pub order : IsOrder s.order s.clocks

-- so it is behind each journal that begins at an opening with a valid description: the laws of plans and walks hold there
abbrev pub RunsAreWired : Type 0
RunsAreWired = (defs : Description) (regs : Registers) (ignore_unused : Bool) (credits : ℕ) (journal : List Entry) → IsValid (length regs) defs
    → IsWiredOver defs (length regs) (replay (opening defs regs ignore_unused credits) journal)
