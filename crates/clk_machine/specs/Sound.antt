-- What every state of a core keeps.
use Rattle.std.specs.Prelude.{◌≡◌, ◌⊎◌, ℕ, ◌<◌, ◌≤◌, ◌&&◌, List, Bool, true, false, not, Some, None, is_some, map, option_map, length, nat_lt}
use Rattle.clk_base.specs.declared.call.Micro.{Micro}
use Rattle.clk_base.specs.declared.call.Micro.TheVariants as micro
use Rattle.clk_base.specs.declared.call.Sleeping.{Sleeping}
use Rattle.clk_base.specs.declared.call.Sleeping.TheVariants as call
use Rattle.clk_base.specs.declared.event.Entry.{Entry}
use Rattle.clk_base.specs.declared.event.Event.{Event}
use Rattle.clk_base.specs.declared.event.Event.TheVariants as event
use Rattle.clk_base.specs.Description.{Description, parents_of}
use Rattle.clk_base.specs.Valid.{IsValid}
use Rattle.reg_bank.specs.Registers.{Registers}
use Rattle.clk_model.specs.Lists.{is_in}
use Rattle.clk_model.specs.declared.row.ClockRow.{ClockRow}
use Rattle.clk_model.specs.State.{State, registered, link_in}
use Rattle.clk_model.specs.Begin.{most_credits}
use Rattle.clk_model.specs.Prep.{without_enables, prep}
use Rattle.clk_model.specs.Journal.{opening, replay}

-- a journal leads to the state, from the opening of a valid description with so many words and as many credits as there may be
pub record IsReached (words : ℕ) (s : State) : Type 0 where
  pub defs : Description
  pub regs : Registers
  pub ignore_unused : Bool
  pub credits : ℕ
  pub journal : List Entry
  pub valid : IsValid (length regs) defs
  pub size : length regs ≡ words
  pub few : credits ≤ most_credits
  pub leads : s ≡ replay (opening defs regs ignore_unused credits) journal

-- what is kept of the rows and the order where calls name clocks of the description alone
pub record KeepsRows (words : ℕ) (defs : Description) (clocks : List ClockRow) (order : List ℕ) : Type 0 where
  -- the description is valid for so many words
  pub valid : IsValid words defs
  -- each clock has a row, and those in the order are registered
  pub rows : length clocks ≡ length defs
  pub attached : (c : ℕ) → is_in c order ≡ true → registered clocks c ≡ true
  -- a clock that isn't registered has no link, and one that is linked is so to a possible parent
  pub unlinked : (c : ℕ) → registered clocks c ≡ false → link_in clocks c ≡ None
  pub possible : (c p : ℕ) → link_in clocks c ≡ Some p → is_in p (parents_of defs c) ≡ true

-- of a state
abbrev pub IsNarrow : ℕ → State → Type 0
IsNarrow words s = KeepsRows words s.defs s.clocks s.order

-- a state is like one that a journal leads to: the prepare tier's part of both is the same, and so is what is held for the change in flight, and
-- that change; its handles are the other's or have no enables; and no more credits were spent and no more steps made in it
pub record IsLike (words : ℕ) (s : State) : Type 0 where
  pub other : State
  pub reached : IsReached words other
  pub same : prep s ≡ prep other
  pub handles : (s.handles ≡ other.handles) ⊎ (s.handles ≡ map (option_map without_enables) s.handles)
  pub holds : s.enable_holds ≡ other.enable_holds
  pub change : s.change ≡ other.change
  pub spent : s.spent ≤ other.spent
  pub steps : s.steps ≤ other.steps

-- what every state of a core and of a copy keeps: all that holds of a state like a reached one, and what is kept besides
pub record IsSound (words : ℕ) (s : State) : Type 0 where
  pub like : IsLike words s
  pub narrow : IsNarrow words s

-- the clocks that a call names are clocks of the description
abbrev pub IsPlaced : Description → Sleeping → Type 0
IsPlaced defs (call.Get (Some c)) = c.0 < length defs
IsPlaced defs (call.SetParent h p) = p.0 < length defs
IsPlaced defs (call.Probe c) = c.0 < length defs
IsPlaced defs _ = Unit {0}

-- a get takes memory, for its handle, and so do adding a notifier and the calls that may go on, for their steps; no other call does
abbrev pub takes_memory : Sleeping → Bool
takes_memory (call.Get found) = true
takes_memory (call.Prepare h) = true
takes_memory (call.Unprepare h) = true
takes_memory (call.SetRate h x) = true
takes_memory (call.SetRateExclusive h x) = true
takes_memory (call.SetRange h least most) = true
takes_memory (call.SetParent h p) = true
takes_memory (call.NotifierAdd h id priority policy) = true
takes_memory (call.Probe c) = true
takes_memory call.Sweep = true
takes_memory _ = false

-- whether a step links clocks and selects parents as it may: a registered clock gets a link to a possible parent, a parent is selected for a
-- clock that has a link, and a clock of the description that isn't registered is
abbrev pub links_well : Description → List ClockRow → Micro → Bool
links_well defs clocks (micro.Notify kind c id old new) = true
links_well defs clocks (micro.Raise x) = true
links_well defs clocks (micro.Poll y) = true
links_well defs clocks (micro.Fall y) = true
links_well defs clocks (micro.Lower x) = true
links_well defs clocks (micro.HoldPrepare x) = true
links_well defs clocks (micro.HoldEnable x) = true
links_well defs clocks (micro.DropEnable x) = true
links_well defs clocks (micro.DropPrepare x) = true
links_well defs clocks (micro.Relink c p) = registered clocks c.0 && is_in p.0 (parents_of defs c.0)
links_well defs clocks (micro.WriteMux c place) = is_some (link_in clocks c.0) && nat_lt place (length (parents_of defs c.0))
links_well defs clocks (micro.Visit c) = true
links_well defs clocks (micro.Register c) = nat_lt c.0 (length defs) && not (registered clocks c.0)
links_well defs clocks (micro.Settle c) = true
links_well defs clocks (micro.Close c) = true
links_well defs clocks (micro.Unpower c) = true
links_well defs clocks micro.End = true

-- an event that can come in a state: one of the enable tier, a call that names clocks of the description, or a step that links as it may
abbrev pub CanTake : State → Event → Type 0
CanTake s (event.Begin what) = IsPlaced s.defs what
CanTake s (event.Step m answer) = links_well s.defs s.clocks m ≡ true
CanTake s e = Unit {0}
