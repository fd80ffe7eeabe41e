-- A call that changes a rate or a parent, ready to begin: what it goes on with, and that it begins so.
use Rattle.std.specs.List.{list_all}
use Rattle.std.specs.Prelude.{◌≡◌, ℕ, ◌+◌, ◌≤◌, List, Bool, true, false, Option, Some, None, nat_le, sum_by}
use Rattle.clk_base.specs.declared.call.Micro.{Micro}
use Rattle.clk_base.specs.declared.call.Sleeping.{Sleeping}
use Rattle.clk_base.specs.declared.call.Sleeping.TheVariants as call
use Rattle.clk_base.specs.declared.event.Errno.{Errno}
use Rattle.clk_base.specs.declared.event.Errno.TheVariants as errno
use Rattle.clk_base.specs.declared.event.Event.TheVariants as event
use Rattle.clk_base.specs.declared.event.Turn.{Turn}
use Rattle.clk_base.specs.declared.event.Turn.TheVariants as turn
use Rattle.clk_model.specs.declared.row.HandleRow.{HandleRow}
use Rattle.clk_model.specs.Begin.{most_credits, own_handle, refused}
use Rattle.clk_model.specs.Machine.{paid, next}
use Rattle.clk_model.specs.Script.{plls}
use Rattle.clk_model.specs.State.{State, Change, registered}
use Rattle.clk_model.specs.Step.{sets_parent}
use Rattle.clk_flight.specs.declared.start.Start.{Start}
use Rattle.clk_tree.specs.declared.plan.Plan.{Plan}
use Rattle.change_walk.specs.Given.{Script}
use Rattle.change_walk.specs.Weights.{step_weight}
use Rattle.clk_machine.specs.Readied as readied
use Rattle.clk_machine.specs.Readied.{Readied, Scripted}
use Rattle.core_parts.specs.Told.{told_clocks}
use Rattle.clk_machine.specs.Changing.{BeginsAlong, StartsChange}
use Rattle.core_parts.specs.Course.{notifiers_at, tells_all}
use Rattle.clk_machine.specs.Deciding.{EndsAtOnce, handle_of, made_in}
use Rattle.core_parts.specs.InFlight.{is_script, can_link}
use Rattle.core_parts.specs.Movable.{can_go_along}
use Rattle.clk_machine.specs.Parts.{Parts, IsOwnCall}
use Rattle.clk_machine.specs.Sound.{IsSound}
use Rattle.clk_machine.specs.Stands.{Stands, Leads}

-- what steps weigh over the notifiers and PLLs of these parts
abbrev pub weight_along : Parts → List Micro → ℕ
weight_along m steps = sum_by (step_weight (plls m.desc.defs) m.chains) steps

-- ---- what a change goes on with

-- whether the moves of a plan can be made
abbrev pub moves_well : Parts → Plan → Bool
moves_well m plan = can_go_along plan.set_parent m.desc.defs m.tree.clocks plan.chain

-- whether there is room for the entries that the steps of a script may come to
abbrev pub has_room : Parts → Script → Bool
has_room m script = nat_le (m.credits + m.steps + script.weight) most_credits

-- it is that of a plan whose moves can be made, and of its script, for which there is room: its steps, the chain, and the clocks that are told
pub record IsScripted (m : Parts) (plan : Plan) (script : Script) (scripted : Scripted) : Type 0 where
  pub room : has_room m script ≡ true
  pub moves : moves_well m plan ≡ true
  pub steps : scripted.steps ≡ script.steps
  pub chain : scripted.course.chain ≡ plan.chain
  pub notified : scripted.course.notified ≡ told_clocks (notifiers_at m.chains) m.tree.rates plan.rates
  pub extra : scripted.extra ≡ script.extra
  pub vetoed : scripted.vetoed ≡ script.vetoed
  pub weight : scripted.weight ≡ script.weight

-- why a plan with its script isn't gone along: there is no room for it, or else its moves can't be made
pub data Hinders (m : Parts) (plan : Plan) (script : Script) : Errno → Type 0 where
  lacks_room : has_room m script ≡ false → Hinders m plan script errno.ENOSPC
  moves_badly : (e : Errno) → has_room m script ≡ true → moves_well m plan ≡ false → Hinders m plan script e

-- a plan with its script is made ready if there is room for it and its moves can be made, and else refused
abbrev pub Scripts : Parts → Plan → Script → Readied → Type 0
Scripts m plan script (readied.Refused e) = Hinders m plan script e
Scripts m plan script readied.AtOnce = ⊥
Scripts m plan script (readied.Change scripted) = IsScripted m plan script scripted

-- a change of rate or parent can go on so, whatever the bank tells: its steps are those that such a call may make, and the end; the clocks with
-- notifiers that it visits are told, its links can be made, a timeout calls off only a change of parent, and there is room
pub record CanGoAlong (m : Parts) (d : ℕ) (what : Sleeping) (scripted : Scripted) : Type 0 where
  pub own : IsOwnCall m.table.handles d what
  pub script : is_script what (registered m.tree.clocks) scripted.steps ≡ true
  pub tells : tells_all (notifiers_at m.chains) scripted.steps scripted.course.notified ≡ true
  pub links : list_all (can_link m.desc.defs m.tree.clocks) scripted.steps ≡ true
  pub lone : sets_parent what ≡ false → scripted.extra ≡ 0
  pub weight : scripted.weight ≡ weight_along m scripted.steps + scripted.extra
  pub room : m.credits + m.steps + scripted.weight ≤ most_credits

-- what holds of a call that was made ready, whatever the bank tells
abbrev pub CanBeginSo : Parts → ℕ → Sleeping → Readied → Type 0
CanBeginSo m d what (readied.Refused e) = Unit {0}
CanBeginSo m d what readied.AtOnce = IsOwnCall m.table.handles d what
CanBeginSo m d what (readied.Change scripted) = CanGoAlong m d what scripted

-- how many entries its steps may come to
abbrev pub weight_of : Readied → ℕ
weight_of (readied.Change scripted) = scripted.weight
weight_of _ = 0

-- ---- that a call begins so

-- the range that a handle has before a call that sets one
abbrev pub range_before : Sleeping → HandleRow → Option (ℕ × ℕ)
range_before (call.SetRange h least most) row = Some (row.min, row.max)
range_before _ row = None

-- so a change begins that goes on with this, of a driver's call on a handle that had this range
pub record IsStartOf (d : ℕ) (what : Sleeping) (range : Option (ℕ × ℕ)) (scripted : Scripted) (start : Start) : Type 0 where
  pub driver_ : start.driver ≡ d
  pub call : start.call ≡ what
  pub script : start.script.items ≡ scripted.steps
  pub range_ : start.range ≡ range
  pub extra : start.extra ≡ scripted.extra
  pub vetoed : start.vetoed ≡ scripted.vetoed

-- so it goes on from parts that stood for a state, and a credit is spent
pub record StartsAlong (old : Parts) (d : ℕ) (what : Sleeping) (range : Option (ℕ × ℕ)) (scripted : Scripted) (new : Parts) : Type 0 where
  pub start : Start
  pub is : IsStartOf d what range scripted start
  pub starts : StartsChange old start scripted.course new

-- a call on a driver's own handle goes on with these steps, along this course
pub record GoesOnAlong (s : State) (d number : ℕ) (what : Sleeping) (scripted : Scripted) : Type 0 where
  pub row : HandleRow
  pub own : own_handle s d number ≡ Some row
  pub change : Change
  pub next_ : next s d (event.Begin what) ≡ paid s (record (made_in s what row) { change = Some change }, turn.Going)
  pub begins : (start : Start) → IsStartOf d what (range_before what row) scripted start → BeginsAlong s.notifiers start scripted.course change

-- a call on the handle of this number begins in a state as it was made ready
abbrev pub BeginsSo : State → ℕ → ℕ → Sleeping → Readied → Type 0
BeginsSo s d number what (readied.Refused e) = next s d (event.Begin what) ≡ paid s (refused s e)
BeginsSo s d number what readied.AtOnce = EndsAtOnce s d number what
BeginsSo s d number what (readied.Change scripted) = GoesOnAlong s d number what scripted

-- if it begins so, the machine answers this turn and comes to a state that the new parts stand for
abbrev pub LeadsSo : Parts → ℕ → Sleeping → Readied → Turn → Parts → Type 0
LeadsSo old d what made t new =
    (s : State) → Stands old s → IsSound old.window.size s → BeginsSo s d (handle_of what) what made → Leads s d (event.Begin what) t new

-- so it does in each sound state that parts stand for
abbrev pub IsReady : Parts → ℕ → Sleeping → Readied → Type 0
IsReady m d what made = (s : State) → Stands m s → IsSound m.window.size s → BeginsSo s d (handle_of what) what made
