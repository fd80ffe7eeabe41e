-- A copy of the prepare tier of a core, what is decided over it, and how it follows the core.
use Rattle.std.specs.Prelude.{◌≡◌, ◌≢◌, ℕ, true, false, Option, Some, None}
use Rattle.clk_base.specs.declared.call.Sleeping.{Sleeping}
use Rattle.clk_base.specs.declared.event.Entry.{Entry}
use Rattle.clk_base.specs.declared.event.Errno.TheVariants as errno
use Rattle.clk_base.specs.declared.event.Event.TheVariants as event
use Rattle.clk_base.specs.declared.event.Reply.TheVariants as reply
use Rattle.clk_base.specs.declared.event.Turn.{Turn}
use Rattle.clk_base.specs.declared.event.Turn.TheVariants as turn
use Rattle.change_walk.specs.Given.{Script}
use Rattle.clk_tree.specs.declared.plan.Plan.{Plan}
use Rattle.clk_tree.specs.Plans.{AreThere}
use Rattle.core_parts.specs.Decisions as decided
use Rattle.clk_model.specs.declared.row.HandleRow.{HandleRow}
use Rattle.clk_model.specs.Begin.{begun, starts, own_handle}
use Rattle.clk_model.specs.Journal.{slotless}
use Rattle.clk_model.specs.Laws.PrepBegins.{is_decided}
use Rattle.clk_model.specs.Laws.Shadows.{GoesBy}
use Rattle.clk_model.specs.Machine.{next}
use Rattle.clk_model.specs.Prep.{prep}
use Rattle.clk_model.specs.Round.{wiring}
use Rattle.clk_model.specs.State.{State}
use Rattle.clk_model.specs.Step.{sets_parent}
use Rattle.clk_model.specs.Tier.{is_step}
use Rattle.rate_planner.specs.Walks.{walked_rates}
use Rattle.clk_machine.specs.declared.decision.Decision.{Decision}
use Rattle.clk_machine.specs.declared.decision.Decision.TheVariants as decision
use Rattle.clk_machine.specs.Deciding.{chain_of, change_by, handle_of, made_in}
use Rattle.clk_machine.specs.Parts.{Parts}
use Rattle.clk_machine.specs.Sound.{IsReached, IsSound}
use Rattle.clk_machine.specs.Stands.{Stands}

-- what contracts see of a copy: its parts, and the driver and the call for whose entries there is room
pub record Copy : Type 0 where
  pub parts : Parts
  pub room : Option (ℕ × Sleeping)

-- the parts of a copy stand for a state that goes by another: no handle of it has an enable, and it has the other's part of the prepare tier,
-- while no sweep is in flight; of a sweep it learns which PLL was powered when that is polled
pub record Copies (copy : Copy) (s : State) : Type 0 where
  pub twin : State
  pub stands : Stands copy.parts twin
  pub is : GoesBy twin s

-- a copy is of a state that a journal leads to
pub record IsCopyOf (copy : Copy) (s : State) : Type 0 where
  pub reached : IsReached copy.parts.window.size s
  pub copies : Copies copy s

-- ---- what is decided

-- what a call that plans goes on with in a state, if there is room for it: a plan, and the steps of its script
pub record GoesOnBy (s : State) (d : ℕ) (what : Sleeping) (plan : Plan) (script : Script) : Type 0 where
  pub row : HandleRow
  pub own : own_handle s d (handle_of what) ≡ Some row
  pub begins : begun s d what ≡ starts s (made_in s what row) (change_by s d what row plan)
  -- the chain is the one that the call plans, also if there is no room, and the clocks whose rates it tells are registered
  pub along : chain_of s what row ≡ Some plan.chain
  pub there : AreThere s.clocks plan.rates
  pub chain : (change_by s d what row plan).chain ≡ plan.chain
  pub rates : plan.rates ≡ walked_rates (made_in s what row).order (wiring (made_in s what row)) plan.chain
  pub steps : (change_by s d what row plan).left ≡ script.steps
  pub vetoed : (change_by s d what row plan).vetoed ≡ script.vetoed
  pub extra : (change_by s d what row plan).extra ≡ script.extra
  pub set_parent : plan.set_parent ≡ sets_parent what

-- a decision says how a call begins in a state: what it is answered at once, though never for want of room; or what it goes on with, if
-- there is room; any other call is decided inside its own turn
abbrev pub DecidesFor : State → ℕ → Sleeping → Decision → Type 0
DecidesFor s d what (decision.Reply r) = (is_decided what ≡ true) × (r ≢ reply.Refused errno.ENOSPC) × ((begun s d what).1 ≡ slotless (turn.Done r))
DecidesFor s d what (decision.Script plan steps) = GoesOnBy s d what plan steps
DecidesFor s d what decision.Inside = is_decided what ≡ false

-- a decision that was made of a call which plans
abbrev pub told_of : decided.Decision → Decision
told_of (decided.Refused e) = decision.Reply (reply.Refused e)
told_of decided.AtOnce = decision.Reply reply.Fine
told_of (decided.Change plan script) = decision.Script plan script

-- parts decide so of each sound state that they stand for
abbrev pub AreDecided : Parts → ℕ → Sleeping → Decision → Type 0
AreDecided m d what decision = (s : State) → Stands m s → IsSound m.window.size s → DecidesFor s d what decision

-- it is decided so over the prepare tier's part of a state
abbrev pub IsDecided : State → ℕ → Sleeping → Decision → Type 0
IsDecided s d what decision = DecidesFor (prep s) d what decision

-- ---- how a copy follows

-- an entry is one of the call that there is room for
pub record IsOfCall (room : Option (ℕ × Sleeping)) (e : Entry) : Type 0 where
  pub what : Sleeping
  pub room_ : room ≡ Some (e.driver, what)
  pub begins : is_step e.event ≡ false → e.event ≡ event.Begin what

-- after an entry there is room as long as the call goes on
abbrev pub room_after : Turn → Option (ℕ × Sleeping) → Option (ℕ × Sleeping)
room_after turn.Going room = room
room_after (turn.Done r) room = None

-- the copy goes along with an entry of its call, from each state that it is of to the one after the entry
abbrev pub Follows : Copy → Entry → Copy → Type 0
Follows old e new = (s t : State) → IsCopyOf old s → IsOfCall old.room e → next s e.driver e.event ≡ Some (t, slotless e.turn) → Copies new t

-- a copy is of each state that another was of
abbrev pub StaysCopy : Copy → Copy → Type 0
StaysCopy old new = (s : State) → Copies old s → Copies new s
