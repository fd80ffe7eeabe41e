-- What a decision about a call that changes a rate or a parent says: how the call begins, if there is room for what it goes on with.
use Rattle.std.specs.Prelude.{◌≡◌, ◌≢◌, ℕ, List, [], Option, Some, None}
use Rattle.clk_base.specs.declared.call.Sleeping.{Sleeping}
use Rattle.clk_base.specs.declared.call.Sleeping.TheVariants as call
use Rattle.clk_base.specs.declared.event.Errno.TheVariants as errno
use Rattle.clk_base.specs.declared.event.Reply.TheVariants as reply
use Rattle.clk_model.specs.declared.row.HandleRow.{HandleRow}
use Rattle.clk_model.specs.Begin.{begun, done, refused, starts, own_handle, change_along, held_once_more, reparenting, request_between}
use Rattle.clk_model.specs.Chain.{chain}
use Rattle.clk_model.specs.Laws.CallCauses.{with_limits}
use Rattle.clk_model.specs.Round.{wiring}
use Rattle.clk_model.specs.State.{State, Change, ChainStep}
use Rattle.clk_model.specs.Step.{sets_parent}
use Rattle.clk_model.specs.Views.{view, lift}
use Rattle.rate_planner.specs.Walks.{parent_chain}
use Rattle.clk_tree.specs.declared.plan.Plan.{Plan}
use Rattle.counts_core.specs.Counted.{is_prepared}
use Rattle.change_walk.specs.Given.{Script}
use Rattle.core_parts.specs.Decisions.{Decision}
use Rattle.core_parts.specs.Decisions as decided
use Rattle.clk_machine.specs.Parts.{Parts, IsOwnCall}
use Rattle.clk_machine.specs.Sound.{IsSound}
use Rattle.clk_machine.specs.Stands.{Stands}
use Rattle.core_parts.specs.Planned.{IsPlanOf, ArePlanned}

-- ---- what is planned

-- what holds of a change that was decided, over the parts of a core
abbrev pub ArePlannedOver : Parts → Sleeping → Decision → Type 0
ArePlannedOver m what decision = ArePlanned m.tree (is_prepared m.counts) m.chains (sets_parent what) decision

-- a call that isn't refused is on a handle of its driver, whatever the bank tells
abbrev pub IsOwned : List (Option HandleRow) → ℕ → Sleeping → Decision → Type 0
IsOwned handles d what (decided.Refused e) = Unit {0}
IsOwned handles d what _ = IsOwnCall handles d what

-- ---- calls

-- the number of the handle that a call is on which changes a rate or a parent
abbrev pub handle_of : Sleeping → ℕ
handle_of (call.SetRate h x) = h.number
handle_of (call.SetRateExclusive h x) = h.number
handle_of (call.SetRange h least most) = h.number
handle_of (call.SetParent h p) = h.number
handle_of _ = 0

-- the state that an answer at once leaves: with an exclusive hold of the handle more, with its new range, or as it is
abbrev pub left_at_once : State → Sleeping → HandleRow → State
left_at_once s (call.SetRateExclusive h x) row = held_once_more s h.number row
left_at_once s (call.SetRange h least most) row = with_limits s h.number row least most
left_at_once s _ row = s

-- the state that a change is made in, with the new range of the handle where the call sets one
abbrev pub made_in : State → Sleeping → HandleRow → State
made_in s (call.SetRange h least most) row = with_limits s h.number row least most
made_in s _ row = s

-- the change that a call begins with a plan; the range that the handle had is kept where the call sets one
abbrev pub change_by : State → ℕ → Sleeping → HandleRow → Plan → Change
change_by s d (call.SetRange h least most) row plan =
    change_along (with_limits s h.number row least most) d (call.SetRange h least most) plan.chain [] (Some (row.min, row.max))
change_by s d (call.SetParent h p) row plan = reparenting s d (call.SetParent h p) row.clock.0 p.0
change_by s d what row plan = change_along s d what plan.chain [] None

-- the chain that a call plans, if it plans one: with one exclusive of its handle lifted unless it takes one itself
abbrev pub chain_of : State → Sleeping → HandleRow → Option (List ChainStep)
chain_of s (call.SetRate h x) row = chain (wiring s) (view (lift s h.number)) row.clock.0 x
chain_of s (call.SetRateExclusive h x) row = chain (wiring s) (view s) row.clock.0 x
chain_of s (call.SetRange h least most) row =
    chain (wiring s) (view (lift (with_limits s h.number row least most) h.number)) row.clock.0 (request_between s.clocks row.clock.0 least most)
chain_of s (call.SetParent h p) row = Some (parent_chain (wiring s) row.clock.0 p.0)
chain_of s _ row = None

-- a call on a driver's own handle is answered at once
pub record EndsAtOnce (s : State) (d number : ℕ) (what : Sleeping) : Type 0 where
  pub row : HandleRow
  pub own : own_handle s d number ≡ Some row
  pub begins : begun s d what ≡ done (left_at_once s what row) reply.Fine

-- a call on a driver's own handle goes on with a plan and its script, if there is room
pub record GoesOn (s : State) (d number : ℕ) (what : Sleeping) (plan : Plan) (script : Script) : Type 0 where
  pub row : HandleRow
  pub own : own_handle s d number ≡ Some row
  pub begins : begun s d what ≡ starts s (made_in s what row) (change_by s d what row plan)
  pub along : chain_of s what row ≡ Some plan.chain
  pub planned : IsPlanOf (made_in s what row) (change_by s d what row plan) plan script
  pub set_parent : plan.set_parent ≡ sets_parent what

-- a call of a driver on the handle of this number begins in a state as was decided; it isn't decided that there is no room
abbrev pub Decides : State → ℕ → ℕ → Sleeping → Decision → Type 0
Decides s d number what (decided.Refused e) = (e ≢ errno.ENOSPC) × (begun s d what ≡ refused s e)
Decides s d number what decided.AtOnce = EndsAtOnce s d number what
Decides s d number what (decided.Change plan script) = GoesOn s d number what plan script

-- so it is in each sound state that parts stand for
abbrev pub Decided : Parts → ℕ → Sleeping → Decision → Type 0
Decided m d what decision = (s : State) → Stands m s → IsSound m.window.size s → Decides s d (handle_of what) what decision
