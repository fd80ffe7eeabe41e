-- What a decision about a request for a rate says: what is planned, and how the request begins. Whether there is room for the entries of its
-- steps is no matter of it.
use Rattle.std.specs.Prelude.{◌≡◌, ℕ, List, [], Bool, false, Option, Some}
use Rattle.clk_base.specs.Checked.{Checked}
use Rattle.clk_base.specs.declared.call.Sleeping.{Sleeping}
use Rattle.clk_base.specs.declared.event.Reply.TheVariants as reply
use Rattle.clk_base.specs.declared.event.Turn.{Turn}
use Rattle.clk_model.specs.declared.row.HandleRow.{HandleRow}
use Rattle.clk_model.specs.Begin.{weight_of, done, refused, starts, request, change_along}
use Rattle.clk_model.specs.Chain.{chain}
use Rattle.clk_model.specs.Holders.{guarded, prepared}
use Rattle.clk_model.specs.Round.{View, wiring}
use Rattle.clk_model.specs.State.{State, Change, ChainStep}
use Rattle.clk_model.specs.Views.{view, free_view}
use Rattle.clk_tree.specs.declared.plan.Plan.{Plan}
use Rattle.clk_tree.specs.TreeState.{TreeState}
use Rattle.counts_core.specs.Counted.{CountState}
use Rattle.counts_core.specs.Standing.{StandsFor}
use Rattle.notifiers.specs.declared.notifier.Notifier.{Notifier}
use Rattle.notifiers.specs.Chains.{Tells}
use Rattle.clk_tree.specs.Plans.{AreThere}
use Rattle.rate_planner.specs.Walks.{walked_rates}
use Rattle.change_walk.specs.Given as given
use Rattle.change_walk.specs.Given.{Script, extra_of, planned_by}
use Rattle.change_walk.specs.Steps.{IsMadeOf}
use Rattle.core_parts.specs.Decisions as decided
use Rattle.core_parts.specs.Decisions.{Decision, LeavesRoomOut}
use Rattle.core_parts.specs.Seen.{seen}
use Rattle.core_parts.specs.Window.{Shown}

-- ---- what is planned

-- a plan and its script are those of a change that is made in a state
pub record IsPlanOf (n : State) (k : Change) (plan : Plan) (script : Script) : Type 0 where
  pub chain : k.chain ≡ plan.chain
  pub rates : plan.rates ≡ walked_rates n.order (wiring n) plan.chain
  pub steps : k.left ≡ script.steps
  pub vetoed : k.vetoed ≡ script.vetoed
  pub extra : k.extra ≡ script.extra
  pub weight : script.weight ≡ weight_of n k

-- a script is the one of a plan from a state
pub record IsScriptOf (s : State) (plan : Plan) (script : Script) : Type 0 where
  pub steps : script.steps ≡ (planned_by s plan).steps
  pub vetoed : script.vetoed ≡ (planned_by s plan).vetoed
  pub extra : script.extra ≡ extra_of s plan
  pub weight : script.weight ≡ given.weight_of s plan

-- the plan sets a parent or doesn't, the clocks whose rates it tells are registered, and its script is made of it
pub record IsPlanned (tree : TreeState) (prepared : ℕ → Bool) (chains : List (List Notifier)) (sets : Bool) (plan : Plan) (script : Script) : Type 0 where
  pub set_parent : plan.set_parent ≡ sets
  pub there : AreThere tree.clocks plan.rates
  pub made : IsMadeOf tree prepared chains plan script

-- so it is of a change that was decided, whatever the bank tells
abbrev pub ArePlanned : TreeState → (ℕ → Bool) → List (List Notifier) → Bool → Decision → Type 0
ArePlanned tree prepared chains sets (decided.Change plan script) = IsPlanned tree prepared chains sets plan script
ArePlanned tree prepared chains sets _ = Unit {0}

-- ---- requests for a rate

-- how a request begins that was decided so: old is the state that a refusal leaves, fine the one after an answer at once, and the change
-- is made in new, if there is room for it
abbrev pub answered : State → State → State → ℕ → Sleeping → Option (ℕ × ℕ) → Decision → State × Turn
answered old new fine d what range (decided.Refused e) = refused old e
answered old new fine d what range decided.AtOnce = done fine reply.Fine
answered old new fine d what range (decided.Change plan script) = starts old new (change_along new d what plan.chain [] range)

-- the chain of a change that was decided is this one
abbrev pub GoesAlong : Option (List ChainStep) → Decision → Type 0
GoesAlong planned (decided.Change plan script) = planned ≡ Some plan.chain
GoesAlong planned _ = Unit {0}

-- what is planned for it
abbrev pub PlansFor : State → ℕ → Sleeping → Option (ℕ × ℕ) → Decision → Type 0
PlansFor new d what range (decided.Change plan script) = IsPlanOf new (change_along new d what plan.chain [] range) plan script × (plan.set_parent ≡ false)
PlansFor new d what range _ = Unit {0}

-- so a request for a rate begins, whichever call makes it
pub record IsAnswer (new lifted : State) (c x : ℕ) (decision : Decision) : Type 0 where
  pub begins : (old fine : State) (d : ℕ) (what : Sleeping) (range : Option (ℕ × ℕ)) → request old new fine lifted d what c x range ≡ answered old new fine d what range decision
  pub along : GoesAlong (chain (wiring new) (view lifted) c x) decision
  pub planned : (d : ℕ) (what : Sleeping) (range : Option (ℕ × ℕ)) → PlansFor new d what range decision
  pub room : LeavesRoomOut decision

-- ---- what planning is given

-- words and a tree are those of a state
pub record IsOver (desc : Checked) (window : Shown) (tree : TreeState) (s : State) : Type 0 where
  pub regs : window.words ≡ Some s.regs
  pub defs : s.defs ≡ desc.defs
  pub clocks : s.clocks ≡ tree.clocks
  pub order : s.order ≡ tree.order

-- so are these notifiers
abbrev pub AreItsNotifiers : List (List Notifier) → State → Type 0
AreItsNotifiers chains s = Tells chains s.notifiers

-- what planning is given is of a state: words, a tree, handles and counts
pub record IsGiven (desc : Checked) (window : Shown) (tree : TreeState) (handles : List (Option HandleRow)) (counts : CountState) (s : State) : Type 0 where
  pub over : IsOver desc window tree s
  pub counted : StandsFor counts s
  pub sees : seen handles counts ≡ view s

-- planning sees a state, in which a clock is free and so nothing else of it is; what is prepared is as in the state that a change is made in
pub record SeesFree (sees : View) (c : ℕ) (new lifted : State) : Type 0 where
  pub view_ : sees ≡ view lifted
  pub free : free_view lifted c ≡ view lifted
  pub unguarded : guarded lifted c ≡ false
  pub prepared_ : (a : ℕ) → sees.prepared a ≡ prepared new a
