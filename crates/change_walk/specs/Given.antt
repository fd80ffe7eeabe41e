-- What a script is made of, what it is told of the state, and what it tells.
use Rattle.std.specs.Prelude.{◌≡◌, ℕ, ◌+◌, ◌<◌, ◌&&◌, List, [], ◌∷◌, Bool, true, if◌then◌else◌, map, length, slice_index, sum_by}
use Rattle.std.specs.List.{list_any}
use Rattle.clk_base.specs.declared.call.Micro.{Micro}
use Rattle.clk_base.specs.declared.call.Micro.TheVariants as micro
use Rattle.clk_model.specs.Chain.{clock_id, outcome}
use Rattle.clk_model.specs.Holders as holders
use Rattle.clk_model.specs.Laws.Plans.{LeadsFrom}
use Rattle.clk_model.specs.Rate.{rate}
use Rattle.clk_model.specs.Round.{Wiring, wiring, rate_in}
use Rattle.clk_model.specs.Script.{Planned, planned, weight, is_raise, notices_of}
use Rattle.clk_model.specs.State.{State, ChainStep, registered}
use Rattle.clk_model.specs.Walk.{changing, walk}
use Rattle.clk_tree.specs.declared.plan.Plan.{Plan}
use Rattle.clk_tree.specs.Plans.{ClockRate}
use Rattle.clk_tree.specs.TreeState.{TreeState}
use Rattle.notifiers.specs.declared.notifier.Notifier.{Notifier}
use Rattle.notifiers.specs.Chains as chains
use Rattle.change_walk.specs.declared.changes.Changed.{Changed}

-- a script: its steps, whether a notice vetoes, the notices that a timeout may bring, and its weight
pub record Script : Type 0 where
  pub steps : List Micro
  pub vetoed : Bool
  pub extra : ℕ
  pub weight : ℕ

-- ---- what is given

-- a state is the one that a tree and the notifiers of the clocks are of
pub record IsOf (s : State) (t : TreeState) (lists : List (List Notifier)) : Type 0 where
  pub defs : s.defs ≡ t.defs
  pub clocks : s.clocks ≡ t.clocks
  pub order : s.order ≡ t.order
  -- the kept rate of each registered clock is the one that the registers give
  pub kept : (c : ℕ) → registered t.clocks c ≡ true → slice_index t.rates c ≡ rate s.defs s.regs s.clocks c
  pub notifiers : chains.Tells lists s.notifiers

-- and what tells which clocks are prepared is of it too
pub record IsTold (s : State) (t : TreeState) (held : ℕ → Bool) (lists : List (List Notifier)) : Type 0 where
  pub is : IsOf s t lists
  pub prepared : (c : ℕ) → c < length t.defs → held c ≡ holders.prepared s c

-- the clocks of a plan's walk with their rates in the outcome
abbrev pub walked : List ℕ → Wiring → List ChainStep → List ClockRate
walked order w ks = map (λ c. record { clock = c; rate = rate_in (outcome ks w) c }) (walk order w ks)

-- a plan is one of a change from a state: its chain leads upwards from a clock, and its rates are those of the walk in the outcome
pub record IsPlanFor (s : State) (plan : Plan) : Type 0 where
  pub clock : ℕ
  pub leads : LeadsFrom (wiring s) clock plan.chain
  pub rates : plan.rates ≡ walked s.order (wiring s) plan.chain

-- what holds of each state that a tree and the notifiers are of, with this plan
abbrev pub OfTree : TreeState → List (List Notifier) → Plan → (State → Type 0) → Type 0
OfTree t lists plan P = (s : State) → IsOf s t lists → IsPlanFor s plan → P s

-- what holds of each state that is given so, with this plan
abbrev pub OfPlan : TreeState → (ℕ → Bool) → List (List Notifier) → Plan → (State → Type 0) → Type 0
OfPlan t held lists plan P = (s : State) → IsTold s t held lists → IsPlanFor s plan → P s

-- ---- what is told

-- what a change of parent settles behind its walk: its clock with all below it; and another change nothing
abbrev pub settles : Bool → List ChainStep → List Micro
settles true (k ∷ ks) = micro.Settle (clock_id k.clock) ∷ []
settles _ _ = []

-- what a plan comes to
abbrev pub planned_by : State → Plan → Planned
planned_by s plan = planned s plan.chain (settles plan.set_parent plan.chain)

-- a clock with its rates before a plan and after it
abbrev pub changed_in : State → List ChainStep → ℕ → Changed
changed_in s ks c = record { clock = clock_id c; before = rate_in (wiring s) c; after = rate_in (outcome ks (wiring s)) c }

-- the clocks that a plan changes, with their rates, in the order of the walk
abbrev pub all_changed : State → List ChainStep → List Changed
all_changed s ks = map (changed_in s ks) (changing s.order (wiring s) ks)

-- the notices that a timeout may bring: of a change of parent with a raise those to all notifiers of the changing clocks
abbrev pub extra_of : State → Plan → ℕ
extra_of s plan =
    if plan.set_parent && list_any is_raise (planned_by s plan).steps then notices_of s (planned_by s plan).changing else 0

-- what a script weighs: its steps, and the notices that a timeout may bring
abbrev pub weight_of : State → Plan → ℕ
weight_of s plan = sum_by (weight s) (planned_by s plan).steps + extra_of s plan
