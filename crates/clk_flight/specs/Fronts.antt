-- What stands in front of a script.
use Rattle.std.specs.Prelude.{ℕ, ◌+◌, ◌-◌, ◌<◌, ◌^◌, ◌==◌, ◌&&◌, List, [], ◌∷◌, ◌++◌, Bool, true, false, Option, Some, None, map, take, drop, slice_get, is_none, if◌then◌else◌}
use Rattle.std.specs.Option.{option_map_or}
use Rattle.clk_base.specs.declared.clock.ClockId.{ClockId}
use Rattle.clk_base.specs.declared.call.Micro.{Micro}
use Rattle.clk_base.specs.declared.call.Micro.TheVariants as micro
use Rattle.clk_base.specs.declared.call.Notice.TheVariants as notice
use Rattle.clk_model.specs.State.{NotifierRow}
use Rattle.clk_model.specs.Chain.{clock_id}
use Rattle.clk_model.specs.Notices.{notifiers_of}
use Rattle.clk_model.specs.Step.{rest_of}
use Rattle.clk_model.specs.Laws.Paced.{is_notice}
use Rattle.clk_flight.specs.declared.front.Front.{Front}
use Rattle.clk_flight.specs.declared.front.Front.TheVariants.{Empty, Poll, Raise, Lower, Falls, Posts}

-- whether the script's own step comes next
abbrev pub is_empty : Front → Bool
is_empty Empty = true
is_empty _ = false

-- whether notices stand in front that a clock's rate has changed
abbrev pub is_posts : Front → Bool
is_posts (Posts c told left old new) = true
is_posts _ = false

-- how often the poll in front may ask
abbrev pub polls_of : Front → ℕ
polls_of (Poll pll polls again) = polls
polls_of _ = 0

-- a notice as one that the change is called off
abbrev pub called_off : Micro → Micro
called_off (micro.Notify kind c id old new) = micro.Notify notice.Abort c id old new
called_off m = m

-- a notice as one that the change is called off, if it is one
abbrev pub abort_of : Micro → Option Micro
abort_of m = if is_notice m then Some (called_off m) else None

-- the notice that a clock's rate has changed, to one of its notifiers
abbrev pub post_to : ClockId → ℕ → ℕ → NotifierRow → Micro
post_to c old new n = micro.Notify notice.Post c n.id old new

-- the steps that stand in front: polls, and a raise or lower that comes again; falls of the raised PLLs and then so many of the
-- script's notices, from a place on, as notices that the change is called off; or so many of the notices that a clock's rate has
-- changed, from a place on
abbrev pub front_steps : List NotifierRow → List Micro → List ℕ → Front → List Micro
front_steps notifiers script raised Empty = []
front_steps notifiers script raised (Poll pll polls again) = micro.Poll pll ∷ option_map_or (λ x. micro.Raise x ∷ []) again []
front_steps notifiers script raised (Raise x) = micro.Raise x ∷ []
front_steps notifiers script raised (Lower x) = micro.Lower x ∷ []
front_steps notifiers script raised (Falls told left) =
    map (λ y. micro.Fall (clock_id y)) raised ++ take left (drop told (map called_off script))
front_steps notifiers script raised (Posts c told left old new) = take left (drop told (map (post_to c old new) (notifiers_of notifiers c.0)))

-- the notices that the change is called off among them
abbrev pub front_aborts : List Micro → Front → List Micro
front_aborts script (Falls told left) = take left (drop told (map called_off script))
front_aborts script _ = []

-- how many they are
abbrev pub front_count : ℕ → Front → ℕ
front_count raised Empty = 0
front_count raised (Poll pll polls again) = 1 + option_map_or (λ x. 1) again 0
front_count raised (Raise x) = 1
front_count raised (Lower x) = 1
front_count raised (Falls told left) = raised + left
front_count raised (Posts c told left old new) = left

-- what stands in front has a step
abbrev pub HasSteps : ℕ → Front → Type 0
HasSteps raised (Poll pll polls again) = 0 < polls
HasSteps raised (Falls told left) = 0 < left + raised
HasSteps raised (Posts c told left old new) = 0 < left
HasSteps raised _ = Unit {0}

-- its places are counted by machine numbers
abbrev pub IsCounted : Front → Type 0
IsCounted (Falls told left) = told + left < 2 ^ 64
IsCounted (Posts c told left old new) = told + left < 2 ^ 64
IsCounted _ = Unit {0}

-- the falls of raised PLLs and so many notices behind them, if there are any
abbrev pub falls : List ℕ → ℕ → ℕ → Front
falls raised told left = if is_none (slice_get raised 0) && (left == 0) then Empty else Falls told left

-- what stands in front behind the first of them, where that is no fall
abbrev pub aborts_behind : List ℕ → ℕ → ℕ → Front
aborts_behind [] told left = falls [] (told + 1) (left - 1)
aborts_behind (y ∷ ys) told left = Falls told left

-- so many notices that a clock's rate has changed, if there are any
abbrev pub posts : ClockId → ℕ → ℕ → ℕ → ℕ → Front
posts c told left old new = if left == 0 then Empty else Posts c told left old new

-- what stands in front behind the first step of it, where that is no fall
abbrev pub front_behind : List ℕ → Front → Front
front_behind raised Empty = Empty
front_behind raised (Poll pll polls again) = option_map_or Raise again Empty
front_behind raised (Raise x) = Empty
front_behind raised (Lower x) = Empty
front_behind raised (Falls told left) = aborts_behind raised told left
front_behind raised (Posts c told left old new) = posts c (told + 1) (left - 1) old new

-- what is left of the script behind the next step
abbrev pub script_behind : Front → List Micro → List Micro
script_behind Empty left = rest_of left
script_behind _ left = left
