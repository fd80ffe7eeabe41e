-- The assigned clocks of a node, with their new parents and rates.
use Rattle.std.specs.Prelude.{ℕ, ◌+◌, ◌==◌, ◌&&◌, ◌||◌, Bool, not, nat_lt, if◌then◌else◌, Option, Some, None, List, [], ◌∷◌, ◌++◌, length, slice_get, codes}
use Rattle.std.specs.Option.{option_and_then, option_map, option_flatten, unwrap_or}
use Rattle.clk_base.specs.declared.clock.ClockId.{ClockId}
use Rattle.dts_tree.specs.Tree.{SeenNode}
use Rattle.dts_bindings.specs.Properties.{has_property, values_of, all_numbers}
use Rattle.dts_clocks.specs.declared.assigned.Lists as read
use Rattle.dts_clocks.specs.declared.loaded.Assigned.{Assigned}
use Rattle.dts_clocks.specs.declared.loaded.AssignedStep.{AssignedStep}
use Rattle.dts_clocks.specs.declared.loaded.AssignedStep.TheVariants.{Parent, Rate}
use Rattle.dts_clocks.specs.Consumers.{clocks_in}
use Rattle.dts_clocks.specs.Joined.{joined}

-- the three lists of a node, a null as None
pub record Lists : Type 0 where
  pub clocks : List (Option ClockId)
  pub parents : List (Option ClockId)
  pub rates : List ℕ

-- the line of a node, and what is to be done, in order
pub record SeenAssigned : Type 0 where
  pub line : ℕ
  pub steps : List AssignedStep

-- the lists that a program has read
abbrev pub seen_lists : read.Lists → Lists
seen_lists l = record { clocks = l.clocks.items; parents = l.parents.items; rates = l.rates.items }

-- the assigned clocks of a node that a program has read
abbrev pub seen_assigned : Assigned → SeenAssigned
seen_assigned a = record { line = a.line; steps = a.steps.items }

-- the numbers of `assigned-clock-rates`
unfoldable pub rates_of : SeenNode → List ℕ
rates_of node = unwrap_or (all_numbers (values_of (codes "assigned-clock-rates") node)) []

-- the three lists of a node; None where a specifier is bad
unfoldable pub lists_of : List SeenNode → SeenNode → Option Lists
lists_of nodes node =
    option_and_then (λ clocks. option_map (λ parents. record { clocks = clocks; parents = parents; rates = rates_of node }) (clocks_in nodes (codes "assigned-clock-parents") node))
    (clocks_in nodes (codes "assigned-clocks") node)

-- the number of entries: the elements of the lists of parents and rates
abbrev pub entries : Lists → ℕ
entries l = length l.parents + length l.rates

-- there are parents or rates, and no assigned clocks
unfoldable pub lacks_clocks : SeenNode → Bool
lacks_clocks node =
    not (has_property (codes "assigned-clocks") node)
    && (has_property (codes "assigned-clock-parents") node || has_property (codes "assigned-clock-rates") node)

-- a list is longer than that of the assigned clocks
abbrev pub is_too_long : Lists → Bool
is_too_long l = nat_lt (length l.clocks) (length l.parents) || nat_lt (length l.clocks) (length l.rates)

-- the clock at a place of a list; none behind its end, and none where a null stands
abbrev pub clock_at : List (Option ClockId) → ℕ → Option ClockId
clock_at clocks i = option_flatten (slice_get clocks i)

-- a clock's new parent; skipped where one of them is a null
abbrev pub parent_step : Option ClockId → Option ClockId → List AssignedStep
parent_step (Some clock) (Some parent) = Parent clock parent ∷ []
parent_step (Some clock) None = []
parent_step None parent = []

-- a clock's new rate; skipped where the clock is a null or the rate is 0
abbrev pub rate_step : Option ClockId → Option ℕ → List AssignedStep
rate_step (Some clock) (Some rate) = if rate == 0 then [] else Rate clock rate ∷ []
rate_step (Some clock) None = []
rate_step None rate = []

-- the steps: first the parents, then the rates
unfoldable pub steps_of : Lists → List AssignedStep
steps_of l =
    joined (λ i. parent_step (clock_at l.clocks i) (clock_at l.parents i)) (length l.parents)
    ++ joined (λ i. rate_step (clock_at l.clocks i) (slice_get l.rates i)) (length l.rates)

-- what a node with `assigned-clocks` asks for
unfoldable pub assigned_of : SeenNode → Lists → Option SeenAssigned
assigned_of node l = if has_property (codes "assigned-clocks") node then Some (record { line = node.line; steps = steps_of l }) else None
