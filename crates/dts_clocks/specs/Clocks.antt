-- The clocks of the providers, and the clocks that specifiers name. A clock is its place among all, from 0.
use Rattle.std.specs.Prelude.{ℕ, ◌==◌, ◌&&◌, Bool, true, if◌then◌else◌, Option, Some, None, List, [], ◌∷◌, length, map, slice_get}
use Rattle.std.specs.List.{position}
use Rattle.std.specs.Option.{option_map, option_map_or, option_and_then}
use Rattle.std.specs.Result.{result_ok}
use Rattle.clk_base.specs.declared.clock.ClockId.{ClockId}
use Rattle.dts_tree.specs.declared.tree.Cell.{Cell}
use Rattle.dts_tree.specs.declared.tree.Cell.TheVariants as cells
use Rattle.dts_tree.specs.Tree.{SeenNode}
use Rattle.dts_bindings.specs.Properties.{is_provider}
use Rattle.dts_bindings.specs.declared.bound.Binding.{Binding}
use Rattle.dts_bindings.specs.Binding.{SeenBinding, seen_binding, binding_of}
use Rattle.dts_bindings.specs.Clocks.{SeenClock}
use Rattle.dts_clocks.specs.declared.reference.Reference.TheVariants.{Null, Whole, Begun, Lacking}
use Rattle.dts_clocks.specs.declared.reference.Specifier.{Specifier}
use Rattle.dts_clocks.specs.Above.{is_passed}
use Rattle.dts_clocks.specs.Joined.{joined, listed}
use Rattle.dts_clocks.specs.References.{reference}

-- the binding of a provider by itself
unfoldable pub own_binding : SeenNode → Option SeenBinding
own_binding node = if is_provider node then result_ok (binding_of node) else None

-- the binding of a node that is a provider and isn't passed over
unfoldable pub binding_at : List SeenNode → ℕ → Option SeenBinding
binding_at nodes k = if is_passed nodes k then None else option_and_then own_binding (slice_get nodes k)

-- the binding of each node, in order
abbrev pub bindings_of : List SeenNode → List (Option SeenBinding)
bindings_of nodes = listed (binding_at nodes) (length nodes)

-- the bindings that a program has read, one for each node
abbrev pub seen_bindings : List (Option Binding) → List (Option SeenBinding)
seen_bindings bindings = map (option_map seen_binding) bindings

-- a clock with the node of its provider
pub record Held : Type 0 where
  pub node : ℕ
  pub clock : SeenClock

-- a clock of the provider at this place
abbrev pub held_by : ℕ → SeenClock → Held
held_by k clock = record { node = k; clock = clock }

-- the clocks of the node of a place, in the order of their names
unfoldable pub clocks_at : List SeenNode → ℕ → List Held
clocks_at nodes k = option_map_or (λ b. map (held_by k) b.clocks) (binding_at nodes k) []

-- all clocks, in registration order
unfoldable pub clocks_of : List SeenNode → List Held
clocks_of nodes = joined (clocks_at nodes) (length nodes)

-- a specifier names a clock of its provider, by the identifier where it has one
unfoldable pub names_clock : Specifier → Held → Bool
names_clock s c = (c.node == s.node) && option_map_or (λ i. c.clock.identifier == i) s.identifier true

-- a clock by its place
abbrev pub clock_id : ℕ → ClockId
clock_id c = record { 0 = c }

-- the clock that a specifier names
unfoldable pub clock_of : List SeenNode → Specifier → Option ClockId
clock_of nodes s = option_map clock_id (position (names_clock s) (clocks_of nodes))

-- a specifier of a provider, with the identifier where there is one
abbrev pub specifier : ℕ → Option ℕ → Specifier
specifier p identifier = record { node = p; identifier = identifier }

-- the clock of a provider that the cell behind the reference to it identifies; none where that cell is a reference
abbrev pub identified : List SeenNode → ℕ → Cell → Option ClockId
identified nodes p (cells.Number i) = clock_of nodes (specifier p (Some i))
identified nodes p (cells.Node n) = None

-- a null, as None, in front of the clocks that the cells behind it name
abbrev pub with_null : Option (List (Option ClockId)) → Option (List (Option ClockId))
with_null behind = option_map (λ clocks. None ∷ clocks) behind

-- the clock that a specifier names in front of those that the cells behind it name; None where it names no clock
abbrev pub with_clock : Option ClockId → Option (List (Option ClockId)) → Option (List (Option ClockId))
with_clock None behind = None
with_clock (Some clock) behind = option_map (λ clocks. Some clock ∷ clocks) behind

-- the clocks that cells name, one specifier behind another: a null, a provider alone, or a provider and the identifier of its clock;
-- None where a specifier can't be read, or names no clock
unfoldable pub clocks_named : List SeenNode → List Cell → Option (List (Option ClockId))
clocks_named nodes [] = Some []
clocks_named nodes (cell ∷ []) =
    elim (reference nodes cell) [
      | Null ↦ with_null (Some [])
      | Whole p ↦ with_clock (clock_of nodes (specifier p None)) (Some [])
      | Begun p ↦ None
      | Lacking ↦ None
    ]
clocks_named nodes (cell ∷ next ∷ rest) =
    elim (reference nodes cell) [
      | Null ↦ with_null (clocks_named nodes (next ∷ rest))
      | Whole p ↦ with_clock (clock_of nodes (specifier p None)) (clocks_named nodes (next ∷ rest))
      | Begun p ↦ with_clock (identified nodes p next) (clocks_named nodes rest)
      | Lacking ↦ None
    ]
