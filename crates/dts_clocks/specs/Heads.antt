-- What tells a clock from others: its provider's node and its identifier there.
use Rattle.std.specs.Prelude.{ℕ, ◌==◌, ◌&&◌, Bool, true, nat_eq, Option, Some, None, List, [], map}
use Rattle.std.specs.Option.{option_eq, option_map_or}
use Rattle.dts_bindings.specs.declared.bound.Binding.{Binding}
use Rattle.dts_bindings.specs.declared.bound.BoundClock.{BoundClock}
use Rattle.dts_clocks.specs.declared.numbers.Head.{Head}
use Rattle.dts_clocks.specs.declared.reference.Specifier.{Specifier}
use Rattle.dts_clocks.specs.Clocks.{Held}

-- the same node, and the same identifier or none
abbrev pub same_specifier : Specifier → Specifier → Bool
same_specifier a b = (a.node == b.node) && option_eq nat_eq a.identifier b.identifier

-- the head of a clock of this node's binding
abbrev pub head_by : ℕ → BoundClock → Head
head_by node c = record { node = node; identifier = c.identifier }

-- the head of a clock that a provider has
abbrev pub head_of : Held → Head
head_of c = record { node = c.node; identifier = c.clock.identifier }

-- the heads of the clocks of a node
abbrev pub heads_by : ℕ → Option Binding → List Head
heads_by node None = []
heads_by node (Some b) = map (head_by node) b.clocks.items

-- a specifier names a clock of its provider, by the identifier where it has one
unfoldable pub names_head : Specifier → Head → Bool
names_head s h = (h.node == s.node) && option_map_or (λ i. h.identifier == i) s.identifier true
