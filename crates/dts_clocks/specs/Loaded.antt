-- What a tree without a fault says: the description, the lines of its clocks, the consumers, and what is assigned.
use Rattle.std.specs.Prelude.{ℕ, List, [], length, map, slice_get}
use Rattle.std.specs.Option.{option_map_or, option_to_list}
use Rattle.clk_base.specs.declared.clock.ClockDef.{ClockDef}
use Rattle.clk_base.specs.declared.clock.ClockId.{ClockId}
use Rattle.clk_base.specs.declared.flags.ClkFlags.{ClkFlags}
use Rattle.clk_base.specs.Description.{Description}
use Rattle.clk_base.specs.Places.{places}
use Rattle.dts_tree.specs.Tree.{SeenNode}
use Rattle.dts_bindings.specs.Binding.{SeenBinding}
use Rattle.dts_bindings.specs.Clocks.{SeenClock}
use Rattle.dts_clocks.specs.declared.loaded.Loaded.{Loaded}
use Rattle.dts_clocks.specs.Assigned.{SeenAssigned, seen_assigned, assigned_of}
use Rattle.dts_clocks.specs.Clocks.{binding_at}
use Rattle.dts_clocks.specs.Consumers.{SeenConsumer, seen_consumer}
use Rattle.dts_clocks.specs.Joined.{joined}
use Rattle.dts_clocks.specs.SecondPass.{links_at}

-- what was read of a tree
pub record SeenLoaded : Type 0 where
  pub defs : Description
  pub lines : List ℕ
  pub consumers : List SeenConsumer
  pub assigned : List SeenAssigned

-- what a program has read of a tree
abbrev pub seen_loaded : Loaded → SeenLoaded
seen_loaded l = record { defs = l.desc; lines = l.lines.items; consumers = map seen_consumer l.consumers.items; assigned = map seen_assigned l.assigned.items }

-- a clock's record
abbrev pub def_with : ClkFlags → List ClockId → SeenClock → ClockDef
def_with flags parents c = record { name = c.name; kind = c.kind; flags = flags; parents = places parents }

-- the records of the clocks of a binding
abbrev pub defs_with : List ClockId → SeenBinding → List ClockDef
defs_with parents b = map (def_with b.flags parents) b.clocks

-- the records of the clocks of the node of a place
unfoldable pub defs_at : List SeenNode → ℕ → List ClockDef
defs_at nodes k = option_map_or (λ l. option_map_or (defs_with l.parents) (binding_at nodes k) []) (links_at nodes k) []

-- the line of a node, once for each clock of its binding
abbrev pub lines_with : ℕ → SeenBinding → List ℕ
lines_with line b = map (λ c. line) b.clocks

-- the line of the node of a place, once for each of its clocks
unfoldable pub lines_at : List SeenNode → ℕ → List ℕ
lines_at nodes k =
    option_map_or (λ l. option_map_or (λ node. option_map_or (lines_with node.line) (binding_at nodes k) []) (slice_get nodes k) []) (links_at nodes k) []

-- the consumer that the node of a place is
unfoldable pub consumers_at : List SeenNode → ℕ → List SeenConsumer
consumers_at nodes k = option_map_or (λ l. option_to_list l.consumer) (links_at nodes k) []

-- what the node of a place assigns
unfoldable pub assigned_at : List SeenNode → ℕ → List SeenAssigned
assigned_at nodes k = option_map_or (λ l. option_map_or (λ node. option_to_list (assigned_of node l.lists)) (slice_get nodes k) []) (links_at nodes k) []

-- what the nodes before a place say
unfoldable pub loaded_before : List SeenNode → ℕ → SeenLoaded
loaded_before nodes k =
    record {
      defs = joined (defs_at nodes) k;
      lines = joined (lines_at nodes) k;
      consumers = joined (consumers_at nodes) k;
      assigned = joined (assigned_at nodes) k;
    }

-- what the tree says
abbrev pub loaded_of : List SeenNode → SeenLoaded
loaded_of nodes = loaded_before nodes (length nodes)
