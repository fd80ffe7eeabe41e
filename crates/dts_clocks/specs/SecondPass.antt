-- The second look at a node: the clocks that its specifiers name, or its fault.
use Rattle.std.specs.Prelude.{ℕ, ◌+◌, ◌||◌, Bool, nat_lt, if◌then◌else◌, Option, Some, None, List, [], ◌∷◌, length, slice_get}
use Rattle.std.specs.List.{list_all}
use Rattle.std.specs.Option.{option_and_then, option_map, option_map_or}
use Rattle.clk_base.specs.declared.clock.ClockId.{ClockId}
use Rattle.clk_base.specs.Valid.{can_have_parents}
use Rattle.dts_tree.specs.Tree.{SeenNode}
use Rattle.dts_bindings.specs.Binding.{SeenBinding}
use Rattle.dts_bindings.specs.Clocks.{SeenClock}
use Rattle.dts_clocks.specs.declared.fault.DtsFault.{DtsFault}
use Rattle.dts_clocks.specs.declared.fault.DtsFault.TheVariants.{BadSpecifier, BadAssigned}
use Rattle.dts_clocks.specs.declared.second_pass.Links as read
use Rattle.dts_clocks.specs.Above.{is_passed}
use Rattle.dts_clocks.specs.Assigned.{Lists, seen_lists, lists_of, entries, is_too_long, lacks_clocks}
use Rattle.dts_clocks.specs.Clocks.{binding_at, clocks_named}
use Rattle.dts_clocks.specs.Consumers.{SeenConsumer, seen_consumer, consumer_of}
use Rattle.dts_clocks.specs.Joined.{total}

-- the most entries of assigned clocks
abbrev pub most_entries : ℕ
most_entries = 4096

-- the clocks, where none is a null
unfoldable pub all_there : List (Option ClockId) → Option (List ClockId)
all_there [] = Some []
all_there (None ∷ clocks) = None
all_there (Some c ∷ clocks) = option_map (λ rest. c ∷ rest) (all_there clocks)

-- as many possible parents as each of the clocks can have
abbrev pub fitting : List SeenClock → List ClockId → Option (List ClockId)
fitting clocks parents = if list_all (λ c. can_have_parents c.kind (length parents)) clocks then Some parents else None

-- the possible parents of a provider's clocks
unfoldable pub parents_of : List SeenNode → SeenBinding → Option (List ClockId)
parents_of nodes b = option_and_then (fitting b.clocks) (option_and_then all_there (clocks_named nodes b.inputs))

-- the possible parents of the clocks of the node of a place; none where it isn't a provider
unfoldable pub parents_at : List SeenNode → ℕ → Option (List ClockId)
parents_at nodes k = option_map_or (parents_of nodes) (binding_at nodes k) (Some [])

-- what the specifiers of a node say
pub record Links : Type 0 where
  pub parents : List ClockId
  pub consumer : Option SeenConsumer
  pub lists : Lists

-- what a program has read of the specifiers of a node
abbrev pub seen_links : read.Links → Links
seen_links l = record { parents = l.parents.items; consumer = option_map seen_consumer l.consumer; lists = seen_lists l.lists }

-- what the specifiers of a node say; None where one of them is bad
unfoldable pub links_of : List SeenNode → ℕ → SeenNode → Option Links
links_of nodes k node =
    option_and_then (λ parents. option_and_then (λ consumer. option_map (λ lists. record { parents = parents; consumer = consumer; lists = lists }) (lists_of nodes node)) (consumer_of nodes k node))
    (parents_at nodes k)

-- what the specifiers of the node of a place say; None where one of them is bad, or the node is passed over
unfoldable pub links_at : List SeenNode → ℕ → Option Links
links_at nodes k = if is_passed nodes k then None else option_and_then (links_of nodes k) (slice_get nodes k)

-- the entries of the node of a place
unfoldable pub entries_at : List SeenNode → ℕ → ℕ
entries_at nodes k = option_map_or (λ l. entries l.lists) (links_at nodes k) 0

-- the fault of the assigned clocks: a list without them or longer than they are, or too many entries up to this node
unfoldable pub is_bad_assigned : List SeenNode → ℕ → SeenNode → Lists → Bool
is_bad_assigned nodes k node l = is_too_long l || lacks_clocks node || nat_lt most_entries (total (entries_at nodes) (k + 1))

-- the fault of a node whose specifiers say this
abbrev pub links_fault : List SeenNode → ℕ → SeenNode → Option Links → Option DtsFault
links_fault nodes k node None = Some (BadSpecifier node.line)
links_fault nodes k node (Some l) = if is_bad_assigned nodes k node l.lists then Some (BadAssigned node.line) else None

-- the fault that the second look at the node of a place finds
unfoldable pub second_fault : List SeenNode → ℕ → Option DtsFault
second_fault nodes k = if is_passed nodes k then None else option_and_then (λ node. links_fault nodes k node (links_of nodes k node)) (slice_get nodes k)
