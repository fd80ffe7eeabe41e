-- The consumers: the nodes that name clocks and are no providers.
use Rattle.std.specs.Prelude.{ℕ, ◌+◌, nat_le, if◌then◌else◌, Option, Some, None, List, [], ◌∷◌, length, map, slice_get, codes, string_bytes}
use Rattle.std.specs.Fmt.{decimal}
use Rattle.std.specs.Option.{option_and_then, option_map, unwrap_or}
use Rattle.clk_base.specs.declared.clock.ClockId.{ClockId}
use Rattle.dts_tree.specs.Tree.{SeenNode}
use Rattle.dts_bindings.specs.Properties.{is_consumer}
use Rattle.dts_bindings.specs.Properties.{values_of, cells_in, texts_in}
use Rattle.dts_clocks.specs.declared.loaded.Consumer.{Consumer}
use Rattle.dts_clocks.specs.declared.loaded.ConsumerName.{ConsumerName}
use Rattle.dts_clocks.specs.Above.{path_of}
use Rattle.dts_clocks.specs.Clocks.{clocks_named}

-- a name of a consumer, and the clock that it means, if any
pub record SeenName : Type 0 where
  pub name : List ℕ
  pub clock : Option ClockId

-- a consumer's path, and its names in the order of its specifiers
pub record SeenConsumer : Type 0 where
  pub path : List ℕ
  pub names : List SeenName

-- the name that a program has read
abbrev pub seen_name : ConsumerName → SeenName
seen_name n = record { name = string_bytes n.name; clock = n.clock }

-- the consumer that a program has read
abbrev pub seen_consumer : Consumer → SeenConsumer
seen_consumer c = record { path = string_bytes c.path; names = map seen_name c.names.items }

-- the clocks that the cells of a property name
unfoldable pub clocks_in : List SeenNode → List ℕ → SeenNode → Option (List (Option ClockId))
clocks_in nodes name node = option_and_then (clocks_named nodes) (cells_in (values_of name node))

-- the k-th string, else k in decimal
abbrev pub name_at : List (List ℕ) → ℕ → List ℕ
name_at texts k = unwrap_or (slice_get texts k) (decimal k)

-- clocks with their names, the first of them the k-th
abbrev pub named : List (List ℕ) → ℕ → List (Option ClockId) → List SeenName
named texts k [] = []
named texts k (clock ∷ clocks) = record { name = name_at texts k; clock = clock } ∷ named texts (k + 1) clocks

-- the clocks with their names, where there are no more strings than clocks
abbrev pub named_by : List (Option ClockId) → List (List ℕ) → Option (List SeenName)
named_by clocks texts = if nat_le (length texts) (length clocks) then Some (named texts 0 clocks) else None

-- a consumer's names
unfoldable pub names_of : List SeenNode → SeenNode → Option (List SeenName)
names_of nodes node =
    option_and_then (λ clocks. option_and_then (named_by clocks) (texts_in (values_of (codes "clock-names") node))) (clocks_in nodes (codes "clocks") node)

-- the consumer that a node is, if it is one; None where a specifier is bad, or names are left over
unfoldable pub consumer_of : List SeenNode → ℕ → SeenNode → Option (Option SeenConsumer)
consumer_of nodes k node =
    if is_consumer node then option_map (λ names. Some (record { path = path_of nodes k; names = names })) (names_of nodes node) else Some None
